-- Answers that the contracts ask for, computed.
pub mod Worked
