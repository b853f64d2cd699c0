-- The laws of the run and of the answers; and that each call has one answer.
pub mod Run
pub mod Calls
pub mod Answers
pub mod Once
