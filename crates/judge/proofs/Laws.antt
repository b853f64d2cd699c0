-- The laws of the answers, and that there is one answer.
pub mod Answers
pub mod Once
