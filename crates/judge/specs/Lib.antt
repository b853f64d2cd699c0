-- The answer of a judgement.
pub mod Answers
