-- The laws of this crate; a folder beside this file is the proof of the function of its name.
pub mod Answers
pub mod Laws
