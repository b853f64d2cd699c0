-- The definitions, a file or two for a section of docs/SPECIFICATION.md (sections 4 and 7 are in the crate `data`).
pub mod Routine
pub mod Lines
pub mod Reading
pub mod Writing
pub mod Running
pub mod Padding
pub mod Judgements
pub mod Starts
pub mod Worth
pub mod Lent
pub mod Desk
