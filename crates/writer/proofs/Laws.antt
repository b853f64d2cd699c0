-- The laws of the text, the answers of a writing, and that its promise determines them.
pub mod Sections
pub mod Text
pub mod Writes
pub mod Once
