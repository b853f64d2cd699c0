-- Reading and writing undo each other: the words of the theorems.
pub mod Texts
pub mod Made
