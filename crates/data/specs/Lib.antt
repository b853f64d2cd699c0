-- The words that all definitions share, and those of the refusals and of probe sets (sections 7 and 4 of docs/SPECIFICATION.md).
pub mod Basics
pub mod Refusals
pub mod ProbeSets
pub mod Placing
