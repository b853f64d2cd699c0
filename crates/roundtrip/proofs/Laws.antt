-- The laws behind the theorems: tests, forms, cuts and line texts; what a line does to a state; what is read, and what is written.
pub mod Tests
pub mod Forms
pub mod Cuts
pub mod LineTexts
pub mod Formed
pub mod Growing
pub mod States
pub mod Shares
pub mod Read
pub mod Written
pub mod Records
