-- What the test of refusal 11 finds out, record by record, and what a passed test says.
pub mod Records
