-- What a report promises.
pub mod Reports
