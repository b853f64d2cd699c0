-- Reading has one answer, and worked texts.
pub mod Once
pub mod TextExamples
