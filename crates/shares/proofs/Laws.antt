-- The laws of the words of shares.
pub mod Words
