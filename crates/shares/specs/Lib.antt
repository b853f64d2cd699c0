-- What the words of shares hold.
pub mod Words
