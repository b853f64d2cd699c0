-- What one set of a judgement is grown from, and what is asked of it.
pub mod Growing
