-- What a call answers of a listing it answers of the list, and once.
pub mod Same
pub mod Once
