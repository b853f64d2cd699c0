-- What a search of sets in order goes by and finds.
pub mod Search
