-- What the search for the next step goes by.
pub mod Next
pub mod Searching
