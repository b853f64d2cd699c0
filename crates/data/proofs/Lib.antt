-- What proofs over the data share, and the laws of the definitions.
pub mod Listings
pub mod Laws
