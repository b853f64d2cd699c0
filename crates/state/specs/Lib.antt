-- What the functions of this crate ask of their callers.
pub mod Ceilings
