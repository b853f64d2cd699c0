-- The laws of the definitions, what is proved of them and of the refusals, and the examples.
pub mod Laws
pub mod Theorems
pub mod RefusalTheorems
pub mod Examples
