-- The laws of what the desk program prints; a folder beside this file is the proof of the function of its name.
pub mod Laws
