pub mod Clamps
pub mod Pixels
pub mod Wholes
