pub mod ScaleOffsets
pub mod Flats
pub mod Widened
