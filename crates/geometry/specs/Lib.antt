pub mod Points
pub mod Boxes
