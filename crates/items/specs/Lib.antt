pub mod Codes
pub mod Reads
