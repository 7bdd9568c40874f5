mod Bytes
pub mod Reading
mod Refusals
mod Runs
