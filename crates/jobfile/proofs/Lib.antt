pub mod Runs
pub mod Exact
mod Sorts
pub mod Unique
pub mod Cut
