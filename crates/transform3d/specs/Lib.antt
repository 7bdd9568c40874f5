pub mod Solids
