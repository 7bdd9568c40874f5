pub mod Sheet
pub mod Text
