pub mod Items
pub mod Format
pub mod Notices
