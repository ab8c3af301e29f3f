pub mod Fields
pub mod Lines
pub mod Orders
pub mod Readings
pub mod Writings
