pub mod Collected
pub mod Choosing
pub mod Counted
