pub mod Exclusive
pub mod Moves
pub mod Starts
pub mod Tasks
pub mod Turns
pub mod Waiting
