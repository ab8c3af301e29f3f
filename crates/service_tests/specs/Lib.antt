pub mod Sound
pub mod Waiting
