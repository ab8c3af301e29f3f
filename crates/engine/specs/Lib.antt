pub mod Counts
pub mod Lines
pub mod Questions
pub mod Runs
pub mod SetUps
pub mod Steps
pub mod Verdicts
