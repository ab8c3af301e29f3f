pub mod Paths
pub mod Links
pub mod Tables
pub mod Levels
pub mod Reasons
pub mod Routings
pub mod Worked
