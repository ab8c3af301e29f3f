pub mod Entries
pub mod Filling
pub mod Verdicts
