pub mod Reach
pub mod ReachLemmas
pub mod Ring
pub mod Searches
