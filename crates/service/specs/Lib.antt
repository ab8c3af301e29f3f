pub mod Answers
pub mod Entries
pub mod OrderFiles
pub mod Piles
pub mod Waits
pub mod EntriesLemmas
pub mod PilesLemmas
