pub mod Cuts
pub mod Joins
pub mod Numerals
mod Operators
mod Scans
pub mod Separators
mod Spellings
pub mod Tokens
mod Writings
