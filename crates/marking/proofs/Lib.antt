pub mod Counting
pub mod Deciding
pub mod Numbers
pub mod Pairs
pub mod Readiness
pub mod Taking
