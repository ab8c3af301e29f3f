pub mod Chains
pub mod Checks
pub mod First
pub mod Judging
pub mod Reaching
