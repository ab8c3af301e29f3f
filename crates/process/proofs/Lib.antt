pub mod Bounds
pub mod ByNumber
pub mod Filled
pub mod Formed
pub mod Gaps
pub mod Membership
pub mod Ordered
