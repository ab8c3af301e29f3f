pub mod Asking
pub mod Models
pub mod Rules
pub mod Sound
