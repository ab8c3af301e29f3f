pub mod Conditions
pub mod Choices
