pub mod Holding
mod Adding
mod Growing
mod Rings
