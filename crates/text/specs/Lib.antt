pub mod Bytes
pub mod Numbers
pub mod Pieces
pub mod Texts
pub mod Words
