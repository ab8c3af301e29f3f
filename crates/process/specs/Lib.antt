pub mod Drafts
pub mod Left
pub mod Numbered
pub mod Processes
pub mod Rows
pub mod Sets
