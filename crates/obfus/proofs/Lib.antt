pub mod Parts
pub mod Undone
pub mod Looks
