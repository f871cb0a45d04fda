pub mod Room
pub mod Marks
