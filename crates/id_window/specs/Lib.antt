pub mod Marks
pub mod History
pub mod Crossing
pub mod Window
pub mod Places
