pub mod Rows
pub mod Needed
pub mod Line
pub mod Future
pub mod Held
