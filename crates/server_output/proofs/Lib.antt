pub mod Rows
pub mod Sizes
pub mod Counts
pub mod Left
pub mod Sending
pub mod Lent
