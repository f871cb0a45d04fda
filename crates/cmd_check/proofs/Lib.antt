pub mod Owing
pub mod Ends
