pub mod Words
pub mod Readings
pub mod Taking
pub mod Ends
pub mod Pieces
pub mod Owing
