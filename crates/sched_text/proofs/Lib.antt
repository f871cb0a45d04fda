pub mod Steps
pub mod Pieces
pub mod Numbers
pub mod Hexes
pub mod Meanings
pub mod Spelled
pub mod Readings
pub mod Requests
