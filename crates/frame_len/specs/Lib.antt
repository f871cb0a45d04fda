pub mod Lengths
pub mod Reading
pub mod Heads
pub mod Lawful
