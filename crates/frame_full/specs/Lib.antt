pub mod Full
pub mod Heads
pub mod Lawful
