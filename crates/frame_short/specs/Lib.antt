pub mod Abridged
pub mod Heads
pub mod Lawful
