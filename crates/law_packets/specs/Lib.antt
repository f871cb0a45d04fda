pub mod Steady
pub mod Lawful
