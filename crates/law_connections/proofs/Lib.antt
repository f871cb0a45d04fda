pub mod Worlds
pub mod Steps
pub mod Shown
pub mod Toy
pub mod Runs
