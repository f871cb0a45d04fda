pub mod Spawning
pub mod Owing
pub mod Checking
pub mod Telling
pub mod Readings
pub mod Ends
