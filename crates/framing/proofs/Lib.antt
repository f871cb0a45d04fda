pub mod Fronts
pub mod Looking
pub mod Readings
pub mod Steps
