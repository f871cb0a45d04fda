pub mod Acts
pub mod Batches
pub mod Deeds
pub mod Parts
pub mod Joining
pub mod Told
