pub mod Keys
pub mod Worlds
pub mod Told
pub mod Drawn
pub mod Families
