pub mod Crash
pub mod Told
pub mod Named
pub mod Held
pub mod Placed
