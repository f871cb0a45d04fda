pub mod Format
pub mod Crashes
pub mod Seen
pub mod Standing
pub mod Calls
pub mod Steps
