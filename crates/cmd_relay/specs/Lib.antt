pub mod Captures
pub mod Relays
pub mod Runs
pub mod Inner
