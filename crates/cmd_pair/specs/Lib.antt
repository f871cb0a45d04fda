pub mod Servers
pub mod Checks
pub mod Batches
pub mod Runs
pub mod Inner
