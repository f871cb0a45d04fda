pub mod Packets
pub mod Connections
pub mod Journals
pub mod Lines
pub mod Runs
pub mod Inner
