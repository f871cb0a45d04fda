pub mod Starts
pub mod Streams
pub mod Reads
