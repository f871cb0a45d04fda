pub mod Moments
pub mod Counters
pub mod Run
