pub mod Packet
pub mod Opening
pub mod Lawful
pub mod Answers
pub mod Lock
pub mod Reading
pub mod Sizes
