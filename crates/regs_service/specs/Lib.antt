pub mod Served
pub mod Requests
pub mod Replies
pub mod Registers
pub mod Kept
