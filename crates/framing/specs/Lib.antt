pub mod Payload
pub mod Streams
pub mod Laws
pub mod Looks
pub mod Held
pub mod Holding
pub mod Fields
