pub mod Sent
pub mod Clients
pub mod Leading
pub mod Packets
pub mod Bounds
pub mod Salts
pub mod Due
