pub mod Leading
pub mod Servers
pub mod Speaking
pub mod Events
pub mod Sending
pub mod Worlds
