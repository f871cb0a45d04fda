pub mod Made
pub mod Bags
pub mod Registers
pub mod Pasts
pub mod Settings
pub mod Hosts
