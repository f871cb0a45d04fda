pub mod Members
pub mod Xor
