pub mod Derivation
pub mod Messages
pub mod Checking
pub mod Below
