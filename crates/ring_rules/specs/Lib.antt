pub mod Bytes
pub mod Opening
pub mod Sealing
pub mod Binding
