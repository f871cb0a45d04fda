pub mod Bytes
pub mod Opened
pub mod BindingTexts
pub mod Bound
