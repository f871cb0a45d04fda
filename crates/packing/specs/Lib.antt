pub mod Numbering
pub mod Packing
