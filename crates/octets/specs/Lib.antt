pub mod Bytes
pub mod Draft
