pub mod Keys
pub mod Rings
pub mod KeyFile
pub mod Words
