pub mod Crc32
pub mod Words
