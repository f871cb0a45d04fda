pub use Rattle.octets.specs.Bytes
pub mod Field
pub mod SubstitutionBox
pub mod KeySchedule
pub mod Cipher
pub mod Words
