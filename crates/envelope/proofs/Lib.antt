pub mod PlainTexts
pub mod Openings
pub mod Refusals
pub mod Bytes
pub mod Drawn
pub mod LawfulParts
