pub mod Table
pub mod Row
pub mod Packed
pub mod Kept
pub mod Held
