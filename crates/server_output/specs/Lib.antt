pub mod Items
pub mod Dues
pub mod Batch
pub mod Outs
pub mod Course
