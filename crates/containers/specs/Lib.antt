pub mod Container
pub mod Parts
pub mod Lent
pub mod Whole
pub mod Unfolded
