pub mod Written
pub mod Passing
pub mod Going
pub mod Stories
pub mod Kept
pub mod Links
pub mod Standing
