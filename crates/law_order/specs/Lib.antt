pub mod After
pub mod Behind
pub mod Going
pub mod Keeping
pub mod Apart
pub mod Given
pub mod Numbers
