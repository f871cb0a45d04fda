pub mod Basics
pub mod Quiet
pub mod Own
pub mod Leading
pub mod Sending
pub mod Again
pub mod Flushing
pub mod Filling
pub mod Flushed
pub mod Settling
pub mod Learning
pub mod Hearing
pub mod Heard
pub mod Others
mod Keeping
mod BoundedSending
mod BoundedTaking
mod Bounded
mod Salted
mod Due
