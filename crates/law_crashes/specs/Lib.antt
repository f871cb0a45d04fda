pub mod Records
pub mod Crashes
pub mod Premises
pub mod Reached
pub mod Witness
