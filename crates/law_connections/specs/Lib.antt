pub mod Joint
pub mod Premises
pub mod Keeping
pub mod Witness
pub mod Computed
