pub mod Values
pub mod ClientValues
pub mod ServerValues
