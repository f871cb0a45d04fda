pub mod Simple
pub mod Values
pub mod Says
pub mod Pages
pub mod Inner
