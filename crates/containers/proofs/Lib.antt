pub mod Numbers
pub mod Rows
pub mod Fronts
pub mod Places
pub mod Exact
pub mod Items
pub mod Bodies
