pub mod Texts
pub mod Steps
pub mod Longs
pub mod Numbers
pub mod Strings
pub mod Vectors
pub mod Fronts
pub mod Sizes
