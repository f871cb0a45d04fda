pub mod PlaceLemmas
pub mod RemoveLemmas
pub mod OrderLemmas
pub mod Halves
