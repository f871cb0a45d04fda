pub mod BagLemmas
pub mod Serving
pub mod Heard
pub mod Moments
