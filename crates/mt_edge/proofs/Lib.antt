pub mod TakeLemmas
pub mod ClockLemmas
pub mod HandLemmas
pub mod NetLemmas
pub mod ReadLemmas
pub mod PutLemmas
