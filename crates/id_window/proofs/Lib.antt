pub mod PlaceLemmas
pub mod CrossingLemmas
pub mod OrderLemmas
pub mod InOrderLemmas
pub mod HistoryLemmas
pub mod WindowLemmas
pub mod LawLemmas
