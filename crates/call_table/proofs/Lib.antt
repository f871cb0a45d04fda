pub mod PlaceLemmas
pub mod GroupLemmas
pub mod IndexLemmas
pub mod StandsLemmas
pub mod HeldLemmas
pub mod LawLemmas
pub mod NumberLemmas
