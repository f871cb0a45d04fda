pub mod TestLemmas
pub mod NeededLemmas
pub mod HeldLemmas
pub mod StandsLemmas
pub mod FutureLemmas
pub mod LawLemmas
