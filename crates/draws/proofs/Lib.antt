pub mod SeededLemmas
pub mod WordLemmas
pub mod ByteLemmas
