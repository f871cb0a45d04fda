pub mod TestLemmas
pub mod DraftLemmas
pub mod SettledLemmas
pub mod AcceptanceLemmas
pub mod JudgeLemmas
