pub mod ChangeLemmas
pub mod FoldLemmas
pub mod MarkLemmas
pub mod RuleLemmas
pub mod SettledLemmas
pub mod SoundLemmas
pub mod WalkLemmas
