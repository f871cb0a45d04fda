pub mod FateLemmas
pub mod MarkLemmas
pub mod OldestLemmas
pub mod RepeatLemmas
pub mod ResultLemmas
pub mod Turning
pub mod UnsaidLemmas
