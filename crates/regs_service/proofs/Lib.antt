pub mod MapLemmas
pub mod ServedLemmas
pub mod RequestLemmas
