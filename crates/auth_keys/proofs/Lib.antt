mod DigestLemmas
mod LineLemmas
mod NumberLemmas
mod WordLemmas
mod KeyLemmas
mod RingLemmas
mod Readings
