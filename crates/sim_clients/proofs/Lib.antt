pub mod FlushLemmas
pub mod OwnerLemmas
pub mod PlaceLemmas
pub mod ReadingLemmas
pub mod SeatLemmas
