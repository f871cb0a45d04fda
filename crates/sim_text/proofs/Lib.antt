pub mod BagLemmas
pub mod CallLemmas
pub mod SeatLemmas
