pub mod Entries
pub mod Bag
pub mod Counts
pub mod Clients
pub mod Faults
