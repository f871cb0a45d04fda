pub mod KeyLemmas
pub mod Submitting
pub mod TableLemmas
pub mod BatchLemmas
pub mod Steps
pub mod Taken
pub mod Ends
