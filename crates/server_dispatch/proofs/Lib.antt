pub mod Steps
pub mod Bound
pub mod Once
pub mod Queries
pub mod Accepting
pub mod DropLemmas
pub mod Follows
pub mod Using
