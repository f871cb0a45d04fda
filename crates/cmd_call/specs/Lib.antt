pub mod Script
pub mod Keys
pub mod Table
pub mod Reading
pub mod Owed
pub mod Runs
pub mod Inner
