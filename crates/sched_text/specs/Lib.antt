pub mod Lines
pub mod Words
pub mod Bodies
pub mod Events
pub mod Schedule
pub mod Speller
pub mod Rests
pub mod Reading
