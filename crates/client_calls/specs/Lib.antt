pub mod Answered
pub mod Marks
pub mod Rules
pub mod Sound
