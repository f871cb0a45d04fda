pub mod Replay
pub mod Files
pub mod Back
pub mod Histories
pub mod Keeping
pub mod Opening
pub mod Playing
pub mod Staging
