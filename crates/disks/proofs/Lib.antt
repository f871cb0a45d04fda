pub mod Moments
pub mod CrashLemmas
pub mod LostLemmas
pub mod HeldLemmas
