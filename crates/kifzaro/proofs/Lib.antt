pub mod ClientLemmas
pub mod DecidedLemmas
pub mod HearingLemmas
pub mod PollLemmas
pub mod QueueLemmas
pub mod RequestLemmas
pub mod ServerLemmas
pub mod FittingLemmas
