pub mod ReplayLemmas
mod BackLemmas
mod DeskLemmas
mod EventLemmas
mod HearLemmas
mod HistoryLemmas
mod NextLemmas
mod OpenLemmas
mod PlayLemmas
mod ResumeLemmas
mod RunLemmas
mod TraitLemmas
