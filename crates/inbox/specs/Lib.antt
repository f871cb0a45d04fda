pub mod Kinds
pub mod Refusals
pub mod Verdicts
pub mod Judging
pub mod Inbox
pub mod States
pub mod Acceptance
pub mod Drafts
