-- what contracts of public calls say
pub mod Limits
pub mod Jobs
pub mod Held
pub mod Answers
-- words of private contracts, which are no promise
pub mod Numbers
pub mod Stamps
pub mod Totals
pub mod Wanted
pub mod Parts
pub mod Owned
pub mod Kept
pub mod Stands
