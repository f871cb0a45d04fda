pub mod Kept
pub mod Basics
pub mod Grows
pub mod Clients
pub mod NewSession
pub mod Restated
pub mod OwnKept
pub mod MakeKept
pub mod DrawKept
pub mod JudgeKept
pub mod ForgetKept
pub mod AnswerKept
pub mod SpeakKept
pub mod LoseKept
pub mod Sends
pub mod FirstKept
pub mod SendKept
pub mod Taker
pub mod Heard
pub mod Learnt
pub mod HearKept
pub mod AfterAll
mod Extended
pub mod OnceKept
pub mod SafeKept
mod Makes
mod Given
mod Rising
mod Unless
mod Left
mod Equal
mod ClientTests
mod ServerTests
mod Tests
mod Runs
mod Stays
mod Lasts
mod OddRuns
pub mod Apart
