pub mod GivenLemmas
pub mod PlainClients
pub mod PlainTaking
pub mod PlainFilling
pub mod PlainFlushes
pub mod PlainWorlds
pub mod LoadSteps
