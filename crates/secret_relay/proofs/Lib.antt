pub mod Plain
pub mod Every
pub mod Readings
pub mod Looks
pub mod Outcomes
pub mod Goes
pub mod Phases
