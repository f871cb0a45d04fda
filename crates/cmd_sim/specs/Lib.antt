pub mod KeysOfSim
pub mod Words
pub mod Worlds
pub mod Sim
pub mod Load
pub mod Runs
pub mod Inner
