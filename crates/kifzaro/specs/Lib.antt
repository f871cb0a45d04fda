pub mod Errors
pub mod Rooms
pub mod Fitting
pub mod Drawing
pub mod Clients
pub mod Holding
pub mod Queues
pub mod Servers
