pub mod Standing
pub mod Made
pub mod Small
pub mod Words
pub mod Served
