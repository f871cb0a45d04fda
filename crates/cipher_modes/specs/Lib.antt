pub mod Ige
pub mod CounterMode
pub mod Below
