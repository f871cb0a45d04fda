pub mod Given
pub mod Loading
pub mod Plain
