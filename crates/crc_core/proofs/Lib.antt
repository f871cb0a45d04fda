pub mod TableTests
pub mod BitLaws
pub mod Tables
pub mod TextLaws
pub mod WordLaws
