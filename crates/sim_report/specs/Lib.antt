pub mod Bags
