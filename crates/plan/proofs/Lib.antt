pub mod Tails
pub mod Checks
