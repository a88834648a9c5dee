pub mod Bytes
pub mod Kinds
pub mod Weights
pub mod File
pub mod Meaning
