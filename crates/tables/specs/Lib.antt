pub mod Compiling
pub mod Looking
pub mod Meaning
pub mod Indices
pub mod Records
