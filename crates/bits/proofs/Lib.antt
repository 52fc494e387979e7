pub mod Orders
pub mod Tables
pub mod Masks
pub mod Ones
pub mod Ends
pub mod Differ
