pub mod Faults
pub mod Lowest
pub mod Meaning
pub mod Finding
pub mod Lists
pub mod Outcomes
