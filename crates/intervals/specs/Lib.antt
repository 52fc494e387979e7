pub mod Ends
pub mod Bounds
pub mod Lists
pub mod Walks
pub mod Checks
pub mod Cases
