pub mod Layout
pub mod Keys
pub mod Rules
pub mod Entries
pub mod Actions
pub mod Prefixes
