pub mod Words
pub mod Tests
pub mod Blocks
pub mod Lowest
pub mod Counting
pub mod Walked
pub mod Symbols
