pub mod Behind
pub mod Digits
pub mod HexLeft
pub mod FromRecord
