pub mod Cuts
pub mod Numbers
pub mod Parts
pub mod Rows
pub mod Reading
pub mod Text
pub mod BadLines
