pub mod Layouts
pub mod Reading
pub mod Chunks
pub mod ReadBack
