pub mod ReadBack
pub mod Lending
