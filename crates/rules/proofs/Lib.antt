pub mod Fields
pub mod Testing
pub mod Goods
pub mod Going
pub mod Lowest
pub mod Settled
