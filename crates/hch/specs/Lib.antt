pub mod Hch
pub mod Call
pub mod Expanded
pub mod Inner
pub mod Theorems
