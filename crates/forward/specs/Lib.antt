pub mod Forward
pub mod Call
pub mod Expanded
pub mod Inner
pub mod Theorems
