pub mod Aes
pub mod Expanded
pub mod Inner
pub mod Theorems
