pub mod Layout
pub mod Finding
pub mod Inner
pub mod Theorems
