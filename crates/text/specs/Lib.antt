pub mod Hex
pub mod Part
pub mod Inner
pub mod Theorems
