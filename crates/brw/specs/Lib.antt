pub mod Brw
pub mod Inner
pub mod Theorems
