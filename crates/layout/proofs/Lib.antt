pub mod Comparison
pub mod Check
pub mod Examples
pub mod Parts
pub mod Written
pub mod Theorems
