pub mod Line
pub mod Inner
pub mod Input
pub mod Theorems
