pub mod Largest
pub mod Clauses
pub mod Parts
pub mod Squares
pub mod Few
pub mod Split
pub mod Words
pub mod Theorems
