pub mod Scheme
pub mod LentBytes
pub mod Theorems
