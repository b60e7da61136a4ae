pub mod Call
pub mod LentBytes
pub mod Scheme
pub mod Examples
pub mod Theorems
