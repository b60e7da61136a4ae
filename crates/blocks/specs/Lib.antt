pub mod Blocks
pub mod BlockCipher
pub mod Field
pub mod BlockField
pub mod Counter
pub mod Inner
pub mod Theorems
