pub mod Xor
pub mod Bytes
pub mod Cipher
pub mod One
pub mod Call
pub mod Message
pub mod Inner
pub mod Theorems
