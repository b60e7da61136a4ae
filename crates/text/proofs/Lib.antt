-- Laws of this crate's definitions. `Digits`: the two directions of hexadecimal undo each other. `Parts`: a line goes on part by part.
pub mod Digits
pub mod Parts
pub mod Theorems
