pub mod Blocks
pub mod Counter
pub mod Fronts
pub mod Ring
pub mod Horner
pub mod Halves
pub mod BlockWords
pub mod Theorems
