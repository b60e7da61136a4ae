pub mod OneBlock
pub mod Admits
pub mod Theorems
pub mod Same
