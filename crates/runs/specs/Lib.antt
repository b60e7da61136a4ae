pub mod Run
pub mod Sealing
pub mod NotOpened
pub mod Opening
pub mod Inner
pub mod Theorems
