pub mod Schemes
pub mod Laws
