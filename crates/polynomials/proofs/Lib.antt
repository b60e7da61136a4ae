pub mod Carryless
pub mod Holes
pub mod Karatsuba
pub mod Modulo
