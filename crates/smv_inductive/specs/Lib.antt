pub mod Runs
pub mod Halves
pub mod Laws
pub mod Order
