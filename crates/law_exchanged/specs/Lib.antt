pub mod Changed
pub mod Claims
pub mod Laws
