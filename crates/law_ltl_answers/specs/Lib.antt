pub mod Dues
pub mod Laws
