pub mod Statuses
pub mod Dues
pub mod Laws
