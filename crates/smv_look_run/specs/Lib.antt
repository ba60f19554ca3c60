pub mod Cases
pub mod Dues
pub mod Models
pub mod Sets
