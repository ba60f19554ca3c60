pub mod Encoded
pub mod Coded
pub mod ChosenDemands
pub mod Parts
pub mod Laws
