pub mod Faults
pub mod Types
pub mod Growing
pub mod Slots
pub mod Laws
