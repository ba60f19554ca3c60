pub mod Tries
pub mod Idle
pub mod Laws
pub mod Worked
