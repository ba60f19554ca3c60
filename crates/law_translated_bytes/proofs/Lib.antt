pub mod Cuts
pub mod Made
pub mod Narrow
pub mod Spelled
