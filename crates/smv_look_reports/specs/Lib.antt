pub mod Paths
pub mod Dearest
pub mod Cones
pub mod Leans
pub mod Allowed
pub mod Explained
pub mod Cases
