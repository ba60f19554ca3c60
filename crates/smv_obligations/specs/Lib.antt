pub mod Shared
pub mod Demands
