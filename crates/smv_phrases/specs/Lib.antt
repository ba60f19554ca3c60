pub mod Extents
pub mod Seen
pub mod Stages
pub mod Defined
