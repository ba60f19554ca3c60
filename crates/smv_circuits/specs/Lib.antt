pub mod Circuits
pub mod Readings
pub mod Frames
pub mod Files
