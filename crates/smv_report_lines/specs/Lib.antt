pub mod Generated
pub mod Parts
