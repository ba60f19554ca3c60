pub mod States
pub mod StateBits
