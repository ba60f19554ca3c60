pub mod Before
pub mod Changing
pub mod Pierced
pub mod Exchanged
pub mod Standing
pub mod Bytes
