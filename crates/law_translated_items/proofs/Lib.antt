pub mod Standing
pub mod Reading
pub mod Bound
pub mod Exchanging
pub mod Trees
pub mod Items
pub mod Tops
