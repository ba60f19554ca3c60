pub mod Reading
pub mod Alike
pub mod Placeless
pub mod Known
