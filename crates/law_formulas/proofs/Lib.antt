pub mod Watching
pub mod Less
pub mod Reading
pub mod Examples
