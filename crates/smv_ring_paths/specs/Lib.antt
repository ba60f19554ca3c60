pub mod Steps
pub mod BitPaths
