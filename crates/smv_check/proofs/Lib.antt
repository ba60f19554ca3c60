pub mod Fits
pub mod Walks
pub mod Judged
pub mod Leaves
pub mod Told
