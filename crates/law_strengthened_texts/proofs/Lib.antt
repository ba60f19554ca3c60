pub mod Counting
pub mod Placing
pub mod Fresh
pub mod Lengths
