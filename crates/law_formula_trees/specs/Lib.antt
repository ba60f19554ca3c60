pub mod Behind
pub mod Placed
pub mod Trees
