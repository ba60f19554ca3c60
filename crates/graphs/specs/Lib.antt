pub mod Graph
pub mod Ranks
pub mod Placed
