pub mod Paths
pub mod Shares
pub mod Graphs
