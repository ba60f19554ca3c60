pub mod Diagram
pub mod Beads
pub mod Graph
pub mod Seen
pub mod Chains
pub mod Steps
pub mod Results
pub mod Sure
