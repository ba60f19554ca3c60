pub mod Variables
pub mod Leaves
pub mod SplitFaults
pub mod SplitLaws
pub mod Chains
