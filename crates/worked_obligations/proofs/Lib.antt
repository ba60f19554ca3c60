pub mod WorkedMachine
pub mod WorkedMaps
pub mod WorkedMutual
pub mod WorkedPlans
pub mod WorkedRules
pub mod WorkedSplit
pub mod WorkedRead
