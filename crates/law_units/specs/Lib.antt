pub mod LeafInstances
pub mod TextUnits
