pub mod Cuts
pub mod Digits
pub mod Parts
pub mod Onwards
pub mod Fronts
pub mod OldDocuments
