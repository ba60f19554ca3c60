pub mod Lists
pub mod Indexes
pub mod Outcomes
pub mod RightSides
pub mod Results
pub mod Demands
