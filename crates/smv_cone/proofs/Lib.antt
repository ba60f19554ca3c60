pub mod SpotLaws
pub mod InstanceLaws
pub mod BeginLaws
pub mod SearchLaws
pub mod Views
pub mod Ends
