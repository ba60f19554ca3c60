pub mod Leaves
pub mod Met
pub mod Forms
pub mod Layers
pub mod Places
pub mod Roles
pub mod Items
pub mod Connections
