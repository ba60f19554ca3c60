pub mod Monitored
pub mod Laws
