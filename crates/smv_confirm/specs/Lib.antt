pub mod Cases
pub mod Confirmations
pub mod Ready
