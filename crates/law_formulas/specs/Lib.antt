pub mod Formulas
pub mod Steps
pub mod Monitors
pub mod Ninths
pub mod Laws
pub mod Worked
