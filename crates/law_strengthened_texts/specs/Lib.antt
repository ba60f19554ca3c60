pub mod Stronger
pub mod Laws
pub mod Worked
