pub mod Numbers
pub mod Heads
pub mod Standing
pub mod Onward
pub mod Olds
