pub mod Anys
pub mod Booleans
pub mod Each
pub mod Lists
pub mod Numbers
pub mod Options
pub mod Places
