pub mod Keep
pub mod Chances
pub mod Offers
pub mod Chain
pub mod Gists
pub mod Adds
