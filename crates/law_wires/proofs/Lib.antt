pub mod Tests
pub mod Put
pub mod Tried
pub mod Allows
pub mod Unread
pub mod Wired
