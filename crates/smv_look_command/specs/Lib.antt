pub mod CommandLine
pub mod Queries
