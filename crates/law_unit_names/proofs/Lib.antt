mod Words
mod Trees
mod Rules
mod Paths
mod NamedEntries
mod Dotted
mod Units
