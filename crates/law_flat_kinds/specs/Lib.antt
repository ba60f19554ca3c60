pub mod FamiliesFound
