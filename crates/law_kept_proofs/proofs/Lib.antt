mod Small
mod Proofs
