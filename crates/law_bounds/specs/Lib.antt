pub mod BoundsHold
pub mod ConstantsStay
