pub mod TypedSpots
