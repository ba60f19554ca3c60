pub mod LeafLaws
pub mod MetLaws
pub mod LayerLaws
pub mod PlaceLaws
pub mod RoleLaws
pub mod ItemLaws
pub mod ConnectionLaws
pub mod FlatLaws
