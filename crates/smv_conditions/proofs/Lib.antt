pub mod OfferLaws
pub mod ChainLaws
pub mod AddLaws
pub mod MergeLaws
