pub mod CarriedRuns
pub mod Units
pub mod TextUnits
pub mod Times
pub mod Claims
pub mod Maps
pub mod SoundTexts
pub mod WorkedTexts
pub mod AgreeingLayers
pub mod TextSizes
pub mod DesignClaims
pub mod DesignMaps
pub mod SoundDesigns
pub mod Agreeing
pub mod Results
pub mod Places
pub mod Faultless
pub mod Stages
pub mod Runs
pub mod LeftSides
pub mod Texts
pub mod FaultlessSides
pub mod Comes
pub mod Free
pub mod Flattened
mod ExactStatements
mod Counts
mod Defined
mod SetNames
pub mod FlatLeftSides
mod WholeExprs
mod WholeDefs
mod Filled
mod Scripts
pub mod FirstFound
pub mod FirstHeads
pub mod SameLayers
pub mod SetSizes
pub mod WorkedText
mod Shallow
mod ShallowForms
mod ShallowRules
mod FlatShallow
mod Items
mod Fitting
mod Limits
mod FewFamilies
mod FewEntries
mod FewConstants
mod WholeText
pub mod Consumed
mod Widths
mod SetTypes
mod Ranges
mod WidthPlaces
