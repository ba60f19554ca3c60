-- The instances of a list of mentions, one behind the other.
use Rattle.std.proofs.Common.{◌≡◌, List, [], ◌∷◌, ◌++◌, refl}
use Rattle.smv_mentions.specs.Mentions.{Mention, declares, binds, follows, names_type, lists_constants, has_fields, instantiates}
use Rattle.smv_mentions.specs.NameFaults.{used_in}

pub used_first : (mention : Mention) (mentions : List Mention) → used_in (mention ∷ mentions) ≡ used_in (mention ∷ []) ++ used_in mentions
used_first (instantiates word args) mentions = refl
used_first (declares word what) mentions = refl
used_first (binds around var) mentions = refl
used_first (follows around parts) mentions = refl
used_first (names_type word) mentions = refl
used_first (lists_constants words) mentions = refl
used_first (has_fields words) mentions = refl
