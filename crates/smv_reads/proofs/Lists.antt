-- Lists that are made of lists, and variables that are bound.
use Rattle.std.proofs.Common.{◌≡◌, ℕ, List, [], ◌∷◌, ◌++◌, take, ap, ◌∙◌}
use Rattle.std.proofs.lemmas.List.{map-append}
use Rattle.law_lists.proofs.Lists.{map-take}
use Rattle.law_obligations.specs.Places.{bind_place}
use Rattle.smv_spots.specs.declared.spots.Spot.{Spot}
use Rattle.smv_reads.specs.declared.bindings.View.{View}
use Rattle.smv_reads.specs.Views.{place_in, places, bind_spot}

-- one more variable
pub bound-places : (v : View) (b : List Spot) (var : ℕ) (p : Spot) → places v (bind_spot b var p) ≡ bind_place (places v b) var (place_in v p)
bound-places v b var p = map-append (place_in v) (take var b) (p ∷ []) ∙ ap (λ ps. ps ++ place_in v p ∷ []) (map-take (place_in v) var b)
