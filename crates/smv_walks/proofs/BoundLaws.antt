-- The bindings inside a `forall`.
use Rattle.std.proofs.Common.{◌≡◌, ℕ, List, ◌++◌, map, sym, ap, ◌∙◌}
use Rattle.std.proofs.lemmas.List.{map-append}
use Rattle.smv_core.specs.declared.flat.Simple.{Simple}
use Rattle.law_obligations.specs.Places.{Place, World, named_in, rests_in, places_in, bind_place}
use Rattle.smv_spots.specs.declared.spots.Spot.{Spot}
use Rattle.smv_spots.specs.Spots.{place_in}

pub all_bound : (w : World) (b : List Place) (var : ℕ) (over : Simple) (named rests inners : List (List Spot)) → inners ≡ named ++ rests → map (map (place_in w.classes)) named ≡ map (bind_place b var) (named_in w over) → map (map (place_in w.classes)) rests ≡ map (bind_place b var) (rests_in w over) →
    map (map (place_in w.classes)) inners ≡ map (bind_place b var) (places_in w over)
all_bound w b var over named rests inners e f g =
    ap (map (map (place_in w.classes))) e
    ∙ (map-append (map (place_in w.classes)) named rests
    ∙ (ap (λ l. l ++ map (map (place_in w.classes)) rests) f ∙ (ap (λ l. map (bind_place b var) (named_in w over) ++ l) g ∙ sym (map-append (bind_place b var) (named_in w over) (rests_in w over)))))
