-- What a comprehension may choose, and what it chooses for certain.
use Rattle.std.specs.Prelude.{◌≡◌, ℕ, List, map, Option, Some, Bool, ◌&&◌, ◌||◌}
use Rattle.std.specs.List.{list_any}
use Rattle.smv_core.specs.declared.flat.FlatExpr.{FlatExpr}
use Rattle.smv_core.specs.declared.flat.Simple.{Simple}
use Rattle.law_obligations.specs.Places.{Place, World, named_in, rests_in, places_in, AbsOutcome, bind_place}
use Rattle.law_obligations.specs.May.{AbsState, Kept}
use Rattle.law_obligations.specs.RightSides.{may_hold, must_hold}
use Rattle.smv_spots.specs.declared.spots.Spot.{Spot}
use Rattle.smv_spots.specs.Spots.{place_in}
use Rattle.smv_conditions.specs.declared.offers.Offer.{Offer}
use Rattle.smv_conditions.specs.Offers.{any_offer, AreOffersMade}
use Rattle.smv_cells.specs.Seen.{View}
use Rattle.smv_sides.specs.declared.choices.Met.{Met}
use Rattle.smv_sides.specs.declared.choices.Choices.{Choices}

pub record IsMetMade {C : Type 0} (IsMade : C → Type 0) (m : Met C) : Type 0 where
  pub may : IsMade m.may
  pub must : IsMade m.must

pub record AreChoicesMade {C : Type 0} (IsMade : C → Type 0) (c : Choices C) : Type 0 where
  pub possible : AreOffersMade IsMade c.possible
  pub named : AreOffersMade IsMade c.named
  pub rests : AreOffersMade IsMade c.rests

-- some of these places meets the condition in this way (it may be 1, or is 1 for certain) and passes the test
unfoldable pub some_chosen : (World → Kept → AbsState → Option FlatExpr → List Place → Bool) → View → (ℕ → Bool) → List Spot → ℕ → Option FlatExpr → (AbsOutcome → Bool) → List Place → Bool
some_chosen meets v a b var cond p places = list_any (λ q. meets v.world v.kept (v.state a) cond (bind_place (map (place_in v.world.classes) b) var q) && p (Some q)) places

module _ {S C : Type 0} (holds : S → C → (ℕ → Bool) → Bool) where
  -- the condition of a comprehension under these bindings
  pub record IsMet (s : S) (v : View) (cond : Option FlatExpr) (b : List Spot) (m : Met C) : Type 0 where
    pub may : (a : ℕ → Bool) → holds s m.may a ≡ may_hold v.world v.kept (v.state a) cond (map (place_in v.world.classes) b)
    pub must : (a : ℕ → Bool) → holds s m.must a ≡ must_hold v.world v.kept (v.state a) cond (map (place_in v.world.classes) b)

  -- the places that meet the condition are added
  unfoldable pub AddsChosen : S → S → View → (World → Kept → AbsState → Option FlatExpr → List Place → Bool) → List Spot → ℕ → Option FlatExpr → List Place → List (Offer C) → List (Offer C) → Type 0
  AddsChosen start s v meets b var cond places old new = (a : ℕ → Bool) (p : AbsOutcome → Bool) → any_offer v.world.classes holds s a p new ≡ (any_offer v.world.classes holds start a p old || some_chosen meets v a b var cond p places)

  -- the places of a type that may be chosen, and those numbers, constants and classes, and those rests, that are for certain
  pub record AreChoices (s : S) (v : View) (b : List Spot) (var : ℕ) (over : Simple) (cond : Option FlatExpr) (c : Choices C) : Type 0 where
    pub possible : (a : ℕ → Bool) (p : AbsOutcome → Bool) → any_offer v.world.classes holds s a p c.possible ≡ some_chosen may_hold v a b var cond p (places_in v.world over)
    pub named : (a : ℕ → Bool) (p : AbsOutcome → Bool) → any_offer v.world.classes holds s a p c.named ≡ some_chosen must_hold v a b var cond p (named_in v.world over)
    pub rests : (a : ℕ → Bool) (p : AbsOutcome → Bool) → any_offer v.world.classes holds s a p c.rests ≡ some_chosen must_hold v a b var cond p (rests_in v.world over)
