-- When outcomes and truth values with conditions are those that an expression may have, at each assignment.
use Rattle.std.specs.Prelude.{◌≡◌, ℕ, List, ◌++◌, map, flat_map, Bool}
use Rattle.std.specs.List.{list_any}
use Rattle.smv_core.specs.declared.flat.FlatExpr.{FlatExpr}
use Rattle.smv_core.specs.declared.flat.FlatMember.{FlatMember}
use Rattle.smv_core.specs.declared.flat.FlatSigned.{FlatSigned}
use Rattle.law_obligations.specs.Places.{AbsOutcome}
use Rattle.law_obligations.specs.May.{seen, may_listed}
use Rattle.law_obligations.specs.Mix.{Mix, mix_by}
use Rattle.law_obligations.specs.Combined.{of_member, sum_test}
use Rattle.smv_spots.specs.declared.spots.Spot.{Spot}
use Rattle.smv_spots.specs.Spots.{place_in}
use Rattle.smv_conditions.specs.declared.offers.Offer.{Offer}
use Rattle.smv_conditions.specs.declared.offers.May.{May}
use Rattle.smv_conditions.specs.declared.chances.Chances.{Chances}
use Rattle.smv_conditions.specs.Chances.{mix_at}
use Rattle.smv_conditions.specs.Offers.{Offers, any_offer}
use Rattle.smv_cells.specs.Seen.{View, outcomes}

-- which truth values an expression may have at an assignment
unfoldable pub mix_in : View → (ℕ → Bool) → List Spot → FlatExpr → Mix
mix_in v a b e = mix_by seen (outcomes v a e b)

-- what each member of a listed set may be there
unfoldable pub member_in : View → (ℕ → Bool) → List Spot → FlatMember → List (List AbsOutcome)
member_in v a b m = of_member v.world v.kept (v.state a) (map (place_in v.world.classes) b) m

module _ {S C : Type 0} (holds : S → C → (ℕ → Bool) → Bool) (s : S) (v : View) where
  -- a May is what the expression may be
  unfoldable pub IsMayOf : FlatExpr → List Spot → May C → Type 0
  IsMayOf e b m = (a : ℕ → Bool) → Offers v.world.classes holds s a m (outcomes v a e b)

  -- outcomes with conditions are what the expression may be
  unfoldable pub AreOffersOf : FlatExpr → List Spot → List (Offer C) → Type 0
  AreOffersOf e b offers = (a : ℕ → Bool) (p : AbsOutcome → Bool) → any_offer v.world.classes holds s a p offers ≡ list_any p (outcomes v a e b)

  -- three conditions are the truth values that the expression may have
  unfoldable pub IsTruthOf : FlatExpr → List Spot → Chances C → Type 0
  IsTruthOf e b x = (a : ℕ → Bool) → mix_at holds s a x ≡ mix_in v a b e

  -- those of each of these expressions, of which the last are still to come
  unfoldable pub AreTruthsOf : List Spot → List FlatExpr → List FlatExpr → List (Chances C) → Type 0
  AreTruthsOf b all rest each = (a : ℕ → Bool) → map (mix_at holds s a) each ++ map (mix_in v a b) rest ≡ map (mix_in v a b) all

  -- those of an expression under each of these bindings
  unfoldable pub AreTruthsAlong : FlatExpr → List (List Spot) → List (List Spot) → List (Chances C) → Type 0
  AreTruthsAlong body all rest each = (a : ℕ → Bool) → map (mix_at holds s a) each ++ map (λ b. mix_in v a b body) rest ≡ map (λ b. mix_in v a b body) all

  -- outcomes of each of these expressions
  unfoldable pub AreListsOf : List Spot → List FlatExpr → List FlatExpr → List (List (Offer C)) → Type 0
  AreListsOf b all rest each = (a : ℕ → Bool) (p : AbsOutcome → Bool) → map (any_offer v.world.classes holds s a p) each ++ map (λ e. list_any p (outcomes v a e b)) rest ≡ map (λ e. list_any p (outcomes v a e b)) all

  -- outcomes of each of these members, and of one more
  unfoldable pub AreMembersOf : List Spot → List FlatMember → List FlatMember → List (List (Offer C)) → Type 0
  AreMembersOf b all rest each = (a : ℕ → Bool) (p : AbsOutcome → Bool) → map (any_offer v.world.classes holds s a p) each ++ map (list_any p) (flat_map (member_in v a b) rest) ≡ map (list_any p) (flat_map (member_in v a b) all)

  unfoldable pub AddsMember : List Spot → FlatMember → List (List (Offer C)) → List (List (Offer C)) → Type 0
  AddsMember b m old new = (a : ℕ → Bool) (p : AbsOutcome → Bool) → map (any_offer v.world.classes holds s a p) new ≡ map (any_offer v.world.classes holds s a p) old ++ map (list_any p) (member_in v a b m)

  -- outcomes of each member of a set
  unfoldable pub AreListedIn : List Spot → FlatExpr → List (List (Offer C)) → Type 0
  AreListedIn b set each = (a : ℕ → Bool) (p : AbsOutcome → Bool) → map (any_offer v.world.classes holds s a p) each ≡ map (list_any p) (may_listed v.world v.kept (v.state a) set (map (place_in v.world.classes) b))

-- with what is still to be added, these are the sums that begin with those
unfoldable pub IsSumOf : {S C : Type 0} → (S → C → (ℕ → Bool) → Bool) → S → S → View → List Spot → List (Offer C) → List FlatSigned → List FlatSigned → List (Offer C) → Type 0
IsSumOf holds start s v b first all rest sum = (a : ℕ → Bool) (p : AbsOutcome → Bool) → any_offer v.world.classes holds s a (sum_test (λ e. outcomes v a e b) rest p) sum ≡ any_offer v.world.classes holds start a (sum_test (λ e. outcomes v a e b) all p) first
