-- What conditions say of demands.
use Rattle.std.proofs.Common.{◌≡◌, ℕ, zero, suc, List, [], ◌∷◌, length, map, slice_get, get_or, Option, Some, None, Bool, true, false, not, ◌&&◌, ◌||◌, refl, sym, ap, subst, ◌∙◌, arith}
use Rattle.std.specs.List.{list_any, list_all}
use Rattle.std.proofs.lemmas.Option.{get_or_from_slice_get}
use Rattle.law_lists.proofs.Places.{get-map}
use Rattle.smv_core.specs.Values.{number, constant, scalar, ordinal, Truth}
use Rattle.smv_core.specs.FlatMeaning.{Numbered}
use Rattle.smv_core.specs.Outcome.{is_true}
use Rattle.smv_core.specs.declared.flat.Class.{Class}
use Rattle.smv_core.specs.declared.flat.Class.TheVariants as class
use Rattle.smv_core.specs.declared.flat.Def.{Def}
use Rattle.smv_core.specs.declared.flat.Element.{Element}
use Rattle.smv_core.specs.declared.flat.DefBody.{DefBody}
use Rattle.smv_core.specs.declared.flat.FlatExpr.{FlatExpr}
use Rattle.smv_core.specs.declared.flat.Guard.{Guard}
use Rattle.smv_core.specs.declared.flat.Simple.{Simple}
use Rattle.law_obligations.specs.Places.{Place, named, rest, World, AbsOutcome, is_named}
use Rattle.law_obligations.specs.May.{AbsState, may, seen}
use Rattle.law_obligations.specs.Right.{is_false, is_neither}
use Rattle.law_obligations.specs.Soundness.{over_of}
use Rattle.law_obligations.specs.Demands.{concerns_place, places_of_family, must_be}
use Rattle.law_obligations.specs.Obligations.{AbstractProblem as Case, defined, holds as claimed, is_met, is_broken, may_hold}
use Rattle.law_obligations.specs.Mix.{Mix, mix_by}
use Rattle.smv_spots.specs.declared.spots.Spot.{Spot}
use Rattle.smv_spots.specs.Spots.{place_in, outcome_in}
use Rattle.smv_problem.specs.declared.problem.Demand.{Demand}
use Rattle.smv_problem.specs.declared.problem.Demand.TheVariants.{Defined, Holds}
use Rattle.smv_problem.specs.declared.problem.Problem.{Problem}
use Rattle.smv_problem.specs.Written.{written_class, written_demand}
use Rattle.smv_problem_spots.specs.Worlds.{IsWorldOf}
use Rattle.smv_problem.specs.WellFormed.{AreOf}
use Rattle.smv_conditions.specs.declared.offers.Offer.{Offer}
use Rattle.smv_conditions.specs.declared.chances.Chances.{Chances}
use Rattle.smv_conditions.specs.Keep.{KeepsConditions}
use Rattle.smv_conditions.specs.Chances.{mix_at}
use Rattle.smv_conditions.specs.Offers.{any_offer, AreOffersMade}
use Rattle.smv_cells.specs.declared.cells.Cell.{Cell}
use Rattle.smv_cells.specs.Cells.{AreCellsMade}
use Rattle.smv_cells.specs.Seen.{View, IsSeen, outcomes}
use Rattle.smv_cells.proofs.SeenLaws.{cells_kept, seen_on}
use Rattle.smv_outcomes.specs.Remembered.{AreKnown, Entries}
use Rattle.smv_outcomes.proofs.KnownLaws.{known_kept}
use Rattle.smv_sides.specs.Outcomes.{IsTruthOf, AreOffersOf, mix_in}
use Rattle.smv_targets.specs.declared.targets.Target.{Target}
use Rattle.smv_targets.specs.Targets.{Aim, IsTarget, IsSo}
use Rattle.smv_targets.specs.CellTargets.{IsElementOf, aim_of}
use Rattle.smv_typed_spots.specs.TypedSpots.{class_spots}
use Rattle.smv_typed_spots.proofs.TypedLaws.{indexes_placed, spots_placed}
use Rattle.smv_walks.specs.declared.walks.Way.{Way}
use Rattle.smv_walks.specs.declared.walks.Way.TheVariants.{May, Must}
use Rattle.smv_walks.specs.Demands.{view_of, at_before, HaveValues, IsReadBefore, AreRead, AreOldMade, AreOldKnown, IsDemand, IsTargetOf, IsDemanded, IsGuard, guard_test}
use Rattle.smv_walks.specs.Given.{aim_at, now_in, next_in, IsSoOf, IsGivenAt, IsGiven, IsTargets, IsWritten, IsMapBroken}
use Rattle.smv_walks.proofs.GivenLaws.{possible-comb, possible-init, possible-next}

-- which truth values a claim may have
abbrev mix_by_claim : Case → ((ℕ → Bool) → AbsState) → (ℕ → Bool) → FlatExpr → List Place → Mix
mix_by_claim p now a body b = mix_by seen (may p.world p.kept (now a) body b)

-- cells before stay made
pub old_kept : {S C : Type 0} (IsMade : S → C → Type 0) (holds : S → C → (ℕ → Bool) → Bool) (room : S → ℕ) (s t : S) (old : Option (List (Cell C))) → KeepsConditions IsMade holds room s t → AreOldMade (IsMade s) old → AreOldMade (IsMade t) old
old_kept IsMade holds room s t None k m = tt
old_kept IsMade holds room s t (Some old) k m = cells_kept IsMade holds room s t old k m

pub before_made : {C : Type 0} (IsMade : C → Type 0) (old : Option (List (Cell C))) (before : List (Cell C)) → old ≡ Some before → AreOldMade IsMade old → AreCellsMade IsMade before
before_made IsMade old before e m = subst (AreOldMade IsMade) e m

-- what is known where expressions are read by the cells before stays so
pub old_known_kept : {S C : Type 0} (IsMade : S → C → Type 0) (holds : S → C → (ℕ → Bool) → Bool) (room : S → ℕ) (s t : S) (problem : Problem) (old : Option (List (Cell C))) (entries : Entries C) → KeepsConditions IsMade holds room s t → AreOldMade (IsMade s) old → AreOldKnown IsMade holds s problem old entries → AreOldKnown IsMade holds t problem old entries
old_known_kept IsMade holds room s t problem None entries k m known = tt
old_known_kept IsMade holds room s t problem (Some old) entries k m known = known_kept IsMade holds room s t problem old entries k m known

module _ {S C : Type 0} (IsMade : S → C → Type 0) (holds : S → C → (ℕ → Bool) → Bool) (s : S) (problem : Problem) (old : Option (List (Cell C))) (before : List (Cell C)) (entries : Entries C) where
  pub before_known : old ≡ Some before → AreOldKnown IsMade holds s problem old entries → AreKnown IsMade holds s problem before entries
  before_known e known = subst (λ o. AreOldKnown IsMade holds s problem o entries) e known

  pub known_before : old ≡ Some before → AreKnown IsMade holds s problem before entries → AreOldKnown IsMade holds s problem old entries
  known_before e known = subst (λ o. AreOldKnown IsMade holds s problem o entries) (sym e) known

-- the element of a demand in the view of now
element_of : (p : Case) (now : (ℕ → Bool) → AbsState) → HaveValues p now → (family : ℕ) (indexes : List Place) → p.kept family indexes ≡ true → IsElementOf (view_of p now) family indexes
unfolding view_of
element_of p now values family indexes kept = record { kept = kept; of_type = λ a. values a family indexes kept }

module _ {S C : Type 0} (holds : S → C → (ℕ → Bool) → Bool) (s t : S) (problem : Problem) (cells : List (Cell C)) (x : Target C) (way : Way) (family : ℕ) (init next comb : DefBody) where
  abbrev Asked : Case → Def → List Place → ((ℕ → Bool) → AbsState) → ((ℕ → Bool) → Place) → Type 0
  Asked = IsTargets holds s x family init next comb

  pub comb_given : (old : Option (List (Cell C))) (b : Bool) (r : C) (shown : List Spot) → shown ≡ x.indexes → ((n : Numbered) → b ≡ concerns_place comb (map (place_in n) shown)) → b ≡ true → IsSo holds s t problem cells x (now_in way comb) r → IsGivenAt holds s t problem old cells way Asked r
  unfolding IsGivenAt IsSo view_of
  comb_given old b r shown e concerned yes_it is p before now read def indexes value demand asked a =
      let target : IsTarget holds s x (aim_at (view_of p now) def.family indexes value) = asked.target in
      let z : Aim = aim_at (view_of p now) def.family indexes value in
      is z (record { seen = read.now; target = target }) a
      ∙ (ap (λ (part : DefBody). now_in way part z a) (sym asked.definition.comb)
      ∙ sym (possible-comb way z a def (at_before before a) (ap (λ (part : DefBody). concerns_place part indexes) asked.definition.comb ∙ (ap (concerns_place comb) (sym (ap (map (place_in p.world.classes)) e ∙ target.indexes)) ∙ (sym (concerned p.world.classes) ∙ yes_it)))))

  pub init_given : (old : Option (List (Cell C))) (b : Bool) (r : C) (shown : List Spot) → old ≡ None → shown ≡ x.indexes → ((n : Numbered) → b ≡ concerns_place comb (map (place_in n) shown)) → b ≡ false → IsSo holds s t problem cells x (now_in way init) r → IsGivenAt holds s t problem old cells way Asked r
  unfolding IsGivenAt IsSo view_of
  init_given old b r shown none e concerned not_it is p None now read def indexes value demand asked a =
      let target : IsTarget holds s x (aim_at (view_of p now) def.family indexes value) = asked.target in
      let z : Aim = aim_at (view_of p now) def.family indexes value in
      is z (record { seen = read.now; target = target }) a
      ∙ (ap (λ (part : DefBody). now_in way part z a) (sym asked.definition.init)
      ∙ sym (possible-init way z a def (ap (λ (part : DefBody). concerns_place part indexes) asked.definition.comb ∙ (ap (concerns_place comb) (sym (ap (map (place_in p.world.classes)) e ∙ target.indexes)) ∙ (sym (concerned p.world.classes) ∙ not_it)))))
  init_given old b r shown none e concerned not_it is p (Some before) now read def indexes value demand asked a = absurd (subst (λ o. IsReadBefore holds s problem o p (Some before)) none read.before)

  pub next_given : (old : Option (List (Cell C))) (before_cells : List (Cell C)) (b : Bool) (r : C) (shown : List Spot) → old ≡ Some before_cells → shown ≡ x.indexes → ((n : Numbered) → b ≡ concerns_place comb (map (place_in n) shown)) → b ≡ false → IsSoOf holds s t problem before_cells x family (next_in way family next) r →
      IsGivenAt holds s t problem old cells way Asked r
  unfolding IsGivenAt IsSoOf view_of
  next_given old before_cells b r shown some e concerned not_it is p None now read def indexes value demand asked a = absurd (subst (λ o. IsReadBefore holds s problem o p None) some read.before)
  next_given old before_cells b r shown some e concerned not_it is p (Some before) now read def indexes value demand asked a =
      let target : IsTarget holds s x (aim_at (view_of p now) def.family indexes value) = asked.target in
      let z : Aim = aim_at (view_of p before) def.family indexes value in
      let seen_before : IsReadBefore holds s problem (Some before_cells) p (Some before) = subst (λ o. IsReadBefore holds s problem o p (Some before)) some read.before in
      let is_of : IsSoOf holds s t problem before_cells x def.family (next_in way def.family next) r = subst (λ f. IsSoOf holds s t problem before_cells x f (next_in way f next) r) (sym asked.definition.family) is in
      is_of z (record { seen = seen_before.0; target = record { indexes = target.indexes; every = target.every; held = target.held; always = target.always; never = target.never; of_type = target.of_type } }) (element_of p before seen_before.1 def.family indexes demand.0) refl a
      ∙ (ap (λ (part : DefBody). next_in way def.family part z a) (sym asked.definition.next)
      ∙ sym (possible-next way z a def (now a) (ap (λ (part : DefBody). concerns_place part indexes) asked.definition.comb ∙ (ap (concerns_place comb) (sym (ap (map (place_in p.world.classes)) e ∙ target.indexes)) ∙ (sym (concerned p.world.classes) ∙ not_it)))))

-- ---- an element, by its target

families_of : {S C : Type 0} (holds : S → C → (ℕ → Bool) → Bool) (s : S) (problem : Problem) (cells : List (Cell C)) (p : Case) (now : (ℕ → Bool) → AbsState) → IsSeen holds s problem cells (view_of p now) → p.world.classes.families ≡ problem.families
unfolding view_of
families_of holds s problem cells p now h = h.world.families

as_placed : (spots : List Spot) (indexes : List Place) (p : Case) (now : (ℕ → Bool) → AbsState) → map (place_in p.world.classes) spots ≡ indexes → map (place_in (view_of p now).world.classes) spots ≡ indexes
unfolding view_of
as_placed spots indexes p now e = e

module _ {S C : Type 0} (IsMade : S → C → Type 0) (holds : S → C → (ℕ → Bool) → Bool) (room : S → ℕ) where
  read_before_on : (s t : S) (problem : Problem) (old : Option (List (Cell C))) (p : Case) (before : Option ((ℕ → Bool) → AbsState)) → KeepsConditions IsMade holds room s t → AreOldMade (IsMade s) old → IsReadBefore holds s problem old p before → IsReadBefore holds t problem old p before
  read_before_on s t problem None p None k m h = tt
  read_before_on s t problem (Some old) p (Some before) k m h = (seen_on IsMade holds room s t problem old (view_of p before) k m h.0, h.1)
  read_before_on s t problem None p (Some before) k m h = absurd h
  read_before_on s t problem (Some old) p None k m h = absurd h

  read_on : (s t : S) (problem : Problem) (old : Option (List (Cell C))) (cells : List (Cell C)) (p : Case) (before : Option ((ℕ → Bool) → AbsState)) (now : (ℕ → Bool) → AbsState) → KeepsConditions IsMade holds room s t → AreOldMade (IsMade s) old → AreCellsMade (IsMade s) cells →
      AreRead holds s problem old cells p before now → AreRead holds t problem old cells p before now
  read_on s t problem old cells p before now k m n h = record { now = seen_on IsMade holds room s t problem cells (view_of p now) k n h.now; values = h.values; before = read_before_on s t problem old p before k m h.before }

  pub element_given : (s0 s1 s2 : S) → KeepsConditions IsMade holds room s0 s1 → (problem : Problem) (old : Option (List (Cell C))) (cells : List (Cell C)) → AreOldMade (IsMade s0) old → AreCellsMade (IsMade s0) cells → (way : Way) (element : Element) (init next comb : DefBody) (spots : List Spot) (x : Target C) (r : C) →
      spots ≡ class_spots (over_of (slice_get problem.families element.family)) element.indexes → ((v : View) → IsSeen holds s0 problem cells v → (ps : List Place) → map (place_in v.world.classes) spots ≡ ps → IsElementOf v element.family ps → IsTarget holds s1 x (aim_of v element.family ps)) →
      IsGivenAt holds s1 s2 problem old cells way (IsTargets holds s1 x element.family init next comb) r → IsGiven holds s0 s2 problem old cells way (IsWritten element init next comb) r
  unfolding IsGivenAt IsGiven view_of
  element_given s0 s1 s2 k problem old cells old_made cells_made way element init next comb spots x r are_spots target is p before now read def indexes demand asked a =
      let w : World = p.world in
      let types : List Simple = over_of (slice_get w.classes.families def.family) in
      let placed : map (place_in w.classes) spots ≡ indexes =
      ap (map (place_in w.classes)) (are_spots ∙ (ap (λ l. class_spots (over_of (slice_get l element.family)) element.indexes) (sym (families_of holds s0 problem cells p now read.now))
      ∙ (ap (λ f. class_spots (over_of (slice_get w.classes.families f)) element.indexes) (sym asked.0.family) ∙ ap (class_spots types) asked.1)))
      ∙ indexes_placed w types indexes demand.1 demand.2 in
      let kept : p.kept element.family indexes ≡ true = ap (λ f. p.kept f indexes) (sym asked.0.family) ∙ demand.0 in
      let of_element : IsTarget holds s1 x (aim_of (view_of p now) element.family indexes) = target (view_of p now) read.now indexes (as_placed spots indexes p now placed) (element_of p now read.values element.family indexes kept) in
      is p before now (read_on s0 s1 problem old cells p before now k old_made cells_made read) def indexes (λ v. now v def.family indexes) demand
      (record { definition = asked.0; target = subst (λ f. IsTarget holds s1 x (aim_of (view_of p now) f indexes)) (sym asked.0.family) of_element }) a

-- ---- demands as they are written

pub written_inner : {element other : Element} {a b c d e f : DefBody} → Defined element a b c ≡ Defined other d e f → (element ≡ other) × (a ≡ d) × (b ≡ e) × (c ≡ f)
written_inner e = (cc, cc, cc, cc)

claim_inner : {body other : FlatExpr} {bindings others : List Spot} → Holds body bindings ≡ Holds other others → (body ≡ other) × (bindings ≡ others)
claim_inner e = (cc, cc)

module _ {S C : Type 0} (holds : S → C → (ℕ → Bool) → Bool) (s t : S) (problem : Problem) (old : Option (List (Cell C))) (cells : List (Cell C)) (demand : Demand) (r : C) where
  as_written : (element : Element) (init next comb : DefBody) → demand ≡ Defined element init next comb → (p : Case) (def : Def) (indexes : List Place) (now : (ℕ → Bool) → AbsState) → demand ≡ written_demand p.world.classes (defined def indexes) → IsWritten element init next comb p def indexes now
  as_written element init next comb e p def indexes now f =
      let same = written_inner (sym e ∙ f) in
      (record { family = ap (λ (x : Element). x.family) (sym same.0); init = sym same.1; next = sym same.2; comb = sym same.3 }, ap (λ (x : Element). x.indexes) same.0)

  pub element_met : (element : Element) (init next comb : DefBody) → demand ≡ Defined element init next comb → IsGiven holds s t problem old cells May (IsWritten element init next comb) r → IsDemanded IsDemand holds s t problem old cells demand (λ p before now d. is_met p before now d) r
  unfolding IsDemanded IsGiven
  element_met element init next comb e is p before now read (defined def indexes) fit f a = is p before now read def indexes fit (as_written element init next comb e p def indexes now f) a
  element_met element init next comb e is p before now read (claimed body b) fit f a = absurd (other (sym e ∙ f))
    where
      other : {body : FlatExpr} {bindings : List Spot} → Defined element init next comb ≡ Holds body bindings → ⊥
      other e = cc

  pub element_broken : (element : Element) (init next comb : DefBody) → demand ≡ Defined element init next comb → IsMapBroken holds s t problem old cells (IsWritten element init next comb) r → IsDemanded IsTargetOf holds s t problem old cells demand (λ p before now d. is_broken p before now d) r
  unfolding IsDemanded IsMapBroken
  element_broken element init next comb e is p before now read (defined def indexes) fit f a = is p before now read def indexes fit (as_written element init next comb e p def indexes now f) a
  element_broken element init next comb e is p before now read (claimed body b) fit f a = absurd (other (sym e ∙ f))
    where
      other : {body : FlatExpr} {bindings : List Spot} → Defined element init next comb ≡ Holds body bindings → ⊥
      other e = cc

  -- the truth values of a claim that is written so
  claim_truth : (body : FlatExpr) (bindings shown : List Spot) (x : Chances C) → demand ≡ Holds body bindings → shown ≡ bindings → ((v : View) → IsSeen holds s problem cells v → IsTruthOf holds t v body shown x) →
      (p : Case) (now : (ℕ → Bool) → AbsState) → IsSeen holds s problem cells (view_of p now) → (other : FlatExpr) (b : List Place) → IsDemand p (claimed other b) → demand ≡ written_demand p.world.classes (claimed other b) → (a : ℕ → Bool) →
      mix_at holds t a x ≡ mix_by_claim p now a other b
  unfolding IsTruthOf mix_in outcomes view_of
  claim_truth body bindings shown x e g truth p now seen_now other b fit f a =
      let same = claim_inner (sym e ∙ f) in
      truth (view_of p now) seen_now a
      ∙ (ap (λ l. mix_by seen (may p.world p.kept (now a) body l)) (ap (map (place_in p.world.classes)) (g ∙ same.1) ∙ spots_placed p.world fit.0 fit.1 b fit.2)
      ∙ ap (λ y. mix_by seen (may p.world p.kept (now a) y b)) same.0)

  pub claim_met : (body : FlatExpr) (bindings shown : List Spot) (x : Chances C) → demand ≡ Holds body bindings → shown ≡ bindings → r ≡ x.yes → ((v : View) → IsSeen holds s problem cells v → IsTruthOf holds t v body shown x) → IsDemanded IsDemand holds s t problem old cells demand (λ p before now d. is_met p before now d) r
  unfolding IsDemanded mix_at
  claim_met body bindings shown x e g is_yes truth p before now read (defined def indexes) fit f a = absurd (other (sym e ∙ f))
    where
      other : {element : Element} {init next comb : DefBody} → Holds body bindings ≡ Defined element init next comb → ⊥
      other e = cc
  claim_met body bindings shown x e g is_yes truth p before now read (claimed other b) fit f a =
      ap (λ c. holds t c a) is_yes ∙ ap (λ (m : Mix). m.yes) (claim_truth body bindings shown x e g truth p now read.now other b fit f a)

not_all : {X : Type 0} (f : X → Truth) (xs : List X) → not (list_all (λ x. is_true (f x)) xs) ≡ (list_any (λ x. is_false (f x)) xs || list_any (λ x. is_neither (f x)) xs)
not_all f [] = refl
not_all f (x ∷ xs) = at (f x) (not_all f xs)
  where
    one : (n m : Bool) → (n || m) ≡ (n || m)
    one n m = refl

    at : (t : Truth) → not (list_all (λ x. is_true (f x)) xs) ≡ (list_any (λ x. is_false (f x)) xs || list_any (λ x. is_neither (f x)) xs) →
        not (is_true t && list_all (λ x. is_true (f x)) xs) ≡ ((is_false t || list_any (λ x. is_false (f x)) xs) || (is_neither t || list_any (λ x. is_neither (f x)) xs))
    at (Some true) e = e
    at (Some false) e = refl
    at None e = sym (last (list_any (λ x. is_false (f x)) xs))
      where
        last : (b : Bool) → (b || true) ≡ true
        last true = refl
        last false = refl

pub claim_broken : {S C : Type 0} (holds : S → C → (ℕ → Bool) → Bool) (s t u : S) (problem : Problem) (old : Option (List (Cell C))) (cells : List (Cell C)) (demand : Demand) (r : C) (body : FlatExpr) (bindings shown : List Spot) (x : Chances C) → demand ≡ Holds body bindings → shown ≡ bindings →
    ((v : View) → IsSeen holds s problem cells v → IsTruthOf holds t v body shown x) → ((a : ℕ → Bool) → holds u r a ≡ (holds t x.no a || holds t x.neither a)) → IsDemanded IsTargetOf holds s u problem old cells demand (λ p before now d. is_broken p before now d) r
unfolding IsDemanded mix_at
claim_broken holds s t u problem old cells demand r body bindings shown x e g truth made p before now read (defined def indexes) fit f a = absurd (other (sym e ∙ f))
  where
    other : {element : Element} {init next comb : DefBody} → Holds body bindings ≡ Defined element init next comb → ⊥
    other e = cc
claim_broken holds s t u problem old cells demand r body bindings shown x e g truth made p before now read (claimed other b) fit f a =
    let is = claim_truth holds s t problem old cells demand r body bindings shown x e g truth p now read.now other b fit f a in
    made a
    ∙ (ap (λ c. c || holds t x.neither a) (ap (λ (m : Mix). m.no) is)
    ∙ (ap (λ c. (mix_by_claim p now a other b).no || c) (ap (λ (m : Mix). m.neither) is)
    ∙ sym (not_all seen (may p.world p.kept (now a) other b))))

-- ---- refinement maps

pub at_number : (p : Place) (k : ℕ) → class.Number k ≡ written_class p → false ≡ not (is_named p)
at_number (named v) k e = refl
at_number (rest (number g)) k e = absurd (cc)
at_number (rest (constant c)) k e = absurd (cc)
at_number (rest (scalar t g)) k e = absurd (cc)
at_number (rest (ordinal t g)) k e = absurd (cc)

pub at_class : (p : Place) (k : ℕ) → class.Named k ≡ written_class p → false ≡ not (is_named p)
at_class (named v) k e = refl
at_class (rest (number g)) k e = absurd (cc)
at_class (rest (constant c)) k e = absurd (cc)
at_class (rest (scalar t g)) k e = absurd (cc)
at_class (rest (ordinal t g)) k e = absurd (cc)

pub at_rest : (p : Place) (g : ℕ) → class.Rest g ≡ written_class p → true ≡ not (is_named p)
at_rest (named (number k)) g e = absurd (cc)
at_rest (named (constant c)) g e = absurd (cc)
at_rest (named (scalar t k)) g e = absurd (cc)
at_rest (named (ordinal t k)) g e = absurd (cc)
at_rest (rest v) g e = refl

pub none_there : (classes : List Class) → length classes ≡ 0 → (ps : List Place) → classes ≡ map written_class ps → false ≡ not (list_all is_named ps)
none_there [] e [] f = refl
none_there [] e (p ∷ ps) f = absurd (cc)
none_there (c ∷ cs) e ps f = absurd (omega arith)

named_first : (b c : Bool) → b ≡ not c → b ≡ true → (d : Bool) → b ≡ not (c && d)
named_first b true e y d = absurd (clash e y)
  where
    clash : {b : Bool} → b ≡ false → b ≡ true → ⊥
    clash e y = cc
named_first b false e y d = y

named_next : (b c r d : Bool) → b ≡ not c → b ≡ false → r ≡ not d → r ≡ not (c && d)
named_next b true r d e y h = h
named_next b false r d e y h = absurd (clash e y)
  where
    clash : {b : Bool} → b ≡ true → b ≡ false → ⊥
    clash e y = cc

module _ (c : Class) (cs all : List Class) (b : Bool) (whole : all ≡ c ∷ cs) (is : (p : Place) → c ≡ written_class p → b ≡ not (is_named p)) where
  pub first_there : b ≡ true → (ps : List Place) → all ≡ map written_class ps → b ≡ not (list_all is_named ps)
  first_there y [] f = absurd (clash whole f)
    where
      clash : {xs : List Class} → xs ≡ c ∷ cs → xs ≡ [] → ⊥
      clash e f = cc
  first_there y (p ∷ ps) f = named_first b (is_named p) (is p (head (sym whole ∙ f))) y (list_all is_named ps)
    where
      head : {x y : Class} {xs ys : List Class} → x ∷ xs ≡ y ∷ ys → x ≡ y
      head e = cc

  pub others_there : b ≡ false → (r : Bool) → ((ps : List Place) → cs ≡ map written_class ps → r ≡ not (list_all is_named ps)) → (ps : List Place) → all ≡ map written_class ps → r ≡ not (list_all is_named ps)
  others_there y r h [] f = absurd (clash whole f)
    where
      clash : {xs : List Class} → xs ≡ c ∷ cs → xs ≡ [] → ⊥
      clash e f = cc
  others_there y r h (p ∷ ps) f = named_next b (is_named p) r (list_all is_named ps) (is p (head (sym whole ∙ f))) y (h ps (tail (sym whole ∙ f)))
    where
      head : {x y : Class} {xs ys : List Class} → x ∷ xs ≡ y ∷ ys → x ≡ y
      head e = cc

      tail : {x y : Class} {xs ys : List Class} → x ∷ xs ≡ y ∷ ys → xs ≡ ys
      tail e = cc

pub map_at_rest : {S C : Type 0} (holds : S → C → (ℕ → Bool) → Bool) (s : S) (problem : Problem) (old : Option (List (Cell C))) (cells : List (Cell C)) (element : Element) (init next comb : DefBody) (classes : List Class) (b : Bool) (r : C) → classes ≡ element.indexes → ((ps : List Place) → classes ≡ map written_class ps → b ≡ not (list_all is_named ps)) → b ≡ true →
    ((a : ℕ → Bool) → holds s r a ≡ true) → IsMapBroken holds s s problem old cells (IsWritten element init next comb) r
unfolding IsMapBroken
map_at_rest holds s problem old cells element init next comb classes b r e some yes_it always p before now read def indexes demand asked a =
    always a ∙ ap (λ c. c || not (must_be p.world p.kept def indexes (places_of_family p.world p.kept (slice_get p.world.classes.families def.family)) (at_before before a) (now a) (now a def.family indexes))) (sym yes_it ∙ some indexes (e ∙ asked.1))

all_named : {A : Type 0} {b : Bool} → false ≡ not b → (b ≡ true → A) × Unit {0} → A
all_named {b = true} e h = h.0 refl
all_named {b = false} e h = absurd (cc)

pub map_given : {S C : Type 0} (holds : S → C → (ℕ → Bool) → Bool) (s t : S) (problem : Problem) (old : Option (List (Cell C))) (cells : List (Cell C)) (element : Element) (init next comb : DefBody) (classes : List Class) (b : Bool) (r : C) → classes ≡ element.indexes → ((ps : List Place) → classes ≡ map written_class ps → b ≡ not (list_all is_named ps)) → b ≡ false →
    IsGiven holds s t problem old cells Must (IsWritten element init next comb) r → IsMapBroken holds s t problem old cells (IsWritten element init next comb) r
unfolding IsMapBroken IsGiven
map_given holds s t problem old cells element init next comb classes b r e some not_it is p before now read def indexes demand asked a =
    is p before now read def indexes (all_named (sym not_it ∙ some indexes (e ∙ asked.1)) (demand.0, tt), demand.1, demand.2) asked a ∙ ap (λ c. c || not (must_be p.world p.kept def indexes (places_of_family p.world p.kept (slice_get p.world.classes.families def.family)) (at_before before a) (now a) (now a def.family indexes))) (sym not_it ∙ some indexes (e ∙ asked.1))

-- ---- guards

param_there : (w : World) (over : List Simple) (ps : List Place) → AreOf w over ps → (k : ℕ) (t : Simple) → slice_get over k ≡ Some t → (q : Place) × (slice_get ps k ≡ Some q)
param_there w [] [] h k t e = absurd (cc)
param_there w [] (p ∷ ps) h k t e = absurd h
param_there w (o ∷ over) [] h k t e = absurd h
param_there w (o ∷ over) (p ∷ ps) h zero t e = (p, refl)
param_there w (o ∷ over) (p ∷ ps) h (suc k) t e = param_there w over ps h.1 k t e

not_got : {X Y : Type 0} (f : X → Y) (xs : List X) (k : ℕ) (y : Y) → slice_get xs k ≡ None → slice_get (map f xs) k ≡ Some y → ⊥
not_got f [] k y e g = cc
not_got f (x ∷ xs) zero y e g = cc
not_got f (x ∷ xs) (suc k) y e g = not_got f xs k y e g

module _ {S C : Type 0} (holds : S → C → (ℕ → Bool) → Bool) (problem : Problem) (cells : List (Cell C)) (g : Guard) where
  pub guard_held : (s0 s1 s2 : S) (b : List Spot) (i : Spot) (offers os : List (Offer C)) (r : C) → b ≡ problem.bindings → slice_get b g.var ≡ Some i → os ≡ offers → ((v : View) → IsSeen holds s0 problem cells v → AreOffersOf holds s1 v g.expr b offers) →
      ((w : World) → IsWorldOf problem w → (a : ℕ → Bool) → holds s2 r a ≡ any_offer w.classes holds s1 a (guard_test w g.over (place_in w.classes i)) os) → (p : Case) (now : (ℕ → Bool) → AbsState) → IsSeen holds s0 problem cells (view_of p now) → IsGuard p problem.bindings g → (a : ℕ → Bool) → holds s2 r a ≡ may_hold p (now a) g
  unfolding AreOffersOf outcomes view_of
  guard_held s0 s1 s2 b i offers os r e at f are made p now seen_now guard a =
      let n : Numbered = p.world.classes in
      let placed : map (place_in n) b ≡ p.params = ap (map (place_in n)) (e ∙ sym guard.bound) ∙ spots_placed p.world guard.apart guard.over p.params guard.are_of in
      let param : get_or p.params g.var (named (number 0)) ≡ place_in n i = get_or_from_slice_get p.params g.var (place_in n i) (named (number 0)) (ap (λ l. slice_get l g.var) (sym placed) ∙ get-map (place_in n) b g.var i at) in
      made p.world seen_now.world a
      ∙ (ap (any_offer n holds s1 a (guard_test p.world g.over (place_in n i))) f
      ∙ (are (view_of p now) seen_now a (guard_test p.world g.over (place_in n i))
      ∙ (ap (λ l. list_any (guard_test p.world g.over (place_in n i)) (may p.world p.kept (now a) g.expr l)) placed
      ∙ ap (λ q. list_any (guard_test p.world g.over q) (may p.world p.kept (now a) g.expr p.params)) (sym param))))

  pub no_guard : (s t : S) (b : List Spot) (r : C) → b ≡ problem.bindings → slice_get b g.var ≡ None → (p : Case) (now : (ℕ → Bool) → AbsState) → IsSeen holds s problem cells (view_of p now) → IsGuard p problem.bindings g → (a : ℕ → Bool) → holds t r a ≡ may_hold p (now a) g
  no_guard s t b r e at p now seen_now guard a =
      let n : Numbered = p.world.classes in
      let there = param_there p.world guard.over p.params guard.are_of g.var g.over guard.has_param in
      let placed : map (place_in n) b ≡ p.params = ap (map (place_in n)) (e ∙ sym guard.bound) ∙ spots_placed p.world guard.apart guard.over p.params guard.are_of in
      absurd (not_got (place_in n) b g.var there.0 at (ap (λ l. slice_get l g.var) placed ∙ there.1))

module _ {S C : Type 0} (n : Numbered) (IsMade : S → C → Type 0) (holds : S → C → (ℕ → Bool) → Bool) (room : S → ℕ) (p : AbsOutcome → Bool) where
  when_there : (w x b : Bool) → x ≡ true → (w || b) ≡ ((w && x) || b)
  when_there true x b e = ap (λ c. c || b) (sym e)
  when_there false x b e = refl

  when_elsewhere : (w x b : Bool) → x ≡ false → b ≡ ((w && x) || b)
  when_elsewhere true x b e = ap (λ c. c || b) (sym e)
  when_elsewhere false x b e = refl

  pub one_passes : (s mid t : S) (o : Offer C) (os all : List (Offer C)) (more r : C) (b : Bool) (a : ℕ → Bool) → all ≡ o ∷ os → KeepsConditions IsMade holds room s mid → AreOffersMade (IsMade s) all → b ≡ p (outcome_in n o.outcome) → b ≡ true →
      holds mid more a ≡ any_offer n holds s a p os → holds t r a ≡ (holds mid o.when a || holds mid more a) → holds t r a ≡ any_offer n holds s a p all
  unfolding any_offer
  one_passes s mid t o os all more r b a e k m is yes_it later made =
      let made_all : AreOffersMade (IsMade s) (o ∷ os) = subst (AreOffersMade (IsMade s)) e m in
      made
      ∙ (ap (λ c. c || holds mid more a) (k.same o.when made_all.0 a)
      ∙ (ap (λ c. holds s o.when a || c) later ∙ (when_there (holds s o.when a) (p (outcome_in n o.outcome)) (any_offer n holds s a p os) (sym is ∙ yes_it) ∙ ap (any_offer n holds s a p) (sym e))))

  pub others_pass : (s mid : S) (o : Offer C) (os all : List (Offer C)) (more : C) (b : Bool) (a : ℕ → Bool) → all ≡ o ∷ os → b ≡ p (outcome_in n o.outcome) → b ≡ false → holds mid more a ≡ any_offer n holds s a p os → holds mid more a ≡ any_offer n holds s a p all
  unfolding any_offer
  others_pass s mid o os all more b a e is not_it later = later ∙ (when_elsewhere (holds s o.when a) (p (outcome_in n o.outcome)) (any_offer n holds s a p os) (sym is ∙ not_it) ∙ ap (any_offer n holds s a p) (sym e))

  pub none_passes : (s : S) (c : C) (os : List (Offer C)) (a : ℕ → Bool) → length os ≡ 0 → holds s c a ≡ false → holds s c a ≡ any_offer n holds s a p os
  unfolding any_offer
  none_passes s c [] a e h = h
  none_passes s c (o ∷ os) a e h = absurd (omega arith)
