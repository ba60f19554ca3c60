-- The target of an element that would have a value, and the values that are sure.
use Rattle.std.proofs.Common.{◌≡◌, ℕ, zero, suc, ◌+◌, ◌<◌, ◌≤◌, List, [], ◌∷◌, ◌++◌, map, length, drop, get_or, Bool, true, false, not, ◌&&◌, ◌||◌, if◌then◌else◌, refl, sym, ap, subst, ◌∙◌, inl, inr, Option, Some, None, arith}
use Rattle.std.specs.List.{filter, slice_get}
use Rattle.law_lists.proofs.Options.{some_is}
use Rattle.smv_core.specs.FlatMeaning.{Numbered}
use Rattle.smv_core.specs.declared.flat.Def.{Def}
use Rattle.smv_core.specs.declared.flat.Element.{Element}
use Rattle.smv_core.specs.declared.flat.Family.{Family}
use Rattle.smv_core.specs.declared.flat.DefBody.{DefBody}
use Rattle.smv_core.specs.declared.flat.FlatExpr.{FlatExpr}
use Rattle.smv_core.specs.declared.flat.Simple.{Simple}
use Rattle.law_obligations.specs.Sets.{Has, first, later}
use Rattle.law_obligations.specs.Places.{Place, World, same_place, is_among}
use Rattle.law_obligations.specs.May.{AbsState, Kept}
use Rattle.law_obligations.specs.Demands.{must_be, places_of_family}
use Rattle.law_obligations.specs.Obligations.{AbstractProblem as Case, defined}
use Rattle.law_obligations.specs.Soundness.{over_of}
use Rattle.law_obligations.proofs.Same.{same_place-is, is_among-Has}
use Rattle.law_designs.specs.FlatKinds.{FlatKind}
use Rattle.law_obligations.specs.Readings as readings
use Rattle.smv_spots.specs.declared.spots.Spot.{Spot}
use Rattle.smv_spots.specs.Spots.{place_in}
use Rattle.smv_problem.specs.declared.problem.AbsValue.{AbsValue}
use Rattle.smv_problem.specs.declared.problem.Demand.{Demand}
use Rattle.smv_problem.specs.declared.problem.Demand.TheVariants.{Defined, Holds}
use Rattle.smv_problem.specs.declared.problem.Problem.{Problem}
use Rattle.smv_problem.specs.Written.{written, written_demand, written_place, kind_in}
use Rattle.smv_problem.specs.WellFormed.{IsWellFormed, IsFit, OfCases}
use Rattle.smv_problem_spots.specs.Worlds.{IsWorldOf}
use Rattle.law_worlds.proofs.Worlds.{world_of_case}
use Rattle.smv_typed_spots.specs.TypedSpots.{class_spots}
use Rattle.smv_typed_spots.proofs.TypedLaws.{indexes_placed}
use Rattle.smv_conditions.specs.declared.stores.Plain.{Plain}
use Rattle.smv_conditions.specs.declared.offers.Offer.{Offer}
use Rattle.smv_conditions.specs.Offers.{AreOffersMade}
use Rattle.smv_cells.specs.declared.cells.Cell.{Cell}
use Rattle.smv_cells.specs.Cells.{AreCellsMade}
use Rattle.smv_cells.specs.Seen.{View}
use Rattle.smv_targets.specs.declared.targets.At.{At}
use Rattle.smv_targets.specs.declared.targets.Target.{Target}
use Rattle.smv_targets.specs.Targets.{IsTarget, IsTargetMade, AreAtMade, at_place}
use Rattle.smv_walks.specs.declared.walks.Way.TheVariants.{Must}
use Rattle.smv_eval.specs.States.{plainly}
use Rattle.smv_eval.specs.Answers.{list_of, list_for, offered_values, value_at}
use Rattle.smv_eval.proofs.Narrow.{IsNarrow, type_narrow}
use Rattle.smv_eval.proofs.ValueLaws.{kind_list, value_written}
use Rattle.smv_walks.specs.Demands.{IsDemand, AreOldMade}
use Rattle.smv_walks.specs.Demands as demands
use Rattle.smv_walks.specs.Given.{IsGivenAt, IsTargets, IsWritten, aim_at}
use Rattle.smv_walks.proofs.DemandLaws.{written_inner}
use Rattle.smv_eval.specs.Held.{steady, AreReadBy, IsKept}
use Rattle.smv_eval.proofs.HeldLaws.{steady_at}
use Rattle.smv_eval.proofs.StateHeld.{fit_kept}
use Rattle.smv_eval.specs.Sure.{every_of, is_sure, sure_values, at_value, IsTargetAt, OfElement, sure_offer}

-- what is offered of a place
abbrev offer_at : Spot → Bool → Offer Bool
offer_at spot b = record { outcome = Some spot; when = b }

-- ---- lists that are made one by one

module _ {X Y : Type 0} (f : X → Y) (d : X) where
  split : (xs : List X) (i : ℕ) → i < length xs → drop i xs ≡ get_or xs i d ∷ drop (i + 1) xs
  split [] i l = absurd (omega arith)
  split (x ∷ xs) zero l = refl
  split (x ∷ xs) (suc i) l = split xs i (omega arith) ∙ ap (λ (k : ℕ). get_or xs i d ∷ drop k (x ∷ xs)) (next i)
    where
      next : (i : ℕ) → suc (i + 1) ≡ suc i + 1
      next i = omega arith

  joined : (done rest : List Y) (y : Y) → (done ++ y ∷ []) ++ rest ≡ done ++ y ∷ rest
  joined [] rest y = refl
  joined (x ∷ done) rest y = ap (λ ys. x ∷ ys) (joined done rest y)

  pub one_more : (xs : List X) (i : ℕ) (done more : List Y) (y : Y) → i < length xs → more ≡ done ++ y ∷ [] → y ≡ f (get_or xs i d) → done ++ map f (drop i xs) ≡ map f xs → more ++ map f (drop (i + 1) xs) ≡ map f xs
  one_more xs i done more y l e is h =
      ap (λ ys. ys ++ map f (drop (i + 1) xs)) (e ∙ ap (λ z. done ++ z ∷ []) is)
      ∙ (joined done (map f (drop (i + 1) xs)) (f (get_or xs i d)) ∙ (ap (λ ys. done ++ map f ys) (sym (split xs i l)) ∙ h))

  there : (xs : List X) (i : ℕ) → i < length xs → Has (map f xs) (f (get_or xs i d))
  there [] i l = absurd (omega arith)
  there (x ∷ xs) zero l = first
  there (x ∷ xs) (suc i) l = later (there xs i (omega arith))

pub no_more : {X Y : Type 0} (f : X → Y) (xs : List X) (i : ℕ) (done : List Y) → length xs ≤ i → done ++ map f (drop i xs) ≡ map f xs → done ≡ map f xs
no_more f xs i done l h = sym (ap (λ ys. done ++ map f ys) (none xs i l) ∙ nothing_behind done) ∙ h
  where
    none : {X : Type 0} (xs : List X) (i : ℕ) → length xs ≤ i → drop i xs ≡ []
    none [] zero l = refl
    none [] (suc i) l = refl
    none (x ∷ xs) zero l = absurd (omega arith)
    none (x ∷ xs) (suc i) l = none xs i (omega arith)

    nothing_behind : {Y : Type 0} (ys : List Y) → ys ++ [] ≡ ys
    nothing_behind [] = refl
    nothing_behind (y ∷ ys) = ap (λ zs. y ∷ zs) (nothing_behind ys)

-- ---- the target of a value

table_made : (table : List (At Bool)) → AreAtMade (λ (c : Bool). Unit {0}) table
table_made [] = tt
table_made (x ∷ table) = (tt, table_made table)

pub target_made : (t : Target Bool) → IsTargetMade (λ (c : Bool). Unit {0}) t
target_made t = record { table = table_made t.table; always = tt; never = tt }

module _ (w : World) (value : Spot) where
  shown : (spots : List Spot) → map (λ (x : At Bool). place_in w.classes x.spot) (map (at_value w value) spots) ≡ map (place_in w.classes) spots
  shown [] = refl
  shown (spot ∷ spots) = ap (λ ps. place_in w.classes spot ∷ ps) (shown spots)

  held : (spots : List Spot) (p : Place) (c : Bool) → at_place w.classes (map (at_value w value) spots) p ≡ Some c → c ≡ same_place p (place_in w.classes value)
  held [] p c e = absurd (cc)
  held (spot ∷ spots) p c e = at (same_place p (place_in w.classes spot)) refl e (held spots p c)
    where
      at : (b : Bool) → same_place p (place_in w.classes spot) ≡ b → (if b then Some (same_place (place_in w.classes spot) (place_in w.classes value)) else at_place w.classes (map (at_value w value) spots) p) ≡ Some c →
          (at_place w.classes (map (at_value w value) spots) p ≡ Some c → c ≡ same_place p (place_in w.classes value)) → c ≡ same_place p (place_in w.classes value)
      at true is e others = sym (some_is e) ∙ ap (λ q. same_place q (place_in w.classes value)) (sym (same_place-is p (place_in w.classes spot) is))
      at false is e others = others e

-- the places of a family's type
abbrev pub ArePlaces : Problem → ℕ → List Spot → Type 0
ArePlaces problem family every = (w : World) (kept : Kept) → IsWorldOf problem w → map (place_in w.classes) every ≡ places_of_family w kept (slice_get w.classes.families family)

pub target_is : (problem : Problem) (element : Element) (value : Spot) (spots every sliced : List Spot) (table : List (At Bool)) → spots ≡ class_spots (over_of (slice_get problem.families element.family)) element.indexes → ArePlaces problem element.family every → sliced ≡ every →
    ((w : World) → IsWorldOf problem w → table ≡ map (at_value w value) sliced) → IsTargetAt problem element value (record { indexes = spots; table = table; always = true; never = false })
target_is problem element value spots every sliced table are_spots are_places is_sliced are v indexes world placed value_there s =
    let w : World = v.world in
    let is_table : table ≡ map (at_value w value) every = are w world ∙ ap (map (at_value w value)) is_sliced in
    record {
      indexes = ap (map (place_in w.classes)) are_spots ∙ placed;
      every = ap (map (λ (x : At Bool). place_in w.classes x.spot)) is_table ∙ (shown w value every ∙ are_places w v.kept world);
      held = λ p c e a. held w value every p c (ap (λ t. at_place w.classes t p) (sym is_table) ∙ e);
      always = λ a. refl;
      never = λ a. refl;
      of_type = λ a. value_there;
    }

-- ---- one value

offers_made : (offers : List (Offer Bool)) → AreOffersMade (λ (c : Bool). Unit {0}) offers
offers_made [] = tt
offers_made (o ∷ offers) = (tt, offers_made offers)

pub cells_made : (cells : List (Cell Bool)) → AreCellsMade (λ (c : Bool). Unit {0}) cells
cells_made [] = tt
cells_made (c ∷ cells) = (offers_made c.values, cells_made cells)

pub old_made : (old : Option (List (Cell Bool))) → AreOldMade (λ (c : Bool). Unit {0}) old
old_made None = tt
old_made (Some cells) = cells_made cells

not_not : (b : Bool) → not (not b) ≡ b
not_not true = refl
not_not false = refl

world_of : (problem : Problem) (old : Option (List (Cell Bool))) (cells : List (Cell Bool)) (s : Plain) (p : Case) (before : Option AbsState) (now : AbsState) → AreReadBy problem old cells p before now → IsWorldOf problem p.world
unfolding demands.view_of
world_of problem old cells s p before now read = (read s).now.world

module _ (problem : Problem) (old : Option (List (Cell Bool))) (cells : List (Cell Bool)) (element : Element) (init next comb : DefBody) where
  abbrev pub AllowsSurely : Spot → Bool → Type 0
  AllowsSurely value sure = OfElement problem old cells element init next comb (λ p def indexes before now. is_among (every_of p def) (place_in p.world.classes value) ≡ true → sure ≡ is_sure p def indexes before now (place_in p.world.classes value))

  pub sure_said : (value : Spot) (t : Target Bool) (s u : Plain) (r : Bool) → IsTargetAt problem element value t → IsGivenAt plainly s u problem old cells Must (IsTargets plainly s t element.family init next comb) r → AllowsSurely value (not r)
  unfolding IsGivenAt demands.view_of
  sure_said value t s u r target given p before now read def indexes demand asked value_there =
      let w : World = p.world in
      let world : IsWorldOf problem w = world_of problem old cells s p before now read in
      let families : w.classes.families ≡ problem.families = world.families in
      let types : List Simple = over_of (slice_get w.classes.families def.family) in
      let placed : map (place_in w.classes) (class_spots (over_of (slice_get problem.families element.family)) element.indexes) ≡ indexes =
      ap (map (place_in w.classes)) (ap (λ l. class_spots (over_of (slice_get l element.family)) element.indexes) (sym families)
      ∙ (ap (λ f. class_spots (over_of (slice_get w.classes.families f)) element.indexes) (sym asked.0.family) ∙ ap (class_spots types) asked.1))
      ∙ indexes_placed w types indexes demand.1 demand.2 in
      let q : Place = place_in w.classes value in
      let among : is_among (places_of_family w p.kept (slice_get w.classes.families element.family)) q ≡ true = subst (λ f. is_among (places_of_family w p.kept (slice_get w.classes.families f)) q ≡ true) asked.0.family value_there in
      let view : View = demands.view_of p (λ a. now) in
      let is_target : IsTarget plainly s t (aim_at view element.family indexes (λ a. q)) = target view indexes world placed among s in
      ap not (given p (steady before) (λ a. now) (read s) def indexes (λ a. q) demand (record { definition = asked.0; target = subst (λ f. IsTarget plainly s t (aim_at view f indexes (λ a. q))) (sym asked.0.family) is_target }) (λ v. false))
      ∙ (not_not (must_be w p.kept def indexes (every_of p def) (demands.at_before (steady before) (λ v. false)) now q) ∙ ap (λ b. is_sure p def indexes b now q) (steady_at before (λ v. false)))

  -- ---- each value

  abbrev pub AreSureSoFar : List Spot → ℕ → List (Offer Bool) → Type 0
  AreSureSoFar places i offers = OfElement problem old cells element init next comb (λ p def indexes before now. map (place_in p.world.classes) places ≡ every_of p def → offers ++ map (sure_offer p def indexes before now) (drop i places) ≡ map (sure_offer p def indexes before now) places)

  pub sure_more : (places : List Spot) (i : ℕ) (d : Spot) (offers more : List (Offer Bool)) (when : Bool) → i < length places → more ≡ offers ++ offer_at (get_or places i d) when ∷ [] → AllowsSurely (get_or places i d) when → AreSureSoFar places i offers → AreSureSoFar places (i + 1) more
  sure_more places i d offers more when l e sure so_far p before now read def indexes demand asked are =
      let spot : Spot = get_or places i d in
      let among : is_among (every_of p def) (place_in p.world.classes spot) ≡ true = subst (λ every. is_among every (place_in p.world.classes spot) ≡ true) are (is_among-Has (there (place_in p.world.classes) d places i l)) in
      one_more (sure_offer p def indexes before now) d places i offers more (offer_at spot when) l e (ap (offer_at spot) (sure p before now read def indexes demand asked among)) (so_far p before now read def indexes demand asked are)

  abbrev pub AreSure : List Spot → List (Offer Bool) → Type 0
  AreSure places offers = OfElement problem old cells element init next comb (λ p def indexes before now. map (place_in p.world.classes) places ≡ every_of p def → offers ≡ map (sure_offer p def indexes before now) places)

  pub sure_all : (places : List Spot) (i : ℕ) (offers : List (Offer Bool)) → length places ≤ i → AreSureSoFar places i offers → AreSure places offers
  sure_all places i offers l so_far p before now read def indexes demand asked are = no_more (sure_offer p def indexes before now) places i offers l (so_far p before now read def indexes demand asked are)

-- ---- the values of a case

module _ (p : Problem) (w : World) (is : IsWorldOf p w) (kind : FlatKind) (f : Place → Bool) where
  -- what is offered of places that pass a test is what passes, as it is written
  offered : (spots : List Spot) → ((q : Place) → Has (map (place_in w.classes) spots) q → IsNarrow (Some q)) →
      offered_values p (list_of kind) (map (λ (spot : Spot). offer_at spot (f (place_in w.classes spot))) spots) ≡ map (written_place w.classes kind) (filter f (map (place_in w.classes) spots))
  offered [] narrow = refl
  offered (spot ∷ spots) narrow = at (f (place_in w.classes spot)) (offered spots (λ q h. narrow q (later h)))
    where
      written : value_at p (list_of kind) (Some spot) ≡ written_place w.classes kind (place_in w.classes spot)
      written = value_written p w is kind (Some spot) (narrow (place_in w.classes spot) first)

      at : (b : Bool) → offered_values p (list_of kind) (map (λ (x : Spot). offer_at x (f (place_in w.classes x))) spots) ≡ map (written_place w.classes kind) (filter f (map (place_in w.classes) spots)) →
          map (λ (o : Offer Bool). value_at p (list_of kind) o.outcome)
          (if b then offer_at spot b ∷ filter (λ (o : Offer Bool). o.when) (map (λ (x : Spot). offer_at x (f (place_in w.classes x))) spots) else filter (λ (o : Offer Bool). o.when) (map (λ (x : Spot). offer_at x (f (place_in w.classes x))) spots))
          ≡ map (written_place w.classes kind) (if b then place_in w.classes spot ∷ filter f (map (place_in w.classes) spots) else filter f (map (place_in w.classes) spots))
      at true e = λ i. written i ∷ e i
      at false e = e

pub list_is : (o : Option Family) → list_for o ≡ list_of (kind_in o)
list_is None = refl
list_is (Some f) = kind_list f.value

pub places_narrow : (c : readings.PosedCase) → IsWellFormed c → (o : Option Family) (p : Place) → Has (places_of_family c.problem.world c.problem.kept o) p → IsNarrow (Some p)
places_narrow c well None p h = elim h [ ]
places_narrow c well (Some f) p h = type_narrow c well f.value p h

families_are : (c : readings.PosedCase) (p : Problem) → p ≡ written c → p.families ≡ c.problem.world.classes.families
unfolding written
families_are c p is = ap (λ (q : Problem). q.families) is

pub values_said : (problem : Problem) (old : Option (List (Cell Bool))) (cells : List (Cell Bool)) (element : Element) (init next comb : DefBody) (every sliced : List Spot) (offers given : List (Offer Bool)) (list : Option ℕ) (values : List AbsValue) →
    ArePlaces problem element.family every → sliced ≡ every → AreSure problem old cells element init next comb sliced offers → given ≡ offers → list ≡ list_for (slice_get problem.families element.family) → values ≡ offered_values problem list given →
    OfCases problem (λ c. (before : Option AbsState) (now : AbsState) → AreReadBy problem old cells c.problem before now → (def : Def) (indexes : List Place) → IsDemand c.problem (defined def indexes) → IsWritten element init next comb c.problem def indexes (λ a. now) → values ≡ sure_values c.problem def indexes before now)
values_said problem old cells element init next comb every sliced offers given list values are_places is_sliced sure is_given is_list is_values c is well before now read def indexes demand asked =
    let w : World = c.problem.world in
    let n : Numbered = w.classes in
    let world : IsWorldOf problem w = subst (λ (q : Problem). IsWorldOf q w) (sym is) (world_of_case c well) in
    let o : Option Family = slice_get n.families def.family in
    let kind : FlatKind = kind_in o in
    let f : Place → Bool = is_sure c.problem def indexes before now in
    let are : map (place_in n) sliced ≡ every_of c.problem def = ap (map (place_in n)) is_sliced ∙ (are_places w c.problem.kept world ∙ ap (λ k. places_of_family w c.problem.kept (slice_get n.families k)) (sym asked.0.family)) in
    let made : given ≡ map (sure_offer c.problem def indexes before now) sliced = is_given ∙ sure c.problem before now read def indexes demand asked are in
    let kinds : list ≡ list_of kind = is_list ∙ (ap (λ l. list_for (slice_get l element.family)) (families_are c problem is) ∙ (ap (λ k. list_for (slice_get n.families k)) (sym asked.0.family) ∙ list_is o)) in
    let narrow : (q : Place) → Has (map (place_in n) sliced) q → IsNarrow (Some q) = (λ q h. places_narrow c well o q (subst (λ ps. Has ps q) are h)) in
    is_values ∙ (ap (λ l. offered_values problem l given) kinds ∙ (ap (offered_values problem (list_of kind)) made ∙ (offered problem w world kind f sliced narrow ∙ ap (λ ps. map (written_place n kind) (filter f ps)) are)))

-- ---- demands as they are written

abbrev pub AreSureBy : Problem → Option (List (Cell Bool)) → List (Cell Bool) → Demand → List AbsValue → Type 0
AreSureBy problem old cells demand values = OfCases problem (λ c. (before : Option AbsState) (now : AbsState) → AreReadBy problem old cells c.problem before now → (def : Def) (indexes : List Place) → demand ≡ written_demand c.problem.world.classes (defined def indexes) →
    IsFit c (defined def indexes) → IsKept c.problem (defined def indexes) → values ≡ sure_values c.problem def indexes before now)

pub definition_said : (problem : Problem) (old : Option (List (Cell Bool))) (cells : List (Cell Bool)) (demand : Demand) (element : Element) (init next comb : DefBody) (values : List AbsValue) → demand ≡ Defined element init next comb →
    OfCases problem (λ c. (before : Option AbsState) (now : AbsState) → AreReadBy problem old cells c.problem before now → (def : Def) (indexes : List Place) → IsDemand c.problem (defined def indexes) → IsWritten element init next comb c.problem def indexes (λ a. now) → values ≡ sure_values c.problem def indexes before now) →
    AreSureBy problem old cells demand values
definition_said problem old cells demand element init next comb values e are c is well before now read def indexes f fit kept =
    let same = written_inner (sym e ∙ f) in
    are c is well before now read def indexes (fit_kept c well (defined def indexes) fit kept)
    (record { family = ap (λ (x : Element). x.family) (sym same.0); init = sym same.1; next = sym same.2; comb = sym same.3 }, ap (λ (x : Element). x.indexes) same.0)

pub claim_said : (problem : Problem) (old : Option (List (Cell Bool))) (cells : List (Cell Bool)) (demand : Demand) (body : FlatExpr) (bindings : List Spot) (values : List AbsValue) → demand ≡ Holds body bindings → AreSureBy problem old cells demand values
claim_said problem old cells demand body bindings values e c is well before now read def indexes f fit kept = absurd (other (sym e ∙ f))
  where
    other : {element : Element} {init next comb : DefBody} → Holds body bindings ≡ Defined element init next comb → ⊥
    other e = cc
