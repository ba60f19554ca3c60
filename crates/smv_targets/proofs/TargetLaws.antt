-- A target that is made of a cell is the element's.
use Rattle.std.proofs.Common.{◌≡◌, ℕ, List, [], ◌∷◌, ◌++◌, map, length, slice_get, Option, Some, None, option_map, Bool, true, false, ◌&&◌, ◌||◌, refl, sym, ap, subst, ◌∙◌, arith, if◌then◌else◌}
use Rattle.std.specs.List.{list_any}
use Rattle.std.proofs.lemmas.List.{map-append}
use Rattle.smv_core.specs.FlatMeaning.{Numbered}
use Rattle.smv_core.specs.declared.flat.Family.{Family}
use Rattle.smv_core.specs.declared.flat.Simple.{Simple}
use Rattle.law_obligations.specs.Sets.{Has, first, later}
use Rattle.law_obligations.specs.Places.{Place, named_in, rests_in, same_place, is_among, World, places_in, AbsOutcome}
use Rattle.law_obligations.specs.May.{Kept}
use Rattle.law_obligations.specs.Demands.{places_of_family}
use Rattle.law_obligations.proofs.Same.{same_place-is}
use Rattle.smv_spots.specs.declared.spots.Spot.{Spot}
use Rattle.smv_spots.specs.Spots.{place_in, outcome_in}
use Rattle.smv_problem.specs.declared.problem.Problem.{Problem}
use Rattle.smv_problem_spots.specs.Worlds.{IsWorldOf}
use Rattle.smv_conditions.specs.declared.offers.Offer.{Offer}
use Rattle.smv_conditions.specs.Keep.{KeepsConditions}
use Rattle.smv_conditions.specs.Offers.{any_offer, AreOffersMade}
use Rattle.smv_conditions.specs.Adds.{Adds}
use Rattle.smv_conditions.proofs.AddLaws.{offers_same}
use Rattle.smv_cells.specs.declared.cells.Cell.{Cell}
use Rattle.smv_cells.specs.Cells.{cell_any}
use Rattle.smv_cells.specs.Seen.{View, IsSeen}
use Rattle.smv_cells.proofs.CellLaws.{cell-reads}
use Rattle.smv_targets.specs.declared.targets.At.{At}
use Rattle.smv_targets.specs.declared.targets.Target.{Target}
use Rattle.smv_targets.specs.Targets.{AreAtMade, IsTarget, at_place}
use Rattle.smv_targets.specs.CellTargets.{is_at, spots_of, AreHeld, IsElementOf, aim_of}

-- ---- places and values

value_there : (w : World) (kept : Kept) (o : Option Family) (t : Simple) → Some t ≡ option_map (λ (f : Family). f.value) o → places_in w t ≡ places_of_family w kept o
value_there w kept None t e = absurd (cc)
value_there w kept (Some f) t e = ap (places_in w) (inner e)
  where
    inner : {t u : Simple} → Some t ≡ Some u → t ≡ u
    inner e = cc

value_nowhere : (w : World) (kept : Kept) (o : Option Family) → None ≡ option_map (λ (f : Family). f.value) o → [] ≡ places_of_family w kept o
value_nowhere w kept None e = refl
value_nowhere w kept (Some f) e = absurd (cc)

pub family_places : (w : World) (kept : Kept) (problem : Problem) → IsWorldOf problem w → (family : ℕ) (over : Simple) (o : Option Simple) (named rests spots : List Spot) → o ≡ option_map (λ (f : Family). f.value) (slice_get problem.families family) → o ≡ Some over → spots ≡ named ++ rests → map (place_in w.classes) named ≡ named_in w over → map (place_in w.classes) rests ≡ rests_in w over →
    map (place_in w.classes) spots ≡ places_of_family w kept (slice_get w.classes.families family)
family_places w kept problem h family over o named rests spots at is e are_named are_rests =
    ap (map (place_in w.classes)) e
    ∙ (map-append (place_in w.classes) named rests
    ∙ (ap (λ l. l ++ map (place_in w.classes) rests) are_named
    ∙ (ap (λ l. named_in w over ++ l) are_rests ∙ value_there w kept (slice_get w.classes.families family) over (sym is ∙ (at ∙ ap (λ l. option_map (λ (f : Family). f.value) (slice_get l family)) (sym h.families))))))

pub no_family_places : (w : World) (kept : Kept) (problem : Problem) → IsWorldOf problem w → (family : ℕ) (o : Option Simple) (spots : List Spot) → o ≡ option_map (λ (f : Family). f.value) (slice_get problem.families family) → o ≡ None → spots ≡ [] → map (place_in w.classes) spots ≡ places_of_family w kept (slice_get w.classes.families family)
no_family_places w kept problem h family o spots at is e =
    ap (map (place_in w.classes)) e ∙ value_nowhere w kept (slice_get w.classes.families family) (sym is ∙ (at ∙ ap (λ l. option_map (λ (f : Family). f.value) (slice_get l family)) (sym h.families)))

-- what is added to nothing, always
pub added_alone : {S C : Type 0} (n : Numbered) (holds : S → C → (ℕ → Bool) → Bool) (s t : S) (a : ℕ → Bool) (p : AbsOutcome → Bool) (old new : List (Offer C)) (when : C) (more : Bool) → old ≡ [] → holds s when a ≡ true → Adds n holds s t a p old new (holds s when a) more → any_offer n holds t a p new ≡ more
unfolding Adds any_offer
added_alone n holds s t a p old new when more e y add = add ∙ (ap (λ l. any_offer n holds s a p l || (holds s when a && more)) e ∙ ap (λ b. b && more) y)

-- ---- the table

when_there : (w x b : Bool) → x ≡ true → (w || b) ≡ ((w && x) || b)
when_there true x b e = ap (λ c. c || b) (sym e)
when_there false x b e = refl

when_elsewhere : (w x b : Bool) → x ≡ false → b ≡ ((w && x) || b)
when_elsewhere true x b e = ap (λ c. c || b) (sym e)
when_elsewhere false x b e = refl

module _ {S C : Type 0} (n : Numbered) (holds : S → C → (ℕ → Bool) → Bool) where
  pub at_none : (s : S) (p : AbsOutcome → Bool) (c : C) (os : List (Offer C)) (a : ℕ → Bool) → length os ≡ 0 → holds s c a ≡ false → holds s c a ≡ any_offer n holds s a p os
  unfolding any_offer
  at_none s p c [] a e h = h
  at_none s p c (o ∷ os) a e h = absurd (omega arith)

  pub at_others : (s mid : S) (q : Place) (o : Offer C) (os all : List (Offer C)) (more : C) (b : Bool) (a : ℕ → Bool) → all ≡ o ∷ os → b ≡ is_at q (outcome_in n o.outcome) → b ≡ false → holds mid more a ≡ any_offer n holds s a (is_at q) os → holds mid more a ≡ any_offer n holds s a (is_at q) all
  unfolding any_offer
  at_others s mid q o os all more b a e is not_it rest =
      rest ∙ (when_elsewhere (holds s o.when a) (is_at q (outcome_in n o.outcome)) (any_offer n holds s a (is_at q) os) (sym is ∙ not_it) ∙ ap (any_offer n holds s a (is_at q)) (sym e))

module _ {S C : Type 0} (n : Numbered) (IsMade : S → C → Type 0) (holds : S → C → (ℕ → Bool) → Bool) (room : S → ℕ) where
  pub at_first : (s mid t : S) (q : Place) (o : Offer C) (os all : List (Offer C)) (more r : C) (b : Bool) (a : ℕ → Bool) → all ≡ o ∷ os → KeepsConditions IsMade holds room s mid → AreOffersMade (IsMade s) all → b ≡ is_at q (outcome_in n o.outcome) → b ≡ true →
      holds mid more a ≡ any_offer n holds s a (is_at q) os → holds t r a ≡ (holds mid o.when a || holds mid more a) → holds t r a ≡ any_offer n holds s a (is_at q) all
  unfolding any_offer
  at_first s mid t q o os all more r b a e k m is yes_it rest made =
      let made_all : AreOffersMade (IsMade s) (o ∷ os) = subst (AreOffersMade (IsMade s)) e m in
      made
      ∙ (ap (λ c. c || holds mid more a) (k.same o.when made_all.0 a)
      ∙ (ap (λ c. holds s o.when a || c) rest
      ∙ (when_there (holds s o.when a) (is_at q (outcome_in n o.outcome)) (any_offer n holds s a (is_at q) os) (sym is ∙ yes_it)
      ∙ ap (any_offer n holds s a (is_at q)) (sym e))))

  held_after : (start s : S) (os : List (Offer C)) (xs : List (At C)) (x : At C) → AreHeld n holds start s os xs → ((a : ℕ → Bool) → holds s x.when a ≡ any_offer n holds start a (is_at (place_in n x.spot)) os) → AreHeld n holds start s os (xs ++ x ∷ [])
  held_after start s os [] x h g = (g, tt)
  held_after start s os (y ∷ xs) x h g = (h.0, held_after start s os xs x h.1 g)

  held_later : (start s t : S) (os : List (Offer C)) (xs : List (At C)) → KeepsConditions IsMade holds room s t → AreAtMade (IsMade s) xs → AreHeld n holds start s os xs → AreHeld n holds start t os xs
  held_later start s t os [] k m h = tt
  held_later start s t os (x ∷ xs) k m h = (λ a. k.same x.when m.0 a ∙ h.0 a, held_later start s t os xs k m.1 h.1)

  pub one_place : (start s t : S) (os : List (Offer C)) (xs longer : List (At C)) (x : At C) → longer ≡ xs ++ x ∷ [] → KeepsConditions IsMade holds room start s → KeepsConditions IsMade holds room s t → AreOffersMade (IsMade start) os → AreAtMade (IsMade s) xs → AreHeld n holds start s os xs →
      ((a : ℕ → Bool) → holds t x.when a ≡ any_offer n holds s a (is_at (place_in n x.spot)) os) → AreHeld n holds start t os longer
  one_place start s t os xs longer x e k l om m h g =
      subst (AreHeld n holds start t os) (sym e) (held_after start t os xs x (held_later start s t os xs l m h) (λ a. g a ∙ offers_same n IsMade holds room a (is_at (place_in n x.spot)) start s os k om))

pub no_table : {S C : Type 0} (n : Numbered) (holds : S → C → (ℕ → Bool) → Bool) (s : S) (os : List (Offer C)) (table : List (At C)) → table ≡ [] → AreHeld n holds s s os table
no_table n holds s os table e = subst (AreHeld n holds s s os) (sym e) tt

ats_after : {C : Type 0} (IsMade : C → Type 0) (xs : List (At C)) (x : At C) → AreAtMade IsMade xs → IsMade x.when → AreAtMade IsMade (xs ++ x ∷ [])
ats_after IsMade [] x m h = (h, tt)
ats_after IsMade (y ∷ xs) x m h = (m.0, ats_after IsMade xs x m.1 h)

ats_kept : {S C : Type 0} (IsMade : S → C → Type 0) (holds : S → C → (ℕ → Bool) → Bool) (room : S → ℕ) (s t : S) (xs : List (At C)) → KeepsConditions IsMade holds room s t → AreAtMade (IsMade s) xs → AreAtMade (IsMade t) xs
ats_kept IsMade holds room s t [] k m = tt
ats_kept IsMade holds room s t (x ∷ xs) k m = (k.made x.when m.0, ats_kept IsMade holds room s t xs k m.1)

pub table_pushed : {S C : Type 0} (IsMade : S → C → Type 0) (holds : S → C → (ℕ → Bool) → Bool) (room : S → ℕ) (s t : S) (old new : List (At C)) (x : At C) → KeepsConditions IsMade holds room s t → new ≡ old ++ x ∷ [] → AreAtMade (IsMade s) old → IsMade t x.when → AreAtMade (IsMade t) new
table_pushed IsMade holds room s t old new x k e m h = subst (AreAtMade (IsMade t)) (sym e) (ats_after (IsMade t) old x (ats_kept IsMade holds room s t old k m) h)

pub spots_pushed : {C : Type 0} (old new : List (At C)) (x : At C) (others spots : List Spot) → new ≡ old ++ x ∷ [] → spots_of old ≡ others → spots ≡ others ++ x.spot ∷ [] → spots_of new ≡ spots
spots_pushed old new x others spots e f g = ap spots_of e ∙ (map-append (λ (x : At _). x.spot) old (x ∷ []) ∙ (ap (λ l. l ++ x.spot ∷ []) f ∙ sym g))

-- ---- the target

-- the entry that is found
found : {C : Type 0} (n : Numbered) (table : List (At C)) (p : Place) (c : C) → at_place n table p ≡ Some c → (x : At C) × Has table x × (p ≡ place_in n x.spot) × (x.when ≡ c)
found n [] p c e = absurd (cc)
found {C = C} n (x ∷ xs) p c e = at (same_place p (place_in n x.spot)) refl (found n xs p c) e
  where
    some_is : {X : Type 0} {x y : X} → Some x ≡ Some y → x ≡ y
    some_is e = cc

    at : (b : Bool) → same_place p (place_in n x.spot) ≡ b → (at_place n xs p ≡ Some c → (y : At C) × Has xs y × (p ≡ place_in n y.spot) × (y.when ≡ c)) → (if b then Some x.when else at_place n xs p) ≡ Some c → (y : At C) × Has (x ∷ xs) y × (p ≡ place_in n y.spot) × (y.when ≡ c)
    at true h goes e = (x, first, same_place-is p (place_in n x.spot) h, some_is e)
    at false h goes e = let y = goes e in (y.0, later y.1, y.2, y.3)

held_of : {S C : Type 0} (n : Numbered) (holds : S → C → (ℕ → Bool) → Bool) (start s : S) (os : List (Offer C)) (xs : List (At C)) (x : At C) → Has xs x → AreHeld n holds start s os xs → (a : ℕ → Bool) → holds s x.when a ≡ any_offer n holds start a (is_at (place_in n x.spot)) os
held_of n holds start s os [] x there h a = elim there [ ]
held_of n holds start s os (y ∷ xs) z first h a = h.0 a
held_of n holds start s os (y ∷ xs) z (later there) h a = held_of n holds start s os xs z there h.1 a

-- an element that is kept is read as its value
pub read_kept : {S C : Type 0} (holds : S → C → (ℕ → Bool) → Bool) (s : S) (problem : Problem) (cells : List (Cell C)) (v : View) → IsSeen holds s problem cells v → (a : ℕ → Bool) (p : AbsOutcome → Bool) (family : ℕ) (ps : List Place) (o : Option Family) → v.kept family ps ≡ true → is_among (places_of_family v.world v.kept o) (v.state a family ps) ≡ true →
    cell_any v.world.classes holds s a p family ps (places_of_family v.world v.kept o) cells ≡ p (Some (v.state a family ps))
read_kept holds s problem cells v h a p family ps None kept there = absurd (cc)
read_kept holds s problem cells v h a p family ps (Some f) kept there =
    cell-reads holds s problem cells v h a p family f ps ∙ (ap (λ b. list_any p (if b then Some (v.state a family ps) ∷ [] else map Some (places_in v.world f.value))) kept ∙ alone (p (Some (v.state a family ps))))
  where
    alone : (b : Bool) → (b || false) ≡ b
    alone true = refl
    alone false = refl

pub element_target : {S C : Type 0} (holds : S → C → (ℕ → Bool) → Bool) (s mid t : S) (problem : Problem) (cells : List (Cell C)) (v : View) → IsSeen holds s problem cells v → (family : ℕ) (ps : List Place) → IsElementOf v family ps →
    (indexes shown every places : List Spot) (offers os : List (Offer C)) (table : List (At C)) (x : Target C) → map (place_in v.world.classes) indexes ≡ ps → shown ≡ indexes → places ≡ every → os ≡ offers → x.indexes ≡ indexes → x.table ≡ table →
    map (place_in v.world.classes) every ≡ places_of_family v.world v.kept (slice_get v.world.classes.families family) → spots_of table ≡ places → AreHeld v.world.classes holds mid t os table →
    ((p : AbsOutcome → Bool) (a : ℕ → Bool) → any_offer v.world.classes holds mid a p offers ≡ cell_any v.world.classes holds s a p family (map (place_in v.world.classes) shown) (map (place_in v.world.classes) places) cells) →
    ((a : ℕ → Bool) → holds t x.always a ≡ true) → ((a : ℕ → Bool) → holds t x.never a ≡ false) → IsTarget holds t x (aim_of v family ps)
element_target holds s mid t problem cells v h family ps element indexes shown every places offers os table x are_indexes e f g i j are_places are_spots held read always never =
    let n : Numbered = v.world.classes in
    let o : Option Family = slice_get n.families family in
    record {
      indexes = ap (map (place_in n)) i ∙ are_indexes;
      every = ap (map (λ (x : At _). place_in n x.spot)) j ∙ (sym (map-map (place_in n) (λ (x : At _). x.spot) table) ∙ (ap (map (place_in n)) (are_spots ∙ f) ∙ are_places));
      held = λ p c at a.
          let y = found n table p c (ap (λ l. at_place n l p) (sym j) ∙ at) in
          ap (λ d. holds t d a) (sym y.3)
          ∙ (held_of n holds mid t os table y.0 y.1 held a
          ∙ (ap (any_offer n holds mid a (is_at (place_in n y.0.spot))) g
          ∙ (read (is_at (place_in n y.0.spot)) a
          ∙ (ap (λ qs. cell_any n holds s a (is_at (place_in n y.0.spot)) family qs (map (place_in n) places) cells) (ap (map (place_in n)) e ∙ are_indexes)
          ∙ (ap (λ qs. cell_any n holds s a (is_at (place_in n y.0.spot)) family ps qs cells) (ap (map (place_in n)) f ∙ are_places)
          ∙ (read_kept holds s problem cells v h a (is_at (place_in n y.0.spot)) family ps o element.kept (element.of_type a)
          ∙ ap (λ q. same_place q (v.state a family ps)) (sym y.2)))))));
      always = always;
      never = never;
      of_type = element.of_type;
    }
  where
    map-map : {X Y Z : Type 0} (f : Y → Z) (g : X → Y) (xs : List X) → map f (map g xs) ≡ map (λ x. f (g x)) xs
    map-map f g [] = refl
    map-map f g (x ∷ xs) = ap (λ l. f (g x) ∷ l) (map-map f g xs)
