-- Designs that say the same have the same runs and the same maps.
use Rattle.std.proofs.Common.{◌≡◌, ◌<◌, ℕ, zero, suc, List, [], ◌∷◌, ◌++◌, map, flat_map, filter, length, get_or, Option, Some, None, option_map, option_to_list, unwrap_or, is_some, Bool, true, false, ◌&&◌, if◌then◌else◌, not, refl, sym, ap, ◌∙◌, subst, All, Contains, arith}
use Rattle.std.specs.Prelude.{find}
use Rattle.std.specs.List.{AllZip, list_any}
use Rattle.smv_core.specs.Values.{Name, Path, Value, Sizes}
use Rattle.smv_core.specs.Types.{Types, Family}
use Rattle.smv_core.specs.FlatOrder.{TextDesign, Met, said, claimed, Said, Claimed}
use Rattle.smv_core.specs.Outcome.{State, family_at}
use Rattle.smv_core.specs.Walk.{Element, walk, first}
use Rattle.smv_core.specs.Assignments.{Assigned, concerns}
use Rattle.smv_core.specs.Allowed.{said_in, definition_set, assignments_in, every_value, scene_at, is_concerned, walk_set, kept, stepped, allowed, is_layer, Base, is_defined_by, layer_that_defines, base_of, allowed_by_base}
use Rattle.smv_core.specs.Sound.{AtEachTime, ProofUnit, map_of, claim_of, same_unit, once, map_unless_base, maps_of, units_met, units, Holds, MeetsBase, IsRun, indexes_in}
use Rattle.smv_core.specs.declared.tree.Kind.{Kind}
use Rattle.smv_core.specs.declared.tree.Kind.TheVariants.{Comb, Init, Next}
use Rattle.law_places.specs.Likeness.{IsLikeSaid, IsLikeMet, IsLike, AlwaysHolds, AllHold, AreCarried}

-- ---- lists

pub zipped-append : {X Y : Type 0} (R : X → Y → Type 0) (xs : List X) (ys : List Y) (vs : List X) (ws : List Y) → AllZip R xs ys → AllZip R vs ws → AllZip R (xs ++ vs) (ys ++ ws)
zipped-append R [] [] vs ws p q = q
zipped-append R (x ∷ xs) (y ∷ ys) vs ws p q = (p.0, zipped-append R xs ys vs ws p.1 q)
zipped-append R [] (y ∷ ys) vs ws p q = absurd p
zipped-append R (x ∷ xs) [] vs ws p q = absurd p

pub zipped-filter : {X Y : Type 0} {R : X → Y → Type 0} (f : X → Bool) (g : Y → Bool) → ((x : X) (y : Y) → R x y → f x ≡ g y) → (xs : List X) (ys : List Y) → AllZip R xs ys → AllZip R (filter f xs) (filter g ys)
zipped-filter f g h [] [] p = tt
zipped-filter {X} {Y} {R} f g h (x ∷ xs) (y ∷ ys) p = by_test (f x) (g y) (h x y p.0) (zipped-filter f g h xs ys p.1)
  where
    by_test : (a b : Bool) → a ≡ b → AllZip R (filter f xs) (filter g ys) → AllZip R (if a then x ∷ filter f xs else filter f xs) (if b then y ∷ filter g ys else filter g ys)
    by_test true true e q = (p.0, q)
    by_test false false e q = q
    by_test true false e q = absurd (cc)
    by_test false true e q = absurd (cc)
zipped-filter f g h [] (y ∷ ys) p = absurd p
zipped-filter f g h (x ∷ xs) [] p = absurd p

pub zipped-map : {X Y Z : Type 0} {R : X → Y → Type 0} (f : X → Z) (g : Y → Z) → ((x : X) (y : Y) → R x y → f x ≡ g y) → (xs : List X) (ys : List Y) → AllZip R xs ys → map f xs ≡ map g ys
zipped-map f g h [] [] p = refl
zipped-map f g h (x ∷ xs) (y ∷ ys) p = rw (h x y p.0, zipped-map f g h xs ys p.1) refl
zipped-map f g h [] (y ∷ ys) p = absurd p
zipped-map f g h (x ∷ xs) [] p = absurd p

pub zipped-any : {X Y : Type 0} {R : X → Y → Type 0} (f : X → Bool) (g : Y → Bool) → ((x : X) (y : Y) → R x y → f x ≡ g y) → (xs : List X) (ys : List Y) → AllZip R xs ys → list_any f xs ≡ list_any g ys
zipped-any f g h [] [] p = refl
zipped-any f g h (x ∷ xs) (y ∷ ys) p = rw (h x y p.0, zipped-any f g h xs ys p.1) refl
zipped-any f g h [] (y ∷ ys) p = absurd p
zipped-any f g h (x ∷ xs) [] p = absurd p

-- what is read of the first that passes
pub zipped-find : {X Y Z : Type 0} {R : X → Y → Type 0} (f : X → Bool) (g : Y → Bool) (u : X → Z) (v : Y → Z) → ((x : X) (y : Y) → R x y → f x ≡ g y) → ((x : X) (y : Y) → R x y → u x ≡ v y) →
    (xs : List X) (ys : List Y) → AllZip R xs ys → option_map u (find f xs) ≡ option_map v (find g ys)
zipped-find f g u v h k [] [] p = refl
zipped-find f g u v h k (x ∷ xs) (y ∷ ys) p = by_test (f x) (g y) (h x y p.0) (zipped-find f g u v h k xs ys p.1)
  where
    by_test : (a b : Bool) → a ≡ b → option_map u (find f xs) ≡ option_map v (find g ys) → option_map u (if a then Some x else find f xs) ≡ option_map v (if b then Some y else find g ys)
    by_test true true e q = ap Some (k x y p.0)
    by_test false false e q = q
    by_test true false e q = absurd (cc)
    by_test false true e q = absurd (cc)
zipped-find f g u v h k [] (y ∷ ys) p = absurd p
zipped-find f g u v h k (x ∷ xs) [] p = absurd p

pub zipped-all : {X Y : Type 0} {R : X → Y → Type 0} (P : X → Type 0) (Q : Y → Type 0) → ((x : X) (y : Y) → R x y → Q y → P x) → (xs : List X) (ys : List Y) → AllZip R xs ys → All Q ys → All P xs
zipped-all P Q h [] [] p q = λ k d lt. absurd (omega (arith, lt))
zipped-all P Q h (x ∷ xs) (y ∷ ys) p q = λ k d lt. at_place k d lt (zipped-all P Q h xs ys p.1 (λ i w low. q (suc i) w (omega (arith, low))))
  where
    at_place : (k : ℕ) (d : _) → k < length (x ∷ xs) → All P xs → P (get_or (x ∷ xs) k d)
    at_place zero d lt rest = h x y p.0 (q zero y (omega arith))
    at_place (suc k) d lt rest = rest k d (omega (arith, lt))
zipped-all P Q h [] (y ∷ ys) p q = absurd p
zipped-all P Q h (x ∷ xs) [] p q = absurd p

pub each-time : (P Q : Option State → State → Type 0) → ((before : Option State) (s : State) → P before s → Q before s) → (before : Option State) (run : List State) → AtEachTime P before run → AtEachTime Q before run
each-time P Q h before [] p = tt
each-time P Q h before (s ∷ run) p = (h before s p.0, each-time P Q h (Some s) run p.1)

module _ (C : Claimed → Claimed → Type 0) (types : Types) (families : List Family) (m n : List Met) (alike : AllZip (IsLikeMet C) m n) where
  abbrev d : TextDesign
  d = record { types = types; families = families; met = m }

  abbrev e : TextDesign
  e = record { types = types; families = families; met = n }

  saids : (xs ys : List Met) → AllZip (IsLikeMet C) xs ys → AllZip IsLikeSaid (flat_map said_in xs) (flat_map said_in ys)
  saids [] [] p = tt
  saids (said x ∷ xs) (said y ∷ ys) p = (p.0, saids xs ys p.1)
  saids (claimed c ∷ xs) (claimed c' ∷ ys) p = saids xs ys p.1
  saids (said x ∷ xs) (claimed c ∷ ys) p = absurd p.0
  saids (claimed c ∷ xs) (said y ∷ ys) p = absurd p.0
  saids [] (y ∷ ys) p = absurd p
  saids (x ∷ xs) [] p = absurd p

  same-assignments : (x y : Said) → IsLikeSaid x y → assignments_in x ≡ assignments_in y
  same-assignments x y p = rw (p.instance) (p.act.assigns y.instance [])

  sets : (layer : Option Name) → AllZip IsLikeSaid (definition_set d layer) (definition_set e layer)
  sets layer = zipped-filter (λ x. is_layer x.layer layer) (λ y. is_layer y.layer layer) (λ x y p. ap (λ l. is_layer l layer) p.layer) _ _ (saids m n alike)

  same-concerned : (layer : Option Name) (x : Element) (kind : Kind) → is_concerned d layer x kind ≡ is_concerned e layer x kind
  same-concerned layer x kind = zipped-any _ _ (λ a b p. ap (list_any (concerns kind x)) (same-assignments a b p)) _ _ (sets layer)

  module _ (sizes : Sizes) where
    same-walks : (layer : Option Name) (x : Element) (kind : Kind) (s : State) → walk_set d sizes layer x kind s ≡ walk_set e sizes layer x kind s
    same-walks layer x kind s = ap first (zipped-map (λ act. walk (scene_at d sizes act.instance) s kind x (every_value d sizes x) act.act []) (λ act. walk (scene_at e sizes act.instance) s kind x (every_value e sizes x) act.act [])
        (λ a b p. rw (p.instance) (p.act.walks (scene_at d sizes b.instance) s kind x (every_value d sizes x) [])) _ _ (sets layer))

    same-kept : (layer : Option Name) (x : Element) (old : State) → kept d sizes layer x old ≡ kept e sizes layer x old
    same-kept layer x old = ap (λ b. if b then old x.path x.indexes ∷ [] else every_value d sizes x) (same-concerned layer x Next)

    same-stepped : (layer : Option Name) (x : Element) (before : Option State) (now : State) → stepped d sizes layer x before now ≡ stepped e sizes layer x before now
    same-stepped layer x None now = ap (λ w. unwrap_or w (every_value d sizes x)) (same-walks layer x Init now)
    same-stepped layer x (Some old) now = rw (same-walks layer x Next old, same-kept layer x old) refl

    pub same-allowed : (layer : Option Name) (x : Element) (before : Option State) (now : State) → allowed d sizes layer x before now ≡ allowed e sizes layer x before now
    same-allowed layer x before now = rw (same-concerned layer x Comb, same-walks layer x Comb now, same-stepped layer x before now) refl

    same-definer : (path : Path) → layer_that_defines path m ≡ layer_that_defines path n
    same-definer path = zipped-find (λ act. is_some act.layer && is_defined_by path act) (λ act. is_some act.layer && is_defined_by path act) (λ act. act.layer) (λ act. act.layer)
        (λ x y p. rw (p.layer, same-assignments x y p) refl) (λ x y p. p.layer) _ _ (saids m n alike)

    pub same-base : (f : Family) → base_of d f ≡ base_of e f
    same-base f = ap (λ l. if f.is_abstract then l else Some None) (same-definer f.path)

    -- by the definition that restricts runs
    abbrev by_base : TextDesign → Element → Option State → State → Base → List Value
    by_base g x before now None = every_value g sizes x
    by_base g x before now (Some layer) = allowed g sizes layer x before now

    same-by_base : (f : Family) (x : Element) (before : Option State) (now : State) → allowed_by_base d sizes f x before now ≡ allowed_by_base e sizes f x before now
    same-by_base f x before now = ap (by_base d x before now) (same-base f) ∙ each (base_of e f)
      where
        each : (b : Base) → by_base d x before now b ≡ by_base e x before now b
        each None = refl
        each (Some layer) = same-allowed layer x before now

    meets : (before : Option State) (now : State) → MeetsBase d sizes before now → MeetsBase e sizes before now
    meets before now h k f lt i vs low =
        let g = get_or families k f in
        let us = get_or (indexes_in sizes g) i vs in
        subst (λ l. Contains l (now g.path us)) (same-by_base g (record { path = g.path; indexes = us }) before now) (h k f lt i vs low)

    pub runs : (run : List State) → IsRun d sizes run → IsRun e sizes run
    runs [] p = p
    runs (s ∷ run) p = (p.0, each-time (MeetsBase d sizes) (MeetsBase e sizes) meets None (s ∷ run) p.1)

  -- ---- units

  abbrev IsLikeUnit : ProofUnit → ProofUnit → Type 0
  IsLikeUnit (map_of l f) (map_of k g) = (l ≡ k) × (f ≡ g)
  IsLikeUnit (claim_of c) (claim_of c') = C c c'
  IsLikeUnit _ _ = ⊥

  abbrev AreMaps : List ProofUnit → Type 0
  AreMaps [] = Unit {0}
  AreMaps (map_of l f ∷ us) = AreMaps us
  AreMaps (claim_of c ∷ us) = ⊥

  maps-append : (us vs : List ProofUnit) → AreMaps us → AreMaps vs → AreMaps (us ++ vs)
  maps-append [] vs p q = q
  maps-append (map_of l f ∷ us) vs p q = maps-append us vs p q
  maps-append (claim_of c ∷ us) vs p q = absurd p

  maps-flat_map : {X : Type 0} (h : X → List ProofUnit) → ((x : X) → AreMaps (h x)) → (xs : List X) → AreMaps (flat_map h xs)
  maps-flat_map h p [] = tt
  maps-flat_map h p (x ∷ xs) = maps-append (h x) (flat_map h xs) (p x) (maps-flat_map h p xs)

  like-maps : (us : List ProofUnit) → AreMaps us → AllZip IsLikeUnit us us
  like-maps [] p = tt
  like-maps (map_of l f ∷ us) p = ((refl, refl), like-maps us p)
  like-maps (claim_of c ∷ us) p = absurd p

  are-maps : (g : TextDesign) (layer : Option Name) (as' : List Assigned) → AreMaps (maps_of g layer as')
  are-maps g None as' = tt
  are-maps g (Some layer) as' = maps-flat_map _ (λ a. maps-flat_map (map_unless_base g layer) one_map (option_to_list (family_at g.families a.path))) as'
    where
      by_test : (b : Bool) (f : Family) → AreMaps (if b then [] else map_of layer f ∷ [])
      by_test true f = tt
      by_test false f = tt

      is_base : Base → Bool
      is_base None = false
      is_base (Some other) = is_layer other (Some layer)

      one_map : (f : Family) → AreMaps (map_unless_base g layer f)
      one_map f = by_test (is_base (base_of g f)) f

  same-map : (layer : Name) (f : Family) → map_unless_base d layer f ≡ map_unless_base e layer f
  same-map layer f = ap (λ b. if is_base b then [] else map_of layer f ∷ []) (same-base (λ t. 0) f)
    where
      is_base : Base → Bool
      is_base None = false
      is_base (Some other) = is_layer other (Some layer)

  flat_map-same : {X Y : Type 0} (f g : X → List Y) → ((x : X) → f x ≡ g x) → (xs : List X) → flat_map f xs ≡ flat_map g xs
  flat_map-same f g h [] = refl
  flat_map-same f g h (x ∷ xs) = rw (h x, flat_map-same f g h xs) refl

  same-maps : (layer : Option Name) (as' : List Assigned) → maps_of d layer as' ≡ maps_of e layer as'
  same-maps None as' = refl
  same-maps (Some layer) as' = flat_map-same _ _ (λ a. flat_map-same (map_unless_base d layer) (map_unless_base e layer) (same-map layer) (option_to_list (family_at families a.path))) as'

  units-met : (x y : Met) → IsLikeMet C x y → AllZip IsLikeUnit (units_met d x) (units_met e y)
  units-met (said x) (said y) p =
      subst (λ us. AllZip IsLikeUnit us (units_met e (said y))) (sym (rw (p.layer, same-assignments x y p) (same-maps y.layer (assignments_in y)))) (like-maps (units_met e (said y)) (are-maps e y.layer (assignments_in y)))
  units-met (claimed c) (claimed c') p = (p, tt)
  units-met (said x) (claimed c) p = absurd p
  units-met (claimed c) (said y) p = absurd p

  units-all : (xs ys : List Met) → AllZip (IsLikeMet C) xs ys → AllZip IsLikeUnit (flat_map (units_met d) xs) (flat_map (units_met e) ys)
  units-all [] [] p = tt
  units-all (x ∷ xs) (y ∷ ys) p = zipped-append IsLikeUnit (units_met d x) (units_met e y) _ _ (units-met x y p.0) (units-all xs ys p.1)
  units-all [] (y ∷ ys) p = absurd p
  units-all (x ∷ xs) [] p = absurd p

  same-same : (u v : ProofUnit) → IsLikeUnit u v → (a b : ProofUnit) → IsLikeUnit a b → not (same_unit u a) ≡ not (same_unit v b)
  same-same (map_of l f) (map_of k g) p (map_of l' f') (map_of k' g') q = rw (p.0, p.1, q.0, q.1) refl
  same-same (map_of l f) (map_of k g) p (claim_of c) (claim_of c') q = refl
  same-same (claim_of c) (claim_of c') p (map_of l f) (map_of k g) q = refl
  same-same (claim_of c) (claim_of c') p (claim_of b) (claim_of b') q = refl
  same-same (map_of l f) (claim_of c) p a b q = absurd p
  same-same (claim_of c) (map_of l f) p a b q = absurd p
  same-same (map_of l f) (map_of k g) p (map_of l' f') (claim_of c) q = absurd q
  same-same (map_of l f) (map_of k g) p (claim_of c) (map_of l' f') q = absurd q
  same-same (claim_of c) (claim_of c') p (map_of l' f') (claim_of b) q = absurd q
  same-same (claim_of c) (claim_of c') p (claim_of b) (map_of l' f') q = absurd q

  once-like : (us vs : List ProofUnit) → AllZip IsLikeUnit us vs → AllZip IsLikeUnit (once us) (once vs)
  once-like [] [] p = tt
  once-like (u ∷ us) (v ∷ vs) p = (p.0, zipped-filter (λ w. not (same_unit u w)) (λ w. not (same_unit v w)) (same-same u v p.0) (once us) (once vs) (once-like us vs p.1))
  once-like [] (v ∷ vs) p = absurd p
  once-like (u ∷ us) [] p = absurd p

  pub like-units : AllZip IsLikeUnit (units d) (units e)
  like-units = once-like (flat_map (units_met d) m) (flat_map (units_met e) n) (units-all m n alike)

  module _ (sizes : Sizes) (run : List State) (carried : AreCarried C d sizes run) where
    unit-holds : (u v : ProofUnit) → IsLikeUnit u v → AlwaysHolds e sizes run v → AlwaysHolds d sizes run u
    unit-holds (map_of l f) (map_of k g) p h = subst (λ w. AlwaysHolds d sizes run (map_of w f)) (sym p.0) (subst (λ w. AlwaysHolds d sizes run (map_of k w)) (sym p.1) same)
      where
        same : AlwaysHolds d sizes run (map_of k g)
        same i vs low = each-time (Holds e sizes (map_of k g) _) (Holds d sizes (map_of k g) _)
            (λ before now q. subst (λ l. Contains l (now g.path (get_or (indexes_in sizes g) i vs))) (sym (same-allowed sizes (Some k) (record { path = g.path; indexes = get_or (indexes_in sizes g) i vs }) before now)) q) None run (h i vs low)
    unit-holds (claim_of c) (claim_of c') p h = carried c c' p h
    unit-holds (map_of l f) (claim_of c) p h = absurd p
    unit-holds (claim_of c) (map_of l f) p h = absurd p

    pub all-hold : AllHold e sizes run → AllHold d sizes run
    all-hold h = zipped-all (AlwaysHolds d sizes run) (AlwaysHolds e sizes run) unit-holds (units d) (units e) like-units h

pub like_designs_hold : (C : Claimed → Claimed → Type 0) (d e : TextDesign) → IsLike C d e → (sizes : Sizes) (run : List State) → IsRun d sizes run → IsRun e sizes run × (AreCarried C d sizes run → AllHold e sizes run → AllHold d sizes run)
like_designs_hold C d e p sizes run is = (
  subst (λ g. IsRun g sizes run) same (runs C d.types d.families d.met e.met p.met sizes run is),
  λ c h. all-hold C d.types d.families d.met e.met p.met sizes run c (subst (λ g. AllHold g sizes run) (sym same) h),
)
  where
    same : record { types = d.types; families = d.families; met = e.met } ≡ e
    same = rw (p.types, p.families) refl
