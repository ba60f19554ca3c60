-- A design and another one with monitors besides.
use Rattle.law_lists.proofs.Each.{each_filter, each_weaker}
use Rattle.law_lists.proofs.Booleans.{impossible, right_of}
use Rattle.std.proofs.lemmas.Bool.{not-true}
use Rattle.std.proofs.Common.{◌≡◌, List, [], ◌∷◌, ◌++◌, map, filter, find, Option, Some, None, option_map, Bool, true, false, not, ◌&&◌, ◌||◌, cond, All, Contains, get_or, refl, sym, ap, ◌∙◌, subst, true≢false, is_some}
use Rattle.std.specs.Str.{bytes_eq}
use Rattle.std.specs.List.{AllByRecursion, list_any}
use Rattle.std.proofs.lemmas.Slice.Eq.{slice_eq-Decides, bytes_eq-Decides}
use Rattle.std.proofs.lemmas.List.Elements.{All-filter, filter_passes}
use Rattle.smv_core.specs.Values.{Name, Path, Value, Sizes, Outcome, values_of}
use Rattle.smv_core.specs.Types.{Types, Family}
use Rattle.smv_core.specs.FlatOrder.{TextDesign, Met, Said}
use Rattle.smv_core.specs.Outcome.{State, family_at, same_path, or_signal}
use Rattle.smv_core.specs.Walk.{Element, walk, first}
use Rattle.smv_core.specs.Assignments.{Assigned, concerns}
use Rattle.smv_core.specs.Allowed.{is_layer, assignments_in, definition_set, every_value, values_at, scene_at, is_concerned, walk_set, kept, stepped, allowed, allowed_by_base, base_of, Base, is_defined_by, layer_that_defines}
use Rattle.smv_core.specs.Sound.{indexes_in, AtEachTime, IsTyped, MeetsBase}
use Rattle.smv_core.specs.declared.tree.Kind.{Kind}
use Rattle.smv_core.specs.declared.tree.Kind.TheVariants.{Comb, Init, Next}
use Rattle.law_watched_runs.specs.Paths.{EachReadIn}
use Rattle.law_watched_runs.specs.Extended.{statements, is_fresh, IsOld, is_kept, is_other_layer, Extends, Agree, AgreeBefore, BasesAreSame, RunsRestrict}
use Rattle.law_watched_runs.proofs.SamePaths.{walk-same}

pub path-equal : (p q : Path) → same_path p q ≡ true → p ≡ q
path-equal p q = (slice_eq-Decides bytes_eq-Decides p q (same_path p q) refl).0

name-equal : (a b : Name) → bytes_eq a b ≡ true → a ≡ b
name-equal a b = (bytes_eq-Decides a b).0

pub layer-equal : (a b : Option Name) → is_layer a b ≡ true → a ≡ b
layer-equal None None h = refl
layer-equal (Some a) (Some b) h = ap Some (name-equal a b h)
layer-equal None (Some b) h = absurd (true≢false (sym h))
layer-equal (Some a) None h = absurd (true≢false (sym h))

-- ---- lists of which some are left out

pub find-filter : {X : Type 0} (test keep : X → Bool) (xs : List X) → AllByRecursion (λ x. test x ≡ true → keep x ≡ true) xs → find test xs ≡ find test (filter keep xs)
find-filter test keep [] h = refl
find-filter test keep (x ∷ xs) h = by_tests (test x) (keep x) refl refl (find-filter test keep xs h.1)
  where
    by_tests : (t k : Bool) → test x ≡ t → keep x ≡ k → find test xs ≡ find test (filter keep xs) → cond t (Some x) (find test xs) ≡ find test (cond k (x ∷ filter keep xs) (filter keep xs))
    by_tests true true e f r = ap (λ b. cond b (Some x) (find test (filter keep xs))) (sym e)
    by_tests true false e f r = impossible (keep x) (h.0 e) f
    by_tests false true e f r = r ∙ ap (λ b. cond b (Some x) (find test (filter keep xs))) (sym e)
    by_tests false false e f r = r

filter-filter : {X : Type 0} (test keep : X → Bool) → ((x : X) → test x ≡ true → keep x ≡ true) → (xs : List X) → filter test (filter keep xs) ≡ filter test xs
filter-filter test keep h [] = refl
filter-filter test keep h (x ∷ xs) = by_tests (test x) (keep x) refl refl (filter-filter test keep h xs)
  where
    by_tests : (t k : Bool) → test x ≡ t → keep x ≡ k → filter test (filter keep xs) ≡ filter test xs → filter test (cond k (x ∷ filter keep xs) (filter keep xs)) ≡ cond t (x ∷ filter test xs) (filter test xs)
    by_tests true true e f r = ap (λ b. cond b (x ∷ filter test (filter keep xs)) (filter test (filter keep xs))) e ∙ ap (λ l. x ∷ l) r
    by_tests true false e f r = impossible (keep x) (h x e) f
    by_tests false true e f r = ap (λ b. cond b (x ∷ filter test (filter keep xs)) (filter test (filter keep xs))) e ∙ r
    by_tests false false e f r = r

each-true : {X : Type 0} (P : X → Type 0) → ((x : X) → P x) → (xs : List X) → AllByRecursion P xs
each-true P h [] = tt
each-true P h (x ∷ xs) = (h x, each-true P h xs)

map-each : {X Y : Type 0} (P : X → Type 0) (F G : X → Y) → ((x : X) → P x → F x ≡ G x) → (xs : List X) → AllByRecursion P xs → map F xs ≡ map G xs
map-each P F G h [] all = refl
map-each P F G h (x ∷ xs) all = rw (h x all.0, map-each P F G h xs all.1) refl

pub some-same : {X : Type 0} (u w : X) → Some u ≡ Some w → u ≡ w
some-same u w k = cc

pub none-some : {X Y : Type 0} (x : X) → None ≡ Some x → Y
none-some x k = cc

pub filter-keeps : {X : Type 0} (keep : X → Bool) (ys : List X) → AllByRecursion (λ y. keep y ≡ true) (filter keep ys)
filter-keeps keep [] = tt
filter-keeps keep (y ∷ ys) = by_test (keep y) refl (filter-keeps keep ys)
  where
    by_test : (b : Bool) → keep y ≡ b → AllByRecursion (λ z. keep z ≡ true) (filter keep ys) → AllByRecursion (λ z. keep z ≡ true) (cond b (y ∷ filter keep ys) (filter keep ys))
    by_test true k h = (k, h)
    by_test false k h = h

pub find-among : {X : Type 0} (P : X → Type 0) (test : X → Bool) (ys : List X) (x : X) → AllByRecursion P ys → find test ys ≡ Some x → P x
find-among P test [] x all f = none-some x f
find-among P test (y ∷ ys) x all f = by_test (test y) f (λ k. find-among P test ys x all.1 k)
  where
    by_test : (b : Bool) → cond b (Some y) (find test ys) ≡ Some x → (find test ys ≡ Some x → P x) → P x
    by_test true k h = subst P (some-same y x k) all.0
    by_test false k h = h k

-- ---- paths

module _ (fresh : List Name) where
  pub behind-instance : (instance p : Path) → IsOld fresh p → is_fresh fresh (instance ++ p) ≡ false
  behind-instance [] [] h = absurd h
  behind-instance [] (name ∷ more) h = h
  behind-instance (n ∷ []) [] h = absurd h
  behind-instance (n ∷ []) (name ∷ more) h = h
  behind-instance (n ∷ m ∷ instance) p h = behind-instance (m ∷ instance) p h

  -- families of old paths
  pub family-same : (families families' : List Family) → filter (is_kept fresh) families' ≡ families → (p : Path) → is_fresh fresh p ≡ false → family_at families' p ≡ family_at families p
  family-same families families' e p h =
      find-filter (λ f. same_path f.path p) (is_kept fresh) families' (each-true _ (λ f k. ap not (ap (is_fresh fresh) (path-equal f.path p k) ∙ h)) families') ∙ ap (find (λ f. same_path f.path p)) e

  pub found-path : (families : List Family) (p : Path) (f : Family) → family_at families p ≡ Some f → f.path ≡ p
  found-path [] p f e = none-some f e
  found-path (g ∷ families) p f e = by_test (same_path g.path p) refl e (λ q. found-path families p f q)
    where
      by_test : (b : Bool) → same_path g.path p ≡ b → cond b (Some g) (family_at families p) ≡ Some f → (family_at families p ≡ Some f → f.path ≡ p) → f.path ≡ p
      by_test true k q h = ap (λ x. x.path) (sym (some-same g f q)) ∙ path-equal g.path p k
      by_test false k q h = h q

  pub signal-same : (families families' : List Family) → filter (is_kept fresh) families' ≡ families → (sizes : Sizes) (s t : State) → Agree fresh s t → (instance p : Path) → IsOld fresh p → (us : List Outcome) →
      or_signal sizes t None (family_at families' (instance ++ p)) p us ≡ or_signal sizes s None (family_at families (instance ++ p)) p us
  signal-same families families' e sizes s t agree instance p old us =
      ap (λ f. or_signal sizes t None f p us) (family-same families families' e (instance ++ p) (behind-instance instance p old))
      ∙ by_family (family_at families (instance ++ p)) refl
    where
      by_family : (o : Option Family) → family_at families (instance ++ p) ≡ o → or_signal sizes t None o p us ≡ or_signal sizes s None o p us
      by_family None k = refl
      by_family (Some f) k = values _
        where
          values : (o : Option (List Value)) → option_map (t f.path) o ≡ option_map (s f.path) o
          values None = refl
          values (Some vs) = ap Some (agree f.path (ap (is_fresh fresh) (found-path families (instance ++ p) f k) ∙ behind-instance instance p old) vs)

  -- ---- definitions

  module _ (layer : Name) (sizes : Sizes) (types : Types) (families families' : List Family) (met met' : List Met)
      (same-families : filter (is_kept fresh) families' ≡ families)
      (same-said : filter (is_other_layer layer) (statements (record { types = types; families = families'; met = met' })) ≡ statements (record { types = types; families = families; met = met }))
      (reads : AllByRecursion (λ x. EachReadIn (IsOld fresh) x.act) (statements (record { types = types; families = families; met = met }))) where
    abbrev d : TextDesign
    d = record { types = types; families = families; met = met }

    abbrev e : TextDesign
    e = record { types = types; families = families'; met = met' }

    set-same : (other : Option Name) → is_layer other (Some layer) ≡ false → definition_set e other ≡ definition_set d other
    set-same other h =
        sym (filter-filter (λ x. is_layer x.layer other) (is_other_layer layer) (λ x k. ap (λ l. not (is_layer l (Some layer))) (layer-equal x.layer other k) ∙ ap not h) (statements e))
        ∙ ap (filter (λ x. is_layer x.layer other)) same-said

    concerned-same : (other : Option Name) → is_layer other (Some layer) ≡ false → (x : Element) (kind : Kind) → is_concerned e other x kind ≡ is_concerned d other x kind
    concerned-same other h x kind = ap (list_any (λ act. list_any (concerns kind x) (assignments_in act))) (set-same other h)

    every-same : (x : Element) → is_fresh fresh x.path ≡ false → every_value e sizes x ≡ every_value d sizes x
    every-same x h = ap (values_at sizes) (family-same families families' same-families x.path h)

    walks-same : (other : Option Name) → is_layer other (Some layer) ≡ false → (x : Element) → is_fresh fresh x.path ≡ false → (kind : Kind) (s t : State) → Agree fresh s t → walk_set e sizes other x kind t ≡ walk_set d sizes other x kind s
    walks-same other h x old kind s t agree =
        ap (λ acts. first (map (λ act. walk (scene_at e sizes act.instance) t kind x (every_value e sizes x) act.act []) acts)) (set-same other h)
        ∙ ap (λ every. first (map (λ act. walk (scene_at e sizes act.instance) t kind x every act.act []) (definition_set d other))) (every-same x old)
        ∙ ap first (map-each (λ act. EachReadIn (IsOld fresh) act.act) (λ act. walk (scene_at e sizes act.instance) t kind x (every_value d sizes x) act.act []) (λ act. walk (scene_at d sizes act.instance) s kind x (every_value d sizes x) act.act [])
        (λ act k. walk-same (IsOld fresh) types families families' sizes act.instance s t (λ p q us. signal-same families families' same-families sizes s t agree act.instance p q us) kind x (every_value d sizes x) act.act [] k)
        (definition_set d other) (each_filter _ (λ act. is_layer act.layer other) (statements d) reads))

    kept-same : (other : Option Name) → is_layer other (Some layer) ≡ false → (x : Element) → is_fresh fresh x.path ≡ false → (s t : State) → Agree fresh s t → kept e sizes other x t ≡ kept d sizes other x s
    kept-same other h x old s t agree = rw (concerned-same other h x Next, every-same x old, agree x.path old x.indexes) refl

    stepped-same : (other : Option Name) → is_layer other (Some layer) ≡ false → (x : Element) → is_fresh fresh x.path ≡ false → (before after : Option State) → AgreeBefore fresh before after → (s t : State) → Agree fresh s t →
        stepped e sizes other x after t ≡ stepped d sizes other x before s
    stepped-same other h x old None None past s t agree = rw (walks-same other h x old Init s t agree, every-same x old) refl
    stepped-same other h x old (Some p) (Some q) past s t agree = rw (walks-same other h x old Next p q past, kept-same other h x old p q past) refl
    stepped-same other h x old None (Some q) past s t agree = absurd past
    stepped-same other h x old (Some p) None past s t agree = absurd past

    pub allowed-same : (other : Option Name) → is_layer other (Some layer) ≡ false → (x : Element) → is_fresh fresh x.path ≡ false → (before after : Option State) → AgreeBefore fresh before after → (s t : State) → Agree fresh s t →
        allowed e sizes other x after t ≡ allowed d sizes other x before s
    allowed-same other h x old before after past s t agree =
        rw (concerned-same other h x Comb, walks-same other h x old Comb s t agree, every-same x old, stepped-same other h x old before after past s t agree) refl

    abbrev by-layer : TextDesign → Element → Option State → State → Base → List Value
    by-layer g x before s None = every_value g sizes x
    by-layer g x before s (Some other) = allowed g sizes other x before s

    pub by-base : (o : Base) → ((other : Option Name) → o ≡ Some other → is_layer other (Some layer) ≡ false) → (x : Element) → is_fresh fresh x.path ≡ false → (before after : Option State) → AgreeBefore fresh before after →
        (s t : State) → Agree fresh s t → by-layer e x after t o ≡ by-layer d x before s o
    by-base None h x old before after past s t agree = every-same x old
    by-base (Some other) h x old before after past s t agree = allowed-same other (h other refl) x old before after past s t agree

  pub any-fresh : (p : Path) (as' : List Assigned) → AllByRecursion (λ (a : Assigned). is_fresh fresh a.path ≡ true) as' → list_any (λ (a : Assigned). same_path a.path p) as' ≡ true → is_fresh fresh p ≡ true
  any-fresh p [] all h = absurd (true≢false (sym h))
  any-fresh p (a ∷ more) all h = by_test (same_path a.path p) refl h (λ k. any-fresh p more all.1 k)
    where
      by_test : (b : Bool) → same_path a.path p ≡ b → b || list_any (λ (x : Assigned). same_path x.path p) more ≡ true → (list_any (λ (x : Assigned). same_path x.path p) more ≡ true → is_fresh fresh p ≡ true) → is_fresh fresh p ≡ true
      by_test true k q rest = ap (is_fresh fresh) (sym (path-equal a.path p k)) ∙ all.0
      by_test false k q rest = rest q

  module _ (layer : Name) (d e : TextDesign) (p : Path) (old : is_fresh fresh p ≡ false)
      (said : filter (is_other_layer layer) (statements e) ≡ statements d)
      (own : AllByRecursion (λ x. is_other_layer layer x ≡ false → AllByRecursion (λ (a : Assigned). is_fresh fresh a.path ≡ true) (assignments_in x)) (statements e)) where
    abbrev defines : Said → Bool
    defines act = is_some act.layer && is_defined_by p act

    find-same : find defines (statements e) ≡ find defines (statements d)
    find-same = find-filter defines (is_other_layer layer) (statements e) (each_weaker _ _ one (statements e) own) ∙ ap (find defines) said
      where
        one : (x : Said) → (is_other_layer layer x ≡ false → AllByRecursion (λ (a : Assigned). is_fresh fresh a.path ≡ true) (assignments_in x)) → defines x ≡ true → is_other_layer layer x ≡ true
        one x h k = by_test (is_other_layer layer x) refl
          where
            by_test : (b : Bool) → is_other_layer layer x ≡ b → b ≡ true
            by_test true g = refl
            by_test false g = impossible (is_fresh fresh p) (any-fresh p (assignments_in x) (h g) (right_of (is_some x.layer) (is_defined_by p x) k)) old

    layer-same : layer_that_defines p e.met ≡ layer_that_defines p d.met
    layer-same = ap (option_map (λ act. act.layer)) find-same

    other-layer : (other : Option Name) → layer_that_defines p d.met ≡ Some other → is_layer other (Some layer) ≡ false
    other-layer other h = by_found (find defines (statements d)) refl h
      where
        by_found : (o : Option Said) → find defines (statements d) ≡ o → option_map (λ act. act.layer) o ≡ Some other → is_layer other (Some layer) ≡ false
        by_found None k q = none-some other q
        by_found (Some x) k q =
            let kept : is_other_layer layer x ≡ true = find-among (λ y. is_other_layer layer y ≡ true) defines (statements d) x (subst (AllByRecursion (λ y. is_other_layer layer y ≡ true)) said (filter-keeps (is_other_layer layer) (statements e))) k in
            subst (λ l. is_layer l (Some layer) ≡ false) (some-same x.layer other q) (not-true (is_layer x.layer (Some layer)) kept)

abbrev pub by_layer_of : TextDesign → Sizes → Element → Option State → State → Base → List Value
by_layer_of g sizes x before s None = every_value g sizes x
by_layer_of g sizes x before s (Some other) = allowed g sizes other x before s

-- a family of an old path has the same base definition
pub base-same : (fresh : List Name) (layer : Name) (sizes : Sizes) (d e : TextDesign) → Extends fresh layer sizes d e → (f : Family) → is_fresh fresh f.path ≡ false → base_of e f ≡ base_of d f
base-same fresh layer sizes d e extends f old = ap (λ o. cond f.is_abstract o (Some None)) (layer-same fresh layer d e f.path old extends.said extends.own)

pub bases-same : BasesAreSame
bases-same fresh layer sizes d e extends f old vs before after past s t agree =
    subst (λ types. allowed_by_base (record { types = types; families = e.families; met = e.met }) sizes f (record { path = f.path; indexes = vs }) after t ≡ allowed_by_base d sizes f (record { path = f.path; indexes = vs }) before s)
    (sym extends.types)
    (ap (by_layer_of (record { types = d.types; families = e.families; met = e.met }) sizes (record { path = f.path; indexes = vs }) after t) (base-same fresh layer sizes d e extends f old)
    ∙ by-base fresh layer sizes d.types d.families e.families d.met e.met extends.families extends.said extends.reads (base_of d f) (others f.is_abstract) (record { path = f.path; indexes = vs }) old before after past s t agree)
  where
    others : (b : Bool) (other : Option Name) → cond b (layer_that_defines f.path d.met) (Some None) ≡ Some other → is_layer other (Some layer) ≡ false
    others true other h = other-layer fresh layer d e f.path old extends.said extends.own other h
    others false other h = subst (λ o. is_layer o (Some layer) ≡ false) (some-same None other h) refl

pub all-each : {X : Type 0} (P Q : X → Type 0) → ((x : X) → P x → Q x) → (xs : List X) → All P xs → All Q xs
all-each P Q h xs p k d lt = h (get_or xs k d) (p k d lt)

pub all-of-two : {X : Type 0} (P R Q : X → Type 0) → ((x : X) → P x → R x → Q x) → (xs : List X) → All P xs → All R xs → All Q xs
all-of-two P R Q h xs p r k d lt = h _ (p k d lt) (r k d lt)

pub itself-agrees : (fresh : List Name) (s : State) → Agree fresh s s
itself-agrees fresh s p h vs = refl

pub before-agrees : (fresh : List Name) (before : Option State) → AgreeBefore fresh before before
before-agrees fresh None = tt
before-agrees fresh (Some s) = itself-agrees fresh s

module _ (fresh : List Name) (layer : Name) (sizes : Sizes) (d e : TextDesign) (extends : Extends fresh layer sizes d e) where
  typed-old : (s : State) → IsTyped e sizes s → IsTyped d sizes s
  typed-old s h = subst (All (λ f. All (λ vs. Contains (values_of sizes f.value) (s f.path vs)) (indexes_in sizes f))) extends.families (All-filter (is_kept fresh) (λ f. All (λ vs. Contains (values_of sizes f.value) (s f.path vs)) (indexes_in sizes f)) e.families h)

  abbrev AllowedAll : TextDesign → Option State → State → Family → Type 0
  AllowedAll g before s f = All (λ vs. Contains (allowed_by_base g sizes f (record { path = f.path; indexes = vs }) before s) (s f.path vs)) (indexes_in sizes f)

  meets-old : (before : Option State) (s : State) → MeetsBase e sizes before s → MeetsBase d sizes before s
  meets-old before s h = subst (All (AllowedAll d before s)) extends.families
      (all-of-two (AllowedAll e before s) (λ f. is_kept fresh f ≡ true) (AllowedAll d before s)
      (λ f all kept_f. all-each (λ vs. Contains (allowed_by_base e sizes f (record { path = f.path; indexes = vs }) before s) (s f.path vs)) (λ vs. Contains (allowed_by_base d sizes f (record { path = f.path; indexes = vs }) before s) (s f.path vs))
      (λ vs. subst (λ l. Contains l (s f.path vs)) (bases-same fresh layer sizes d e extends f (not-true (is_fresh fresh f.path) kept_f) vs before before (before-agrees fresh before) s s (itself-agrees fresh s))) (indexes_in sizes f) all)
      (filter (is_kept fresh) e.families) (All-filter (is_kept fresh) (AllowedAll e before s) e.families h) (filter_passes (is_kept fresh) e.families))

  meets-along : (before : Option State) (run : List State) → AtEachTime (MeetsBase e sizes) before run → AtEachTime (MeetsBase d sizes) before run
  meets-along before [] h = tt
  meets-along before (s ∷ run) h = (meets-old before s h.0, meets-along (Some s) run h.1)

  typed-along : (run : List State) → All (IsTyped e sizes) run → All (IsTyped d sizes) run
  typed-along run h = all-each (IsTyped e sizes) (IsTyped d sizes) typed-old run h

pub restrict : RunsRestrict
restrict fresh layer sizes d e extends [] isrun = isrun
restrict fresh layer sizes d e extends (s ∷ run) isrun = (typed-along fresh layer sizes d e extends (s ∷ run) isrun.0, meets-along fresh layer sizes d e extends None (s ∷ run) isrun.1)
