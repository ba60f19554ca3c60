-- A definition behind binders, and a reference to a monitor.
use Rattle.law_lists.proofs.Lists.{map_agree}
use Rattle.law_lists.proofs.Booleans.{impossible, left_of, right_of}
use Rattle.std.proofs.lemmas.Bool.{cases_Bool}
use Rattle.std.proofs.Common.{◌≡◌, ◌⊎◌, inl, inr, zero, suc, List, [], ◌∷◌, ◌++◌, map, zip, Some, None, option_map, Bool, true, false, not, ◌&&◌, ◌||◌, cond, Contains, is_none, refl, sym, ap, ◌∙◌, subst, arith, true≢false, eqb-true, eq-eqb, nat_eq}
use Rattle.std.specs.Str.{bytes_eq}
use Rattle.std.specs.List.{list_any}
use Rattle.std.proofs.lemmas.Slice.Eq.{slice_eq-Decides, bytes_eq-Decides}
use Rattle.smv_core.specs.Values.{Name, Path, Value, number, constant, scalar, ordinal, Sizes, Outcome, same, is_in, values_of, value_in, all_defined, Simple}
use Rattle.smv_core.specs.Types.{find_name, values_over}
use Rattle.smv_core.specs.Outcome.{State, Scene, Bindings, outcome, indexes, allowed_by, family_at, fields_of, same_path, or_signal, read}
use Rattle.smv_core.specs.Walk.{Element, Walk, walk, first, first_of, assigned, indexes_of, is_other, same_kind}
use Rattle.smv_core.specs.Sound.{bound}
use Rattle.smv_core.specs.Grammar.{named}
use Rattle.smv_core.specs.declared.tree.Kind.{Kind}
use Rattle.smv_core.specs.declared.tree.Kind.TheVariants.{Comb, Init, Next}
use Rattle.smv_core.specs.declared.tree.Path.{out-Path}
use Rattle.smv_core.specs.declared.tree.Part.{Part, Field, At}
use Rattle.smv_core.specs.declared.tree.Expr.{Expr, Signal, Signal', Row_of-Part, end_of-Part, more_of-Part, items-the_row-Part, items_hidden-the_row-Part-0}
use Rattle.smv_core.specs.declared.tree.Stmt.{Stmt, Assign}
use mathlib.Core.Former.{Count}
use Rattle.law_formulas.specs.Monitors.{Around, names_around, within, word_of, path_of, monitor}
use Rattle.law_formula_trees.specs.Behind.{AreApart, params_of, values_around, AreChosen, MonitorsAreDefined, OthersAreNot, MonitorsAreRead}
use Rattle.law_places.proofs.Computing.{computing}
use Rattle.law_watched_runs.proofs.Extended.{path-equal}

-- ---- names and bound values

name-itself : (a : Name) → bytes_eq a a ≡ true
name-itself a = (bytes_eq-Decides a a).1 refl

pub path-itself : (p : Path) → same_path p p ≡ true
path-itself p = (slice_eq-Decides bytes_eq-Decides p p (same_path p p) refl).1 refl

turned : (a b : Name) → bytes_eq a b ≡ false → bytes_eq b a ≡ false
turned a b h = by_test (bytes_eq b a) refl
  where
    by_test : (t : Bool) → bytes_eq b a ≡ t → t ≡ false
    by_test false e = refl
    by_test true e = impossible (bytes_eq a b) ((bytes_eq-Decides a b).1 (sym ((bytes_eq-Decides b a).0 e))) h

or-none : (a b : Bool) → a || b ≡ false → (a ≡ false) × (b ≡ false)
or-none true b h = absurd (true≢false h)
or-none false b h = (refl, h)

-- what is no parameter is bound as before
bound-other : (around : Around) (vs : List Value) (b : Bindings) (n : Name) → list_any (bytes_eq n) (names_around around) ≡ false → find_name (bound (params_of around) vs b) n ≡ find_name b n
bound-other [] vs b n h = refl
bound-other (binder ∷ around) [] b n h = refl
bound-other (binder ∷ around) (v ∷ vs) b n h =
    let parts = or-none (bytes_eq n binder.0.name) (list_any (bytes_eq n) (names_around around)) h in
    bound-other around vs ((binder.0.name, v) ∷ b) n parts.1 ∙ ap (λ t. cond t (Some v) (find_name b n)) (turned n binder.0.name parts.0)

-- there is a value for each binder
abbrev HasValues : Around → List Value → Type 0
HasValues [] [] = Unit {0}
HasValues (binder ∷ around) (v ∷ vs) = HasValues around vs
HasValues _ _ = ⊥

abbrev found : Bindings → List Name → List Outcome
found b names = map (find_name b) names

-- the names of the binders have the values
bound-finds : (around : Around) (vs : List Value) (b : Bindings) → AreApart (names_around around) → HasValues around vs → found (bound (params_of around) vs b) (names_around around) ≡ map Some vs
bound-finds [] [] b apart has = refl
bound-finds [] (v ∷ vs) b apart has = absurd has
bound-finds (binder ∷ around) [] b apart has = absurd has
bound-finds (binder ∷ around) (v ∷ vs) b apart has =
    both _ _ _ _ (bound-other around vs ((binder.0.name, v) ∷ b) binder.0.name apart.0 ∙ ap (λ t. cond t (Some v) (find_name b binder.0.name)) (name-itself binder.0.name)) (bound-finds around vs ((binder.0.name, v) ∷ b) apart.1 has)
  where
    both : (u w : Outcome) (us ws : List Outcome) → u ≡ w → us ≡ ws → u ∷ us ≡ w ∷ ws
    both u w us ws e k = rw (e, k) refl

-- ---- references

abbrev refs : List Name → List Part
refs names = map (λ var. At (Signal (named (word_of var) []))) names

module _ (scene : Scene) (s : State) where
  outcome-var : (var : Name) (b : Bindings) (v : Value) → find_name b var ≡ Some v → outcome scene s (Signal (named (word_of var) [])) b ≡ Some v
  unfolding computing
  outcome-var var b v h = ap (λ o. or_signal scene.sizes s o (family_at scene.families (scene.instance ++ var ∷ [])) (var ∷ []) []) h

  refs-fields : (names : List Name) → fields_of (refs names) ≡ []
  refs-fields [] = refl
  refs-fields (n ∷ names) = refs-fields names

  refs-outcomes : (names : List Name) (b : Bindings) (vs : List Value) → found b names ≡ map Some vs → map (λ e. outcome scene s e b) (indexes_of (refs names)) ≡ map Some vs
  refs-outcomes [] b [] h = refl
  refs-outcomes [] b (v ∷ vs) h = absurd (differ h)
    where
      differ : {u : Outcome} {us : List Outcome} → [] ≡ u ∷ us → ⊥
      differ k = cc
  refs-outcomes (n ∷ names) b [] h = absurd (differ h)
    where
      differ : {u : Outcome} {us : List Outcome} → u ∷ us ≡ [] → ⊥
      differ k = cc
  refs-outcomes (n ∷ names) b (v ∷ vs) h = both _ _ _ _ (outcome-var n b v (head _ _ _ _ h)) (refs-outcomes names b vs (tail _ _ _ _ h))
    where
      both : (u w : Outcome) (us ws : List Outcome) → u ≡ w → us ≡ ws → u ∷ us ≡ w ∷ ws
      both u w us ws e k = rw (e, k) refl

      head : (u w : Outcome) (us ws : List Outcome) → u ∷ us ≡ w ∷ ws → u ≡ w
      head u w us ws k = cc

      tail : (u w : Outcome) (us ws : List Outcome) → u ∷ us ≡ w ∷ ws → us ≡ ws
      tail u w us ws k = cc

  indexes-row : (n : _) (row : Row_of-Part n) (b : Bindings) → indexes scene s row b ≡ map (λ e. outcome scene s e b) (indexes_of (items-the_row-Part n row))
  indexes-row n end_of-Part b = refl
  indexes-row n (more_of-Part (Field word) rest) b = indexes-row _ rest b
  indexes-row n (more_of-Part (At index) rest) b = ap (λ l. outcome scene s index b ∷ l) (indexes-row _ rest b)

  abbrev parts_in : Expr → (n : Count) × Row_of-Part n
  parts_in (Signal' shape row at) = (_, row)
  parts_in _ = (_, end_of-Part)

  outcome-monitor : (names : List Name) (m : Name) (b : Bindings) → outcome scene s (monitor names m) b ≡ read scene s b (m ∷ fields_of (refs names)) (map (λ e. outcome scene s e b) (indexes_of (refs names)))
  outcome-monitor names m b =
      ap (λ us. read scene s b (fields_of (items-the_row-Part _ (parts_in (monitor names m)).1)) us) (indexes-row _ (parts_in (monitor names m)).1 b)
      ∙ ap (λ parts. read scene s b (fields_of parts) (map (λ e. outcome scene s e b) (indexes_of parts))) (items_hidden-the_row-Part-0 (Field (word_of m) ∷ refs names))

-- ---- values

same-itself : (v : Value) → same v v ≡ true
same-itself (number n) = eq-eqb n n refl
same-itself (constant a) = name-itself a
same-itself (scalar t n) = rw (name-itself t, eq-eqb n n refl) refl
same-itself (ordinal t n) = rw (name-itself t, eq-eqb n n refl) refl

same-equal : (u v : Value) → same u v ≡ true → u ≡ v
same-equal (number m) (number n) h = ap number (eqb-true m n h)
same-equal (constant a) (constant b) h = ap constant ((bytes_eq-Decides a b).0 h)
same-equal (scalar t m) (scalar u n) h = rw ((bytes_eq-Decides t u).0 (left_of (bytes_eq t u) (nat_eq m n) h), eqb-true m n (right_of (bytes_eq t u) (nat_eq m n) h)) refl
same-equal (ordinal t m) (ordinal u n) h = rw ((bytes_eq-Decides t u).0 (left_of (bytes_eq t u) (nat_eq m n) h), eqb-true m n (right_of (bytes_eq t u) (nat_eq m n) h)) refl
same-equal (number m) (constant b) h = absurd (true≢false (sym h))
same-equal (number m) (scalar u n) h = absurd (true≢false (sym h))
same-equal (number m) (ordinal u n) h = absurd (true≢false (sym h))
same-equal (constant a) (number n) h = absurd (true≢false (sym h))
same-equal (constant a) (scalar u n) h = absurd (true≢false (sym h))
same-equal (constant a) (ordinal u n) h = absurd (true≢false (sym h))
same-equal (scalar t m) (number n) h = absurd (true≢false (sym h))
same-equal (scalar t m) (constant b) h = absurd (true≢false (sym h))
same-equal (scalar t m) (ordinal u n) h = absurd (true≢false (sym h))
same-equal (ordinal t m) (number n) h = absurd (true≢false (sym h))
same-equal (ordinal t m) (constant b) h = absurd (true≢false (sym h))
same-equal (ordinal t m) (scalar u n) h = absurd (true≢false (sym h))

contained : (vs : List Value) (v : Value) → Contains vs v → is_in vs v ≡ true
contained [] v (k, l, e) = absurd (omega (arith, l))
contained (u ∷ vs) v (zero, l, e) = ap (λ b. b || is_in vs v) (subst (λ x. same v x ≡ true) (sym e) (same-itself v))
contained (u ∷ vs) v (suc k, l, e) = or-true (same v u) (contained vs v (k, omega (arith, l), e))
  where
    or-true : (b : Bool) → is_in vs v ≡ true → b || is_in vs v ≡ true
    or-true true h = refl
    or-true false h = h

chosen-defined : (sizes : Sizes) (over : List Simple) (vs : List Value) → AreChosen (map (values_of sizes) over) vs → all_defined (map (λ (t, u). value_in (values_of sizes t) u) (zip over (map Some vs))) ≡ Some vs
chosen-defined sizes [] [] h = refl
chosen-defined sizes [] (v ∷ vs) h = absurd h
chosen-defined sizes (t ∷ over) [] h = absurd h
chosen-defined sizes (t ∷ over) (v ∷ vs) h =
    ap (λ b. all_defined (cond b (Some v) None ∷ map (λ (t, u). value_in (values_of sizes t) u) (zip over (map Some vs)))) (contained (values_of sizes t) v h.0) ∙ ap (option_map (λ us. v ∷ us)) (chosen-defined sizes over vs h.1)

chosen-has : (scene : Scene) (around : Around) (vs : List Value) → AreChosen (values_around scene around) vs → HasValues around vs
chosen-has scene [] [] h = tt
chosen-has scene [] (v ∷ vs) h = absurd h
chosen-has scene (binder ∷ around) [] h = absurd h
chosen-has scene (binder ∷ around) (v ∷ vs) h = chosen-has scene around vs h.1

pub monitor-read : MonitorsAreRead
monitor-read scene s around m family vs apart other at over chosen =
    outcome-monitor scene s names m b
    ∙ ap (λ p. read scene s b (m ∷ p) (map (λ e. outcome scene s e b) (indexes_of (refs names)))) (refs-fields scene s names)
    ∙ ap (read scene s b (m ∷ [])) (refs-outcomes scene s names b vs (bound-finds around vs [] apart (chosen-has scene around vs chosen)))
    ∙ ap (λ o. or_signal scene.sizes s o (family_at scene.families (scene.instance ++ m ∷ [])) (m ∷ []) (map Some vs)) (bound-other around vs [] m other)
    ∙ ap (λ f. or_signal scene.sizes s None f (m ∷ []) (map Some vs)) at
    ∙ ap (option_map (s family.path)) (chosen-defined scene.sizes family.over vs (subst (λ l. AreChosen l vs) (sym over) chosen))
  where
    names : List Name
    names = names_around around

    b : Bindings
    b = bound (params_of around) vs []

-- ---- walks

-- over the values of all binders, the first result
abbrev pub over_all : List (List Value) → (List Value → Walk) → Walk
over_all [] F = F []
over_all (values ∷ more) F = first (map (λ v. over_all more (λ us. F (v ∷ us))) values)

abbrev SameCount : List (List Value) → List Value → Type 0
SameCount [] [] = Unit {0}
SameCount (values ∷ more) (u ∷ us) = SameCount more us
SameCount _ _ = ⊥

first-nothing : {X : Type 0} (G : X → Walk) (xs : List X) → ((x : X) → G x ≡ None) → first (map G xs) ≡ None
first-nothing G [] h = refl
first-nothing G (x ∷ xs) h = rw (h x, first-nothing G xs h) refl

pub all-nothing : (lists : List (List Value)) (F : List Value → Walk) → ((us : List Value) → SameCount lists us → F us ≡ None) → over_all lists F ≡ None
all-nothing [] F h = h [] tt
all-nothing (values ∷ more) F h = first-nothing (λ v. over_all more (λ us. F (v ∷ us))) values (λ v. all-nothing more (λ us. F (v ∷ us)) (λ us c. h (v ∷ us) c))

first-hit : (G : Value → Walk) (xs : List Value) (v : Value) (A : List Value) → Contains xs v → ((x : Value) → x ≡ v → G x ≡ Some A) → ((x : Value) → (x ≡ v → ⊥) → G x ≡ None) → first (map G xs) ≡ Some A
first-hit G [] v A (k, l, e) hit miss = absurd (omega (arith, l))
first-hit G (x ∷ xs) v A has hit miss = by_test (cases_Bool (same x v)) (λ c. first-hit G xs v A c hit miss) has
  where
    differ : same x v ≡ false → x ≡ v → ⊥
    differ h e = impossible (same x v) (subst (λ y. same x y ≡ true) e (same-itself x)) h

    behind : same x v ≡ false → Contains (x ∷ xs) v → Contains xs v
    behind h (zero, l, e) = absurd (differ h e)
    behind h (suc k, l, e) = (k, omega (arith, l), e)

    by_test : (same x v ≡ true) ⊎ (same x v ≡ false) → (Contains xs v → first (map G xs) ≡ Some A) → Contains (x ∷ xs) v → first_of (G x) (first (map G xs)) ≡ Some A
    by_test (inl h) rest c = ap (λ w. first_of w (first (map G xs))) (hit x (same-equal x v h))
    by_test (inr h) rest c = ap (λ w. first_of w (first (map G xs))) (miss x (differ h)) ∙ rest (behind h c)

all-hit : (lists : List (List Value)) (F : List Value → Walk) (vs A : List Value) → AreChosen lists vs → F vs ≡ Some A → ((us : List Value) → SameCount lists us → (us ≡ vs → ⊥) → F us ≡ None) → over_all lists F ≡ Some A
all-hit [] F [] A chosen hit miss = hit
all-hit [] F (v ∷ vs) A chosen hit miss = absurd chosen
all-hit (values ∷ more) F [] A chosen hit miss = absurd chosen
all-hit (values ∷ more) F (v ∷ vs) A chosen hit miss = first-hit (λ x. over_all more (λ us. F (x ∷ us))) values v A chosen.0
    (λ x e. all-hit more (λ us. F (x ∷ us)) vs A chosen.1 (ap (λ y. F (y ∷ vs)) e ∙ hit) (λ us c apart. miss (x ∷ us) c (λ k. apart (tails x v us vs k))))
    (λ x apart. all-nothing more (λ us. F (x ∷ us)) (λ us c. miss (x ∷ us) c (λ k. apart (heads x v us vs k))))
  where
    heads : (x y : Value) (xs ys : List Value) → x ∷ xs ≡ y ∷ ys → x ≡ y
    heads x y xs ys k = cc

    tails : (x y : Value) (xs ys : List Value) → x ∷ xs ≡ y ∷ ys → xs ≡ ys
    tails x y xs ys k = cc

none-of-some : (us : List Value) → list_any is_none (map Some us) ≡ false
none-of-some [] = refl
none-of-some (u ∷ us) = none-of-some us

no-other : (vs : List Value) → list_any (λ (u, v). is_other u v) (zip (map Some vs) vs) ≡ false
no-other [] = refl
no-other (v ∷ vs) = rw (same-itself v, no-other vs) refl

some-other : (lists : List (List Value)) (us vs : List Value) → SameCount lists us → SameCount lists vs → list_any (λ (u, v). is_other u v) (zip (map Some us) vs) ≡ false → us ≡ vs
some-other [] [] [] c k h = refl
some-other [] (u ∷ us) vs c k h = absurd c
some-other [] [] (v ∷ vs) c k h = absurd k
some-other (values ∷ more) [] vs c k h = absurd c
some-other (values ∷ more) (u ∷ us) [] c k h = absurd k
some-other (values ∷ more) (u ∷ us) (v ∷ vs) c k h =
    let parts = or-none (not (same u v)) (list_any (λ (x, y). is_other x y) (zip (map Some us) vs)) h in
    both _ _ _ _ (same-equal u v (not-false-is (same u v) parts.0)) (some-other more us vs c k parts.1)
  where
    not-false-is : (b : Bool) → not b ≡ false → b ≡ true
    not-false-is true e = refl
    not-false-is false e = absurd (true≢false e)

    both : (x y : Value) (xs ys : List Value) → x ≡ y → xs ≡ ys → x ∷ xs ≡ y ∷ ys
    both x y xs ys e l = rw (e, l) refl

kind-itself : (kind : Kind) → same_kind kind kind ≡ true
kind-itself Comb = refl
kind-itself Init = refl
kind-itself Next = refl

module _ (scene : Scene) (s : State) (kind : Kind) (x : Element) (every : List Value) where
  pub walk-within : (around : Around) (act : Stmt) (b : Bindings) → walk scene s kind x every (within around act) b ≡ over_all (values_around scene around) (λ us. walk scene s kind x every act (bound (params_of around) us b))
  unfolding computing
  walk-within [] act b = refl
  walk-within (binder ∷ around) act b =
      ap first (map_agree (λ v. walk scene s kind x every (within around act) ((binder.0.name, v) ∷ b)) (λ v. over_all (values_around scene around) (λ us. walk scene s kind x every act (bound (params_of around) us ((binder.0.name, v) ∷ b))))
      (λ v. walk-within around act ((binder.0.name, v) ∷ b)) (values_over scene.types scene.sizes binder.1))

  path-fields : (names : List Name) (m : Name) → scene.instance ++ fields_of (out-Path (path_of names m)).parts ≡ scene.instance ++ m ∷ []
  path-fields names m = ap (λ p. scene.instance ++ m ∷ p) (refs-fields scene s names)

  pub walk-assign : (which : Kind) (names : List Name) (m : Name) (e : Expr) (b : Bindings) → walk scene s kind x every (Assign which (path_of names m) e 0) b ≡
      cond (same_kind which kind && same_path (scene.instance ++ m ∷ []) x.path) (assigned scene s kind x every (map (λ i. outcome scene s i b) (indexes_of (refs names))) e b) None
  walk-assign which names m e b = ap (λ p. cond (same_kind which kind && same_path p x.path) (assigned scene s kind x every (map (λ i. outcome scene s i b) (indexes_of (refs names))) e b) None) (path-fields names m)

pub others : OthersAreNot
others scene s kind which every around m e x apart =
    walk-within scene s kind x every around (Assign which (path_of (names_around around) m) e 0) []
    ∙ all-nothing (values_around scene around) (λ us. walk scene s kind x every (Assign which (path_of (names_around around) m) e 0) (bound (params_of around) us []))
    (λ us c. walk-assign scene s kind x every which (names_around around) m e (bound (params_of around) us []) ∙ by_test (same_kind which kind) (same_path (scene.instance ++ m ∷ []) x.path) refl _)
  where
    by_test : (a b : Bool) → same_path (scene.instance ++ m ∷ []) x.path ≡ b → (w : Walk) → cond (a && b) w None ≡ None
    by_test false b h w = refl
    by_test true false h w = refl
    by_test true true h w = absurd (apart (sym (path-equal (scene.instance ++ m ∷ []) x.path h)))

count-has : (scene : Scene) (around : Around) (us : List Value) → SameCount (values_around scene around) us → HasValues around us
count-has scene [] [] c = tt
count-has scene [] (u ∷ us) c = absurd c
count-has scene (binder ∷ around) [] c = absurd c
count-has scene (binder ∷ around) (u ∷ us) c = count-has scene around us c

chosen-count : (lists : List (List Value)) (vs : List Value) → AreChosen lists vs → SameCount lists vs
chosen-count [] [] h = tt
chosen-count [] (v ∷ vs) h = absurd h
chosen-count (values ∷ more) [] h = absurd h
chosen-count (values ∷ more) (v ∷ vs) h = chosen-count more vs h.1

module _ (scene : Scene) (s : State) (kind : Kind) (every : List Value) (around : Around) (m : Name) (e : Expr) (vs : List Value) (apart : AreApart (names_around around)) where
  abbrev the_element : Element
  the_element = record { path = scene.instance ++ m ∷ []; indexes = vs }

  abbrev at_leaf : List Value → Walk
  at_leaf us = walk scene s kind the_element every (Assign kind (path_of (names_around around) m) e 0) (bound (params_of around) us [])

  abbrev result : List Value → Walk
  result us = Some (allowed_by scene s every e (bound (params_of around) us []))

  leaf : (us : List Value) → HasValues around us → at_leaf us ≡ cond (list_any (λ (u, v). is_other u v) (zip (map Some us) vs)) None (result us)
  leaf us has =
      walk-assign scene s kind the_element every kind (names_around around) m e (bound (params_of around) us [])
      ∙ ap (λ t. cond (t && same_path (scene.instance ++ m ∷ []) (scene.instance ++ m ∷ [])) (assigned scene s kind the_element every (map (λ i. outcome scene s i (bound (params_of around) us [])) (indexes_of (refs (names_around around)))) e (bound (params_of around) us [])) None) (kind-itself kind)
      ∙ ap (λ t. cond t (assigned scene s kind the_element every (map (λ i. outcome scene s i (bound (params_of around) us [])) (indexes_of (refs (names_around around)))) e (bound (params_of around) us [])) None) (path-itself (scene.instance ++ m ∷ []))
      ∙ ap (λ os. assigned scene s kind the_element every os e (bound (params_of around) us [])) (refs-outcomes scene s (names_around around) (bound (params_of around) us []) us (bound-finds around us [] apart has))
      ∙ ap (λ t. cond (list_any (λ (u, v). is_other u v) (zip (map Some us) vs)) None (cond t (Some every) (result us))) (none-of-some us)

  leaf-hit : HasValues around vs → at_leaf vs ≡ result vs
  leaf-hit has = leaf vs has ∙ ap (λ t. cond t None (result vs)) (no-other vs)

  leaf-miss : (us : List Value) → SameCount (values_around scene around) us → SameCount (values_around scene around) vs → (us ≡ vs → ⊥) → at_leaf us ≡ None
  leaf-miss us c k differ = leaf us (count-has scene around us c) ∙ by_test (list_any (λ (u, v). is_other u v) (zip (map Some us) vs)) refl
    where
      by_test : (t : Bool) → list_any (λ (u, v). is_other u v) (zip (map Some us) vs) ≡ t → cond t None (result us) ≡ None
      by_test true h = refl
      by_test false h = absurd (differ (some-other (values_around scene around) us vs c k h))

-- nor to one under another kind
pub kinds-apart : (scene : Scene) (s : State) (kind which : Kind) (every : List Value) (around : Around) (m : Name) (e : Expr) (x : Element) → same_kind which kind ≡ false →
    walk scene s kind x every (within around (Assign which (path_of (names_around around) m) e 0)) [] ≡ None
kinds-apart scene s kind which every around m e x apart =
    walk-within scene s kind x every around (Assign which (path_of (names_around around) m) e 0) []
    ∙ all-nothing (values_around scene around) (λ us. walk scene s kind x every (Assign which (path_of (names_around around) m) e 0) (bound (params_of around) us []))
    (λ us c. walk-assign scene s kind x every which (names_around around) m e (bound (params_of around) us [])
    ∙ ap (λ t. cond (t && same_path (scene.instance ++ m ∷ []) x.path) (assigned scene s kind x every (map (λ i. outcome scene s i (bound (params_of around) us [])) (indexes_of (refs (names_around around)))) e (bound (params_of around) us [])) None) apart)

pub defined : MonitorsAreDefined
defined scene s kind every around m e vs apart chosen =
    walk-within scene s kind (record { path = scene.instance ++ m ∷ []; indexes = vs }) every around (Assign kind (path_of (names_around around) m) e 0) []
    ∙ all-hit (values_around scene around) (at_leaf scene s kind every around m e vs apart) vs (allowed_by scene s every e (bound (params_of around) vs [])) chosen
    (leaf-hit scene s kind every around m e vs apart (chosen-has scene around vs chosen))
    (λ us c differ. leaf-miss scene s kind every around m e vs apart us c (chosen-count (values_around scene around) vs chosen) differ)
