-- No two definitions of monitors are of one path.
use Rattle.std.proofs.Common.{◌≡◌, ◌⊎◌, inl, inr, ℕ, zero, suc, List, [], ◌∷◌, ◌++◌, map, flat_map, take, drop, length, Option, Some, None, option_map, unwrap_or, Bool, true, false, cond, Contains, nat_eq, refl, sym, ap, ◌∙◌, subst, arith}
use Rattle.std.specs.Str.{bytes_eq}
use Rattle.std.specs.List.{AllByRecursion, list_any}
use Rattle.std.proofs.lemmas.Bool.{or_left, or_right}
use Rattle.std.proofs.lemmas.List.Elements.{Contains-append_left, Contains-append_right}
use Rattle.std.proofs.lemmas.Slice.Eq.{bytes_eq-Decides}
use Rattle.law_lists.proofs.Booleans.{impossible}
use Rattle.law_lists.proofs.Each.{each_append, each_flat_map, each_in_any}
use Rattle.law_lists.proofs.Numbers.{nat_eq-is, nat_eq-same}
use Rattle.smv_core.specs.Values.{Name, Path}
use Rattle.smv_core.specs.Types.{Types, find_name, types_from}
use Rattle.smv_core.specs.FlatOrder.{Body, modules, main, body_of}
use Rattle.smv_core.specs.declared.tree.Expr.{Expr, Number, And, Or, Not}
use Rattle.smv_core.specs.declared.tree.Item.{Item, Declare, Instance, Layer, Forall', Block', Claim, Split, Using, Act, Row_of-Item, end_of-Item, more_of-Item}
use Rattle.law_formulas.specs.Formulas.{Formula, now, next, when, weak, FormulaText, at_place, of_body}
use Rattle.law_formulas.specs.Steps.{places_of}
use Rattle.law_formulas.specs.Monitors.{Watched, watched, Around, names_around, or_none, watched_in, watched_among, Stage, definitions, outset, under, behind, reached, monitor}
use Rattle.law_formula_trees.specs.Behind.{AreApart}
use Rattle.law_formula_trees.specs.Placed.{Placed, placed, placed_item, placed_in, entries_of, IsPlanOf}
use Rattle.law_formula_trees.proofs.Lists.{each-mapped, each-member, each-at, contains-flat}
use Rattle.law_formula_trees.proofs.Joined.{definitions-fresh}
use Rattle.law_formula_trees.proofs.Meant.{plans-of}
use Rattle.law_fresh_monitors.specs.Spots.{spot_at, spots_in, spots_among, spots, NoneTwice, SpotsAreApart}
use Rattle.law_fresh_monitors.specs.Laws.{MonitorsAreAlone}
use Rattle.law_fresh_monitors.proofs.FreeNames.{apart-taken}

-- ---- lists

none : {X Y : Type 0} (x : X) → Contains [] x → Y
none x (k, l, e) = absurd (omega (arith, l))

later : {X : Type 0} (y x : X) (xs : List X) → Contains xs x → Contains (y ∷ xs) x
later y x xs (k, l, e) = (suc k, omega (arith, l), e)

-- the first, or one of the rest
first-or : {X : Type 0} (y x : X) (xs : List X) → Contains (y ∷ xs) x → (y ≡ x) ⊎ Contains xs x
first-or y x xs (zero, l, e) = inl e
first-or y x xs (suc k, l, e) = inr (k, omega (arith, l), e)

-- a name that is in a list passes the test
in-any : (n m : Name) (ms : List Name) → Contains ms m → n ≡ m → list_any (bytes_eq n) ms ≡ true
in-any n m [] c e = none m c
in-any n m (x ∷ ms) c e = by_case (first-or x m ms c) (in-any n m ms)
  where
    by_case : (x ≡ m) ⊎ Contains ms m → (Contains ms m → n ≡ m → list_any (bytes_eq n) ms ≡ true) → list_any (bytes_eq n) (x ∷ ms) ≡ true
    by_case (inl h) rest = or_left (bytes_eq n x) (list_any (bytes_eq n) ms) ((bytes_eq-Decides n x).1 (e ∙ sym h))
    by_case (inr h) rest = or_right (bytes_eq n x) (list_any (bytes_eq n) ms) (rest h e)

apart-dropped : (k : ℕ) (xs : List Name) → AreApart xs → AreApart (drop k xs)
apart-dropped zero xs h = h
apart-dropped (suc k) [] h = tt
apart-dropped (suc k) (x ∷ xs) h = apart-dropped k xs h.1

taken-in : (k : ℕ) (xs : List Name) (m : Name) → Contains (take k xs) m → Contains xs m
taken-in zero xs m c = none m c
taken-in (suc k) [] m c = none m c
taken-in (suc k) (x ∷ xs) m c = by_case (first-or x m (take k xs) c) (taken-in k xs m)
  where
    by_case : (x ≡ m) ⊎ Contains (take k xs) m → (Contains (take k xs) m → Contains xs m) → Contains (x ∷ xs) m
    by_case (inl h) rest = (0, omega arith, h)
    by_case (inr h) rest = later x m xs (rest h)

dropped-in : (k : ℕ) (xs : List Name) (m : Name) → Contains (drop k xs) m → Contains xs m
dropped-in zero xs m c = c
dropped-in (suc k) [] m c = none m c
dropped-in (suc k) (x ∷ xs) m c = later x m xs (dropped-in k xs m c)

-- no name stands in both parts
parted : {Y : Type 0} (k : ℕ) (xs : List Name) (m : Name) → AreApart xs → Contains (take k xs) m → Contains (drop k xs) m → Y
parted zero xs m apart c d = none m c
parted (suc k) [] m apart c d = none m c
parted {Y} (suc k) (x ∷ xs) m apart c d = by_case (first-or x m (take k xs) c) (λ h. parted k xs m apart.1 h d)
  where
    by_case : (x ≡ m) ⊎ Contains (take k xs) m → (Contains (take k xs) m → Y) → Y
    by_case (inl h) rest = impossible (list_any (bytes_eq x) xs) (in-any x m xs (dropped-in k xs m d) h) apart.0
    by_case (inr h) rest = rest h

-- equal paths have equal ends
ends-same : (xs ys : Path) (a b : Name) → xs ++ a ∷ [] ≡ ys ++ b ∷ [] → (xs ≡ ys) × (a ≡ b)
ends-same [] [] a b e = (refl, head a b e)
  where
    head : (a b : Name) → a ∷ [] ≡ b ∷ [] → a ≡ b
    head a b e = cc
ends-same [] (y ∷ []) a b e = absurd (cc (e))
ends-same [] (y ∷ z ∷ ys) a b e = absurd (cc (e))
ends-same (x ∷ []) [] a b e = absurd (cc (e))
ends-same (x ∷ z ∷ xs) [] a b e = absurd (cc (e))
ends-same (x ∷ xs) (y ∷ ys) a b e =
    let r = ends-same xs ys a b (tails (xs ++ a ∷ []) (ys ++ b ∷ []) e) in
    (ap (λ z. z ∷ xs) (heads (xs ++ a ∷ []) (ys ++ b ∷ []) e) ∙ ap (λ l. y ∷ l) r.0, r.1)
  where
    heads : (us vs : Path) → x ∷ us ≡ y ∷ vs → x ≡ y
    heads us vs e = cc

    tails : (us vs : Path) → x ∷ us ≡ y ∷ vs → us ≡ vs
    tails us vs e = cc

-- ---- plans

-- the monitors of a plan are of these names
monitors-in : (formulas : List (ℕ × Formula)) (names : List Name) (a : ℕ × Watched) → Contains (watched formulas names) a → (m : Name) → Contains a.1.monitors m → Contains names m
monitors-in [] names a c m has = none a c
monitors-in ((place, f) ∷ more) names a c m has = by_case (first-or (place, record { formula = f; monitors = take (places_of f) names }) a (watched more (drop (places_of f) names)) c) (λ h. monitors-in more (drop (places_of f) names) a h m has)
  where
    by_case : ((place, record { formula = f; monitors = take (places_of f) names }) ≡ a) ⊎ Contains (watched more (drop (places_of f) names)) a → (Contains (watched more (drop (places_of f) names)) a → Contains (drop (places_of f) names) m) → Contains names m
    by_case (inl e) rest = taken-in (places_of f) names m (subst (λ (b : ℕ × Watched). Contains b.1.monitors m) (sym e) has)
    by_case (inr h) rest = dropped-in (places_of f) names m (rest h)

-- a name is a monitor of one formula
one-formula : (formulas : List (ℕ × Formula)) (names : List Name) → AreApart names → (a b : ℕ × Watched) → Contains (watched formulas names) a → Contains (watched formulas names) b → (m : Name) → Contains a.1.monitors m → Contains b.1.monitors m → a ≡ b
one-formula [] names apart a b c d m has_a has_b = none a c
one-formula ((place, f) ∷ more) names apart a b c d m has_a has_b =
    by_cases (first-or own a rest c) (first-or own b rest d) (λ h k. one-formula more (drop (places_of f) names) (apart-dropped (places_of f) names apart) a b h k m has_a has_b)
  where
    own : ℕ × Watched
    own = (place, record { formula = f; monitors = take (places_of f) names })

    rest : List (ℕ × Watched)
    rest = watched more (drop (places_of f) names)

    in-own : (x : ℕ × Watched) → own ≡ x → Contains x.1.monitors m → Contains (take (places_of f) names) m
    in-own x e has = subst (λ (y : ℕ × Watched). Contains y.1.monitors m) (sym e) has

    in-rest : (x : ℕ × Watched) → Contains rest x → Contains x.1.monitors m → Contains (drop (places_of f) names) m
    in-rest x h has = monitors-in more (drop (places_of f) names) x h m has

    by_cases : (own ≡ a) ⊎ Contains rest a → (own ≡ b) ⊎ Contains rest b → (Contains rest a → Contains rest b → a ≡ b) → a ≡ b
    by_cases (inl e) (inl g) again = sym e ∙ g
    by_cases (inl e) (inr k) again = parted (places_of f) names m apart (in-own a e has_a) (in-rest b k has_b)
    by_cases (inr h) (inl g) again = parted (places_of f) names m apart (in-own b g has_b) (in-rest a h has_a)
    by_cases (inr h) (inr k) again = again h k

monitors-apart : (formulas : List (ℕ × Formula)) (names : List Name) → AreApart names → AllByRecursion (λ entry. AreApart entry.1.monitors) (watched formulas names)
monitors-apart [] names apart = tt
monitors-apart ((place, f) ∷ more) names apart = (apart-taken (places_of f) names apart, monitors-apart more (drop (places_of f) names) (apart-dropped (places_of f) names apart))

-- ---- definitions

named-in : (vars : List Name) (f : Formula) (names : List Name) (stage : Stage) (a : Name × Expr) → Contains (definitions vars names stage f) a → Contains names a.0
named-in vars f names stage a c = each-at (λ (x : Name × Expr). Contains names x.0) (definitions vars names stage f) a (definitions-fresh (Contains names) vars f names stage (each-member names)) c

-- two of a list whose first has another name than the rest
one-of : (x a b : Name × Expr) (rest : List (Name × Expr)) (names : List Name) → list_any (bytes_eq x.0) names ≡ false → ((y : Name × Expr) → Contains rest y → Contains names y.0) → (Contains rest a → Contains rest b → a ≡ b) →
    Contains (x ∷ rest) a → Contains (x ∷ rest) b → a.0 ≡ b.0 → a ≡ b
one-of x a b rest names apart of_names again c d same = by_cases (first-or x a rest c) (first-or x b rest d)
  where
    by_cases : (x ≡ a) ⊎ Contains rest a → (x ≡ b) ⊎ Contains rest b → a ≡ b
    by_cases (inl e) (inl g) = sym e ∙ g
    by_cases (inl e) (inr k) = impossible (list_any (bytes_eq x.0) names) (in-any x.0 b.0 names (of_names b k) (ap (λ (y : Name × Expr). y.0) e ∙ same)) apart
    by_cases (inr h) (inl g) = impossible (list_any (bytes_eq x.0) names) (in-any x.0 a.0 names (of_names a h) (ap (λ (y : Name × Expr). y.0) g ∙ sym same)) apart
    by_cases (inr h) (inr k) = again h k

one-definition : (vars : List Name) (f : Formula) (names : List Name) (stage : Stage) → AreApart names → (a b : Name × Expr) → Contains (definitions vars names stage f) a → Contains (definitions vars names stage f) b → a.0 ≡ b.0 → a ≡ b
one-definition vars (now e) names stage apart a b c d same = none a c
one-definition vars (next at f) [] stage apart a b c d same = none a c
one-definition vars (next at f) (m ∷ names) stage apart a b c d same =
    one-of (m, reached vars stage) a b (definitions vars names (behind m) f) names apart.0 (named-in vars f names (behind m)) (λ h k. one-definition vars f names (behind m) apart.1 a b h k same) c d same
one-definition vars (when c f) names stage apart a b p q same = one-definition vars f names (under stage c) apart a b p q same
one-definition vars (weak p q) [] stage apart a b c d same = none a c
one-definition vars (weak p q) (w ∷ names) stage apart a b c d same =
    one-of (w, And (Or (reached vars stage ∷ monitor vars w ∷ []) ∷ Not q 0 ∷ [])) a b [] names apart.0 (λ y h. none y h) (λ h k. none a h) c d same

-- ---- spots

-- an offset has one spot
place-in : (s : ℕ × Around) (list : List (ℕ × Around)) (k : ℕ) → Contains list s → s.0 ≡ k → list_any (nat_eq k) (map (λ spot. spot.0) list) ≡ true
place-in s [] k c e = none s c
place-in s (x ∷ list) k c e = by_case (first-or x s list c) (λ h. place-in s list k h e)
  where
    by_case : (x ≡ s) ⊎ Contains list s → (Contains list s → list_any (nat_eq k) (map (λ spot. spot.0) list) ≡ true) → list_any (nat_eq k) (map (λ spot. spot.0) (x ∷ list)) ≡ true
    by_case (inl h) rest = or_left (nat_eq k x.0) (list_any (nat_eq k) (map (λ spot. spot.0) list)) (nat_eq-same k x.0 (ap (λ (z : ℕ × Around). z.0) h ∙ e))
    by_case (inr h) rest = or_right (nat_eq k x.0) (list_any (nat_eq k) (map (λ spot. spot.0) list)) (rest h)

one-spot : (list : List (ℕ × Around)) → NoneTwice (map (λ spot. spot.0) list) → (s t : ℕ × Around) → Contains list s → Contains list t → s.0 ≡ t.0 → s ≡ t
one-spot [] once s t c d e = none s c
one-spot (x ∷ list) once s t c d e = by_cases (first-or x s list c) (first-or x t list d) (λ h k. one-spot list once.1 s t h k e)
  where
    by_cases : (x ≡ s) ⊎ Contains list s → (x ≡ t) ⊎ Contains list t → (Contains list s → Contains list t → s ≡ t) → s ≡ t
    by_cases (inl h) (inl k) again = sym h ∙ k
    by_cases (inl h) (inr k) again = impossible (list_any (nat_eq x.0) (map (λ spot. spot.0) list)) (place-in t list x.0 k (sym (ap (λ (z : ℕ × Around). z.0) h ∙ e))) once.0
    by_cases (inr h) (inl k) again = impossible (list_any (nat_eq x.0) (map (λ spot. spot.0) list)) (place-in s list x.0 h (e ∙ sym (ap (λ (z : ℕ × Around). z.0) k))) once.0
    by_cases (inr h) (inr k) again = again h k

-- ---- where a watched formula comes from

module _ (plan : List (ℕ × Watched)) (formulas : List (ℕ × Formula)) (planned : IsPlanOf plan formulas) (all : List (ℕ × Around)) where
  abbrev Comes : Around × Watched → Type 0
  Comes w = (place : ℕ) × Contains all (place, w.0) × Contains plan (place, w.1)

  place-found : (list : List (ℕ × Watched)) (at : ℕ) (w : Watched) → at_place list at ≡ Some w → Contains list (at, w)
  place-found [] at w e = absurd (cc (e))
  place-found ((place, x) ∷ list) at w e = by_test (nat_eq place at) refl e (place-found list at w)
    where
      by_test : (b : Bool) → nat_eq place at ≡ b → cond b (Some x) (at_place list at) ≡ Some w → (at_place list at ≡ Some w → Contains list (at, w)) → Contains ((place, x) ∷ list) (at, w)
      by_test true h k rest = (0, omega arith, ap (λ n. (n, x)) (nat_eq-is place at h) ∙ ap (λ v. (at, v)) (one k))
        where
          one : Some x ≡ Some w → x ≡ w
          one q = cc
      by_test false h k rest = later (place, x) (at, w) list (rest k)

  body-comes : (around : Around) (at : ℕ) → Contains all (at, around) → (o : Option Watched) → at_place plan at ≡ o → AllByRecursion Comes (or_none around o)
  body-comes around at c None e = tt
  body-comes around at c (Some w) e = ((at, c, place-found plan at w e), tt)

  claim-comes : (around : Around) (name : _) (vars : _) (body : Expr) (place : ℕ) → ((s : ℕ × Around) → Contains (spots_in formulas around (Claim name vars body place)) s → Contains all s) → AllByRecursion Comes (or_none around (of_body plan body))
  claim-comes around name vars (Number value at) place h = by_plan (at_place plan at) refl (at_place formulas at) refl
    where
      by_plan : (o : Option Watched) → at_place plan at ≡ o → (f : Option Formula) → at_place formulas at ≡ f → AllByRecursion Comes (or_none around o)
      by_plan None e f g = tt
      by_plan (Some w) e (Some f) g = body-comes around at (h (at, around) (subst (λ l. Contains (spot_at at around l) (at, around)) (sym g) (0, omega arith, refl))) (Some w) e
      by_plan (Some w) e None g = absurd (cc (sym (ap (option_map (λ (v : Watched). v.formula)) e) ∙ planned (Number value at) ∙ g))
  claim-comes around name vars body place h = tt

  mutual
    item-comes : (around : Around) (item : Item) → ((s : ℕ × Around) → Contains (spots_in formulas around item) s → Contains all s) → AllByRecursion Comes (watched_in plan around item)
    item-comes around (Forall' var over shape (more_of-Item body end_of-Item) at) h = item-comes (around ++ (var, over) ∷ []) body h
    item-comes around (Block' shape items) h = items-come around items h
    item-comes around (Claim name vars body at) h = claim-comes around name vars body at h
    item-comes around (Declare role words of at) h = tt
    item-comes around (Instance words name args at) h = tt
    item-comes around (Layer name body at) h = tt
    item-comes around (Split name vars of pairs at) h = tt
    item-comes around (Using uses proves at) h = tt
    item-comes around (Act act) h = tt

    items-come : {m : _} (around : Around) (items : Row_of-Item m) → ((s : ℕ × Around) → Contains (spots_among formulas around items) s → Contains all s) → AllByRecursion Comes (watched_among plan around items)
    items-come around end_of-Item h = tt
    items-come around (more_of-Item item rest) h =
        each_append Comes (watched_in plan around item) (watched_among plan around rest)
        (item-comes around item (λ s c. h s (Contains-append_left (spots_in formulas around item) (spots_among formulas around rest) s c)))
        (items-come around rest (λ s c. h s (Contains-append_right (spots_in formulas around item) (spots_among formulas around rest) s c)))

  body-each : (items : List Item) → ((s : ℕ × Around) → Contains (flat_map (spots_in formulas []) items) s → Contains all s) → AllByRecursion Comes (flat_map (watched_in plan []) items)
  body-each items h = each_flat_map (Contains items) Comes (watched_in plan []) (λ item has. item-comes [] item (λ s c. h s (contains-flat (spots_in formulas []) items item s has c))) items (each-member items)

  abbrev BodyComes : Body → Type 0
  BodyComes body = AllByRecursion Comes (flat_map (watched_in plan []) body.items)

  bodies-come : (bodies : List (Name × Body)) → ((s : ℕ × Around) → Contains (flat_map (λ entry. flat_map (spots_in formulas []) entry.1.items) bodies) s → Contains all s) → AllByRecursion (λ entry. BodyComes entry.1) bodies
  bodies-come [] h = tt
  bodies-come (entry ∷ bodies) h = (
    body-each entry.1.items (λ s c. h s (Contains-append_left (flat_map (spots_in formulas []) entry.1.items) (flat_map (λ (x : Name × Body). flat_map (spots_in formulas []) x.1.items) bodies) s c)),
    bodies-come bodies (λ s c. h s (Contains-append_right (flat_map (spots_in formulas []) entry.1.items) (flat_map (λ (x : Name × Body). flat_map (spots_in formulas []) x.1.items) bodies) s c)),
  )

  module _ (types : Types) (bodies : List (Name × Body)) (come : AllByRecursion (λ entry. BodyComes entry.1) bodies) where
    found-comes : (list : List (Name × Body)) → AllByRecursion (λ entry. BodyComes entry.1) list → (name : Name) → BodyComes (unwrap_or (find_name list name) (record { formals = []; items = [] }))
    found-comes [] h name = tt
    found-comes ((other, body) ∷ list) h name = by_test (bytes_eq other name) (found-comes list h.1 name)
      where
        by_test : (b : Bool) → BodyComes (unwrap_or (find_name list name) (record { formals = []; items = [] })) → BodyComes (unwrap_or (cond b (Some body) (find_name list name)) (record { formals = []; items = [] }))
        by_test true k = h.0
        by_test false k = k

    abbrev PlacedComes : Placed → Type 0
    PlacedComes p = Comes p.1

    placed-item : (inside : Path → Name → List Placed) → ((p : Path) (name : Name) → AllByRecursion PlacedComes (inside p name)) → (here : Path) (item : Item) → AllByRecursion PlacedComes (placed_item plan types bodies inside here item)
    placed-item inside h here (Instance words name args at) = each_in_any PlacedComes (λ word. inside (here ++ word.name ∷ []) name.name) (λ word. h (here ++ word.name ∷ []) name.name) words
    placed-item inside h here (Forall' var over shape (more_of-Item body end_of-Item) at) = tt
    placed-item inside h here (Block' shape items) = tt
    placed-item inside h here (Claim name vars body at) = tt
    placed-item inside h here (Declare role words of at) = tt
    placed-item inside h here (Layer name body at) = tt
    placed-item inside h here (Split name vars of pairs at) = tt
    placed-item inside h here (Using uses proves at) = tt
    placed-item inside h here (Act act) = tt

    placed-come : (n : ℕ) (here : Path) (name : Name) → AllByRecursion PlacedComes (placed_in plan types bodies n here name)
    placed-come zero here name = tt
    placed-come (suc n) here name =
        let items : List Item = (body_of types bodies name).items in
        each_append PlacedComes (flat_map (placed_item plan types bodies (placed_in plan types bodies n) here) items) (map (λ w. (here, w)) (flat_map (watched_in plan []) items))
        (each_in_any PlacedComes (placed_item plan types bodies (placed_in plan types bodies n) here) (placed-item (placed_in plan types bodies n) (λ p other. placed-come n p other) here) items)
        (each-mapped PlacedComes (λ w. (here, w)) (flat_map (watched_in plan []) items) (found-comes bodies come name))

-- ---- the law

module _ (names : List Name) (ft : FormulaText) (apart : AreApart names) (spotted : SpotsAreApart ft) where
  abbrev plan : List (ℕ × Watched)
  plan = watched ft.formulas names

  abbrev all-spots : List (ℕ × Around)
  all-spots = spots ft

  planned-of : IsPlanOf plan ft.formulas
  planned-of = plans-of ft.formulas names

  comes : (p : Placed) → Contains (placed plan ft.text) p → Comes plan ft.formulas planned-of all-spots p.1
  comes p has = each-at (λ (q : Placed). Comes plan ft.formulas planned-of all-spots q.1) (placed plan ft.text) p
      (placed-come plan ft.formulas planned-of all-spots (types_from [] ft.text.tops) (modules ft.text.tops) (bodies-come plan ft.formulas planned-of all-spots (modules ft.text.tops) (λ s c. c)) (length (modules ft.text.tops)) [] main) has

  one : (p other : Placed) → Contains (placed plan ft.text) p → Contains (placed plan ft.text) other → (entry second : Name × Expr) → Contains (entries_of p) entry → Contains (entries_of other) second →
      other.0 ++ second.0 ∷ [] ≡ p.0 ++ entry.0 ∷ [] → (other ≡ p) × (second ≡ entry)
  one (here, (around, w)) (there, (outside, v)) has_p has_other entry second c d e =
      let ends = ends-same there here second.0 entry.0 e in
      let from_p = comes (here, (around, w)) has_p in
      let from_other = comes (there, (outside, v)) has_other in
      let in_p : Contains w.monitors entry.0 = named-in (names_around around) w.formula w.monitors outset entry c in
      let in_other : Contains v.monitors entry.0 = subst (Contains v.monitors) ends.1 (named-in (names_around outside) v.formula v.monitors outset second d) in
      let planned : (from_other.0, v) ≡ (from_p.0, w) = one-formula ft.formulas names apart (from_other.0, v) (from_p.0, w) from_other.2 from_p.2 entry.0 in_other in_p in
      let spot : (from_other.0, outside) ≡ (from_p.0, around) = one-spot all-spots spotted.places (from_other.0, outside) (from_p.0, around) from_other.1 from_p.1 (ap (λ (x : ℕ × Watched). x.0) planned) in
      let same_watched : v ≡ w = ap (λ (x : ℕ × Watched). x.1) planned in
      let same_around : outside ≡ around = ap (λ (x : ℕ × Around). x.1) spot in
      let d' : Contains (definitions (names_around around) w.monitors outset w.formula) second = subst (λ (x : Around × Watched). Contains (definitions (names_around x.0) x.1.monitors outset x.1.formula) second) (ap (λ r. (r, v)) same_around ∙ ap (λ x. (around, x)) same_watched) d in
      let apart_w : AreApart w.monitors = each-at (λ (x : ℕ × Watched). AreApart x.1.monitors) plan (from_p.0, w) (monitors-apart ft.formulas names apart) from_p.2 in (
        ap (λ h. (h, (outside, v))) ends.0 ∙ ap (λ r. (here, (r, v))) same_around ∙ ap (λ x. (here, (around, x))) same_watched,
        one-definition (names_around around) w.formula w.monitors outset apart_w second entry d' c ends.1,
      )

pub alone : MonitorsAreAlone
alone names ft apart spotted = record {
  alone = λ p has entry c other there second d e. one names ft apart spotted p other has there entry second c d e;
  apart = λ p has. let from = comes names ft apart spotted p has in each-at (λ (s : ℕ × Around). AreApart (names_around s.1)) (spots ft) (from.0, p.1.0) spotted.binders from.1;
}
