-- Which assignments concern an element does not change when its indexes are exchanged: a constant index is a number.
use Rattle.std.proofs.Common.{◌≡◌, ℕ, zero, suc, ◌+◌, ◌-◌, List, [], ◌∷◌, ◌++◌, map, zip, flat_map, length, Some, None, Bool, true, false, ◌&&◌, ◌||◌, if◌then◌else◌, cond, refl, ap, ◌∙◌, nat_le}
use Rattle.std.specs.List.{list_all, list_any}
use Rattle.std.specs.Str.{bytes_eq}
use Rattle.smv_core.specs.Values.{Name, Path, Value, number, constant, scalar, ordinal, Outcome, add, modulo}
use Rattle.smv_core.specs.Outcome.{fields_of, same_path}
use Rattle.smv_core.specs.Walk.{Element, same_kind, indexes_of, steps_of}
use Rattle.smv_core.specs.Assignments.{Around, loop, any, Index, fixed, bare, computed, index_of_name, index_of_path, add_fixed, modulo_fixed, index_of, index_of_sum, Assigned, assignments, assignments_of, assignments_held, assignments_arms, fits, concerns}
use Rattle.smv_core.specs.declared.tree.Kind.{Kind}
use Rattle.smv_core.specs.declared.tree.Path.{out-Path}
use Rattle.smv_core.specs.declared.tree.Expr.{Expr, Number, Signal', Not', And', Or', Implies', Iff', Compare', Within', Sum', Modulo', Choose', All', Any', List', Each', end_of-Expr, more_of-Expr, Row_of-Signed, end_of-Signed, more_of-Signed, items-the_row-Part}
use Rattle.smv_core.specs.declared.tree.Stmt.{Stmt, Assign, Block', If', Switch', Default', For', Forall', Held-Stmt-If-2, None', Some', Row_of-Stmt, end_of-Stmt, more_of-Stmt, Row_of-Arm, end_of-Arm, more_of-Arm}
use Rattle.law_meaning.specs.Exchange.{exchanged, exchanged_element}

-- a constant that is a number, or Undefined
abbrev pub IsNumeric : Outcome → Type 0
IsNumeric None = Unit {0}
IsNumeric (Some (number n)) = Unit {0}
IsNumeric (Some _) = ⊥

abbrev pub HasNumber : Index → Type 0
HasNumber (fixed u) = IsNumeric u
HasNumber _ = Unit {0}

abbrev pub HaveNumbers : List Index → Type 0
HaveNumbers [] = Unit {0}
HaveNumbers (i ∷ is) = HasNumber i × HaveNumbers is

abbrev pub AllHaveNumbers : List Assigned → Type 0
AllHaveNumbers [] = Unit {0}
AllHaveNumbers (a ∷ as') = HaveNumbers a.indexes × AllHaveNumbers as'

if-numeric : (b : Bool) (n : ℕ) → IsNumeric (if b then Some (number n) else None)
if-numeric true n = tt
if-numeric false n = tt

add-numeric : (minus : Bool) (u v : Outcome) → IsNumeric u → IsNumeric v → IsNumeric (add minus u v)
add-numeric false (Some (number m)) (Some (number n)) p q = if-numeric (nat_le (m + n) 511) (m + n)
add-numeric true (Some (number m)) (Some (number n)) p q = if-numeric (nat_le n m) (m - n)
add-numeric false None v p q = tt
add-numeric true None v p q = tt
add-numeric false (Some (number m)) None p q = tt
add-numeric true (Some (number m)) None p q = tt
add-numeric minus (Some (constant a)) v p q = absurd p
add-numeric minus (Some (scalar t n)) v p q = absurd p
add-numeric minus (Some (ordinal t n)) v p q = absurd p
add-numeric minus (Some (number m)) (Some (constant a)) p q = absurd q
add-numeric minus (Some (number m)) (Some (scalar t n)) p q = absurd q
add-numeric minus (Some (number m)) (Some (ordinal t n)) p q = absurd q

modulo-numeric : (u : Outcome) (by : ℕ) → IsNumeric u → IsNumeric (modulo u by)
modulo-numeric None by p = tt
modulo-numeric (Some (number m)) zero p = tt
modulo-numeric (Some (number m)) (suc n) p = tt
modulo-numeric (Some (constant a)) by p = absurd p
modulo-numeric (Some (scalar t n)) by p = absurd p
modulo-numeric (Some (ordinal t n)) by p = absurd p

sum-number : (minus : Bool) (i j : Index) → HasNumber i → HasNumber j → HasNumber (add_fixed minus i j)
sum-number minus (fixed u) (fixed v) p q = add-numeric minus u v p q
sum-number minus (fixed u) (bare n) p q = tt
sum-number minus (fixed u) computed p q = tt
sum-number minus (bare n) j p q = tt
sum-number minus computed j p q = tt

rest-number : (i : Index) (by : ℕ) → HasNumber i → HasNumber (modulo_fixed i by)
rest-number (fixed u) by p = modulo-numeric u by p
rest-number (bare n) by p = tt
rest-number computed by p = tt

name-number : (around : Around) (name : Name) → HasNumber (index_of_name around name)
name-number [] name = tt
name-number ((other, loop n) ∷ around) name = on (bytes_eq other name) (name-number around name)
  where
    on : (b : Bool) → HasNumber (index_of_name around name) → HasNumber (if b then fixed (Some (number n)) else index_of_name around name)
    on true p = tt
    on false p = p
name-number ((other, any) ∷ around) name = on (bytes_eq other name) (name-number around name)
  where
    on : (b : Bool) → HasNumber (index_of_name around name) → HasNumber (if b then bare (length around) else index_of_name around name)
    on true p = tt
    on false p = p

path-number : (around : Around) (path : Path) → HasNumber (index_of_path around path)
path-number around [] = tt
path-number around (name ∷ []) = name-number around name
path-number around (name ∷ other ∷ path) = tt

mutual
  index-number : (around : Around) (e : Expr) → HasNumber (index_of around e)
  index-number around (Number value at) = tt
  index-number around (Signal' shape parts at) = path-number around (fields_of (items-the_row-Part _ parts))
  index-number around (Sum' f (more_of-Expr first end_of-Expr) shape more) = sums-number around (index_of around first) more (index-number around first)
  index-number around (Modulo' shape (more_of-Expr e end_of-Expr) by at) = rest-number (index_of around e) by (index-number around e)
  index-number around (Not' shape row at) = tt
  index-number around (And' shape parts) = tt
  index-number around (Or' shape parts) = tt
  index-number around (Implies' shape parts) = tt
  index-number around (Iff' l left r right) = tt
  index-number around (Compare' op l left r right) = tt
  index-number around (Within' l left r set) = tt
  index-number around (Choose' c cond l left r right) = tt
  index-number around (All' shape body var over at) = tt
  index-number around (Any' shape body var over at) = tt
  index-number around (List' shape members at) = tt
  index-number around (Each' var over cond at) = tt

  sums-number : {m : _} (around : Around) (i : Index) (row : Row_of-Signed m) → HasNumber i → HasNumber (index_of_sum around i row)
  sums-number around i end_of-Signed p = p
  sums-number around i (more_of-Signed minus e rest) p = sums-number around (add_fixed minus i (index_of around e)) rest (sum-number minus i (index_of around e) p (index-number around e))

each-number : (around : Around) (es : List Expr) → HaveNumbers (map (index_of around) es)
each-number around [] = tt
each-number around (e ∷ es) = (index-number around e, each-number around es)

join-numbers : (as' bs : List Assigned) → AllHaveNumbers as' → AllHaveNumbers bs → AllHaveNumbers (as' ++ bs)
join-numbers [] bs p q = q
join-numbers (a ∷ as') bs p q = (p.0, join-numbers as' bs p.1 q)

turns-numbers : (F : ℕ → List Assigned) → ((n : ℕ) → AllHaveNumbers (F n)) → (ns : List ℕ) → AllHaveNumbers (flat_map F ns)
turns-numbers F h [] = tt
turns-numbers F h (n ∷ ns) = join-numbers (F n) (flat_map F ns) (h n) (turns-numbers F h ns)

module _ (instance : Path) where
  mutual
    pub all-numbers : (act : Stmt) (around : Around) → AllHaveNumbers (assignments instance act around)
    all-numbers (Assign kind left value at) around = (each-number around (indexes_of (out-Path left).parts), tt)
    all-numbers (Block' shape parts) around = parts-numbers parts around
    all-numbers (If' c l (more_of-Stmt left end_of-Stmt) right at) around = join-numbers (assignments instance left around) (assignments_held instance right around) (all-numbers left around) (held-numbers right around)
    all-numbers (Switch' on shape arms other at) around = join-numbers (assignments_arms instance arms around) (assignments_held instance other around) (arms-numbers arms around) (held-numbers other around)
    all-numbers (Default' l (more_of-Stmt left end_of-Stmt) r (more_of-Stmt right end_of-Stmt) at) around = join-numbers (assignments instance left around) (assignments instance right around) (all-numbers left around) (all-numbers right around)
    all-numbers (For' var from to closed step shape (more_of-Stmt body end_of-Stmt) at) around =
        turns-numbers (λ n. assignments instance body ((var.name, loop n) ∷ around)) (λ n. all-numbers body ((var.name, loop n) ∷ around)) (steps_of from to closed step)
    all-numbers (Forall' var over shape (more_of-Stmt body end_of-Stmt) at) around = all-numbers body ((var.name, any) ∷ around)

    parts-numbers : {m : _} (parts : Row_of-Stmt m) (around : Around) → AllHaveNumbers (assignments_of instance parts around)
    parts-numbers end_of-Stmt around = tt
    parts-numbers (more_of-Stmt part rest) around = join-numbers (assignments instance part around) (assignments_of instance rest around) (all-numbers part around) (parts-numbers rest around)

    held-numbers : (part : Held-Stmt-If-2) (around : Around) → AllHaveNumbers (assignments_held instance part around)
    held-numbers None' around = tt
    held-numbers (Some' shape (more_of-Stmt part end_of-Stmt)) around = all-numbers part around

    arms-numbers : {m : _} (arms : Row_of-Arm m) (around : Around) → AllHaveNumbers (assignments_arms instance arms around)
    arms-numbers end_of-Arm around = tt
    arms-numbers (more_of-Arm labels body rest) around = join-numbers (assignments instance body around) (assignments_arms instance rest around) (all-numbers body around) (arms-numbers rest around)

-- ---- elements

module _ (f : Name → ℕ → ℕ) where
  fit-same : (i : Index) (v : Value) → HasNumber i → fits i (exchanged f v) ≡ fits i v
  fit-same (fixed None) v p = refl
  fit-same (fixed (Some (number n))) (number m) p = refl
  fit-same (fixed (Some (number n))) (constant a) p = refl
  fit-same (fixed (Some (number n))) (scalar t m) p = refl
  fit-same (fixed (Some (number n))) (ordinal t m) p = refl
  fit-same (fixed (Some (constant a))) v p = absurd p
  fit-same (fixed (Some (scalar t m))) v p = absurd p
  fit-same (fixed (Some (ordinal t m))) v p = absurd p
  fit-same (bare n) v p = refl
  fit-same computed v p = refl

  fits-same : (is : List Index) (vs : List Value) → HaveNumbers is → list_all (λ (x : Index × Value). fits x.0 x.1) (zip is (map (exchanged f) vs)) ≡ list_all (λ (x : Index × Value). fits x.0 x.1) (zip is vs)
  fits-same [] vs p = refl
  fits-same (i ∷ is) [] p = refl
  fits-same (i ∷ is) (v ∷ vs) p =
      ap (λ b. b && list_all (λ (x : Index × Value). fits x.0 x.1) (zip is (map (exchanged f) vs))) (fit-same i v p.0) ∙ ap (λ b. fits i v && b) (fits-same is vs p.1)

  pub concerns-same : (kind : Kind) (x : Element) (as' : List Assigned) → AllHaveNumbers as' → list_any (concerns kind (exchanged_element f x)) as' ≡ list_any (concerns kind x) as'
  concerns-same kind x [] p = refl
  concerns-same kind x (a ∷ as') p =
      ap (λ b. (same_kind a.kind kind && (same_path a.path x.path && b)) || list_any (concerns kind (exchanged_element f x)) as') (fits-same a.indexes x.indexes p.0)
      ∙ ap (λ b. concerns kind x a || b) (concerns-same kind x as' p.1)
