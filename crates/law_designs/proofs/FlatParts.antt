-- What the parts of a definition give and which indexes they assign, where what gives nothing is left out.
use Rattle.std.proofs.Common.{◌≡◌, ℕ, List, [], ◌∷◌, ◌++◌, map, filter, Some, None, Bool, true, false, not, ◌&&◌, cond, refl, sym, ap, ◌∙◌}
use Rattle.std.specs.List.{flat_map}
use Rattle.std.proofs.lemmas.List.{append-nil}
use Rattle.smv_core.specs.Values.{Value, Truth, truth}
use Rattle.smv_core.specs.Walk.{Walk, first, first_of, if_walk}
use Rattle.smv_core.specs.FlatMeaning.{Numbered, FlatState, FlatBindings, FlatElement, bind, values_in, flat_outcome, flat_result, flat_results, indexes_assigned, indexes_assigned_in}
use Rattle.smv_core.specs.declared.flat.Simple.{Simple}
use Rattle.smv_core.specs.declared.flat.FlatExpr.{FlatExpr}
use Rattle.smv_core.specs.declared.flat.DefBody.{DefBody, Nothing, If, First, Forall, Assign, If', First', Forall', Row_of-DefBody, end_of-DefBody, more_of-DefBody, items-the_row-DefBody, items_hidden-the_row-DefBody-1}
use Rattle.law_designs.specs.Definitions.{is_nothing, joined, first_part, branches, each_value}
use mathlib.Core.Former.{Count}

-- what lets a box of a definition's part compute
unfoldable pub boxes : Unit {0}
unfolding Rattle.smv_core.specs.declared.flat.DefBody.TheBlock.hidden-the_row-DefBody-0 Rattle.smv_core.specs.declared.flat.DefBody.TheBlock.shape-the_row-DefBody-0 denote.Hole.Carrier.hidden
boxes = tt

-- the parts of a `First`
abbrev pub rows_of : DefBody → (k : Count) × Row_of-DefBody k
rows_of (First' shape row) = (_, row)
rows_of _ = (_, end_of-DefBody)

pub nothing-is : (p : DefBody) → is_nothing p ≡ true → p ≡ Nothing
nothing-is Nothing e = refl
nothing-is (Assign left value place at) e = absurd (cc)
nothing-is (If' c l left r right) e = absurd (cc)
nothing-is (First' shape parts) e = absurd (cc)
nothing-is (Forall' var over shape body) e = absurd (cc)

-- ---- indexes

pub indexes-row : (k : _) (row : Row_of-DefBody k) → indexes_assigned_in row ≡ flat_map indexes_assigned (items-the_row-DefBody k row)
indexes-row k end_of-DefBody = refl
indexes-row k (more_of-DefBody part rest) = ap (λ l. indexes_assigned part ++ l) (indexes-row _ rest)

pub indexes-First : (parts : List DefBody) → indexes_assigned (First parts) ≡ flat_map indexes_assigned parts
indexes-First parts =
    let row : (k : Count) × Row_of-DefBody k = rows_of (First parts) in
    indexes-row row.0 row.1 ∙ ap (flat_map indexes_assigned) (items_hidden-the_row-DefBody-1 parts)

indexes-If : (cond : FlatExpr) (left right : DefBody) → indexes_assigned (If cond left right) ≡ indexes_assigned left ++ indexes_assigned right
unfolding boxes
indexes-If cond left right = refl

indexes-Forall : (var : ℕ) (over : Simple) (body : DefBody) → indexes_assigned (Forall var over body) ≡ indexes_assigned body
unfolding boxes
indexes-Forall var over body = refl

indexes-joined : (parts : List DefBody) → indexes_assigned (joined parts) ≡ flat_map indexes_assigned parts
indexes-joined [] = refl
indexes-joined (part ∷ []) = sym (append-nil (indexes_assigned part))
indexes-joined (part ∷ other ∷ more) = indexes-First (part ∷ other ∷ more)

indexes-nothing : (p : DefBody) → is_nothing p ≡ true → indexes_assigned p ≡ []
indexes-nothing p e = ap indexes_assigned (nothing-is p e)

pub indexes-kept : (parts : List DefBody) → flat_map indexes_assigned (filter (λ p. not (is_nothing p)) parts) ≡ flat_map indexes_assigned parts
indexes-kept [] = refl
indexes-kept (p ∷ ps) = by_test (is_nothing p) refl (indexes-kept ps)
  where
    by_test : (b : Bool) → is_nothing p ≡ b → flat_map indexes_assigned (filter (λ q. not (is_nothing q)) ps) ≡ flat_map indexes_assigned ps → flat_map indexes_assigned (cond (not b) (p ∷ filter (λ q. not (is_nothing q)) ps) (filter (λ q. not (is_nothing q)) ps)) ≡ indexes_assigned p ++ flat_map indexes_assigned ps
    by_test true e rest = rest ∙ ap (λ l. l ++ flat_map indexes_assigned ps) (sym (indexes-nothing p e))
    by_test false e rest = ap (λ l. indexes_assigned p ++ l) rest

pub indexes-first_part : (parts : List DefBody) → indexes_assigned (first_part parts) ≡ flat_map indexes_assigned parts
indexes-first_part parts = indexes-joined (filter (λ p. not (is_nothing p)) parts) ∙ indexes-kept parts

pub indexes-branches : (test : FlatExpr) (left right : DefBody) → indexes_assigned (branches test left right) ≡ indexes_assigned left ++ indexes_assigned right
indexes-branches test left right = by_tests (is_nothing left) (is_nothing right) refl refl
  where
    by_tests : (b c : Bool) → is_nothing left ≡ b → is_nothing right ≡ c → indexes_assigned (cond (b && c) Nothing (If test left right)) ≡ indexes_assigned left ++ indexes_assigned right
    by_tests true true h k = sym (ap (λ l. l ++ indexes_assigned right) (indexes-nothing left h) ∙ indexes-nothing right k)
    by_tests true false h k = indexes-If test left right
    by_tests false c h k = indexes-If test left right

pub indexes-each_value : (var : ℕ) (over : Simple) (body : DefBody) → indexes_assigned (each_value var over body) ≡ indexes_assigned body
indexes-each_value var over body = by_test (is_nothing body) refl
  where
    by_test : (b : Bool) → is_nothing body ≡ b → indexes_assigned (cond b Nothing (Forall var over body)) ≡ indexes_assigned body
    by_test true h = sym (indexes-nothing body h)
    by_test false h = indexes-Forall var over body

-- ---- results

pub if_walk-none : (every : List Value) (u : Truth) → if_walk every u None None ≡ None
if_walk-none every None = refl
if_walk-none every (Some true) = refl
if_walk-none every (Some false) = refl

if_walk-same : (every : List Value) (u : Truth) (v w x y : Walk) → v ≡ x → w ≡ y → if_walk every u v w ≡ if_walk every u x y
if_walk-same every u v w x y h k = rw (h, k) refl

pub first-none : {X : Type 0} (f : X → Walk) → ((y : X) → f y ≡ None) → (ys : List X) → first (map f ys) ≡ None
first-none f h [] = refl
first-none f h (y ∷ ys) = rw (h y) (first-none f h ys)

pub first-same : {X : Type 0} (f g : X → Walk) → ((y : X) → f y ≡ g y) → (ys : List X) → first (map f ys) ≡ first (map g ys)
first-same f g h [] = refl
first-same f g h (y ∷ ys) = rw (h y, first-same f g h ys) refl

first-of-none : (w : Walk) → first_of w None ≡ w
first-of-none None = refl
first-of-none (Some vs) = refl

module _ (n : Numbered) (s : FlatState) (x : FlatElement) (every : List Value) where
  abbrev result : FlatBindings → DefBody → Walk
  result b p = flat_result n s x every p b

  results-row : (k : _) (row : Row_of-DefBody k) (b : FlatBindings) → flat_results n s x every row b ≡ first (map (result b) (items-the_row-DefBody k row))
  results-row k end_of-DefBody b = refl
  results-row k (more_of-DefBody part rest) b = ap (λ w. first_of (flat_result n s x every part b) w) (results-row _ rest b)

  result-First : (parts : List DefBody) (b : FlatBindings) → flat_result n s x every (First parts) b ≡ first (map (result b) parts)
  result-First parts b =
      let row : (k : Count) × Row_of-DefBody k = rows_of (First parts) in
      results-row row.0 row.1 b ∙ ap (λ l. first (map (result b) l)) (items_hidden-the_row-DefBody-1 parts)

  result-If : (test : FlatExpr) (left right : DefBody) (b : FlatBindings) → flat_result n s x every (If test left right) b ≡ if_walk every (truth (flat_outcome n s test b)) (flat_result n s x every left b) (flat_result n s x every right b)
  unfolding boxes
  result-If test left right b = refl

  result-Forall : (var : ℕ) (over : Simple) (body : DefBody) (b : FlatBindings) → flat_result n s x every (Forall var over body) b ≡ first (map (λ v. flat_result n s x every body (bind b var v)) (values_in n over))
  unfolding boxes
  result-Forall var over body b = refl

  result-joined : (parts : List DefBody) (b : FlatBindings) → flat_result n s x every (joined parts) b ≡ first (map (result b) parts)
  result-joined [] b = refl
  result-joined (part ∷ []) b = sym (first-of-none (flat_result n s x every part b))
  result-joined (part ∷ other ∷ more) b = result-First (part ∷ other ∷ more) b

  result-nothing : (p : DefBody) → is_nothing p ≡ true → (b : FlatBindings) → flat_result n s x every p b ≡ None
  result-nothing p e b = ap (result b) (nothing-is p e)

  result-kept : (parts : List DefBody) (b : FlatBindings) → first (map (result b) (filter (λ p. not (is_nothing p)) parts)) ≡ first (map (result b) parts)
  result-kept [] b = refl
  result-kept (p ∷ ps) b = by_test (is_nothing p) refl (result-kept ps b)
    where
      by_test : (c : Bool) → is_nothing p ≡ c → first (map (result b) (filter (λ q. not (is_nothing q)) ps)) ≡ first (map (result b) ps) → first (map (result b) (cond (not c) (p ∷ filter (λ q. not (is_nothing q)) ps) (filter (λ q. not (is_nothing q)) ps))) ≡ first_of (result b p) (first (map (result b) ps))
      by_test true e rest = rest ∙ ap (λ w. first_of w (first (map (result b) ps))) (sym (result-nothing p e b))
      by_test false e rest = ap (λ w. first_of (result b p) w) rest

  pub result-first_part : (parts : List DefBody) (b : FlatBindings) → flat_result n s x every (first_part parts) b ≡ first (map (result b) parts)
  result-first_part parts b = result-joined (filter (λ p. not (is_nothing p)) parts) b ∙ result-kept parts b

  pub result-branches : (test : FlatExpr) (left right : DefBody) (b : FlatBindings) →
      flat_result n s x every (branches test left right) b ≡ if_walk every (truth (flat_outcome n s test b)) (flat_result n s x every left b) (flat_result n s x every right b)
  result-branches test left right b = by_tests (is_nothing left) (is_nothing right) refl refl
    where
      by_tests : (c d : Bool) → is_nothing left ≡ c → is_nothing right ≡ d → flat_result n s x every (cond (c && d) Nothing (If test left right)) b ≡ if_walk every (truth (flat_outcome n s test b)) (flat_result n s x every left b) (flat_result n s x every right b)
      by_tests true true h k =
          sym (if_walk-same every (truth (flat_outcome n s test b)) (flat_result n s x every left b) (flat_result n s x every right b) None None (result-nothing left h b) (result-nothing right k b) ∙ if_walk-none every (truth (flat_outcome n s test b)))
      by_tests true false h k = result-If test left right b
      by_tests false d h k = result-If test left right b

  pub result-each_value : (var : ℕ) (over : Simple) (body : DefBody) (b : FlatBindings) →
      flat_result n s x every (each_value var over body) b ≡ first (map (λ v. flat_result n s x every body (bind b var v)) (values_in n over))
  result-each_value var over body b = by_test (is_nothing body) refl
    where
      by_test : (c : Bool) → is_nothing body ≡ c → flat_result n s x every (cond c Nothing (Forall var over body)) b ≡ first (map (λ v. flat_result n s x every body (bind b var v)) (values_in n over))
      by_test true h = sym (first-none (λ v. flat_result n s x every body (bind b var v)) (λ v. result-nothing body h (bind b var v)) (values_in n over))
      by_test false h = result-Forall var over body b
