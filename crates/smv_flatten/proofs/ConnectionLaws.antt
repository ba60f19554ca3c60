-- The connections of instances.
use Rattle.std.proofs.Common.{◌≡◌, ℕ, zero, suc, ◌+◌, ◌<◌, ◌≤◌, List, [], ◌∷◌, ◌++◌, map, find, min, length, get_or, drop, drop-cons, Some, None, Bool, true, false, cond, not, refl, sym, ap, ◌∙◌, arith}
use Rattle.std.specs.Prelude.{zip}
use Rattle.std.specs.List.{flat_map, position_or_len}
use Rattle.std.proofs.lemmas.List.{append-nil, append_assoc, map-append}
use Rattle.law_lists.proofs.Places.{drop_past}
use Rattle.law_lists.proofs.Lists.{length_map}
use Rattle.smv_core.specs.Values.{Name}
use Rattle.smv_core.specs.Types.{Family}
use Rattle.smv_core.specs.Outcome.{fields_of, same_path, family_at}
use Rattle.smv_core.specs.Assignments.{Around}
use Rattle.smv_core.specs.declared.tree.Kind.TheVariants.{Comb}
use Rattle.smv_core.specs.declared.tree.Word.{Word}
use Rattle.smv_core.specs.declared.tree.Role.{Role}
use Rattle.smv_core.specs.declared.tree.Stmt.{Stmt}
use Rattle.smv_core.specs.declared.tree.Stmt as stmt
use Rattle.smv_core.specs.declared.flat.FlatItem.{FlatItem}
use Rattle.smv_core.specs.declared.flat.FlatItem.TheVariants.{Act}
use Rattle.smv_core.specs.declared.tree.Path.{Path as TreePath, out-Path, roll-Path}
use Rattle.smv_core.specs.declared.tree.Expr.{Expr, Signal, Signal', Row_of-Part, end_of-Part, items_hidden-the_row-Part-0}
use Rattle.smv_core.specs.declared.flat.FlatExpr.{FlatExpr, Read, Constant}
use Rattle.smv_core.specs.declared.flat.FlatStmt.{Assign}
use mathlib.Core.Former.{Count}
use Rattle.smv_mentions.proofs.Computing.{computing}
use Rattle.law_designs.specs.Numbers.{Scope, family_number, or_signal}
use Rattle.law_designs.specs.Statements.{flat_expr, first_token}
use Rattle.law_designs.specs.Entries.{Binders, formal, given_to, connection, placed_families}
use Rattle.law_designs.specs.Flattening.{flat_family, scope_in, within}
use Rattle.smv_flatten_families.specs.declared.numbers.Here.{Here}
use Rattle.smv_flatten_families.specs.Held.{AreNumbers, instance_of, scope_here}
use Rattle.smv_flatten_statements.specs.Flattened.{statement_of, expression_of, path_indexes}
use Rattle.smv_flatten.specs.Items.{formal_of, act_item, bound_by}
use Rattle.smv_flatten.specs.Connections.{connected, input_act, output_act}

-- ---- flat forms of connections

module _ (scope : Scope) (vars : Around) where
  pub input-is : (n a : Name) (e : Expr) →
      statement_of scope vars (input_act n a e) ≡ Assign Comb (family_number scope (scope.instance ++ n ∷ a ∷ [])) [] (flat_expr scope vars e) (first_token e)
  unfolding statement_of computing
  input-is n a e = refl

  pub output-is : (n a : Name) (path : TreePath) → statement_of scope vars (output_act n a path) ≡
      Assign Comb (family_number scope (scope.instance ++ fields_of (out-Path path).parts)) (path_indexes scope vars (out-Path path).parts) (formal_of scope n a (out-Path path).at) (out-Path path).at
  unfolding statement_of expression_of formal_of computing
  output-is n a path = refl

module _ (h : Here) (around : Binders) (n a : Name) where
  pub input-item : (e : Expr) → act_item (scope_here h) None around (input_act n a e) ≡
      Act None (bound_by (scope_here h) 0 around (Assign Comb (family_number (scope_here h) (instance_of h ++ n ∷ a ∷ [])) [] (flat_expr (scope_here h) (within [] around) e) (first_token e)))
  unfolding act_item scope_here
  input-item e = ap (λ s. Act None (bound_by (scope_here h) 0 around s)) (input-is (scope_here h) (within [] around) n a e)

  pub output-item : (path : TreePath) → act_item (scope_here h) None around (output_act n a path) ≡
      Act None (bound_by (scope_here h) 0 around (Assign Comb (family_number (scope_here h) (instance_of h ++ fields_of (out-Path path).parts)) (path_indexes (scope_here h) (within [] around) (out-Path path).parts) (formal_of (scope_here h) n a (out-Path path).at) (out-Path path).at))
  unfolding act_item scope_here
  output-item path = ap (λ s. Act None (bound_by (scope_here h) 0 around s)) (output-is (scope_here h) (within [] around) n a path)

  -- the definition of an input is made of these parts
  pub input-made : (e : Expr) (family : ℕ) (left : List FlatExpr) (value : FlatExpr) (at : ℕ) → family ≡ family_number (scope_here h) (instance_of h ++ n ∷ a ∷ []) → left ≡ [] →
      value ≡ flat_expr (scope_here h) (within [] around) e → at ≡ first_token e → Act None (bound_by (scope_here h) 0 around (Assign Comb family left value at)) ≡ act_item (scope_here h) None around (input_act n a e)
  input-made e family left value at is none given place =
      ap (λ f. Act None (bound_by (scope_here h) 0 around (Assign Comb f left value at))) is
      ∙ ap (λ l. Act None (bound_by (scope_here h) 0 around (Assign Comb (family_number (scope_here h) (instance_of h ++ n ∷ a ∷ [])) l value at))) none
      ∙ ap (λ v. Act None (bound_by (scope_here h) 0 around (Assign Comb (family_number (scope_here h) (instance_of h ++ n ∷ a ∷ [])) [] v at))) given
      ∙ ap (λ k. Act None (bound_by (scope_here h) 0 around (Assign Comb (family_number (scope_here h) (instance_of h ++ n ∷ a ∷ [])) [] (flat_expr (scope_here h) (within [] around) e) k))) place
      ∙ sym (input-item e)

  -- and so is that of what an output gives
  pub output-made : (path : TreePath) (family : ℕ) (left : List FlatExpr) (value : FlatExpr) → family ≡ family_number (scope_here h) (instance_of h ++ fields_of (out-Path path).parts) →
      left ≡ path_indexes (scope_here h) (within [] around) (out-Path path).parts → value ≡ formal_of (scope_here h) n a (out-Path path).at →
      Act None (bound_by (scope_here h) 0 around (Assign Comb family left value (out-Path path).at)) ≡ act_item (scope_here h) None around (output_act n a path)
  output-made path family left value is indexes given =
      ap (λ f. Act None (bound_by (scope_here h) 0 around (Assign Comb f left value (out-Path path).at))) is
      ∙ ap (λ l. Act None (bound_by (scope_here h) 0 around (Assign Comb (family_number (scope_here h) (instance_of h ++ fields_of (out-Path path).parts)) l value (out-Path path).at))) indexes
      ∙ ap (λ v. Act None (bound_by (scope_here h) 0 around (Assign Comb (family_number (scope_here h) (instance_of h ++ fields_of (out-Path path).parts)) (path_indexes (scope_here h) (within [] around) (out-Path path).parts) v (out-Path path).at))) given
      ∙ sym (output-item path)

abbrev parts_of : Expr → (n : Count) × Row_of-Part n
parts_of (Signal' shape row at) = (_, row)
parts_of _ = (_, end_of-Part)

pub given-Signal : (n a : Name) (path : TreePath) → given_to n a (Signal path) ≡ output_act n a path ∷ []
given-Signal n a path =
    ap (λ l. stmt.Assign Comb (roll-Path (record { parts = l; at = (out-Path path).at })) (Signal (formal n a (out-Path path).at)) (out-Path path).at ∷ []) (items_hidden-the_row-Part-0 (out-Path path).parts)

pub ruleset paths = (given-Signal)

-- ---- formals that are read

place-found : {X : Type 0} (p : X → Bool) (xs : List X) → position_or_len p xs < length xs → (x : X) × (find p xs ≡ Some x)
place-found p [] lt = absurd (omega (arith, lt))
place-found {X} p (y ∷ ys) lt = by (p y) lt (place-found p ys)
  where
    by : (b : Bool) → cond (not b) (1 + position_or_len p ys) 0 < suc (length ys) → (position_or_len p ys < length ys → (x : X) × (find p ys ≡ Some x)) → (x : X) × (cond b (Some y) (find p ys) ≡ Some x)
    by true lt rest = (y, refl)
    by false lt rest = rest (omega (arith, lt))

place-none : {X : Type 0} (p : X → Bool) (xs : List X) → length xs ≤ position_or_len p xs → find p xs ≡ None
place-none p [] le = refl
place-none {X} p (y ∷ ys) le = by (p y) le (place-none p ys)
  where
    by : (b : Bool) → suc (length ys) ≤ cond (not b) (1 + position_or_len p ys) 0 → (length ys ≤ position_or_len p ys → find p ys ≡ None) → cond b (Some y) (find p ys) ≡ None
    by true le rest = absurd (omega (arith, le))
    by false le rest = rest (omega (arith, le))

module _ (scope : Scope) (n a : Name) (at : ℕ) where
  formal-family : family_number scope (scope.instance ++ n ∷ a ∷ []) < length scope.families → formal_of scope n a at ≡ Read (family_number scope (scope.instance ++ n ∷ a ∷ [])) [] at
  unfolding formal_of
  formal-family lt =
      let found : (f : Family) × (family_at scope.families (scope.instance ++ n ∷ a ∷ []) ≡ Some f) = place-found (λ f. same_path f.path (scope.instance ++ n ∷ a ∷ [])) scope.families lt in
      ap (λ o. or_signal scope None o (n ∷ a ∷ []) [] at) found.1

  formal-none : length scope.families ≤ family_number scope (scope.instance ++ n ∷ a ∷ []) → formal_of scope n a at ≡ Constant (length scope.enums) 0 at
  unfolding formal_of
  formal-none le = ap (λ o. or_signal scope None o (n ∷ a ∷ []) [] at) (place-none (λ f. same_path f.path (scope.instance ++ n ∷ a ∷ [])) scope.families le)

module _ (h : Here) (numbered : AreNumbers h.numbers.now) (n a : Name) (at k : ℕ) (e : k ≡ family_number (scope_here h) (instance_of h ++ n ∷ a ∷ [])) where
  families-length : length h.numbers.now.families ≡ length (scope_here h).families
  unfolding scope_here
  families-length =
      let placed : List (Family × ℕ) = placed_families h.numbers.now.text.now in
      ap length numbered.families ∙ length_map (flat_family (scope_in h.numbers.now.text.now [])) placed ∙ sym (length_map (λ (f, at). f) placed)

  pub read-family : k < length h.numbers.now.families → formal_of (scope_here h) n a at ≡ Read k [] at
  unfolding scope_here
  read-family lt =
      let same : length h.numbers.now.families ≡ length (scope_here h).families = families-length in
      formal-family (scope_here h) n a at (omega (arith, lt, same, e)) ∙ ap (λ i. Read i [] at) (sym e)

  pub read-none : (list : ℕ) → list ≡ length h.numbers.now.enums → length h.numbers.now.families ≤ k → formal_of (scope_here h) n a at ≡ Constant list 0 at
  unfolding scope_here
  read-none list is le =
      let same : length h.numbers.now.families ≡ length (scope_here h).families = families-length in
      formal-none (scope_here h) n a at (omega (arith, le, same, e)) ∙ ap (λ i. Constant i 0 at) (ap length (sym numbered.enums) ∙ sym is)

-- ---- connections one after the other

zip-at : {X Y : Type 0} (xs : List X) (ys : List Y) (i : ℕ) (x : X) (y : Y) → i < length xs → i < length ys → x ≡ get_or xs i x → y ≡ get_or ys i y → (i < length (zip xs ys)) × ((x, y) ≡ get_or (zip xs ys) i (x, y))
zip-at [] ys i x y lx ly ex ey = absurd (omega (arith, lx))
zip-at (x' ∷ xs) [] i x y lx ly ex ey = absurd (omega (arith, ly))
zip-at (x' ∷ xs) (y' ∷ ys) zero x y lx ly ex ey = (omega arith, ap (λ p. (p, y)) ex ∙ ap (λ q. (x', q)) ey)
zip-at (x' ∷ xs) (y' ∷ ys) (suc i) x y lx ly ex ey = let rest = zip-at xs ys i x y (omega (arith, lx)) (omega (arith, ly)) ex ey in (omega (arith, rest.0), rest.1)

-- the connection at a place
pub triple-at : (words : List Word) (roles : List Role) (args : List Expr) (i : ℕ) (word : Word) (role : Role) (e : Expr) → i < length words → i < length roles → i < length args →
    word ≡ get_or words i word → role ≡ get_or roles i role → e ≡ get_or args i e → drop i (zip (zip words roles) args) ≡ ((word, role), e) ∷ drop (i + 1) (zip (zip words roles) args)
triple-at words roles args i word role e lw lr la ew er ea =
    let pair = zip-at words roles i word role lw lr ew er in
    let triple = zip-at (zip words roles) args i (word, role) e pair.0 la pair.1 ea in
    let next : suc i ≡ i + 1 = omega arith in
    let all : List ((Word × Role) × Expr) = zip (zip words roles) args in
    let lt : i < length all = triple.0 in
    drop-cons all i ((word, role), e) lt ∙ ap (λ x. x ∷ drop (suc i) all) (sym triple.1) ∙ ap (λ k. ((word, role), e) ∷ drop k all) next

zip-short : {X Y : Type 0} (xs : List X) (ys : List Y) → (length (zip xs ys) ≤ length xs) × (length (zip xs ys) ≤ length ys)
zip-short [] ys = (omega arith, omega arith)
zip-short (x ∷ xs) [] = (omega arith, omega arith)
zip-short (x ∷ xs) (y ∷ ys) = let rest = zip-short xs ys in (omega (arith, rest.0), omega (arith, rest.1))

-- no connection is left
pub triple-end : (words : List Word) (roles : List Role) (args : List Expr) (i : ℕ) → min (min (length words) (length roles)) (length args) ≤ i → drop i (zip (zip words roles) args) ≡ []
triple-end words roles args i h =
    let pair = zip-short words roles in
    let triple = zip-short (zip words roles) args in
    drop_past (zip (zip words roles) args) i (omega (arith, h, pair.0, pair.1, triple.0, triple.1))

module _ (says : Stmt → FlatItem) (n : Name) (words : List Word) (roles : List Role) (args : List Expr) where
  abbrev left : ℕ → List FlatItem
  left i = map says (flat_map (connected n) (drop i (zip (zip words roles) args)))

  pub connect-step : (i : ℕ) (word : Word) (role : Role) (e : Expr) (old new first : List FlatItem) → i < min (min (length words) (length roles)) (length args) →
      word ≡ get_or words i word → role ≡ get_or roles i role → e ≡ get_or args i e → old ++ left i ≡ first → new ≡ old ++ map says (connection role n word.name e) → new ++ left (i + 1) ≡ first
  connect-step i word role e old new first lt ew er ee so_far more =
      let all : List ((Word × Role) × Expr) = zip (zip words roles) args in
      let at : drop i all ≡ ((word, role), e) ∷ drop (i + 1) all = triple-at words roles args i word role e (omega (arith, lt)) (omega (arith, lt)) (omega (arith, lt)) ew er ee in
      let one : List FlatItem = map says (connection role n word.name e) in
      let rest : left i ≡ one ++ left (i + 1) = ap (λ l. map says (flat_map (connected n) l)) at ∙ map-append says (connection role n word.name e) (flat_map (connected n) (drop (i + 1) all)) in
      ap (λ l. l ++ left (i + 1)) more ∙ append_assoc old one (left (i + 1)) ∙ ap (λ l. old ++ l) (sym rest) ∙ so_far

  pub connect-done : (i : ℕ) (old first : List FlatItem) → min (min (length words) (length roles)) (length args) ≤ i → old ++ left i ≡ first → old ≡ first
  connect-done i old first le so_far = sym (append-nil old) ∙ ap (λ l. old ++ map says (flat_map (connected n) l)) (sym (triple-end words roles args i le)) ∙ so_far
