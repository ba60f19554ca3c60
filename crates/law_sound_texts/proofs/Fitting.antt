-- In a flattened text that keeps the rules of kinds, whose lists are not too long and whose binders are not too deep, each number fits.
use Rattle.std.proofs.Common.{◌≡◌, ◌<◌, ◌≤◌, ℕ, zero, suc, List, [], ◌∷◌, ◌++◌, map, length, get_or, slice_get, Option, Some, None, IfSome, is_some, true, ◌&&◌, nat_eq, nat_le, nat_lt, refl, sym, ◌∙◌, subst, arith}
use Rattle.std.specs.List.{AllByRecursion, list_all}
use Rattle.std.proofs.lemmas.Bool.{and_parts}
use Rattle.law_lists.proofs.Numbers.{nat_le-is, nat_lt-is, nat_eq-is}
use Rattle.law_lists.proofs.Places.{get_within}
use Rattle.smv_core.specs.Values.{Name}
use Rattle.smv_core.specs.declared.flat.Simple.{Simple}
use Rattle.smv_core.specs.declared.flat.Simple.TheVariants.{Range, Enum, Set}
use Rattle.smv_core.specs.declared.flat.SetInfo.{SetInfo}
use Rattle.smv_core.specs.declared.flat.Family.{Family}
use Rattle.smv_core.specs.declared.flat.Param.{Param}
use Rattle.smv_core.specs.declared.flat.FlatPair.{FlatPair}
use Rattle.smv_core.specs.declared.flat.FlatMember.{One, Span as SpanOf}
use Rattle.smv_core.specs.declared.flat.FlatExpr.{FlatExpr, Number, Read', Var, Loop, Constant, Not', And', Or', Implies', Iff', Compare', Within', Sum', Modulo', Choose', All', Any', List', Each', Held-FlatExpr-Each-2, None', Some', Row_of-FlatExpr, end_of-FlatExpr, more_of-FlatExpr, Row_of-FlatMember, end_of-FlatMember, more_of-FlatMember, Row_of-FlatSigned, end_of-FlatSigned, more_of-FlatSigned}
use Rattle.smv_core.specs.declared.flat.FlatStmt.{FlatStmt, Assign, If', Block', Default', Forall', Row_of-FlatStmt, end_of-FlatStmt, more_of-FlatStmt}
use Rattle.smv_core.specs.declared.flat.FlatItem.{FlatItem}
use Rattle.smv_core.specs.declared.flat.FlatItem.TheVariants as item
use Rattle.smv_core.specs.declared.flat.FlatText.{FlatText}
use Rattle.law_designs.specs.FlatKinds.{FlatKind, number, enumeration, number_if, kind_of, takes, are_numbers, common, assigns, element, take_each, FlatVars, inside, is_type, is_index_type, is_binder, kind_in, kinds_in, summands, members_in, looked_through, is_condition, value_in, keeps_kinds, all_keep_kinds, are_binders, bound_by, is_kinded_item, is_kinded_family, is_size, is_kinded}
use Rattle.law_designs.proofs.Operands.{all-some, takes-some, numbers-some, each-some, if-some, common-some, number_if-true, compares-some, two-some, chosen-some, element-some}
use Rattle.law_sound_texts.specs.NumbersFit.{IsShort, TypeFits, ExprFits, PartsFit, TermsFit, MembersFit, ConditionFits, StatementFits, StatementsFit, ParamFits, ItemFits, PlaceFits, FamilyFits, NumbersFit}
use Rattle.law_sound_texts.proofs.Shallow.{most}
use Rattle.law_sound_texts.proofs.FlatShallow.{FlatIsShallow, RowIsShallow, SignedAreShallow, ListedAreShallow, HeldIsShallow, ActIsShallow, ActsAreShallow}
use Rattle.law_sound_texts.proofs.Items.{FlatInside, FlatItemIsShallow}

-- ---- numbers and lists

-- what is below a length that is not too great
below : (k n : ℕ) → k < n → n ≤ most → IsShort k
below k n lt le = omega (arith, lt, le)

found-some : {X : Type 0} (o : Option X) (x : X) → o ≡ Some x → is_some o ≡ true
found-some o x e = cc

-- a constant is one of a list that is there
constant-below : (lists : List (List Name)) (k v : ℕ) → AllByRecursion (λ (names : List Name). length names ≤ most) lists → v < length (get_or lists k []) → (k < length lists) × IsShort v
constant-below [] k v few lt = absurd (omega (arith, lt))
constant-below (names ∷ lists) zero v few lt = (omega arith, below v (length names) lt few.0)
constant-below (names ∷ lists) (suc k) v few lt = let h = constant-below lists k v few.1 lt in (omega (arith, h.0), h.1)

one-more : {X : Type 0} (xs : List X) (x : X) (k : ℕ) → length xs ≡ k → length (xs ++ x ∷ []) ≡ suc k
one-more [] x k e = omega (arith, e)
one-more (y ∷ xs) x zero e = absurd (omega (arith, e))
one-more (y ∷ xs) x (suc k) e = let h : length (xs ++ x ∷ []) ≡ suc k = one-more xs x k (omega (arith, e)) in omega (arith, h)

-- ---- a text

-- Its lists are not too long.
pub record HasRoom (flat_text : FlatText) : Type 0 where
  pub sets : length flat_text.sets ≤ most
  pub enums : length flat_text.enums ≤ most
  pub constants : AllByRecursion (λ (names : List Name). length names ≤ most) flat_text.enums
  pub families : length flat_text.families ≤ most

-- the number of the layer fits
abbrev pub LayerFits : FlatItem → Type 0
LayerFits (item.Act layer act) = IfSome layer IsShort
LayerFits _ = Unit {0}

module _ (flat_text : FlatText) (room : HasRoom flat_text) where
  -- ---- types

  list-fits : (list v : ℕ) → v < length (get_or flat_text.enums list []) → IsShort list × IsShort v
  list-fits list v lt = let h = constant-below flat_text.enums list v room.constants lt in (below list (length flat_text.enums) h.0 room.enums, h.1)

  type-fits : (t : Simple) → is_type flat_text t ≡ true → TypeFits t
  type-fits (Range low high) e =
      let g : (nat_le low high ≡ true) × (nat_le high 255 ≡ true) = and_parts _ _ e in
      let a = nat_le-is low high g.0 in
      let b = nat_le-is high 255 g.1 in
      (omega (arith, a, b), omega (arith, b))
  type-fits (Enum list) e = (list-fits list 0 (nat_lt-is 0 (length (get_or flat_text.enums list [])) e)).0
  type-fits (Set set) e = below set (length flat_text.sets) (nat_lt-is set (length flat_text.sets) e) room.sets

  index-fits : (t : Simple) → is_index_type flat_text t ≡ true → TypeFits t
  index-fits (Range low high) e = type-fits (Range low high) e
  index-fits (Enum list) e = absurd (cc (e))
  index-fits (Set set) e = type-fits (Set set) e

  family-fits : (family : ℕ) (f : Family) → slice_get flat_text.families family ≡ Some f → IsShort family
  family-fits family f e = below family (length flat_text.families) (get_within flat_text.families family (found-some (slice_get flat_text.families family) f e)) room.families

  -- a binder inside so many others
  binder-fits : (vars : FlatVars) (k var : ℕ) (over : Simple) → length vars ≡ k → k < most → is_binder flat_text vars var over ≡ true → IsShort var × TypeFits over
  binder-fits vars k var over e lt h =
      let g : (nat_eq var (length vars) ≡ true) × (is_index_type flat_text over ≡ true) = and_parts _ _ h in
      (subst IsShort (sym (nat_eq-is var (length vars) g.0 ∙ e)) lt, index-fits over g.1)

  -- ---- expressions

  mutual
    expr-fits : (k : ℕ) (vars : FlatVars) (e : FlatExpr) → length vars ≡ k → k ≤ most → is_some (kind_in flat_text vars e) ≡ true → FlatIsShallow k e → ExprFits e
    expr-fits k vars (Number value at) same le h s = tt
    expr-fits k vars (Read' family shape indexes at) same le h s =
        let g : (f : Family) × (slice_get flat_text.families family ≡ Some f) × (take_each f.over (kinds_in flat_text vars indexes) ≡ true) = element-some (slice_get flat_text.families family) (kinds_in flat_text vars indexes) h in
        (family-fits family g.0 g.1, row-fits k vars indexes same le (each-some g.0.over (kinds_in flat_text vars indexes) g.2) s)
    expr-fits k vars (Var var at) same le h s = below var (length vars) (get_within vars var h) (subst (λ n. n ≤ most) (sym same) le)
    expr-fits k vars (Loop value at) same le h s = tt
    expr-fits k vars (Constant list value at) same le h s =
        list-fits list value (nat_lt-is value (length (get_or flat_text.enums list [])) (if-some (nat_lt value (length (get_or flat_text.enums list []))) (Some (enumeration list)) h).0)
    expr-fits k vars (Not' shape (more_of-FlatExpr e end_of-FlatExpr) at) same le h s = expr-fits k vars e same le (takes-some number (kind_in flat_text vars e) (number_if-true _ h)) s
    expr-fits k vars (And' shape parts) same le h s = row-fits k vars parts same le (numbers-some (kinds_in flat_text vars parts) (number_if-true (are_numbers (kinds_in flat_text vars parts)) h)) s
    expr-fits k vars (Or' shape parts) same le h s = row-fits k vars parts same le (numbers-some (kinds_in flat_text vars parts) (number_if-true (are_numbers (kinds_in flat_text vars parts)) h)) s
    expr-fits k vars (Implies' shape parts) same le h s = row-fits k vars parts same le (numbers-some (kinds_in flat_text vars parts) (number_if-true (are_numbers (kinds_in flat_text vars parts)) h)) s
    expr-fits k vars (Iff' l (more_of-FlatExpr left end_of-FlatExpr) r (more_of-FlatExpr right end_of-FlatExpr)) same le h s =
        let g : (is_some (kind_in flat_text vars left) ≡ true) × (is_some (kind_in flat_text vars right) ≡ true) =
        two-some (kind_in flat_text vars left) (kind_in flat_text vars right) (numbers-some (kind_in flat_text vars left ∷ kind_in flat_text vars right ∷ []) (number_if-true _ h)) in
        (expr-fits k vars left same le g.0 s.0, expr-fits k vars right same le g.1 s.1)
    expr-fits k vars (Compare' op l (more_of-FlatExpr left end_of-FlatExpr) r (more_of-FlatExpr right end_of-FlatExpr)) same le h s =
        let g : (is_some (kind_in flat_text vars left) ≡ true) × (is_some (kind_in flat_text vars right) ≡ true) =
        two-some (kind_in flat_text vars left) (kind_in flat_text vars right) (common-some (kind_in flat_text vars left ∷ kind_in flat_text vars right ∷ []) (compares-some op (common (kind_in flat_text vars left ∷ kind_in flat_text vars right ∷ [])) (number_if-true _ h))) in
        (expr-fits k vars left same le g.0 s.0, expr-fits k vars right same le g.1 s.1)
    expr-fits k vars (Within' l (more_of-FlatExpr left end_of-FlatExpr) r (more_of-FlatExpr set end_of-FlatExpr)) same le h s =
        let g : (is_some (kind_in flat_text vars left) ≡ true) × (all-some (looked_through flat_text vars set) ≡ true) =
        and_parts _ _ (common-some (kind_in flat_text vars left ∷ looked_through flat_text vars set) (number_if-true _ h)) in
        (expr-fits k vars left same le g.0 s.0, set-fits k vars set same le g.1 s.1)
    expr-fits k vars (Sum' f (more_of-FlatExpr head end_of-FlatExpr) shape more) same le h s =
        let g : (is_some (kind_in flat_text vars head) ≡ true) × (all-some (summands flat_text vars more) ≡ true) =
        and_parts _ _ (numbers-some (kind_in flat_text vars head ∷ summands flat_text vars more) (number_if-true _ h)) in
        (expr-fits k vars head same le g.0 s.0, signed-fits k vars more same le g.1 s.1)
    expr-fits k vars (Modulo' shape (more_of-FlatExpr e end_of-FlatExpr) by at) same le h s =
        expr-fits k vars e same le (takes-some number (kind_in flat_text vars e) (and_parts (takes number (kind_in flat_text vars e)) (nat_lt 0 by) (number_if-true _ h)).0) s
    expr-fits k vars (Choose' c (more_of-FlatExpr cond end_of-FlatExpr) l (more_of-FlatExpr left end_of-FlatExpr) r (more_of-FlatExpr right end_of-FlatExpr)) same le h s =
        let g : (is_some (kind_in flat_text vars cond) ≡ true) × (is_some (kind_in flat_text vars left) ≡ true) × (is_some (kind_in flat_text vars right) ≡ true) =
        chosen-some (kind_in flat_text vars cond) (kind_in flat_text vars left) (kind_in flat_text vars right) h in
        (expr-fits k vars cond same le g.0 s.0, expr-fits k vars left same le g.1 s.1, expr-fits k vars right same le g.2 s.2)
    expr-fits k vars (All' shape (more_of-FlatExpr body end_of-FlatExpr) var over at) same le h s =
        let g : (is_binder flat_text vars var over ≡ true) × (takes number (kind_in flat_text (inside vars over) body) ≡ true) = and_parts _ _ (number_if-true _ h) in
        let b = binder-fits vars k var over same s.0 g.0 in
        (b.0, b.1, expr-fits (suc k) (inside vars over) body (one-more vars (kind_of over) k same) (let lt = s.0 in omega (arith, lt)) (takes-some number (kind_in flat_text (inside vars over) body) g.1) s.1)
    expr-fits k vars (Any' shape (more_of-FlatExpr body end_of-FlatExpr) var over at) same le h s =
        let g : (is_binder flat_text vars var over ≡ true) × (takes number (kind_in flat_text (inside vars over) body) ≡ true) = and_parts _ _ (number_if-true _ h) in
        let b = binder-fits vars k var over same s.0 g.0 in
        (b.0, b.1, expr-fits (suc k) (inside vars over) body (one-more vars (kind_of over) k same) (let lt = s.0 in omega (arith, lt)) (takes-some number (kind_in flat_text (inside vars over) body) g.1) s.1)
    expr-fits k vars (List' shape members at) same le h s = absurd (cc (h))
    expr-fits k vars (Each' var over cond at) same le h s = absurd (cc (h))

    row-fits : {m : _} (k : ℕ) (vars : FlatVars) (row : Row_of-FlatExpr m) → length vars ≡ k → k ≤ most → all-some (kinds_in flat_text vars row) ≡ true → RowIsShallow k row → PartsFit row
    row-fits k vars end_of-FlatExpr same le h s = tt
    row-fits k vars (more_of-FlatExpr e rest) same le h s =
        let g : (is_some (kind_in flat_text vars e) ≡ true) × (all-some (kinds_in flat_text vars rest) ≡ true) = and_parts _ _ h in
        (expr-fits k vars e same le g.0 s.0, row-fits k vars rest same le g.1 s.1)

    signed-fits : {m : _} (k : ℕ) (vars : FlatVars) (row : Row_of-FlatSigned m) → length vars ≡ k → k ≤ most → all-some (summands flat_text vars row) ≡ true → SignedAreShallow k row → TermsFit row
    signed-fits k vars end_of-FlatSigned same le h s = tt
    signed-fits k vars (more_of-FlatSigned minus e rest) same le h s =
        let g : (is_some (kind_in flat_text vars e) ≡ true) × (all-some (summands flat_text vars rest) ≡ true) = and_parts _ _ h in
        (expr-fits k vars e same le g.0 s.0, signed-fits k vars rest same le g.1 s.1)

    members-fit : {m : _} (k : ℕ) (vars : FlatVars) (row : Row_of-FlatMember m) → length vars ≡ k → k ≤ most → all-some (members_in flat_text vars row) ≡ true → ListedAreShallow k row → MembersFit row
    members-fit k vars end_of-FlatMember same le h s = tt
    members-fit k vars (more_of-FlatMember (One e) rest) same le h s =
        let g : (is_some (kind_in flat_text vars e) ≡ true) × (all-some (members_in flat_text vars rest) ≡ true) = and_parts _ _ h in
        (expr-fits k vars e same le g.0 s.0, members-fit k vars rest same le g.1 s.1)
    members-fit k vars (more_of-FlatMember (SpanOf span at) rest) same le h s =
        members-fit k vars rest same le (and_parts (is_some (number_if (nat_le span.low span.high))) (all-some (members_in flat_text vars rest)) h).1 s

    set-fits : (k : ℕ) (vars : FlatVars) (e : FlatExpr) → length vars ≡ k → k ≤ most → all-some (looked_through flat_text vars e) ≡ true → FlatIsShallow k e → ExprFits e
    set-fits k vars (List' shape members at) same le h s = members-fit k vars members same le h s
    set-fits k vars _ same le h s = absurd (cc (h))

  held-fits : (k : ℕ) (vars : FlatVars) (cond : Held-FlatExpr-Each-2) → length vars ≡ k → k ≤ most → is_condition flat_text vars cond ≡ true → HeldIsShallow k cond → ConditionFits cond
  held-fits k vars None' same le h s = tt
  held-fits k vars (Some' shape (more_of-FlatExpr e end_of-FlatExpr)) same le h s = expr-fits k vars e same le (takes-some number (kind_in flat_text vars e) h) s

  value-fits : (k : ℕ) (vars : FlatVars) (e : FlatExpr) → length vars ≡ k → k ≤ most → is_some (value_in flat_text vars e) ≡ true → FlatIsShallow k e → ExprFits e
  value-fits k vars (List' shape members at) same le h s = members-fit k vars members same le (common-some (members_in flat_text vars members) h) s
  value-fits k vars (Each' var over cond at) same le h s =
      let t : ((is_binder flat_text vars var over && is_condition flat_text (inside vars over) cond) ≡ true) × (is_some (Some (kind_of over)) ≡ true) = if-some _ (Some (kind_of over)) h in
      let g : (is_binder flat_text vars var over ≡ true) × (is_condition flat_text (inside vars over) cond ≡ true) = and_parts _ _ t.0 in
      let b = binder-fits vars k var over same s.0 g.0 in
      (b.0, b.1, held-fits (suc k) (inside vars over) cond (one-more vars (kind_of over) k same) (let lt = s.0 in omega (arith, lt)) g.1 s.1)
  value-fits k vars (Choose' c (more_of-FlatExpr cond end_of-FlatExpr) l (more_of-FlatExpr left end_of-FlatExpr) r (more_of-FlatExpr right end_of-FlatExpr)) same le h s =
      let g : (is_some (kind_in flat_text vars cond) ≡ true) × (is_some (value_in flat_text vars left) ≡ true) × (is_some (value_in flat_text vars right) ≡ true) =
      chosen-some (kind_in flat_text vars cond) (value_in flat_text vars left) (value_in flat_text vars right) h in
      (expr-fits k vars cond same le g.0 s.0, value-fits k vars left same le g.1 s.1, value-fits k vars right same le g.2 s.2)
  value-fits k vars e same le h s = expr-fits k vars e same le h s

  list-fit : (k : ℕ) (vars : FlatVars) (es : List FlatExpr) → length vars ≡ k → k ≤ most → all-some (map (kind_in flat_text vars) es) ≡ true → AllByRecursion (FlatIsShallow k) es → AllByRecursion ExprFits es
  list-fit k vars [] same le h s = tt
  list-fit k vars (e ∷ es) same le h s =
      let g : (is_some (kind_in flat_text vars e) ≡ true) × (all-some (map (kind_in flat_text vars) es) ≡ true) = and_parts _ _ h in
      (expr-fits k vars e same le g.0 s.0, list-fit k vars es same le g.1 s.1)

  -- ---- statements

  assigned-some : (target value : Option FlatKind) → assigns target value ≡ true → (is_some target ≡ true) × (is_some value ≡ true)
  assigned-some None value e = absurd (cc (e))
  assigned-some (Some kind) value e = (refl, takes-some kind value e)

  mutual
    act-fits : (k : ℕ) (vars : FlatVars) (act : FlatStmt) → length vars ≡ k → k ≤ most → keeps_kinds flat_text vars act ≡ true → ActIsShallow k act → StatementFits act
    act-fits k vars (Assign kind family left value at) same le h s =
        let g : (is_some (element (slice_get flat_text.families family) (map (kind_in flat_text vars) left)) ≡ true) × (is_some (value_in flat_text vars value) ≡ true) =
        assigned-some (element (slice_get flat_text.families family) (map (kind_in flat_text vars) left)) (value_in flat_text vars value) h in
        let f : (f : Family) × (slice_get flat_text.families family ≡ Some f) × (take_each f.over (map (kind_in flat_text vars) left) ≡ true) = element-some (slice_get flat_text.families family) (map (kind_in flat_text vars) left) g.0 in
        (family-fits family f.0 f.1, list-fit k vars left same le (each-some f.0.over (map (kind_in flat_text vars) left) f.2) s.0, value-fits k vars value same le g.1 s.1)
    act-fits k vars (If' cond l (more_of-FlatStmt left end_of-FlatStmt) r (more_of-FlatStmt right end_of-FlatStmt)) same le h s =
        let g : (takes number (kind_in flat_text vars cond) ≡ true) × ((keeps_kinds flat_text vars left && keeps_kinds flat_text vars right) ≡ true) = and_parts _ _ h in
        let t : (keeps_kinds flat_text vars left ≡ true) × (keeps_kinds flat_text vars right ≡ true) = and_parts _ _ g.1 in
        (expr-fits k vars cond same le (takes-some number (kind_in flat_text vars cond) g.0) s.0, act-fits k vars left same le t.0 s.1, act-fits k vars right same le t.1 s.2)
    act-fits k vars (Block' shape parts) same le h s = acts-fit k vars parts same le h s
    act-fits k vars (Default' l (more_of-FlatStmt left end_of-FlatStmt) r (more_of-FlatStmt right end_of-FlatStmt)) same le h s =
        let t : (keeps_kinds flat_text vars left ≡ true) × (keeps_kinds flat_text vars right ≡ true) = and_parts _ _ h in
        (act-fits k vars left same le t.0 s.0, act-fits k vars right same le t.1 s.1)
    act-fits k vars (Forall' var over shape (more_of-FlatStmt body end_of-FlatStmt)) same le h s =
        let g : (is_binder flat_text vars var over ≡ true) × (keeps_kinds flat_text (inside vars over) body ≡ true) = and_parts _ _ h in
        let b = binder-fits vars k var over same s.0 g.0 in
        (b.0, b.1, act-fits (suc k) (inside vars over) body (one-more vars (kind_of over) k same) (let lt = s.0 in omega (arith, lt)) g.1 s.1)

    acts-fit : {m : _} (k : ℕ) (vars : FlatVars) (row : Row_of-FlatStmt m) → length vars ≡ k → k ≤ most → all_keep_kinds flat_text vars row ≡ true → ActsAreShallow k row → StatementsFit row
    acts-fit k vars end_of-FlatStmt same le h s = tt
    acts-fit k vars (more_of-FlatStmt part rest) same le h s =
        let g : (keeps_kinds flat_text vars part ≡ true) × (all_keep_kinds flat_text vars rest ≡ true) = and_parts _ _ h in
        (act-fits k vars part same le g.0 s.0, acts-fit k vars rest same le g.1 s.1)

  -- ---- items

  -- parameters, and what stands inside them
  params-fit : (P : ℕ → Type 0) (k : ℕ) (vars : FlatVars) (params : List Param) → length vars ≡ k → k ≤ most → are_binders flat_text vars params ≡ true → FlatInside k params P →
      AllByRecursion ParamFits params × ((n : ℕ) × (length (vars ++ bound_by flat_text params) ≡ n) × (n ≤ most) × P n)
  params-fit P k vars [] same le h s = (tt, (k, subst (λ vs. length vs ≡ k) (none-behind vars) same, le, s))
    where
      none-behind : (vs : FlatVars) → vs ≡ vs ++ []
      none-behind [] = refl
      none-behind (v ∷ vs) = rw (← none-behind vs) refl
  params-fit P k vars (p ∷ params) same le h s =
      let g : (is_binder flat_text vars p.var p.over ≡ true) × (are_binders flat_text (inside vars p.over) params ≡ true) = and_parts _ _ h in
      let b = binder-fits vars k p.var p.over same s.0 g.0 in
      let r = params-fit P (suc k) (inside vars p.over) params (one-more vars (kind_of p.over) k same) (let lt = s.0 in omega (arith, lt)) g.1 s.1 in
      (((b.0, b.1), r.0), (r.1.0, subst (λ vs. length vs ≡ r.1.0) (joined-behind vars (kind_of p.over) (bound_by flat_text params)) r.1.1, r.1.2, r.1.3))
    where
      joined-behind : (vs : FlatVars) (v : FlatKind) (ws : FlatVars) → (vs ++ v ∷ []) ++ ws ≡ vs ++ v ∷ ws
      joined-behind [] v ws = refl
      joined-behind (w ∷ vs) v ws = rw (joined-behind vs v ws) refl

  pairs-fit : (k : ℕ) (vars : FlatVars) (pairs : List FlatPair) → length vars ≡ k → k ≤ most → list_all (λ (pair : FlatPair). is_some (kind_in flat_text vars pair.left)) pairs ≡ true →
      AllByRecursion (λ (pair : FlatPair). FlatIsShallow k pair.left) pairs → AllByRecursion (λ (pair : FlatPair). ExprFits pair.left) pairs
  pairs-fit k vars [] same le h s = tt
  pairs-fit k vars (p ∷ pairs) same le h s =
      let g : (is_some (kind_in flat_text vars p.left) ≡ true) × (list_all (λ (pair : FlatPair). is_some (kind_in flat_text vars pair.left)) pairs ≡ true) = and_parts _ _ h in
      (expr-fits k vars p.left same le g.0 s.0, pairs-fit k vars pairs same le g.1 s.1)

  item-fits : (x : FlatItem) → is_kinded_item flat_text x ≡ true → LayerFits x → FlatItemIsShallow x → ItemFits x
  item-fits (item.Act layer act) h l s = (l, act-fits 0 [] act refl (omega arith) h s)
  item-fits (item.Claim c) h l s =
      let g : (are_binders flat_text [] c.params ≡ true) × (takes number (kind_in flat_text (bound_by flat_text c.params) c.body) ≡ true) = and_parts _ _ h in
      let p = params-fit (λ k. FlatIsShallow k c.body) 0 [] c.params refl (omega arith) g.0 s in
      (p.0, expr-fits p.1.0 (bound_by flat_text c.params) c.body p.1.1 p.1.2 (takes-some number (kind_in flat_text (bound_by flat_text c.params) c.body) g.1) p.1.3)
  item-fits (item.Split x) h l s =
      let g : (are_binders flat_text [] x.bound ≡ true) × (list_all (λ (pair : FlatPair). is_some (kind_in flat_text (bound_by flat_text x.bound) pair.left)) x.pairs ≡ true) = and_parts _ _ h in
      let p = params-fit (λ k. AllByRecursion (λ (pair : FlatPair). FlatIsShallow k pair.left) x.pairs) 0 [] x.bound refl (omega arith) g.0 s in
      (p.0, pairs-fit p.1.0 (bound_by flat_text x.bound) x.pairs p.1.1 p.1.2 g.1 p.1.3)
  item-fits (item.Using u) h l s = (params-fit (λ k. Unit {0}) 0 [] u.bound refl (omega arith) h s).0

  items-fit : (xs : List FlatItem) → list_all (is_kinded_item flat_text) xs ≡ true → AllByRecursion LayerFits xs → AllByRecursion FlatItemIsShallow xs → AllByRecursion ItemFits xs
  items-fit [] h l s = tt
  items-fit (x ∷ xs) h l s =
      let g : (is_kinded_item flat_text x ≡ true) × (list_all (is_kinded_item flat_text) xs ≡ true) = and_parts _ _ h in
      (item-fits x g.0 l.0 s.0, items-fit xs g.1 l.1 s.1)

  -- ---- families and set types

  over-fits : (over : List Simple) → list_all (is_index_type flat_text) over ≡ true → AllByRecursion TypeFits over
  over-fits [] h = tt
  over-fits (t ∷ over) h = let g : (is_index_type flat_text t ≡ true) × (list_all (is_index_type flat_text) over ≡ true) = and_parts _ _ h in (index-fits t g.0, over-fits over g.1)

  families-fit : (fs : List Family) → list_all (is_kinded_family flat_text) fs ≡ true → AllByRecursion FamilyFits fs
  families-fit [] h = tt
  families-fit (f ∷ fs) h =
      let g : (is_kinded_family flat_text f ≡ true) × (list_all (is_kinded_family flat_text) fs ≡ true) = and_parts _ _ h in
      let t : (list_all (is_index_type flat_text) f.over ≡ true) × (is_type flat_text f.value ≡ true) = and_parts _ _ g.0 in
      ((over-fits f.over t.0, type-fits f.value t.1), families-fit fs g.1)

  size-fits : (o : Option ℕ) → is_size o ≡ true → IfSome o IsShort
  size-fits None h = tt
  size-fits (Some n) h = let g : (nat_lt 0 n ≡ true) × (nat_le n 256 ≡ true) = and_parts _ _ h in let le = nat_le-is n 256 g.1 in omega (arith, le)

  sizes-fit : (infos : List SetInfo) → list_all (λ (info : SetInfo). is_size info.size) infos ≡ true → AllByRecursion (λ (info : SetInfo). IfSome info.size IsShort) infos
  sizes-fit [] h = tt
  sizes-fit (info ∷ infos) h =
      let g : (is_size info.size ≡ true) × (list_all (λ (info : SetInfo). is_size info.size) infos ≡ true) = and_parts _ _ h in
      (size-fits info.size g.0, sizes-fit infos g.1)

  -- each number of the text
  pub flat_text-fits : is_kinded flat_text ≡ true → AllByRecursion LayerFits flat_text.items → AllByRecursion FlatItemIsShallow flat_text.items → AllByRecursion PlaceFits flat_text.items → NumbersFit flat_text
  flat_text-fits e layers shallow places =
      let a : (list_all (λ (info : SetInfo). is_size info.size) flat_text.sets ≡ true) × ((list_all (λ (names : List Name). nat_lt 0 (length names)) flat_text.enums && (list_all (is_kinded_family flat_text) flat_text.families && list_all (is_kinded_item flat_text) flat_text.items)) ≡ true) = and_parts _ _ e in
      let b : (list_all (λ (names : List Name). nat_lt 0 (length names)) flat_text.enums ≡ true) × ((list_all (is_kinded_family flat_text) flat_text.families && list_all (is_kinded_item flat_text) flat_text.items) ≡ true) = and_parts _ _ a.1 in
      let c : (list_all (is_kinded_family flat_text) flat_text.families ≡ true) × (list_all (is_kinded_item flat_text) flat_text.items ≡ true) = and_parts _ _ b.1 in
      record {
        set_types = room.sets;
        sizes = sizes-fit flat_text.sets a.0;
        enumerations = room.enums;
        constants = room.constants;
        families = families-fit flat_text.families c.0;
        items = items-fit flat_text.items c.1 layers shallow;
        places = places;
      }
