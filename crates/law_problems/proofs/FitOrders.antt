-- Where no part of an expression breaks a rule of kinds and no value of a scalarset stands beside an order, each order stands over numbers or an ordset.
use Rattle.std.proofs.Common.{◌≡◌, ℕ, zero, suc, List, [], ◌∷◌, ◌++◌, map, flat_map, length, get_or, slice_get, Option, Some, None, is_some, Bool, true, false, not, ◌&&◌, ◌||◌, nat_eq, nat_le, nat_lt, refl, sym, ap, subst, ◌∙◌, inl, inr, arith}
use Rattle.std.specs.Prelude.{if◌then◌else◌}
use Rattle.std.specs.List.{list_all}
use Rattle.std.proofs.lemmas.Bool.{and_parts, and_from}
use Rattle.smv_core.specs.declared.fault.Fault.{Fault}
use Rattle.smv_core.specs.declared.tree.Op.{Op}
use Rattle.smv_core.specs.declared.tree.Op.TheVariants.{Equal, Differ, Less, AtMost, Greater, AtLeast}
use Rattle.smv_core.specs.declared.flat.Simple.{Simple}
use Rattle.smv_core.specs.declared.flat.Simple.TheVariants.{Range, Enum, Set}
use Rattle.smv_core.specs.declared.flat.SetInfo.{SetInfo}
use Rattle.smv_core.specs.declared.flat.Family.{Family}
use Rattle.smv_core.specs.declared.flat.FlatText.{FlatText}
use Rattle.smv_core.specs.declared.flat.FlatMember.{One, Span as SpanOf}
use Rattle.smv_core.specs.declared.flat.FlatExpr.{FlatExpr, Number, Read', Var, Loop, Constant, Not', And', Or', Implies', Iff', Compare', Within', Sum', Modulo', Choose', All', Any', List', Each', Held-FlatExpr-Each-2, None', Some', Row_of-FlatExpr, end_of-FlatExpr, more_of-FlatExpr, Row_of-FlatMember, end_of-FlatMember, more_of-FlatMember, Row_of-FlatSigned, end_of-FlatSigned, more_of-FlatSigned}
use Rattle.law_designs.specs.FlatKinds.{FlatKind, number, enumeration, set_type, FlatVars, kind_of, takes, are_numbers, number_if, joins, joined, common_after, common, compares, chosen, element, take_each, inside, is_type, is_index_type, is_binder, is_condition, is_kinded_family, kind_in, kinds_in, summands, members_in, looked_through, value_in}
use Rattle.law_designs.proofs.Operands.{all-some, takes-some, numbers-some, each-some, common-some, number_if-true, compares-some, two-some, chosen-some, element-some, if-some}
use Rattle.law_designs.specs.SetOperands.{first_at, is_loop, disordered, met, lacks_order, is_unordered}
use Rattle.law_designs.specs.SetFaults.{operand, listed, faults_in, faults_each, faults_signed, faults_members, faults_held}
use Rattle.law_designs.proofs.Faultless.{empty-both}
use Rattle.law_obligations.specs.Sets.{Has, first, later}
use Rattle.law_obligations.proofs.Members.{Has-cases, Has-uncons, all-each}
use Rattle.law_obligations.proofs.OneOfEach.{get_Has}
use Rattle.smv_problem.specs.WellFormed.{is_order, is_ordset, has_order, keeps_orders, all_keep_orders, signed_keep_orders, members_keep_orders}
use Rattle.law_problems.proofs.Names.{bare, same}

-- ---- lists of faults

pub none-each : {X Y : Type 0} (f : X → List Y) (xs : List X) → flat_map f xs ≡ [] → {x : X} → Has xs x → f x ≡ []
none-each f [] e h = elim h [ ]
none-each f (y ∷ xs) e first = (empty-both (f y) (flat_map f xs) e).0
none-each f (y ∷ xs) e (later h) = none-each f xs (empty-both (f y) (flat_map f xs) e).1 h

lt-there : {X : Type 0} (xs : List X) (k : ℕ) → nat_lt k (length xs) ≡ true → slice_get xs k ≡ None → ⊥
lt-there [] k h e = grind arith
lt-there (x ∷ xs) zero h e = cc (e)
lt-there (x ∷ xs) (suc k) h e = lt-there xs k (grind arith) e

either-both : (n a b : Bool) → (n || a) ≡ true → (n || b) ≡ true → (n || (a && b)) ≡ true
either-both true a b h k = refl
either-both false true b h k = k
either-both false false b h k = h

module _ (flat_text : FlatText) where
  -- ---- the set types of kinds are there

  abbrev pub is_there : FlatKind → Bool
  is_there number = true
  is_there (enumeration list) = true
  is_there (set_type set) = nat_lt set (length flat_text.sets)

  abbrev pub there_if : Option FlatKind → Bool
  there_if None = true
  there_if (Some kind) = is_there kind

  abbrev pub AreThere : FlatVars → Type 0
  AreThere vars = (k : FlatKind) → Has vars k → is_there k ≡ true

  pub none-there : AreThere []
  none-there k h = elim h [ ]

  type-there : (t : Simple) → is_type flat_text t ≡ true → is_there (kind_of t) ≡ true
  type-there (Range low high) h = refl
  type-there (Enum list) h = refl
  type-there (Set set) h = h

  pub index-there : (t : Simple) → is_index_type flat_text t ≡ true → is_there (kind_of t) ≡ true
  index-there (Range low high) h = refl
  index-there (Enum list) h = refl
  index-there (Set set) h = h

  pub inside-there : (vars : FlatVars) → AreThere vars → (var : ℕ) (over : Simple) → is_binder flat_text vars var over ≡ true → AreThere (inside vars over)
  inside-there vars all var over h k i = elim (Has-cases vars (kind_of over ∷ []) i) [
    | inl j ↦ all k j
    | inr j ↦ elim (Has-uncons j) [
      | inl e ↦ subst (λ k. is_there k ≡ true) (sym e) (index-there over (and_parts (nat_eq var (length vars)) (is_index_type flat_text over) h).1)
      | inr l ↦ elim l [ ]
    ]
  ]

  if-number : (b : Bool) → there_if (number_if b) ≡ true
  if-number true = refl
  if-number false = refl

  get-there : (vars : FlatVars) → AreThere vars → (v : ℕ) (o : Option FlatKind) → slice_get vars v ≡ o → there_if o ≡ true
  get-there vars all v None e = refl
  get-there vars all v (Some kind) e = all kind (get_Has vars v kind e)

  constant-there : (list : ℕ) (b : Bool) → there_if (if b then Some (enumeration list) else None) ≡ true
  constant-there list true = refl
  constant-there list false = refl

  joined-there : (j k : FlatKind) → is_there j ≡ true → is_there k ≡ true → is_there (joined j k) ≡ true
  joined-there number number h i = refl
  joined-there number (enumeration list) h i = refl
  joined-there number (set_type set) h i = i
  joined-there (enumeration list) k h i = refl
  joined-there (set_type set) k h i = h

  common-there : (l r : Option FlatKind) → there_if l ≡ true → there_if r ≡ true → there_if (common (l ∷ r ∷ [])) ≡ true
  common-there None r h i = refl
  common-there (Some j) None h i = refl
  common-there (Some j) (Some k) h i = by_test (joins j k)
    where
      by_test : (b : Bool) → there_if (if b then common_after (joined j k) [] else None) ≡ true
      by_test true = joined-there j k h i
      by_test false = refl

  chosen-there : (c l r : Option FlatKind) → there_if l ≡ true → there_if r ≡ true → there_if (chosen c l r) ≡ true
  chosen-there c l r h i = by_test (takes number c)
    where
      by_test : (b : Bool) → there_if (if b then common (l ∷ r ∷ []) else None) ≡ true
      by_test true = common-there l r h i
      by_test false = refl

  module _ (kept : list_all (is_kinded_family flat_text) flat_text.families ≡ true) where
    element-there : (k : ℕ) (o : Option Family) → slice_get flat_text.families k ≡ o → (es : List (Option FlatKind)) → there_if (element o es) ≡ true
    element-there k None e es = refl
    element-there k (Some f) e es = by_test (take_each f.over es)
      where
        by_test : (b : Bool) → there_if (if b then Some (kind_of f.value) else None) ≡ true
        by_test true = type-there f.value (and_parts (list_all (is_index_type flat_text) f.over) (is_type flat_text f.value) (all-each (is_kinded_family flat_text) kept (get_Has flat_text.families k f e))).1
        by_test false = refl

    kind-there : (vars : FlatVars) → AreThere vars → (e : FlatExpr) → there_if (kind_in flat_text vars e) ≡ true
    kind-there vars all (Number value at) = refl
    kind-there vars all (Read' family shape indexes at) = element-there family (slice_get flat_text.families family) refl (kinds_in flat_text vars indexes)
    kind-there vars all (Var var at) = get-there vars all var (slice_get vars var) refl
    kind-there vars all (Loop value at) = refl
    kind-there vars all (Constant list value at) = constant-there list (nat_lt value (length (get_or flat_text.enums list [])))
    kind-there vars all (Not' shape (more_of-FlatExpr e end_of-FlatExpr) at) = if-number (takes number (kind_in flat_text vars e))
    kind-there vars all (And' shape parts) = if-number (are_numbers (kinds_in flat_text vars parts))
    kind-there vars all (Or' shape parts) = if-number (are_numbers (kinds_in flat_text vars parts))
    kind-there vars all (Implies' shape parts) = if-number (are_numbers (kinds_in flat_text vars parts))
    kind-there vars all (Iff' l (more_of-FlatExpr left end_of-FlatExpr) r (more_of-FlatExpr right end_of-FlatExpr)) = if-number (are_numbers (kind_in flat_text vars left ∷ kind_in flat_text vars right ∷ []))
    kind-there vars all (Compare' op l (more_of-FlatExpr left end_of-FlatExpr) r (more_of-FlatExpr right end_of-FlatExpr)) = if-number (compares op (common (kind_in flat_text vars left ∷ kind_in flat_text vars right ∷ [])))
    kind-there vars all (Within' l (more_of-FlatExpr left end_of-FlatExpr) r (more_of-FlatExpr set end_of-FlatExpr)) = if-number (is_some (common (kind_in flat_text vars left ∷ looked_through flat_text vars set)))
    kind-there vars all (Sum' f (more_of-FlatExpr head end_of-FlatExpr) shape more) = if-number (are_numbers (kind_in flat_text vars head ∷ summands flat_text vars more))
    kind-there vars all (Modulo' shape (more_of-FlatExpr e end_of-FlatExpr) by at) = if-number (takes number (kind_in flat_text vars e) && nat_lt 0 by)
    kind-there vars all (Choose' c (more_of-FlatExpr cond end_of-FlatExpr) l (more_of-FlatExpr left end_of-FlatExpr) r (more_of-FlatExpr right end_of-FlatExpr)) =
        chosen-there (kind_in flat_text vars cond) (kind_in flat_text vars left) (kind_in flat_text vars right) (kind-there vars all left) (kind-there vars all right)
    kind-there vars all (All' shape (more_of-FlatExpr body end_of-FlatExpr) var over at) = if-number (is_binder flat_text vars var over && takes number (kind_in flat_text (inside vars over) body))
    kind-there vars all (Any' shape (more_of-FlatExpr body end_of-FlatExpr) var over at) = if-number (is_binder flat_text vars var over && takes number (kind_in flat_text (inside vars over) body))
    kind-there vars all (List' shape members at) = refl
    kind-there vars all (Each' var over cond at) = refl

    -- what has a kind has it as a value too
    value-kind : (vars : FlatVars) (e : FlatExpr) → is_some (kind_in flat_text vars e) ≡ true → value_in flat_text vars e ≡ kind_in flat_text vars e
    value-kind vars (Choose' c (more_of-FlatExpr cond end_of-FlatExpr) l (more_of-FlatExpr left end_of-FlatExpr) r (more_of-FlatExpr right end_of-FlatExpr)) h =
        let g : (is_some (kind_in flat_text vars cond) ≡ true) × (is_some (kind_in flat_text vars left) ≡ true) × (is_some (kind_in flat_text vars right) ≡ true) =
        chosen-some (kind_in flat_text vars cond) (kind_in flat_text vars left) (kind_in flat_text vars right) h in
        ap (λ u. chosen (kind_in flat_text vars cond) u (value_in flat_text vars right)) (value-kind vars left g.1) ∙ ap (λ u. chosen (kind_in flat_text vars cond) (kind_in flat_text vars left) u) (value-kind vars right g.2)
    value-kind vars (List' shape members at) h = absurd (cc (h))
    value-kind vars (Each' var over cond at) h = absurd (cc (h))
    value-kind vars (Number value at) h = refl
    value-kind vars (Read' family shape indexes at) h = refl
    value-kind vars (Var var at) h = refl
    value-kind vars (Loop value at) h = refl
    value-kind vars (Constant list value at) h = refl
    value-kind vars (Not' shape e at) h = refl
    value-kind vars (And' shape parts) h = refl
    value-kind vars (Or' shape parts) h = refl
    value-kind vars (Implies' shape parts) h = refl
    value-kind vars (Iff' l left r right) h = refl
    value-kind vars (Compare' op l left r right) h = refl
    value-kind vars (Within' l left r set) h = refl
    value-kind vars (Sum' f head shape more) h = refl
    value-kind vars (Modulo' shape e by at) h = refl
    value-kind vars (All' shape body var over at) h = refl
    value-kind vars (Any' shape body var over at) h = refl

    -- ---- one side of an order

    abbrev fault_if : Bool → ℕ → List Fault
    fault_if broken at = if broken then record { number = 21; at = at } ∷ [] else []

    set-ordered : (o : Option SetInfo) (at : ℕ) → (o ≡ None → ⊥) → fault_if (is_unordered o) at ≡ [] → is_ordset o ≡ true
    set-ordered None at some e = absurd (some refl)
    set-ordered (Some info) at some e = by_test info.ordered e
      where
        by_test : (b : Bool) → fault_if (not b) at ≡ [] → b ≡ true
        by_test true e = refl
        by_test false e = absurd (cc (e))

    kind-ordered : (o : Option FlatKind) (at : ℕ) → there_if o ≡ true → fault_if (lacks_order flat_text.sets o) at ≡ [] → has_order (bare flat_text) o ≡ true
    kind-ordered None at h e = refl
    kind-ordered (Some number) at h e = refl
    kind-ordered (Some (enumeration list)) at h e = refl
    kind-ordered (Some (set_type set)) at h e = set-ordered (slice_get flat_text.sets set) at (lt-there flat_text.sets set h) e

    side-ordered : (op : Op) (o : Option FlatKind) (at : ℕ) (loop : Bool) → there_if o ≡ true → disordered flat_text.sets op (record { kind = o; at = at; is_loop = loop }) ≡ [] → (not (is_order op) || has_order (bare flat_text) o) ≡ true
    side-ordered Equal o at loop h e = refl
    side-ordered Differ o at loop h e = refl
    side-ordered Less o at loop h e = kind-ordered o at h e
    side-ordered AtMost o at loop h e = kind-ordered o at h e
    side-ordered Greater o at loop h e = kind-ordered o at h e
    side-ordered AtLeast o at loop h e = kind-ordered o at h e

    side : (op : Op) (vars : FlatVars) → AreThere vars → (e : FlatExpr) → is_some (kind_in flat_text vars e) ≡ true → disordered flat_text.sets op (operand flat_text (value_in flat_text) vars e) ≡ [] →
        (not (is_order op) || has_order (bare flat_text) (kind_in (bare flat_text) vars e)) ≡ true
    side op vars all e h none =
        let named : disordered flat_text.sets op (record { kind = kind_in flat_text vars e; at = first_at e; is_loop = is_loop e }) ≡ [] =
        subst (λ o. disordered flat_text.sets op (record { kind = o; at = first_at e; is_loop = is_loop e }) ≡ []) (value-kind vars e h) none in
        subst (λ o. (not (is_order op) || has_order (bare flat_text) o) ≡ true) (sym (same flat_text vars e)) (side-ordered op (kind_in flat_text vars e) (first_at e) (is_loop e) (kind-there vars all e) named)

    abbrev faults : FlatVars → FlatExpr → List Fault
    faults vars e = faults_in flat_text (value_in flat_text) vars e

    -- ---- expressions

    mutual
      pub orders : (vars : FlatVars) → AreThere vars → (e : FlatExpr) → is_some (kind_in flat_text vars e) ≡ true → faults vars e ≡ [] → keeps_orders (bare flat_text) vars e ≡ true
      orders vars all (Number value at) h n = refl
      orders vars all (Read' family shape indexes at) h n =
          let g : (f : Family) × (slice_get flat_text.families family ≡ Some f) × (take_each f.over (kinds_in flat_text vars indexes) ≡ true) = element-some (slice_get flat_text.families family) (kinds_in flat_text vars indexes) h in
          row-orders vars all indexes (each-some g.0.over (kinds_in flat_text vars indexes) g.2) (empty-both _ _ n).0
      orders vars all (Var var at) h n = refl
      orders vars all (Loop value at) h n = refl
      orders vars all (Constant list value at) h n = refl
      orders vars all (Not' shape (more_of-FlatExpr e end_of-FlatExpr) at) h n = orders vars all e (takes-some number (kind_in flat_text vars e) (number_if-true _ h)) n
      orders vars all (And' shape parts) h n = row-orders vars all parts (numbers-some (kinds_in flat_text vars parts) (number_if-true (are_numbers (kinds_in flat_text vars parts)) h)) n
      orders vars all (Or' shape parts) h n = row-orders vars all parts (numbers-some (kinds_in flat_text vars parts) (number_if-true (are_numbers (kinds_in flat_text vars parts)) h)) n
      orders vars all (Implies' shape parts) h n = row-orders vars all parts (numbers-some (kinds_in flat_text vars parts) (number_if-true (are_numbers (kinds_in flat_text vars parts)) h)) n
      orders vars all (Iff' l (more_of-FlatExpr left end_of-FlatExpr) r (more_of-FlatExpr right end_of-FlatExpr)) h n =
          let g : (is_some (kind_in flat_text vars left) ≡ true) × (is_some (kind_in flat_text vars right) ≡ true) =
          two-some (kind_in flat_text vars left) (kind_in flat_text vars right) (numbers-some (kind_in flat_text vars left ∷ kind_in flat_text vars right ∷ []) (number_if-true _ h)) in
          let f : (faults vars left ≡ []) × (faults vars right ≡ []) = empty-both _ _ n in
          and_from _ _ (orders vars all left g.0 f.0) (orders vars all right g.1 f.1)
      orders vars all (Compare' op l (more_of-FlatExpr left end_of-FlatExpr) r (more_of-FlatExpr right end_of-FlatExpr)) h n =
          let g : (is_some (kind_in flat_text vars left) ≡ true) × (is_some (kind_in flat_text vars right) ≡ true) =
          two-some (kind_in flat_text vars left) (kind_in flat_text vars right) (common-some (kind_in flat_text vars left ∷ kind_in flat_text vars right ∷ []) (compares-some op (common (kind_in flat_text vars left ∷ kind_in flat_text vars right ∷ [])) (number_if-true _ h))) in
          let on_left : List Fault = disordered flat_text.sets op (operand flat_text (value_in flat_text) vars left) in
          let on_right : List Fault = disordered flat_text.sets op (operand flat_text (value_in flat_text) vars right) in
          let meets : List Fault = met (operand flat_text (value_in flat_text) vars left ∷ operand flat_text (value_in flat_text) vars right ∷ []) in
          let a : ((faults vars left ++ faults vars right ++ meets ++ on_left) ≡ []) × (on_right ≡ []) = empty-both _ _ n in
          let b : ((faults vars left ++ faults vars right ++ meets) ≡ []) × (on_left ≡ []) = empty-both _ _ a.0 in
          let c : ((faults vars left ++ faults vars right) ≡ []) × (meets ≡ []) = empty-both _ _ b.0 in
          let d : (faults vars left ≡ []) × (faults vars right ≡ []) = empty-both _ _ c.0 in
          and_from _ _ (either-both (not (is_order op)) _ _ (side op vars all left g.0 b.1) (side op vars all right g.1 a.1)) (and_from _ _ (orders vars all left g.0 d.0) (orders vars all right g.1 d.1))
      orders vars all (Within' l (more_of-FlatExpr left end_of-FlatExpr) r (more_of-FlatExpr set end_of-FlatExpr)) h n =
          let g : (is_some (kind_in flat_text vars left) ≡ true) × (all-some (looked_through flat_text vars set) ≡ true) =
          and_parts _ _ (common-some (kind_in flat_text vars left ∷ looked_through flat_text vars set) (number_if-true _ h)) in
          let meets : List Fault = met (operand flat_text (value_in flat_text) vars left ∷ listed flat_text (value_in flat_text) vars set) in
          let a : ((faults vars left ++ faults vars set) ≡ []) × (meets ≡ []) = empty-both _ _ n in
          let b : (faults vars left ≡ []) × (faults vars set ≡ []) = empty-both _ _ a.0 in
          and_from _ _ (orders vars all left g.0 b.0) (set-orders vars all set g.1 b.1)
      orders vars all (Sum' f (more_of-FlatExpr head end_of-FlatExpr) shape more) h n =
          let g : (is_some (kind_in flat_text vars head) ≡ true) × (all-some (summands flat_text vars more) ≡ true) =
          and_parts _ _ (numbers-some (kind_in flat_text vars head ∷ summands flat_text vars more) (number_if-true _ h)) in
          let a : (faults vars head ≡ []) × (faults_signed flat_text (value_in flat_text) vars more ≡ []) = empty-both _ _ n in
          and_from _ _ (orders vars all head g.0 a.0) (signed-orders vars all more g.1 a.1)
      orders vars all (Modulo' shape (more_of-FlatExpr e end_of-FlatExpr) by at) h n =
          orders vars all e (takes-some number (kind_in flat_text vars e) (and_parts (takes number (kind_in flat_text vars e)) (nat_lt 0 by) (number_if-true _ h)).0) n
      orders vars all (Choose' c (more_of-FlatExpr cond end_of-FlatExpr) l (more_of-FlatExpr left end_of-FlatExpr) r (more_of-FlatExpr right end_of-FlatExpr)) h n =
          let g : (is_some (kind_in flat_text vars cond) ≡ true) × (is_some (kind_in flat_text vars left) ≡ true) × (is_some (kind_in flat_text vars right) ≡ true) =
          chosen-some (kind_in flat_text vars cond) (kind_in flat_text vars left) (kind_in flat_text vars right) h in
          let meets : List Fault = met (operand flat_text (value_in flat_text) vars left ∷ operand flat_text (value_in flat_text) vars right ∷ []) in
          let a : ((faults vars cond ++ faults vars left ++ faults vars right) ≡ []) × (meets ≡ []) = empty-both _ _ n in
          let b : ((faults vars cond ++ faults vars left) ≡ []) × (faults vars right ≡ []) = empty-both _ _ a.0 in
          let d : (faults vars cond ≡ []) × (faults vars left ≡ []) = empty-both _ _ b.0 in
          and_from _ _ (orders vars all cond g.0 d.0) (and_from _ _ (orders vars all left g.1 d.1) (orders vars all right g.2 b.1))
      orders vars all (All' shape (more_of-FlatExpr body end_of-FlatExpr) var over at) h n =
          let g : (is_binder flat_text vars var over ≡ true) × (takes number (kind_in flat_text (inside vars over) body) ≡ true) = and_parts (is_binder flat_text vars var over) (takes number (kind_in flat_text (inside vars over) body)) (number_if-true _ h) in
          orders (inside vars over) (inside-there vars all var over g.0) body (takes-some number (kind_in flat_text (inside vars over) body) g.1) n
      orders vars all (Any' shape (more_of-FlatExpr body end_of-FlatExpr) var over at) h n =
          let g : (is_binder flat_text vars var over ≡ true) × (takes number (kind_in flat_text (inside vars over) body) ≡ true) = and_parts (is_binder flat_text vars var over) (takes number (kind_in flat_text (inside vars over) body)) (number_if-true _ h) in
          orders (inside vars over) (inside-there vars all var over g.0) body (takes-some number (kind_in flat_text (inside vars over) body) g.1) n
      orders vars all (List' shape members at) h n = absurd (cc (h))
      orders vars all (Each' var over cond at) h n = absurd (cc (h))

      row-orders : {m : _} (vars : FlatVars) → AreThere vars → (row : Row_of-FlatExpr m) → all-some (kinds_in flat_text vars row) ≡ true → faults_each flat_text (value_in flat_text) vars row ≡ [] → all_keep_orders (bare flat_text) vars row ≡ true
      row-orders vars all end_of-FlatExpr h n = refl
      row-orders vars all (more_of-FlatExpr e rest) h n =
          let g : (is_some (kind_in flat_text vars e) ≡ true) × (all-some (kinds_in flat_text vars rest) ≡ true) = and_parts _ _ h in
          let a : (faults vars e ≡ []) × (faults_each flat_text (value_in flat_text) vars rest ≡ []) = empty-both _ _ n in
          and_from _ _ (orders vars all e g.0 a.0) (row-orders vars all rest g.1 a.1)

      signed-orders : {m : _} (vars : FlatVars) → AreThere vars → (row : Row_of-FlatSigned m) → all-some (summands flat_text vars row) ≡ true → faults_signed flat_text (value_in flat_text) vars row ≡ [] → signed_keep_orders (bare flat_text) vars row ≡ true
      signed-orders vars all end_of-FlatSigned h n = refl
      signed-orders vars all (more_of-FlatSigned minus e rest) h n =
          let g : (is_some (kind_in flat_text vars e) ≡ true) × (all-some (summands flat_text vars rest) ≡ true) = and_parts _ _ h in
          let a : (faults vars e ≡ []) × (faults_signed flat_text (value_in flat_text) vars rest ≡ []) = empty-both _ _ n in
          and_from _ _ (orders vars all e g.0 a.0) (signed-orders vars all rest g.1 a.1)

      members-orders : {m : _} (vars : FlatVars) → AreThere vars → (row : Row_of-FlatMember m) → all-some (members_in flat_text vars row) ≡ true → faults_members flat_text (value_in flat_text) vars row ≡ [] → members_keep_orders (bare flat_text) vars row ≡ true
      members-orders vars all end_of-FlatMember h n = refl
      members-orders vars all (more_of-FlatMember (One e) rest) h n =
          let g : (is_some (kind_in flat_text vars e) ≡ true) × (all-some (members_in flat_text vars rest) ≡ true) = and_parts _ _ h in
          let a : (faults vars e ≡ []) × (faults_members flat_text (value_in flat_text) vars rest ≡ []) = empty-both _ _ n in
          and_from _ _ (orders vars all e g.0 a.0) (members-orders vars all rest g.1 a.1)
      members-orders vars all (more_of-FlatMember (SpanOf span at) rest) h n =
          members-orders vars all rest (and_parts (is_some (number_if (nat_le span.low span.high))) (all-some (members_in flat_text vars rest)) h).1 n

      set-orders : (vars : FlatVars) → AreThere vars → (e : FlatExpr) → all-some (looked_through flat_text vars e) ≡ true → faults vars e ≡ [] → keeps_orders (bare flat_text) vars e ≡ true
      set-orders vars all (List' shape members at) h n = members-orders vars all members h (empty-both _ _ n).0
      set-orders vars all _ h n = absurd (cc (h))

    -- ---- values

    held-orders : (vars : FlatVars) → AreThere vars → (var : ℕ) (over : Simple) (held : Held-FlatExpr-Each-2) (at : ℕ) → is_binder flat_text vars var over ≡ true → is_condition flat_text (inside vars over) held ≡ true →
        faults_held flat_text (value_in flat_text) (inside vars over) held ≡ [] → keeps_orders (bare flat_text) vars (Each' var over held at) ≡ true
    held-orders vars all var over None' at b h n = refl
    held-orders vars all var over (Some' shape (more_of-FlatExpr cond end_of-FlatExpr)) at b h n = orders (inside vars over) (inside-there vars all var over b) cond (takes-some number (kind_in flat_text (inside vars over) cond) h) n

    pub value-orders : (vars : FlatVars) → AreThere vars → (e : FlatExpr) → is_some (value_in flat_text vars e) ≡ true → faults vars e ≡ [] → keeps_orders (bare flat_text) vars e ≡ true
    value-orders vars all (List' shape members at) h n = members-orders vars all members (common-some (members_in flat_text vars members) h) (empty-both _ _ n).0
    value-orders vars all (Each' var over held at) h n =
        let t = if-some (is_binder flat_text vars var over && is_condition flat_text (inside vars over) held) (Some (kind_of over)) h in
        let g : (is_binder flat_text vars var over ≡ true) × (is_condition flat_text (inside vars over) held ≡ true) = and_parts _ _ t.0 in
        held-orders vars all var over held at g.0 g.1 n
    value-orders vars all (Choose' c (more_of-FlatExpr cond end_of-FlatExpr) l (more_of-FlatExpr left end_of-FlatExpr) r (more_of-FlatExpr right end_of-FlatExpr)) h n =
        let g : (is_some (kind_in flat_text vars cond) ≡ true) × (is_some (value_in flat_text vars left) ≡ true) × (is_some (value_in flat_text vars right) ≡ true) =
        chosen-some (kind_in flat_text vars cond) (value_in flat_text vars left) (value_in flat_text vars right) h in
        let meets : List Fault = met (operand flat_text (value_in flat_text) vars left ∷ operand flat_text (value_in flat_text) vars right ∷ []) in
        let a : ((faults vars cond ++ faults vars left ++ faults vars right) ≡ []) × (meets ≡ []) = empty-both _ _ n in
        let b : ((faults vars cond ++ faults vars left) ≡ []) × (faults vars right ≡ []) = empty-both _ _ a.0 in
        let d : (faults vars cond ≡ []) × (faults vars left ≡ []) = empty-both _ _ b.0 in
        and_from _ _ (orders vars all cond g.0 d.0) (and_from _ _ (value-orders vars all left g.1 d.1) (value-orders vars all right g.2 b.1))
    value-orders vars all (Number value at) h n = refl
    value-orders vars all (Read' family shape indexes at) h n = orders vars all (Read' family shape indexes at) h n
    value-orders vars all (Var var at) h n = refl
    value-orders vars all (Loop value at) h n = refl
    value-orders vars all (Constant list value at) h n = refl
    value-orders vars all (Not' shape e at) h n = orders vars all (Not' shape e at) h n
    value-orders vars all (And' shape parts) h n = orders vars all (And' shape parts) h n
    value-orders vars all (Or' shape parts) h n = orders vars all (Or' shape parts) h n
    value-orders vars all (Implies' shape parts) h n = orders vars all (Implies' shape parts) h n
    value-orders vars all (Iff' l left r right) h n = orders vars all (Iff' l left r right) h n
    value-orders vars all (Compare' op l left r right) h n = orders vars all (Compare' op l left r right) h n
    value-orders vars all (Within' l left r set) h n = orders vars all (Within' l left r set) h n
    value-orders vars all (Sum' f head shape more) h n = orders vars all (Sum' f head shape more) h n
    value-orders vars all (Modulo' shape e by at) h n = orders vars all (Modulo' shape e by at) h n
    value-orders vars all (All' shape body var over at) h n = orders vars all (All' shape body var over at) h n
    value-orders vars all (Any' shape body var over at) h n = orders vars all (Any' shape body var over at) h n

    -- the indexes of a left side
    pub left-orders : (vars : FlatVars) → AreThere vars → (es : List FlatExpr) → all-some (map (kind_in flat_text vars) es) ≡ true → flat_map (faults_in flat_text (value_in flat_text) vars) es ≡ [] → list_all (keeps_orders (bare flat_text) vars) es ≡ true
    left-orders vars all [] h n = refl
    left-orders vars all (e ∷ es) h n =
        let g : (is_some (kind_in flat_text vars e) ≡ true) × (all-some (map (kind_in flat_text vars) es) ≡ true) = and_parts _ _ h in
        let a : (faults vars e ≡ []) × (flat_map (faults_in flat_text (value_in flat_text) vars) es ≡ []) = empty-both _ _ n in
        and_from _ _ (orders vars all e g.0 a.0) (left-orders vars all es g.1 a.1)
