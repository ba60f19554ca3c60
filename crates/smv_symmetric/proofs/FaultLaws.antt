-- In a text that keeps the rules of kinds, the faults by the kinds that the code finds are the faults of set types.
use Rattle.std.proofs.Common.{◌≡◌, List, [], ◌∷◌, ◌++◌, map, true, false, ◌&&◌, refl, ap, sym, ◌∙◌}
use Rattle.std.specs.Prelude.{Option, Some, None, is_some, slice_get, nat_lt, length}
use Rattle.std.specs.List.{flat_map, list_all}
use Rattle.std.proofs.lemmas.Bool.{and_parts}
use Rattle.law_lists.proofs.Lists.{append_same}
use Rattle.smv_core.specs.declared.fault.Fault.{Fault}
use Rattle.smv_core.specs.declared.flat.FlatPair.{FlatPair}
use Rattle.smv_core.specs.declared.flat.FlatText.{FlatText}
use Rattle.smv_core.specs.declared.flat.FlatMember.{One, Span as SpanOf}
use Rattle.smv_core.specs.declared.flat.FlatExpr.{FlatExpr, Number, Read', Var, Loop, Constant, Not', And', Or', Implies', Iff', Compare', Within', Sum', Modulo', Choose', All', Any', List', Each', Held-FlatExpr-Each-2, None', Some', Row_of-FlatExpr, end_of-FlatExpr, more_of-FlatExpr, Row_of-FlatMember, end_of-FlatMember, more_of-FlatMember, Row_of-FlatSigned, end_of-FlatSigned, more_of-FlatSigned}
use Rattle.smv_core.specs.declared.flat.FlatStmt.{FlatStmt, Assign, If', Block', Default', Forall', Row_of-FlatStmt, end_of-FlatStmt, more_of-FlatStmt}
use Rattle.smv_core.specs.declared.flat.FlatItem.{FlatItem}
use Rattle.smv_core.specs.declared.flat.FlatItem.TheVariants as item
use Rattle.smv_mentions.specs.FirstFault.{first_of}
use Rattle.law_designs.specs.FlatKinds.{FlatKind, number, takes, are_numbers, common, compares, element, assigns, FlatVars, inside, is_binder, kind_in, kinds_in, summands, members_in, looked_through, is_condition, value_in, keeps_kinds, all_keep_kinds, are_binders, bound_by, is_size, is_kinded_family, is_kinded_item, is_kinded}
use Rattle.law_designs.proofs.Operands.{all-some, takes-some, numbers-some, each-some, if-some, common-some, number_if-true, compares-some, two-some, chosen-some, element-some}
use Rattle.law_designs.specs.SetOperands.{SetOperand, first_at, is_loop, met, disordered, wanted_at, wanted_of}
use Rattle.law_designs.specs.SetFaults as spec
use Rattle.law_designs.specs.SetFaults.{first_fault_of_sets}
use Rattle.smv_symmetric.specs.Plain.{first_among, sort_in, item_fault}
use Rattle.smv_symmetric.proofs.KindLaws.{value-kind, value-is}
use Rattle.smv_symmetric.proofs.TurnLaws.{first-each}

join3 : {X : Type 0} {a b c d e f : List X} → a ≡ d → b ≡ e → c ≡ f → a ++ b ++ c ≡ d ++ e ++ f
join3 p q r = cc

module _ (flat_text : FlatText) where
  abbrev Real : FlatVars → FlatExpr → List Fault
  Real vars e = spec.faults_in flat_text (value_in flat_text) vars e

  abbrev Found : FlatVars → FlatExpr → List Fault
  Found vars e = spec.faults_in flat_text (sort_in flat_text) vars e

  has_value : (vars : FlatVars) (e : FlatExpr) → is_some (kind_in flat_text vars e) ≡ true → is_some (value_in flat_text vars e) ≡ true
  has_value vars e h = ap is_some (value-kind flat_text vars e h) ∙ h

  operand-is : (vars : FlatVars) (e : FlatExpr) → is_some (value_in flat_text vars e) ≡ true → spec.operand flat_text (value_in flat_text) vars e ≡ spec.operand flat_text (sort_in flat_text) vars e
  operand-is vars e h = ap (λ k. with_kind k) (value-is flat_text vars e h)
    where
      with_kind : Option FlatKind → SetOperand
      with_kind kind = record { kind = kind; at = first_at e; is_loop = is_loop e }

  -- the sides of a comparison or the branches of `?:`
  sides : (vars : FlatVars) (l r : FlatExpr) → is_some (value_in flat_text vars l) ≡ true → is_some (value_in flat_text vars r) ≡ true →
      met (spec.operand flat_text (value_in flat_text) vars l ∷ spec.operand flat_text (value_in flat_text) vars r ∷ []) ≡ met (spec.operand flat_text (sort_in flat_text) vars l ∷ spec.operand flat_text (sort_in flat_text) vars r ∷ [])
  sides vars l r a b = ap (λ x. met (x ∷ spec.operand flat_text (value_in flat_text) vars r ∷ [])) (operand-is vars l a) ∙ ap (λ y. met (spec.operand flat_text (sort_in flat_text) vars l ∷ y ∷ [])) (operand-is vars r b)

  operands-are : (vars : FlatVars) (k : _) (row : Row_of-FlatExpr k) → all-some (kinds_in flat_text vars row) ≡ true → spec.operands flat_text (value_in flat_text) vars row ≡ spec.operands flat_text (sort_in flat_text) vars row
  operands-are vars k end_of-FlatExpr h = refl
  operands-are vars k (more_of-FlatExpr e rest) h =
      let g : (is_some (kind_in flat_text vars e) ≡ true) × (all-some (kinds_in flat_text vars rest) ≡ true) = and_parts _ _ h in
      ap (λ x. x ∷ spec.operands flat_text (value_in flat_text) vars rest) (operand-is vars e (has_value vars e g.0)) ∙ ap (λ l. spec.operand flat_text (sort_in flat_text) vars e ∷ l) (operands-are vars _ rest g.1)

  members-are : (vars : FlatVars) (k : _) (row : Row_of-FlatMember k) → all-some (members_in flat_text vars row) ≡ true → spec.members_of flat_text (value_in flat_text) vars row ≡ spec.members_of flat_text (sort_in flat_text) vars row
  members-are vars k end_of-FlatMember h = refl
  members-are vars k (more_of-FlatMember (One e) rest) h =
      let g : (is_some (kind_in flat_text vars e) ≡ true) × (all-some (members_in flat_text vars rest) ≡ true) = and_parts _ _ h in
      ap (λ x. x ∷ spec.members_of flat_text (value_in flat_text) vars rest) (operand-is vars e (has_value vars e g.0)) ∙ ap (λ l. spec.operand flat_text (sort_in flat_text) vars e ∷ l) (members-are vars _ rest g.1)
  members-are vars k (more_of-FlatMember (SpanOf span at) rest) h =
      ap (λ l. record { kind = Some number; at = at; is_loop = false } ∷ l) (members-are vars _ rest (and_parts _ _ h).1)

  -- what stands right of `in`
  listed-are : (vars : FlatVars) (set : FlatExpr) → all-some (looked_through flat_text vars set) ≡ true → spec.listed flat_text (value_in flat_text) vars set ≡ spec.listed flat_text (sort_in flat_text) vars set
  listed-are vars (List' shape members at) h = members-are vars _ members h
  listed-are vars _ h = refl

  pairwise : (vars : FlatVars) (l r : FlatExpr) → all-some (kind_in flat_text vars l ∷ kind_in flat_text vars r ∷ []) ≡ true → (is_some (value_in flat_text vars l) ≡ true) × (is_some (value_in flat_text vars r) ≡ true)
  pairwise vars l r h = let t = two-some (kind_in flat_text vars l) (kind_in flat_text vars r) h in (has_value vars l t.0, has_value vars r t.1)

  mutual
    same-in : (vars : FlatVars) (e : FlatExpr) → is_some (value_in flat_text vars e) ≡ true → Real vars e ≡ Found vars e
    same-in vars (Number value at) h = refl
    same-in vars (Read' family shape indexes at) h =
        let f = element-some (slice_get flat_text.families family) (kinds_in flat_text vars indexes) h in
        let all = each-some f.0.over (kinds_in flat_text vars indexes) f.2 in
        append_same (same-each vars indexes all) (ap (wanted_at (slice_get flat_text.families family)) (operands-are vars _ indexes all))
    same-in vars (Var var at) h = refl
    same-in vars (Loop value at) h = refl
    same-in vars (Constant list value at) h = refl
    same-in vars (Not' shape (more_of-FlatExpr e end_of-FlatExpr) at) h = same-in vars e (has_value vars e (takes-some number _ (number_if-true _ h)))
    same-in vars (And' shape parts) h = same-each vars parts (numbers-some (kinds_in flat_text vars parts) (number_if-true (are_numbers (kinds_in flat_text vars parts)) h))
    same-in vars (Or' shape parts) h = same-each vars parts (numbers-some (kinds_in flat_text vars parts) (number_if-true (are_numbers (kinds_in flat_text vars parts)) h))
    same-in vars (Implies' shape parts) h = same-each vars parts (numbers-some (kinds_in flat_text vars parts) (number_if-true (are_numbers (kinds_in flat_text vars parts)) h))
    same-in vars (Iff' l (more_of-FlatExpr left end_of-FlatExpr) r (more_of-FlatExpr right end_of-FlatExpr)) h =
        let t = pairwise vars left right (numbers-some (kind_in flat_text vars left ∷ kind_in flat_text vars right ∷ []) (number_if-true (are_numbers (kind_in flat_text vars left ∷ kind_in flat_text vars right ∷ [])) h)) in append_same (same-in vars left t.0) (same-in vars right t.1)
    same-in vars (Compare' op l (more_of-FlatExpr left end_of-FlatExpr) r (more_of-FlatExpr right end_of-FlatExpr)) h =
        let t = pairwise vars left right (common-some (kind_in flat_text vars left ∷ kind_in flat_text vars right ∷ []) (compares-some op (common (kind_in flat_text vars left ∷ kind_in flat_text vars right ∷ [])) (number_if-true (compares op (common (kind_in flat_text vars left ∷ kind_in flat_text vars right ∷ []))) h))) in
        append_same (append_same (join3 (same-in vars left t.0) (same-in vars right t.1) (sides vars left right t.0 t.1)) (ap (disordered flat_text.sets op) (operand-is vars left t.0))) (ap (disordered flat_text.sets op) (operand-is vars right t.1))
    same-in vars (Within' l (more_of-FlatExpr left end_of-FlatExpr) r (more_of-FlatExpr set end_of-FlatExpr)) h =
        let t : (is_some (kind_in flat_text vars left) ≡ true) × (all-some (looked_through flat_text vars set) ≡ true) = and_parts _ _ (common-some (kind_in flat_text vars left ∷ looked_through flat_text vars set) (number_if-true (is_some (common (kind_in flat_text vars left ∷ looked_through flat_text vars set))) h)) in
        let own = has_value vars left t.0 in
        join3 (same-in vars left own) (same-set vars set t.1)
        (ap (λ x. met (x ∷ spec.listed flat_text (value_in flat_text) vars set)) (operand-is vars left own) ∙ ap (λ l. met (spec.operand flat_text (sort_in flat_text) vars left ∷ l)) (listed-are vars set t.1))
    same-in vars (Sum' f (more_of-FlatExpr head end_of-FlatExpr) shape more) h =
        let t : (is_some (kind_in flat_text vars head) ≡ true) × (all-some (summands flat_text vars more) ≡ true) = and_parts _ _ (numbers-some (kind_in flat_text vars head ∷ summands flat_text vars more) (number_if-true (are_numbers (kind_in flat_text vars head ∷ summands flat_text vars more)) h)) in
        append_same (same-in vars head (has_value vars head t.0)) (same-signed vars more t.1)
    same-in vars (Modulo' shape (more_of-FlatExpr e end_of-FlatExpr) by at) h = same-in vars e (has_value vars e (takes-some number _ (and_parts _ _ (number_if-true _ h)).0))
    same-in vars (Choose' c (more_of-FlatExpr cond end_of-FlatExpr) l (more_of-FlatExpr left end_of-FlatExpr) r (more_of-FlatExpr right end_of-FlatExpr)) h =
        let t = chosen-some (kind_in flat_text vars cond) (value_in flat_text vars left) (value_in flat_text vars right) h in
        append_same (join3 (same-in vars cond (has_value vars cond t.0)) (same-in vars left t.1) (same-in vars right t.2)) (sides vars left right t.1 t.2)
    same-in vars (All' shape (more_of-FlatExpr body end_of-FlatExpr) var over at) h = same-in (inside vars over) body (has_value (inside vars over) body (takes-some number _ (and_parts _ _ (number_if-true _ h)).1))
    same-in vars (Any' shape (more_of-FlatExpr body end_of-FlatExpr) var over at) h = same-in (inside vars over) body (has_value (inside vars over) body (takes-some number _ (and_parts _ _ (number_if-true _ h)).1))
    same-in vars (List' shape members at) h =
        let all = common-some (members_in flat_text vars members) h in append_same (same-members vars members all) (ap met (members-are vars _ members all))
    same-in vars (Each' var over cond at) h =
        same-held (inside vars over) cond (and_parts (is_binder flat_text vars var over) (is_condition flat_text (inside vars over) cond) (if-some _ _ h).0).1

    same-each : {k : _} (vars : FlatVars) (row : Row_of-FlatExpr k) → all-some (kinds_in flat_text vars row) ≡ true → spec.faults_each flat_text (value_in flat_text) vars row ≡ spec.faults_each flat_text (sort_in flat_text) vars row
    same-each vars end_of-FlatExpr h = refl
    same-each vars (more_of-FlatExpr e rest) h =
        let g : (is_some (kind_in flat_text vars e) ≡ true) × (all-some (kinds_in flat_text vars rest) ≡ true) = and_parts _ _ h in append_same (same-in vars e (has_value vars e g.0)) (same-each vars rest g.1)

    same-signed : {k : _} (vars : FlatVars) (row : Row_of-FlatSigned k) → all-some (summands flat_text vars row) ≡ true → spec.faults_signed flat_text (value_in flat_text) vars row ≡ spec.faults_signed flat_text (sort_in flat_text) vars row
    same-signed vars end_of-FlatSigned h = refl
    same-signed vars (more_of-FlatSigned minus e rest) h =
        let g : (is_some (kind_in flat_text vars e) ≡ true) × (all-some (summands flat_text vars rest) ≡ true) = and_parts _ _ h in append_same (same-in vars e (has_value vars e g.0)) (same-signed vars rest g.1)

    same-members : {k : _} (vars : FlatVars) (row : Row_of-FlatMember k) → all-some (members_in flat_text vars row) ≡ true → spec.faults_members flat_text (value_in flat_text) vars row ≡ spec.faults_members flat_text (sort_in flat_text) vars row
    same-members vars end_of-FlatMember h = refl
    same-members vars (more_of-FlatMember (One e) rest) h =
        let g : (is_some (kind_in flat_text vars e) ≡ true) × (all-some (members_in flat_text vars rest) ≡ true) = and_parts _ _ h in append_same (same-in vars e (has_value vars e g.0)) (same-members vars rest g.1)
    same-members vars (more_of-FlatMember (SpanOf span at) rest) h = same-members vars rest (and_parts _ _ h).1

    same-held : (vars : FlatVars) (cond : Held-FlatExpr-Each-2) → is_condition flat_text vars cond ≡ true → spec.faults_held flat_text (value_in flat_text) vars cond ≡ spec.faults_held flat_text (sort_in flat_text) vars cond
    same-held vars None' h = refl
    same-held vars (Some' shape (more_of-FlatExpr cond end_of-FlatExpr)) h = same-in vars cond (has_value vars cond (takes-some number _ h))

    -- what stands right of `in`
    same-set : (vars : FlatVars) (set : FlatExpr) → all-some (looked_through flat_text vars set) ≡ true → Real vars set ≡ Found vars set
    same-set vars (List' shape members at) h = append_same (same-members vars members h) (ap met (members-are vars _ members h))
    same-set vars (Number value at) h = refl
    same-set vars (Read' family shape indexes at) h = absurd (cc (h))
    same-set vars (Var var at) h = refl
    same-set vars (Loop value at) h = refl
    same-set vars (Constant list value at) h = refl
    same-set vars (Not' shape row at) h = absurd (cc (h))
    same-set vars (And' shape parts) h = absurd (cc (h))
    same-set vars (Or' shape parts) h = absurd (cc (h))
    same-set vars (Implies' shape parts) h = absurd (cc (h))
    same-set vars (Iff' l left r right) h = absurd (cc (h))
    same-set vars (Compare' op l left r right) h = absurd (cc (h))
    same-set vars (Within' l left r set) h = absurd (cc (h))
    same-set vars (Sum' f head shape more) h = absurd (cc (h))
    same-set vars (Modulo' shape e by at) h = absurd (cc (h))
    same-set vars (Choose' c cond l left r right) h = absurd (cc (h))
    same-set vars (All' shape body var over at) h = absurd (cc (h))
    same-set vars (Any' shape body var over at) h = absurd (cc (h))
    same-set vars (Each' var over cond at) h = absurd (cc (h))

  same-number : (vars : FlatVars) (e : FlatExpr) → takes number (kind_in flat_text vars e) ≡ true → Real vars e ≡ Found vars e
  same-number vars e h = same-in vars e (has_value vars e (takes-some number (kind_in flat_text vars e) h))

  -- ---- statements

  left-same : (vars : FlatVars) (left : List FlatExpr) → all-some (map (kind_in flat_text vars) left) ≡ true →
      (flat_map (Real vars) left ≡ flat_map (Found vars) left) × (map (spec.operand flat_text (value_in flat_text) vars) left ≡ map (spec.operand flat_text (sort_in flat_text) vars) left)
  left-same vars [] h = (refl, refl)
  left-same vars (e ∷ left) h =
      let g : (is_some (kind_in flat_text vars e) ≡ true) × (all-some (map (kind_in flat_text vars) left) ≡ true) = and_parts _ _ h in
      let own = has_value vars e g.0 in
      let rest = left-same vars left g.1 in
      (append_same (same-in vars e own) rest.0, ap (λ x. x ∷ map (spec.operand flat_text (value_in flat_text) vars) left) (operand-is vars e own) ∙ ap (λ l. spec.operand flat_text (sort_in flat_text) vars e ∷ l) rest.1)

  assigned : (target : Option FlatKind) (value : Option FlatKind) → assigns target value ≡ true → (is_some target ≡ true) × (is_some value ≡ true)
  assigned None value h = absurd (cc (h))
  assigned (Some target) value h = (refl, takes-some target value h)

  mutual
    same-of : (vars : FlatVars) (act : FlatStmt) → keeps_kinds flat_text vars act ≡ true → spec.faults_of flat_text (value_in flat_text) vars act ≡ spec.faults_of flat_text (sort_in flat_text) vars act
    same-of vars (Assign kind family left value at) h =
        let o = assigned (element (slice_get flat_text.families family) (map (kind_in flat_text vars) left)) (value_in flat_text vars value) h in
        let f = element-some (slice_get flat_text.families family) (map (kind_in flat_text vars) left) o.0 in
        let g = left-same vars left (each-some f.0.over (map (kind_in flat_text vars) left) f.2) in
        append_same (join3 g.0 (ap (wanted_at (slice_get flat_text.families family)) g.1) (same-in vars value o.1)) (ap (wanted_of (slice_get flat_text.families family)) (operand-is vars value o.1))
    same-of vars (If' cond l (more_of-FlatStmt left end_of-FlatStmt) r (more_of-FlatStmt right end_of-FlatStmt)) h =
        let g : (takes number (kind_in flat_text vars cond) ≡ true) × ((keeps_kinds flat_text vars left && keeps_kinds flat_text vars right) ≡ true) = and_parts _ _ h in
        let k : (keeps_kinds flat_text vars left ≡ true) × (keeps_kinds flat_text vars right ≡ true) = and_parts _ _ g.1 in
        join3 (same-number vars cond g.0) (same-of vars left k.0) (same-of vars right k.1)
    same-of vars (Block' shape parts) h = same-all vars parts h
    same-of vars (Default' l (more_of-FlatStmt left end_of-FlatStmt) r (more_of-FlatStmt right end_of-FlatStmt)) h =
        let k : (keeps_kinds flat_text vars left ≡ true) × (keeps_kinds flat_text vars right ≡ true) = and_parts _ _ h in append_same (same-of vars left k.0) (same-of vars right k.1)
    same-of vars (Forall' var over shape (more_of-FlatStmt body end_of-FlatStmt)) h = same-of (inside vars over) body (and_parts (is_binder flat_text vars var over) (keeps_kinds flat_text (inside vars over) body) h).1

    same-all : {k : _} (vars : FlatVars) (row : Row_of-FlatStmt k) → all_keep_kinds flat_text vars row ≡ true → spec.faults_of_each flat_text (value_in flat_text) vars row ≡ spec.faults_of_each flat_text (sort_in flat_text) vars row
    same-all vars end_of-FlatStmt h = refl
    same-all vars (more_of-FlatStmt part rest) h =
        let k : (keeps_kinds flat_text vars part ≡ true) × (all_keep_kinds flat_text vars rest ≡ true) = and_parts _ _ h in append_same (same-of vars part k.0) (same-all vars rest k.1)

  -- ---- items

  pairs-same : (vars : FlatVars) (pairs : List FlatPair) → list_all (λ (pair : FlatPair). is_some (kind_in flat_text vars pair.left)) pairs ≡ true →
      flat_map (λ (pair : FlatPair). Real vars pair.left) pairs ≡ flat_map (λ (pair : FlatPair). Found vars pair.left) pairs
  pairs-same vars [] h = refl
  pairs-same vars (pair ∷ pairs) h =
      let g : (is_some (kind_in flat_text vars pair.left) ≡ true) × (list_all (λ (pair : FlatPair). is_some (kind_in flat_text vars pair.left)) pairs ≡ true) = and_parts _ _ h in
      append_same (same-in vars pair.left (has_value vars pair.left g.0)) (pairs-same vars pairs g.1)

  same-item : (x : FlatItem) → is_kinded_item flat_text x ≡ true → spec.item_faults flat_text (value_in flat_text) x ≡ spec.item_faults flat_text (sort_in flat_text) x
  same-item (item.Act layer act) h = same-of [] act h
  same-item (item.Claim c) h = same-number (bound_by flat_text c.params) c.body (and_parts (are_binders flat_text [] c.params) (takes number (kind_in flat_text (bound_by flat_text c.params) c.body)) h).1
  same-item (item.Split s) h = pairs-same (bound_by flat_text s.bound) s.pairs (and_parts (are_binders flat_text [] s.bound) (list_all (λ (pair : FlatPair). is_some (kind_in flat_text (bound_by flat_text s.bound) pair.left)) s.pairs) h).1
  same-item (item.Using u) h = refl

  same-items : (items : List FlatItem) → list_all (is_kinded_item flat_text) items ≡ true → flat_map (spec.item_faults flat_text (value_in flat_text)) items ≡ flat_map (spec.item_faults flat_text (sort_in flat_text)) items
  same-items [] h = refl
  same-items (x ∷ items) h =
      let g : (is_kinded_item flat_text x ≡ true) × (list_all (is_kinded_item flat_text) items ≡ true) = and_parts _ _ h in append_same (same-item x g.0) (same-items items g.1)

  items-kinded : is_kinded flat_text ≡ true → list_all (is_kinded_item flat_text) flat_text.items ≡ true
  items-kinded h =
      let a = (and_parts (list_all (λ info. is_size info.size) flat_text.sets) _ h).1 in
      let b = (and_parts (list_all (λ names. nat_lt 0 (length names)) flat_text.enums) _ a).1 in
      (and_parts (list_all (is_kinded_family flat_text) flat_text.families) _ b).1

  -- the first fault by the kinds that are found is the first fault of set types
  pub symmetric-first : is_kinded flat_text ≡ true → first_among (map (item_fault flat_text) flat_text.items) ≡ first_fault_of_sets flat_text
  unfolding item_fault
  symmetric-first h = sym (first-each (spec.item_faults flat_text (sort_in flat_text)) flat_text.items) ∙ ap first_of (sym (same-items flat_text.items (items-kinded h)))

pub ruleset kinded = (symmetric-first)
