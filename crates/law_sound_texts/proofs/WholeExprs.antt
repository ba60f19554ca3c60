-- What has a kind reads whole elements.
use Rattle.std.proofs.Common.{◌≡◌, ℕ, List, [], ◌∷◌, map, slice_get, Some, is_some, true, ◌&&◌, nat_le, nat_lt, sym, subst}
use Rattle.std.proofs.lemmas.Bool.{and_parts}
use Rattle.smv_core.specs.declared.flat.Simple.{Simple}
use Rattle.smv_core.specs.declared.flat.Family.{Family}
use Rattle.smv_core.specs.declared.flat.FlatMember.{One, Span as SpanOf}
use Rattle.smv_core.specs.declared.flat.FlatExpr.{FlatExpr, Number, Read', Var, Loop, Constant, Not', And', Or', Implies', Iff', Compare', Within', Sum', Modulo', Choose', All', Any', List', Each', Held-FlatExpr-Each-2, None', Some', Row_of-FlatExpr, end_of-FlatExpr, more_of-FlatExpr, Row_of-FlatMember, end_of-FlatMember, more_of-FlatMember, Row_of-FlatSigned, end_of-FlatSigned, more_of-FlatSigned}
use Rattle.smv_core.specs.declared.flat.FlatText.{FlatText}
use Rattle.law_designs.specs.FlatKinds.{number, kind_of, takes, are_numbers, number_if, common, element, take_each, FlatVars, inside, kind_in, kinds_in, summands, members_in, looked_through, is_condition, value_in, is_binder}
use Rattle.law_designs.proofs.Operands.{all-some, takes-some, numbers-some, each-some, if-some, common-some, number_if-true, compares-some, two-some, chosen-some, element-some}
use Rattle.law_obligations.specs.Sets.{Has, first, later}
use Rattle.law_obligations.specs.Whole.{OneForEach, OneForEachOf, IsWhole, AreWhole, AreWholeSigned, AreWholeMembers, IsWholeHeld}

module _ (flat_text : FlatText) where
  -- ---- expressions

  row-one-each : {m : _} (vars : FlatVars) (over : List Simple) (row : Row_of-FlatExpr m) → take_each over (kinds_in flat_text vars row) ≡ true → OneForEach over row
  row-one-each vars [] end_of-FlatExpr e = tt
  row-one-each vars [] (more_of-FlatExpr x rest) e = absurd (cc (e))
  row-one-each vars (t ∷ over) end_of-FlatExpr e = absurd (cc (e))
  row-one-each vars (t ∷ over) (more_of-FlatExpr x rest) e = row-one-each vars over rest (and_parts _ _ e).1

  mutual
    pub expr-whole : (vars : FlatVars) (e : FlatExpr) → is_some (kind_in flat_text vars e) ≡ true → IsWhole flat_text.families e
    expr-whole vars (Number value at) h = tt
    expr-whole vars (Read' family shape indexes at) h =
        let g : (f : Family) × (slice_get flat_text.families family ≡ Some f) × (take_each f.over (kinds_in flat_text vars indexes) ≡ true) = element-some (slice_get flat_text.families family) (kinds_in flat_text vars indexes) h in
        (subst (λ o. OneForEachOf o indexes) (sym g.1) (row-one-each vars g.0.over indexes g.2), row-whole vars indexes (each-some g.0.over (kinds_in flat_text vars indexes) g.2))
    expr-whole vars (Var var at) h = tt
    expr-whole vars (Loop value at) h = tt
    expr-whole vars (Constant list value at) h = tt
    expr-whole vars (Not' shape (more_of-FlatExpr e end_of-FlatExpr) at) h = expr-whole vars e (takes-some number (kind_in flat_text vars e) (number_if-true _ h))
    expr-whole vars (And' shape parts) h = row-whole vars parts (numbers-some (kinds_in flat_text vars parts) (number_if-true (are_numbers (kinds_in flat_text vars parts)) h))
    expr-whole vars (Or' shape parts) h = row-whole vars parts (numbers-some (kinds_in flat_text vars parts) (number_if-true (are_numbers (kinds_in flat_text vars parts)) h))
    expr-whole vars (Implies' shape parts) h = row-whole vars parts (numbers-some (kinds_in flat_text vars parts) (number_if-true (are_numbers (kinds_in flat_text vars parts)) h))
    expr-whole vars (Iff' l (more_of-FlatExpr left end_of-FlatExpr) r (more_of-FlatExpr right end_of-FlatExpr)) h =
        let g : (is_some (kind_in flat_text vars left) ≡ true) × (is_some (kind_in flat_text vars right) ≡ true) =
        two-some (kind_in flat_text vars left) (kind_in flat_text vars right) (numbers-some (kind_in flat_text vars left ∷ kind_in flat_text vars right ∷ []) (number_if-true _ h)) in
        (expr-whole vars left g.0, expr-whole vars right g.1)
    expr-whole vars (Compare' op l (more_of-FlatExpr left end_of-FlatExpr) r (more_of-FlatExpr right end_of-FlatExpr)) h =
        let g : (is_some (kind_in flat_text vars left) ≡ true) × (is_some (kind_in flat_text vars right) ≡ true) =
        two-some (kind_in flat_text vars left) (kind_in flat_text vars right) (common-some (kind_in flat_text vars left ∷ kind_in flat_text vars right ∷ []) (compares-some op (common (kind_in flat_text vars left ∷ kind_in flat_text vars right ∷ [])) (number_if-true _ h))) in
        (expr-whole vars left g.0, expr-whole vars right g.1)
    expr-whole vars (Within' l (more_of-FlatExpr left end_of-FlatExpr) r (more_of-FlatExpr set end_of-FlatExpr)) h =
        let g : (is_some (kind_in flat_text vars left) ≡ true) × (all-some (looked_through flat_text vars set) ≡ true) =
        and_parts _ _ (common-some (kind_in flat_text vars left ∷ looked_through flat_text vars set) (number_if-true _ h)) in
        (expr-whole vars left g.0, set-whole vars set g.1)
    expr-whole vars (Sum' f (more_of-FlatExpr head end_of-FlatExpr) shape more) h =
        let g : (is_some (kind_in flat_text vars head) ≡ true) × (all-some (summands flat_text vars more) ≡ true) =
        and_parts _ _ (numbers-some (kind_in flat_text vars head ∷ summands flat_text vars more) (number_if-true _ h)) in
        (expr-whole vars head g.0, signed-whole vars more g.1)
    expr-whole vars (Modulo' shape (more_of-FlatExpr e end_of-FlatExpr) by at) h =
        expr-whole vars e (takes-some number (kind_in flat_text vars e) (and_parts (takes number (kind_in flat_text vars e)) (nat_lt 0 by) (number_if-true _ h)).0)
    expr-whole vars (Choose' c (more_of-FlatExpr cond end_of-FlatExpr) l (more_of-FlatExpr left end_of-FlatExpr) r (more_of-FlatExpr right end_of-FlatExpr)) h =
        let g : (is_some (kind_in flat_text vars cond) ≡ true) × (is_some (kind_in flat_text vars left) ≡ true) × (is_some (kind_in flat_text vars right) ≡ true) =
        chosen-some (kind_in flat_text vars cond) (kind_in flat_text vars left) (kind_in flat_text vars right) h in
        (expr-whole vars cond g.0, expr-whole vars left g.1, expr-whole vars right g.2)
    expr-whole vars (All' shape (more_of-FlatExpr body end_of-FlatExpr) var over at) h =
        expr-whole (inside vars over) body (takes-some number (kind_in flat_text (inside vars over) body) (and_parts (is_binder flat_text vars var over) (takes number (kind_in flat_text (inside vars over) body)) (number_if-true _ h)).1)
    expr-whole vars (Any' shape (more_of-FlatExpr body end_of-FlatExpr) var over at) h =
        expr-whole (inside vars over) body (takes-some number (kind_in flat_text (inside vars over) body) (and_parts (is_binder flat_text vars var over) (takes number (kind_in flat_text (inside vars over) body)) (number_if-true _ h)).1)
    expr-whole vars (List' shape members at) h = absurd (cc (h))
    expr-whole vars (Each' var over cond at) h = absurd (cc (h))

    row-whole : {m : _} (vars : FlatVars) (row : Row_of-FlatExpr m) → all-some (kinds_in flat_text vars row) ≡ true → AreWhole flat_text.families row
    row-whole vars end_of-FlatExpr h = tt
    row-whole vars (more_of-FlatExpr e rest) h =
        let g : (is_some (kind_in flat_text vars e) ≡ true) × (all-some (kinds_in flat_text vars rest) ≡ true) = and_parts _ _ h in
        (expr-whole vars e g.0, row-whole vars rest g.1)

    signed-whole : {m : _} (vars : FlatVars) (row : Row_of-FlatSigned m) → all-some (summands flat_text vars row) ≡ true → AreWholeSigned flat_text.families row
    signed-whole vars end_of-FlatSigned h = tt
    signed-whole vars (more_of-FlatSigned minus e rest) h =
        let g : (is_some (kind_in flat_text vars e) ≡ true) × (all-some (summands flat_text vars rest) ≡ true) = and_parts _ _ h in
        (expr-whole vars e g.0, signed-whole vars rest g.1)

    members-whole : {m : _} (vars : FlatVars) (row : Row_of-FlatMember m) → all-some (members_in flat_text vars row) ≡ true → AreWholeMembers flat_text.families row
    members-whole vars end_of-FlatMember h = tt
    members-whole vars (more_of-FlatMember (One e) rest) h =
        let g : (is_some (kind_in flat_text vars e) ≡ true) × (all-some (members_in flat_text vars rest) ≡ true) = and_parts _ _ h in
        (expr-whole vars e g.0, members-whole vars rest g.1)
    members-whole vars (more_of-FlatMember (SpanOf span at) rest) h =
        members-whole vars rest (and_parts (is_some (number_if (nat_le span.low span.high))) (all-some (members_in flat_text vars rest)) h).1

    set-whole : (vars : FlatVars) (e : FlatExpr) → all-some (looked_through flat_text vars e) ≡ true → IsWhole flat_text.families e
    set-whole vars (List' shape members at) h = members-whole vars members h
    set-whole vars _ h = absurd (cc (h))

  held-whole : (vars : FlatVars) (cond : Held-FlatExpr-Each-2) → is_condition flat_text vars cond ≡ true → IsWholeHeld flat_text.families cond
  held-whole vars None' h = tt
  held-whole vars (Some' shape (more_of-FlatExpr e end_of-FlatExpr)) h = expr-whole vars e (takes-some number (kind_in flat_text vars e) h)

  pub value-whole : (vars : FlatVars) (e : FlatExpr) → is_some (value_in flat_text vars e) ≡ true → IsWhole flat_text.families e
  value-whole vars (List' shape members at) h = members-whole vars members (common-some (members_in flat_text vars members) h)
  value-whole vars (Each' var over cond at) h =
      let t : ((is_binder flat_text vars var over && is_condition flat_text (inside vars over) cond) ≡ true) × (is_some (Some (kind_of over)) ≡ true) = if-some _ (Some (kind_of over)) h in
      held-whole (inside vars over) cond (and_parts (is_binder flat_text vars var over) (is_condition flat_text (inside vars over) cond) t.0).1
  value-whole vars (Choose' c (more_of-FlatExpr cond end_of-FlatExpr) l (more_of-FlatExpr left end_of-FlatExpr) r (more_of-FlatExpr right end_of-FlatExpr)) h =
      let g : (is_some (kind_in flat_text vars cond) ≡ true) × (is_some (value_in flat_text vars left) ≡ true) × (is_some (value_in flat_text vars right) ≡ true) =
      chosen-some (kind_in flat_text vars cond) (value_in flat_text vars left) (value_in flat_text vars right) h in
      (expr-whole vars cond g.0, value-whole vars left g.1, value-whole vars right g.2)
  value-whole vars e h = expr-whole vars e h

  -- ---- lists of indexes

  pub list-whole : (vars : FlatVars) (es : List FlatExpr) → all-some (map (kind_in flat_text vars) es) ≡ true → (e : FlatExpr) → Has es e → IsWhole flat_text.families e
  list-whole vars [] h e i = elim i [ ]
  list-whole vars (x ∷ es) h _ first = expr-whole vars x (and_parts (is_some (kind_in flat_text vars x)) (all-some (map (kind_in flat_text vars) es)) h).0
  list-whole vars (x ∷ es) h e (later i) = list-whole vars es (and_parts (is_some (kind_in flat_text vars x)) (all-some (map (kind_in flat_text vars) es)) h).1 e i

  -- the indexes of an element that has a kind
  pub indexes-whole : (vars : FlatVars) (family : ℕ) (left : List FlatExpr) → is_some (element (slice_get flat_text.families family) (map (kind_in flat_text vars) left)) ≡ true → (e : FlatExpr) → Has left e → IsWhole flat_text.families e
  indexes-whole vars family left h =
      let g : (f : Family) × (slice_get flat_text.families family ≡ Some f) × (take_each f.over (map (kind_in flat_text vars) left) ≡ true) = element-some (slice_get flat_text.families family) (map (kind_in flat_text vars) left) h in
      list-whole vars left (each-some g.0.over (map (kind_in flat_text vars) left) g.2)
