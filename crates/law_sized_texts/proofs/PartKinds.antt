-- Parts of definitions that keep the rules of kinds are exact: the variables of left sides are bound, and each value is a right side.
use Rattle.std.proofs.Common.{◌≡◌, ℕ, suc, ◌<◌, ◌≤◌, List, [], ◌∷◌, map, length, Bool, true, false, ◌&&◌, if◌then◌else◌, nat_eq, nat_le, refl, subst, Option, Some, None, arith, ap, is_some}
use Rattle.std.specs.List.{slice_get, list_all}
use Rattle.smv_core.specs.Assignments.{Index, fixed, bare, computed, add_fixed, modulo_fixed}
use Rattle.smv_core.specs.FlatMeaning.{flat_index, flat_index_sum}
use Rattle.smv_core.specs.declared.flat.Simple.{Simple}
use Rattle.smv_core.specs.declared.flat.Family.{Family}
use Rattle.smv_core.specs.declared.flat.FlatText.{FlatText}
use Rattle.smv_core.specs.declared.flat.FlatMember.{One, Span as SpanOf}
use Rattle.smv_core.specs.declared.flat.FlatExpr.{FlatExpr, Number, Var, Loop, Sum', Modulo', Choose', List', Each', end_of-FlatExpr, more_of-FlatExpr, Row_of-FlatMember, end_of-FlatMember, more_of-FlatMember, Row_of-FlatSigned, end_of-FlatSigned, more_of-FlatSigned}
use Rattle.smv_core.specs.declared.flat.DefBody.{DefBody, Nothing, Assign, If', First', Forall', Row_of-DefBody, end_of-DefBody, more_of-DefBody}
use Rattle.law_designs.specs.FlatKinds as kinds
use Rattle.law_designs.specs.FlatKinds.{FlatKind, FlatVars}
use Rattle.law_obligations.specs.Sets.{Has, first, later}
use Rattle.law_obligations.proofs.Members.{Has-map}
use Rattle.law_lists.proofs.Places.{get_within}
use Rattle.std.proofs.lemmas.List.{length-append}
use Rattle.smv_problem.specs.WellFormed.{is_part, are_parts, keeps_orders}
use Rattle.law_exact.specs.Exact.{IsNoSet, AreNoSets, HasMember, IsSide, IsBoundIndex, IsExactPart, AreExactParts}
use Rattle.law_lists.proofs.Booleans.{left_of, right_of}
use Rattle.law_lists.proofs.Numbers.{nat_eq-is}

-- an operand that breaks no rule
abbrev HasKind : Option FlatKind → Type 0
HasKind None = ⊥
HasKind (Some kind) = Unit {0}

takes-has : (target : FlatKind) (o : Option FlatKind) → kinds.takes target o ≡ true → HasKind o
takes-has target None e = absurd (cc (e))
takes-has target (Some kind) e = tt

number-if : (b : Bool) → HasKind (kinds.number_if b) → b ≡ true
number-if true h = refl
number-if false h = elim h [ ]

after-has : (kind : FlatKind) (more : List (Option FlatKind)) → HasKind (kinds.common_after kind more) → (e : Option FlatKind) → Has more e → HasKind e
after-has kind [] h e k = elim k [ ]
after-has kind (None ∷ more) h e k = elim h [ ]
after-has kind (Some other ∷ more) h e k = at (kinds.joins kind other) h k (λ q e k. after-has (kinds.joined kind other) more q e k)
  where
    in_list : (e : Option FlatKind) → Has (Some other ∷ more) e → ((e : Option FlatKind) → Has more e → HasKind e) → HasKind e
    in_list _ first goes = tt
    in_list e (later k) goes = goes e k

    at : (b : Bool) → HasKind (if b then kinds.common_after (kinds.joined kind other) more else None) → Has (Some other ∷ more) e → (HasKind (kinds.common_after (kinds.joined kind other) more) → (e : Option FlatKind) → Has more e → HasKind e) → HasKind e
    at true h k goes = in_list e k (goes h)
    at false h k goes = elim h [ ]

common-has : (es : List (Option FlatKind)) → HasKind (kinds.common es) → (e : Option FlatKind) → Has es e → HasKind e
common-has [] h e k = elim k [ ]
common-has (None ∷ more) h e k = elim h [ ]
common-has (Some kind ∷ more) h _ first = tt
common-has (Some kind ∷ more) h e (later k) = after-has kind more h e k

chosen-has : (c l r : Option FlatKind) → HasKind (kinds.chosen c l r) → HasKind l × HasKind r
chosen-has c l r h = at (kinds.takes FlatKind.number c) h
  where
    at : (b : Bool) → HasKind (if b then kinds.common (l ∷ r ∷ []) else None) → HasKind l × HasKind r
    at true h = (common-has (l ∷ r ∷ []) h l first, common-has (l ∷ r ∷ []) h r (later first))
    at false h = elim h [ ]

each-takes : (over : List Simple) (es : List (Option FlatKind)) → kinds.take_each over es ≡ true → (e : Option FlatKind) → Has es e → HasKind e
each-takes [] [] h e k = elim k [ ]
each-takes [] (x ∷ es) h e k = absurd (cc (h))
each-takes (t ∷ over) [] h e k = absurd (cc (h))
each-takes (t ∷ over) (x ∷ es) h _ first = takes-has (kinds.kind_of t) x (left_of (kinds.takes (kinds.kind_of t) x) (kinds.take_each over es) h)
each-takes (t ∷ over) (x ∷ es) h e (later k) = each-takes over es (right_of (kinds.takes (kinds.kind_of t) x) (kinds.take_each over es) h) e k

element-has : (o : Option Family) (es : List (Option FlatKind)) → HasKind (kinds.element o es) → (e : Option FlatKind) → Has es e → HasKind e
element-has None es h e k = elim h [ ]
element-has (Some f) es h e k = at (kinds.take_each f.over es) refl h
  where
    at : (b : Bool) → kinds.take_each f.over es ≡ b → HasKind (if b then Some (kinds.kind_of f.value) else None) → HasKind e
    at true q h = each-takes f.over es q e k
    at false q h = elim h [ ]

assigns-has : (target value : Option FlatKind) → kinds.assigns target value ≡ true → HasKind target × HasKind value
assigns-has None value e = absurd (cc (e))
assigns-has (Some target) value e = (tt, takes-has target value e)

-- ---- indexes

added-bound : (around : ℕ) (minus : Bool) (i j : Index) → IsBoundIndex around (add_fixed minus i j)
added-bound around minus (fixed u) (fixed v) = tt
added-bound around minus (fixed u) (bare k) = tt
added-bound around minus (fixed u) computed = tt
added-bound around minus (bare k) (fixed v) = tt
added-bound around minus (bare k) (bare l) = tt
added-bound around minus (bare k) computed = tt
added-bound around minus computed (fixed v) = tt
added-bound around minus computed (bare l) = tt
added-bound around minus computed computed = tt

sum-bound : {m : _} (around : ℕ) (row : Row_of-FlatSigned m) (i : Index) → IsBoundIndex around i → IsBoundIndex around (flat_index_sum i row)
sum-bound around end_of-FlatSigned i h = h
sum-bound around (more_of-FlatSigned minus e others) i h = sum-bound around others (add_fixed minus i (flat_index e)) (added-bound around minus i (flat_index e))

modulo-bound : (around : ℕ) (i : Index) (by : ℕ) → IsBoundIndex around (modulo_fixed i by)
modulo-bound around (fixed u) by = tt
modulo-bound around (bare k) by = tt
modulo-bound around computed by = tt

le-true : (a b : ℕ) → nat_le a b ≡ true → a ≤ b
le-true a b e = grind arith

module _ (flat_text : FlatText) where
  bound-index : (vars : FlatVars) (e : FlatExpr) → HasKind (kinds.kind_in flat_text vars e) → IsBoundIndex (length vars) (flat_index e)
  bound-index vars (Number value at) h = tt
  bound-index vars (Loop value at) h = tt
  bound-index vars (Var var at) h = of_kind (slice_get vars var) refl h
    where
      of_kind : (o : Option FlatKind) → slice_get vars var ≡ o → HasKind o → var < length vars
      of_kind None e h = elim h [ ]
      of_kind (Some kind) e h = get_within vars var (ap is_some e)
  bound-index vars (Sum' f (more_of-FlatExpr head end_of-FlatExpr) shape more) h =
      sum-bound (length vars) more (flat_index head)
      (bound-index vars head (takes-has FlatKind.number (kinds.kind_in flat_text vars head) (left_of (kinds.takes FlatKind.number (kinds.kind_in flat_text vars head)) (kinds.are_numbers (kinds.summands flat_text vars more)) (number-if (kinds.are_numbers (kinds.kind_in flat_text vars head ∷ kinds.summands flat_text vars more)) h))))
  bound-index vars (Modulo' shape (more_of-FlatExpr e end_of-FlatExpr) by at) h = modulo-bound (length vars) (flat_index e) by
  bound-index vars _ h = tt

  no-set : (vars : FlatVars) (e : FlatExpr) → HasKind (kinds.kind_in flat_text vars e) → IsNoSet e
  no-set vars (List' shape members at) h = elim h [ ]
  no-set vars (Each' var over test at) h = elim h [ ]
  no-set vars (Choose' c (more_of-FlatExpr test end_of-FlatExpr) l (more_of-FlatExpr left end_of-FlatExpr) r (more_of-FlatExpr right end_of-FlatExpr)) h =
      let q = chosen-has (kinds.kind_in flat_text vars test) (kinds.kind_in flat_text vars left) (kinds.kind_in flat_text vars right) h in (no-set vars left q.0, no-set vars right q.1)
  no-set vars _ h = tt

  no-sets : {m : _} (vars : FlatVars) (row : Row_of-FlatMember m) → ((e : Option FlatKind) → Has (kinds.members_in flat_text vars row) e → HasKind e) → AreNoSets row
  no-sets vars end_of-FlatMember h = tt
  no-sets vars (more_of-FlatMember (One e) others) h = (no-set vars e (h (kinds.kind_in flat_text vars e) first), no-sets vars others (λ x k. h x (later k)))
  no-sets vars (more_of-FlatMember (SpanOf span at) others) h = no-sets vars others (λ x k. h x (later k))

  has-member : {m : _} (vars : FlatVars) (row : Row_of-FlatMember m) → HasKind (kinds.common (kinds.members_in flat_text vars row)) → HasMember row
  has-member vars end_of-FlatMember h = elim h [ ]
  has-member vars (more_of-FlatMember (One e) others) h = tt
  has-member vars (more_of-FlatMember (SpanOf span at) others) h =
      le-true span.low span.high (number-if (nat_le span.low span.high) (common-has (kinds.members_in flat_text vars (more_of-FlatMember (SpanOf span at) others)) h (kinds.number_if (nat_le span.low span.high)) first))

  side : (vars : FlatVars) (e : FlatExpr) → HasKind (kinds.value_in flat_text vars e) → IsSide e
  side vars (List' shape members at) h = (has-member vars members h, no-sets vars members (common-has (kinds.members_in flat_text vars members) h))
  side vars (Choose' c (more_of-FlatExpr test end_of-FlatExpr) l (more_of-FlatExpr left end_of-FlatExpr) r (more_of-FlatExpr right end_of-FlatExpr)) h =
      let q = chosen-has (kinds.kind_in flat_text vars test) (kinds.value_in flat_text vars left) (kinds.value_in flat_text vars right) h in (side vars left q.0, side vars right q.1)
  side vars _ h = tt

  one_more : (vars : FlatVars) (over : Simple) → length (kinds.inside vars over) ≡ suc (length vars)
  one_more vars over = let l = length-append vars (kinds.kind_of over ∷ []) in omega (arith, l)

  module _ (family : ℕ) where
    mutual
      pub part-exact : (vars : FlatVars) (part : DefBody) → is_part flat_text family vars part ≡ true → IsExactPart (length vars) part
      part-exact vars Nothing h = tt
      part-exact vars (Assign left value place at) h =
          let q = assigns-has (kinds.element (slice_get flat_text.families family) (map (kinds.kind_in flat_text vars) left)) (kinds.value_in flat_text vars value)
          (left_of (kinds.assigns (kinds.element (slice_get flat_text.families family) (map (kinds.kind_in flat_text vars) left)) (kinds.value_in flat_text vars value)) (list_all (keeps_orders flat_text vars) left && keeps_orders flat_text vars value) h) in
          (λ e k. bound-index vars e (element-has (slice_get flat_text.families family) (map (kinds.kind_in flat_text vars) left) q.0 (kinds.kind_in flat_text vars e) (Has-map (kinds.kind_in flat_text vars) k)), side vars value q.1)
      part-exact vars (If' test l (more_of-DefBody left end_of-DefBody) r (more_of-DefBody right' end_of-DefBody)) h =
          let both = right_of (kinds.takes FlatKind.number (kinds.kind_in flat_text vars test) && keeps_orders flat_text vars test) (is_part flat_text family vars left && is_part flat_text family vars right') h in
          (part-exact vars left (left_of (is_part flat_text family vars left) (is_part flat_text family vars right') both), part-exact vars right' (right_of (is_part flat_text family vars left) (is_part flat_text family vars right') both))
      part-exact vars (First' shape parts) h = parts-exact vars parts h
      part-exact vars (Forall' var over shape (more_of-DefBody body end_of-DefBody)) h = (
        nat_eq-is var (length vars) (left_of (nat_eq var (length vars)) (kinds.is_index_type flat_text over) (left_of (kinds.is_binder flat_text vars var over) (is_part flat_text family (kinds.inside vars over) body) h)),
        subst (λ k. IsExactPart k body) (one_more vars over) (part-exact (kinds.inside vars over) body (right_of (kinds.is_binder flat_text vars var over) (is_part flat_text family (kinds.inside vars over) body) h)),
      )

      parts-exact : {m : _} (vars : FlatVars) (parts : Row_of-DefBody m) → are_parts flat_text family vars parts ≡ true → AreExactParts (length vars) parts
      parts-exact vars end_of-DefBody h = tt
      parts-exact vars (more_of-DefBody part others) h =
          (part-exact vars part (left_of (is_part flat_text family vars part) (are_parts flat_text family vars others) h), parts-exact vars others (right_of (is_part flat_text family vars part) (are_parts flat_text family vars others) h))
