-- The kind that the code finds of an expression is its kind, where it has one.
use Rattle.std.proofs.Common.{◌≡◌, List, [], ◌∷◌, Bool, true, false, if◌then◌else◌, refl, ap, ◌∙◌, subst}
use Rattle.std.specs.Prelude.{Option, Some, None, is_some, slice_get, nat_le, nat_lt, length, get_or}
use Rattle.smv_core.specs.declared.flat.Family.{Family}
use Rattle.smv_core.specs.declared.flat.FlatText.{FlatText}
use Rattle.smv_core.specs.declared.flat.FlatMember.{One, Span as SpanOf}
use Rattle.smv_core.specs.declared.flat.FlatExpr.{FlatExpr, Number, Read', Var, Loop, Constant, Not', And', Or', Implies', Iff', Compare', Within', Sum', Modulo', Choose', All', Any', List', Each', end_of-FlatExpr, more_of-FlatExpr, Row_of-FlatMember, end_of-FlatMember, more_of-FlatMember}
use Rattle.law_designs.specs.FlatKinds.{FlatKind, number, kind_of, joins, joined, number_if, common_after, common, chosen, element, take_each, takes, FlatVars, kind_in, members_in, value_in}
use Rattle.law_designs.proofs.Operands.{if-some, chosen-some}
use Rattle.smv_symmetric.specs.Plain as plain

-- ---- operands

pub number-is : (b : Bool) → is_some (number_if b) ≡ true → number_if b ≡ Some number
number-is true e = refl
number-is false e = absurd (cc (e))

pub if-is : {X : Type 0} (b : Bool) (x : X) → is_some (if b then Some x else None) ≡ true → (if b then Some x else None) ≡ Some x
if-is true x e = refl
if-is false x e = absurd (cc (e))

element-is : (o : Option Family) (es : List (Option FlatKind)) → is_some (element o es) ≡ true → element o es ≡ Some (plain.value_kind o)
element-is None es e = absurd (cc (e))
element-is (Some f) es e = if-is (take_each f.over es) (kind_of f.value) e

variable-is : (o : Option FlatKind) → is_some o ≡ true → o ≡ Some (plain.variable_kind o)
variable-is None e = absurd (cc (e))
variable-is (Some kind) e = refl

chosen-is : (cond left right : Option FlatKind) (a b : FlatKind) → is_some (chosen cond left right) ≡ true → left ≡ Some a → right ≡ Some b → chosen cond left right ≡ Some (joined a b)
chosen-is cond left right a b e p q = at (takes number cond) refl (ap (λ l. common (l ∷ right ∷ [])) p ∙ ap (λ r. common (Some a ∷ r ∷ [])) q)
  where
    fits : (t : Bool) → is_some (if t then Some (joined a b) else None) ≡ true → (if t then Some (joined a b) else None) ≡ Some (joined a b)
    fits t h = if-is t (joined a b) h

    at : (t : Bool) → takes number cond ≡ t → common (left ∷ right ∷ []) ≡ common (Some a ∷ Some b ∷ []) → chosen cond left right ≡ Some (joined a b)
    at true is same = ap (λ t. if t then common (left ∷ right ∷ []) else None) is ∙ same ∙ fits (joins a b) (subst (λ o. is_some o ≡ true) (ap (λ t. if t then common (left ∷ right ∷ []) else None) is ∙ same) e)
    at false is same = let none : chosen cond left right ≡ None = ap (λ t. if t then common (left ∷ right ∷ []) else None) is in absurd (cc (e, ap is_some none))

-- ---- expressions

module _ (flat_text : FlatText) where
  -- where no set may stand, a value has the same kind
  pub value-kind : (vars : FlatVars) (e : FlatExpr) → is_some (kind_in flat_text vars e) ≡ true → value_in flat_text vars e ≡ kind_in flat_text vars e
  value-kind vars (List' shape members at) h = absurd (cc (h))
  value-kind vars (Each' var over cond at) h = absurd (cc (h))
  value-kind vars (Choose' c (more_of-FlatExpr cond end_of-FlatExpr) l (more_of-FlatExpr left end_of-FlatExpr) r (more_of-FlatExpr right end_of-FlatExpr)) h =
      let t = chosen-some (kind_in flat_text vars cond) (kind_in flat_text vars left) (kind_in flat_text vars right) h in
      ap (λ o. chosen (kind_in flat_text vars cond) o (value_in flat_text vars right)) (value-kind vars left t.1) ∙ ap (λ o. chosen (kind_in flat_text vars cond) (kind_in flat_text vars left) o) (value-kind vars right t.2)
  value-kind vars _ h = refl

  pub kind-is : (vars : FlatVars) (e : FlatExpr) → is_some (kind_in flat_text vars e) ≡ true → kind_in flat_text vars e ≡ Some (plain.kind_in flat_text vars e)
  unfolding plain.kind_in
  kind-is vars (Number value at) h = refl
  kind-is vars (Read' family shape indexes at) h = element-is (slice_get flat_text.families family) _ h
  kind-is vars (Var var at) h = variable-is (slice_get vars var) h
  kind-is vars (Loop value at) h = refl
  kind-is vars (Constant list value at) h = if-is (nat_lt value (length (get_or flat_text.enums list []))) _ h
  kind-is vars (Not' shape (more_of-FlatExpr e end_of-FlatExpr) at) h = number-is _ h
  kind-is vars (And' shape parts) h = number-is _ h
  kind-is vars (Or' shape parts) h = number-is _ h
  kind-is vars (Implies' shape parts) h = number-is _ h
  kind-is vars (Iff' l (more_of-FlatExpr left end_of-FlatExpr) r (more_of-FlatExpr right end_of-FlatExpr)) h = number-is _ h
  kind-is vars (Compare' op l (more_of-FlatExpr left end_of-FlatExpr) r (more_of-FlatExpr right end_of-FlatExpr)) h = number-is _ h
  kind-is vars (Within' l (more_of-FlatExpr left end_of-FlatExpr) r (more_of-FlatExpr set end_of-FlatExpr)) h = number-is _ h
  kind-is vars (Sum' f (more_of-FlatExpr head end_of-FlatExpr) shape more) h = number-is _ h
  kind-is vars (Modulo' shape (more_of-FlatExpr e end_of-FlatExpr) by at) h = number-is _ h
  kind-is vars (Choose' c (more_of-FlatExpr cond end_of-FlatExpr) l (more_of-FlatExpr left end_of-FlatExpr) r (more_of-FlatExpr right end_of-FlatExpr)) h =
      let t = chosen-some (kind_in flat_text vars cond) (kind_in flat_text vars left) (kind_in flat_text vars right) h in
      chosen-is (kind_in flat_text vars cond) (kind_in flat_text vars left) (kind_in flat_text vars right) _ _ h (kind-is vars left t.1) (kind-is vars right t.2)
  kind-is vars (All' shape (more_of-FlatExpr body end_of-FlatExpr) var over at) h = number-is _ h
  kind-is vars (Any' shape (more_of-FlatExpr body end_of-FlatExpr) var over at) h = number-is _ h
  kind-is vars (List' shape members at) h = absurd (cc (h))
  kind-is vars (Each' var over cond at) h = absurd (cc (h))

  members-after : (vars : FlatVars) (kind : FlatKind) (k : _) (row : Row_of-FlatMember k) → is_some (common_after kind (members_in flat_text vars row)) ≡ true →
      common_after kind (members_in flat_text vars row) ≡ Some (plain.joined_after kind (plain.member_kinds flat_text vars row))
  unfolding plain.kind_in
  members-after vars kind k end_of-FlatMember h = refl
  members-after vars kind k (more_of-FlatMember (One e) rest) h =
      at (kind_in flat_text vars e) (plain.kind_in flat_text vars e) (kind-is vars e) (λ k. members-after vars k _ rest) h
    where
      at : (o : Option FlatKind) (other : FlatKind) → (is_some o ≡ true → o ≡ Some other) →
          ((k : FlatKind) → is_some (common_after k (members_in flat_text vars rest)) ≡ true → common_after k (members_in flat_text vars rest) ≡ Some (plain.joined_after k (plain.member_kinds flat_text vars rest))) →
          is_some (common_after kind (o ∷ members_in flat_text vars rest)) ≡ true → common_after kind (o ∷ members_in flat_text vars rest) ≡ Some (plain.joined_after (joined kind other) (plain.member_kinds flat_text vars rest))
      at None other same more h = absurd (cc (h))
      at (Some own) other same more h =
          let e : own ≡ other = let p = same refl in cc in
          let t = if-some (joins kind own) (common_after (joined kind own) (members_in flat_text vars rest)) h in
          ap (λ t. if t then common_after (joined kind own) (members_in flat_text vars rest) else None) t.0
          ∙ more (joined kind own) t.1
          ∙ ap (λ o. Some (plain.joined_after (joined kind o) (plain.member_kinds flat_text vars rest))) e
  members-after vars kind k (more_of-FlatMember (SpanOf span at) rest) h = on (nat_le span.low span.high) (members-after vars (joined kind number) _ rest) h
    where
      on : (b : Bool) → (is_some (common_after (joined kind number) (members_in flat_text vars rest)) ≡ true → common_after (joined kind number) (members_in flat_text vars rest) ≡ Some (plain.joined_after (joined kind number) (plain.member_kinds flat_text vars rest))) →
          is_some (common_after kind (number_if b ∷ members_in flat_text vars rest)) ≡ true → common_after kind (number_if b ∷ members_in flat_text vars rest) ≡ Some (plain.joined_after (joined kind number) (plain.member_kinds flat_text vars rest))
      on false more h = absurd (cc (h))
      on true more h =
          let t = if-some (joins kind number) (common_after (joined kind number) (members_in flat_text vars rest)) h in
          ap (λ t. if t then common_after (joined kind number) (members_in flat_text vars rest) else None) t.0 ∙ more t.1

  members-all : (vars : FlatVars) (k : _) (row : Row_of-FlatMember k) → is_some (common (members_in flat_text vars row)) ≡ true → common (members_in flat_text vars row) ≡ Some (plain.joined_all (plain.member_kinds flat_text vars row))
  unfolding plain.kind_in
  members-all vars k end_of-FlatMember h = absurd (cc (h))
  members-all vars k (more_of-FlatMember (One e) rest) h = at (kind_in flat_text vars e) (plain.kind_in flat_text vars e) (kind-is vars e) h
    where
      at : (o : Option FlatKind) (other : FlatKind) → (is_some o ≡ true → o ≡ Some other) → is_some (common (o ∷ members_in flat_text vars rest)) ≡ true →
          common (o ∷ members_in flat_text vars rest) ≡ Some (plain.joined_after other (plain.member_kinds flat_text vars rest))
      at None other same h = absurd (cc (h))
      at (Some own) other same h =
          let e : own ≡ other = let p = same refl in cc in
          members-after vars own _ rest h ∙ ap (λ o. Some (plain.joined_after o (plain.member_kinds flat_text vars rest))) e
  members-all vars k (more_of-FlatMember (SpanOf span at) rest) h = on (nat_le span.low span.high) h
    where
      on : (b : Bool) → is_some (common (number_if b ∷ members_in flat_text vars rest)) ≡ true → common (number_if b ∷ members_in flat_text vars rest) ≡ Some (plain.joined_after number (plain.member_kinds flat_text vars rest))
      on false h = absurd (cc (h))
      on true h = members-after vars number _ rest h

  -- the kind of a value
  pub value-is : (vars : FlatVars) (e : FlatExpr) → is_some (value_in flat_text vars e) ≡ true → value_in flat_text vars e ≡ Some (plain.kind_in flat_text vars e)
  unfolding plain.kind_in
  value-is vars (List' shape members at) h = members-all vars _ members h
  value-is vars (Each' var over cond at) h = if-is _ _ h
  value-is vars (Choose' c (more_of-FlatExpr cond end_of-FlatExpr) l (more_of-FlatExpr left end_of-FlatExpr) r (more_of-FlatExpr right end_of-FlatExpr)) h =
      let t = chosen-some (kind_in flat_text vars cond) (value_in flat_text vars left) (value_in flat_text vars right) h in
      chosen-is (kind_in flat_text vars cond) (value_in flat_text vars left) (value_in flat_text vars right) _ _ h (value-is vars left t.1) (value-is vars right t.2)
  value-is vars (Number value at) h = refl
  value-is vars (Read' family shape indexes at) h = kind-is vars (Read' family shape indexes at) h
  value-is vars (Var var at) h = kind-is vars (Var var at) h
  value-is vars (Loop value at) h = refl
  value-is vars (Constant list value at) h = kind-is vars (Constant list value at) h
  value-is vars (Not' shape row at) h = kind-is vars (Not' shape row at) h
  value-is vars (And' shape parts) h = kind-is vars (And' shape parts) h
  value-is vars (Or' shape parts) h = kind-is vars (Or' shape parts) h
  value-is vars (Implies' shape parts) h = kind-is vars (Implies' shape parts) h
  value-is vars (Iff' l left r right) h = kind-is vars (Iff' l left r right) h
  value-is vars (Compare' op l left r right) h = kind-is vars (Compare' op l left r right) h
  value-is vars (Within' l left r set) h = kind-is vars (Within' l left r set) h
  value-is vars (Sum' f head shape more) h = kind-is vars (Sum' f head shape more) h
  value-is vars (Modulo' shape e by at) h = kind-is vars (Modulo' shape e by at) h
  value-is vars (All' shape body var over at) h = kind-is vars (All' shape body var over at) h
  value-is vars (Any' shape body var over at) h = kind-is vars (Any' shape body var over at) h
