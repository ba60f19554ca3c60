-- The first fault of set types in expressions that are made of lists and values.
use Rattle.std.proofs.Common.{◌≡◌, ℕ, List, [], ◌∷◌, ◌++◌, map, refl, ap, sym, ◌∙◌}
use Rattle.std.specs.Prelude.{Option, Some, None, slice_get}
use Rattle.smv_core.specs.declared.fault.Fault.{Fault}
use Rattle.smv_core.specs.declared.tree.Op.{Op}
use Rattle.smv_core.specs.declared.flat.Simple.{Simple}
use Rattle.smv_core.specs.declared.flat.FlatText.{FlatText}
use Rattle.smv_core.specs.declared.flat.FlatSigned.{FlatSigned}
use Rattle.smv_core.specs.declared.flat.FlatMember.{FlatMember, One, Span as SpanOf}
use Rattle.smv_core.specs.declared.flat.FlatExpr.{FlatExpr, Number, Var, Loop, Constant, Not, Iff, Compare, Within, Modulo, Choose, All, Any, Each, Read, Read', And, And', Or, Or', Implies, Implies', Sum, Sum', List as ListOf, List', Row_of-FlatExpr, end_of-FlatExpr, more_of-FlatExpr, Row_of-FlatMember, end_of-FlatMember, more_of-FlatMember, Row_of-FlatSigned, end_of-FlatSigned, more_of-FlatSigned, items-the_row-FlatExpr, items-the_row-FlatMember, items-the_row-FlatSigned, items_hidden-the_row-FlatExpr-0, items_hidden-the_row-FlatSigned-2, items_hidden-the_row-FlatMember-3}
use mathlib.Core.Former.{Count}
use Rattle.law_designs.proofs.FlatLists.{boxes}
use Rattle.smv_mentions.specs.FirstFault.{first_of}
use Rattle.smv_first_fault.specs.Firsts.{earlier_of}
use Rattle.smv_first_fault.proofs.FirstLaws.{earlier-assoc, first-both}
use Rattle.law_designs.specs.FlatKinds.{FlatVars, inside}
use Rattle.law_designs.specs.SetOperands.{met, disordered, wanted_at}
use Rattle.law_designs.specs.SetFaults as spec
use Rattle.smv_symmetric.specs.Plain.{first_among, sort_in, operand, member_operand, members_in, members_of, fault_in, both_faults, member_fault, signed_fault, compared, chosen, listed, looked_for}

-- the members of a listed set
own-members : (n : _) (row : Row_of-FlatMember n) → members_in row ≡ items-the_row-FlatMember n row
own-members n end_of-FlatMember = refl
own-members n (more_of-FlatMember x rest) = ap (λ l. x ∷ l) (own-members _ rest)

abbrev row_of : FlatExpr → (k : Count) × Row_of-FlatMember k
row_of (List' shape row at) = (_, row)
row_of _ = (_, end_of-FlatMember)

pub members-List : (ms : List FlatMember) (at : ℕ) → members_of (ListOf ms at) ≡ ms
unfolding members_of
members-List ms at = own-members (row_of (ListOf ms at)).0 (row_of (ListOf ms at)).1 ∙ items_hidden-the_row-FlatMember-3 ms

pub members-Number : (value at : ℕ) → members_of (Number value at) ≡ []
unfolding members_of
members-Number value at = refl

pub members-Read : (family : ℕ) (es : List FlatExpr) (at : ℕ) → members_of (Read family es at) ≡ []
unfolding members_of
members-Read family es at = refl

pub members-Var : (var at : ℕ) → members_of (Var var at) ≡ []
unfolding members_of
members-Var var at = refl

pub members-Loop : (value at : ℕ) → members_of (Loop value at) ≡ []
unfolding members_of
members-Loop value at = refl

pub members-Constant : (list value at : ℕ) → members_of (Constant list value at) ≡ []
unfolding members_of
members-Constant list value at = refl

pub members-Not : (e : FlatExpr) (at : ℕ) → members_of (Not e at) ≡ []
unfolding members_of
members-Not e at = refl

pub members-And : (es : List FlatExpr) → members_of (And es) ≡ []
unfolding members_of
members-And es = refl

pub members-Or : (es : List FlatExpr) → members_of (Or es) ≡ []
unfolding members_of
members-Or es = refl

pub members-Implies : (es : List FlatExpr) → members_of (Implies es) ≡ []
unfolding members_of
members-Implies es = refl

pub members-Iff : (l r : FlatExpr) → members_of (Iff l r) ≡ []
unfolding members_of
members-Iff l r = refl

pub members-Compare : (op : Op) (l r : FlatExpr) → members_of (Compare op l r) ≡ []
unfolding members_of
members-Compare op l r = refl

pub members-Within : (l r : FlatExpr) → members_of (Within l r) ≡ []
unfolding members_of
members-Within l r = refl

pub members-Sum : (head : FlatExpr) (more : List FlatSigned) → members_of (Sum head more) ≡ []
unfolding members_of
members-Sum head more = refl

pub members-Modulo : (e : FlatExpr) (by at : ℕ) → members_of (Modulo e by at) ≡ []
unfolding members_of
members-Modulo e by at = refl

pub members-Choose : (c l r : FlatExpr) → members_of (Choose c l r) ≡ []
unfolding members_of
members-Choose c l r = refl

pub members-All : (body : FlatExpr) (var : ℕ) (over : Simple) (at : ℕ) → members_of (All body var over at) ≡ []
unfolding members_of
members-All body var over at = refl

pub members-Any : (body : FlatExpr) (var : ℕ) (over : Simple) (at : ℕ) → members_of (Any body var over at) ≡ []
unfolding members_of
members-Any body var over at = refl

pub members-Each : (var : ℕ) (over : Simple) (cond : Option FlatExpr) (at : ℕ) → members_of (Each var over cond at) ≡ []
unfolding members_of
members-Each var over cond at = refl

pub ruleset lists = (members-List, members-Number, members-Read, members-Var, members-Loop, members-Constant, members-Not, members-And, members-Or, members-Implies, members-Iff, members-Compare, members-Within, members-Sum, members-Modulo, members-Choose, members-All, members-Any, members-Each)

three : (a b c : List Fault) → first_of (a ++ b ++ c) ≡ earlier_of (earlier_of (first_of a) (first_of b)) (first_of c)
three a b c = first-both (a ++ b) c ∙ ap (λ f. earlier_of f (first_of c)) (first-both a b)

module _ (flat_text : FlatText) (vars : FlatVars) where
  abbrev all_in : FlatExpr → List Fault
  all_in e = spec.faults_in flat_text (sort_in flat_text) vars e

  -- ---- rows

  exprs-row : (n : _) (row : Row_of-FlatExpr n) → first_of (spec.faults_each flat_text (sort_in flat_text) vars row) ≡ first_among (map (fault_in flat_text vars) (items-the_row-FlatExpr n row))
  unfolding fault_in
  exprs-row n end_of-FlatExpr = refl
  exprs-row n (more_of-FlatExpr e rest) = first-both (all_in e) (spec.faults_each flat_text (sort_in flat_text) vars rest) ∙ ap (earlier_of (fault_in flat_text vars e)) (exprs-row _ rest)

  operands-row : (n : _) (row : Row_of-FlatExpr n) → spec.operands flat_text (sort_in flat_text) vars row ≡ map (operand flat_text vars) (items-the_row-FlatExpr n row)
  operands-row n end_of-FlatExpr = refl
  operands-row n (more_of-FlatExpr e rest) = ap (λ l. operand flat_text vars e ∷ l) (operands-row _ rest)

  signed-row : (n : _) (row : Row_of-FlatSigned n) → first_of (spec.faults_signed flat_text (sort_in flat_text) vars row) ≡ first_among (map (signed_fault flat_text vars) (items-the_row-FlatSigned n row))
  unfolding fault_in boxes
  signed-row n end_of-FlatSigned = refl
  signed-row n (more_of-FlatSigned minus e rest) = first-both (all_in e) (spec.faults_signed flat_text (sort_in flat_text) vars rest) ∙ ap (earlier_of (fault_in flat_text vars e)) (signed-row _ rest)

  members-row : (n : _) (row : Row_of-FlatMember n) → first_of (spec.faults_members flat_text (sort_in flat_text) vars row) ≡ first_among (map (member_fault flat_text vars) (items-the_row-FlatMember n row))
  unfolding fault_in boxes
  members-row n end_of-FlatMember = refl
  members-row n (more_of-FlatMember (One e) rest) = first-both (all_in e) (spec.faults_members flat_text (sort_in flat_text) vars rest) ∙ ap (earlier_of (fault_in flat_text vars e)) (members-row _ rest)
  members-row n (more_of-FlatMember (SpanOf span at) rest) = members-row _ rest

  member_operands-row : (n : _) (row : Row_of-FlatMember n) → spec.members_of flat_text (sort_in flat_text) vars row ≡ map (member_operand flat_text vars) (items-the_row-FlatMember n row)
  member_operands-row n end_of-FlatMember = refl
  member_operands-row n (more_of-FlatMember (One e) rest) = ap (λ l. operand flat_text vars e ∷ l) (member_operands-row _ rest)
  member_operands-row n (more_of-FlatMember (SpanOf span at) rest) = ap (λ l. member_operand flat_text vars (SpanOf span at) ∷ l) (member_operands-row _ rest)

  -- what stands right of `in`
  listed-row : (set : FlatExpr) → spec.listed flat_text (sort_in flat_text) vars set ≡ map (member_operand flat_text vars) (members_of set)
  unfolding members_of
  listed-row (List' shape row at) = member_operands-row _ row ∙ ap (map (member_operand flat_text vars)) (sym (own-members _ row))
  listed-row _ = refl

  abbrev exprs_in : FlatExpr → (k : Count) × Row_of-FlatExpr k
  exprs_in (Read' family shape row at) = (_, row)
  exprs_in (And' shape row) = (_, row)
  exprs_in (Or' shape row) = (_, row)
  exprs_in (Implies' shape row) = (_, row)
  exprs_in _ = (_, end_of-FlatExpr)

  abbrev signed_in : FlatExpr → (k : Count) × Row_of-FlatSigned k
  signed_in (Sum' f head shape row) = (_, row)
  signed_in _ = (_, end_of-FlatSigned)

  -- ---- expressions

  pub fault-Number : (value at : ℕ) → fault_in flat_text vars (Number value at) ≡ None
  unfolding fault_in
  fault-Number value at = refl

  pub fault-Var : (var at : ℕ) → fault_in flat_text vars (Var var at) ≡ None
  unfolding fault_in
  fault-Var var at = refl

  pub fault-Loop : (value at : ℕ) → fault_in flat_text vars (Loop value at) ≡ None
  unfolding fault_in
  fault-Loop value at = refl

  pub fault-Constant : (list value at : ℕ) → fault_in flat_text vars (Constant list value at) ≡ None
  unfolding fault_in
  fault-Constant list value at = refl

  pub fault-Read : (family : ℕ) (es : List FlatExpr) (at : ℕ) →
      fault_in flat_text vars (Read family es at) ≡ earlier_of (first_among (map (fault_in flat_text vars) es)) (first_of (wanted_at (slice_get flat_text.families family) (map (operand flat_text vars) es)))
  unfolding fault_in
  fault-Read family es at =
      let row : (k : Count) × Row_of-FlatExpr k = exprs_in (Read family es at) in
      let same = items_hidden-the_row-FlatExpr-0 es in
      first-both (spec.faults_each flat_text (sort_in flat_text) vars row.1) (wanted_at (slice_get flat_text.families family) (spec.operands flat_text (sort_in flat_text) vars row.1))
      ∙ ap (λ f. earlier_of f (first_of (wanted_at (slice_get flat_text.families family) (spec.operands flat_text (sort_in flat_text) vars row.1)))) (exprs-row row.0 row.1 ∙ ap (λ l. first_among (map (fault_in flat_text vars) l)) same)
      ∙ ap (λ l. earlier_of (first_among (map (fault_in flat_text vars) es)) (first_of (wanted_at (slice_get flat_text.families family) l))) (operands-row row.0 row.1 ∙ ap (map (operand flat_text vars)) same)

  pub fault-And : (es : List FlatExpr) → fault_in flat_text vars (And es) ≡ first_among (map (fault_in flat_text vars) es)
  unfolding fault_in
  fault-And es = exprs-row (exprs_in (And es)).0 (exprs_in (And es)).1 ∙ ap (λ l. first_among (map (fault_in flat_text vars) l)) (items_hidden-the_row-FlatExpr-0 es)

  pub fault-Or : (es : List FlatExpr) → fault_in flat_text vars (Or es) ≡ first_among (map (fault_in flat_text vars) es)
  unfolding fault_in
  fault-Or es = exprs-row (exprs_in (Or es)).0 (exprs_in (Or es)).1 ∙ ap (λ l. first_among (map (fault_in flat_text vars) l)) (items_hidden-the_row-FlatExpr-0 es)

  pub fault-Implies : (es : List FlatExpr) → fault_in flat_text vars (Implies es) ≡ first_among (map (fault_in flat_text vars) es)
  unfolding fault_in
  fault-Implies es = exprs-row (exprs_in (Implies es)).0 (exprs_in (Implies es)).1 ∙ ap (λ l. first_among (map (fault_in flat_text vars) l)) (items_hidden-the_row-FlatExpr-0 es)

  pub fault-List : (ms : List FlatMember) (at : ℕ) → fault_in flat_text vars (ListOf ms at) ≡ earlier_of (first_among (map (member_fault flat_text vars) ms)) (listed flat_text vars ms)
  unfolding fault_in
  fault-List ms at =
      let row : (k : Count) × Row_of-FlatMember k = row_of (ListOf ms at) in
      let same = items_hidden-the_row-FlatMember-3 ms in
      first-both (spec.faults_members flat_text (sort_in flat_text) vars row.1) (met (spec.members_of flat_text (sort_in flat_text) vars row.1))
      ∙ ap (λ f. earlier_of f (first_of (met (spec.members_of flat_text (sort_in flat_text) vars row.1)))) (members-row row.0 row.1 ∙ ap (λ l. first_among (map (member_fault flat_text vars) l)) same)
      ∙ ap (λ l. earlier_of (first_among (map (member_fault flat_text vars) ms)) (first_of (met l))) (member_operands-row row.0 row.1 ∙ ap (map (member_operand flat_text vars)) same)

  pub fault-Sum : (head : FlatExpr) (more : List FlatSigned) → fault_in flat_text vars (Sum head more) ≡ earlier_of (fault_in flat_text vars head) (first_among (map (signed_fault flat_text vars) more))
  unfolding fault_in boxes
  fault-Sum head more =
      let row : (k : Count) × Row_of-FlatSigned k = signed_in (Sum head more) in
      first-both (all_in head) (spec.faults_signed flat_text (sort_in flat_text) vars row.1)
      ∙ ap (earlier_of (fault_in flat_text vars head)) (signed-row row.0 row.1 ∙ ap (λ l. first_among (map (signed_fault flat_text vars) l)) (items_hidden-the_row-FlatSigned-2 more))

  pub fault-Not : (e : FlatExpr) (at : ℕ) → fault_in flat_text vars (Not e at) ≡ fault_in flat_text vars e
  unfolding fault_in boxes
  fault-Not e at = refl

  pub fault-Modulo : (e : FlatExpr) (by at : ℕ) → fault_in flat_text vars (Modulo e by at) ≡ fault_in flat_text vars e
  unfolding fault_in boxes
  fault-Modulo e by at = refl

  pub fault-Iff : (l r : FlatExpr) → fault_in flat_text vars (Iff l r) ≡ both_faults flat_text vars l r
  unfolding fault_in boxes
  fault-Iff l r = first-both (all_in l) (all_in r)

  pub fault-Compare : (op : Op) (l r : FlatExpr) → fault_in flat_text vars (Compare op l r) ≡ earlier_of (both_faults flat_text vars l r) (compared flat_text vars op l r)
  unfolding fault_in boxes
  fault-Compare op l r =
      let sides = met (operand flat_text vars l ∷ operand flat_text vars r ∷ []) in
      let left = disordered flat_text.sets op (operand flat_text vars l) in
      let right = disordered flat_text.sets op (operand flat_text vars r) in
      three (all_in l ++ all_in r ++ sides) left right
      ∙ ap (λ f. earlier_of (earlier_of f (first_of left)) (first_of right)) (three (all_in l) (all_in r) sides)
      ∙ ap (λ f. earlier_of f (first_of right)) (earlier-assoc (both_faults flat_text vars l r) (first_of sides) (first_of left))
      ∙ earlier-assoc (both_faults flat_text vars l r) (earlier_of (first_of sides) (first_of left)) (first_of right)
      ∙ ap (earlier_of (both_faults flat_text vars l r)) (earlier-assoc (first_of sides) (first_of left) (first_of right))

  pub fault-Within : (l r : FlatExpr) → fault_in flat_text vars (Within l r) ≡ earlier_of (both_faults flat_text vars l r) (looked_for flat_text vars l r)
  unfolding fault_in boxes
  fault-Within l r =
      three (all_in l) (all_in r) (met (operand flat_text vars l ∷ spec.listed flat_text (sort_in flat_text) vars r))
      ∙ ap (λ m. earlier_of (both_faults flat_text vars l r) (first_of (met (operand flat_text vars l ∷ m)))) (listed-row r)

  pub fault-Choose : (c l r : FlatExpr) → fault_in flat_text vars (Choose c l r) ≡ earlier_of (earlier_of (fault_in flat_text vars c) (both_faults flat_text vars l r)) (chosen flat_text vars l r)
  unfolding fault_in boxes
  fault-Choose c l r =
      let sides = met (operand flat_text vars l ∷ operand flat_text vars r ∷ []) in
      first-both (all_in c ++ all_in l ++ all_in r) sides
      ∙ ap (λ f. earlier_of f (first_of sides)) (three (all_in c) (all_in l) (all_in r) ∙ earlier-assoc (fault_in flat_text vars c) (fault_in flat_text vars l) (fault_in flat_text vars r))

  pub fault-All : (body : FlatExpr) (var : ℕ) (over : Simple) (at : ℕ) → fault_in flat_text vars (All body var over at) ≡ fault_in flat_text (inside vars over) body
  unfolding fault_in boxes
  fault-All body var over at = refl

  pub fault-Any : (body : FlatExpr) (var : ℕ) (over : Simple) (at : ℕ) → fault_in flat_text vars (Any body var over at) ≡ fault_in flat_text (inside vars over) body
  unfolding fault_in boxes
  fault-Any body var over at = refl

  pub fault-Each : (var : ℕ) (over : Simple) (at : ℕ) → fault_in flat_text vars (Each var over None at) ≡ None
  unfolding fault_in boxes
  fault-Each var over at = refl

  pub fault-Each_if : (var : ℕ) (over : Simple) (cond : FlatExpr) (at : ℕ) → fault_in flat_text vars (Each var over (Some cond) at) ≡ fault_in flat_text (inside vars over) cond
  unfolding fault_in boxes
  fault-Each_if var over cond at = refl

pub ruleset equations = (fault-Number, fault-Var, fault-Loop, fault-Constant, fault-Read, fault-And, fault-Or, fault-Implies, fault-List, fault-Sum, fault-Not, fault-Modulo, fault-Iff, fault-Compare, fault-Within, fault-Choose, fault-All, fault-Any, fault-Each, fault-Each_if)
