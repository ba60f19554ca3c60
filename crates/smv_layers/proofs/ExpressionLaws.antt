-- The first abstract signal that an expression reads, on expressions that are made of lists and values.
use Rattle.std.proofs.Common.{◌≡◌, ℕ, List, ◌++◌, map, refl, ap, ◌∙◌}
use Rattle.std.specs.Prelude.{Some, None}
use Rattle.smv_core.specs.declared.tree.Op.{Op}
use Rattle.smv_core.specs.declared.flat.Simple.{Simple}
use Rattle.smv_core.specs.declared.flat.Family.{Family}
use Rattle.smv_core.specs.declared.flat.FlatSigned.{FlatSigned}
use Rattle.smv_core.specs.declared.flat.FlatMember.{FlatMember, One, Span as SpanOf}
use Rattle.smv_core.specs.declared.flat.FlatExpr.{FlatExpr, Number, Var, Loop, Constant, Not, Iff, Compare, Within, Modulo, Choose, All, Any, Each, Read, Read', And, And', Or, Or', Implies, Implies', Sum, Sum', List as ListOf, List', Row_of-FlatExpr, end_of-FlatExpr, more_of-FlatExpr, Row_of-FlatMember, end_of-FlatMember, more_of-FlatMember, Row_of-FlatSigned, end_of-FlatSigned, more_of-FlatSigned, items-the_row-FlatExpr, items-the_row-FlatMember, items-the_row-FlatSigned, items_hidden-the_row-FlatExpr-0, items_hidden-the_row-FlatSigned-2, items_hidden-the_row-FlatMember-3}
use mathlib.Core.Former.{Count}
use Rattle.law_designs.proofs.FlatLists.{boxes}
use Rattle.smv_first_fault.specs.Firsts.{earlier_of}
use Rattle.smv_first_fault.proofs.FirstLaws.{earlier-assoc}
use Rattle.law_designs.specs.Reading.{references, references_of, references_signed, references_members}
use Rattle.smv_layers.specs.Leaks.{first_among, first_read, read_fault, member_fault, signed_fault, fault_if_abstract}
use Rattle.smv_layers.proofs.FaultLaws.{read-append, read-cons}

module _ (fs : List Family) where
  exprs-row : (n : _) (row : Row_of-FlatExpr n) → first_read fs (references_of row) ≡ first_among (map (read_fault fs) (items-the_row-FlatExpr n row))
  unfolding read_fault
  exprs-row n end_of-FlatExpr = refl
  exprs-row n (more_of-FlatExpr e rest) = read-append fs (references e) (references_of rest) ∙ ap (earlier_of (read_fault fs e)) (exprs-row _ rest)

  signed-row : (n : _) (row : Row_of-FlatSigned n) → first_read fs (references_signed row) ≡ first_among (map (signed_fault fs) (items-the_row-FlatSigned n row))
  unfolding read_fault boxes
  signed-row n end_of-FlatSigned = refl
  signed-row n (more_of-FlatSigned minus e rest) = read-append fs (references e) (references_signed rest) ∙ ap (earlier_of (read_fault fs e)) (signed-row _ rest)

  members-row : (n : _) (row : Row_of-FlatMember n) → first_read fs (references_members row) ≡ first_among (map (member_fault fs) (items-the_row-FlatMember n row))
  unfolding read_fault boxes
  members-row n end_of-FlatMember = refl
  members-row n (more_of-FlatMember (One e) rest) = read-append fs (references e) (references_members rest) ∙ ap (earlier_of (read_fault fs e)) (members-row _ rest)
  members-row n (more_of-FlatMember (SpanOf span at) rest) = members-row _ rest

  abbrev exprs_in : FlatExpr → (k : Count) × Row_of-FlatExpr k
  exprs_in (Read' family shape row at) = (_, row)
  exprs_in (And' shape row) = (_, row)
  exprs_in (Or' shape row) = (_, row)
  exprs_in (Implies' shape row) = (_, row)
  exprs_in _ = (_, end_of-FlatExpr)

  abbrev members_in : FlatExpr → (k : Count) × Row_of-FlatMember k
  members_in (List' shape row at) = (_, row)
  members_in _ = (_, end_of-FlatMember)

  abbrev signed_in : FlatExpr → (k : Count) × Row_of-FlatSigned k
  signed_in (Sum' f head shape row) = (_, row)
  signed_in _ = (_, end_of-FlatSigned)

  pub read-Number : (value at : ℕ) → read_fault fs (Number value at) ≡ None
  unfolding read_fault
  read-Number value at = refl

  pub read-Var : (var at : ℕ) → read_fault fs (Var var at) ≡ None
  unfolding read_fault
  read-Var var at = refl

  pub read-Loop : (value at : ℕ) → read_fault fs (Loop value at) ≡ None
  unfolding read_fault
  read-Loop value at = refl

  pub read-Constant : (list value at : ℕ) → read_fault fs (Constant list value at) ≡ None
  unfolding read_fault
  read-Constant list value at = refl

  pub read-Read : (family : ℕ) (es : List FlatExpr) (at : ℕ) → read_fault fs (Read family es at) ≡ earlier_of (fault_if_abstract fs 19 family at) (first_among (map (read_fault fs) es))
  unfolding read_fault
  read-Read family es at =
      let row : (k : Count) × Row_of-FlatExpr k = exprs_in (Read family es at) in
      read-cons fs _ (references_of row.1)
      ∙ ap (earlier_of (fault_if_abstract fs 19 family at)) (exprs-row row.0 row.1 ∙ ap (λ l. first_among (map (read_fault fs) l)) (items_hidden-the_row-FlatExpr-0 es))

  pub read-And : (es : List FlatExpr) → read_fault fs (And es) ≡ first_among (map (read_fault fs) es)
  unfolding read_fault
  read-And es = exprs-row (exprs_in (And es)).0 (exprs_in (And es)).1 ∙ ap (λ l. first_among (map (read_fault fs) l)) (items_hidden-the_row-FlatExpr-0 es)

  pub read-Or : (es : List FlatExpr) → read_fault fs (Or es) ≡ first_among (map (read_fault fs) es)
  unfolding read_fault
  read-Or es = exprs-row (exprs_in (Or es)).0 (exprs_in (Or es)).1 ∙ ap (λ l. first_among (map (read_fault fs) l)) (items_hidden-the_row-FlatExpr-0 es)

  pub read-Implies : (es : List FlatExpr) → read_fault fs (Implies es) ≡ first_among (map (read_fault fs) es)
  unfolding read_fault
  read-Implies es = exprs-row (exprs_in (Implies es)).0 (exprs_in (Implies es)).1 ∙ ap (λ l. first_among (map (read_fault fs) l)) (items_hidden-the_row-FlatExpr-0 es)

  pub read-List : (ms : List FlatMember) (at : ℕ) → read_fault fs (ListOf ms at) ≡ first_among (map (member_fault fs) ms)
  unfolding read_fault
  read-List ms at = members-row (members_in (ListOf ms at)).0 (members_in (ListOf ms at)).1 ∙ ap (λ l. first_among (map (member_fault fs) l)) (items_hidden-the_row-FlatMember-3 ms)

  pub read-Sum : (head : FlatExpr) (more : List FlatSigned) → read_fault fs (Sum head more) ≡ earlier_of (read_fault fs head) (first_among (map (signed_fault fs) more))
  unfolding read_fault boxes
  read-Sum head more =
      let row : (k : Count) × Row_of-FlatSigned k = signed_in (Sum head more) in
      read-append fs (references head) (references_signed row.1)
      ∙ ap (earlier_of (read_fault fs head)) (signed-row row.0 row.1 ∙ ap (λ l. first_among (map (signed_fault fs) l)) (items_hidden-the_row-FlatSigned-2 more))

  pub read-Not : (e : FlatExpr) (at : ℕ) → read_fault fs (Not e at) ≡ read_fault fs e
  unfolding read_fault boxes
  read-Not e at = refl

  pub read-Modulo : (e : FlatExpr) (by at : ℕ) → read_fault fs (Modulo e by at) ≡ read_fault fs e
  unfolding read_fault boxes
  read-Modulo e by at = refl

  pub read-Iff : (l r : FlatExpr) → read_fault fs (Iff l r) ≡ earlier_of (read_fault fs l) (read_fault fs r)
  unfolding read_fault boxes
  read-Iff l r = read-append fs (references l) (references r)

  pub read-Compare : (op : Op) (l r : FlatExpr) → read_fault fs (Compare op l r) ≡ earlier_of (read_fault fs l) (read_fault fs r)
  unfolding read_fault boxes
  read-Compare op l r = read-append fs (references l) (references r)

  pub read-Within : (l r : FlatExpr) → read_fault fs (Within l r) ≡ earlier_of (read_fault fs l) (read_fault fs r)
  unfolding read_fault boxes
  read-Within l r = read-append fs (references l) (references r)

  pub read-Choose : (c l r : FlatExpr) → read_fault fs (Choose c l r) ≡ earlier_of (read_fault fs c) (earlier_of (read_fault fs l) (read_fault fs r))
  unfolding read_fault boxes
  read-Choose c l r =
      read-append fs (references c ++ references l) (references r) ∙ ap (λ f. earlier_of f (read_fault fs r)) (read-append fs (references c) (references l))
      ∙ earlier-assoc (read_fault fs c) (read_fault fs l) (read_fault fs r)

  pub read-All : (body : FlatExpr) (var : ℕ) (over : Simple) (at : ℕ) → read_fault fs (All body var over at) ≡ read_fault fs body
  unfolding read_fault boxes
  read-All body var over at = refl

  pub read-Any : (body : FlatExpr) (var : ℕ) (over : Simple) (at : ℕ) → read_fault fs (Any body var over at) ≡ read_fault fs body
  unfolding read_fault boxes
  read-Any body var over at = refl

  pub read-Each : (var : ℕ) (over : Simple) (at : ℕ) → read_fault fs (Each var over None at) ≡ None
  unfolding read_fault boxes
  read-Each var over at = refl

  pub read-Each_if : (var : ℕ) (over : Simple) (cond : FlatExpr) (at : ℕ) → read_fault fs (Each var over (Some cond) at) ≡ read_fault fs cond
  unfolding read_fault boxes
  read-Each_if var over cond at = refl

pub ruleset equations = (read-Number, read-Var, read-Loop, read-Constant, read-Read, read-And, read-Or, read-Implies, read-List, read-Sum, read-Not, read-Modulo, read-Iff, read-Compare, read-Within, read-Choose, read-All, read-Any, read-Each, read-Each_if)
