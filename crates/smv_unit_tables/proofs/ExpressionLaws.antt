-- What expressions read, on expressions that are made of lists and values.
use Rattle.std.proofs.Common.{◌≡◌, ℕ, List, [], ◌++◌, Some, None, refl, ap, ◌∙◌}
use Rattle.std.specs.Prelude.{slice_get}
use Rattle.std.specs.List.{flat_map}
use Rattle.std.proofs.lemmas.List.{append-nil}
use Rattle.smv_core.specs.Values.{number}
use Rattle.smv_core.specs.declared.tree.Op.{Op}
use Rattle.smv_core.specs.declared.flat.Simple.{Simple}
use Rattle.smv_core.specs.declared.flat.Family.{Family}
use Rattle.smv_core.specs.declared.flat.FlatSigned.{FlatSigned}
use Rattle.smv_core.specs.declared.flat.FlatMember.{FlatMember, One, Span as SpanOf}
use Rattle.smv_core.specs.declared.flat.FlatExpr.{FlatExpr, Number, Var, Loop, Constant, Not, Iff, Compare, Within, Modulo, Choose, All, Any, Each, Read, Read', And, And', Or, Or', Implies, Implies', Sum, Sum', List as ListOf, List', Row_of-FlatExpr, end_of-FlatExpr, more_of-FlatExpr, Row_of-FlatMember, end_of-FlatMember, more_of-FlatMember, Row_of-FlatSigned, end_of-FlatSigned, more_of-FlatSigned, items-the_row-FlatExpr, items-the_row-FlatMember, items-the_row-FlatSigned, items_hidden-the_row-FlatExpr-0, items_hidden-the_row-FlatSigned-2, items_hidden-the_row-FlatMember-3}
use Rattle.law_obligations.specs.Places.{Place, named, bind_place}
use Rattle.law_obligations.specs.Reads.{reads_each, reads_signed, reads_members}
use Rattle.law_obligations.specs.Times.{if_there}
use Rattle.smv_unit_tables.specs.Reads.{read_in, read_in_term, read_in_member}
use Rattle.smv_unit_tables.proofs.ReadLaws.{one, by_family, alike}
use Rattle.smv_unit_tables.proofs.Computing.{boxes}
use mathlib.Core.Former.{Count}

module _ (fs : List Family) where
  -- a family of these
  abbrev there : ℕ → List ℕ
  there family = if_there family (slice_get fs family)

  exprs-row : (k : _) (row : Row_of-FlatExpr k) → reads_each one (by_family there) row [] ≡ flat_map (read_in fs) (items-the_row-FlatExpr k row)
  unfolding read_in
  exprs-row k end_of-FlatExpr = refl
  exprs-row k (more_of-FlatExpr e rest) = ap (λ l. read_in fs e ++ l) (exprs-row _ rest)

  signed-row : (k : _) (row : Row_of-FlatSigned k) → reads_signed one (by_family there) row [] ≡ flat_map (read_in_term fs) (items-the_row-FlatSigned k row)
  unfolding read_in boxes
  signed-row k end_of-FlatSigned = refl
  signed-row k (more_of-FlatSigned minus e rest) = ap (λ l. read_in fs e ++ l) (signed-row _ rest)

  members-row : (k : _) (row : Row_of-FlatMember k) → reads_members one (by_family there) row [] ≡ flat_map (read_in_member fs) (items-the_row-FlatMember k row)
  unfolding read_in boxes
  members-row k end_of-FlatMember = refl
  members-row k (more_of-FlatMember (One e) rest) = ap (λ l. read_in fs e ++ l) (members-row _ rest)
  members-row k (more_of-FlatMember (SpanOf span at) rest) = members-row _ rest

  abbrev exprs_of : FlatExpr → (k : Count) × Row_of-FlatExpr k
  exprs_of (Read' family shape row at) = (_, row)
  exprs_of (And' shape row) = (_, row)
  exprs_of (Or' shape row) = (_, row)
  exprs_of (Implies' shape row) = (_, row)
  exprs_of _ = (_, end_of-FlatExpr)

  abbrev members_in : FlatExpr → (k : Count) × Row_of-FlatMember k
  members_in (List' shape row at) = (_, row)
  members_in _ = (_, end_of-FlatMember)

  abbrev signed_in : FlatExpr → (k : Count) × Row_of-FlatSigned k
  signed_in (Sum' f head shape row) = (_, row)
  signed_in _ = (_, end_of-FlatSigned)

  pub reads-Read : (family : ℕ) (es : List FlatExpr) (at : ℕ) → read_in fs (Read family es at) ≡ if_there family (slice_get fs family) ++ flat_map (read_in fs) es
  unfolding read_in
  reads-Read family es at =
      let row : (k : Count) × Row_of-FlatExpr k = exprs_of (Read family es at) in
      ap (λ l. there family ++ l) (exprs-row row.0 row.1 ∙ ap (flat_map (read_in fs)) (items_hidden-the_row-FlatExpr-0 es))

  pub reads-And : (es : List FlatExpr) → read_in fs (And es) ≡ flat_map (read_in fs) es
  unfolding read_in
  reads-And es =
      let row : (k : Count) × Row_of-FlatExpr k = exprs_of (And es) in
      exprs-row row.0 row.1 ∙ ap (flat_map (read_in fs)) (items_hidden-the_row-FlatExpr-0 es)

  pub reads-Or : (es : List FlatExpr) → read_in fs (Or es) ≡ flat_map (read_in fs) es
  unfolding read_in
  reads-Or es =
      let row : (k : Count) × Row_of-FlatExpr k = exprs_of (Or es) in
      exprs-row row.0 row.1 ∙ ap (flat_map (read_in fs)) (items_hidden-the_row-FlatExpr-0 es)

  pub reads-Implies : (es : List FlatExpr) → read_in fs (Implies es) ≡ flat_map (read_in fs) es
  unfolding read_in
  reads-Implies es =
      let row : (k : Count) × Row_of-FlatExpr k = exprs_of (Implies es) in
      exprs-row row.0 row.1 ∙ ap (flat_map (read_in fs)) (items_hidden-the_row-FlatExpr-0 es)

  pub reads-List : (members : List FlatMember) (at : ℕ) → read_in fs (ListOf members at) ≡ flat_map (read_in_member fs) members
  unfolding read_in
  reads-List members at =
      let row : (k : Count) × Row_of-FlatMember k = members_in (ListOf members at) in
      members-row row.0 row.1 ∙ ap (flat_map (read_in_member fs)) (items_hidden-the_row-FlatMember-3 members)

  pub reads-Sum : (head : FlatExpr) (more : List FlatSigned) → read_in fs (Sum head more) ≡ read_in fs head ++ flat_map (read_in_term fs) more
  unfolding read_in Rattle.smv_core.specs.declared.flat.FlatExpr.TheBlock.hidden-the_row-FlatExpr-1 Rattle.smv_core.specs.declared.flat.FlatExpr.TheBlock.shape-the_row-FlatExpr-1 denote.Hole.Carrier.hidden
  reads-Sum head more =
      let row : (k : Count) × Row_of-FlatSigned k = signed_in (Sum head more) in
      ap (λ l. read_in fs head ++ l) (signed-row row.0 row.1 ∙ ap (flat_map (read_in_term fs)) (items_hidden-the_row-FlatSigned-2 more))

  pub reads-Number : (value at : ℕ) → read_in fs (Number value at) ≡ []
  unfolding read_in
  reads-Number value at = refl

  pub reads-Loop : (value at : ℕ) → read_in fs (Loop value at) ≡ []
  unfolding read_in
  reads-Loop value at = refl

  pub reads-Var : (var at : ℕ) → read_in fs (Var var at) ≡ []
  unfolding read_in
  reads-Var var at = refl

  pub reads-Constant : (list value at : ℕ) → read_in fs (Constant list value at) ≡ []
  unfolding read_in
  reads-Constant list value at = refl

  pub reads-Not : (e : FlatExpr) (at : ℕ) → read_in fs (Not e at) ≡ read_in fs e
  unfolding read_in boxes
  reads-Not e at = refl

  pub reads-Modulo : (e : FlatExpr) (by at : ℕ) → read_in fs (Modulo e by at) ≡ read_in fs e
  unfolding read_in boxes
  reads-Modulo e by at = refl

  pub reads-Iff : (x y : FlatExpr) → read_in fs (Iff x y) ≡ read_in fs x ++ read_in fs y
  unfolding read_in boxes
  reads-Iff x y = refl

  pub reads-Compare : (op : Op) (x y : FlatExpr) → read_in fs (Compare op x y) ≡ read_in fs x ++ read_in fs y
  unfolding read_in boxes
  reads-Compare op x y = refl

  pub reads-Within : (x y : FlatExpr) → read_in fs (Within x y) ≡ read_in fs x ++ read_in fs y
  unfolding read_in boxes
  reads-Within x y = refl

  pub reads-Choose : (c x y : FlatExpr) → read_in fs (Choose c x y) ≡ (read_in fs c ++ read_in fs x) ++ read_in fs y
  unfolding read_in boxes
  reads-Choose c x y = refl

  -- the body of a binder, whatever the place of its variable
  bound : (body : FlatExpr) (b : List Place) → Rattle.law_obligations.specs.Reads.reads one (by_family there) body b ++ [] ≡ read_in fs body
  unfolding read_in
  bound body b = append-nil _ ∙ alike there body b []

  pub reads-All : (body : FlatExpr) (var : ℕ) (over : Simple) (at : ℕ) → read_in fs (All body var over at) ≡ read_in fs body
  unfolding read_in boxes
  reads-All body var over at = bound body (bind_place [] var (named (number 0)))

  pub reads-Any : (body : FlatExpr) (var : ℕ) (over : Simple) (at : ℕ) → read_in fs (Any body var over at) ≡ read_in fs body
  unfolding read_in boxes
  reads-Any body var over at = bound body (bind_place [] var (named (number 0)))

  pub reads-Each : (var : ℕ) (over : Simple) (at : ℕ) → read_in fs (Each var over None at) ≡ []
  unfolding read_in boxes
  reads-Each var over at = refl

  pub reads-Each_if : (var : ℕ) (over : Simple) (cond : FlatExpr) (at : ℕ) → read_in fs (Each var over (Some cond) at) ≡ read_in fs cond
  unfolding read_in boxes
  reads-Each_if var over cond at = bound cond (bind_place [] var (named (number 0)))

pub ruleset equations = (reads-Read, reads-And, reads-Or, reads-Implies, reads-List, reads-Sum, reads-Number, reads-Loop, reads-Var, reads-Constant, reads-Not, reads-Modulo, reads-Iff, reads-Compare, reads-Within, reads-Choose, reads-All, reads-Any, reads-Each, reads-Each_if)
