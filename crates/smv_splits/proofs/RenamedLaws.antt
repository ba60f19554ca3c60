-- Renamed expressions that are made of lists and values.
use Rattle.std.proofs.Common.{◌≡◌, ℕ, List, ◌∷◌, map, Some, None, refl, ap, sym, ◌∙◌}
use Rattle.smv_core.specs.declared.tree.Op.{Op}
use Rattle.smv_core.specs.declared.flat.Simple.{Simple}
use Rattle.smv_core.specs.declared.flat.FlatMember.{FlatMember, One, Span as SpanOf}
use Rattle.smv_core.specs.declared.flat.FlatSigned.{FlatSigned, roll-FlatSigned}
use Rattle.smv_core.specs.declared.flat.FlatExpr.{FlatExpr, Number, Read, Read', Var, Loop, Constant, Not, And, And', Or, Or', Implies, Implies', Iff, Compare, Within, Sum, Sum', Modulo, Choose, All, Any, List as ListOf, List', Each}
use Rattle.smv_core.specs.declared.flat.FlatExpr.{Row_of-FlatExpr, end_of-FlatExpr, more_of-FlatExpr, Row_of-FlatMember, end_of-FlatMember, more_of-FlatMember, Row_of-FlatSigned, end_of-FlatSigned, more_of-FlatSigned}
use Rattle.smv_core.specs.declared.flat.FlatExpr.{items-the_row-FlatExpr, items-the_row-FlatMember, items-the_row-FlatSigned, items_hidden-the_row-FlatExpr-0, items_hidden-the_row-FlatMember-3, items_hidden-the_row-FlatSigned-2, items_shown-the_row-FlatExpr-0, items_shown-the_row-FlatMember-3, items_shown-the_row-FlatSigned-2, out-FlatExpr, roll-FlatExpr, roll-out-FlatExpr}
use mathlib.Core.Former.{Count}
use Rattle.law_splits.specs.Variables.{renamed, renamed_each, renamed_signed, renamed_members}
use Rattle.smv_splits.specs.Renaming.{renaming, renaming_signed, renaming_member}

-- what lets rows compute
unfoldable computing : Unit {0}
unfolding roll-FlatExpr out-FlatExpr Rattle.smv_core.specs.declared.flat.FlatExpr.TheBlock.shown-the_row-FlatExpr-0 Rattle.smv_core.specs.declared.flat.FlatExpr.TheBlock.shown-the_row-FlatExpr-1 Rattle.smv_core.specs.declared.flat.FlatExpr.TheBlock.shown-the_row-FlatMember-3 Rattle.smv_core.specs.declared.flat.FlatExpr.TheBlock.shown-the_row-FlatSigned-2 Rattle.smv_core.specs.declared.flat.FlatExpr.TheBlock.hidden-the_row-FlatExpr-0 Rattle.smv_core.specs.declared.flat.FlatExpr.TheBlock.hidden-the_row-FlatExpr-1 Rattle.smv_core.specs.declared.flat.FlatExpr.TheBlock.hidden-the_row-FlatMember-3 Rattle.smv_core.specs.declared.flat.FlatExpr.TheBlock.hidden-the_row-FlatSigned-2 Rattle.smv_core.specs.declared.flat.FlatExpr.TheBlock.shape-the_row-FlatExpr-0 Rattle.smv_core.specs.declared.flat.FlatExpr.TheBlock.shape-the_row-FlatExpr-1 Rattle.smv_core.specs.declared.flat.FlatExpr.TheBlock.shape-the_row-FlatMember-3 Rattle.smv_core.specs.declared.flat.FlatExpr.TheBlock.shape-the_row-FlatSigned-2 denote.Hole.Carrier.roll denote.Hole.Carrier.out denote.Hole.Carrier.shown denote.Hole.Carrier.hidden
computing = tt

-- ---- what stands in rows, by its list

and-list : (shape : _) (row : _) → And (items-the_row-FlatExpr _ row) ≡ And' shape row
unfolding computing
and-list shape row = sym (ap And (items_shown-the_row-FlatExpr-0 shape row)) ∙ roll-out-FlatExpr (And' shape row)

or-list : (shape : _) (row : _) → Or (items-the_row-FlatExpr _ row) ≡ Or' shape row
unfolding computing
or-list shape row = sym (ap Or (items_shown-the_row-FlatExpr-0 shape row)) ∙ roll-out-FlatExpr (Or' shape row)

implies-list : (shape : _) (row : _) → Implies (items-the_row-FlatExpr _ row) ≡ Implies' shape row
unfolding computing
implies-list shape row = sym (ap Implies (items_shown-the_row-FlatExpr-0 shape row)) ∙ roll-out-FlatExpr (Implies' shape row)

read-list : (family : ℕ) (shape : _) (row : _) (at : ℕ) → Read family (items-the_row-FlatExpr _ row) at ≡ Read' family shape row at
unfolding computing
read-list family shape row at = sym (ap (λ l. Read family l at) (items_shown-the_row-FlatExpr-0 shape row)) ∙ roll-out-FlatExpr (Read' family shape row at)

list-list : (shape : _) (row : _) (at : ℕ) → ListOf (items-the_row-FlatMember _ row) at ≡ List' shape row at
unfolding computing
list-list shape row at = sym (ap (λ l. ListOf l at) (items_shown-the_row-FlatMember-3 shape row)) ∙ roll-out-FlatExpr (List' shape row at)

sum-list : (f : _) (e : FlatExpr) (shape : _) (row : _) → Sum e (items-the_row-FlatSigned _ row) ≡ Sum' f (more_of-FlatExpr e end_of-FlatExpr) shape row
unfolding computing
sum-list f e shape row = sym (ap (Sum e) (items_shown-the_row-FlatSigned-2 shape row)) ∙ roll-out-FlatExpr (Sum' f (more_of-FlatExpr e end_of-FlatExpr) shape row)

module _ (number : ℕ → ℕ) where
  exprs-row : (n : _) (row : Row_of-FlatExpr n) → items-the_row-FlatExpr n (renamed_each number row) ≡ map (renaming number) (items-the_row-FlatExpr n row)
  unfolding renaming
  exprs-row n end_of-FlatExpr = refl
  exprs-row n (more_of-FlatExpr e rest) = ap (λ l. renamed number e ∷ l) (exprs-row _ rest)

  members-row : (n : _) (row : Row_of-FlatMember n) → items-the_row-FlatMember n (renamed_members number row) ≡ map (renaming_member number) (items-the_row-FlatMember n row)
  unfolding renaming computing
  members-row n end_of-FlatMember = refl
  members-row n (more_of-FlatMember (One e) rest) = ap (λ l. One (renamed number e) ∷ l) (members-row _ rest)
  members-row n (more_of-FlatMember (SpanOf span at) rest) = ap (λ l. SpanOf span at ∷ l) (members-row _ rest)

  signed-row : (n : _) (row : Row_of-FlatSigned n) → items-the_row-FlatSigned n (renamed_signed number row) ≡ map (renaming_signed number) (items-the_row-FlatSigned n row)
  unfolding renaming computing
  signed-row n end_of-FlatSigned = refl
  signed-row n (more_of-FlatSigned minus e rest) = ap (λ l. roll-FlatSigned (record { minus = minus; of = renamed number e }) ∷ l) (signed-row _ rest)

  abbrev exprs_of : FlatExpr → (n : Count) × Row_of-FlatExpr n
  exprs_of (And' shape row) = (_, row)
  exprs_of (Or' shape row) = (_, row)
  exprs_of (Implies' shape row) = (_, row)
  exprs_of (Read' family shape row at) = (_, row)
  exprs_of _ = (_, end_of-FlatExpr)

  abbrev members_of : FlatExpr → (n : Count) × Row_of-FlatMember n
  members_of (List' shape row at) = (_, row)
  members_of _ = (_, end_of-FlatMember)

  abbrev sums_of : FlatExpr → (n : Count) × Row_of-FlatSigned n
  sums_of (Sum' f first shape row) = (_, row)
  sums_of _ = (_, end_of-FlatSigned)

  -- ---- each constructor

  pub rename-Sum : (first : FlatExpr) (more : List FlatSigned) → renaming number (Sum first more) ≡ Sum (renaming number first) (map (renaming_signed number) more)
  unfolding renaming Rattle.smv_core.specs.declared.flat.FlatExpr.TheBlock.hidden-the_row-FlatExpr-1 Rattle.smv_core.specs.declared.flat.FlatExpr.TheBlock.shape-the_row-FlatExpr-1 denote.Hole.Carrier.hidden
  rename-Sum first more =
      let row = sums_of (Sum first more) in
      sym (sum-list _ (renamed number first) _ (renamed_signed number row.1)) ∙ ap (Sum (renamed number first)) (signed-row _ row.1 ∙ ap (map (renaming_signed number)) (items_hidden-the_row-FlatSigned-2 more))

  pub rename-Number : (value at : ℕ) → renaming number (Number value at) ≡ Number value at
  unfolding renaming
  rename-Number value at = refl

  pub rename-Var : (var at : ℕ) → renaming number (Var var at) ≡ Var (number var) at
  unfolding renaming
  rename-Var var at = refl

  pub rename-Loop : (value at : ℕ) → renaming number (Loop value at) ≡ Loop value at
  unfolding renaming
  rename-Loop value at = refl

  pub rename-Constant : (list value at : ℕ) → renaming number (Constant list value at) ≡ Constant list value at
  unfolding renaming
  rename-Constant list value at = refl

  pub rename-Read : (family : ℕ) (indexes : List FlatExpr) (at : ℕ) → renaming number (Read family indexes at) ≡ Read family (map (renaming number) indexes) at
  unfolding renaming
  rename-Read family indexes at =
      let row = exprs_of (Read family indexes at) in
      sym (read-list family _ (renamed_each number row.1) at) ∙ ap (λ l. Read family l at) (exprs-row _ row.1 ∙ ap (map (renaming number)) (items_hidden-the_row-FlatExpr-0 indexes))

  pub rename-And : (parts : List FlatExpr) → renaming number (And parts) ≡ And (map (renaming number) parts)
  unfolding renaming
  rename-And parts = sym (and-list _ (renamed_each number (exprs_of (And parts)).1)) ∙ ap And (exprs-row _ (exprs_of (And parts)).1 ∙ ap (map (renaming number)) (items_hidden-the_row-FlatExpr-0 parts))

  pub rename-Or : (parts : List FlatExpr) → renaming number (Or parts) ≡ Or (map (renaming number) parts)
  unfolding renaming
  rename-Or parts = sym (or-list _ (renamed_each number (exprs_of (Or parts)).1)) ∙ ap Or (exprs-row _ (exprs_of (Or parts)).1 ∙ ap (map (renaming number)) (items_hidden-the_row-FlatExpr-0 parts))

  pub rename-Implies : (parts : List FlatExpr) → renaming number (Implies parts) ≡ Implies (map (renaming number) parts)
  unfolding renaming
  rename-Implies parts = sym (implies-list _ (renamed_each number (exprs_of (Implies parts)).1)) ∙ ap Implies (exprs-row _ (exprs_of (Implies parts)).1 ∙ ap (map (renaming number)) (items_hidden-the_row-FlatExpr-0 parts))

  pub rename-List : (members : List FlatMember) (at : ℕ) → renaming number (ListOf members at) ≡ ListOf (map (renaming_member number) members) at
  unfolding renaming
  rename-List members at =
      sym (list-list _ (renamed_members number (members_of (ListOf members at)).1) at) ∙ ap (λ l. ListOf l at) (members-row _ (members_of (ListOf members at)).1 ∙ ap (map (renaming_member number)) (items_hidden-the_row-FlatMember-3 members))

  pub rename-Not : (e : FlatExpr) (at : ℕ) → renaming number (Not e at) ≡ Not (renaming number e) at
  unfolding renaming computing
  rename-Not e at = refl

  pub rename-Modulo : (e : FlatExpr) (by at : ℕ) → renaming number (Modulo e by at) ≡ Modulo (renaming number e) by at
  unfolding renaming computing
  rename-Modulo e by at = refl

  pub rename-Iff : (x y : FlatExpr) → renaming number (Iff x y) ≡ Iff (renaming number x) (renaming number y)
  unfolding renaming computing
  rename-Iff x y = refl

  pub rename-Compare : (op : Op) (x y : FlatExpr) → renaming number (Compare op x y) ≡ Compare op (renaming number x) (renaming number y)
  unfolding renaming computing
  rename-Compare op x y = refl

  pub rename-Within : (x y : FlatExpr) → renaming number (Within x y) ≡ Within (renaming number x) (renaming number y)
  unfolding renaming computing
  rename-Within x y = refl

  pub rename-Choose : (c x y : FlatExpr) → renaming number (Choose c x y) ≡ Choose (renaming number c) (renaming number x) (renaming number y)
  unfolding renaming computing
  rename-Choose c x y = refl

  pub rename-All : (body : FlatExpr) (var : ℕ) (over : Simple) (at : ℕ) → renaming number (All body var over at) ≡ All (renaming number body) (number var) over at
  unfolding renaming computing
  rename-All body var over at = refl

  pub rename-Any : (body : FlatExpr) (var : ℕ) (over : Simple) (at : ℕ) → renaming number (Any body var over at) ≡ Any (renaming number body) (number var) over at
  unfolding renaming computing
  rename-Any body var over at = refl

  pub rename-Each : (var : ℕ) (over : Simple) (at : ℕ) → renaming number (Each var over None at) ≡ Each (number var) over None at
  unfolding renaming computing
  rename-Each var over at = refl

  pub rename-Each_if : (var : ℕ) (over : Simple) (cond : FlatExpr) (at : ℕ) → renaming number (Each var over (Some cond) at) ≡ Each (number var) over (Some (renaming number cond)) at
  unfolding renaming computing
  rename-Each_if var over cond at = refl

pub ruleset equations = (rename-Number, rename-Var, rename-Loop, rename-Constant, rename-Read, rename-And, rename-Or, rename-Implies, rename-List, rename-Sum, rename-Not, rename-Modulo, rename-Iff, rename-Compare, rename-Within, rename-Choose, rename-All, rename-Any, rename-Each, rename-Each_if)
