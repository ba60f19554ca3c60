-- The kinds of flattened expressions and statements that are made of lists and values.
use Rattle.std.proofs.Common.{◌≡◌, ℕ, List, [], ◌∷◌, map, Option, Some, None, is_some, slice_get, nat_le, nat_lt, if◌then◌else◌, Bool, true, ◌&&◌, refl, ap, ◌∙◌}
use Rattle.std.specs.List.{list_all}
use Rattle.smv_core.specs.declared.tree.Op.{Op}
use Rattle.smv_core.specs.declared.flat.Simple.{Simple}
use Rattle.smv_core.specs.declared.flat.FlatText.{FlatText}
use Rattle.smv_core.specs.declared.flat.FlatSigned.{FlatSigned, out-FlatSigned}
use Rattle.smv_core.specs.declared.flat.FlatMember.{FlatMember, One, Span as SpanOf}
use Rattle.smv_core.specs.declared.flat.FlatExpr.{FlatExpr, Not, Iff, Compare, Within, Modulo, Choose, All, Any, Each, Read, Read', And, And', Or, Or', Implies, Implies', Sum, Sum', List as ListOf, List', Row_of-FlatExpr, end_of-FlatExpr, more_of-FlatExpr, Row_of-FlatMember, end_of-FlatMember, more_of-FlatMember, Row_of-FlatSigned, end_of-FlatSigned, more_of-FlatSigned, items-the_row-FlatExpr, items-the_row-FlatMember, items-the_row-FlatSigned, items_hidden-the_row-FlatExpr-0, items_hidden-the_row-FlatSigned-2, items_hidden-the_row-FlatMember-3}
use Rattle.smv_core.specs.declared.flat.FlatStmt.{FlatStmt, If, Default, Forall, Block, Block', Row_of-FlatStmt, end_of-FlatStmt, more_of-FlatStmt, items-the_row-FlatStmt, items_hidden-the_row-FlatStmt-1}
use Rattle.law_designs.specs.FlatKinds.{FlatKind, FlatVars, takes, are_numbers, number, number_if, common, compares, chosen, element, inside, kind_of, is_binder, kind_in, kinds_in, summands, members_in, looked_through, value_in, keeps_kinds, all_keep_kinds}
use Rattle.law_designs.proofs.FlatLists.{boxes}
use mathlib.Core.Former.{Count}

abbrev exprs_of : FlatExpr → (k : Count) × Row_of-FlatExpr k
exprs_of (Read' family shape row at) = (_, row)
exprs_of (And' shape row) = (_, row)
exprs_of (Or' shape row) = (_, row)
exprs_of (Implies' shape row) = (_, row)
exprs_of _ = (_, end_of-FlatExpr)

abbrev members_of : FlatExpr → (k : Count) × Row_of-FlatMember k
members_of (List' shape row at) = (_, row)
members_of _ = (_, end_of-FlatMember)

abbrev signed_of : FlatExpr → (k : Count) × Row_of-FlatSigned k
signed_of (Sum' f head shape row) = (_, row)
signed_of _ = (_, end_of-FlatSigned)

abbrev stmts_of : FlatStmt → (k : Count) × Row_of-FlatStmt k
stmts_of (Block' shape row) = (_, row)
stmts_of _ = (_, end_of-FlatStmt)

module _ (flat_text : FlatText) (vars : FlatVars) where
  -- ---- lists

  kinds-row : (k : _) (row : Row_of-FlatExpr k) → kinds_in flat_text vars row ≡ map (kind_in flat_text vars) (items-the_row-FlatExpr k row)
  kinds-row k end_of-FlatExpr = refl
  kinds-row k (more_of-FlatExpr e rest) = ap (λ l. kind_in flat_text vars e ∷ l) (kinds-row _ rest)

  -- the kind of a member of a listed set
  abbrev pub member_kind : FlatMember → Option FlatKind
  member_kind (One e) = kind_in flat_text vars e
  member_kind (SpanOf span at) = number_if (nat_le span.low span.high)

  members-row : (k : _) (row : Row_of-FlatMember k) → members_in flat_text vars row ≡ map member_kind (items-the_row-FlatMember k row)
  members-row k end_of-FlatMember = refl
  members-row k (more_of-FlatMember (One e) rest) = ap (λ l. kind_in flat_text vars e ∷ l) (members-row _ rest)
  members-row k (more_of-FlatMember (SpanOf span at) rest) = ap (λ l. number_if (nat_le span.low span.high) ∷ l) (members-row _ rest)

  abbrev pub term_kind : FlatSigned → Option FlatKind
  term_kind x = kind_in flat_text vars (out-FlatSigned x).of

  terms-row : (k : _) (row : Row_of-FlatSigned k) → summands flat_text vars row ≡ map term_kind (items-the_row-FlatSigned k row)
  terms-row k end_of-FlatSigned = refl
  terms-row k (more_of-FlatSigned minus e rest) = ap (λ l. kind_in flat_text vars e ∷ l) (terms-row _ rest)

  pub kind-Read : (family : ℕ) (es : List FlatExpr) (at : ℕ) → kind_in flat_text vars (Read family es at) ≡ element (slice_get flat_text.families family) (map (kind_in flat_text vars) es)
  kind-Read family es at =
      let row : (k : Count) × Row_of-FlatExpr k = exprs_of (Read family es at) in
      ap (element (slice_get flat_text.families family)) (kinds-row row.0 row.1 ∙ ap (map (kind_in flat_text vars)) (items_hidden-the_row-FlatExpr-0 es))

  pub kind-And : (es : List FlatExpr) → kind_in flat_text vars (And es) ≡ number_if (are_numbers (map (kind_in flat_text vars) es))
  kind-And es =
      let row : (k : Count) × Row_of-FlatExpr k = exprs_of (And es) in
      ap (λ l. number_if (are_numbers l)) (kinds-row row.0 row.1 ∙ ap (map (kind_in flat_text vars)) (items_hidden-the_row-FlatExpr-0 es))

  pub kind-Or : (es : List FlatExpr) → kind_in flat_text vars (Or es) ≡ number_if (are_numbers (map (kind_in flat_text vars) es))
  kind-Or es =
      let row : (k : Count) × Row_of-FlatExpr k = exprs_of (Or es) in
      ap (λ l. number_if (are_numbers l)) (kinds-row row.0 row.1 ∙ ap (map (kind_in flat_text vars)) (items_hidden-the_row-FlatExpr-0 es))

  pub kind-Implies : (es : List FlatExpr) → kind_in flat_text vars (Implies es) ≡ number_if (are_numbers (map (kind_in flat_text vars) es))
  kind-Implies es =
      let row : (k : Count) × Row_of-FlatExpr k = exprs_of (Implies es) in
      ap (λ l. number_if (are_numbers l)) (kinds-row row.0 row.1 ∙ ap (map (kind_in flat_text vars)) (items_hidden-the_row-FlatExpr-0 es))

  pub looked-List : (ms : List FlatMember) (at : ℕ) → looked_through flat_text vars (ListOf ms at) ≡ map member_kind ms
  looked-List ms at =
      let row : (k : Count) × Row_of-FlatMember k = members_of (ListOf ms at) in
      members-row row.0 row.1 ∙ ap (map member_kind) (items_hidden-the_row-FlatMember-3 ms)

  pub kind-Sum : (head : FlatExpr) (more : List FlatSigned) → kind_in flat_text vars (Sum head more) ≡ number_if (are_numbers (kind_in flat_text vars head ∷ map term_kind more))
  unfolding boxes
  kind-Sum head more =
      let row : (k : Count) × Row_of-FlatSigned k = signed_of (Sum head more) in
      ap (λ l. number_if (are_numbers (kind_in flat_text vars head ∷ l))) (terms-row row.0 row.1 ∙ ap (map term_kind) (items_hidden-the_row-FlatSigned-2 more))

  -- ---- boxes

  pub kind-Not : (e : FlatExpr) (at : ℕ) → kind_in flat_text vars (Not e at) ≡ number_if (takes number (kind_in flat_text vars e))
  unfolding boxes
  kind-Not e at = refl

  pub kind-Iff : (l r : FlatExpr) → kind_in flat_text vars (Iff l r) ≡ number_if (are_numbers (kind_in flat_text vars l ∷ kind_in flat_text vars r ∷ []))
  unfolding boxes
  kind-Iff l r = refl

  pub kind-Compare : (op : Op) (l r : FlatExpr) → kind_in flat_text vars (Compare op l r) ≡ number_if (compares op (common (kind_in flat_text vars l ∷ kind_in flat_text vars r ∷ [])))
  unfolding boxes
  kind-Compare op l r = refl

  pub kind-Within : (l r : FlatExpr) → kind_in flat_text vars (Within l r) ≡ number_if (is_some (common (kind_in flat_text vars l ∷ looked_through flat_text vars r)))
  unfolding boxes
  kind-Within l r = refl

  pub kind-Modulo : (e : FlatExpr) (by at : ℕ) → kind_in flat_text vars (Modulo e by at) ≡ number_if (takes number (kind_in flat_text vars e) && nat_lt 0 by)
  unfolding boxes
  kind-Modulo e by at = refl

  pub kind-Choose : (c l r : FlatExpr) → kind_in flat_text vars (Choose c l r) ≡ chosen (kind_in flat_text vars c) (kind_in flat_text vars l) (kind_in flat_text vars r)
  unfolding boxes
  kind-Choose c l r = refl

  pub kind-All : (body : FlatExpr) (var : ℕ) (over : Simple) (at : ℕ) → kind_in flat_text vars (All body var over at) ≡ number_if (is_binder flat_text vars var over && takes number (kind_in flat_text (inside vars over) body))
  unfolding boxes
  kind-All body var over at = refl

  pub kind-Any : (body : FlatExpr) (var : ℕ) (over : Simple) (at : ℕ) → kind_in flat_text vars (Any body var over at) ≡ number_if (is_binder flat_text vars var over && takes number (kind_in flat_text (inside vars over) body))
  unfolding boxes
  kind-Any body var over at = refl

  -- ---- right sides

  pub value-List : (ms : List FlatMember) (at : ℕ) → value_in flat_text vars (ListOf ms at) ≡ common (map member_kind ms)
  value-List ms at =
      let row : (k : Count) × Row_of-FlatMember k = members_of (ListOf ms at) in
      ap common (members-row row.0 row.1 ∙ ap (map member_kind) (items_hidden-the_row-FlatMember-3 ms))

  pub value-Choose : (c l r : FlatExpr) → value_in flat_text vars (Choose c l r) ≡ chosen (kind_in flat_text vars c) (value_in flat_text vars l) (value_in flat_text vars r)
  unfolding boxes
  value-Choose c l r = refl

  abbrev pub condition_fits : Simple → Option FlatExpr → Bool
  condition_fits over None = true
  condition_fits over (Some cond) = takes number (kind_in flat_text (inside vars over) cond)

  pub value-Each : (var : ℕ) (over : Simple) (cond : Option FlatExpr) (at : ℕ) → value_in flat_text vars (Each var over cond at) ≡ (if is_binder flat_text vars var over && condition_fits over cond then Some (kind_of over) else None)
  unfolding boxes
  value-Each var over None at = refl
  value-Each var over (Some cond) at = refl

  pub value-Not : (e : FlatExpr) (at : ℕ) → value_in flat_text vars (Not e at) ≡ kind_in flat_text vars (Not e at)
  value-Not e at = refl

  pub value-And : (es : List FlatExpr) → value_in flat_text vars (And es) ≡ kind_in flat_text vars (And es)
  value-And es = refl

  pub value-Or : (es : List FlatExpr) → value_in flat_text vars (Or es) ≡ kind_in flat_text vars (Or es)
  value-Or es = refl

  pub value-Implies : (es : List FlatExpr) → value_in flat_text vars (Implies es) ≡ kind_in flat_text vars (Implies es)
  value-Implies es = refl

  pub value-Iff : (l r : FlatExpr) → value_in flat_text vars (Iff l r) ≡ kind_in flat_text vars (Iff l r)
  value-Iff l r = refl

  pub value-Compare : (op : Op) (l r : FlatExpr) → value_in flat_text vars (Compare op l r) ≡ kind_in flat_text vars (Compare op l r)
  value-Compare op l r = refl

  pub value-Within : (l r : FlatExpr) → value_in flat_text vars (Within l r) ≡ kind_in flat_text vars (Within l r)
  value-Within l r = refl

  pub value-Sum : (head : FlatExpr) (more : List FlatSigned) → value_in flat_text vars (Sum head more) ≡ kind_in flat_text vars (Sum head more)
  value-Sum head more = refl

  pub value-Modulo : (e : FlatExpr) (by at : ℕ) → value_in flat_text vars (Modulo e by at) ≡ kind_in flat_text vars (Modulo e by at)
  value-Modulo e by at = refl

  pub value-All : (body : FlatExpr) (var : ℕ) (over : Simple) (at : ℕ) → value_in flat_text vars (All body var over at) ≡ kind_in flat_text vars (All body var over at)
  value-All body var over at = refl

  pub value-Any : (body : FlatExpr) (var : ℕ) (over : Simple) (at : ℕ) → value_in flat_text vars (Any body var over at) ≡ kind_in flat_text vars (Any body var over at)
  value-Any body var over at = refl

  pub value-Read : (family : ℕ) (es : List FlatExpr) (at : ℕ) → value_in flat_text vars (Read family es at) ≡ kind_in flat_text vars (Read family es at)
  value-Read family es at = refl

  -- ---- statements

  abbrev pub all_keep : List FlatStmt → Bool
  all_keep acts = list_all (keeps_kinds flat_text vars) acts

  stmts-row : (k : _) (row : Row_of-FlatStmt k) → all_keep_kinds flat_text vars row ≡ all_keep (items-the_row-FlatStmt k row)
  stmts-row k end_of-FlatStmt = refl
  stmts-row k (more_of-FlatStmt part rest) = ap (λ b. keeps_kinds flat_text vars part && b) (stmts-row _ rest)

  pub keeps-Block : (acts : List FlatStmt) → keeps_kinds flat_text vars (Block acts) ≡ all_keep acts
  keeps-Block acts =
      let row : (k : Count) × Row_of-FlatStmt k = stmts_of (Block acts) in
      stmts-row row.0 row.1 ∙ ap all_keep (items_hidden-the_row-FlatStmt-1 acts)

  pub keeps-If : (cond : FlatExpr) (l r : FlatStmt) → keeps_kinds flat_text vars (If cond l r) ≡ (takes number (kind_in flat_text vars cond) && (keeps_kinds flat_text vars l && keeps_kinds flat_text vars r))
  unfolding boxes
  keeps-If cond l r = refl

  pub keeps-Default : (l r : FlatStmt) → keeps_kinds flat_text vars (Default l r) ≡ (keeps_kinds flat_text vars l && keeps_kinds flat_text vars r)
  unfolding boxes
  keeps-Default l r = refl

  pub keeps-Forall : (var : ℕ) (over : Simple) (body : FlatStmt) → keeps_kinds flat_text vars (Forall var over body) ≡ (is_binder flat_text vars var over && keeps_kinds flat_text (inside vars over) body)
  unfolding boxes
  keeps-Forall var over body = refl
