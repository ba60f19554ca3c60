-- Whole left sides of a text are exact in the flattened text.
use Rattle.std.proofs.Common.{◌≡◌, ℕ, ◌+◌, List, [], ◌∷◌, ◌++◌, map, All, Option, Some, sym, subst, ◌∙◌, inl, inr, length, slice_get}
use Rattle.std.specs.List.{AllZip, flat_map}
use Rattle.std.proofs.lemmas.List.{length-map}
use Rattle.std.proofs.lemmas.List.Elements.{All-head, All-tail}
use Rattle.smv_core.specs.Values.{Name, Path}
use Rattle.smv_core.specs.FlatOrder.{design_of}
use Rattle.smv_core.specs.Outcome.{fields_of}
use Rattle.smv_core.specs.Walk.{indexes_of, steps_of}
use Rattle.smv_core.specs.Assignments.{Around, loop, any}
use Rattle.smv_core.specs.FlatMeaning.{Numbered}
use Rattle.smv_core.specs.declared.tree.Path.{out-Path}
use Rattle.smv_core.specs.declared.tree.Text.{Text}
use Rattle.smv_core.specs.declared.tree.Stmt.{Stmt, Row_of-Stmt, end_of-Stmt, more_of-Stmt, Held-Stmt-If-2, None', Some', Row_of-Arm, end_of-Arm, more_of-Arm}
use Rattle.smv_core.specs.declared.tree.Stmt as stmt
use Rattle.smv_core.specs.declared.flat.Family.{Family as FlatFamily}
use Rattle.smv_core.specs.declared.flat.Simple.{Simple}
use Rattle.smv_core.specs.declared.flat.FlatExpr.{FlatExpr, Within, List as ListOf}
use Rattle.smv_core.specs.declared.flat.FlatMember.{One}
use Rattle.smv_core.specs.declared.flat.FlatStmt.{FlatStmt, Assign, If, Block, Default, Forall, If', Block', Default', Forall', Row_of-FlatStmt, end_of-FlatStmt, more_of-FlatStmt, items-the_row-FlatStmt, items_hidden-the_row-FlatStmt-1}
use Rattle.smv_core.specs.declared.flat.FlatItem.{FlatItem}
use Rattle.smv_core.specs.declared.flat.FlatItem.TheVariants as item
use Rattle.law_designs.specs.Numbers.{Scope, bound_in, flat_over, family_number}
use Rattle.law_designs.specs.Statements.{flat_expr, flat_stmt, flat_parts, flat_branch, flat_arms, first_label}
use Rattle.law_designs.specs.Entries.{claim, split, using, Entry, layer, statement, goal, entries}
use Rattle.law_designs.specs.Flattening.{flat_assignments, flat_entry, layers_of, scope_in, with_places, flatten}
use Rattle.law_designs.specs.Agreement.{IsSameFamily}
use Rattle.law_designs.specs.LeftSides.{StatementLeads, StatementsLead, BranchLeads, ArmsLead, EntryLeads, TextLeads}
use Rattle.law_obligations.specs.Sets.{Has, first, later}
use Rattle.law_obligations.proofs.Members.{Has-cases}
use Rattle.law_obligations.proofs.OneOfEach.{Has-from_flat_map}
use Rattle.law_designs.specs.Standing.{count, Statement, statements_from, statements_of, Standing, standing, standing_in, assigned_by}
use Rattle.law_flat_kinds.specs.FamiliesFound.{FamiliesAreFound}
use Rattle.law_sound_texts.specs.Exact.{LeftSidesAreExact}
use Rattle.law_sound_texts.proofs.Counts.{same-count}
use mathlib.Core.Former.{Count}

-- what lets a box of a statement compute
unfoldable boxes : Unit {0}
unfolding Rattle.smv_core.specs.declared.flat.FlatStmt.TheBlock.hidden-the_row-FlatStmt-0 Rattle.smv_core.specs.declared.flat.FlatStmt.TheBlock.shape-the_row-FlatStmt-0 denote.Hole.Carrier.hidden
boxes = tt

module _ (families : List FlatFamily) where
  abbrev mutual
    -- each left side in a flattened statement is exact
    StatementIsExact : FlatStmt → Type 0
    StatementIsExact (Assign kind family left value at) = (f : FlatFamily) × (slice_get families family ≡ Some f) × (length left ≡ length f.over)
    StatementIsExact (If' cond l (more_of-FlatStmt left end_of-FlatStmt) r (more_of-FlatStmt right end_of-FlatStmt)) = StatementIsExact left × StatementIsExact right
    StatementIsExact (Block' shape parts) = AreExact parts
    StatementIsExact (Default' l (more_of-FlatStmt left end_of-FlatStmt) r (more_of-FlatStmt right end_of-FlatStmt)) = StatementIsExact left × StatementIsExact right
    StatementIsExact (Forall' var over shape (more_of-FlatStmt body end_of-FlatStmt)) = StatementIsExact body

    AreExact : {m : _} → Row_of-FlatStmt m → Type 0
    AreExact end_of-FlatStmt = Unit {0}
    AreExact (more_of-FlatStmt part rest) = StatementIsExact part × AreExact rest

  abbrev EachIsExact : List FlatStmt → Type 0
  EachIsExact acts = (act : FlatStmt) → Has acts act → StatementIsExact act

  exact-row : (k : _) (row : Row_of-FlatStmt k) → EachIsExact (items-the_row-FlatStmt k row) → AreExact row
  exact-row k end_of-FlatStmt h = tt
  exact-row k (more_of-FlatStmt part rest) h = (h part first, exact-row _ rest (λ act p. h act (later p)))

  abbrev rows_of : FlatStmt → (k : Count) × Row_of-FlatStmt k
  rows_of (Block' shape row) = (_, row)
  rows_of _ = (_, end_of-FlatStmt)

  exact-Block : (acts : List FlatStmt) → EachIsExact acts → StatementIsExact (Block acts)
  exact-Block acts h = let row : (k : Count) × Row_of-FlatStmt k = rows_of (Block acts) in exact-row row.0 row.1 (subst EachIsExact (sym (items_hidden-the_row-FlatStmt-1 acts)) h)

  exact-If : (test : FlatExpr) (left right : FlatStmt) → StatementIsExact left → StatementIsExact right → StatementIsExact (If test left right)
  unfolding boxes
  exact-If test left right h k = (h, k)

  exact-Default : (left right : FlatStmt) → StatementIsExact left → StatementIsExact right → StatementIsExact (Default left right)
  unfolding boxes
  exact-Default left right h k = (h, k)

  exact-Forall : (var : ℕ) (over : Simple) (body : FlatStmt) → StatementIsExact body → StatementIsExact (Forall var over body)
  unfolding boxes
  exact-Forall var over body h = h

  turns-exact : (act : ℕ → FlatStmt) → ((k : ℕ) → StatementIsExact (act k)) → (ks : List ℕ) → EachIsExact (map act ks)
  turns-exact act h [] a p = elim p [ ]
  turns-exact act h (k ∷ ks) a first = h k
  turns-exact act h (k ∷ ks) a (later p) = turns-exact act h ks a p

  -- ---- the assignments in a statement

  abbrev Standings : List Standing → Type 0
  Standings all = (a : Standing) → Has all a → (f : FlatFamily) × (slice_get families a.family ≡ Some f) × (length a.left ≡ length f.over)

  both-stand : (xs ys : List Standing) → Standings xs → Standings ys → Standings (xs ++ ys)
  both-stand xs ys h k a p = elim (Has-cases xs ys p) [ inl q ↦ h a q | inr q ↦ k a q ]

  module _ (layer : Option ℕ) where
    mutual
      exact-stands : (around : List ℕ) (act : FlatStmt) → StatementIsExact act → Standings (standing layer around act)
      exact-stands around (Assign kind family left value at) h a p = at_one a p
        where
          at_one : (a : Standing) → Has (standing layer around (Assign kind family left value at)) a → (f : FlatFamily) × (slice_get families a.family ≡ Some f) × (length a.left ≡ length f.over)
          at_one _ first = h
          at_one a (later q) = elim q [ ]
      exact-stands around (If' test l (more_of-FlatStmt left end_of-FlatStmt) r (more_of-FlatStmt right end_of-FlatStmt)) h a p =
          both-stand (standing layer around left) (standing layer around right) (exact-stands around left h.0) (exact-stands around right h.1) a p
      exact-stands around (Block' shape parts) h a p = row-stands around parts h a p
      exact-stands around (Default' l (more_of-FlatStmt left end_of-FlatStmt) r (more_of-FlatStmt right end_of-FlatStmt)) h a p =
          both-stand (standing layer around left) (standing layer around right) (exact-stands around left h.0) (exact-stands around right h.1) a p
      exact-stands around (Forall' var over shape (more_of-FlatStmt body end_of-FlatStmt)) h a p = exact-stands (var ∷ around) body h a p

      row-stands : {m : _} (around : List ℕ) (parts : Row_of-FlatStmt m) → AreExact parts → Standings (standing_in layer around parts)
      row-stands around end_of-FlatStmt h a p = elim p [ ]
      row-stands around (more_of-FlatStmt part rest) h a p = both-stand (standing layer around part) (standing_in layer around rest) (exact-stands around part h.0) (row-stands around rest h.1) a p

  -- ---- items

  abbrev AllActs : List FlatItem → Type 0
  AllActs [] = Unit {0}
  AllActs (item.Act number act ∷ items) = StatementIsExact act × AllActs items
  AllActs (_ ∷ items) = AllActs items

  places-exact : (k : ℕ) (items : List FlatItem) → AllActs items → AllActs (with_places k items)
  places-exact k [] h = tt
  places-exact k (item.Act number act ∷ items) h = (h.0, places-exact (k + length (flat_assignments act)) items h.1)
  places-exact k (item.Claim c ∷ items) h = places-exact (k + 1) items h
  places-exact k (item.Split c ∷ items) h = places-exact k items h
  places-exact k (item.Using c ∷ items) h = places-exact k items h

  statements-exact : (k : ℕ) (items : List FlatItem) → AllActs items → (s : Statement) → Has (statements_from k items) s → StatementIsExact s.act
  statements-exact k [] h s p = elim p [ ]
  statements-exact k (item.Act number act ∷ items) h s first = h.0
  statements-exact k (item.Act number act ∷ items) h s (later p) = statements-exact (k + count act) items h.1 s p
  statements-exact k (item.Claim c ∷ items) h s p = statements-exact (k + 1) items h s p
  statements-exact k (item.Split c ∷ items) h s p = statements-exact k items h s p
  statements-exact k (item.Using c ∷ items) h s p = statements-exact k items h s p

module _ (text : Text) (n : Numbered) (found : FamiliesAreFound text) (same : AllZip (IsSameFamily n) (flatten text).families (design_of text).families) where
  abbrev families : List FlatFamily
  families = (flatten text).families

  module _ (instance : Path) where
    abbrev scope : Scope
    scope = scope_in text instance

    mutual
      stmt-exact : (vars : Around) (act : Stmt) → StatementLeads text instance act → StatementIsExact families (flat_stmt scope vars act)
      stmt-exact vars (stmt.Assign kind left value at) h =
          let f = same-count n (flatten text).families (design_of text).families same h.0 h.1 h.2 in
          let number : family_number scope (instance ++ fields_of (out-Path left).parts) ≡ h.0 = subst (λ path. family_number scope path ≡ h.0) h.3 (found h.0 h.1 h.2).1 in
          (f.0, subst (λ k. slice_get families k ≡ Some f.0) (sym number) f.1, length-map (indexes_of (out-Path left).parts) (flat_expr scope vars) ∙ sym h.4 ∙ sym f.2)
      stmt-exact vars (stmt.Block' shape parts) h = exact-Block families (flat_parts scope vars parts) (parts-exact vars parts h)
      stmt-exact vars (stmt.If' test l (more_of-Stmt left end_of-Stmt) right at) h =
          exact-If families (flat_expr scope vars test) (flat_stmt scope vars left) (flat_branch scope vars right) (stmt-exact vars left h.0) (branch-exact vars right h.1)
      stmt-exact vars (stmt.Switch' on shape arms other at) h = arms-exact vars arms h.0 (flat_expr scope vars on) (flat_branch scope vars other) (branch-exact vars other h.1)
      stmt-exact vars (stmt.Default' l (more_of-Stmt left end_of-Stmt) r (more_of-Stmt right end_of-Stmt) at) h =
          exact-Default families (flat_stmt scope vars left) (flat_stmt scope vars right) (stmt-exact vars left h.0) (stmt-exact vars right h.1)
      stmt-exact vars (stmt.For' var from to closed step shape (more_of-Stmt body end_of-Stmt) at) h =
          exact-Block families (map (λ k. flat_stmt scope ((var.name, loop k) ∷ vars) body) (steps_of from to closed step))
          (turns-exact families (λ k. flat_stmt scope ((var.name, loop k) ∷ vars) body) (λ k. stmt-exact ((var.name, loop k) ∷ vars) body h) (steps_of from to closed step))
      stmt-exact vars (stmt.Forall' var over shape (more_of-Stmt body end_of-Stmt) at) h =
          exact-Forall families (bound_in vars) (flat_over scope over) (flat_stmt scope ((var.name, any) ∷ vars) body) (stmt-exact ((var.name, any) ∷ vars) body h)

      parts-exact : {m : _} (vars : Around) (parts : Row_of-Stmt m) → StatementsLead text instance parts → EachIsExact families (flat_parts scope vars parts)
      parts-exact vars end_of-Stmt h a p = elim p [ ]
      parts-exact vars (more_of-Stmt part rest) h a first = stmt-exact vars part h.0
      parts-exact vars (more_of-Stmt part rest) h a (later p) = parts-exact vars rest h.1 a p

      branch-exact : (vars : Around) (branch : Held-Stmt-If-2) → BranchLeads text instance branch → StatementIsExact families (flat_branch scope vars branch)
      branch-exact vars None' h = exact-Block families [] (λ a p. elim p [ ])
      branch-exact vars (Some' shape (more_of-Stmt part end_of-Stmt)) h = stmt-exact vars part h

      arms-exact : {m : _} (vars : Around) (arms : Row_of-Arm m) → ArmsLead text instance arms → (on : FlatExpr) (other : FlatStmt) → StatementIsExact families other → StatementIsExact families (flat_arms scope vars arms on other)
      arms-exact vars end_of-Arm h on other k = k
      arms-exact vars (more_of-Arm labels body rest) h on other k =
          exact-If families (Within on (ListOf (map (λ label. One (flat_expr scope vars label)) labels) (first_label labels))) (flat_stmt scope vars body) (flat_arms scope vars rest on other)
          (stmt-exact vars body h.0) (arms-exact vars rest h.1 on other k)

  -- ---- the statements of a text

  module _ (layers : List Name) where
    entries-exact : (es : List Entry) → All (EntryLeads text) es → AllActs families (flat_map (flat_entry text layers) es)
    entries-exact [] h = tt
    entries-exact (layer name ∷ es) h = entries-exact es (All-tail (EntryLeads text) (layer name) es h)
    entries-exact (statement x ∷ es) h =
        (stmt-exact x.instance [] x.act (All-head (EntryLeads text) (statement x) es h), entries-exact es (All-tail (EntryLeads text) (statement x) es h))
    entries-exact (goal i binders (claim word vars body at) ∷ es) h = entries-exact es (All-tail (EntryLeads text) (goal i binders (claim word vars body at)) es h)
    entries-exact (goal i binders (split word vars of pairs at) ∷ es) h = entries-exact es (All-tail (EntryLeads text) (goal i binders (split word vars of pairs at)) es h)
    entries-exact (goal i binders (using uses proves at) ∷ es) h = entries-exact es (All-tail (EntryLeads text) (goal i binders (using uses proves at)) es h)

  pub text-exact : TextLeads text → LeftSidesAreExact (flatten text)
  text-exact whole a p =
      let layers : List Name = layers_of (entries text) in
      let r : (s : Statement) × Has (statements_of (flatten text)) s × Has (assigned_by s) a = Has-from_flat_map assigned_by (statements_of (flatten text)) p in
      exact-stands families r.0.layer [] r.0.act
      (statements-exact families 0 (flatten text).items (places-exact families 0 (flat_map (flat_entry text layers) (entries text)) (entries-exact layers (entries text) whole)) r.0 r.1) a r.2
