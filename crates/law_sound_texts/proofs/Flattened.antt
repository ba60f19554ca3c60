-- In a flattened text each `forall` has the number of those around it.
use Rattle.std.proofs.Common.{◌≡◌, ℕ, suc, ◌+◌, ◌≤◌, List, [], ◌∷◌, map, length, Option, true, nat_le, refl, sym, subst, arith}
use Rattle.std.specs.List.{flat_map}
use Rattle.smv_core.specs.Values.{Name}
use Rattle.smv_core.specs.Walk.{steps_of}
use Rattle.smv_core.specs.Assignments.{Around, loop, any}
use Rattle.smv_core.specs.declared.tree.Text.{Text}
use Rattle.smv_core.specs.declared.tree.Stmt.{Stmt, Row_of-Stmt, end_of-Stmt, more_of-Stmt, Held-Stmt-If-2, None', Some', Row_of-Arm, end_of-Arm, more_of-Arm}
use Rattle.smv_core.specs.declared.tree.Stmt as stmt
use Rattle.smv_core.specs.declared.flat.Simple.{Simple}
use Rattle.smv_core.specs.declared.flat.FlatExpr.{FlatExpr, Within, List as ListOf}
use Rattle.smv_core.specs.declared.flat.FlatMember.{One}
use Rattle.smv_core.specs.declared.flat.FlatStmt.{FlatStmt, Assign, If, Block, Default, Forall, If', Block', Default', Forall', Row_of-FlatStmt, end_of-FlatStmt, more_of-FlatStmt, items-the_row-FlatStmt, items_hidden-the_row-FlatStmt-1}
use Rattle.smv_core.specs.declared.flat.FlatItem.{FlatItem}
use Rattle.smv_core.specs.declared.flat.FlatItem.TheVariants as item
use Rattle.law_designs.specs.Numbers.{Scope, bound_in, flat_over}
use Rattle.law_designs.specs.Statements.{flat_expr, flat_stmt, flat_parts, flat_branch, flat_arms, first_label}
use Rattle.law_designs.specs.Entries.{claim, split, using, Entry, layer, statement, goal, entries}
use Rattle.law_designs.specs.Flattening.{flat_assignments, flat_entry, layers_of, scope_in, with_places, flatten}
use Rattle.law_designs.proofs.FlatLists.{boxes}
use Rattle.law_obligations.specs.Sets.{Has, first, later}
use Rattle.law_obligations.proofs.Members.{Has-left, Has-right, Has-from_map, Has-flat_map, all-each}
use Rattle.law_designs.specs.Standing.{count, Statement, statements_from, Standing, standing, standing_in, assigned_by}
use Rattle.law_designs.specs.Laws.{index_count, left_sides_are_whole}
use Rattle.law_sound_texts.specs.Placed.{IsPlaced, ArePlaced, FlatTextIsPlaced}
use mathlib.Core.Former.{Count}

abbrev mutual
  -- each `forall` has the number of those around it
  IsNumbered : ℕ → FlatStmt → Type 0
  IsNumbered n (Assign kind family left value at) = Unit {0}
  IsNumbered n (If' cond l (more_of-FlatStmt left end_of-FlatStmt) r (more_of-FlatStmt right end_of-FlatStmt)) = IsNumbered n left × IsNumbered n right
  IsNumbered n (Block' shape parts) = AreNumbered n parts
  IsNumbered n (Default' l (more_of-FlatStmt left end_of-FlatStmt) r (more_of-FlatStmt right end_of-FlatStmt)) = IsNumbered n left × IsNumbered n right
  IsNumbered n (Forall' var over shape (more_of-FlatStmt body end_of-FlatStmt)) = (var ≡ n) × IsNumbered (suc n) body

  AreNumbered : {m : _} → ℕ → Row_of-FlatStmt m → Type 0
  AreNumbered n end_of-FlatStmt = Unit {0}
  AreNumbered n (more_of-FlatStmt part rest) = IsNumbered n part × AreNumbered n rest

abbrev Numbered : ℕ → List FlatStmt → Type 0
Numbered n acts = (act : FlatStmt) → Has acts act → IsNumbered n act

module _ (n : ℕ) where
  numbered-row : (k : _) (row : Row_of-FlatStmt k) → Numbered n (items-the_row-FlatStmt k row) → AreNumbered n row
  numbered-row k end_of-FlatStmt h = tt
  numbered-row k (more_of-FlatStmt part rest) h = (h part first, numbered-row _ rest (λ act p. h act (later p)))

  abbrev rows_of : FlatStmt → (k : Count) × Row_of-FlatStmt k
  rows_of (Block' shape row) = (_, row)
  rows_of _ = (_, end_of-FlatStmt)

  numbered-Block : (acts : List FlatStmt) → Numbered n acts → IsNumbered n (Block acts)
  numbered-Block acts h = let row : (k : Count) × Row_of-FlatStmt k = rows_of (Block acts) in numbered-row row.0 row.1 (subst (Numbered n) (sym (items_hidden-the_row-FlatStmt-1 acts)) h)

  numbered-If : (test : FlatExpr) (left right : FlatStmt) → IsNumbered n left → IsNumbered n right → IsNumbered n (If test left right)
  unfolding boxes
  numbered-If test left right h k = (h, k)

  numbered-Default : (left right : FlatStmt) → IsNumbered n left → IsNumbered n right → IsNumbered n (Default left right)
  unfolding boxes
  numbered-Default left right h k = (h, k)

  numbered-Forall : (var : ℕ) (over : Simple) (body : FlatStmt) → var ≡ n → IsNumbered (suc n) body → IsNumbered n (Forall var over body)
  unfolding boxes
  numbered-Forall var over body e h = (e, h)

turns-numbered : (n : ℕ) (act : ℕ → FlatStmt) → ((k : ℕ) → IsNumbered n (act k)) → (ks : List ℕ) → Numbered n (map act ks)
turns-numbered n act h ks a p = let r : (k : ℕ) × Has ks k × (a ≡ act k) = Has-from_map act ks p in subst (IsNumbered n) (sym r.2) (h r.0)

module _ (scope : Scope) where
  more_by_one : (n : ℕ) → n + 1 ≡ suc n
  more_by_one n = omega arith

  mutual
    stmt-numbered : (vars : Around) (act : Stmt) → IsNumbered (bound_in vars) (flat_stmt scope vars act)
    stmt-numbered vars (stmt.Assign kind left value at) = tt
    stmt-numbered vars (stmt.Block' shape parts) = numbered-Block (bound_in vars) (flat_parts scope vars parts) (parts-numbered vars parts)
    stmt-numbered vars (stmt.If' test l (more_of-Stmt left end_of-Stmt) right at) =
        numbered-If (bound_in vars) (flat_expr scope vars test) (flat_stmt scope vars left) (flat_branch scope vars right) (stmt-numbered vars left) (branch-numbered vars right)
    stmt-numbered vars (stmt.Switch' on shape arms other at) = arms-numbered vars arms (flat_expr scope vars on) (flat_branch scope vars other) (branch-numbered vars other)
    stmt-numbered vars (stmt.Default' l (more_of-Stmt left end_of-Stmt) r (more_of-Stmt right end_of-Stmt) at) =
        numbered-Default (bound_in vars) (flat_stmt scope vars left) (flat_stmt scope vars right) (stmt-numbered vars left) (stmt-numbered vars right)
    stmt-numbered vars (stmt.For' var from to closed step shape (more_of-Stmt body end_of-Stmt) at) =
        numbered-Block (bound_in vars) (map (λ k. flat_stmt scope ((var.name, loop k) ∷ vars) body) (steps_of from to closed step))
        (turns-numbered (bound_in vars) (λ k. flat_stmt scope ((var.name, loop k) ∷ vars) body) (λ k. stmt-numbered ((var.name, loop k) ∷ vars) body) (steps_of from to closed step))
    stmt-numbered vars (stmt.Forall' var over shape (more_of-Stmt body end_of-Stmt) at) =
        numbered-Forall (bound_in vars) (bound_in vars) (flat_over scope over) (flat_stmt scope ((var.name, any) ∷ vars) body) refl
        (subst (λ n. IsNumbered n (flat_stmt scope ((var.name, any) ∷ vars) body)) (more_by_one (bound_in vars)) (stmt-numbered ((var.name, any) ∷ vars) body))

    parts-numbered : {m : _} (vars : Around) (parts : Row_of-Stmt m) → Numbered (bound_in vars) (flat_parts scope vars parts)
    parts-numbered vars end_of-Stmt a h = elim h [ ]
    parts-numbered vars (more_of-Stmt part rest) a first = stmt-numbered vars part
    parts-numbered vars (more_of-Stmt part rest) a (later h) = parts-numbered vars rest a h

    branch-numbered : (vars : Around) (branch : Held-Stmt-If-2) → IsNumbered (bound_in vars) (flat_branch scope vars branch)
    branch-numbered vars None' = numbered-Block (bound_in vars) [] (λ a h. elim h [ ])
    branch-numbered vars (Some' shape (more_of-Stmt part end_of-Stmt)) = stmt-numbered vars part

    arms-numbered : {m : _} (vars : Around) (arms : Row_of-Arm m) (on : FlatExpr) (other : FlatStmt) → IsNumbered (bound_in vars) other → IsNumbered (bound_in vars) (flat_arms scope vars arms on other)
    arms-numbered vars end_of-Arm on other h = h
    arms-numbered vars (more_of-Arm labels body rest) on other h =
        numbered-If (bound_in vars) (Within on (ListOf (map (λ label. One (flat_expr scope vars label)) labels) (first_label labels))) (flat_stmt scope vars body) (flat_arms scope vars rest on other)
        (stmt-numbered vars body) (arms-numbered vars rest on other h)

-- ---- the statements of a text

abbrev AllActs : List FlatItem → Type 0
AllActs [] = Unit {0}
AllActs (item.Act number act ∷ items) = IsNumbered 0 act × AllActs items
AllActs (_ ∷ items) = AllActs items

module _ (text : Text) (layers : List Name) where
  entries-numbered : (es : List Entry) → AllActs (flat_map (flat_entry text layers) es)
  entries-numbered [] = tt
  entries-numbered (layer name ∷ es) = entries-numbered es
  entries-numbered (statement x ∷ es) = (stmt-numbered (scope_in text x.instance) [] x.act, entries-numbered es)
  entries-numbered (goal i binders (claim word vars body at) ∷ es) = entries-numbered es
  entries-numbered (goal i binders (split word vars of pairs at) ∷ es) = entries-numbered es
  entries-numbered (goal i binders (using uses proves at) ∷ es) = entries-numbered es

places-numbered : (k : ℕ) (items : List FlatItem) → AllActs items → AllActs (with_places k items)
places-numbered k [] h = tt
places-numbered k (item.Act number act ∷ items) h = (h.0, places-numbered (k + length (flat_assignments act)) items h.1)
places-numbered k (item.Claim c ∷ items) h = places-numbered (k + 1) items h
places-numbered k (item.Split c ∷ items) h = places-numbered k items h
places-numbered k (item.Using c ∷ items) h = places-numbered k items h

statements-numbered : (k : ℕ) (items : List FlatItem) → AllActs items → (s : Statement) → Has (statements_from k items) s → IsNumbered 0 s.act
statements-numbered k [] h s p = elim p [ ]
statements-numbered k (item.Act number act ∷ items) h s first = h.0
statements-numbered k (item.Act number act ∷ items) h s (later p) = statements-numbered (k + count act) items h.1 s p
statements-numbered k (item.Claim c ∷ items) h s p = statements-numbered (k + 1) items h s p
statements-numbered k (item.Split c ∷ items) h s p = statements-numbered k items h s p
statements-numbered k (item.Using c ∷ items) h s p = statements-numbered k items h s p

-- ---- left sides

module _ (counts : ℕ → ℕ) (layer : Option ℕ) where
  abbrev Whole : List Standing → Type 0
  Whole all = (a : Standing) → Has all a → length a.left ≤ counts a.family

  mutual
    placed : (n : ℕ) (around : List ℕ) (act : FlatStmt) → IsNumbered n act → Whole (standing layer around act) → IsPlaced counts n act
    placed n around (Assign kind family left value at) h whole = whole _ first
    placed n around (If' test l (more_of-FlatStmt left end_of-FlatStmt) r (more_of-FlatStmt right end_of-FlatStmt)) h whole =
        (placed n around left h.0 (λ a p. whole a (Has-left (standing layer around right) p)), placed n around right h.1 (λ a p. whole a (Has-right (standing layer around left) p)))
    placed n around (Block' shape parts) h whole = all-placed n around parts h whole
    placed n around (Default' l (more_of-FlatStmt left end_of-FlatStmt) r (more_of-FlatStmt right end_of-FlatStmt)) h whole =
        (placed n around left h.0 (λ a p. whole a (Has-left (standing layer around right) p)), placed n around right h.1 (λ a p. whole a (Has-right (standing layer around left) p)))
    placed n around (Forall' var over shape (more_of-FlatStmt body end_of-FlatStmt)) h whole = (h.0, placed (suc n) (var ∷ around) body h.1 whole)

    all-placed : {m : _} (n : ℕ) (around : List ℕ) (parts : Row_of-FlatStmt m) → AreNumbered n parts → Whole (standing_in layer around parts) → ArePlaced counts n parts
    all-placed n around end_of-FlatStmt h whole = tt
    all-placed n around (more_of-FlatStmt p rest) h whole =
        (placed n around p h.0 (λ a q. whole a (Has-left (standing_in layer around rest) q)), all-placed n around rest h.1 (λ a q. whole a (Has-right (standing layer around p) q)))

pub text_placed : (text : Text) → left_sides_are_whole (flatten text) ≡ true → FlatTextIsPlaced (flatten text)
text_placed text whole s h =
    placed (index_count (flatten text)) s.layer 0 [] s.act
    (statements-numbered 0 (flatten text).items (places-numbered 0 (flat_map (flat_entry text (layers_of (entries text))) (entries text)) (entries-numbered text (layers_of (entries text)) (entries text))) s h)
    (λ a p. at_most (length a.left) (index_count (flatten text) a.family) (all-each (λ (a : Standing). nat_le (length a.left) (index_count (flatten text) a.family)) whole (Has-flat_map assigned_by h p)))
  where
    at_most : (k n : ℕ) → nat_le k n ≡ true → k ≤ n
    at_most k n e = grind arith
