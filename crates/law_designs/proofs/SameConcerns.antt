-- The assignments of a flattened statement concern the elements that the tree's concern.
use Rattle.std.proofs.Common.{◌≡◌, ℕ, List, [], ◌∷◌, ◌++◌, map, zip, filter, flat_map, option_map, Option, Some, Bool, true, false, cond, ◌&&◌, ◌||◌, refl, sym, ap, ◌∙◌, subst}
use Rattle.std.specs.List.{list_any, list_all}
use Rattle.std.proofs.lemmas.List.Folds.{list_any-append}
use Rattle.law_lists.proofs.Anys.{any-flat_map}
use Rattle.smv_core.specs.Values.{Name, Path, Value}
use Rattle.smv_core.specs.Types.{Family}
use Rattle.smv_core.specs.FlatOrder.{Met, said, claimed, Said, design_of}
use Rattle.smv_core.specs.Outcome.{fields_of, family_at, same_path}
use Rattle.smv_core.specs.Walk.{Element, same_kind, indexes_of, steps_of}
use Rattle.smv_core.specs.Allowed.{is_layer, said_in, assignments_in, is_concerned}
use Rattle.smv_core.specs.Assignments.{Around, loop, any, index_of, fits, Assigned, assignments, assignments_of, assignments_held, assignments_arms, concerns}
use Rattle.smv_core.specs.FlatMeaning.{FlatElement, flat_index}
use Rattle.smv_core.specs.declared.tree.Kind.{Kind}
use Rattle.smv_core.specs.declared.tree.Text.{Text}
use Rattle.smv_core.specs.declared.tree.Path.{out-Path}
use Rattle.smv_core.specs.declared.tree.Expr.{Expr}
use Rattle.smv_core.specs.declared.tree.Stmt.{Stmt, Assign, Block', If', Switch', Default', For', Forall', Held-Stmt-If-2, None', Some', Row_of-Stmt, end_of-Stmt, more_of-Stmt, Row_of-Arm, end_of-Arm, more_of-Arm}
use Rattle.smv_core.specs.declared.flat.Simple.{Simple}
use Rattle.smv_core.specs.declared.flat.FlatExpr.{FlatExpr, Within, List as ListOf}
use Rattle.smv_core.specs.declared.flat.FlatMember.{One}
use Rattle.smv_core.specs.declared.flat.FlatStmt.{FlatStmt, If, Default, Forall, Block, Block', Row_of-FlatStmt, end_of-FlatStmt, more_of-FlatStmt, items-the_row-FlatStmt, items_hidden-the_row-FlatStmt-1}
use mathlib.Core.Former.{Count}
use Rattle.law_designs.specs.Numbers.{Scope, bound_in, flat_over}
use Rattle.law_designs.specs.Statements.{flat_expr, flat_stmt, flat_parts, flat_branch, flat_arms, first_label}
use Rattle.law_designs.specs.Entries.{claim, split, using, Entry, layer, statement, goal, entries}
use Rattle.law_designs.specs.Flattening.{flat_assignments, flat_assignments_in, scope_in, flatten, flat_entry, layers_of, layer_number}
use Rattle.law_designs.specs.Agreement.{flat_element}
use Rattle.law_designs.specs.WholeText.{is_one_layer, acts_of}
use Rattle.law_designs.specs.FlatTextAllowed.{flat_concerns}
use Rattle.law_designs.proofs.FlatLists.{boxes}
use Rattle.law_designs.proofs.SameWalks.{number-same}
use Rattle.law_designs.proofs.SameIndexes.{fits-same}
use Rattle.law_designs.proofs.SameFamilies.{families-same}
use Rattle.law_designs.proofs.SameSets.{acts-placed}
use Rattle.law_designs.proofs.Entries.{AreAlike, entries-alike}
use Rattle.law_designs.proofs.Layers.{AreListed, layers-listed, layer-same}

or-same : (a b c d : Bool) → a ≡ b → c ≡ d → (a || c) ≡ (b || d)
or-same a b c d h k = rw (h, k) refl

or-moved : (a b c : Bool) → (a || (b || c)) ≡ ((a || b) || c)
or-moved true b c = refl
or-moved false b c = refl

module _ (kind : Kind) (fx : FlatElement) where
  -- some assignment in the flattened statement concerns the element
  abbrev pub fc : FlatStmt → Bool
  fc act = list_any (flat_concerns kind fx) (flat_assignments act)

  assignments-row : (k : _) (row : Row_of-FlatStmt k) → flat_assignments_in row ≡ flat_map flat_assignments (items-the_row-FlatStmt k row)
  assignments-row k end_of-FlatStmt = refl
  assignments-row k (more_of-FlatStmt part rest) = ap (λ l. flat_assignments part ++ l) (assignments-row _ rest)

  abbrev stmts_of : FlatStmt → (k : Count) × Row_of-FlatStmt k
  stmts_of (Block' shape row) = (_, row)
  stmts_of _ = (_, end_of-FlatStmt)

  fc-Block : (acts : List FlatStmt) → fc (Block acts) ≡ list_any fc acts
  fc-Block acts =
      let row : (k : Count) × Row_of-FlatStmt k = stmts_of (Block acts) in
      ap (list_any (flat_concerns kind fx)) (assignments-row row.0 row.1 ∙ ap (flat_map flat_assignments) (items_hidden-the_row-FlatStmt-1 acts)) ∙ any-flat_map (flat_concerns kind fx) flat_assignments acts

  fc-If : (cond : FlatExpr) (l r : FlatStmt) → fc (If cond l r) ≡ (fc l || fc r)
  unfolding boxes
  fc-If cond l r = list_any-append (flat_concerns kind fx) (flat_assignments l) (flat_assignments r)

  fc-Default : (l r : FlatStmt) → fc (Default l r) ≡ (fc l || fc r)
  unfolding boxes
  fc-Default l r = list_any-append (flat_concerns kind fx) (flat_assignments l) (flat_assignments r)

  fc-Forall : (var : ℕ) (over : Simple) (body : FlatStmt) → fc (Forall var over body) ≡ fc body
  unfolding boxes
  fc-Forall var over body = refl

module _ (scope : Scope) (kind : Kind) (x : Element) (f : Family) (found : family_at scope.families x.path ≡ Some f) where
  abbrev c : FlatStmt → Bool
  c act = fc kind (flat_element scope x) act

  abbrev p : Assigned → Bool
  p a = concerns kind x a

  abbrev instance : Path
  instance = scope.instance

  fits-each : (vars : Around) (es : List Expr) (vs : List Value) → list_all (λ (i, v). fits i v) (zip (map flat_index (map (flat_expr scope vars) es)) vs) ≡ list_all (λ (i, v). fits i v) (zip (map (index_of vars) es) vs)
  fits-each vars [] vs = refl
  fits-each vars (e ∷ es) [] = refl
  fits-each vars (e ∷ es) (v ∷ vs) = rw (fits-same scope vars e v, fits-each vars es vs) refl

  assign-same : (kinds n m a b : Bool) → n ≡ m → a ≡ b → ((kinds && (n && a)) || false) ≡ ((kinds && (m && b)) || false)
  assign-same kinds n m a b h k = rw (h, k) refl

  turns-same : (act : ℕ → FlatStmt) (as' : ℕ → List Assigned) → ((k : ℕ) → c (act k) ≡ list_any p (as' k)) → (ks : List ℕ) → list_any c (map act ks) ≡ list_any p (flat_map as' ks)
  turns-same act as' h [] = refl
  turns-same act as' h (k ∷ ks) = or-same (c (act k)) (list_any p (as' k)) _ _ (h k) (turns-same act as' h ks) ∙ sym (list_any-append p (as' k) (flat_map as' ks))

  mutual
    pub concerned-same : (vars : Around) (act : Stmt) → c (flat_stmt scope vars act) ≡ list_any p (assignments instance act vars)
    concerned-same vars (Assign which left value at) =
        assign-same (same_kind which kind) _ (same_path (instance ++ fields_of (out-Path left).parts) x.path) _ (list_all (λ (i, v). fits i v) (zip (map (index_of vars) (indexes_of (out-Path left).parts)) x.indexes))
        (number-same scope.families (instance ++ fields_of (out-Path left).parts) x.path f found) (fits-each vars (indexes_of (out-Path left).parts) x.indexes)
    concerned-same vars (Block' shape parts) = fc-Block kind (flat_element scope x) (flat_parts scope vars parts) ∙ parts-same vars parts
    concerned-same vars (If' test l (more_of-Stmt left end_of-Stmt) right at) =
        fc-If kind (flat_element scope x) (flat_expr scope vars test) (flat_stmt scope vars left) (flat_branch scope vars right)
        ∙ or-same _ (list_any p (assignments instance left vars)) _ (list_any p (assignments_held instance right vars)) (concerned-same vars left) (held-same vars right)
        ∙ sym (list_any-append p (assignments instance left vars) (assignments_held instance right vars))
    concerned-same vars (Switch' on shape arms other at) =
        arms-same vars arms (flat_expr scope vars on) (flat_branch scope vars other) (list_any p (assignments_held instance other vars)) (held-same vars other)
        ∙ sym (list_any-append p (assignments_arms instance arms vars) (assignments_held instance other vars))
    concerned-same vars (Default' l (more_of-Stmt left end_of-Stmt) r (more_of-Stmt right end_of-Stmt) at) =
        fc-Default kind (flat_element scope x) (flat_stmt scope vars left) (flat_stmt scope vars right)
        ∙ or-same _ (list_any p (assignments instance left vars)) _ (list_any p (assignments instance right vars)) (concerned-same vars left) (concerned-same vars right)
        ∙ sym (list_any-append p (assignments instance left vars) (assignments instance right vars))
    concerned-same vars (For' var from to closed step shape (more_of-Stmt body end_of-Stmt) at) =
        fc-Block kind (flat_element scope x) (map (λ k. flat_stmt scope ((var.name, loop k) ∷ vars) body) (steps_of from to closed step))
        ∙ turns-same (λ k. flat_stmt scope ((var.name, loop k) ∷ vars) body) (λ k. assignments instance body ((var.name, loop k) ∷ vars)) (λ k. concerned-same ((var.name, loop k) ∷ vars) body) (steps_of from to closed step)
    concerned-same vars (Forall' var over shape (more_of-Stmt body end_of-Stmt) at) =
        fc-Forall kind (flat_element scope x) (bound_in vars) (flat_over scope over) (flat_stmt scope ((var.name, any) ∷ vars) body) ∙ concerned-same ((var.name, any) ∷ vars) body

    parts-same : {m : _} (vars : Around) (parts : Row_of-Stmt m) → list_any c (flat_parts scope vars parts) ≡ list_any p (assignments_of instance parts vars)
    parts-same vars end_of-Stmt = refl
    parts-same vars (more_of-Stmt part rest) =
        or-same _ (list_any p (assignments instance part vars)) _ (list_any p (assignments_of instance rest vars)) (concerned-same vars part) (parts-same vars rest)
        ∙ sym (list_any-append p (assignments instance part vars) (assignments_of instance rest vars))

    held-same : (vars : Around) (branch : Held-Stmt-If-2) → c (flat_branch scope vars branch) ≡ list_any p (assignments_held instance branch vars)
    held-same vars None' = fc-Block kind (flat_element scope x) []
    held-same vars (Some' shape (more_of-Stmt part end_of-Stmt)) = concerned-same vars part

    arms-same : {m : _} (vars : Around) (arms : Row_of-Arm m) (on : FlatExpr) (other : FlatStmt) (o : Bool) → c other ≡ o → c (flat_arms scope vars arms on other) ≡ (list_any p (assignments_arms instance arms vars) || o)
    arms-same vars end_of-Arm on other o h = h
    arms-same vars (more_of-Arm labels body rest) on other o h =
        fc-If kind (flat_element scope x) (Within on (ListOf (map (λ label. One (flat_expr scope vars label)) labels) (first_label labels))) (flat_stmt scope vars body) (flat_arms scope vars rest on other)
        ∙ or-same _ (list_any p (assignments instance body vars)) _ (list_any p (assignments_arms instance rest vars) || o) (concerned-same vars body) (arms-same vars rest on other o h)
        ∙ or-moved (list_any p (assignments instance body vars)) (list_any p (assignments_arms instance rest vars)) o
        ∙ ap (λ b. b || o) (sym (list_any-append p (assignments instance body vars) (assignments_arms instance rest vars)))

-- ---- the text

module _ (text : Text) (wanted : Option Name) (kind : Kind) (x : Element) (f : Family) (found : family_at (design_of text).families x.path ≡ Some f) where
  abbrev layers : List Name
  layers = layers_of (entries text)

  abbrev cf : FlatStmt → Bool
  cf act = fc kind (flat_element (scope_in text []) x) act

  abbrev ct : Said → Bool
  ct act = list_any (concerns kind x) (assignments_in act)

  own_found : family_at (scope_in text []).families x.path ≡ Some f
  own_found = subst (λ fs. family_at fs x.path ≡ Some f) (sym (families-same text)) found

  chosen-same : (b d : Bool) (act : FlatStmt) (acts : List FlatStmt) (y : Said) (ys : List Said) → b ≡ d → cf act ≡ ct y → list_any cf acts ≡ list_any ct ys →
      list_any cf (cond b (act ∷ acts) acts) ≡ list_any ct (cond d (y ∷ ys) ys)
  chosen-same b d act acts y ys e h k = subst (λ g. list_any cf (cond b (act ∷ acts) acts) ≡ list_any ct (cond g (y ∷ ys) ys)) e (by_test b)
    where
      by_test : (b : Bool) → list_any cf (cond b (act ∷ acts) acts) ≡ list_any ct (cond b (y ∷ ys) ys)
      by_test true = or-same (cf act) (ct y) (list_any cf acts) (list_any ct ys) h k
      by_test false = k

  acts-same : (es : List Entry) (ms : List Met) → AreAlike es ms → AreListed layers es →
      list_any cf (acts_of (option_map (layer_number layers) wanted) (flat_map (flat_entry text layers) es)) ≡ list_any ct (filter (λ y. is_layer y.layer wanted) (flat_map said_in ms))
  acts-same [] [] h listed = refl
  acts-same [] (m ∷ ms) h listed = absurd h
  acts-same (layer name ∷ es) ms h listed = acts-same es ms h listed
  acts-same (goal i binders (split word vars of pairs at) ∷ es) ms h listed = acts-same es ms h listed
  acts-same (goal i binders (using uses proves at) ∷ es) ms h listed = acts-same es ms h listed
  acts-same (goal i binders (claim word vars body at) ∷ es) [] h listed = absurd h
  acts-same (goal i binders (claim word vars body at) ∷ es) (said y ∷ ms) h listed = absurd h
  acts-same (goal i binders (claim word vars body at) ∷ es) (claimed d ∷ ms) h listed = acts-same es ms h.4 listed
  acts-same (statement y ∷ es) [] h listed = absurd h
  acts-same (statement y ∷ es) (claimed d ∷ ms) h listed = absurd h
  acts-same (statement y ∷ es) (said z ∷ ms) h listed =
      chosen-same (is_one_layer (option_map (layer_number layers) wanted) (option_map (layer_number layers) y.layer)) (is_layer z.layer wanted)
      (flat_stmt (scope_in text y.instance) [] y.act) (acts_of (option_map (layer_number layers) wanted) (flat_map (flat_entry text layers) es)) z (filter (λ w. is_layer w.layer wanted) (flat_map said_in ms))
      (layer-same layers y.layer wanted listed.0 ∙ ap (λ l. is_layer l wanted) h.0)
      (concerned-same (scope_in text y.instance) kind x f own_found [] y.act ∙ ap (list_any (concerns kind x)) (h.2.1 y.instance [] ∙ ap (λ i. assignments i z.act []) h.1))
      (acts-same es ms h.3 listed.1)

  pub set-concerned : list_any cf (acts_of (option_map (layer_number layers) wanted) (flatten text).items) ≡ is_concerned (design_of text) wanted x kind
  set-concerned =
      ap (list_any cf) (acts-placed (option_map (layer_number layers) wanted) 0 (flat_map (flat_entry text layers) (entries text)))
      ∙ acts-same (entries text) (design_of text).met (entries-alike text) (layers-listed text)
