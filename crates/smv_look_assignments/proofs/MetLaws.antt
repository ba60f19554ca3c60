-- What is met in statements, by their forms.
use Rattle.std.proofs.Common.{◌≡◌, ◌∙◌, ℕ, ◌+◌, ◌<◌, ◌≤◌, List, [], ◌∷◌, ◌++◌, map, length, get_or, drop, refl, sym, ap}
use Rattle.std.specs.Prelude.{Option}
use Rattle.std.specs.List.{flat_map}
use Rattle.std.proofs.lemmas.List.{append_assoc}
use Rattle.std.proofs.lemmas.List.Folds.{flat_map-map}
use Rattle.smv_core.specs.declared.tree.Kind.{Kind}
use Rattle.smv_core.specs.declared.flat.Simple.{Simple}
use Rattle.smv_core.specs.declared.flat.FlatExpr.{FlatExpr}
use Rattle.smv_core.specs.declared.flat.FlatStmt.{FlatStmt, Assign, If, Default, Forall, Block, Block', Row_of-FlatStmt, end_of-FlatStmt, more_of-FlatStmt, items-the_row-FlatStmt, items_hidden-the_row-FlatStmt-1}
use Rattle.smv_core.specs.declared.flat.FlatItem.{FlatItem}
use Rattle.smv_core.specs.declared.flat.FlatText.{FlatText}
use mathlib.Core.Former.{Count}
use Rattle.law_lists.proofs.Places.{drop_past, drop_read_one}
use Rattle.smv_mentions.specs.Scopes.{first_of_places}
use Rattle.smv_first_fault.specs.Firsts.{least}
use Rattle.smv_first_fault.proofs.LeastLaws.{first-assoc, first-none, least-append, least-step}
use Rattle.smv_single_assignment.specs.Held.{assigned_of}
use Rattle.law_designs.specs.Standing.{Standing, standing}
use Rattle.law_designs.specs.SingleFaults.{are_mixed, assigned_in, cross, meet}
use Rattle.smv_single_assignment.proofs.Computing.{computing}
use Rattle.smv_single_assignment.proofs.StandingLaws.{items-assigned}
use Rattle.smv_look_assignments.specs.Assignments.{clashing, item_met, met, met_by, met_in, mixed_with}
use Rattle.smv_look_assignments.specs.Walks.{along, parts_met}

abbrev stmts_of : FlatStmt → (k : Count) × Row_of-FlatStmt k
stmts_of (Block' shape row) = (_, row)
stmts_of _ = (_, end_of-FlatStmt)

-- the first of three lists of places
three : (xs ys zs : List ℕ) (first second between both found : Option ℕ) → first ≡ least xs → second ≡ least ys → between ≡ least zs → both ≡ first_of_places second between → found ≡ first_of_places first both →
    found ≡ least (xs ++ ys ++ zs)
three xs ys zs first second between both found p q r f e =
    e ∙ ap (λ o. first_of_places o both) p
    ∙ ap (first_of_places (least xs)) (f ∙ ap (λ o. first_of_places o between) q ∙ ap (first_of_places (least ys)) r ∙ sym (least-append ys zs)) ∙ sym (least-append xs (ys ++ zs)) ∙ ap least (sym (append_assoc xs ys zs))

-- and of two
pub two : (xs ys : List ℕ) (first second both : Option ℕ) → first ≡ least xs → second ≡ least ys → both ≡ first_of_places first second → both ≡ least (xs ++ ys)
two xs ys first second both p q e = e ∙ ap (λ o. first_of_places o second) p ∙ ap (first_of_places (least xs)) q ∙ sym (least-append xs ys)

-- one member more of a list that is read by a map
pub step_over : {A B : Type 0} (f : B → List ℕ) (t : A → B) (xs : List A) (i : ℕ) (x : A) (found here new whole : Option ℕ) → i < length xs → x ≡ get_or xs i x → here ≡ least (f (t x)) → new ≡ first_of_places found here →
    first_of_places found (least (flat_map f (map t (drop i xs)))) ≡ whole → first_of_places new (least (flat_map f (map t (drop (i + 1) xs)))) ≡ whole
step_over f t xs i x found here new whole below is-there at is known =
    ap (λ l. first_of_places new (least l)) (flat_map-map f t (drop (i + 1) xs))
    ∙ least-step (λ x. f (t x)) xs i x found here new whole below is-there at is (ap (λ l. first_of_places found (least l)) (sym (flat_map-map f t (drop i xs))) ∙ known)

-- one member more of a list
module _ {A : Type 0} (places : List Standing → A → List ℕ) (assigned : A → List Standing) where
  pub along-step : (xs : List A) (i : ℕ) (x : A) (before' before longer : List Standing) (found met' new whole : Option ℕ) → i < length xs → x ≡ get_or xs i x → before' ≡ before →
      met' ≡ least (places before' x) → new ≡ first_of_places found met' → longer ≡ before ++ assigned x →
      first_of_places found (least (along places assigned before (drop i xs))) ≡ whole → first_of_places new (least (along places assigned longer (drop (i + 1) xs))) ≡ whole
  along-step xs i x before' before longer found met' new whole below here same at is more known =
      ap (λ o. first_of_places o (least (along places assigned longer (drop (i + 1) xs)))) (is ∙ ap (first_of_places found) (at ∙ ap (λ l. least (places l x)) same))
      ∙ ap (λ l. first_of_places (first_of_places found (least (places before x))) (least (along places assigned l (drop (i + 1) xs)))) more
      ∙ first-assoc found (least (places before x)) (least (along places assigned (before ++ assigned x) (drop (i + 1) xs)))
      ∙ ap (first_of_places found) (sym (least-append (places before x) (along places assigned (before ++ assigned x) (drop (i + 1) xs)))
      ∙ ap (λ l. least (along places assigned before l)) (sym (drop_read_one xs i x below here))) ∙ known

  pub along-end : (xs : List A) (i : ℕ) (before : List Standing) (found whole : Option ℕ) → length xs ≤ i → first_of_places found (least (along places assigned before (drop i xs))) ≡ whole → found ≡ whole
  along-end xs i before found whole past known = sym (first-none found) ∙ ap (λ l. first_of_places found (least (along places assigned before l))) (sym (drop_past xs i past)) ∙ known

-- those along items are what is met by them
pub by-items : (at : ℕ) (before : List Standing) (items : List FlatItem) → along (item_met at) assigned_of before items ≡ met_by at before items
by-items at before [] = refl
by-items at before (x ∷ items) = ap (λ l. item_met at before x ++ l) (by-items at (before ++ assigned_of x) items)

-- those beside one of the other sort, of the assignments of all items
pub all_mixed : (at : ℕ) (flat_text : FlatText) (earlier later : List Standing) (found : Option ℕ) → earlier ≡ flat_map assigned_of flat_text.items → later ≡ flat_map assigned_of flat_text.items →
    found ≡ least (clashing at are_mixed earlier later) → found ≡ least (mixed_with at flat_text)
all_mixed at flat_text earlier later found first second is =
    is ∙ ap (λ l. least (clashing at are_mixed l later)) (first ∙ sym (items-assigned 0 flat_text.items))
    ∙ ap (λ l. least (clashing at are_mixed (assigned_in flat_text) l)) (second ∙ sym (items-assigned 0 flat_text.items))

module _ (at : ℕ) (layer : Option ℕ) (around : List ℕ) where
  -- two branches, each got twice
  branched : (one other l r l' r' : FlatStmt) → l ≡ one → r ≡ other → l' ≡ one → r' ≡ other →
      met at layer around l ++ met at layer around r ++ clashing at (cross around) (standing layer around l') (standing layer around r')
      ≡ met at layer around one ++ met at layer around other ++ clashing at (cross around) (standing layer around one) (standing layer around other)
  branched one other l r l' r' e f e' f' =
      ap (λ s. met at layer around s ++ met at layer around r ++ clashing at (cross around) (standing layer around l') (standing layer around r')) e
      ∙ ap (λ s. met at layer around one ++ met at layer around s ++ clashing at (cross around) (standing layer around l') (standing layer around r')) f
      ∙ ap (λ s. met at layer around one ++ met at layer around other ++ clashing at (cross around) (standing layer around s) (standing layer around r')) e'
      ∙ ap (λ s. met at layer around one ++ met at layer around other ++ clashing at (cross around) (standing layer around one) (standing layer around s)) f'

  met-row : (k : _) (before : List Standing) (row : Row_of-FlatStmt k) → met_in at layer around before row ≡ parts_met at layer around before (items-the_row-FlatStmt k row)
  met-row k before end_of-FlatStmt = refl
  met-row k before (more_of-FlatStmt part rest) =
      ap (λ l. (met at layer around part ++ clashing at meet before (standing layer around part)) ++ l) (met-row _ (before ++ standing layer around part) rest)

  pub met-Assign : (kind : Kind) (family : ℕ) (left : List FlatExpr) (value : FlatExpr) (here : ℕ) → met at layer around (Assign kind family left value here) ≡ []
  met-Assign kind family left value here = refl

  pub met-If : (cond : FlatExpr) (l r : FlatStmt) → met at layer around (If cond l r) ≡ met at layer around l ++ met at layer around r ++ clashing at (cross around) (standing layer around l) (standing layer around r)
  unfolding computing
  met-If cond l r = refl

  pub met-Default : (l r : FlatStmt) → met at layer around (Default l r) ≡ met at layer around l ++ met at layer around r ++ clashing at (cross around) (standing layer around l) (standing layer around r)
  unfolding computing
  met-Default l r = refl

  pub met-Block : (parts : List FlatStmt) → met at layer around (Block parts) ≡ parts_met at layer around [] parts
  met-Block parts =
      let row : (k : Count) × Row_of-FlatStmt k = stmts_of (Block parts) in
      met-row row.0 [] row.1 ∙ ap (parts_met at layer around []) (items_hidden-the_row-FlatStmt-1 parts)

  pub met-Forall : (var : ℕ) (over : Simple) (body : FlatStmt) → met at layer around (Forall var over body) ≡ met at layer (var ∷ around) body
  unfolding computing
  met-Forall var over body = refl

  -- ---- the first of them

  module _ (x : FlatStmt) where
    -- in two branches and between them, each got twice
    pub of-If : (cond : FlatExpr) (one other l r l' r' : FlatStmt) (first second between both found : Option ℕ) → x ≡ If cond one other → l ≡ one → r ≡ other → l' ≡ one → r' ≡ other →
        first ≡ least (met at layer around l) → second ≡ least (met at layer around r) → between ≡ least (clashing at (cross around) (standing layer around l') (standing layer around r')) →
        both ≡ first_of_places second between → found ≡ first_of_places first both → found ≡ least (met at layer around x)
    of-If cond one other l r l' r' first second between both found is e f e' f' p q s t u =
        three (met at layer around l) (met at layer around r) (clashing at (cross around) (standing layer around l') (standing layer around r')) first second between both found p q s t u
        ∙ ap least (branched one other l r l' r' e f e' f' ∙ sym (met-If cond one other) ∙ sym (ap (met at layer around) is))

    pub of-Default : (one other l r l' r' : FlatStmt) (first second between both found : Option ℕ) → x ≡ Default one other → l ≡ one → r ≡ other → l' ≡ one → r' ≡ other →
        first ≡ least (met at layer around l) → second ≡ least (met at layer around r) → between ≡ least (clashing at (cross around) (standing layer around l') (standing layer around r')) →
        both ≡ first_of_places second between → found ≡ first_of_places first both → found ≡ least (met at layer around x)
    of-Default one other l r l' r' first second between both found is e f e' f' p q s t u =
        three (met at layer around l) (met at layer around r) (clashing at (cross around) (standing layer around l') (standing layer around r')) first second between both found p q s t u
        ∙ ap least (branched one other l r l' r' e f e' f' ∙ sym (met-Default one other) ∙ sym (ap (met at layer around) is))

    pub of-Block : (parts given : List FlatStmt) → x ≡ Block parts → given ≡ parts → parts_met at layer around [] given ≡ met at layer around x
    of-Block parts given is same = ap (parts_met at layer around []) same ∙ sym (met-Block parts) ∙ sym (ap (met at layer around) is)

    pub of-Forall : (var : ℕ) (over : Simple) (body l : FlatStmt) (inner : List ℕ) → x ≡ Forall var over body → l ≡ body → inner ≡ var ∷ around → met at layer inner l ≡ met at layer around x
    of-Forall var over body l inner is same vars = ap (met at layer inner) same ∙ ap (λ vs. met at layer vs body) vars ∙ sym (met-Forall var over body) ∙ sym (ap (met at layer around) is)
