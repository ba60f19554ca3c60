-- What is found in statements, from their parts.
use Rattle.std.proofs.Common.{◌≡◌, ◌≤◌, ◌<◌, ℕ, ◌+◌, List, ◌∷◌, ◌++◌, length, get_or, take, refl, ap, sym, ◌∙◌, arith, subst, length-append}
use Rattle.std.specs.Prelude.{Option, Result, Ok, Err, IfOk}
use Rattle.std.specs.List.{flat_map}
use Rattle.smv_mentions.specs.Scopes.{first_of_places}
use Rattle.smv_first_fault.specs.Firsts.{least}
use Rattle.smv_core.specs.declared.flat.FlatExpr.{FlatExpr}
use Rattle.smv_core.specs.declared.flat.FlatStmt.{FlatStmt, If, Default, Forall, Block}
use Rattle.smv_core.specs.declared.flat.Simple.{Simple}
use Rattle.law_designs.specs.Standing.{Standing, standing}
use Rattle.law_designs.specs.SingleFaults.{conflicts, cross, later_places, meet}
use Rattle.smv_single_assignment.specs.declared.conflicts.Walked.{Walked}
use Rattle.smv_single_assignment.specs.Held.{among}
use Rattle.smv_single_assignment.specs.Links.{StandsAt, between}
use Rattle.smv_single_assignment.specs.Walks.{IsWalked}
use Rattle.smv_single_assignment.proofs.StandingLaws.{standing-If, standing-Default, standing-Block, standing-Forall, conflicts-If, conflicts-Default, conflicts-Block, conflicts-Forall}
use Rattle.smv_single_assignment.proofs.LinkLaws.{stands-left, stands-right, stands-between, stands-part}
use Rattle.smv_single_assignment.proofs.EarlierLaws.{among-step, end-step, branches-found}

module _ (all : List Standing) where
  -- two branches
  pub two-walked : (clash : Standing → Standing → _) (P : List Standing → Type 0) (start : ℕ) (left right : List ℕ) (xs ys : List Standing) (first second result : Walked) → P xs → P ys → StandsAt all start (xs ++ ys)
      → (StandsAt all start xs → IsWalked start left xs first) → (StandsAt all first.end ys → IsWalked first.end right ys second)
      → (first.end ≤ second.end → second.end ≤ length all → P (between start first.end all) → P (between first.end second.end all) → result.found ≡ first_of_places first.found (first_of_places second.found (least (later_places clash (between start first.end all) (between first.end second.end all)))))
      → result.end ≡ second.end → IsWalked start ((left ++ right) ++ later_places clash xs ys) (xs ++ ys) result
  two-walked clash P start left right xs ys first second result of_xs of_ys stands walk_first walk_second found end =
      let here : StandsAt all start xs = stands-left all start xs ys stands in
      let one : IsWalked start left xs first = walk_first here in
      let there : StandsAt all first.end ys = subst (λ n. StandsAt all n ys) (sym one.end_is) (stands-right all start xs ys stands) in
      let two : IsWalked first.end right ys second = walk_second there in
      let order : first.end ≤ second.end = omega (arith, two.end_is) in
      let within : second.end ≤ length all = omega (arith, two.end_is, there.within) in
      let left_is : between start first.end all ≡ xs = stands-between all start first.end xs here one.end_is in
      let right_is : between first.end second.end all ≡ ys = stands-between all first.end second.end ys there two.end_is in
      record {
        found_is = found order within (subst P (sym left_is) of_xs) (subst P (sym right_is) of_ys) ∙ branches-found all clash start first.end second.end xs ys left right first.found second.found _ left_is right_is one.found_is two.found_is refl;
        end_is = end ∙ omega (arith, two.end_is, one.end_is, length-append {A = Standing} xs ys);
      }

  -- one more part
  module _ {A : Type 0} (inside : A → List ℕ) (assigned : A → List Standing) (start : ℕ) (parts : List A) (stands : StandsAt all start (flat_map assigned parts)) where
    pub part-walked : (i : ℕ) (x : A) (so_far walked result : Walked) (met : Option ℕ) → i < length parts → x ≡ get_or parts i x
        → IsWalked start (among meet inside assigned (take i parts)) (flat_map assigned (take i parts)) so_far
        → (StandsAt all so_far.end (assigned x) → IsWalked so_far.end (inside x) (assigned x) walked)
        → (so_far.end ≤ walked.end → walked.end ≤ length all → met ≡ least (later_places meet (between start so_far.end all) (between so_far.end walked.end all)))
        → result.found ≡ first_of_places so_far.found (first_of_places walked.found met) → result.end ≡ walked.end
        → IsWalked start (among meet inside assigned (take (i + 1) parts)) (flat_map assigned (take (i + 1) parts)) result
    part-walked i x so_far walked result met lt here known walk met_is found end =
        let there : StandsAt all so_far.end (assigned x) = subst (λ n. StandsAt all n (assigned x)) (sym known.end_is) (stands-part all assigned start parts i x stands lt here) in
        let one : IsWalked so_far.end (inside x) (assigned x) walked = walk there in
        let order : so_far.end ≤ walked.end = omega (arith, one.end_is) in
        let within : walked.end ≤ length all = omega (arith, one.end_is, there.within) in
        record {
          found_is = among-step all inside assigned start parts stands i so_far.end walked.end x so_far.found walked.found met result.found lt here known.end_is one.end_is known.found_is one.found_is (met_is order within) found;
          end_is = end ∙ end-step all inside assigned start parts stands i so_far.end walked.end x lt here known.end_is one.end_is;
        }

-- ---- the same of whole statements

module _ (layer : Option ℕ) (around : List ℕ) (start : ℕ) (walked : Walked) where
  abbrev pub Tells : FlatStmt → Type 0
  Tells x = IsWalked start (conflicts layer around x) (standing layer around x) walked

  pub tells-If : (cond : FlatExpr) (l r : FlatStmt) → IsWalked start ((conflicts layer around l ++ conflicts layer around r) ++ later_places (cross around) (standing layer around l) (standing layer around r)) (standing layer around l ++ standing layer around r) walked → Tells (If cond l r)
  tells-If cond l r told = record {
    found_is = told.found_is ∙ sym (ap least (conflicts-If layer around cond l r));
    end_is = told.end_is ∙ sym (ap (λ xs. start + length xs) (standing-If layer around cond l r));
  }

  pub tells-Default : (l r : FlatStmt) → IsWalked start ((conflicts layer around l ++ conflicts layer around r) ++ later_places (cross around) (standing layer around l) (standing layer around r)) (standing layer around l ++ standing layer around r) walked → Tells (Default l r)
  tells-Default l r told = record {
    found_is = told.found_is ∙ sym (ap least (conflicts-Default layer around l r));
    end_is = told.end_is ∙ sym (ap (λ xs. start + length xs) (standing-Default layer around l r));
  }

  pub tells-Block : (parts : List FlatStmt) → IsWalked start (among meet (conflicts layer around) (standing layer around) parts) (flat_map (standing layer around) parts) walked → Tells (Block parts)
  tells-Block parts told = record {
    found_is = told.found_is ∙ sym (ap least (conflicts-Block layer around parts));
    end_is = told.end_is ∙ sym (ap (λ xs. start + length xs) (standing-Block layer around parts));
  }

  pub tells-Forall : (var : ℕ) (over : Simple) (body : FlatStmt) → IsWalked start (conflicts layer (var ∷ around) body) (standing layer (var ∷ around) body) walked → Tells (Forall var over body)
  tells-Forall var over body told = record {
    found_is = told.found_is ∙ sym (ap least (conflicts-Forall layer around var over body));
    end_is = told.end_is ∙ sym (ap (λ xs. start + length xs) (standing-Forall layer around var over body));
  }

on-ok : {E : Type 0} (P Q : Walked → Type 0) (r : Result Walked E) → ((w : Walked) → P w → Q w) → IfOk r P → IfOk r Q
on-ok P Q (Ok w) f h = f w h
on-ok P Q (Err e) f h = h

module _ (all : List Standing) (layer : Option ℕ) (around : List ℕ) (start : ℕ) where
  abbrev says : FlatStmt → List Standing
  says = standing layer around

  abbrev inside : FlatStmt → List ℕ
  inside = conflicts layer around

  abbrev Both : FlatStmt → FlatStmt → Walked → Type 0
  Both l r w = StandsAt all start (says l ++ says r) → IsWalked start ((inside l ++ inside r) ++ later_places (cross around) (says l) (says r)) (says l ++ says r) w

  pub of-If : (w : Walked) (x l r one other : FlatStmt) (cond : FlatExpr) → x ≡ If cond one other → l ≡ one → r ≡ other → Both l r w → StandsAt all start (says x) → IsWalked start (inside x) (says x) w
  of-If w x l r one other cond is first second walk stands =
      let whole : x ≡ If cond l r = is ∙ ap (λ y. If cond y other) (sym first) ∙ ap (λ y. If cond l y) (sym second) in
      subst (Tells layer around start w) (sym whole) (tells-If layer around start w cond l r (walk (subst (StandsAt all start) (ap says whole ∙ standing-If layer around cond l r) stands)))

  pub of-Default : (w : Walked) (x l r one other : FlatStmt) → x ≡ Default one other → l ≡ one → r ≡ other → Both l r w → StandsAt all start (says x) → IsWalked start (inside x) (says x) w
  of-Default w x l r one other is first second walk stands =
      let whole : x ≡ Default l r = is ∙ ap (λ y. Default y other) (sym first) ∙ ap (λ y. Default l y) (sym second) in
      subst (Tells layer around start w) (sym whole) (tells-Default layer around start w l r (walk (subst (StandsAt all start) (ap says whole ∙ standing-Default layer around l r) stands)))

  pub of-Block : {E : Type 0} (result : Result Walked E) (x : FlatStmt) (given parts : List FlatStmt) → x ≡ Block parts → given ≡ parts
      → (StandsAt all start (flat_map says given) → IfOk result (IsWalked start (among meet inside says given) (flat_map says given))) → StandsAt all start (says x) → IfOk result (IsWalked start (inside x) (says x))
  of-Block result x given parts is same walk stands =
      let whole : x ≡ Block given = is ∙ ap (λ l. Block l) (sym same) in
      on-ok (IsWalked start (among meet inside says given) (flat_map says given)) (IsWalked start (inside x) (says x)) result (λ w told. subst (Tells layer around start w) (sym whole) (tells-Block layer around start w given told))
      (walk (subst (StandsAt all start) (ap says whole ∙ standing-Block layer around given) stands))

  pub of-Forall : {E : Type 0} (result : Result Walked E) (x l body : FlatStmt) (var : ℕ) (over : Simple) (inner : List ℕ) → x ≡ Forall var over body → l ≡ body → inner ≡ var ∷ around
      → (StandsAt all start (standing layer inner l) → IfOk result (IsWalked start (conflicts layer inner l) (standing layer inner l))) → StandsAt all start (says x) → IfOk result (IsWalked start (inside x) (says x))
  of-Forall result x l body var over inner is same vars walk stands =
      let whole : x ≡ Forall var over l = is ∙ ap (λ y. Forall var over y) (sym same) in
      let walk_in : StandsAt all start (standing layer (var ∷ around) l) → IfOk result (IsWalked start (conflicts layer (var ∷ around) l) (standing layer (var ∷ around) l)) =
      subst (λ vs. StandsAt all start (standing layer vs l) → IfOk result (IsWalked start (conflicts layer vs l) (standing layer vs l))) vars walk in
      on-ok (IsWalked start (conflicts layer (var ∷ around) l) (standing layer (var ∷ around) l)) (IsWalked start (inside x) (says x)) result (λ w told. subst (Tells layer around start w) (sym whole) (tells-Forall layer around start w var over l told))
      (walk_in (subst (StandsAt all start) (ap says whole ∙ standing-Forall layer around var over l) stands))
