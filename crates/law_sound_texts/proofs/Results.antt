-- What a definition gives an element by those assignments alone that may be the element's: the same in states that agree on what these read, never
-- empty, and within what the definition gives.
use Rattle.std.proofs.Common.{◌≡◌, ℕ, List, [], ◌∷◌, ◌++◌, map, filter, zip, Bool, true, false, cond, refl, sym, ap, subst, ◌∙◌, ◌⊎◌, inl, inr, Option, Some, None, option_map, unwrap_or}
use Rattle.std.specs.List.{flat_map, list_any, list_all}
use Rattle.std.specs.Option.{is_none}
use Rattle.std.proofs.Math.Path.{fun_ext}
use Rattle.law_lists.proofs.Options.{some_is}
use Rattle.smv_core.specs.Values.{Value, Outcome, Truth, truth, is_in, value_in, all_defined}
use Rattle.smv_core.specs.Outcome.{branch, fit}
use Rattle.smv_core.specs.Walk as walk
use Rattle.smv_core.specs.Walk.{Walk, if_walk, unless_nothing, is_other}
use Rattle.smv_core.specs.Assignments.{Index, fits}
use Rattle.smv_core.specs.FlatMeaning.{Numbered, FlatState, FlatBindings, FlatElement, bind, values_in, flat_index, flat_outcome, flat_members, flat_meets, flat_allowed_by, flat_assigned, flat_result, flat_results}
use Rattle.smv_core.specs.declared.flat.FlatExpr.{FlatExpr, List', Each', Choose', end_of-FlatExpr, more_of-FlatExpr}
use Rattle.smv_core.specs.declared.flat.DefBody.{DefBody, Nothing, Assign, If', First', Forall', Row_of-DefBody, end_of-DefBody, more_of-DefBody}
use Rattle.law_obligations.specs.Sets.{Has, first, later}
use Rattle.law_obligations.proofs.Members.{Has-left, Has-right, Has-cases}
use Rattle.law_obligations.proofs.Same.{Has-is_in}
use Rattle.law_designs.specs.Reading.{Reference, references, Reading, readings, readings_of}
use Rattle.law_designs.proofs.FlatParts.{if_walk-none}
use Rattle.law_flat_kinds.proofs.Lists.{some_or_none}
use Rattle.law_sound_texts.proofs.Agreeing.{is_plain, index_plain, misfits, AgreeAt, at_left, at_right, same_outcome, same_allowed, same_left}

-- ---- lists of results

first_nones : (F : Value → Walk) → ((v : Value) → F v ≡ None) → (vs : List Value) → walk.first (map F vs) ≡ None
first_nones F h [] = refl
first_nones F h (v ∷ vs) = rw (h v) (first_nones F h vs)

-- ---- the results of some assignments

-- those that pass a test alone
module _ (keep : List Index → Bool) (n : Numbered) (s : FlatState) (x : FlatElement) (every : List Value) where
  abbrev mutual
    pub result_by : DefBody → FlatBindings → Walk
    result_by Nothing b = None
    result_by (Assign left value place at) b = cond (keep (map flat_index left)) (flat_assigned n s x every (map (λ e. flat_outcome n s e b) left) value b) None
    result_by (If' test l (more_of-DefBody left end_of-DefBody) r (more_of-DefBody right end_of-DefBody)) b = if_walk every (truth (flat_outcome n s test b)) (result_by left b) (result_by right b)
    result_by (First' shape parts) b = results_by parts b
    result_by (Forall' var over shape (more_of-DefBody body end_of-DefBody)) b = walk.first (map (λ v. result_by body (bind b var v)) (values_in n over))

    pub results_by : {m : _} → Row_of-DefBody m → FlatBindings → Walk
    results_by end_of-DefBody b = None
    results_by (more_of-DefBody part rest) b = walk.first_of (result_by part b) (results_by rest b)

-- all assignments
mutual
  pub all_result : (n : Numbered) (s : FlatState) (x : FlatElement) (every : List Value) (def : DefBody) (b : FlatBindings) → result_by (λ is. true) n s x every def b ≡ flat_result n s x every def b
  all_result n s x every Nothing b = refl
  all_result n s x every (Assign left value place at) b = refl
  all_result n s x every (If' test l (more_of-DefBody left end_of-DefBody) r (more_of-DefBody right end_of-DefBody)) b =
      ap (λ w. if_walk every (truth (flat_outcome n s test b)) w (result_by (λ is. true) n s x every right b)) (all_result n s x every left b) ∙
      ap (λ w. if_walk every (truth (flat_outcome n s test b)) (flat_result n s x every left b) w) (all_result n s x every right b)
  all_result n s x every (First' shape parts) b = all_results n s x every parts b
  all_result n s x every (Forall' var over shape (more_of-DefBody body end_of-DefBody)) b =
      ap (λ (F : Value → Walk). walk.first (map F (values_in n over))) (fun_ext (λ v. all_result n s x every body (bind b var v)))

  all_results : {m : _} (n : Numbered) (s : FlatState) (x : FlatElement) (every : List Value) (parts : Row_of-DefBody m) (b : FlatBindings) → results_by (λ is. true) n s x every parts b ≡ flat_results n s x every parts b
  all_results n s x every end_of-DefBody b = refl
  all_results n s x every (more_of-DefBody part rest) b =
      ap (λ w. walk.first_of w (results_by (λ is. true) n s x every rest b)) (all_result n s x every part b) ∙
      ap (λ w. walk.first_of (flat_result n s x every part b) w) (all_results n s x every rest b)

-- ---- what a reading says

-- it is of the family, its constant indexes are numbers, and it reads what is read around it
pub record IsReading (family : ℕ) (around : List Reference) (a : Reading) : Type 0 where
  pub is_of : a.family ≡ family
  pub are_plain : list_all is_plain a.left ≡ true
  pub reads_around : (r : Reference) → Has around r → Has a.reads r

all_plain : (left : List FlatExpr) → list_all is_plain (map flat_index left) ≡ true
all_plain [] = refl
all_plain (e ∷ left) = rw (index_plain e) (all_plain left)

module _ (family : ℕ) where
  less : (around more : List Reference) (a : Reading) → IsReading family (around ++ more) a → IsReading family around a
  less around more a h = record { is_of = h.is_of; are_plain = h.are_plain; reads_around = λ r k. h.reads_around r (Has-left more k) }

  mutual
    pub reading_is : (around : List Reference) (def : DefBody) (a : Reading) → Has (readings family around def) a → IsReading family around a
    reading_is around Nothing a h = elim h [ ]
    reading_is around (Assign left value place at) a h = at_one a h
      where
        at_one : (a : Reading) → Has (readings family around (Assign left value place at)) a → IsReading family around a
        at_one _ first = record { is_of = refl; are_plain = all_plain left; reads_around = λ r k. Has-left (references value) (Has-left (flat_map references left) k) }
        at_one a (later h) = elim h [ ]
    reading_is around (If' test l (more_of-DefBody left end_of-DefBody) r (more_of-DefBody right end_of-DefBody)) a h =
        elim (Has-cases (readings family (around ++ references test) left) (readings family (around ++ references test) right) h) [
          | inl k ↦ less around (references test) a (reading_is (around ++ references test) left a k)
          | inr k ↦ less around (references test) a (reading_is (around ++ references test) right a k)
        ]
    reading_is around (First' shape parts) a h = readings_are around parts a h
    reading_is around (Forall' var over shape (more_of-DefBody body end_of-DefBody)) a h = reading_is around body a h

    readings_are : {m : _} (around : List Reference) (parts : Row_of-DefBody m) (a : Reading) → Has (readings_of family around parts) a → IsReading family around a
    readings_are around end_of-DefBody a h = elim h [ ]
    readings_are around (more_of-DefBody part rest) a h =
        elim (Has-cases (readings family around part) (readings_of family around rest) h) [ inl k ↦ reading_is around part a k | inr k ↦ readings_are around rest a k ]

-- ---- states that agree

module _ (keep : List Index → Bool) (n : Numbered) (x : FlatElement) (every : List Value) (family : ℕ) where
  abbrev kept : Reading → Bool
  kept a = keep a.left

  -- the assignments of two branches
  abbrev both : List Reference → DefBody → DefBody → List Reading
  both around left right = readings family around left ++ readings family around right

  module _ (s : FlatState) where
    mutual
      nothing_kept : (around : List Reference) (def : DefBody) (b : FlatBindings) → ((a : Reading) → Has (readings family around def) a → kept a ≡ false) → result_by keep n s x every def b ≡ None
      nothing_kept around Nothing b h = refl
      nothing_kept around (Assign left value place at) b h = ap (λ c. cond c (flat_assigned n s x every (map (λ e. flat_outcome n s e b) left) value b) None) (h _ first)
      nothing_kept around (If' test l (more_of-DefBody left end_of-DefBody) r (more_of-DefBody right end_of-DefBody)) b h =
          let p : result_by keep n s x every left b ≡ None = nothing_kept (around ++ references test) left b (λ a k. h a (Has-left (readings family (around ++ references test) right) k)) in
          let q : result_by keep n s x every right b ≡ None = nothing_kept (around ++ references test) right b (λ a k. h a (Has-right (readings family (around ++ references test) left) k)) in
          ap (λ w. if_walk every (truth (flat_outcome n s test b)) w (result_by keep n s x every right b)) p ∙
          (ap (λ w. if_walk every (truth (flat_outcome n s test b)) None w) q ∙ if_walk-none every (truth (flat_outcome n s test b)))
      nothing_kept around (First' shape parts) b h = none_kept around parts b h
      nothing_kept around (Forall' var over shape (more_of-DefBody body end_of-DefBody)) b h =
          first_nones (λ v. result_by keep n s x every body (bind b var v)) (λ v. nothing_kept around body (bind b var v) h) (values_in n over)

      none_kept : {m : _} (around : List Reference) (parts : Row_of-DefBody m) (b : FlatBindings) → ((a : Reading) → Has (readings_of family around parts) a → kept a ≡ false) → results_by keep n s x every parts b ≡ None
      none_kept around end_of-DefBody b h = refl
      none_kept around (more_of-DefBody part rest) b h =
          ap (λ w. walk.first_of w (results_by keep n s x every rest b)) (nothing_kept around part b (λ a k. h a (Has-left (readings_of family around rest) k))) ∙
          none_kept around rest b (λ a k. h a (Has-right (readings family around part) k))

  module _ (s t : FlatState) where
    -- they agree on what those of these assignments that pass the test read
    abbrev pub AgreeWhere : List Reading → Type 0
    AgreeWhere as' = (a : Reading) → Has as' a → keep a.left ≡ true → AgreeAt n s t a.reads

    where_left : (as' bs : List Reading) → AgreeWhere (as' ++ bs) → AgreeWhere as'
    where_left as' bs h a k = h a (Has-left bs k)

    where_right : (as' bs : List Reading) → AgreeWhere (as' ++ bs) → AgreeWhere bs
    where_right as' bs h a k = h a (Has-right as' k)

    same_assigned : (left : List FlatExpr) (value : FlatExpr) (b : FlatBindings) → AgreeAt n s t (flat_map references left) → AgreeAt n s t (references value) →
        flat_assigned n s x every (map (λ e. flat_outcome n s e b) left) value b ≡ flat_assigned n t x every (map (λ e. flat_outcome n t e b) left) value b
    same_assigned left value b a c =
        ap (λ us. flat_assigned n s x every us value b) (same_left n s t left b a) ∙
        ap (λ vs. cond (list_any (λ (u, v). is_other u v) (zip (map (λ e. flat_outcome n t e b) left) x.indexes)) None (cond (list_any is_none (map (λ e. flat_outcome n t e b) left)) (Some every) (Some vs)))
        (same_allowed n s t every value b c)

    same_if : (test : FlatExpr) (around : List Reference) (left right : DefBody) (b : FlatBindings) → AgreeWhere (readings family (around ++ references test) left ++ readings family (around ++ references test) right) →
        result_by keep n s x every left b ≡ result_by keep n t x every left b → result_by keep n s x every right b ≡ result_by keep n t x every right b →
        if_walk every (truth (flat_outcome n s test b)) (result_by keep n s x every left b) (result_by keep n s x every right b) ≡ if_walk every (truth (flat_outcome n t test b)) (result_by keep n t x every left b) (result_by keep n t x every right b)
    same_if test around left right b h p q =
        ap (λ w. if_walk every (truth (flat_outcome n s test b)) w (result_by keep n s x every right b)) p ∙
        (ap (λ w. if_walk every (truth (flat_outcome n s test b)) (result_by keep n t x every left b) w) q ∙
        by_kept (some_or_none kept (both (around ++ references test) left right)))
      where
        reads_test : (a : Reading) → Has (both (around ++ references test) left right) a → (r : Reference) → Has (references test) r → Has a.reads r
        reads_test a k r m = elim (Has-cases (readings family (around ++ references test) left) (readings family (around ++ references test) right) k) [
          | inl i ↦ (reading_is family (around ++ references test) left a i).reads_around r (Has-right around m)
          | inr i ↦ (reading_is family (around ++ references test) right a i).reads_around r (Has-right around m)
        ]

        by_kept : ((a : Reading) × Has (both (around ++ references test) left right) a × (kept a ≡ true)) ⊎ ((a : Reading) → Has (both (around ++ references test) left right) a → kept a ≡ false) →
            if_walk every (truth (flat_outcome n s test b)) (result_by keep n t x every left b) (result_by keep n t x every right b) ≡ if_walk every (truth (flat_outcome n t test b)) (result_by keep n t x every left b) (result_by keep n t x every right b)
        by_kept (inl (a, k, e)) =
            ap (λ u. if_walk every (truth u) (result_by keep n t x every left b) (result_by keep n t x every right b)) (same_outcome n s t test b (λ r m. h a k e r (reads_test a k r m)))
        by_kept (inr none) =
            let no_left : result_by keep n t x every left b ≡ None = nothing_kept t (around ++ references test) left b (λ a k. none a (Has-left (readings family (around ++ references test) right) k)) in
            let no_right : result_by keep n t x every right b ≡ None = nothing_kept t (around ++ references test) right b (λ a k. none a (Has-right (readings family (around ++ references test) left) k)) in
            of_nothing (result_by keep n t x every left b) (result_by keep n t x every right b) no_left no_right
          where
            of_nothing : (v w : Walk) → v ≡ None → w ≡ None → if_walk every (truth (flat_outcome n s test b)) v w ≡ if_walk every (truth (flat_outcome n t test b)) v w
            of_nothing v w e f = rw (e, f) (if_walk-none every (truth (flat_outcome n s test b)) ∙ sym (if_walk-none every (truth (flat_outcome n t test b))))

    mutual
      pub same_result : (around : List Reference) (def : DefBody) (b : FlatBindings) → AgreeWhere (readings family around def) → result_by keep n s x every def b ≡ result_by keep n t x every def b
      same_result around Nothing b h = refl
      same_result around (Assign left value place at) b h = by_test (keep (map flat_index left)) refl
        where
          by_test : (c : Bool) → keep (map flat_index left) ≡ c →
              cond c (flat_assigned n s x every (map (λ e. flat_outcome n s e b) left) value b) None ≡ cond c (flat_assigned n t x every (map (λ e. flat_outcome n t e b) left) value b) None
          by_test true e = same_assigned left value b (at_right n s t around (flat_map references left) (at_left n s t (around ++ flat_map references left) (references value) (h _ first e)))
              (at_right n s t (around ++ flat_map references left) (references value) (h _ first e))
          by_test false e = refl
      same_result around (If' test l (more_of-DefBody left end_of-DefBody) r (more_of-DefBody right end_of-DefBody)) b h =
          same_if test around left right b h
          (same_result (around ++ references test) left b (where_left (readings family (around ++ references test) left) (readings family (around ++ references test) right) h))
          (same_result (around ++ references test) right b (where_right (readings family (around ++ references test) left) (readings family (around ++ references test) right) h))
      same_result around (First' shape parts) b h = same_results around parts b h
      same_result around (Forall' var over shape (more_of-DefBody body end_of-DefBody)) b h =
          ap (λ (F : Value → Walk). walk.first (map F (values_in n over))) (fun_ext (λ v. same_result around body (bind b var v) h))

      same_results : {m : _} (around : List Reference) (parts : Row_of-DefBody m) (b : FlatBindings) → AgreeWhere (readings_of family around parts) → results_by keep n s x every parts b ≡ results_by keep n t x every parts b
      same_results around end_of-DefBody b h = refl
      same_results around (more_of-DefBody part rest) b h =
          ap (λ w. walk.first_of w (results_by keep n s x every rest b)) (same_result around part b (where_left (readings family around part) (readings_of family around rest) h)) ∙
          ap (λ w. walk.first_of (result_by keep n t x every part b) w) (same_results around rest b (where_right (readings family around part) (readings_of family around rest) h))

-- ---- results are not empty

-- some of these values, at least one
abbrev pub AreSome : List Value → List Value → Type 0
AreSome every vs = ((v : Value) × Has vs v) × ((v : Value) → Has vs v → Has every v)

abbrev pub IsSome : List Value → Walk → Type 0
IsSome every None = Unit {0}
IsSome every (Some vs) = AreSome every vs

module _ (every : List Value) (one : (v : Value) × Has every v) where
  pub all_some : AreSome every every
  all_some = (one, λ v h. h)

  pub some_or_every : (w : Walk) → IsSome every w → AreSome every (unwrap_or w every)
  some_or_every None h = all_some
  some_or_every (Some vs) h = h

  defined_within : (us : List Outcome) (vs : List Value) → all_defined (map (value_in every) us) ≡ Some vs → (v : Value) → Has vs v → Has every v
  defined_within [] vs e v h = elim (subst (λ l. Has l v) (sym (some_is e)) h) [ ]
  defined_within (None ∷ us) vs e v h = absurd (cc (e))
  defined_within (Some u ∷ us) vs e v h = by_test (is_in every u) refl e (defined_within us)
    where
      cases : (ws : List Value) → Has every u → ((v : Value) → Has ws v → Has every v) → (v : Value) → Has (u ∷ ws) v → Has every v
      cases ws p q _ first = p
      cases ws p q v (later k) = q v k

      behind : (w : Option (List Value)) → all_defined (map (value_in every) us) ≡ w → option_map (λ ws. u ∷ ws) w ≡ Some vs → Has every u → ((ws : List Value) → all_defined (map (value_in every) us) ≡ Some ws → (v : Value) → Has ws v → Has every v) → Has every v
      behind None q e p goes = absurd (cc (e))
      behind (Some ws) q e p goes = cases ws p (goes ws q) v (subst (λ l. Has l v) (sym (some_is e)) h)

      by_test : (c : Bool) → is_in every u ≡ c → all_defined (cond c (Some u) None ∷ map (value_in every) us) ≡ Some vs → ((ws : List Value) → all_defined (map (value_in every) us) ≡ Some ws → (v : Value) → Has ws v → Has every v) → Has every v
      by_test true p e goes = behind (all_defined (map (value_in every) us)) refl e (Has-is_in every u p) goes
      by_test false p e goes = absurd (cc (e))

  defined_one : (u : Outcome) (us : List Outcome) (vs : List Value) → all_defined (u ∷ us) ≡ Some vs → (v : Value) × Has vs v
  defined_one None us vs e = absurd (cc (e))
  defined_one (Some u) us vs e = behind (all_defined us) e
    where
      behind : (w : Option (List Value)) → option_map (λ ws. u ∷ ws) w ≡ Some vs → (v : Value) × Has vs v
      behind None e = absurd (cc (e))
      behind (Some ws) e = (u, subst (λ l. Has l u) (some_is e) first)

  fit_some : (us : List Outcome) → AreSome every (fit every us)
  fit_some [] = all_some
  fit_some (u ∷ us) = by_values (all_defined (map (value_in every) (u ∷ us))) refl
    where
      by_values : (w : Option (List Value)) → all_defined (map (value_in every) (u ∷ us)) ≡ w → AreSome every (unwrap_or w every)
      by_values None e = all_some
      by_values (Some vs) e = (defined_one (value_in every u) (map (value_in every) us) vs e, defined_within (u ∷ us) vs e)

  branch_some : (o : Truth) (vs ws : List Value) → AreSome every vs → AreSome every ws → AreSome every (branch every o vs ws)
  branch_some None vs ws p q = all_some
  branch_some (Some true) vs ws p q = p
  branch_some (Some false) vs ws p q = q

  if_some : (o : Truth) (v w : Walk) → IsSome every v → IsSome every w → IsSome every (if_walk every o v w)
  if_some (Some true) v w p q = p
  if_some (Some false) v w p q = q
  if_some None None None p q = tt
  if_some None None (Some ws) p q = all_some
  if_some None (Some vs) w p q = all_some

  first_some : (v w : Walk) → IsSome every v → IsSome every w → IsSome every (walk.first_of v w)
  first_some None w p q = q
  first_some (Some vs) w p q = p

  firsts_some : (F : Value → Walk) → ((v : Value) → IsSome every (F v)) → (vs : List Value) → IsSome every (walk.first (map F vs))
  firsts_some F h [] = tt
  firsts_some F h (v ∷ vs) = first_some (F v) (walk.first (map F vs)) (h v) (firsts_some F h vs)

  cond_some : (c : Bool) (v w : Walk) → IsSome every v → IsSome every w → IsSome every (cond c v w)
  cond_some true v w p q = p
  cond_some false v w p q = q

  module _ (n : Numbered) (s : FlatState) where
    allowed_some : (e : FlatExpr) (b : FlatBindings) → AreSome every (flat_allowed_by n s every e b)
    allowed_some (List' shape members at) b = fit_some (flat_members n s members b)
    allowed_some (Each' var over test at) b = fit_some (map Some (filter (λ v. flat_meets n s test (bind b var v)) (values_in n over)))
    allowed_some (Choose' c (more_of-FlatExpr test end_of-FlatExpr) l (more_of-FlatExpr left end_of-FlatExpr) r (more_of-FlatExpr right end_of-FlatExpr)) b =
        branch_some (truth (flat_outcome n s test b)) (flat_allowed_by n s every left b) (flat_allowed_by n s every right b) (allowed_some left b) (allowed_some right b)
    allowed_some e b = fit_some (flat_outcome n s e b ∷ [])

    module _ (keep : List Index → Bool) (x : FlatElement) where
      assigned_some : (us : List Outcome) (value : FlatExpr) (b : FlatBindings) → IsSome every (flat_assigned n s x every us value b)
      assigned_some us value b =
          cond_some (list_any (λ (u, v). is_other u v) (zip us x.indexes)) None _ tt
          (cond_some (list_any is_none us) (Some every) (Some (flat_allowed_by n s every value b)) all_some (allowed_some value b))

      mutual
        pub result_some : (def : DefBody) (b : FlatBindings) → IsSome every (result_by keep n s x every def b)
        result_some Nothing b = tt
        result_some (Assign left value place at) b =
            cond_some (keep (map flat_index left)) (flat_assigned n s x every (map (λ e. flat_outcome n s e b) left) value b) None (assigned_some (map (λ e. flat_outcome n s e b) left) value b) tt
        result_some (If' test l (more_of-DefBody left end_of-DefBody) r (more_of-DefBody right end_of-DefBody)) b =
            if_some (truth (flat_outcome n s test b)) (result_by keep n s x every left b) (result_by keep n s x every right b) (result_some left b) (result_some right b)
        result_some (First' shape parts) b = results_some parts b
        result_some (Forall' var over shape (more_of-DefBody body end_of-DefBody)) b = firsts_some (λ v. result_by keep n s x every body (bind b var v)) (λ v. result_some body (bind b var v)) (values_in n over)

        results_some : {m : _} (parts : Row_of-DefBody m) (b : FlatBindings) → IsSome every (results_by keep n s x every parts b)
        results_some end_of-DefBody b = tt
        results_some (more_of-DefBody part rest) b = first_some (result_by keep n s x every part b) (results_by keep n s x every rest b) (result_some part b) (results_some rest b)

-- ---- within what the definition gives

-- what a definition gives where it gives this by some of its assignments
abbrev pub IsWithin : List Value → Walk → Walk → Type 0
IsWithin every None w = (w ≡ None) ⊎ (w ≡ Some every)
IsWithin every (Some vs) w = (ws : List Value) × (w ≡ Some ws) × ((v : Value) → Has vs v → Has ws v)

-- the assignments whose constants are the element's
abbrev pub concerns : FlatElement → List Index → Bool
concerns x is = list_all (λ (i, v). fits i v) (zip is x.indexes)

module _ (every : List Value) (one : (v : Value) × Has every v) where
  within_itself : (w : Walk) → IsWithin every w w
  within_itself None = inl refl
  within_itself (Some vs) = (vs, refl, λ v h. h)

  within_first : (p q v w : Walk) → IsSome every q → IsWithin every p v → IsWithin every q w → IsWithin every (walk.first_of p q) (walk.first_of v w)
  within_first None q v w some (inl e) k = rw e k
  within_first None None v w some (inr e) k = inr (ap (λ v. walk.first_of v w) e)
  within_first None (Some vs) v w some (inr e) k = (every, ap (λ v. walk.first_of v w) e, some.1)
  within_first (Some vs) q v w some h k = (h.0, ap (λ v. walk.first_of v w) h.1, h.2)

  unless_some_right : (v : Walk) (ws : List Value) → unless_nothing every v (Some ws) ≡ Some every
  unless_some_right None ws = refl
  unless_some_right (Some vs) ws = refl

  within_if : (o : Truth) (p q v w : Walk) → IsWithin every p v → IsWithin every q w → IsWithin every (if_walk every o p q) (if_walk every o v w)
  within_if (Some true) p q v w h k = h
  within_if (Some false) p q v w h k = k
  within_if None None None v w (inl e) (inl f) = inl (rw (e, f) refl)
  within_if None None None v w (inl e) (inr f) = inr (rw (e, f) refl)
  within_if None None None v w (inr e) k = inr (ap (λ v. unless_nothing every v w) e)
  within_if None None (Some vs) v w h k = (every, ap (λ w. unless_nothing every v w) k.1 ∙ unless_some_right v k.0, λ v h. h)
  within_if None (Some vs) q v w h k = (every, ap (λ v. unless_nothing every v w) h.1, λ v h. h)

  within_firsts : (F G : Value → Walk) → ((v : Value) → IsSome every (F v)) → ((v : Value) → IsWithin every (F v) (G v)) → (vs : List Value) → IsWithin every (walk.first (map F vs)) (walk.first (map G vs))
  within_firsts F G some h [] = inl refl
  within_firsts F G some h (v ∷ vs) =
      within_first (F v) (walk.first (map F vs)) (G v) (walk.first (map G vs)) (firsts_some every one F some vs) (h v) (within_firsts F G some h vs)

  module _ (n : Numbered) (s : FlatState) (x : FlatElement) where
    abbrev sure : DefBody → FlatBindings → Walk
    sure def b = result_by (concerns x) n s x every def b

    within_assigned : (left : List FlatExpr) (value : FlatExpr) (b : FlatBindings) (c : Bool) → concerns x (map flat_index left) ≡ c →
        IsWithin every (cond c (flat_assigned n s x every (map (λ e. flat_outcome n s e b) left) value b) None) (flat_assigned n s x every (map (λ e. flat_outcome n s e b) left) value b)
    within_assigned left value b true e = within_itself (flat_assigned n s x every (map (λ e. flat_outcome n s e b) left) value b)
    within_assigned left value b false e = by_cause (list_any (λ (u, v). is_other u v) (zip (map (λ e. flat_outcome n s e b) left) x.indexes)) (list_any is_none (map (λ e. flat_outcome n s e b) left)) (misfits n s b left x.indexes e)
      where
        by_cause : (other undefined : Bool) → (other ≡ true) ⊎ (undefined ≡ true) → IsWithin every None (cond other None (cond undefined (Some every) (Some (flat_allowed_by n s every value b))))
        by_cause true undefined c = inl refl
        by_cause false true c = inr refl
        by_cause false false (inl e) = absurd (cc (e))
        by_cause false false (inr e) = absurd (cc (e))

    mutual
      pub result_within : (def : DefBody) (b : FlatBindings) → IsWithin every (result_by (concerns x) n s x every def b) (flat_result n s x every def b)
      result_within Nothing b = inl refl
      result_within (Assign left value place at) b = within_assigned left value b (concerns x (map flat_index left)) refl
      result_within (If' test l (more_of-DefBody left end_of-DefBody) r (more_of-DefBody right end_of-DefBody)) b =
          within_if (truth (flat_outcome n s test b)) (sure left b) (sure right b) (flat_result n s x every left b) (flat_result n s x every right b) (result_within left b) (result_within right b)
      result_within (First' shape parts) b = results_within parts b
      result_within (Forall' var over shape (more_of-DefBody body end_of-DefBody)) b =
          within_firsts (λ v. sure body (bind b var v)) (λ v. flat_result n s x every body (bind b var v)) (λ v. result_some every one n s (concerns x) x body (bind b var v)) (λ v. result_within body (bind b var v)) (values_in n over)

      results_within : {m : _} (parts : Row_of-DefBody m) (b : FlatBindings) → IsWithin every (results_by (concerns x) n s x every parts b) (flat_results n s x every parts b)
      results_within end_of-DefBody b = inl refl
      results_within (more_of-DefBody part rest) b =
          within_first (sure part b) (results_by (concerns x) n s x every rest b) (flat_result n s x every part b) (flat_results n s x every rest b)
          (results_some every one n s (concerns x) x rest b) (result_within part b) (results_within rest b)

-- a value that some assignments allow, every value where they give no result, is allowed
pub within_allowed : (every : List Value) (p w : Walk) → IsSome every p → IsWithin every p w → (v : Value) → Has (unwrap_or p every) v → Has (unwrap_or w every) v
within_allowed every None w some (inl e) v h = rw e h
within_allowed every None w some (inr e) v h = rw e h
within_allowed every (Some vs) w some k v h = rw k.1 (k.2 v h)
