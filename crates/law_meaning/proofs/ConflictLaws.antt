-- Where no two assignments conflict, those under a `forall` are apart: they differ in two constants or share its variable.
use Rattle.std.proofs.Common.{◌≡◌, ℕ, zero, suc, List, [], ◌∷◌, ◌++◌, map, zip, flat_map, length, Some, true, false, Bool, not, ◌&&◌, ◌||◌, ◌⊎◌, inl, inr, ⊎_elim, refl, sym, ap, subst, append_assoc, get_or, Contains, nat_eq, ◌<◌, arith}
use Rattle.std.specs.List.{list_any}
use Rattle.std.proofs.lemmas.List.Elements.{Contains-append_left, Contains-append_right, Contains-append_cases}
use Rattle.law_lists.proofs.Booleans.{same_tests}
use Rattle.smv_core.specs.Values.{Path, Value, same}
use Rattle.smv_core.specs.Walk.{steps_of}
use Rattle.smv_core.specs.Assignments.{Around, any, loop, Index, fixed, bare, computed, Assigned, assignments, assignments_of, assignments_held, assignments_arms}
use Rattle.smv_core.specs.Conflicts.{are_two_constants, are_both, differ, share, EachTwo, IsForall, AreDistinct, AreExcused, AreDistinctTurns, HasNoConflict, HaveNoConflict, HeldHasNoConflict, ArmsHaveNoConflict, is_bare, HasVariables, HaveVariables, HeldHasVariables, ArmsHaveVariables}
use Rattle.smv_core.specs.declared.tree.Word.{Word}
use Rattle.smv_core.specs.declared.tree.Stmt.{Stmt, Assign, Block', If', Switch', Default', For', Forall', Held-Stmt-If-2, None', Some', Row_of-Stmt, end_of-Stmt, more_of-Stmt, Row_of-Arm, end_of-Arm, more_of-Arm}
use Rattle.law_meaning.proofs.AtMostOne.{same-is, same-refl, AllHave, AreApart}

same-sym : (u v : Value) → same u v ≡ true → same v u ≡ true
same-sym u v h = subst (λ w. same w u ≡ true) (same-is u v h) (same-refl u)

two_constants-sym : (i j : Index) → are_two_constants i j ≡ true → are_two_constants j i ≡ true
two_constants-sym (fixed (Some u)) (fixed (Some v)) h = subst (λ b. not b ≡ true) (same_tests (same u v) (same v u) (same-sym u v) (same-sym v u)) h
two_constants-sym _ _ h = absurd (cc)

both-sym : (k : ℕ) (i j : Index) → are_both k i j ≡ true → are_both k j i ≡ true
both-sym k (bare m) (bare n) h = and-swap (nat_eq m k) (nat_eq n k) h
  where
    and-swap : (p q : Bool) → (p && q) ≡ true → (q && p) ≡ true
    and-swap true true h = refl
    and-swap true false h = absurd (cc)
    and-swap false q h = absurd (cc)
both-sym k _ _ h = absurd (cc)

zip-sym : (T : Index → Index → Bool) → ((i j : Index) → T i j ≡ true → T j i ≡ true) → (is js : List Index) → list_any (λ (i, j). T i j) (zip is js) ≡ true → list_any (λ (i, j). T i j) (zip js is) ≡ true
zip-sym T flip [] js h = absurd (cc)
zip-sym T flip (i ∷ is) [] h = absurd (cc)
zip-sym T flip (i ∷ is) (j ∷ js) h = by_first (T i j) (T j i) (flip i j) (zip-sym T flip is js) h
  where
    by_first : (p q : Bool) → (p ≡ true → q ≡ true) → (list_any (λ (i, j). T i j) (zip is js) ≡ true → list_any (λ (i, j). T i j) (zip js is) ≡ true) →
        (p || list_any (λ (i, j). T i j) (zip is js)) ≡ true → (q || list_any (λ (i, j). T i j) (zip js is)) ≡ true
    by_first p true h k e = refl
    by_first true false h k e = absurd (false_true (h refl))
      where
        false_true : false ≡ true → ⊥
        false_true e = cc
    by_first false false h k e = k e

-- one that has the variable shares it with itself
share-itself : (k : ℕ) (is : List Index) → list_any (is_bare k) is ≡ true → list_any (λ (i, j). are_both k i j) (zip is is) ≡ true
share-itself k [] h = absurd (cc)
share-itself k (bare n ∷ is) h = by_first (nat_eq n k) (share-itself k is) h
  where
    by_first : (p : Bool) → (list_any (is_bare k) is ≡ true → list_any (λ (i, j). are_both k i j) (zip is is) ≡ true) → (p || list_any (is_bare k) is) ≡ true → ((p && p) || list_any (λ (i, j). are_both k i j) (zip is is)) ≡ true
    by_first true f e = refl
    by_first false f e = f e
share-itself k (fixed u ∷ is) h = share-itself k is h
share-itself k (computed ∷ is) h = share-itself k is h

flat_map-map : {X : Type 0} (F : X → List Assigned) (xs : List X) → flat_map (λ t. t) (map F xs) ≡ flat_map F xs
flat_map-map F [] = refl
flat_map-map F (x ∷ xs) = ap (λ l. F x ++ l) (flat_map-map F xs)

module _ (k : ℕ) where
  abbrev Apart : Assigned → Assigned → Type 0
  Apart a b = (differ a b ≡ true) ⊎ (share k a b ≡ true)

  apart-sym : (a b : Assigned) → Apart a b → Apart b a
  apart-sym a b h = ⊎_elim
      (λ e. inl (zip-sym are_two_constants two_constants-sym a.indexes b.indexes e))
      (λ e. inr (zip-sym (are_both k) (both-sym k) a.indexes b.indexes e)) h

  -- two lists, each apart, that are apart from one another
  apart-append : (as' bs : List Assigned) → AreApart k as' → AreApart k bs → EachTwo Apart as' bs → AreApart k (as' ++ bs)
  apart-append as' bs h g cross kind path a b in_a in_b is_a is_b = ⊎_elim
      (λ left. ⊎_elim (λ also. h kind path a b left also is_a is_b) (λ right. cross kind path a b left right is_a is_b) (Contains-append_cases as' bs b in_b))
      (λ right. ⊎_elim (λ left. apart-sym b a (cross kind path b a left right is_b is_a)) (λ also. g kind path a b right also is_a is_b) (Contains-append_cases as' bs b in_b))
      (Contains-append_cases as' bs a in_a)

  from_distinct : (as' bs : List Assigned) → AreDistinct as' bs → EachTwo Apart as' bs
  from_distinct as' bs h kind path a b in_a in_b is_a is_b = inl (h kind path a b in_a in_b is_a is_b)

  from_excused : (around : Around) → IsForall around k → (as' bs : List Assigned) → AreExcused around as' bs → EachTwo Apart as' bs
  from_excused around f as' bs h kind path a b in_a in_b is_a is_b = ⊎_elim inl (λ g. inr (g k f)) (h kind path a b in_a in_b is_a is_b)

  have-left : (as' bs : List Assigned) → AllHave k (as' ++ bs) → AllHave k as'
  have-left as' bs h a p = h a (Contains-append_left as' bs a p)

  have-right : (as' bs : List Assigned) → AllHave k (as' ++ bs) → AllHave k bs
  have-right as' bs h a p = h a (Contains-append_right as' bs a p)

  in-one : (a x : Assigned) → Contains (a ∷ []) x → a ≡ x
  in-one a x p = at_first p.0 p.1 p.2
    where
      at_first : (n : ℕ) → n < 1 → get_or (a ∷ []) n x ≡ x → a ≡ x
      at_first zero h e = e
      at_first (suc n) h e = absurd (omega (arith, h))

  apart-one : (a : Assigned) → AllHave k (a ∷ []) → AreApart k (a ∷ [])
  apart-one a h kind path b c in_b in_c is_b is_c =
      let itself : Apart a a = inr (share-itself k a.indexes (h a (0, omega arith, refl))) in
      subst (λ c. Apart b c) (in-one a c in_c) (subst (λ b. Apart b a) (in-one a b in_b) itself)

  apart-none : AreApart k []
  apart-none kind path a b in_a in_b is_a is_b = absurd (omega (arith, in_a.1))

  two : (as' bs : List Assigned) → (AllHave k as' → AreApart k as') → (AllHave k bs → AreApart k bs) → EachTwo Apart as' bs → AllHave k (as' ++ bs) → AreApart k (as' ++ bs)
  two as' bs f g cross h = apart-append as' bs (f (have-left as' bs h)) (g (have-right as' bs h)) cross

  turns-apart : (F : ℕ → List Assigned) (ns : List ℕ) → ((n : ℕ) → Contains ns n → AllHave k (F n) → AreApart k (F n)) → AreDistinctTurns (map F ns) → AllHave k (flat_map F ns) → AreApart k (flat_map F ns)
  turns-apart F [] each distinct h = apart-none
  turns-apart F (n ∷ ns) each distinct h =
      two (F n) (flat_map F ns) (each n (0, omega arith, refl)) (turns-apart F ns (λ m p. each m (Contains-append_right (n ∷ []) ns m p)) distinct.1)
      (from_distinct (F n) (flat_map F ns) (subst (AreDistinct (F n)) (flat_map-map F ns) distinct.0)) h

  module _ (instance : Path) where
    mutual
      pub apart : (act : Stmt) (around : Around) → IsForall around k → HasNoConflict instance act around → AllHave k (assignments instance act around) → AreApart k (assignments instance act around)
      apart (Assign kind left value at) around f c = apart-one _
      apart (Block' shape parts) around f c = apart-parts parts around f c
      apart (If' test l (more_of-Stmt left end_of-Stmt) right at) around f c =
          two (assignments instance left around) (assignments_held instance right around) (apart left around f c.0) (apart-held right around f c.1) (from_excused around f (assignments instance left around) (assignments_held instance right around) c.2)
      apart (Switch' on shape arms other at) around f c = apart-arms arms (assignments_held instance other around) around f (apart-held other around f c.0) c.1
      apart (Default' l (more_of-Stmt left end_of-Stmt) r (more_of-Stmt right end_of-Stmt) at) around f c =
          two (assignments instance left around) (assignments instance right around) (apart left around f c.0) (apart right around f c.1) (from_excused around f (assignments instance left around) (assignments instance right around) c.2)
      apart (For' var from to closed step shape (more_of-Stmt body end_of-Stmt) at) around f c =
          turns-apart (λ n. assignments instance body ((var.name, loop n) ∷ around)) (steps_of from to closed step) (λ n p. apart body ((var.name, loop n) ∷ around) f (c.0 n p)) c.1
      apart (Forall' var over shape (more_of-Stmt body end_of-Stmt) at) around f c = apart body ((var.name, any) ∷ around) (inr f) c

      apart-parts : {m : _} (parts : Row_of-Stmt m) (around : Around) → IsForall around k → HaveNoConflict instance parts around → AllHave k (assignments_of instance parts around) → AreApart k (assignments_of instance parts around)
      apart-parts end_of-Stmt around f c h = apart-none
      apart-parts (more_of-Stmt part rest) around f c h =
          two (assignments instance part around) (assignments_of instance rest around) (apart part around f c.0) (apart-parts rest around f c.1) (from_distinct (assignments instance part around) (assignments_of instance rest around) c.2) h

      apart-held : (part : Held-Stmt-If-2) (around : Around) → IsForall around k → HeldHasNoConflict instance part around → AllHave k (assignments_held instance part around) → AreApart k (assignments_held instance part around)
      apart-held None' around f c h = apart-none
      apart-held (Some' shape (more_of-Stmt part end_of-Stmt)) around f c h = apart part around f c h

      apart-arms : {m : _} (arms : Row_of-Arm m) (others : List Assigned) (around : Around) → IsForall around k → (AllHave k others → AreApart k others) → ArmsHaveNoConflict instance arms around others →
          AllHave k (assignments_arms instance arms around ++ others) → AreApart k (assignments_arms instance arms around ++ others)
      apart-arms end_of-Arm others around f g c h = g h
      apart-arms (more_of-Arm labels body rest) others around f g c h =
          let all = append_assoc (assignments instance body around) (assignments_arms instance rest around) others in
          subst (AreApart k) (sym all)
          (two (assignments instance body around) (assignments_arms instance rest around ++ others) (apart body around f c.0) (apart-arms rest others around f g c.1)
          (from_excused around f (assignments instance body around) (assignments_arms instance rest around ++ others) c.2) (subst (AllHave k) all h))

-- where each variable stands bare, it does so in all assignments under its `forall`
module _ (instance : Path) (k : ℕ) where
  all-append : (as' bs : List Assigned) → AllHave k as' → AllHave k bs → AllHave k (as' ++ bs)
  all-append as' bs h g a p = ⊎_elim (λ left. h a left) (λ right. g a right) (Contains-append_cases as' bs a p)

  all-none : AllHave k []
  all-none a p = absurd (omega (arith, p.1))

  all-one : (a : Assigned) → list_any (is_bare k) a.indexes ≡ true → AllHave k (a ∷ [])
  all-one a h x p = subst (λ y. list_any (is_bare k) y.indexes ≡ true) (in-one k a x p) h

  all-turns : (F : ℕ → List Assigned) (ns : List ℕ) → ((n : ℕ) → Contains ns n → AllHave k (F n)) → AllHave k (flat_map F ns)
  all-turns F [] h = all-none
  all-turns F (n ∷ ns) h = all-append (F n) (flat_map F ns) (h n (0, omega arith, refl)) (all-turns F ns (λ m p. h m (Contains-append_right (n ∷ []) ns m p)))

  mutual
    pub have : (act : Stmt) (around : Around) → IsForall around k → HasVariables act around → AllHave k (assignments instance act around)
    have (Assign kind left value at) around f h = all-one _ (h k f)
    have (Block' shape parts) around f h = have-parts parts around f h
    have (If' test l (more_of-Stmt left end_of-Stmt) right at) around f h = all-append (assignments instance left around) (assignments_held instance right around) (have left around f h.0) (have-held right around f h.1)
    have (Switch' on shape arms other at) around f h = all-append (assignments_arms instance arms around) (assignments_held instance other around) (have-arms arms around f h.1) (have-held other around f h.0)
    have (Default' l (more_of-Stmt left end_of-Stmt) r (more_of-Stmt right end_of-Stmt) at) around f h = all-append (assignments instance left around) (assignments instance right around) (have left around f h.0) (have right around f h.1)
    have (For' var from to closed step shape (more_of-Stmt body end_of-Stmt) at) around f h =
        all-turns (λ n. assignments instance body ((var.name, loop n) ∷ around)) (steps_of from to closed step) (λ n p. have body ((var.name, loop n) ∷ around) f (h n p))
    have (Forall' var over shape (more_of-Stmt body end_of-Stmt) at) around f h = have body ((var.name, any) ∷ around) (inr f) h

    have-parts : {m : _} (parts : Row_of-Stmt m) (around : Around) → IsForall around k → HaveVariables parts around → AllHave k (assignments_of instance parts around)
    have-parts end_of-Stmt around f h = all-none
    have-parts (more_of-Stmt part rest) around f h = all-append (assignments instance part around) (assignments_of instance rest around) (have part around f h.0) (have-parts rest around f h.1)

    have-held : (part : Held-Stmt-If-2) (around : Around) → IsForall around k → HeldHasVariables part around → AllHave k (assignments_held instance part around)
    have-held None' around f h = all-none
    have-held (Some' shape (more_of-Stmt part end_of-Stmt)) around f h = have part around f h

    have-arms : {m : _} (arms : Row_of-Arm m) (around : Around) → IsForall around k → ArmsHaveVariables arms around → AllHave k (assignments_arms instance arms around)
    have-arms end_of-Arm around f h = all-none
    have-arms (more_of-Arm labels body rest) around f h = all-append (assignments instance body around) (assignments_arms instance rest around) (have body around f h.0) (have-arms rest around f h.1)

-- at one `forall`
pub apart-forall : (instance : Path) (var : Word) (body : Stmt) (around : Around) → HasNoConflict instance body ((var.name, any) ∷ around) →
    HasVariables body ((var.name, any) ∷ around) → AreApart (length around) (assignments instance body ((var.name, any) ∷ around))
apart-forall instance var body around c h = apart (length around) instance body ((var.name, any) ∷ around) (inl refl) c (have instance (length around) body ((var.name, any) ∷ around) (inl refl) h)
