-- Groups of splits by what they are of.
use Rattle.std.proofs.Common.{◌≡◌, ◌≢◌, ℕ, zero, suc, ◌+◌, ◌<◌, ◌≤◌, List, [], ◌∷◌, ◌++◌, take, length, get_or, set, replicate, Bool, true, false, cond, nat_lt, refl, ap, sym, subst, ◌∙◌, arith}
use Rattle.std.specs.Prelude.{Option, Some, None, option_map, slice_get, if◌then◌else◌}
use Rattle.std.specs.Str.{bytes_eq}
use Rattle.std.proofs.lemmas.Grind.{common_steps}
use Rattle.std.proofs.lemmas.List.{append_assoc, append-nil, take_more, take_all, length-take, length-set, length-replicate, get_or-set_same, get_or-set_other}
use Rattle.std.proofs.lemmas.Option.{slice_get-get_or}
use Rattle.std.proofs.lemmas.Slice.Eq.{bytes_eq-Decides}
use Rattle.law_lists.proofs.Options.{some_is}
use Rattle.law_lists.proofs.Numbers.{nat_lt-true}
use Rattle.smv_core.specs.Values.{Name}
use Rattle.name_index.specs.Position.{position}
use Rattle.name_index.proofs.Finding.{position-within}
use Rattle.graph_search.specs.Walks.{held, list_at}
use Rattle.graph_search.specs.Reverse.{after}
use Rattle.smv_splits.specs.Groups.{numbers_with, noted_in, AreGroups}

-- ---- first places

pub position-name : (names : List Name) (name : Name) (p : ℕ) → position names name ≡ Some p → slice_get names p ≡ Some name
position-name [] name p e = cc
position-name (x ∷ names) name p e = at (bytes_eq x name) (position names name) refl (position-name names name) e
  where
    at : (b : Bool) (o : Option ℕ) → bytes_eq x name ≡ b → ((q : ℕ) → o ≡ Some q → slice_get names q ≡ Some name) → cond b (Some 0) (option_map suc o) ≡ Some p → slice_get (x ∷ names) p ≡ Some name
    at true o same rest h = let z : 0 ≡ p = some_is h in subst (λ q. slice_get (x ∷ names) q ≡ Some name) z (ap Some ((bytes_eq-Decides x name).0 same))
    at false None same rest h = cc
    at false (Some q) same rest h = let z : suc q ≡ p = some_is h in subst (λ q. slice_get (x ∷ names) q ≡ Some name) z (rest q refl)

one-place : (names : List Name) (a b : Name) (p : ℕ) → position names a ≡ Some p → position names b ≡ Some p → a ≡ b
one-place names a b p e f = some_is (sym (position-name names a p e) ∙ position-name names b p f)

same-bytes : (a b : Name) → a ≡ b → bytes_eq a b ≡ true
same-bytes a b e = (bytes_eq-Decides a b).1 e

-- ---- the numbers of the places of a name

none-with : (names : List Name) (name : Name) (k : ℕ) → position names name ≡ None → numbers_with name k names ≡ []
none-with [] name k e = refl
none-with (x ∷ names) name k e = at (bytes_eq x name) (position names name) (none-with names name (suc k)) e
  where
    at : (b : Bool) (o : Option ℕ) → (o ≡ None → numbers_with name (suc k) names ≡ []) → cond b (Some 0) (option_map suc o) ≡ None → (if b then k ∷ [] else []) ++ numbers_with name (suc k) names ≡ []
    at true o rest h = cc
    at false None rest h = rest refl
    at false (Some q) rest h = cc

abbrev one-with : Name → ℕ → Name → List ℕ
one-with name k x = if bytes_eq x name then k ∷ [] else []

numbers-append : (name : Name) (k : ℕ) (names : List Name) (x : Name) → numbers_with name k (names ++ x ∷ []) ≡ numbers_with name k names ++ one-with name (k + length names) x
numbers-append name k [] x = let z : k + 0 ≡ k = omega arith in append-nil (one-with name k x) ∙ ap (λ j. one-with name j x) (sym z)
numbers-append name k (y ∷ names) x =
    let z : suc k + length names ≡ k + suc (length names) = omega arith in
    ap (λ l. one-with name k y ++ l) (numbers-append name (suc k) names x ∙ ap (λ j. numbers_with name (suc k) names ++ one-with name j x) z)
    ∙ sym (append_assoc (one-with name k y) (numbers_with name (suc k) names) (one-with name (k + suc (length names)) x))

numbers-to : (name : Name) (names : List Name) (n : ℕ) (x : Name) → n < length names → x ≡ get_or names n x → numbers_with name 0 (take (n + 1) names) ≡ numbers_with name 0 (take n names) ++ one-with name n x
numbers-to name names n x below here =
    let long : 0 + length (take n names) ≡ n = omega (arith, below, length-take n names) in
    ap (numbers_with name 0) (take_more names n x below ∙ ap (λ y. take n names ++ y ∷ []) (sym here)) ∙ numbers-append name 0 (take n names) x
    ∙ ap (λ j. numbers_with name 0 (take n names) ++ one-with name j x) long

-- ---- groups so far

pub record AreGroupsTo (names : List Name) (groups : List (List ℕ)) (n : ℕ) : Type 0 where
  pub room : length groups ≡ length names
  pub each : (name : Name) (place : ℕ) → position names name ≡ Some place → after groups place ≡ numbers_with name 0 (take n names)

pub no-groups : (names : List Name) (groups : List (List ℕ)) → groups ≡ replicate (length names) [] → AreGroupsTo names groups 0
no-groups names groups e = record {
  room = ap (λ (g : List (List ℕ)). length g) e ∙ length-replicate (length names) [];
  each = λ name place h. ap (λ g. after g place) e ∙ empty (length names) place;
}
  where
    empty : (n p : ℕ) → get_or (replicate {A = List ℕ} n []) p [] ≡ []
    empty n p = grind (arith, common_steps)

pub one-more : (names : List Name) (groups groups' : List (List ℕ)) (n : ℕ) (x : Name) (place : Option ℕ) → n < length names → x ≡ get_or names n x → place ≡ position names x → groups' ≡ noted_in groups place n →
    AreGroupsTo names groups n → AreGroupsTo names groups' (n + 1)
one-more names groups groups' n x place below here at is were = by (position names x) refl (is ∙ ap (λ o. noted_in groups o n) at)
  where
    other : (name : Name) → bytes_eq x name ≡ false → numbers_with name 0 (take (n + 1) names) ≡ numbers_with name 0 (take n names)
    other name e = numbers-to name names n x below here ∙ ap (λ b. numbers_with name 0 (take n names) ++ (if b then n ∷ [] else [])) e ∙ append-nil (numbers_with name 0 (take n names))

    this : (name : Name) → bytes_eq x name ≡ true → numbers_with name 0 (take (n + 1) names) ≡ numbers_with name 0 (take n names) ++ n ∷ []
    this name e = numbers-to name names n x below here ∙ ap (λ b. numbers_with name 0 (take n names) ++ (if b then n ∷ [] else [])) e

    by : (o : Option ℕ) → position names x ≡ o → groups' ≡ noted_in groups o n → AreGroupsTo names groups' (n + 1)
    by None e same = record {
      room = ap (λ (g : List (List ℕ)). length g) same ∙ were.room;
      each = λ name p h. split name p h (bytes_eq x name) refl;
    }
      where
        split : (name : Name) (p : ℕ) → position names name ≡ Some p → (b : Bool) → bytes_eq x name ≡ b → after groups' p ≡ numbers_with name 0 (take (n + 1) names)
        split name p h true f = absurd (let s : x ≡ name = (bytes_eq-Decides x name).0 f in let t : None ≡ Some p = sym e ∙ (ap (position names) s ∙ h) in cc)
        split name p h false f = ap (λ g. after g p) same ∙ were.each name p h ∙ sym (other name f)
    by (Some q) e same = record {
      room = ap (λ (g : List (List ℕ)). length g) put ∙ length-set groups q (after groups q ++ n ∷ []) ∙ were.room;
      each = λ name p h. split name p h (bytes_eq x name) refl;
    }
      where
        within : q < length groups
        within = let l = position-within names x q e in let r = were.room in omega (arith, l, r)

        put : groups' ≡ set groups q (after groups q ++ n ∷ [])
        put = let t : nat_lt q (length groups) ≡ true = nat_lt-true q (length groups) within in same ∙ ap (λ b. cond b (set groups q (after groups q ++ n ∷ [])) groups) t

        split : (name : Name) (p : ℕ) → position names name ≡ Some p → (b : Bool) → bytes_eq x name ≡ b → after groups' p ≡ numbers_with name 0 (take (n + 1) names)
        split name p h true f =
            let s : x ≡ name = (bytes_eq-Decides x name).0 f in
            let z : q ≡ p = some_is (sym e ∙ (ap (position names) s ∙ h)) in
            ap (λ g. after g p) put ∙ ap (λ r. after (set groups q (after groups q ++ n ∷ [])) r) (sym z) ∙ get_or-set_same groups q (after groups q ++ n ∷ []) [] within
            ∙ ap (λ l. l ++ n ∷ []) (ap (after groups) z ∙ were.each name p h) ∙ sym (this name f)
        split name p h false f =
            ap (λ g. after g p) put ∙ get_or-set_other groups q p (after groups q ++ n ∷ []) [] apart ∙ were.each name p h ∙ sym (other name f)
          where
            apart : p ≢ q
            apart z = let s : x ≡ name = one-place names x name q e (h ∙ ap Some z) in let t = same-bytes x name s in absurd (cc)

pub all-groups : (names : List Name) (groups : List (List ℕ)) (n : ℕ) → length names ≤ n → AreGroupsTo names groups n → AreGroups names groups
all-groups names groups n over were = record { room = were.room; each = λ name place h. were.each name place h ∙ ap (numbers_with name 0) (take_all n names over) }

-- ---- the group of a name

pub group-is : (names : List Name) (groups : List (List ℕ)) → AreGroups names groups → (name : Name) → list_at groups (position names name) ≡ numbers_with name 0 names
group-is names groups are name = by (position names name) refl
  where
    by : (o : Option ℕ) → position names name ≡ o → list_at groups o ≡ numbers_with name 0 names
    by None e = sym (none-with names name 0 e)
    by (Some p) e =
        let l = position-within names name p e in
        let r = are.room in
        ap held (slice_get-get_or groups p [] (omega (arith, l, r))) ∙ are.each name p e

-- a place past all has no group
pub no-group : (names : List Name) (groups : List (List ℕ)) → AreGroups names groups → (name : Name) → position names name ≡ None → list_at groups (Some (length names)) ≡ numbers_with name 0 names
no-group names groups are name e = ap held (past groups (length names) (let r = are.room in omega (arith, r))) ∙ sym (none-with names name 0 e)
  where
    past : {X : Type 0} (xs : List X) (k : ℕ) → length xs ≤ k → slice_get xs k ≡ None
    past [] k l = refl
    past (x ∷ xs) zero l = absurd (omega (arith, l))
    past (x ∷ xs) (suc k) l = past xs k (omega (arith, l))
