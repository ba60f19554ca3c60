-- Lists of names by their first places.
use Rattle.std.proofs.Common.{◌≡◌, ℕ, suc, List, [], ◌∷◌, ◌++◌, length, Bool, true, false, cond, ◌||◌, refl, ap, sym, ◌∙◌}
use Rattle.std.specs.Prelude.{Option, Some, None, option_map, is_some}
use Rattle.std.specs.List.{list_any}
use Rattle.std.specs.HashMap.{HashMap, get, UpdatesBy}
use Rattle.std.specs.Cmp.Derive.Mapped.{pointwise-map}
use Rattle.std.proofs.lemmas.List.{length-map}
use Rattle.std.proofs.lemmas.List.Folds.{flat_map-map}
use Rattle.smv_core.specs.Values.{Path}
use Rattle.smv_core.specs.Outcome.{same_path}
use Rattle.law_designs.proofs.TypeNumbers.{paths-decide}
use Rattle.smv_flatten_families.specs.Paths.{first_place, found_or}

-- how lists of names are compared and hashed
pub ruleset keys = (pointwise-map, length-map, flat_map-map)

-- ---- noting one more

-- a path that has a place keeps it
pub known-stays : {S : Type 0} (m : HashMap Path ℕ S) (x : Path) (n : ℕ) (o : Option ℕ) → get same_path m x ≡ o → is_some o ≡ true → (q : Path) → get same_path m q ≡ found_or (get same_path m q) (same_path x q) n
known-stays m x n None at some q = absurd (cc)
known-stays m x n (Some i) at some q = by (same_path x q) refl
  where
    other : (o : Option ℕ) → o ≡ found_or o false n
    other (Some j) = refl
    other None = refl

    by : (b : Bool) → same_path x q ≡ b → get same_path m q ≡ found_or (get same_path m q) b n
    by true e =
        let same : x ≡ q = (paths-decide x q).0 e in
        let here : get same_path m q ≡ Some i = ap (get same_path m) (sym same) ∙ at in
        cc (here, ap (λ o. found_or o true n) here)
    by false e = other (get same_path m q)

-- a path that has none gets it
pub new-noted : {S : Type 0} (m m' : HashMap Path ℕ S) (x : Path) (n : ℕ) (o : Option ℕ) → get same_path m x ≡ o → is_some o ≡ false
    → UpdatesBy same_path (same_path x) m m' (Some n) → (q : Path) → get same_path m' q ≡ found_or (get same_path m q) (same_path x q) n
new-noted m m' x n (Some i) at none updates q = absurd (cc)
new-noted m m' x n None at none updates q = updates.0 q ∙ by (same_path x q) refl
  where
    other : (o : Option ℕ) → o ≡ found_or o false n
    other (Some j) = refl
    other None = refl

    by : (b : Bool) → same_path x q ≡ b → cond b (Some n) (get same_path m q) ≡ found_or (get same_path m q) b n
    by true e =
        let same : x ≡ q = (paths-decide x q).0 e in
        let here : get same_path m q ≡ None = ap (get same_path m) (sym same) ∙ at in
        cc (here, ap (λ o. found_or o true n) here)
    by false e = other (get same_path m q)

-- ---- one more at the end

option_map-found_or : (o : Option ℕ) (b : Bool) (n : ℕ) → option_map suc (found_or o b n) ≡ found_or (option_map suc o) b (suc n)
option_map-found_or (Some i) b n = refl
option_map-found_or None true n = refl
option_map-found_or None false n = refl

option_map-either : (b : Bool) (o : Option ℕ) (c : Bool) (n : ℕ) → cond b (Some 0) (option_map suc (found_or o c n)) ≡ found_or (cond b (Some 0) (option_map suc o)) c (suc n)
option_map-either true o c n = refl
option_map-either false o c n = option_map-found_or o c n

found_or-none : (b : Bool) → cond b (Some 0) (option_map suc None) ≡ found_or None b 0
found_or-none true = refl
found_or-none false = refl

pub first_place-push : (paths : List Path) (x q : Path) → first_place (paths ++ x ∷ []) q ≡ found_or (first_place paths q) (same_path x q) (length paths)
first_place-push [] x q = found_or-none (same_path x q)
first_place-push (y ∷ paths) x q =
    ap (λ o. cond (same_path y q) (Some 0) (option_map suc o)) (first_place-push paths x q) ∙ option_map-either (same_path y q) (first_place paths q) (same_path x q) (length paths)

-- a path has a place where it is one of them
pub place-known : (paths : List Path) (q : Path) → is_some (first_place paths q) ≡ list_any (λ x. same_path x q) paths
place-known [] q = refl
place-known (x ∷ paths) q = by (same_path x q) (first_place paths q) ∙ ap (λ b. same_path x q || b) (place-known paths q)
  where
    by : (b : Bool) (o : Option ℕ) → is_some (cond b (Some 0) (option_map suc o)) ≡ (b || is_some o)
    by true o = refl
    by false None = refl
    by false (Some i) = refl
