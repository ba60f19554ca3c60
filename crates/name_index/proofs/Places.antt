-- The places of names, as they are noted.
use Rattle.std.proofs.Common.{◌≡◌, ℕ, suc, Option, Bool, true, false, cond, List, [], ◌∷◌, ◌++◌, map, length, refl, ap, sym, ◌∙◌, Bor}
use Rattle.std.specs.Prelude.{option_map, unwrap_or, Some, None}
use Rattle.std.specs.Str.{bytes_eq}
use Rattle.indexmap.specs.IndexMap.{IndexMap, UpdatesBy}
use Rattle.std.proofs.lemmas.Map.Text.{hash_map_updates_str}
use Rattle.std.proofs.lemmas.Slice.Eq.{bytes_eq-Decides}
use Rattle.smv_core.specs.Values.{Name}
use Rattle.name_index.specs.Position.{position, found_or, noted}

option_map-found_or : (o : Option ℕ) (b : Bool) (n : ℕ) → option_map suc (found_or o b n) ≡ found_or (option_map suc o) b (suc n)
option_map-found_or (Some i) b n = refl
option_map-found_or None true n = refl
option_map-found_or None false n = refl

option_map-either : (b : Bool) (o : Option ℕ) (c : Bool) (n : ℕ) → cond b (Some 0) (option_map suc (found_or o c n)) ≡ found_or (cond b (Some 0) (option_map suc o)) c (suc n)
option_map-either true o c n = refl
option_map-either false o c n = option_map-found_or o c n

found_or-none : (b : Bool) → cond b (Some 0) (option_map suc None) ≡ found_or None b 0
found_or-none true = refl
found_or-none false = refl

-- one more name at the end
pub position-push : (names : List (Bor Name)) (x : Bor Name) (q : Name) → position (map (λ name. name.now) (names ++ x ∷ [])) q ≡ found_or (position (map (λ name. name.now) names) q) (bytes_eq x.now q) (length names)
position-push [] x q = found_or-none (bytes_eq x.now q)
position-push (y ∷ names) x q =
    ap (λ o. cond (bytes_eq y.now q) (Some 0) (option_map suc o)) (position-push names x q) ∙ option_map-either (bytes_eq y.now q) (position (map (λ name. name.now) names) q) (bytes_eq x.now q) (length names)

-- a name has the place that it had, or else the one that it is given
pub found_or-entered : {S : Type 0} (m m' : IndexMap (Bor (List ℕ)) ℕ S) (x : Name) (n w : ℕ) (had : Option ℕ) → had ≡ noted m x → w ≡ unwrap_or had n
    → UpdatesBy (λ x y. bytes_eq x.now y.now) (λ k. bytes_eq x k.now) m m' (Some w) → (q : Name) → noted m' q ≡ found_or (noted m q) (bytes_eq x q) n
found_or-entered m m' x n w had known given updates q = hash_map_updates_str x m m' (Some w) updates q ∙ by (bytes_eq x q) refl
  where
    own : (o : Option ℕ) → Some (unwrap_or o n) ≡ found_or o true n
    own None = refl
    own (Some i) = refl

    other : (o : Option ℕ) → o ≡ found_or o false n
    other None = refl
    other (Some i) = refl

    by : (b : Bool) → bytes_eq x q ≡ b → cond b (Some w) (noted m q) ≡ found_or (noted m q) b n
    by true e =
        let same : x ≡ q = (bytes_eq-Decides x q).0 e in
        ap Some (given ∙ ap (λ o. unwrap_or o n) (known ∙ ap (noted m) same)) ∙ own (noted m q)
    by false e = other (noted m q)

-- what is noted stays right where a name is put at the end
pub pushed : {S : Type 0} (names names' : List (Bor Name)) (x : Bor Name) (m m' : IndexMap (Bor (List ℕ)) ℕ S) (bytes : Name) (place : ℕ)
    → ((q : Name) → noted m q ≡ position (map (λ name. name.now) names) q) → names' ≡ names ++ x ∷ [] → bytes ≡ x.now → place ≡ length names
    → ((q : Name) → noted m' q ≡ found_or (noted m q) (bytes_eq bytes q) place) → (q : Name) → noted m' q ≡ position (map (λ name. name.now) names') q
pushed names names' x m m' bytes place known more same long now q =
    now q ∙ ap (λ o. found_or o (bytes_eq bytes q) place) (known q) ∙ ap (λ b. found_or (position (map (λ name. name.now) names) q) (bytes_eq b q) place) same
    ∙ ap (found_or (position (map (λ name. name.now) names) q) (bytes_eq x.now q)) long ∙ sym (position-push names x q) ∙ ap (λ ns. position (map (λ name. name.now) ns) q) (sym more)
