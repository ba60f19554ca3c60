-- What is put, one part after the other.
use Rattle.std.proofs.Common.{◌≡◌, ℕ, zero, suc, ◌+◌, ◌<◌, ◌≤◌, List, [], ◌∷◌, ◌++◌, length, drop, get_or, Result, Ok, Err, refl, sym, ap, ◌∙◌, arith}
use Rattle.std.specs.List.{flat_map}
use Rattle.std.specs.Result.{OnOk}
use Rattle.smv_core.specs.declared.flat.Element.{Element}
use Rattle.smv_elements.specs.Elements.{put, put_all}
use Rattle.smv_elements.proofs.Puts.{all-joined}

pub put-nothing : (found : List Element) → put_all found [] ≡ found
unfolding put_all
put-nothing found = refl

pub put-one : (found : List Element) (x : Element) → put_all found (x ∷ []) ≡ put found x
unfolding put_all
put-one found x = refl

pub ruleset joins = (put-nothing, put-one, all-joined)

-- ---- what is put for each of a list

one-turn : {X : Type 0} (f : X → List Element) (xs : List X) (k : ℕ) (d : X) → k < length xs → flat_map f (drop k xs) ≡ f (get_or xs k d) ++ flat_map f (drop (suc k) xs)
one-turn f [] k d l = absurd (omega arith)
one-turn f (x ∷ xs) zero d l = refl
one-turn f (x ∷ xs) (suc k) d l = one-turn f xs k d (omega arith)

no-turn : {X : Type 0} (f : X → List Element) (xs : List X) (k : ℕ) → length xs ≤ k → flat_map f (drop k xs) ≡ []
no-turn f [] zero l = refl
no-turn f [] (suc k) l = refl
no-turn f (x ∷ xs) zero l = absurd (omega arith)
no-turn f (x ∷ xs) (suc k) l = no-turn f xs k (omega arith)

-- one more, at its place
pub turn-kept : {X : Type 0} (f : X → List Element) (xs : List X) (k : ℕ) (d : X) (found new all : List Element) → k < length xs → new ≡ put_all found (f (get_or xs k d)) → put_all found (flat_map f (drop k xs)) ≡ all →
    put_all new (flat_map f (drop (k + 1) xs)) ≡ all
turn-kept f xs k d found new all l e h =
    let next : k + 1 ≡ suc k = omega arith in
    ap (λ (n : ℕ). put_all new (flat_map f (drop n xs))) next
    ∙ (ap (λ (es : List Element). put_all es (flat_map f (drop (suc k) xs))) e
    ∙ (sym (all-joined found (f (get_or xs k d)) (flat_map f (drop (suc k) xs)))
    ∙ (ap (put_all found) (sym (one-turn f xs k d l)) ∙ h)))

-- one more, where it is known to stand at its place
pub item-kept : {X : Type 0} (f : X → List Element) (xs : List X) (k : ℕ) (x : X) (found new all : List Element) → k < length xs → x ≡ get_or xs k x → new ≡ put_all found (f x) → put_all found (flat_map f (drop k xs)) ≡ all →
    put_all new (flat_map f (drop (k + 1) xs)) ≡ all
item-kept f xs k x found new all l i e h = turn-kept f xs k x found new all l (e ∙ ap (λ y. put_all found (f y)) i) h

-- and all of them
pub turns-over : {X : Type 0} (f : X → List Element) (xs : List X) (k : ℕ) (found all : List Element) → length xs ≤ k → put_all found (flat_map f (drop k xs)) ≡ all → found ≡ all
turns-over f xs k found all l h = sym (ap (put_all found) (no-turn f xs k l) ∙ put-nothing found) ∙ h

-- after a call
pub on-ok-more : {X E : Type 0} (r : Result X E) (new a b : List Element) → a ≡ b → OnOk r (new ≡ a) → OnOk r (new ≡ b)
on-ok-more (Ok x) new a b e h = h ∙ e
on-ok-more (Err x) new a b e h = tt

pub on-ok-then : {X E P Q : Type 0} (r : Result X E) → OnOk r P → (P → Q) → OnOk r Q
on-ok-then (Ok x) h f = f h
on-ok-then (Err x) h f = tt
