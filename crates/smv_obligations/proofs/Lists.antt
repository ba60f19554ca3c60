-- Lists that are made part by part, in loops.
use Rattle.std.proofs.Common.{◌≡◌, ℕ, zero, suc, ◌+◌, ◌<◌, ◌≤◌, List, [], ◌∷◌, ◌++◌, map, length, drop, get_or, Result, Ok, Err, refl, sym, ap, ◌∙◌, arith}
use Rattle.std.specs.List.{flat_map, zip, slice_index_or}
use Rattle.std.specs.Result.{OnOk, IfOk}
use Rattle.std.proofs.lemmas.List.Folds.{flat_map-map}
use Rattle.std.proofs.lemmas.List.{append-nil, append_assoc}
use Rattle.law_lists.proofs.Lists.{map-flat_map, flat_map_alike, map-map}
use Rattle.law_lists.proofs.Places.{drop_past}
use Rattle.law_obligations.specs.Sets.{Has, first, later, one_of_each}

pub flat-same : {X Y : Type 0} (f g : X → List Y) (xs : List X) → ((x : X) → Has xs x → f x ≡ g x) → flat_map f xs ≡ flat_map g xs
flat-same f g [] each = refl
flat-same f g (x ∷ xs) each = ap (λ ys. ys ++ flat_map f xs) (each x first) ∙ ap (λ ys. g x ++ ys) (flat-same f g xs (λ y m. each y (later m)))

-- one of each of some lists, each member changed
pub each-changed : {X Y : Type 0} (f : X → Y) (xss : List (List X)) → map (map f) (one_of_each xss) ≡ one_of_each (map (map f) xss)
each-changed f [] = refl
each-changed {X} {Y} f (xs ∷ xss) =
    map-flat_map (map f) (λ (x : X). map (λ (ys : List X). x ∷ ys) (one_of_each xss)) xs
    ∙ (flat_map_alike (λ (x : X). map (map f) (map (λ (ys : List X). x ∷ ys) (one_of_each xss))) (λ (x : X). map (λ (ys : List Y). f x ∷ ys) (one_of_each (map (map f) xss))) xs
    (λ x. map-map (map f) (λ (ys : List X). x ∷ ys) (one_of_each xss) ∙ (sym (map-map (λ (ys : List Y). f x ∷ ys) (map f) (one_of_each xss)) ∙ ap (map (λ (ys : List Y). f x ∷ ys)) (each-changed f xss)))
    ∙ sym (flat_map-map (λ (y : Y). map (λ (ys : List Y). y ∷ ys) (one_of_each (map (map f) xss))) f xs))

-- ---- loops

pub drop-more : {X : Type 0} (xs : List X) (k : ℕ) (x : X) → k < length xs → x ≡ slice_index_or xs k x → drop k xs ≡ x ∷ drop (suc k) xs
drop-more [] k x l e = absurd (omega arith)
drop-more (y ∷ xs) zero x l e = ap (λ z. z ∷ xs) (sym e)
drop-more (y ∷ xs) (suc k) x l e = drop-more xs k x (omega arith) e

-- two lists side by side, from a place on
one-pair : {X Y : Type 0} (xs : List X) (ys : List Y) (k : ℕ) (x : X) (y : Y) → k < length xs → k < length ys → zip (drop k xs) (drop k ys) ≡ (get_or xs k x, get_or ys k y) ∷ zip (drop (suc k) xs) (drop (suc k) ys)
one-pair [] ys k x y l m = absurd (omega arith)
one-pair (u ∷ xs) [] k x y l m = absurd (omega arith)
one-pair (u ∷ xs) (v ∷ ys) zero x y l m = refl
one-pair (u ∷ xs) (v ∷ ys) (suc k) x y l m = one-pair xs ys k x y (omega arith) (omega arith)

pub pair-turn : {X Y Z : Type 0} (f : X × Y → List Z) (xs : List X) (ys : List Y) (k : ℕ) (x : X) (y : Y) (done new all : List Z) → k < length xs → k < length ys → new ≡ done ++ f (get_or xs k x, get_or ys k y) →
    done ++ flat_map f (zip (drop k xs) (drop k ys)) ≡ all → new ++ flat_map f (zip (drop (k + 1) xs) (drop (k + 1) ys)) ≡ all
pair-turn f xs ys k x y done new all l m e h =
    let next : k + 1 ≡ suc k = omega arith in
    let rest = flat_map f (zip (drop (suc k) xs) (drop (suc k) ys)) in
    ap (λ (n : ℕ). new ++ flat_map f (zip (drop n xs) (drop n ys))) next
    ∙ (ap (λ zs. zs ++ rest) e ∙ (append_assoc done (f (get_or xs k x, get_or ys k y)) rest ∙ (ap (λ zs. done ++ flat_map f zs) (sym (one-pair xs ys k x y l m)) ∙ h)))

zip-none : {X Y : Type 0} (xs : List X) (ys : List Y) → length ys ≤ 0 → zip xs ys ≡ []
zip-none [] ys l = refl
zip-none (x ∷ xs) [] l = refl
zip-none (x ∷ xs) (y ∷ ys) l = absurd (omega arith)

pub pairs-over-left : {X Y Z : Type 0} (f : X × Y → List Z) (xs : List X) (ys : List Y) (k : ℕ) (done all : List Z) → length xs ≤ k → done ++ flat_map f (zip (drop k xs) (drop k ys)) ≡ all → done ≡ all
pairs-over-left f xs ys k done all l h = sym (ap (λ us. done ++ flat_map f (zip us (drop k ys))) (drop_past xs k l) ∙ append-nil done) ∙ h

pub pairs-over-right : {X Y Z : Type 0} (f : X × Y → List Z) (xs : List X) (ys : List Y) (k : ℕ) (done all : List Z) → length ys ≤ k → done ++ flat_map f (zip (drop k xs) (drop k ys)) ≡ all → done ≡ all
pairs-over-right f xs ys k done all l h =
    let none : length (drop k ys) ≡ 0 = ap length (drop_past ys k l) in sym (ap (λ ps. done ++ flat_map f ps) (zip-none (drop k xs) (drop k ys) (omega (arith, none))) ∙ append-nil done) ∙ h

-- after a call
pub if-ok-more : {X E : Type 0} (r : Result X E) (a b : X) → a ≡ b → IfOk r (λ x. x ≡ a) → IfOk r (λ x. x ≡ b)
if-ok-more (Ok x) a b e h = h ∙ e
if-ok-more (Err x) a b e h = tt

pub on-ok-more : {X E A : Type 0} (r : Result X E) (new a b : List A) → a ≡ b → OnOk r (new ≡ a) → OnOk r (new ≡ b)
on-ok-more (Ok x) new a b e h = h ∙ e
on-ok-more (Err x) new a b e h = tt

-- one more of a list, at its place, and all of them
one-turn : {X Y : Type 0} (f : X → List Y) (xs : List X) (k : ℕ) (d : X) → k < length xs → flat_map f (drop k xs) ≡ f (get_or xs k d) ++ flat_map f (drop (suc k) xs)
one-turn f [] k d l = absurd (omega arith)
one-turn f (x ∷ xs) zero d l = refl
one-turn f (x ∷ xs) (suc k) d l = one-turn f xs k d (omega arith)

pub turn-kept : {X Y : Type 0} (f : X → List Y) (xs : List X) (k : ℕ) (d : X) (done new all : List Y) → k < length xs → new ≡ done ++ f (get_or xs k d) → done ++ flat_map f (drop k xs) ≡ all → new ++ flat_map f (drop (k + 1) xs) ≡ all
turn-kept f xs k d done new all l e h =
    let next : k + 1 ≡ suc k = omega arith in
    ap (λ (n : ℕ). new ++ flat_map f (drop n xs)) next
    ∙ (ap (λ ys. ys ++ flat_map f (drop (suc k) xs)) e ∙ (append_assoc done (f (get_or xs k d)) (flat_map f (drop (suc k) xs)) ∙ (ap (λ ys. done ++ ys) (sym (one-turn f xs k d l)) ∙ h)))

pub turns-over : {X Y : Type 0} (f : X → List Y) (xs : List X) (k : ℕ) (done all : List Y) → length xs ≤ k → done ++ flat_map f (drop k xs) ≡ all → done ≡ all
turns-over f xs k done all l h = sym (ap (λ us. done ++ flat_map f us) (drop_past xs k l) ∙ append-nil done) ∙ h
