-- What stands where: lists cut at a number, and members by their places.
use Rattle.std.proofs.Common.{◌≡◌, ℕ, zero, suc, ◌+◌, ◌-◌, ◌<◌, ◌≤◌, List, [], ◌∷◌, ◌++◌, map, length, get_or, take, drop, set, Bool, true, false, cond, Some, is_some, slice_get, refl, sym, ap, ◌∙◌, arith}
use Rattle.std.specs.List.{count_by}
use Rattle.std.proofs.Math.Seq.{take-length}
use Rattle.std.proofs.lemmas.List.Sums.{sum_by-set}
use Rattle.std.proofs.lemmas.Grind.{common_steps}

-- ---- cut at or past the end

pub drop_past : {X : Type 0} (xs : List X) (n : ℕ) → length xs ≤ n → drop n xs ≡ []
drop_past [] zero l = refl
drop_past [] (suc n) l = refl
drop_past (x ∷ xs) zero l = absurd (omega arith)
drop_past (x ∷ xs) (suc n) l = drop_past xs n (omega arith)

pub take_past : {X : Type 0} (xs : List X) (n : ℕ) → length xs ≤ n → take n xs ≡ xs
take_past [] zero l = refl
take_past [] (suc n) l = refl
take_past (x ∷ xs) zero l = absurd (omega arith)
take_past (x ∷ xs) (suc n) l = ap (λ l. x ∷ l) (take_past xs n (omega arith))

-- all that follows the first member
pub take_rest : {X : Type 0} (xs : List X) → take (length xs - 1) (drop 1 xs) ≡ drop 1 xs
take_rest [] = refl
take_rest (x ∷ xs) = let e : suc (length xs) - 1 ≡ length xs = omega arith in ap (λ n. take n xs) e ∙ take-length xs

-- ---- cut at a member that was read

pub drop_read : {X : Type 0} (xs : List X) (n : ℕ) (x : X) → n < length xs → x ≡ get_or xs n x → drop n xs ≡ x ∷ drop (suc n) xs
drop_read [] n x lt e = absurd (omega arith)
drop_read (y ∷ xs) zero x lt e = ap (λ z. z ∷ xs) (sym e)
drop_read (y ∷ xs) (suc n) x lt e = drop_read xs n x (omega arith) e

pub drop_read_one : {X : Type 0} (xs : List X) (n : ℕ) (x : X) → n < length xs → x ≡ get_or xs n x → drop n xs ≡ x ∷ drop (n + 1) xs
drop_read_one xs n x lt e = let more : suc n ≡ n + 1 = omega arith in drop_read xs n x lt e ∙ ap (λ m. x ∷ drop m xs) more

pub take_read : {X : Type 0} (xs : List X) (n : ℕ) (x : X) → n < length xs → x ≡ get_or xs n x → take (n + 1) xs ≡ take n xs ++ x ∷ []
take_read [] n x lt e = absurd (omega arith)
take_read (y ∷ xs) zero x lt e = ap (λ z. z ∷ []) (sym e)
take_read (y ∷ xs) (suc n) x lt e = let next : suc n + 1 ≡ suc (n + 1) = omega arith in ap (λ m. take m (y ∷ xs)) next ∙ ap (λ l. y ∷ l) (take_read xs n x (omega arith) e)

pub first_read : {X : Type 0} (xs : List X) (x : X) → 1 ≤ length xs → x ≡ get_or xs 0 x → xs ≡ x ∷ drop 1 xs
first_read [] x l e = absurd (omega arith)
first_read (y ∷ xs) x l e = ap (λ z. z ∷ xs) (sym e)

-- ---- the member at a place

pub get_there : {X : Type 0} (xs : List X) (n : ℕ) → n < length xs → (x : X) × (slice_get xs n ≡ Some x)
get_there [] n lt = absurd (omega arith)
get_there (x ∷ xs) zero lt = (x, refl)
get_there (x ∷ xs) (suc n) lt = get_there xs n (omega arith)

pub get_within : {X : Type 0} (xs : List X) (n : ℕ) → is_some (slice_get xs n) ≡ true → n < length xs
get_within [] n h = absurd (cc (h))
get_within (x ∷ xs) zero h = omega arith
get_within (x ∷ xs) (suc n) h = let lt = get_within xs n h in omega arith

pub get_read : {X : Type 0} (xs : List X) (n : ℕ) (x : X) → n < length xs → x ≡ get_or xs n x → slice_get xs n ≡ Some x
get_read [] n x lt e = absurd (omega arith)
get_read (y ∷ xs) zero x lt e = ap Some (sym e)
get_read (y ∷ xs) (suc n) x lt e = get_read xs n x (omega arith) e

pub get-map : {X Y : Type 0} (f : X → Y) (xs : List X) (n : ℕ) (x : X) → slice_get xs n ≡ Some x → slice_get (map f xs) n ≡ Some (f x)
get-map f [] n x e = absurd (cc)
get-map f (y ∷ xs) zero x e = cc
get-map f (y ∷ xs) (suc n) x e = get-map f xs n x e

pub drop_got : {X : Type 0} (xs : List X) (n : ℕ) (x : X) → slice_get xs n ≡ Some x → drop n xs ≡ x ∷ drop (suc n) xs
drop_got [] n x h = cc
drop_got (y ∷ xs) zero x h = let same : y ≡ x = cc in ap (λ z. z ∷ xs) same
drop_got (y ∷ xs) (suc n) x h = drop_got xs n x h

-- a member is its own default
pub get_or-own : {X : Type 0} (xs : List X) (n : ℕ) (d : X) → n < length xs → get_or xs n d ≡ get_or xs n (get_or xs n d)
get_or-own [] n d lt = absurd (omega arith)
get_or-own (x ∷ xs) zero d lt = refl
get_or-own (x ∷ xs) (suc n) d lt = get_or-own xs n d (omega arith)

-- one more flag that is set
pub count_set : (flags : List Bool) (n : ℕ) → n < length flags → get_or flags n false ≡ false → count_by (λ flag. flag) (set flags n true) ≡ count_by (λ flag. flag) flags + 1
count_set flags n lt e = grind (arith, common_steps, sum_by-set (λ (flag : Bool). cond flag 1 0) flags n true false lt)
