-- What holds of each element of lists holds of each of what is made of them.
use Rattle.std.proofs.Common.{ℕ, List, [], ◌∷◌, map, zip, IfSome, slice_get, zero, suc}
use Rattle.std.specs.List.{AllByRecursion}

pub any-mapped : {X Y : Type 0} (Q : Y → Type 0) (f : X → Y) → ((x : X) → Q (f x)) → (xs : List X) → AllByRecursion Q (map f xs)
any-mapped Q f k [] = tt
any-mapped Q f k (x ∷ xs) = (k x, any-mapped Q f k xs)

pub all-found : {X : Type 0} (P : X → Type 0) (xs : List X) (k : ℕ) → AllByRecursion P xs → IfSome (slice_get xs k) P
all-found P [] k h = tt
all-found P (x ∷ xs) zero h = h.0
all-found P (x ∷ xs) (suc k) h = all-found P xs k h.1

-- of pairs, what holds of each left side, or of each right side
pub all-zipped : {X Y : Type 0} (P : X → Type 0) (xs : List X) (ys : List Y) → AllByRecursion P xs → AllByRecursion (λ (p : X × Y). P p.0) (zip xs ys)
all-zipped P [] ys h = tt
all-zipped P (x ∷ xs) [] h = tt
all-zipped P (x ∷ xs) (y ∷ ys) h = (h.0, all-zipped P xs ys h.1)

pub zipped-all : {X Y : Type 0} (P : Y → Type 0) (xs : List X) (ys : List Y) → AllByRecursion P ys → AllByRecursion (λ (p : X × Y). P p.1) (zip xs ys)
zipped-all P [] ys h = tt
zipped-all P (x ∷ xs) [] h = tt
zipped-all P (x ∷ xs) (y ∷ ys) h = (h.0, zipped-all P xs ys h.1)
