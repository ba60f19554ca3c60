-- What holds of each member of a list.
use Rattle.std.proofs.Common.{◌≡◌, List, [], ◌∷◌, ◌++◌, Bool, true, false, cond, arith}
use Rattle.std.specs.List.{flat_map, filter, list_all, All, AllByRecursion, Contains}
use Rattle.std.proofs.lemmas.Bool.{and_parts}
use Rattle.std.proofs.lemmas.List.Elements.{All-nil, All-cons}

-- ---- by recursion

pub each_weaker : {X : Type 0} (P Q : X → Type 0) → ((x : X) → P x → Q x) → (xs : List X) → AllByRecursion P xs → AllByRecursion Q xs
each_weaker P Q f [] h = tt
each_weaker P Q f (x ∷ xs) h = (f x h.0, each_weaker P Q f xs h.1)

pub each_append : {X : Type 0} (P : X → Type 0) (xs ys : List X) → AllByRecursion P xs → AllByRecursion P ys → AllByRecursion P (xs ++ ys)
each_append P [] ys h k = k
each_append P (x ∷ xs) ys h k = (h.0, each_append P xs ys h.1 k)

-- of each member of the lists that members have
pub each_flat_map : {X Y : Type 0} (P : X → Type 0) (Q : Y → Type 0) (f : X → List Y) → ((x : X) → P x → AllByRecursion Q (f x)) → (xs : List X) → AllByRecursion P xs → AllByRecursion Q (flat_map f xs)
each_flat_map P Q f k [] h = tt
each_flat_map P Q f k (x ∷ xs) h = each_append Q (f x) (flat_map f xs) (k x h.0) (each_flat_map P Q f k xs h.1)

pub each_in_any : {X Y : Type 0} (Q : Y → Type 0) (f : X → List Y) → ((x : X) → AllByRecursion Q (f x)) → (xs : List X) → AllByRecursion Q (flat_map f xs)
each_in_any Q f h [] = tt
each_in_any Q f h (x ∷ xs) = each_append Q (f x) (flat_map f xs) (h x) (each_in_any Q f h xs)

pub each_filter : {X : Type 0} (P : X → Type 0) (test : X → Bool) (xs : List X) → AllByRecursion P xs → AllByRecursion P (filter test xs)
each_filter P test [] h = tt
each_filter P test (x ∷ xs) h = by (test x) (filter test xs) (each_filter P test xs h.1)
  where
    by : (b : Bool) (rest : List _) → AllByRecursion P rest → AllByRecursion P (cond b (x ∷ rest) rest)
    by true rest g = (h.0, g)
    by false rest g = g

-- ---- by places

pub all_each : {X : Type 0} (P : X → Type 0) (xs : List X) → AllByRecursion P xs → All P xs
all_each P [] h = All-nil P
all_each P (x ∷ xs) h = All-cons P x xs h.0 (all_each P xs h.1)

pub all_one : {X : Type 0} (P : X → Type 0) (x : X) → P x → All P (x ∷ [])
all_one P x p = All-cons P x [] p (All-nil P)

-- where a test shows it
pub all_passes : {X : Type 0} (P : X → Type 0) (test : X → Bool) → ((x : X) → test x ≡ true → P x) → (xs : List X) → list_all test xs ≡ true → All P xs
all_passes P test h [] e = All-nil P
all_passes P test h (x ∷ xs) e = let parts = and_parts (test x) (list_all test xs) e in All-cons P x xs (h x parts.0) (all_passes P test h xs parts.1)

-- nothing is in the empty list
pub none_in : {X P : Type 0} (x : X) → Contains [] x → P
none_in x c = let l = c.1 in absurd (omega (arith, l))
