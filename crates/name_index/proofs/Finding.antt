-- What a first place says of a list.
use Rattle.std.proofs.Common.{◌++◌, ◌≡◌, ℕ, zero, suc, ◌<◌, Option, Bool, true, false, cond, ◌||◌, List, [], ◌∷◌, map, length, refl, ap, sym, ◌∙◌, arith}
use Rattle.std.specs.Prelude.{zip, option_map, option_and_then, is_some, Some, None, slice_get, take, nat_lt}
use Rattle.std.specs.List.{list_any}
use Rattle.std.proofs.lemmas.Bool.Decides.{nat_tests}
use Rattle.std.specs.Str.{bytes_eq}
use Rattle.smv_core.specs.Values.{Name}
use Rattle.smv_core.specs.Types.{find_name}
use Rattle.name_index.specs.Position.{position}

-- a place that is found is a place of the list
pub position-within : (names : List Name) (name : Name) (i : ℕ) → position names name ≡ Some i → i < length names
position-within [] name i e = cc
position-within (x ∷ names) name i e = by (bytes_eq x name) (position names name) (position-within names name) e
  where
    by : (b : Bool) (o : Option ℕ) → ((j : ℕ) → o ≡ Some j → j < length names) → cond b (Some 0) (option_map suc o) ≡ Some i → i < suc (length names)
    by true o within e = let z : 0 ≡ i = cc in omega arith
    by false None within e = cc
    by false (Some j) within e =
        let s : suc j ≡ i = cc in
        let h : j < length names = within j refl in
        omega arith

-- what stands beside a name is what stands at its first place
pub find_name-place : {X A : Type 0} (f : A → Name) (g : A → X) (xs : List A) (name : Name)
    → find_name (map (λ x. (f x, g x)) xs) name ≡ option_and_then (λ i. option_map g (slice_get xs i)) (position (map f xs) name)
find_name-place f g [] name = refl
find_name-place {X} {A} f g (x ∷ xs) name = by (bytes_eq (f x) name) (position (map f xs) name) (find_name-place f g xs name)
  where
    by : (b : Bool) (o : Option ℕ) → find_name (map (λ x. (f x, g x)) xs) name ≡ option_and_then (λ i. option_map g (slice_get xs i)) o
        → cond b (Some (g x)) (find_name (map (λ x. (f x, g x)) xs) name) ≡ option_and_then (λ i. option_map g (slice_get (x ∷ xs) i)) (cond b (Some 0) (option_map suc o))
    by true o rest = refl
    by false None rest = rest
    by false (Some j) rest = rest

map-pairs : {X : Type 0} (pairs : List (Name × X)) → map (λ pair. (pair.0, pair.1)) pairs ≡ pairs
map-pairs [] = refl
map-pairs (pair ∷ pairs) = ap (λ l. pair ∷ l) (map-pairs pairs)

-- the same, on pairs
pub find_name-pairs : {X : Type 0} (pairs : List (Name × X)) (name : Name)
    → find_name pairs name ≡ option_and_then (λ i. option_map (λ pair. pair.1) (slice_get pairs i)) (position (map (λ pair. pair.0) pairs) name)
find_name-pairs pairs name = ap (λ l. find_name l name) (sym (map-pairs pairs)) ∙ find_name-place (λ pair. pair.0) (λ pair. pair.1) pairs name

-- a place, where it is below a bound
below : ℕ → Option ℕ → Option ℕ
below k o = option_and_then (λ i. cond (nat_lt i k) (Some i) None) o

none-below : (o : Option ℕ) → None ≡ below zero o
unfolding below
none-below None = refl
none-below (Some i) = let e : nat_lt i zero ≡ false = grind (arith, nat_tests) in rw e

suc-below : (k : ℕ) (o : Option ℕ) → option_map suc (below k o) ≡ below (suc k) (option_map suc o)
unfolding below
suc-below k None = refl
suc-below k (Some j) = let e : nat_lt (suc j) (suc k) ≡ nat_lt j k = grind (arith, nat_tests) in rw e (by (nat_lt j k))
  where
    by : (t : Bool) → option_map suc (cond t (Some j) None) ≡ cond t (Some (suc j)) None
    by true = refl
    by false = refl

first-below : (k : ℕ) → Some 0 ≡ below (suc k) (Some 0)
unfolding below
first-below k = let e : nat_lt 0 (suc k) ≡ true = grind (arith, nat_tests) in rw e

-- the first place in the front of a list is that in the list, where it stands there
pub position-take : (k : ℕ) (names : List Name) (name : Name) → position (take k names) name ≡ option_and_then (λ i. cond (nat_lt i k) (Some i) None) (position names name)
unfolding below
position-take zero names name = none-below (position names name)
position-take (suc k) [] name = refl
position-take (suc k) (x ∷ names) name = by (bytes_eq x name) (position names name) (position (take k names) name) (position-take k names name)
  where
    by : (b : Bool) (o p : Option ℕ) → p ≡ below k o → cond b (Some 0) (option_map suc p) ≡ below (suc k) (cond b (Some 0) (option_map suc o))
    by true o p rest = first-below k
    by false o p rest = ap (option_map suc) rest ∙ suc-below k o

-- a name has a place where it is one of the names
pub position-known : (names : List Name) (name : Name) → is_some (position names name) ≡ list_any (λ x. bytes_eq x name) names
position-known [] name = refl
position-known (x ∷ names) name = by (bytes_eq x name) (position names name) ∙ ap (λ b. bytes_eq x name || b) (position-known names name)
  where
    by : (b : Bool) (o : Option ℕ) → is_some (cond b (Some 0) (option_map suc o)) ≡ (b || is_some o)
    by true o = refl
    by false None = refl
    by false (Some i) = refl

-- ---- names beside values

-- what stands beside a name is the value at its first place
pub find_name-zip : {X : Type 0} (names : List Name) (values : List X) (name : Name) → length names ≡ length values
    → find_name (zip names values) name ≡ option_and_then (λ i. slice_get values i) (position names name)
find_name-zip [] values name long = refl
find_name-zip (x ∷ names) [] name long = cc
find_name-zip {X} (x ∷ names) (v ∷ values) name long = by (bytes_eq x name) (position names name) (find_name-zip names values name (omega arith))
  where
    by : (b : Bool) (o : Option ℕ) → find_name (zip names values) name ≡ option_and_then (λ i. slice_get values i) o
        → cond b (Some v) (find_name (zip names values) name) ≡ option_and_then (λ i. slice_get (v ∷ values) i) (cond b (Some 0) (option_map suc o))
    by true o rest = refl
    by false None rest = rest
    by false (Some j) rest = rest

-- one more pair at the end
pub zip-push : {X : Type 0} (names : List Name) (values : List X) (name : Name) (v : X) → length names ≡ length values
    → zip (names ++ name ∷ []) (values ++ v ∷ []) ≡ zip names values ++ (name, v) ∷ []
zip-push [] [] name v long = refl
zip-push [] (w ∷ values) name v long = cc
zip-push (x ∷ names) [] name v long = cc
zip-push (x ∷ names) (w ∷ values) name v long = ap (λ l. (x, w) ∷ l) (zip-push names values name v (omega arith))

-- the same, where the new lists are known
pub zip-pushed : {X : Type 0} (names names' : List Name) (values values' : List X) (name : Name) (v : X) (pairs : List (Name × X)) → length names ≡ length values
    → zip names values ≡ pairs → (names' ≡ names ++ name ∷ []) × (values' ≡ values ++ v ∷ []) → zip names' values' ≡ pairs ++ (name, v) ∷ []
zip-pushed names names' values values' name v pairs long view new =
    ap (λ ns. zip ns values') new.0 ∙ ap (λ vs. zip (names ++ name ∷ []) vs) new.1 ∙ zip-push names values name v long ∙ ap (λ l. l ++ (name, v) ∷ []) view

-- what is found at a place that was found
pub zip-found : {X : Type 0} (names : List Name) (values : List X) (name : Name) (place : Option ℕ) (items : List X) (pairs : List (Name × X)) (found : Option X)
    → length names ≡ length values → zip names values ≡ pairs → place ≡ position names name → items ≡ values → found ≡ option_and_then (λ i. slice_get items i) place
    → found ≡ find_name pairs name
zip-found names values name place items pairs found long view at same is =
    is ∙ ap (λ l. option_and_then (λ i. slice_get l i) place) same ∙ ap (λ o. option_and_then (λ i. slice_get values i) o) at ∙ sym (find_name-zip names values name long) ∙ ap (λ l. find_name l name) view
