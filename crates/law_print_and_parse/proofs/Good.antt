-- Lists of tokens that a text can have, put together.
use Rattle.std.proofs.Common.{◌≡◌, ℕ, zero, suc, take, drop, ◌<◌, ◌≤◌, List, [], ◌∷◌, ◌++◌, map, sym, subst}
use Rattle.std.specs.List.{flat_map}
use Rattle.smv_core.specs.declared.token.TokenKind.{TokenKind}
use Rattle.smv_core.specs.declared.token.TokenKind.TheVariants.{Ident, Number, Sign, Reserved}
use Rattle.smv_print.specs.Written.{Kinds, separated, preceded}
use Rattle.law_print_and_parse.specs.Readable.{IsReadable, AreReadable}

-- each of the tokens can stand in a text
pub record Good (ks : Kinds) : Type 0 where
  pub readable : AreReadable ks

-- the bytes of a name
pub record IsName (bytes : List ℕ) : Type 0 where
  pub is : IsReadable (Ident bytes)

abbrev pub IsNumber : ℕ → Type 0
IsNumber value = value ≤ 511

-- each of the values
abbrev pub Each : {A : Type 0} → (A → Type 0) → List A → Type 0
Each P [] = Unit {0}
Each P (x ∷ xs) = P x × Each P xs

pub each-map : {A B : Type 0} (P : B → Type 0) (f : A → B) (xs : List A) → Each (λ x. P (f x)) xs → Each P (map f xs)
each-map P f [] all = tt
each-map P f (x ∷ xs) all = (all.0, each-map P f xs all.1)

pub good-none : Good []
good-none = record { readable = tt }

pub good-token : (k : TokenKind) (ks : Kinds) → IsReadable k → Good ks → Good (k ∷ ks)
good-token k ks readable more = record { readable = (readable, more.readable) }

pub good-sign : (i : ℕ) (ks : Kinds) → i < 27 → Good ks → Good (Sign i ∷ ks)
good-sign i ks less more = good-token (Sign i) ks less more

pub good-reserved : (i : ℕ) (ks : Kinds) → i < 33 → Good ks → Good (Reserved i ∷ ks)
good-reserved i ks less more = good-token (Reserved i) ks less more

pub good-name : (bytes : List ℕ) (ks : Kinds) → IsName bytes → Good ks → Good (Ident bytes ∷ ks)
good-name bytes ks name more = good-token (Ident bytes) ks name.is more

pub good-number : (value : ℕ) (ks : Kinds) → value ≤ 511 → Good ks → Good (Number value ∷ ks)
good-number value ks few more = good-token (Number value) ks few more

pub good-append : (a b : Kinds) → Good a → Good b → Good (a ++ b)
good-append [] b left right = right
good-append (k ∷ a) b left right = good-token k (a ++ b) left.readable.0 (good-append a b (record { readable = left.readable.1 }) right)

pub good-flat : {A : Type 0} (f : A → Kinds) (xs : List A) → Each (λ x. Good (f x)) xs → Good (flat_map f xs)
good-flat f [] all = good-none
good-flat f (x ∷ xs) all = good-append (f x) (flat_map f xs) all.0 (good-flat f xs all.1)

-- a token between any two
pub good-separated : {A : Type 0} (k : TokenKind) (f : A → Kinds) (xs : List A) → IsReadable k → Each (λ x. Good (f x)) xs → Good (separated k (map f xs))
good-separated k f [] readable all = good-none
good-separated k f (x ∷ xs) readable all = good-append (f x) (preceded k (map f xs)) all.0 (rest xs all.1)
  where
    rest : (xs : List _) → Each (λ x. Good (f x)) xs → Good (preceded k (map f xs))
    rest [] all = good-none
    rest (x ∷ xs) all = good-append (k ∷ f x) (preceded k (map f xs)) (good-token k (f x) readable all.0) (rest xs all.1)

pub good-as : {a b : Kinds} → a ≡ b → Good b → Good a
good-as e good = subst Good (sym e) good

pub ruleset goods = (good-none, good-sign, good-reserved, good-name, good-number, good-append)

pub each-as : {A : Type 0} {P Q : A → Type 0} (xs : List A) → ((x : A) → P x → Q x) → Each P xs → Each Q xs
each-as [] f all = tt
each-as (x ∷ xs) f all = (f x all.0, each-as xs f all.1)

pub each-take : {A : Type 0} (P : A → Type 0) (n : ℕ) (xs : List A) → Each P xs → Each P (take n xs)
each-take P zero xs all = tt
each-take P (suc n) [] all = tt
each-take P (suc n) (x ∷ xs) all = (all.0, each-take P n xs all.1)

pub each-drop : {A : Type 0} (P : A → Type 0) (n : ℕ) (xs : List A) → Each P xs → Each P (drop n xs)
each-drop P zero xs all = all
each-drop P (suc n) [] all = tt
each-drop P (suc n) (x ∷ xs) all = each-drop P n xs all.1
