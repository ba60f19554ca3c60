-- Elements as they are written: when two are the same, their order, and lists of elements that hold each once.
use Rattle.std.specs.Prelude.{ℕ, List, [], ◌∷◌, ◌++◌, length, Bool, true, false, ◌&&◌, ◌||◌, if◌then◌else◌, nat_eq, nat_lt, take, drop, Option, Some, None, IsTrue}
use Rattle.std.specs.List.{list_any}
use Rattle.smv_core.specs.declared.flat.Class.{Class}
use Rattle.smv_core.specs.declared.flat.Class.TheVariants.{Number, Named, Rest}
use Rattle.smv_core.specs.declared.flat.Element.{Element}
use Rattle.law_obligations.specs.Sets.{Has}

-- numbers stand before classes and these before rests
abbrev pub sort_of : Class → ℕ
sort_of (Number k) = 0
sort_of (Named k) = 1
sort_of (Rest g) = 2

abbrev pub number_of : Class → ℕ
number_of (Number k) = k
number_of (Named k) = k
number_of (Rest g) = g

-- what an element is told apart by: its family, and of each index its sort and its number
abbrev pub keys : List Class → List ℕ
keys [] = []
keys (c ∷ cs) = sort_of c ∷ number_of c ∷ keys cs

abbrev pub key : Element → List ℕ
key x = x.family ∷ keys x.indexes

-- by the first number in which they differ
abbrev pub numbers_before : List ℕ → List ℕ → Bool
numbers_before [] [] = false
numbers_before [] (b ∷ bs) = true
numbers_before (a ∷ ms) [] = false
numbers_before (a ∷ ms) (b ∷ bs) = nat_lt a b || (nat_eq a b && numbers_before ms bs)

abbrev pub same_numbers : List ℕ → List ℕ → Bool
same_numbers [] [] = true
same_numbers (a ∷ ms) (b ∷ bs) = nat_eq a b && same_numbers ms bs
same_numbers _ _ = false

abbrev pub same_element : Element → Element → Bool
same_element x y = same_numbers (key x) (key y)

-- by families and then by the first index in which they differ
abbrev pub is_before : Element → Element → Bool
is_before x y = numbers_before (key x) (key y)

-- each stands before all that follow
abbrev pub AreInOrder : List Element → Type 0
AreInOrder [] = Unit {0}
AreInOrder (x ∷ xs) = ((y : Element) → Has xs y → IsTrue (is_before x y)) × AreInOrder xs

-- two lists with the same members
pub record HaveSame (xs ys : List Element) : Type 0 where
  pub there : (x : Element) → Has xs x → Has ys x
  pub back : (x : Element) → Has ys x → Has xs x

-- as many elements as a case may have state bits
abbrev pub most : ℕ
most = 1024

-- more elements than that
abbrev pub is_full : List Element → Bool
is_full found = nat_lt most (length found)

-- one of these
abbrev pub is_among : List Element → Element → Bool
is_among found x = list_any (same_element x) found

-- an element put at the end, unless it is there, or there are too many already
abbrev pub put : List Element → Element → List Element
put found x = if is_full found || is_among found x then found else found ++ x ∷ []

-- so each of some elements in turn
unfoldable pub put_all : List Element → List Element → List Element
put_all found [] = found
put_all found (x ∷ xs) = put_all (put found x) xs

-- the element stands here
abbrev pub is_at : Element → Option Element → Bool
is_at x None = false
is_at x (Some y) = same_element x y

-- an element put at this place
abbrev pub inserted : List Element → ℕ → Element → List Element
inserted xs i x = take i xs ++ x ∷ drop i xs
