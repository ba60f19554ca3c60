-- Worked expressions and right sides, in a state where every element is 0. Each answer is worked out from the rules of the language.
use Rattle.std.proofs.Common.{◌≡◌, ℕ, List, [], ◌∷◌, map, refl, Some, None, true, false, Bool}
use Rattle.smv_core.specs.Values.{Value, number, Outcome, range, scalarset, ordset, values_of}
use Rattle.smv_core.specs.Types.{one_value}
use Rattle.smv_core.specs.Outcome.{State, Scene, outcome, allowed_by}
use Rattle.smv_core.specs.declared.tree.Op.TheVariants as op
use Rattle.smv_core.specs.declared.tree.Expr.{Expr, Signal, Not, And, Or, Implies, Iff, Compare, Within, Sum, Modulo, Choose, All, Any, Each}
use Rattle.smv_core.specs.declared.tree.Expr as e
use Rattle.smv_core.specs.declared.tree.Member.{One, Span}
use Rattle.smv_core.specs.declared.tree.Signed.{Signed, roll-Signed}
use Rattle.smv_core.specs.declared.tree.TypeExpr.{Named}
use Rattle.law_meaning.proofs.Built.{computing, w, i, j, r, s, t, x, y, z, sig, num, plus, minus, list, eq, span, at}

-- scalarset t and ordset s, each of three values; x : 0..7; y : array 0..1 of 0..0; r and z are constants
abbrev scene : Scene
scene = record {
  types = (t ∷ [], one_value (scalarset (t ∷ []))) ∷ (s ∷ [], one_value (ordset (s ∷ []))) ∷ [];
  families = record { path = (x ∷ []) ∷ []; over = []; value = range 0 7; is_abstract = false }
      ∷ record { path = (y ∷ []) ∷ []; over = range 0 1 ∷ []; value = range 0 0; is_abstract = false } ∷ [];
  sizes = λ _. 3;
  instance = [];
}

abbrev zeros : State
zeros path vs = number 0

abbrev means : Expr → Outcome
means e = outcome scene zeros e []

-- `y[2]`, an index outside its range
abbrev undefined : Expr
undefined = Signal (at y (num 2))

abbrev truth : ℕ → Outcome
truth n = Some (number n)

abbrev signed : Bool → ℕ → Signed
signed minus n = roll-Signed (record { minus = minus; of = num n })

-- `y[2]`: an index outside its range is Undefined
index-outside : means undefined ≡ None
unfolding computing
index-outside = refl

-- `y[1]` is the element's value, 0
index-inside : means (Signal (at y (num 1))) ≡ truth 0
unfolding computing
index-inside = refl

-- `y[y[2]]`: an Undefined index makes the whole Undefined
index-undefined : means (Signal (at y undefined)) ≡ None
unfolding computing
index-undefined = refl

-- `0 & y[2]` is 0
false-and-undefined : means (And (num 0 ∷ undefined ∷ [])) ≡ truth 0
unfolding computing
false-and-undefined = refl

-- `y[2] & 0` is 0 too: from either side
undefined-and-false : means (And (undefined ∷ num 0 ∷ [])) ≡ truth 0
unfolding computing
undefined-and-false = refl

-- `1 & y[2]` is Undefined
true-and-undefined : means (And (num 1 ∷ undefined ∷ [])) ≡ None
unfolding computing
true-and-undefined = refl

-- `1 | y[2]` is 1
true-or-undefined : means (Or (num 1 ∷ undefined ∷ [])) ≡ truth 1
unfolding computing
true-or-undefined = refl

-- `y[2] | 1` is 1 too: from either side
undefined-or-true : means (Or (undefined ∷ num 1 ∷ [])) ≡ truth 1
unfolding computing
undefined-or-true = refl

-- `0 -> y[2]` is 1
false-implies-undefined : means (Implies (num 0 ∷ undefined ∷ [])) ≡ truth 1
unfolding computing
false-implies-undefined = refl

-- `y[2] -> 1` is 1
undefined-implies-true : means (Implies (undefined ∷ num 1 ∷ [])) ≡ truth 1
unfolding computing
undefined-implies-true = refl

-- `y[2] -> 0` is Undefined
undefined-implies-false : means (Implies (undefined ∷ num 0 ∷ [])) ≡ None
unfolding computing
undefined-implies-false = refl

-- `0 -> 1 -> 0` is `0 -> (1 -> 0)`, so 1; to the left it would be 0
implies-to-the-right : means (Implies (num 0 ∷ num 1 ∷ num 0 ∷ [])) ≡ truth 1
unfolding computing
implies-to-the-right = refl

-- `~y[2]` is Undefined
not-undefined : means (Not undefined 0) ≡ None
unfolding computing
not-undefined = refl

-- `y[2] <-> 1` is Undefined
iff-undefined : means (Iff undefined (num 1)) ≡ None
unfolding computing
iff-undefined = refl

-- `0 <-> 0` is 1
iff-equal : means (Iff (num 0) (num 0)) ≡ truth 1
unfolding computing
iff-equal = refl

-- `2 & 1`: a number above 1 counts as Undefined under a logic operator
two-is-no-truth : means (And (num 2 ∷ num 1 ∷ [])) ≡ None
unfolding computing
two-is-no-truth = refl

-- `2 & 0` is 0, as with Undefined
false-and-two : means (And (num 2 ∷ num 0 ∷ [])) ≡ truth 0
unfolding computing
false-and-two = refl

-- `2 <-> 2` is Undefined, though its sides are equal
iff-two : means (Iff (num 2) (num 2)) ≡ None
unfolding computing
iff-two = refl

-- `y[2] = y[2]` is Undefined
equal-undefined : means (eq undefined undefined) ≡ None
unfolding computing
equal-undefined = refl

-- `510 + 1` is 511
sum-511 : means (plus (num 510) (num 1)) ≡ truth 511
unfolding computing
sum-511 = refl

-- `511 + 1`: a sum above 511 is Undefined
sum-512 : means (plus (num 511) (num 1)) ≡ None
unfolding computing
sum-512 = refl

-- `0 - 1`: a difference below 0 is Undefined
difference-below : means (minus (num 0) (num 1)) ≡ None
unfolding computing
difference-below = refl

-- `7 mod 4` is 3
mod-two : means (Modulo (num 7) 4 0) ≡ truth 3
unfolding computing
mod-two = refl

-- `3 in {9, 2..4}` is 1: the span stands for 2, 3 and 4
in-span : means (Within (num 3) (e.List (One (num 9) ∷ Span (record { low = 2; high = 4 }) 0 ∷ []) 0)) ≡ truth 1
unfolding computing
in-span = refl

-- `5 in {9, 2..4}` is 0
not-in-span : means (Within (num 5) (e.List (One (num 9) ∷ Span (record { low = 2; high = 4 }) 0 ∷ []) 0)) ≡ truth 0
unfolding computing
not-in-span = refl

-- `1 in {y[2], 1}`: Undefined or 1, which is 1
in-with-undefined : means (Within (num 1) (list (undefined ∷ num 1 ∷ []))) ≡ truth 1
unfolding computing
in-with-undefined = refl

-- `1 in {y[2], 2}`: Undefined or 0, which is Undefined
in-without-undefined : means (Within (num 1) (list (undefined ∷ num 2 ∷ []))) ≡ None
unfolding computing
in-without-undefined = refl

-- `y[2] in {0}` is Undefined
undefined-in : means (Within undefined (list (num 0 ∷ []))) ≡ None
unfolding computing
undefined-in = refl

-- `2 ? 0 : 0`: a condition that is neither 0 nor 1 makes it Undefined, though the branches agree
choose-two : means (Choose (num 2) (num 0) (num 0)) ≡ None
unfolding computing
choose-two = refl

-- `1 ? 5 : y[2]` is 5: the other branch does not count
choose-left : means (Choose (num 1) (num 5) undefined) ≡ truth 5
unfolding computing
choose-left = refl

-- `0 ? y[2] : 5` is 5
choose-right : means (Choose (num 0) undefined (num 5)) ≡ truth 5
unfolding computing
choose-right = refl

-- `3 >= x` is 1 where x is 0
at-least : means (Compare op.AtLeast (num 3) (sig x)) ≡ truth 1
unfolding computing
at-least = refl

-- `r ~= z` is 1: two constants are unequal
constants-differ : means (Compare op.Differ (sig r) (sig z)) ≡ truth 1
unfolding computing
constants-differ = refl

-- `&[ y[i] = 0 : i in 0..1 ]` is 1: both elements are 0
all-values : means (All (eq (Signal (at y (sig i))) (num 0)) (w i) (span 0 1) 0) ≡ truth 1
unfolding computing
all-values = refl

-- `&[ y[i] = 0 : i in 0..2 ]`: 1 and 1 and Undefined, which is Undefined
all-with-undefined : means (All (eq (Signal (at y (sig i))) (num 0)) (w i) (span 0 2) 0) ≡ None
unfolding computing
all-with-undefined = refl

-- `|[ i = 2 : i in 0..2 ]` is 1
any-value : means (Any (eq (sig i) (num 2)) (w i) (span 0 2) 0) ≡ truth 1
unfolding computing
any-value = refl

-- `|[ |[ i ~= j : j in t ] : i in t ]` is 1: of three values two differ
any-of-set : means (Any (Any (Compare op.Differ (sig i) (sig j)) (w j) (Named (w t) 0) 0) (w i) (Named (w t) 0) 0) ≡ truth 1
unfolding computing
any-of-set = refl

-- `|[ i < i : i in t ]`: no text may ask for an order of a scalarset; it would be Undefined
no-order-of-scalars : means (Any (Compare op.Less (sig i) (sig i)) (w i) (Named (w t) 0) 0) ≡ None
unfolding computing
no-order-of-scalars = refl

-- `y[2] | 0` is Undefined
undefined-or-false : means (Or (undefined ∷ num 0 ∷ [])) ≡ None
unfolding computing
undefined-or-false = refl

-- `1 -> y[2]` is Undefined
true-implies-undefined : means (Implies (num 1 ∷ undefined ∷ [])) ≡ None
unfolding computing
true-implies-undefined = refl

-- `~2` is Undefined
not-two : means (Not (num 2) 0) ≡ None
unfolding computing
not-two = refl

-- `1 <-> 0` is 0
iff-differ : means (Iff (num 1) (num 0)) ≡ truth 0
unfolding computing
iff-differ = refl

-- `y[2] <= 3` is Undefined
order-undefined : means (Compare op.AtMost undefined (num 3)) ≡ None
unfolding computing
order-undefined = refl

-- `5 - 3 + 1` is 3: sums and differences go from the left
left-to-right : means (Sum (num 5) (signed true 3 ∷ signed false 1 ∷ [])) ≡ truth 3
unfolding computing
left-to-right = refl

-- `1 - 2 + 3`: what is below 0 on the way makes it Undefined
below-on-the-way : means (Sum (num 1) (signed true 2 ∷ signed false 3 ∷ [])) ≡ None
unfolding computing
below-on-the-way = refl

-- `y[2] mod 2` is Undefined
mod-undefined : means (Modulo undefined 2 0) ≡ None
unfolding computing
mod-undefined = refl

-- `y[2] ? 1 : 1` is Undefined
choose-undefined : means (Choose undefined (num 1) (num 1)) ≡ None
unfolding computing
choose-undefined = refl

-- `&[ y[i] : i in 0..2 ]` is 0: 0 and 0 and Undefined
all-with-false : means (All (Signal (at y (sig i))) (w i) (span 0 2) 0) ≡ truth 0
unfolding computing
all-with-false = refl

-- `|[ y[i] = 0 : i in 0..2 ]` is 1: 1 or 1 or Undefined
any-with-true : means (Any (eq (Signal (at y (sig i))) (num 0)) (w i) (span 0 2) 0) ≡ truth 1
unfolding computing
any-with-true = refl

-- `&[ &[ i < j | i = j | j < i : j in s ] : i in s ]` is 1: an ordset is a linear order
order-of-ordinals : means (All (All (Or (Compare op.Less (sig i) (sig j) ∷ eq (sig i) (sig j) ∷ Compare op.Less (sig j) (sig i) ∷ [])) (w j) (Named (w s) 0) 0) (w i) (Named (w s) 0) 0) ≡ truth 1
unfolding computing
order-of-ordinals = refl

-- `|[ &[ i <= j : j in s ] : i in s ]` is 1: it has a least value
least-ordinal : means (Any (All (Compare op.AtMost (sig i) (sig j)) (w j) (Named (w s) 0) 0) (w i) (Named (w s) 0) 0) ≡ truth 1
unfolding computing
least-ordinal = refl

-- the values of 0..3, and what a right side allows
abbrev gives : ℕ → ℕ → Expr → List Value
gives low high e = allowed_by scene zeros (values_of (λ _. 3) (range low high)) e []

abbrev numbers : List ℕ → List Value
numbers ns = map number ns

-- `{0, 2}` allows 0 and 2
listed : gives 0 3 (list (num 0 ∷ num 2 ∷ [])) ≡ numbers (0 ∷ 2 ∷ [])
unfolding computing
listed = refl

-- `{0, 4}` in 0..3: a member outside the type allows every value
listed-outside : gives 0 3 (list (num 0 ∷ num 4 ∷ [])) ≡ numbers (0 ∷ 1 ∷ 2 ∷ 3 ∷ [])
unfolding computing
listed-outside = refl

-- `{0, y[2]}` in 0..1: an Undefined member allows every value
listed-undefined : gives 0 1 (list (num 0 ∷ undefined ∷ [])) ≡ numbers (0 ∷ 1 ∷ [])
unfolding computing
listed-undefined = refl

-- `2` in 0..1: a right side outside the type allows every value
outside-type : gives 0 1 (num 2) ≡ numbers (0 ∷ 1 ∷ [])
unfolding computing
outside-type = refl

-- `1` allows 1 alone
one-value : gives 0 1 (num 1) ≡ numbers (1 ∷ [])
unfolding computing
one-value = refl

-- `{i : i in 0..3, i < 2}` allows 0 and 1
comprehension : gives 0 3 (Each (w i) (span 0 3) (Some (Compare op.Less (sig i) (num 2))) 0) ≡ numbers (0 ∷ 1 ∷ [])
unfolding computing
comprehension = refl

-- `{i : i in 1..2}` allows 1 and 2
comprehension-of-all : gives 0 3 (Each (w i) (span 1 2) None 0) ≡ numbers (1 ∷ 2 ∷ [])
unfolding computing
comprehension-of-all = refl

-- `{i : i in 0..3, i > 5}` has no member and allows every value
comprehension-without-member : gives 0 3 (Each (w i) (span 0 3) (Some (Compare op.Greater (sig i) (num 5))) 0) ≡ numbers (0 ∷ 1 ∷ 2 ∷ 3 ∷ [])
unfolding computing
comprehension-without-member = refl

-- `{i : i in 1..2}` in 0..1: the member 2 is outside and allows every value
comprehension-outside : gives 0 1 (Each (w i) (span 1 2) None 0) ≡ numbers (0 ∷ 1 ∷ [])
unfolding computing
comprehension-outside = refl

-- `{i : i in 0..1, y[2]}`: the condition is 1 nowhere, so every value
comprehension-undefined : gives 0 1 (Each (w i) (span 0 1) (Some undefined) 0) ≡ numbers (0 ∷ 1 ∷ [])
unfolding computing
comprehension-undefined = refl

-- `1 ? {1, 2} : 0` allows 1 and 2
branch-of-sets : gives 0 3 (Choose (num 1) (list (num 1 ∷ num 2 ∷ [])) (num 0)) ≡ numbers (1 ∷ 2 ∷ [])
unfolding computing
branch-of-sets = refl

-- `2 ? 0 : 0` as a right side is Undefined, so every value
branch-of-neither : gives 0 1 (Choose (num 2) (num 0) (num 0)) ≡ numbers (0 ∷ 1 ∷ [])
unfolding computing
branch-of-neither = refl

-- `{i : i in 0..2, i}`: the condition i is 1 at 1 alone, and 2 is not 1
comprehension-at-one : gives 0 3 (Each (w i) (span 0 2) (Some (sig i)) 0) ≡ numbers (1 ∷ [])
unfolding computing
comprehension-at-one = refl

-- `{i : i in 0..3, i < 2}` in 0..1: those that have the condition are inside the type
comprehension-inside : gives 0 1 (Each (w i) (span 0 3) (Some (Compare op.Less (sig i) (num 2))) 0) ≡ numbers (0 ∷ 1 ∷ [])
unfolding computing
comprehension-inside = refl

-- `{i : i in 0..3, i = 3}` in 0..1: its one member is outside the type
comprehension-one-outside : gives 0 1 (Each (w i) (span 0 3) (Some (eq (sig i) (num 3))) 0) ≡ numbers (0 ∷ 1 ∷ [])
unfolding computing
comprehension-one-outside = refl

-- `0 ? {0} : y[2]` in 0..1: the branch is Undefined, so every value
branch-undefined : gives 0 1 (Choose (num 0) (list (num 0 ∷ [])) undefined) ≡ numbers (0 ∷ 1 ∷ [])
unfolding computing
branch-undefined = refl

-- `{0, 2..3}` allows 0, 2 and 3
listed-span : gives 0 3 (e.List (One (num 0) ∷ Span (record { low = 2; high = 3 }) 0 ∷ []) 0) ≡ numbers (0 ∷ 2 ∷ 3 ∷ [])
unfolding computing
listed-span = refl
