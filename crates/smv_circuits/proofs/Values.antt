-- What literals and gates are worth.
use Rattle.std.proofs.Common.{◌≡◌, ◌≢◌, ◌∙◌, ℕ, zero, suc, ◌+◌, ◌*◌, ◌<◌, ◌≤◌, Bool, true, false, ◌&&◌, not, if◌then◌else◌, List, [], ◌∷◌, ◌++◌, length, slice_get, Some, refl, sym, ap, ap₂, arith}
use Rattle.std.specs.Int.{from_bool}
use Rattle.law_lists.proofs.Options.{some_is}
use Rattle.bdd_store.specs.Graph.{with_at}
use Rattle.bdd_store.proofs.Walks.{with_here, with_other}
use Rattle.smv_circuits.specs.declared.circuit.Literal.{Literal}
use Rattle.smv_circuits.specs.declared.circuit.Gate.{Gate}
use Rattle.smv_circuits.specs.Circuits.{AreApart, AreGates, IsGateOf, IsSimple, gate_value, holds, number_of, under_test, value, values, values_of}

-- ---- literals

-- the negation where the sign says so
abbrev turned : Bool → Bool → Bool
turned sign x = if sign then not x else x

turned_turned : (sign x : Bool) → turned (not sign) x ≡ not (turned sign x)
turned_turned true true = refl
turned_turned true false = refl
turned_turned false x = refl

pub negated_holds : (one made : Literal) → made.variable ≡ one.variable → made.inverted ≡ not one.inverted → (a : ℕ → Bool) → holds a made ≡ not (holds a one)
negated_holds one made e f a = ap₂ (λ (s : Bool) (v : ℕ). turned s (a v)) f e ∙ turned_turned one.inverted (a one.variable)

-- a literal is worth what its variable is
pub holds_alike : (a b : ℕ → Bool) (l : Literal) → a l.variable ≡ b l.variable → holds a l ≡ holds b l
holds_alike a b l e = ap (turned l.inverted) e

pub gate_alike : (a b : ℕ → Bool) (gate : Gate) → a gate.left.variable ≡ b gate.left.variable → a gate.right.variable ≡ b gate.right.variable → gate_value a gate ≡ gate_value b gate
gate_alike a b gate e f = ap₂ ◌&&◌ (holds_alike a b gate.left e) (holds_alike a b gate.right f)

sign_of_false : (sign : Bool) → turned sign false ≡ sign
sign_of_false true = refl
sign_of_false false = refl

pub constant_holds : (a : ℕ → Bool) (l : Literal) → l.variable ≡ 0 → a 0 ≡ false → holds a l ≡ l.inverted
constant_holds a l e z = ap (λ (v : ℕ). turned l.inverted (a v)) e ∙ (ap (turned l.inverted) z ∙ sign_of_false l.inverted)

pub under_holds : (a : ℕ → Bool) (test : Bool) (l : Literal) → a 0 ≡ false → holds a (under_test test l) ≡ (test && holds a l)
under_holds a true l z = refl
under_holds a false l z = z

under_at : (test : Bool) (l : Literal) (n : ℕ) → l.variable < n → (under_test test l).variable < n
under_at true l n lt = lt
under_at false l n lt = omega (arith, lt)

both_turned : (x y : Bool) → (x && y) ≡ (y && x)
both_turned true true = refl
both_turned true false = refl
both_turned false true = refl
both_turned false false = refl

same_variable : (i j x : Bool) → ((if i then j else not j) && turned i x) ≡ (turned i x && turned j x)
same_variable true true true = refl
same_variable true true false = refl
same_variable true false true = refl
same_variable true false false = refl
same_variable false true true = refl
same_variable false true false = refl
same_variable false false true = refl
same_variable false false false = refl

pub simple_first : (one other : Literal) → one.variable ≡ 0 → IsSimple one other (under_test one.inverted other)
simple_first one other e = record {
  at = λ n here there. under_at one.inverted other n there;
  value = λ a z. under_holds a one.inverted other z ∙ ap (λ (x : Bool). x && holds a other) (sym (constant_holds a one e z));
}

pub simple_second : (one other : Literal) → other.variable ≡ 0 → IsSimple one other (under_test other.inverted one)
simple_second one other e = record {
  at = λ n here there. under_at other.inverted one n here;
  value = λ a z. under_holds a other.inverted one z ∙ (both_turned other.inverted (holds a one) ∙ ap (λ (x : Bool). holds a one && x) (sym (constant_holds a other e z)));
}

pub simple_same : (one other : Literal) → one.variable ≡ other.variable → IsSimple one other (under_test (if one.inverted then other.inverted else not other.inverted) one)
simple_same one other e = record {
  at = λ n here there. under_at (if one.inverted then other.inverted else not other.inverted) one n here;
  value = λ a z.
      under_holds a (if one.inverted then other.inverted else not other.inverted) one z
      ∙ (same_variable one.inverted other.inverted (a one.variable) ∙ ap (λ (v : ℕ). holds a one && turned other.inverted (a v)) e);
}

pub gate_turned : (one other : Literal) → one.variable < other.variable → IsGateOf one other (record { left = other; right = one })
gate_turned one other lt = record {
  left = λ n here there. there;
  right = lt;
  value = λ a. both_turned (holds a other) (holds a one);
}

pub gate_straight : (one other : Literal) → AreApart one other → other.variable ≤ one.variable → IsGateOf one other (record { left = one; right = other })
gate_straight one other apart before = record {
  left = λ n here there. here;
  right = let ne = apart.apart in omega (arith, before, ne);
  value = λ a. refl;
}

-- ---- numbers tell literals apart

number_is : (v w : ℕ) (s t : Bool) → 2 * v + from_bool s ≡ 2 * w + from_bool t → (v ≡ w) × (s ≡ t)
number_is v w true true e = (omega (arith, e), refl)
number_is v w true false e = absurd (omega (arith, e))
number_is v w false true e = absurd (omega (arith, e))
number_is v w false false e = (omega (arith, e), refl)

pub literal_is : (l m : Literal) → number_of l ≡ number_of m → l ≡ m
literal_is l m e = let (same, sign) = number_is l.variable m.variable l.inverted m.inverted e in λ i. record { variable = same i; inverted = sign i }

-- ---- gates

-- variables before the gates have their values
pub values_before : (own : ℕ) (gates : List Gate) (a : ℕ → Bool) (v : ℕ) → v < own → values own gates a v ≡ a v
unfolding values
values_before own [] a v lt = refl
values_before own (gate ∷ gates) a v lt =
    let ne : v ≢ own = λ e. absurd (omega (arith, lt, e)) in
    values_before (suc own) gates (with_at a own (gate_value a gate)) v (omega (arith, lt)) ∙ with_other a own (gate_value a gate) v ne

-- one gate more has its own value, and changes no other one
pub values_more : (own : ℕ) (gates : List Gate) (gate : Gate) (a : ℕ → Bool) (v : ℕ) → values own (gates ++ gate ∷ []) a v ≡ with_at (values own gates a) (own + length gates) (gate_value (values own gates a) gate) v
unfolding values
values_more own [] gate a v = let e : own ≡ own + 0 = omega arith in ap (λ (w : ℕ). with_at a w (gate_value a gate) v) e
values_more own (first ∷ gates) gate a v =
    let e : suc own + length gates ≡ own + suc (length gates) = omega arith in
    values_more (suc own) gates gate (with_at a own (gate_value a first)) v
    ∙ ap (λ (w : ℕ). with_at (values (suc own) gates (with_at a own (gate_value a first))) w (gate_value (values (suc own) gates (with_at a own (gate_value a first))) gate) v) e

-- a gate that stands is worth its literals
pub values_at : (own : ℕ) (gates : List Gate) (gate : Gate) (a : ℕ → Bool) (place : ℕ) → AreGates own gates → slice_get gates place ≡ Some gate → values own gates a (own + place) ≡ gate_value (values own gates a) gate
unfolding values
values_at own [] gate a place are e = absurd (cc (e))
values_at own (first ∷ gates) gate a zero are e =
    ap (values (suc own) gates b) here ∙ (values_before (suc own) gates b own (omega arith) ∙ (with_here a own (gate_value a first) ∙ (sym literals ∙ ap (gate_value (values (suc own) gates b)) same)))
  where
    b : ℕ → Bool
    b = with_at a own (gate_value a first)

    same : first ≡ gate
    same = some_is e

    here : own + 0 ≡ own
    here = omega arith

    before : (v : ℕ) → v < own → values (suc own) gates b v ≡ a v
    before v lt = let ne : v ≢ own = λ e. absurd (omega (arith, lt, e)) in values_before (suc own) gates b v (omega (arith, lt)) ∙ with_other a own (gate_value a first) v ne

    literals : gate_value (values (suc own) gates b) first ≡ gate_value a first
    literals =
        let left = are.0 in
        let right = are.1 in
        gate_alike (values (suc own) gates b) a first (before first.left.variable left) (before first.right.variable (omega (arith, left, right)))
values_at own (first ∷ gates) gate a (suc place) are e =
    let next : own + suc place ≡ suc own + place = omega arith in
    ap (values (suc own) gates (with_at a own (gate_value a first))) next ∙ values_at (suc own) gates gate (with_at a own (gate_value a first)) place are.2 e

pub gates_more : (own : ℕ) (gates : List Gate) (gate : Gate) → AreGates own gates → gate.left.variable < own + length gates → gate.right.variable < gate.left.variable → AreGates own (gates ++ gate ∷ [])
gates_more own [] gate are left right = (omega (arith, left), right, tt)
gates_more own (first ∷ gates) gate are left right = (are.0, are.1, gates_more (suc own) gates gate are.2 (omega (arith, left)) right)

pub place_within : (gates : List Gate) (gate : Gate) (place : ℕ) → slice_get gates place ≡ Some gate → place < length gates
place_within [] gate place e = absurd (cc (e))
place_within (first ∷ gates) gate zero e = omega arith
place_within (first ∷ gates) gate (suc place) e = let lt = place_within gates gate place e in omega (arith, lt)

pub zero_false : (first : ℕ) (gates : List Gate) (a : ℕ → Bool) → 0 < first → values_of first gates a 0 ≡ false
zero_false first gates a lt = values_before first gates (with_at a 0 false) 0 lt ∙ with_here a 0 false

-- an input or a latch has its value
pub input_value : (first : ℕ) (gates : List Gate) (a : ℕ → Bool) (l : Literal) → l.variable < first → l.variable ≢ 0 → l.inverted ≡ false → value first gates a l ≡ a l.variable
input_value first gates a l lt some plain =
    ap (λ (s : Bool). turned s (values_of first gates a l.variable)) plain ∙ (values_before first gates (with_at a 0 false) l.variable lt ∙ with_other a 0 false l.variable some)
