-- Literals that are made.
use Rattle.std.proofs.Common.{◌≡◌, ◌≢◌, ◌∙◌, ℕ, ◌+◌, ◌<◌, Bool, true, false, ◌&&◌, not, if◌then◌else◌, List, [], ◌∷◌, ◌++◌, length, slice_get, Some, refl, sym, ap, ap₂, subst, arith}
use Rattle.std.proofs.lemmas.List.{length-append}
use Rattle.bdd_store.specs.Graph.{with_at}
use Rattle.bdd_store.proofs.Walks.{with_here, with_other}
use Rattle.smv_circuits.specs.declared.circuit.Literal.{Literal}
use Rattle.smv_circuits.specs.declared.circuit.Gate.{Gate}
use Rattle.smv_circuits.specs.Circuits.{Adds, IsCircuit, IsGateOf, IsIn, IsSimple, Keeps, gate_value, number_of, value, values_of}
use Rattle.smv_circuits.proofs.Values.{constant_holds, gates_more, holds_alike, literal_is, negated_holds, place_within, values_at, values_more, zero_false}

-- ---- circuits that grow

pub keeps_self : (first : ℕ) (gates : List Gate) → Keeps first gates first gates
keeps_self first gates = record { stays = refl; longer = omega arith; same = λ l within a. refl }

pub in_then : (first next : ℕ) (old new : List Gate) (l : Literal) → Keeps first old next new → IsIn first old l → IsIn next new l
in_then first next old new l k within = let e = k.stays in let le = k.longer in omega (arith, e, le, within)

pub keeps_then : (first next last : ℕ) (old new all : List Gate) → Keeps first old next new → Keeps next new last all → Keeps first old last all
keeps_then first next last old new all k m = record {
  stays = m.stays ∙ k.stays;
  longer = let x = k.longer in let y = m.longer in omega (arith, x, y);
  same = λ l within a. m.same l (in_then first next old new l k within) a ∙ k.same l within a;
}

-- one gate more
pub circuit_more : (first next : ℕ) (gates new : List Gate) (gate : Gate) → IsCircuit first gates → gate.left.variable < first + length gates → gate.right.variable < gate.left.variable → first + length gates < 1073741824 → next ≡ first → new ≡ gates ++ gate ∷ [] →
    IsCircuit next new
circuit_more first next gates new gate is left right few e f =
    subst (λ (n : ℕ). IsCircuit n new) (sym e) (subst (IsCircuit first) (sym f) (record {
      some = is.some;
      few = let long = length-append gates (gate ∷ []) in omega (arith, long, few);
      gates = gates_more first gates gate is.gates left right;
    }))

pub keeps_more : (first next : ℕ) (gates new : List Gate) (gate : Gate) → next ≡ first → new ≡ gates ++ gate ∷ [] → Keeps first gates next new
keeps_more first next gates new gate e f =
    subst (λ (n : ℕ). Keeps first gates n new) (sym e) (subst (λ (gs : List Gate). Keeps first gates first gs) (sym f) (record {
      stays = refl;
      longer = let long = length-append gates (gate ∷ []) in omega (arith, long);
      same = same;
    }))
  where
    same : (l : Literal) → IsIn first gates l → (a : ℕ → Bool) → value first (gates ++ gate ∷ []) a l ≡ value first gates a l
    same l within a =
        let ne : l.variable ≢ first + length gates = λ e. absurd (omega (arith, within, e)) in
        holds_alike (values_of first (gates ++ gate ∷ []) a) (values_of first gates a) l
        (values_more first gates gate (with_at a 0 false) l.variable ∙ with_other (values_of first gates a) (first + length gates) (gate_value (values_of first gates a) gate) l.variable ne)

-- ---- literals

pub adds_alike : (first next : ℕ) (old new : List Gate) (made : Literal) (f g : (ℕ → Bool) → Bool) → Adds first old next new made f → ((a : ℕ → Bool) → f a ≡ g a) → Adds first old next new made g
adds_alike first next old new made f g adds same = record { circuit = adds.circuit; keeps = adds.keeps; within = adds.within; value = λ a. adds.value a ∙ same a }

-- after the circuit had grown to where the literal was made
pub adds_then : (first next last : ℕ) (old new all : List Gate) (made : Literal) (f g : (ℕ → Bool) → Bool) → Keeps first old next new → Adds next new last all made f → ((a : ℕ → Bool) → f a ≡ g a) → Adds first old last all made g
adds_then first next last old new all made f g keeps adds same = record {
  circuit = adds.circuit;
  keeps = keeps_then first next last old new all keeps adds.keeps;
  within = adds.within;
  value = λ a. adds.value a ∙ same a;
}

-- one that stands
pub adds_self : (first : ℕ) (gates : List Gate) (made : Literal) (f : (ℕ → Bool) → Bool) → IsCircuit first gates → IsIn first gates made → ((a : ℕ → Bool) → value first gates a made ≡ f a) → Adds first gates first gates made f
adds_self first gates made f is within same = record { circuit = is; keeps = keeps_self first gates; within = within; value = same }

pub constant_adds : (first : ℕ) (gates : List Gate) (made : Literal) (x : Bool) (f : (ℕ → Bool) → Bool) → IsCircuit first gates → made.variable ≡ 0 → made.inverted ≡ x → ((a : ℕ → Bool) → f a ≡ x) → Adds first gates first gates made f
constant_adds first gates made x f is e sign same =
    adds_self first gates made f is (let some = is.some in omega (arith, e, some)) (λ a. constant_holds (values_of first gates a) made e (zero_false first gates a is.some) ∙ (sign ∙ sym (same a)))

pub simple_adds : (first : ℕ) (gates : List Gate) (one other made : Literal) → IsCircuit first gates → IsIn first gates one → IsIn first gates other → IsSimple one other made →
    Adds first gates first gates made (λ a. value first gates a one && value first gates a other)
simple_adds first gates one other made is here there simple =
    adds_self first gates made (λ a. value first gates a one && value first gates a other) is (simple.at (first + length gates) here there) (λ a. simple.value (values_of first gates a) (zero_false first gates a is.some))

-- the literal of a gate that stands
pub found_adds : (first : ℕ) (gates : List Gate) (one other made : Literal) (gate : Gate) (place : ℕ) → IsCircuit first gates → IsGateOf one other gate → slice_get gates place ≡ Some gate → made.variable ≡ first + place → made.inverted ≡ false →
    Adds first gates first gates made (λ a. value first gates a one && value first gates a other)
found_adds first gates one other made gate place is of stands at plain =
    adds_self first gates made (λ a. value first gates a one && value first gates a other) is (let lt = place_within gates gate place stands in omega (arith, lt, at))
    (λ a. ap₂ (λ (s : Bool) (v : ℕ). if s then not (values_of first gates a v) else values_of first gates a v) plain at ∙ (values_at first gates gate (with_at a 0 false) place is.gates stands ∙ of.value (values_of first gates a)))

-- the literal of a gate more
pub added_adds : (first next : ℕ) (gates new : List Gate) (made : Literal) (gate : Gate) → IsCircuit first gates → gate.left.variable < first + length gates → gate.right.variable < gate.left.variable → first + length gates < 1073741824 → next ≡ first →
    new ≡ gates ++ gate ∷ [] → made.variable ≡ first + length gates → made.inverted ≡ false → Adds first gates next new made (λ a. gate_value (values_of first gates a) gate)
added_adds first next gates new made gate is left right few e f at plain = record {
  circuit = circuit_more first next gates new gate is left right few e f;
  keeps = keeps_more first next gates new gate e f;
  within = subst (λ (gs : List Gate). IsIn next gs made) (sym f) (let long = length-append gates (gate ∷ []) in omega (arith, long, e, at));
  value = λ a. ap₂ (λ (n : ℕ) (gs : List Gate). value n gs a made) e f
      ∙ (ap₂ (λ (s : Bool) (v : ℕ). if s then not (values_of first (gates ++ gate ∷ []) a v) else values_of first (gates ++ gate ∷ []) a v) plain at
      ∙ (values_more first gates gate (with_at a 0 false) (first + length gates) ∙ with_here (values_of first gates a) (first + length gates) (gate_value (values_of first gates a) gate)));
}

-- ---- choices

either_way : (t x : Bool) → x ≡ (if t then x else x)
either_way true x = refl
either_way false x = refl

-- of two literals that are one
pub same_adds : (first : ℕ) (gates : List Gate) (test high low : Literal) → IsCircuit first gates → IsIn first gates high → number_of high ≡ number_of low →
    Adds first gates first gates high (λ a. if value first gates a test then value first gates a high else value first gates a low)
same_adds first gates test high low is within e =
    subst (λ (l : Literal). Adds first gates first gates high (λ a. if value first gates a test then value first gates a high else value first gates a l)) (literal_is high low e)
    (adds_self first gates high (λ a. if value first gates a test then value first gates a high else value first gates a high) is within (λ a. either_way (value first gates a test) (value first gates a high)))

chosen : (t h l : Bool) → not (not (t && h) && not (not t && l)) ≡ (if t then h else l)
chosen true true l = refl
chosen true false l = refl
chosen false h true = refl
chosen false h false = refl

module _ (c0 c1 c2 c3 : ℕ) (g0 g1 g2 g3 : List Gate) (test high low one other neither : Literal) where
  -- of which the second is told by a negation
  pub choice_adds : (turned_test turned_one turned_other made : Literal) → IsIn c0 g0 test → IsIn c0 g0 high → IsIn c0 g0 low →
      turned_test.variable ≡ test.variable → turned_test.inverted ≡ not test.inverted → turned_one.variable ≡ one.variable → turned_one.inverted ≡ not one.inverted →
      turned_other.variable ≡ other.variable → turned_other.inverted ≡ not other.inverted → made.variable ≡ neither.variable → made.inverted ≡ not neither.inverted →
      Adds c0 g0 c1 g1 one (λ a. value c0 g0 a test && value c0 g0 a high) → Adds c1 g1 c2 g2 other (λ a. value c1 g1 a turned_test && value c1 g1 a low) →
      Adds c2 g2 c3 g3 neither (λ a. value c2 g2 a turned_one && value c2 g2 a turned_other) →
      Adds c0 g0 c3 g3 made (λ a. if value c0 g0 a test then value c0 g0 a high else value c0 g0 a low)
  choice_adds turned_test turned_one turned_other made test_in high_in low_in t1 t2 o1 o2 p1 p2 m1 m2 first second third = record {
    circuit = third.circuit;
    keeps = keeps_then c0 c2 c3 g0 g2 g3 (keeps_then c0 c1 c2 g0 g1 g2 first.keeps second.keeps) third.keeps;
    within = let within = third.within in omega (arith, within, m1);
    value = λ a.
        negated_holds neither made m1 m2 (values_of c3 g3 a)
        ∙ (ap not (third.value a)
        ∙ (ap₂ (λ (x y : Bool). not (x && y)) (by_one a) (by_other a) ∙ chosen (value c0 g0 a test) (value c0 g0 a high) (value c0 g0 a low)));
  }
    where
      by_one : (a : ℕ → Bool) → value c2 g2 a turned_one ≡ not (value c0 g0 a test && value c0 g0 a high)
      by_one a = negated_holds one turned_one o1 o2 (values_of c2 g2 a) ∙ ap not (second.keeps.same one first.within a ∙ first.value a)

      by_other : (a : ℕ → Bool) → value c2 g2 a turned_other ≡ not (not (value c0 g0 a test) && value c0 g0 a low)
      by_other a =
          negated_holds other turned_other p1 p2 (values_of c2 g2 a)
          ∙ ap not (second.value a ∙ ap₂ ◌&&◌ (negated_holds test turned_test t1 t2 (values_of c1 g1 a) ∙ ap not (first.keeps.same test test_in a)) (first.keeps.same low low_in a))
