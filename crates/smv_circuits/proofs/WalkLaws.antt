-- The literals of functions.
use Rattle.std.proofs.Common.{◌≡◌, ◌≢◌, ◌∙◌, ℕ, suc, ◌+◌, ◌*◌, ◌/◌, ◌%◌, ◌<◌, Bool, true, false, ◌&&◌, ◌==◌, cond, if◌then◌else◌, List, [], ◌∷◌, map, Some, refl, sym, ap, ap₂, subst, arith}
use Rattle.std.specs.HashMap.{HashMap, get, Updates}
use Rattle.law_lists.proofs.Options.{some_is}
use Rattle.bdd_store.specs.declared.Ref.{Ref}
use Rattle.bdd_store.specs.Diagram.{Diagram, AreLive, IsLive, table, first_var}
use Rattle.bdd_store.specs.Graph.{with_at}
use Rattle.bdd_ops.specs.Memo.{same_one}
use Rattle.bdd_ops.proofs.MemoLaws.{one_test}
use Rattle.bdd_ops.proofs.Tables.{split_at}
use Rattle.smv_rings.specs.Lists.{all_of}
use Rattle.smv_circuits.specs.declared.circuit.Literal.{Literal}
use Rattle.smv_circuits.specs.declared.circuit.Gate.{Gate}
use Rattle.smv_circuits.specs.Circuits.{Adds, IsCircuit, IsIn, Keeps, value}
use Rattle.smv_circuits.specs.Readings.{AreKnown, first_gate, place_of, read_by}
use Rattle.smv_circuits.proofs.Values.{input_value}
use Rattle.smv_circuits.proofs.Adds.{adds_self, adds_then, constant_adds, in_then, keeps_then}

pub live_first : (d : Diagram) (f : Ref) (fs : List Ref) → AreLive d (f ∷ fs) → IsLive d f
live_first d f fs live = live 0 (omega arith)

pub live_others : (d : Diagram) (f : Ref) (fs : List Ref) → AreLive d (f ∷ fs) → AreLive d fs
live_others d f fs live i lt = live (suc i) (omega (arith, lt))

-- ---- a variable stands before the gates, and not at 0

place_cases : (bits var : ℕ) (old : Bool) → var < 2 * bits → ((if old then bits + 1 + var / 2 else var / 2 + 1) < first_gate bits) × ((if old then bits + 1 + var / 2 else var / 2 + 1) ≢ 0)
place_cases bits var true lt = (omega (arith, lt), λ e. absurd (omega (arith, e)))
place_cases bits var false lt = (omega (arith, lt), λ e. absurd (omega (arith, e)))

pub place_before : (bits : ℕ) (step : Bool) (var : ℕ) → var < 2 * bits → (place_of bits step var < first_gate bits) × (place_of bits step var ≢ 0)
place_before bits step var lt = place_cases bits var (step && var % 2 == 0) lt

pub variable_in : (bits : ℕ) (step : Bool) (var first : ℕ) (gates : List Gate) (l : Literal) → var < 2 * bits → first ≡ first_gate bits → l.variable ≡ place_of bits step var → IsIn first gates l
variable_in bits step var first gates l lt e at = let (before, some) = place_before bits step var lt in omega (arith, before, e, at)

pub variable_value : (bits : ℕ) (step : Bool) (var first : ℕ) (gates : List Gate) (l : Literal) → var < 2 * bits → first ≡ first_gate bits → l.variable ≡ place_of bits step var → l.inverted ≡ false → (a : ℕ → Bool) → value first gates a l ≡ read_by bits step a var
variable_value bits step var first gates l lt e at plain a =
    let (before, some) = place_before bits step var lt in
    input_value first gates a l (omega (arith, before, e, at)) (λ z. some (sym at ∙ z)) plain ∙ ap a at

-- ---- what is known

pub known_on : {S : Type 0} (d : Diagram) (bits : ℕ) (step : Bool) (known : HashMap Ref Literal S) (first next : ℕ) (old new : List Gate) → Keeps first old next new → AreKnown d bits step first old known → AreKnown d bits step next new known
known_on d bits step known first next old new keeps are f l e =
    let (within, same) = are f l e in
    (in_then first next old new l keeps within, λ a. keeps.same l within a ∙ same a)

pub known_more : {S : Type 0} (d : Diagram) (bits : ℕ) (step : Bool) (old new : HashMap Ref Literal S) (first : ℕ) (gates : List Gate) (f : Ref) (l : Literal) → AreKnown d bits step first gates old → Updates same_one old new f (Some l) →
    IsIn first gates l → ((a : ℕ → Bool) → value first gates a l ≡ table d f (read_by bits step a)) → AreKnown d bits step first gates new
known_more d bits step old new first gates f l are updates within same q m e = by_test (same_one f q) refl (sym (updates.0 q) ∙ e)
  where
    by_test : (t : Bool) → same_one f q ≡ t → cond t (Some l) (get same_one old q) ≡ Some m → IsIn first gates m × ((a : ℕ → Bool) → value first gates a m ≡ table d q (read_by bits step a))
    by_test true s e =
        let one : f ≡ q = one_test.is f q s in
        let is : l ≡ m = some_is e in
        subst (λ (k : Literal). IsIn first gates k × ((a : ℕ → Bool) → value first gates a k ≡ table d q (read_by bits step a))) is
        (subst (λ (r : Ref). IsIn first gates l × ((a : ℕ → Bool) → value first gates a l ≡ table d r (read_by bits step a))) one (within, same))
    by_test false s e = are q m e

pub known_adds : (first : ℕ) (gates : List Gate) (l : Literal) (f : (ℕ → Bool) → Bool) → IsCircuit first gates → IsIn first gates l × ((a : ℕ → Bool) → value first gates a l ≡ f a) → Adds first gates first gates l f
known_adds first gates l f is (within, same) = adds_self first gates l f is within same

-- ---- a bead

module _ (d : Diagram) (bits : ℕ) (step : Bool) (f low high : Ref) (w : ℕ) (c0 c1 c2 c3 : ℕ) (g0 g1 g2 g3 : List Gate) (at_low at_high test made : Literal) where
  pub bead_adds : w < 2 * bits → c2 ≡ first_gate bits → w ≡ first_var d f → ((a : ℕ → Bool) → table d low a ≡ table d f (with_at a (first_var d f) false)) → ((a : ℕ → Bool) → table d high a ≡ table d f (with_at a (first_var d f) true)) →
      test.variable ≡ place_of bits step w → test.inverted ≡ false →
      Adds c0 g0 c1 g1 at_low (λ a. table d low (read_by bits step a)) → Adds c1 g1 c2 g2 at_high (λ a. table d high (read_by bits step a)) →
      Adds c2 g2 c3 g3 made (λ a. if value c2 g2 a test then value c2 g2 a at_high else value c2 g2 a at_low) →
      Adds c0 g0 c3 g3 made (λ a. table d f (read_by bits step a))
  bead_adds lt ready first lower upper at plain one two last =
      adds_then c0 c2 c3 g0 g2 g3 made _ (λ a. table d f (read_by bits step a)) (keeps_then c0 c1 c2 g0 g1 g2 one.keeps two.keeps) last same
    where
      same : (a : ℕ → Bool) → (if value c2 g2 a test then value c2 g2 a at_high else value c2 g2 a at_low) ≡ table d f (read_by bits step a)
      same a =
          ap₂ (λ (t x : Bool). if t then x else value c2 g2 a at_low) (variable_value bits step w c2 g2 test lt ready at plain a ∙ ap (read_by bits step a) first) (two.value a)
          ∙ (ap (λ (x : Bool). if read_by bits step a (first_var d f) then table d high (read_by bits step a) else x) (two.keeps.same at_low one.within a ∙ one.value a)
          ∙ sym (split_at (table d f) (table d low) (table d high) (first_var d f) lower upper (read_by bits step a)))

-- ---- lists

pub none_adds : (d : Diagram) (bits : ℕ) (step : Bool) (first : ℕ) (gates : List Gate) (made : Literal) → IsCircuit first gates → made.variable ≡ 0 → made.inverted ≡ true → Adds first gates first gates made (λ a. all_of (map (table d) []) (read_by bits step a))
none_adds d bits step first gates made is e sign = constant_adds first gates made true (λ a. all_of (map (table d) []) (read_by bits step a)) is e sign (λ a. refl)

pub more_adds : (d : Diagram) (bits : ℕ) (step : Bool) (f : Ref) (fs : List Ref) (c0 c1 c2 c3 : ℕ) (g0 g1 g2 g3 : List Gate) (others own made : Literal) →
    Adds c0 g0 c1 g1 others (λ a. all_of (map (table d) fs) (read_by bits step a)) → Adds c1 g1 c2 g2 own (λ a. table d f (read_by bits step a)) → Adds c2 g2 c3 g3 made (λ a. value c2 g2 a own && value c2 g2 a others) →
    Adds c0 g0 c3 g3 made (λ a. all_of (map (table d) (f ∷ fs)) (read_by bits step a))
more_adds d bits step f fs c0 c1 c2 c3 g0 g1 g2 g3 others own made one two last =
    adds_then c0 c2 c3 g0 g2 g3 made _ (λ a. all_of (map (table d) (f ∷ fs)) (read_by bits step a)) (keeps_then c0 c1 c2 g0 g1 g2 one.keeps two.keeps) last
    (λ a. ap₂ ◌&&◌ (two.value a) (two.keeps.same others one.within a ∙ one.value a))
