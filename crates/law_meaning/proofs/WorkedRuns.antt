-- Runs that exist and instances that fail in them. Each is a violating path: a run at whose last time an instance of the unit does not hold.
use Rattle.std.proofs.Common.{◌≡◌, ℕ, List, [], ◌∷◌, refl, Some, zero, false, arith}
use Rattle.smv_core.specs.Values.{Value, number, range}
use Rattle.smv_core.specs.Types.{Family}
use Rattle.smv_core.specs.FlatOrder.{design_of}
use Rattle.smv_core.specs.Outcome.{State}
use Rattle.smv_core.specs.Sound.{ProofUnit, map_of, claim_of, units}
use Rattle.smv_core.specs.Violating.{IsViolating}
use Rattle.smv_core.specs.declared.tree.Text.{Text}
use Rattle.smv_core.specs.declared.tree.TypeExpr.{Boolean, Array}
use Rattle.smv_core.specs.declared.tree.Ref.{Ref}
use Rattle.smv_core.specs.declared.tree.Use.TheVariants.{Plain}
use Rattle.smv_core.specs.declared.tree.Expr.{Expr, Signal}
use Rattle.smv_core.specs.declared.tree.Item.{Claim, Layer, Using}
use Rattle.smv_core.specs.declared.tree.Item as item
use Rattle.law_meaning.proofs.Built.{computing, w, a, b, i, n, s, x, sig, num, plus, eq, span, at, path, declare, act, set, init, next, module_main, state, numbers, threes}
use Rattle.law_meaning.proofs.ByTest.{violating-by}

-- a claim of main without variables, whose name is one letter
abbrev claim : ℕ → Expr → ProofUnit
claim k e = claim_of (record { instance = []; name = k ∷ []; params = []; body = e })

abbrev p : ℕ
p = 112

abbrev q : ℕ
q = 113

-- module main() { x : 0..1; init(x) := 1; next(x) := x + 1; p : assert G (x = 1); }
abbrev overflow : Text
overflow = module_main (declare x (span 0 1) ∷ act (init (path (x ∷ [])) (num 1)) ∷ act (next (path (x ∷ [])) (plus (sig x) (num 1))) ∷ Claim (w p) [] (eq (sig x) (num 1)) 0 ∷ [])

-- its one unit is the claim
overflow-units : units (design_of overflow) ≡ claim p (eq (sig x) (num 1)) ∷ []
unfolding computing
overflow-units = refl

-- x is 1 and then 0: the sum 2 is outside 0..1, so every value is allowed at time 1
overflow-fails : IsViolating (design_of overflow) threes (claim p (eq (sig x) (num 1))) (state ((x ∷ [], 1) ∷ []) ∷ state ((x ∷ [], 0) ∷ []) ∷ [])
unfolding computing
overflow-fails = violating-by (design_of overflow) threes (claim p (eq (sig x) (num 1))) (state ((x ∷ [], 1) ∷ []) ∷ state ((x ∷ [], 0) ∷ []) ∷ []) [] (0, omega arith, refl) refl refl

-- `a//spec`
abbrev spec_of : ℕ → Ref
spec_of k = record { path = w k ∷ []; names = []; layer = Some (w s); free = false; at = 0 }

-- module main() { a, b : boolean; init(a) := 1; init(b) := 0; next(a) := b; next(b) := a; layer s : { a := 0; b := 0; } using b//s prove a//s; using a//s prove b//s; }
abbrev swapping : Text
swapping = module_main (declare a Boolean ∷ declare b Boolean ∷ act (init (path (a ∷ [])) (num 1)) ∷ act (init (path (b ∷ [])) (num 0)) ∷ act (next (path (a ∷ [])) (sig b)) ∷ act (next (path (b ∷ [])) (sig a))
    ∷ Layer (w s) (set (path (a ∷ [])) (num 0) ∷ set (path (b ∷ [])) (num 0) ∷ []) 0
    ∷ Using (Plain (spec_of b) ∷ []) (spec_of a ∷ []) 0 ∷ Using (Plain (spec_of a) ∷ []) (spec_of b ∷ []) 0 ∷ [])

abbrev boolean : ℕ → Family
boolean k = record { path = (k ∷ []) ∷ []; over = []; value = range 0 1; is_abstract = false }

-- the units are the maps of a and of b
swapping-units : units (design_of swapping) ≡ map_of (s ∷ []) (boolean a) ∷ map_of (s ∷ []) (boolean b) ∷ []
unfolding computing
swapping-units = refl

-- a is 1 at time 0, where the layer allows 0 alone
swapping-fails-a : IsViolating (design_of swapping) threes (map_of (s ∷ []) (boolean a)) (state ((a ∷ [], 1) ∷ (b ∷ [], 0) ∷ []) ∷ [])
unfolding computing
swapping-fails-a = violating-by (design_of swapping) threes (map_of (s ∷ []) (boolean a)) (state ((a ∷ [], 1) ∷ (b ∷ [], 0) ∷ []) ∷ []) [] (0, omega arith, refl) refl refl

-- b is 1 at time 1: that b's map follows from a's says nothing where a's fails
swapping-fails-b : IsViolating (design_of swapping) threes (map_of (s ∷ []) (boolean b)) (state ((a ∷ [], 1) ∷ (b ∷ [], 0) ∷ []) ∷ state ((a ∷ [], 0) ∷ (b ∷ [], 1) ∷ []) ∷ [])
unfolding computing
swapping-fails-b = violating-by (design_of swapping) threes (map_of (s ∷ []) (boolean b)) (state ((a ∷ [], 1) ∷ (b ∷ [], 0) ∷ []) ∷ state ((a ∷ [], 0) ∷ (b ∷ [], 1) ∷ []) ∷ []) [] (0, omega arith, refl) refl refl

-- module main() { x : boolean; p : assert G x; q : assert G x; }
abbrev free_signal : Text
free_signal = module_main (declare x Boolean ∷ Claim (w p) [] (sig x) 0 ∷ Claim (w q) [] (sig x) 0 ∷ [])

-- x has no definition and may be 0 at time 0
free_signal-fails-p : IsViolating (design_of free_signal) threes (claim p (sig x)) (state ((x ∷ [], 0) ∷ []) ∷ [])
unfolding computing
free_signal-fails-p = violating-by (design_of free_signal) threes (claim p (sig x)) (state ((x ∷ [], 0) ∷ []) ∷ []) [] (0, omega arith, refl) refl refl

-- the other claim fails there too
free_signal-fails-q : IsViolating (design_of free_signal) threes (claim q (sig x)) (state ((x ∷ [], 0) ∷ []) ∷ [])
unfolding computing
free_signal-fails-q = violating-by (design_of free_signal) threes (claim q (sig x)) (state ((x ∷ [], 0) ∷ []) ∷ []) [] (0, omega arith, refl) refl refl

-- module main() { x : array 0..1 of 0..0; n : 0..2; p : assert G (x[n] = 0); }
abbrev out_of_range : Text
out_of_range = module_main (declare x (Array (span 0 1) (span 0 0)) ∷ declare n (span 0 2) ∷ Claim (w p) [] (eq (Signal (at x (sig n))) (num 0)) 0 ∷ [])

-- n is 2: the index is outside its range, so the claim is Undefined and not 1
out_of_range-fails : IsViolating (design_of out_of_range) threes (claim p (eq (Signal (at x (sig n))) (num 0))) (state ((n ∷ [], 2) ∷ []) ∷ [])
unfolding computing
out_of_range-fails = violating-by (design_of out_of_range) threes (claim p (eq (Signal (at x (sig n))) (num 0))) (state ((n ∷ [], 2) ∷ []) ∷ []) [] (0, omega arith, refl) refl refl

-- module main() { x : array 0..1 of boolean; forall (i in 0..1) p[i] : assert G x[i]; }
abbrev indexed_claim : Text
indexed_claim = module_main (declare x (Array (span 0 1) Boolean) ∷ item.Forall (w i) (span 0 1) (Claim (w p) (w i ∷ []) (Signal (at x (sig i))) 0) 0 ∷ [])

abbrev indexed : ProofUnit
indexed = claim_of (record { instance = []; name = p ∷ []; params = (i ∷ [], span 0 1) ∷ []; body = Signal (at x (sig i)) })

abbrev only_first : State
only_first path vs = one_at vs
  where
    one_at : List Value → Value
    one_at (number zero ∷ []) = number 1
    one_at _ = number 0

-- x[0] is 1 and x[1] is 0: the instance at i = 1 fails
indexed_claim-fails : IsViolating (design_of indexed_claim) threes indexed (only_first ∷ [])
unfolding computing
indexed_claim-fails = violating-by (design_of indexed_claim) threes indexed (only_first ∷ []) (numbers (1 ∷ [])) (1, omega arith, refl) refl refl
