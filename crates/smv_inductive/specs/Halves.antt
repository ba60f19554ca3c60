-- The conditions of induction, two of the first state and two of steps.
use Rattle.std.specs.Prelude.{◌≡◌, true, List, ◌∷◌, ◌++◌, map}
use Rattle.bdd_ops.specs.Functions.{Function}
use Rattle.smv_rings.specs.declared.Rel.{Rel}
use Rattle.smv_rings.specs.declared.ops.Op.{Op}
use Rattle.smv_rings.specs.declared.ops.Op.TheVariants.{And, Look}
use Rattle.smv_rings.specs.Lists.{Lists, State, both, at, all_of}
use Rattle.smv_rings.specs.Paths.{Starts, Steps}

pub record HoldsFirst (l : Lists) (set : Function) : Type 0 where
  pub starts : (s : State) → Starts l s → set (at s) ≡ true
  pub safe : (s : State) → all_of l.now_first (at s) ≡ true → l.broken_first (at s) ≡ true → ⊥

pub record HoldsOn (l : Lists) (set : Function) : Type 0 where
  pub closed : (old new : State) → set (at old) ≡ true → Steps l old new → set (at new) ≡ true
  pub safe : (old new : State) → set (at old) ≡ true → all_of l.now_step (both old new) ≡ true → l.broken_step (both old new) ≡ true → ⊥

-- the operations that make the first states at which everything holds, with the look for a broken one
abbrev pub first_ops_of : Rel → List Op
first_ops_of rel = map And rel.now_first.items ++ (Look rel.broken_first ∷ map And rel.before_first.items)
