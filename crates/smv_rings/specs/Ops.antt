-- The acts of a turn as operations on Refs.
use Rattle.std.specs.Prelude.{◌≡◌, ℕ, ◌*◌, ◌<◌, ◌⊎◌, Bool, ◌&&◌, not, List, [], ◌∷◌, ◌++◌, map, length, reverse}
use Rattle.std.specs.List.{filter}
use Rattle.bdd_store.specs.declared.Ref.{Ref}
use Rattle.bdd_store.specs.Diagram.{Diagram, table}
use Rattle.bdd_ops.specs.Functions.{Function, FreeOf, depends, bit_at}
use Rattle.smv_rings.specs.declared.ops.Op.{Op}
use Rattle.smv_rings.specs.declared.ops.Op.TheVariants.{And, Exists, Look, Rename}
use Rattle.smv_rings.specs.Schedule.{Act, left_by, evens, reads_none}
use Rattle.smv_rings.specs.Schedule.Act.{Join, Out, Look_at, Lower}

abbrev pub IsOneOf : Ref → List Ref → Type 0
IsOneOf r [] = ⊥
IsOneOf r (q ∷ refs) = (r ≡ q) ⊎ IsOneOf r refs

-- the act that an operation does, where a look is for a violating path of k steps
abbrev pub act_of : Diagram → ℕ → Op → Act
act_of d k (And f) = Join (table d f)
act_of d k (Exists v) = Out v
act_of d k (Look f) = Look_at k (table d f)
act_of d k Rename = Lower

abbrev pub acts_of : Diagram → ℕ → List Op → List Act
acts_of d k [] = []
acts_of d k (op ∷ ops) = act_of d k op ∷ acts_of d k ops

-- the functions of an operation
abbrev pub refs_in : Op → List Ref
refs_in (And f) = f ∷ []
refs_in (Exists v) = []
refs_in (Look f) = f ∷ []
refs_in Rename = []

abbrev pub refs_in_all : List Op → List Ref
refs_in_all [] = []
refs_in_all (op ∷ ops) = refs_in op ++ refs_in_all ops

-- A variable that is quantified is below n. Where each variable is replaced by the one before it, P does not depend on the first.
abbrev pub FitsAct : ℕ → Function → Act → Type 0
FitsAct n p (Join f) = Unit {0}
FitsAct n p (Out v) = v < n
FitsAct n p (Look_at k f) = Unit {0}
FitsAct n p Lower = FreeOf 0 p

abbrev pub FitsActs : ℕ → Function → List Act → Type 0
FitsActs n p [] = Unit {0}
FitsActs n p (act ∷ acts) = FitsAct n p act × FitsActs n (left_by act p) acts

-- ---- a plan is made from its end

-- the acts of operations that stand in a list last first
abbrev pub back_acts : Diagram → ℕ → List Op → List Act
back_acts d k ops = acts_of d k (reverse ops)

-- no function comes with other operations than these
abbrev pub AddsNone : List Op → List Op → Type 0
AddsNone old new = (r : Ref) → IsOneOf r (refs_in_all new) → IsOneOf r (refs_in_all old)

-- for each variable whether one of these functions depends on it
pub record AreMarked (n : ℕ) (fs : List Function) (flags : List Bool) : Type 0 where
  pub count : length flags ≡ n
  pub flag : (v : ℕ) → v < n → bit_at flags v ≡ not (reads_none n fs v)

-- over m bits, as in a turn
abbrev pub outs_of : ℕ → Function → List Function → List Act
outs_of m f later = map Out (filter (λ v. depends (2 * m) f v && reads_none (2 * m) later v) (evens m))

-- and with acts behind them
abbrev pub joins_onto : ℕ → List Function → List Function → List Act → List Act
joins_onto m [] later rest = rest
joins_onto m (f ∷ fs) later rest = Join f ∷ (outs_of m f (fs ++ later) ++ joins_onto m fs later rest)
