-- What the conditions around a reference leave of the numbers that it can be.
use Rattle.std.specs.Prelude.{ℕ, ◌+◌, ◌-◌, List, [], ◌∷◌, map, Some, Bool, true, false, not, ◌&&◌, if◌then◌else◌, nat_eq, nat_le, min, max}
use Rattle.smv_core.specs.Values.{number}
use Rattle.smv_core.specs.Assignments.{Index, fixed, bare}
use Rattle.smv_core.specs.FlatMeaning.{flat_index}
use Rattle.smv_core.specs.Rows.{one_flat_expr}
use Rattle.smv_core.specs.declared.tree.Op.{Op}
use Rattle.smv_core.specs.declared.tree.Op.TheVariants.{Equal, Differ, Less, AtMost, Greater, AtLeast}
use Rattle.smv_core.specs.declared.flat.FlatExpr.{FlatExpr, Read', Var, Not', And', Or', Compare', Row_of-FlatExpr, end_of-FlatExpr, more_of-FlatExpr, items-the_row-FlatExpr}
use Rattle.smv_look_bounds.specs.declared.numbers.Bounds.{Bounds}

-- ---- references

-- what is referred to: an element by its family and its indexes, a variable, or nothing of these
pub data Target : Type 0 where
  element : ℕ → List Index → Target
  variable : ℕ → Target
  nothing : Target

-- what the text alone tells of an index
unfoldable pub index_in : FlatExpr → Index
index_in e = flat_index e

-- what an expression refers to
unfoldable pub target : FlatExpr → Target
target (Read' family shape indexes at) = element family (map index_in (items-the_row-FlatExpr _ indexes))
target (Var var at) = variable var
target _ = nothing

-- two indexes have one value as far as the text alone tells them: one constant, or one variable
abbrev pub same_index : Index → Index → Bool
same_index (fixed (Some (number m))) (fixed (Some (number n))) = nat_eq m n
same_index (bare m) (bare n) = nat_eq m n
same_index _ _ = false

abbrev pub same_indexes : List Index → List Index → Bool
same_indexes [] [] = true
same_indexes (i ∷ is) (j ∷ js) = same_index i j && same_indexes is js
same_indexes _ _ = false

-- two references are to one element, or to one variable
abbrev pub same_target : Target → Target → Bool
same_target (element f is) (element g js) = nat_eq f g && same_indexes is js
same_target (variable m) (variable n) = nat_eq m n
same_target _ _ = false

-- ---- bounds

-- these bounds, unless they leave no number: then those before
abbrev pub unless_empty : Bounds → Bounds → Bounds
unless_empty before b = if nat_le b.low b.high then b else before

-- what is at least this, and what is at most this
abbrev pub from : ℕ → Bounds → Bounds
from k b = unless_empty b (record { low = max k b.low; high = b.high })

abbrev pub upto : ℕ → Bounds → Bounds
upto k b = unless_empty b (record { low = b.low; high = min k b.high })

-- what is not this number, which only an end tells
abbrev pub without : ℕ → Bounds → Bounds
without k b = if nat_eq k b.low then from (k + 1) b else (if nat_eq k b.high then upto (k - 1) b else b)

-- what a comparison with a number to the right leaves
abbrev pub beside : Op → ℕ → Bounds → Bounds
beside Equal k b = from k (upto k b)
beside Differ k b = without k b
beside Less k b = upto (k - 1) b
beside AtMost k b = upto k b
beside Greater k b = from (k + 1) b
beside AtLeast k b = from k b

-- the comparison that holds where this one does not
abbrev pub denied : Op → Op
denied Equal = Differ
denied Differ = Equal
denied Less = AtLeast
denied AtMost = Greater
denied Greater = AtMost
denied AtLeast = Less

-- the comparison with its sides exchanged
abbrev pub turned : Op → Op
turned Equal = Equal
turned Differ = Differ
turned Less = Greater
turned AtMost = AtLeast
turned Greater = Less
turned AtLeast = AtMost

-- a comparison with an index that is a number
abbrev pub beside_index : Op → Index → Bounds → Bounds
beside_index op (fixed (Some (number k))) b = beside op k b
beside_index op _ b = b

-- ---- conditions

module _ (t : Target) where
  -- what a comparison leaves, where one of its sides refers to this and the other is a number
  abbrev pub compared : Op → FlatExpr → FlatExpr → Bounds → Bounds
  compared op left right b =
      if same_target t (target left) then beside_index op (index_in right) b
      else (if same_target t (target right) then beside_index (turned op) (index_in left) b else b)

  unfoldable mutual
    -- what a condition leaves that holds, or that does not: each part of an `&` that holds, and of an `|` that does not, by itself
    pub narrow : Bool → FlatExpr → Bounds → Bounds
    narrow holds (And' shape parts) b = if holds then narrow_each holds parts b else b
    narrow holds (Or' shape parts) b = if holds then b else narrow_each holds parts b
    narrow holds (Not' shape (one_flat_expr e) at) b = narrow (not holds) e b
    narrow holds (Compare' op l (one_flat_expr left) r (one_flat_expr right)) b = compared (if holds then op else denied op) left right b
    narrow holds _ b = b

    pub narrow_each : {m : _} → Bool → Row_of-FlatExpr m → Bounds → Bounds
    narrow_each holds end_of-FlatExpr b = b
    narrow_each holds (more_of-FlatExpr e rest) b = narrow_each holds rest (narrow holds e b)

-- a condition around, and whether it holds there
pub record Given : Type 0 where
  pub cond : FlatExpr
  pub holds : Bool

-- what all conditions around leave
abbrev pub narrowed : List Given → Target → Bounds → Bounds
narrowed [] t b = b
narrowed (g ∷ givens) t b = narrowed givens t (narrow t g.holds g.cond b)
