-- The lists of functions of one case, and what they say of states.
use Rattle.std.specs.Prelude.{◌≡◌, ℕ, ◌+◌, ◌*◌, ◌/◌, ◌%◌, Bool, true, ◌&&◌, ◌==◌, if◌then◌else◌, List, [], ◌∷◌, ◌++◌, map}
use Rattle.bdd_store.specs.declared.Ref.{Ref}
use Rattle.bdd_store.specs.Diagram.{Diagram, AreLive, table}
use Rattle.bdd_ops.specs.Functions.{Function, FreeOf}
use Rattle.smv_rings.specs.Functions.{DependsBelow}
use Rattle.smv_rings.specs.declared.Rel.{Rel}

pub record Lists : Type 0 where
  pub now_first : List Function
  pub before_first : List Function
  pub broken_first : Function
  pub now_step : List Function
  pub before_step : List Function
  pub broken_step : Function
  pub bits : ℕ

-- the value of each bit
abbrev pub State : Type 0
State = ℕ → Bool

-- the assignment of a step: bit b of the old state is variable 2b, of the new one variable 2b + 1
abbrev pub both : State → State → ℕ → Bool
both old new v = if v % 2 == 0 then old (v / 2) else new (v / 2)

-- the assignment of a state: its bits are the current variables
abbrev pub at : State → ℕ → Bool
at s = both s s

-- the value of a list is that of the conjunction of its functions
abbrev pub all_of : List Function → Function
all_of [] a = true
all_of (f ∷ fs) a = f a && all_of fs a

-- the functions of a list are over n variables
abbrev pub AllBelow : ℕ → List Function → Type 0
AllBelow n [] = Unit {0}
AllBelow n (f ∷ fs) = DependsBelow n f × AllBelow n fs

-- a function over current variables alone
abbrev pub IsCurrent : Function → Type 0
IsCurrent f = (b : ℕ) → FreeOf (2 * b + 1) f

abbrev pub AllCurrent : List Function → Type 0
AllCurrent [] = Unit {0}
AllCurrent (f ∷ fs) = IsCurrent f × AllCurrent fs

pub record IsLists (l : Lists) : Type 0 where
  pub now_first : AllBelow (2 * l.bits) l.now_first × AllCurrent l.now_first
  pub before_first : AllBelow (2 * l.bits) l.before_first × AllCurrent l.before_first
  pub broken_first : DependsBelow (2 * l.bits) l.broken_first × IsCurrent l.broken_first
  pub now_step : AllBelow (2 * l.bits) l.now_step
  pub before_step : AllBelow (2 * l.bits) l.before_step
  pub broken_step : DependsBelow (2 * l.bits) l.broken_step

-- the functions of a Rel
unfoldable pub lists_of : Diagram → Rel → Lists
lists_of d rel = record {
  now_first = map (table d) rel.now_first.items;
  before_first = map (table d) rel.before_first.items;
  broken_first = table d rel.broken_first;
  now_step = map (table d) rel.now_step.items;
  before_step = map (table d) rel.before_step.items;
  broken_step = table d rel.broken_step;
  bits = rel.bits;
}

-- the Refs of a Rel, in the order in which a search takes them
unfoldable pub refs_of : Rel → List Ref
refs_of rel = rel.now_first.items ++ (rel.before_first.items ++ (rel.broken_first ∷ (rel.now_step.items ++ (rel.before_step.items ++ (rel.broken_step ∷ [])))))

-- what each call that takes a Rel requires
pub record IsRel (d : Diagram) (rel : Rel) : Type 0 where
  pub vars : d.vars ≡ 2 * rel.bits
  pub live : AreLive d (refs_of rel)
  pub now_first : AllCurrent (map (table d) rel.now_first.items)
  pub before_first : AllCurrent (map (table d) rel.before_first.items)
  pub broken_first : IsCurrent (table d rel.broken_first)
