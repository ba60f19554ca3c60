-- What is known of the families of a design, held as sets of numbers.
use Rattle.std.specs.Prelude.{◌≡◌, ℕ, Bool, nat_eq}
use Rattle.std.specs.HashSet.{HashSet, contains}
use Rattle.smv_look_lint.specs.Lint.{Known}
use Rattle.smv_look_lint.specs.declared.lint.Marks.{Marks}

-- a number is in a set
abbrev pub is_noted : {S : Type 0} → HashSet ℕ S → ℕ → Bool
is_noted set k = contains nat_eq set k

-- what sets hold
abbrev pub held_by : Marks → Known
held_by marks = record {
  defined = is_noted marks.defined;
  read = is_noted marks.read;
  mapped = is_noted marks.mapped;
  picked = is_noted marks.picked;
  inputs = is_noted marks.inputs;
  outputs = is_noted marks.outputs;
}

-- two tests answer alike
abbrev pub AreAlike : (ℕ → Bool) → (ℕ → Bool) → Type 0
AreAlike p q = (k : ℕ) → p k ≡ q k

-- the same is known
pub record IsSameKnown (one other : Known) : Type 0 where
  pub defined : AreAlike one.defined other.defined
  pub read : AreAlike one.read other.read
  pub mapped : AreAlike one.mapped other.mapped
  pub picked : AreAlike one.picked other.picked
  pub inputs : AreAlike one.inputs other.inputs
  pub outputs : AreAlike one.outputs other.outputs
