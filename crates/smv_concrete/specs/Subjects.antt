-- A unit as it is decided at given sizes: neither split nor using anything, with the base definition of each family.
use Rattle.std.specs.Prelude.{◌≡◌, ◌≤◌, ℕ, List, [], map, slice_get, unwrap_or, false}
use Rattle.smv_core.specs.declared.abstract_type.AbsType.{AbsType}
use Rattle.smv_core.specs.declared.abstract_type.Rest.TheVariants as beside
use Rattle.smv_core.specs.declared.flat.Choice.{Choice}
use Rattle.smv_core.specs.declared.flat.Class.{Class}
use Rattle.smv_core.specs.declared.flat.Design.{Design}
use Rattle.smv_core.specs.declared.flat.SetInfo.{SetInfo}
use Rattle.smv_core.specs.declared.flat.Timed.{Timed}
use Rattle.smv_core.specs.declared.flat.Unit.{Unit}
use Rattle.smv_core.specs.declared.flat.Unit.TheVariants.{Claim}
use Rattle.law_obligations.specs.Covers.{AreApart}
use Rattle.law_obligations.specs.Outlines.{names_of, unit_in}
use Rattle.law_obligations.specs.Readings.{PosedCase}
use Rattle.law_obligations.specs.Sets.{Has}
use Rattle.law_obligations.specs.Soundness.{params_of}
use Rattle.law_obligations.specs.Units.{units_of}
use Rattle.law_problems.specs.Parts.{IsFitDesign}
use Rattle.law_concrete.specs.Concrete.{concrete_case, concrete_cases}
use Rattle.law_concrete.specs.Runs.{IsExact}
use Rattle.law_concrete.specs.Sizes.{size_list, sizes_at}
use Rattle.smv_chosen_table.specs.Tables.{AreBaseDefs}
use Rattle.smv_concrete.specs.declared.subjects.Subject.{Subject}

-- the abstract form of each set type: its values as classes, and nothing beside them
abbrev pub whole_types : List SetInfo → List ℕ → List AbsType
whole_types sets given = map (λ k. record { named = k; rest = beside.None }) (size_list sets given)

-- nothing is used
abbrev pub nothing_used : Choice
nothing_used = record { picks = []; claims = []; itself = false; keeps = [] }

-- so there are no times of uses
abbrev pub no_times : Timed
no_times = record { picks = []; claims = [] }

-- the unit
abbrev pub unit_of : Subject → Unit
unit_of s = unwrap_or (slice_get s.units.now s.leaf.now.unit) (Claim 0)

-- it is one of its design, alone, at these sizes
pub record IsSubject (s : Subject) : Type 0 where
  pub units : s.units.now ≡ units_of s.design.now
  pub params : map (λ q. q.over) s.leaf.now.params ≡ params_of (names_of s.design.now) (unit_in s.design.now (unit_of s))
  pub guards : s.leaf.now.guards ≡ []
  pub choice : s.choice.now ≡ nothing_used
  pub timed : s.timed.now ≡ no_times
  pub types : s.types.now ≡ whole_types s.design.now.sets s.sizes.now
  pub table : AreBaseDefs s.design.now s.table.now

-- no set type has more than 256 values
abbrev pub AreFew : Design → List ℕ → Type 0
AreFew d given = (info : SetInfo) → Has d.sets info → sizes_at d.sets given info.name ≤ 256

-- a design as the passes give it, exact at these sizes
pub record IsSized (d : Design) (given : List ℕ) : Type 0 where
  pub is_exact : IsExact d (sizes_at d.sets given)
  pub is_fit : IsFitDesign d
  pub are_apart : AreApart d.sets
  pub are_few : AreFew d given

-- its cases, and one of them
abbrev pub cases_in : Subject → List (List Class)
cases_in s = concrete_cases s.design.now (sizes_at s.design.now.sets s.sizes.now) (unit_of s)

abbrev pub case_in : Subject → List Class → PosedCase
case_in s classes = concrete_case s.design.now (sizes_at s.design.now.sets s.sizes.now) (unit_of s) classes
