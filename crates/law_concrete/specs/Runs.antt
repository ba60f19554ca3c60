-- Runs of a design at given sizes that break an instance of a unit, and what is asked of a design for that.
use Rattle.std.specs.Prelude.{◌≡◌, List, [], ◌∷◌, slice_get, Option, Some, None, Bool, true, false, not}
use Rattle.smv_core.specs.Values.{Value, Sizes}
use Rattle.smv_core.specs.FlatMeaning.{FlatState}
use Rattle.smv_core.specs.declared.flat.Family.{Family}
use Rattle.smv_core.specs.declared.flat.Claim.{Claim}
use Rattle.smv_core.specs.declared.flat.Def.{Def}
use Rattle.smv_core.specs.declared.flat.Design.{Design}
use Rattle.smv_core.specs.declared.flat.Simple.{Simple}
use Rattle.smv_core.specs.declared.flat.Unit.{Unit as DesignUnit}
use Rattle.law_obligations.specs.Sets.{Has}
use Rattle.law_obligations.specs.Covers.{IsIndexType}
use Rattle.law_obligations.specs.Whole.{IsWhole}
use Rattle.law_obligations.specs.Circular.{Demand, always}
use Rattle.law_obligations.specs.Soundness.{HasValue, params_of, values_over, is_held, IsRun}
use Rattle.law_obligations.specs.Outlines.{bases, unit_in}
use Rattle.law_exact.specs.Exact.{IsExactDef}
use Rattle.law_concrete.specs.Concrete.{sized}

-- a demand at the last time of a run that begins after this state
abbrev pub at_last : {State : Type 0} → Demand State → Option State → List State → Bool
at_last demand old [] = false
at_last demand old (s ∷ []) = demand old s
at_last demand old (s ∷ t ∷ run) = at_last demand (Some s) (t ∷ run)

module _ (d : Design) (sizes : Sizes) where
  -- a run at whose last time the instance fails
  pub record Breaks (unit : DesignUnit) (values : List Value) (run : List FlatState) : Type 0 where
    pub is_run : IsRun (sized d sizes) (bases d) run
    pub fails : at_last (λ before now. not (is_held (sized d sizes) (unit_in d unit) values before now)) None run ≡ true

  -- what the passes before give of a design: its types have values, definitions and claims are whole and keep the rules of sets, and parameters are over ranges and set types
  pub record IsExact : Type 0 where
    pub filled : (f : Family) → Has d.families f → HasValue (sized d sizes) f.value
    pub defs : (def : Def) → Has d.defs def → IsExactDef d.families def
    pub there : (def : Def) → Has d.defs def → (f : Family) × (slice_get d.families def.family ≡ Some f)
    pub claims : (claim : Claim) → Has d.claims claim → IsWhole d.families claim.body
    pub params : (unit : DesignUnit) (t : Simple) → Has (params_of (sized d sizes) (unit_in d unit)) t → IsIndexType t

  -- every instance of the unit holds at every time of every run of these sizes
  abbrev pub HoldsAtSizes : DesignUnit → Type 0
  HoldsAtSizes unit = (run : List FlatState) → IsRun (sized d sizes) (bases d) run → (values : List Value) → Has (values_over (sized d sizes) (params_of (sized d sizes) (unit_in d unit))) values →
      always (is_held (sized d sizes) (unit_in d unit) values) None run ≡ true
