-- A design and another one that says the same beside abstract bits of names of their own, which a layer of their own defines.
use Rattle.std.specs.Prelude.{◌≡◌, ◌↔◌, List, [], ◌∷◌, filter, flat_map, Option, Some, None, Bool, true, false, not, Contains, if◌then◌else◌}
use Rattle.std.specs.Str.{bytes_eq}
use Rattle.std.specs.List.{AllByRecursion, list_any}
use Rattle.smv_core.specs.Values.{Name, Path, Value, number, Sizes, range, is_in}
use Rattle.smv_core.specs.Types.{Family}
use Rattle.smv_core.specs.FlatOrder.{TextDesign, Said, Claimed}
use Rattle.smv_core.specs.Outcome.{State}
use Rattle.smv_core.specs.Assignments.{Assigned}
use Rattle.smv_core.specs.Allowed.{scene_at, is_layer, said_in, assignments_in, allowed, allowed_by_base}
use Rattle.smv_core.specs.Sound.{map_of, claim_of, bound, indexes_in, AtEachTime, Holds, IsRun}
use Rattle.law_watched_runs.specs.Paths.{EachRead, EachReadIn}
use Rattle.law_formulas.specs.Formulas.{Formula, now, next, when, weak, AlwaysHolds}
use Rattle.law_watched_runs.specs.Runs.{IsWatched, path_to}

-- the statements of a design in flat order
abbrev pub statements : TextDesign → List Said
statements d = flat_map said_in d.met

module _ (fresh : List Name) where
  -- the path ends in one of these names
  abbrev pub is_fresh : Path → Bool
  is_fresh [] = false
  is_fresh (name ∷ []) = list_any (bytes_eq name) fresh
  is_fresh (name ∷ other ∷ more) = is_fresh (other ∷ more)

  -- a path of a text in which these names do not stand
  abbrev pub IsOld : Path → Type 0
  IsOld [] = ⊥
  IsOld (name ∷ more) = is_fresh (name ∷ more) ≡ false

  -- a family of no such path
  abbrev pub is_kept : Family → Bool
  is_kept f = not (is_fresh f.path)

-- a statement of another layer than this one
abbrev pub is_other_layer : Name → Said → Bool
is_other_layer layer x = not (is_layer x.layer (Some layer))

-- 1 where it is among these values, and else 0
abbrev pub greatest : List Value → Value
greatest values = if is_in values (number 1) then number 1 else number 0

-- what an element of the layer may be depends on the state before alone
pub record IsGiven (layer : Name) (d : TextDesign) (sizes : Sizes) (family : Family) (vs : List Value) : Type 0 where
  pub values : Option State → List Value
  pub given : (before : Option State) (now : State) → allowed_by_base d sizes family (record { path = family.path; indexes = vs }) before now ≡ values before
  pub by_layer : (before : Option State) (now : State) → allowed d sizes (Some layer) (record { path = family.path; indexes = vs }) before now ≡ values before
  pub filled : (before : Option State) → Contains (values before) (greatest (values before))

-- the second design has the families and the statements of the first, and besides only families of fresh names, which are bits, and statements of this layer, which assign them
pub record Extends (fresh : List Name) (layer : Name) (sizes : Sizes) (d e : TextDesign) : Type 0 where
  pub types : e.types ≡ d.types
  pub families : filter (is_kept fresh) e.families ≡ d.families
  pub said : filter (is_other_layer layer) (statements e) ≡ statements d
  pub own : AllByRecursion (λ x. is_other_layer layer x ≡ false → AllByRecursion (λ (a : Assigned). is_fresh fresh a.path ≡ true) (assignments_in x)) (statements e)
  pub reads : AllByRecursion (λ x. EachReadIn (IsOld fresh) x.act) (statements d)
  pub bits : (family : Family) → Contains e.families family → is_fresh fresh family.path ≡ true → family.value ≡ range 0 1
  pub given : (family : Family) → Contains e.families family → is_fresh fresh family.path ≡ true → (vs : List Value) → Contains (indexes_in sizes family) vs → IsGiven layer e sizes family vs

-- the two states agree on all that is not fresh
abbrev pub Agree : List Name → State → State → Type 0
Agree fresh s t = (p : Path) → is_fresh fresh p ≡ false → (vs : List Value) → t p vs ≡ s p vs

-- so do the states before, if there are any
abbrev pub AgreeBefore : List Name → Option State → Option State → Type 0
AgreeBefore fresh None None = Unit {0}
AgreeBefore fresh (Some s) (Some t) = Agree fresh s t
AgreeBefore fresh _ _ = ⊥

-- the state with each fresh element at the greatest value that its layer allows
abbrev pub with_monitors : List Name → Name → TextDesign → Sizes → Option State → State → State
with_monitors fresh layer e sizes before s p vs = if is_fresh fresh p then greatest (allowed e sizes (Some layer) (record { path = p; indexes = vs }) before s) else s p vs

-- a run with monitors
abbrev pub extended : List Name → Name → TextDesign → Sizes → Option State → List State → List State
extended fresh layer e sizes before [] = []
extended fresh layer e sizes before (s ∷ run) = with_monitors fresh layer e sizes before s ∷ extended fresh layer e sizes (Some (with_monitors fresh layer e sizes before s)) run

-- what the base definitions of the first design allow its elements, those of the second do
abbrev pub BasesAreSame : Type 0
BasesAreSame =
    (fresh : List Name) (layer : Name) (sizes : Sizes) (d e : TextDesign) → Extends fresh layer sizes d e → (f : Family) → is_fresh fresh f.path ≡ false → (vs : List Value) →
    (before after : Option State) → AgreeBefore fresh before after → (s t : State) → Agree fresh s t →
    allowed_by_base e sizes f (record { path = f.path; indexes = vs }) after t ≡ allowed_by_base d sizes f (record { path = f.path; indexes = vs }) before s

-- each run of the second design is one of the first
abbrev pub RunsRestrict : Type 0
RunsRestrict = (fresh : List Name) (layer : Name) (sizes : Sizes) (d e : TextDesign) → Extends fresh layer sizes d e → (run : List State) → IsRun e sizes run → IsRun d sizes run

-- each run of the first design with its monitors is one of the second
abbrev pub RunsExtend : Type 0
RunsExtend = (fresh : List Name) (layer : Name) (sizes : Sizes) (d e : TextDesign) → Extends fresh layer sizes d e → (run : List State) → IsRun d sizes run → IsRun e sizes (extended fresh layer e sizes None run)

-- each path that a formula reads
abbrev pub EachReadOver : (Path → Type 0) → Formula → Type 0
EachReadOver P (now x) = EachRead P x
EachReadOver P (next at f) = EachReadOver P f
EachReadOver P (when c f) = EachRead P c × EachReadOver P f
EachReadOver P (weak p q) = EachRead P p × EachRead P q

-- A claim that is watched in the second design: a formula holds at each time of each run of the first design exactly where the claim does at each time of each run of the second.
abbrev pub ClaimsSayFormulas : Type 0
ClaimsSayFormulas =
    (fresh : List Name) (layer : Name) (sizes : Sizes) (d e : TextDesign) → Extends fresh layer sizes d e →
    (c : Claimed) (vs : List Value) (f : Formula) (names : List Name) → IsWatched e sizes c vs f names → EachReadOver (IsOld fresh) f → AllByRecursion (λ m. is_fresh fresh (path_to e sizes c vs m) ≡ true) names →
    ((run : List State) → IsRun d sizes run → AlwaysHolds (scene_at d sizes c.instance) (bound c.params vs []) f run)
    ↔ ((run : List State) → IsRun e sizes run → AtEachTime (Holds e sizes (claim_of c) vs) None run)

-- a map of the first design holds at each time of each run of it exactly where it does in the second design
abbrev pub MapsAreKept : Type 0
MapsAreKept =
    (fresh : List Name) (layer : Name) (sizes : Sizes) (d e : TextDesign) → Extends fresh layer sizes d e →
    (other : Name) (f : Family) (vs : List Value) → bytes_eq other layer ≡ false → is_fresh fresh f.path ≡ false →
    ((run : List State) → IsRun d sizes run → AtEachTime (Holds d sizes (map_of other f) vs) None run)
    ↔ ((run : List State) → IsRun e sizes run → AtEachTime (Holds e sizes (map_of other f) vs) None run)
