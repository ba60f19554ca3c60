-- Where values lie in a case: numbers and constants as they are, and of a set type the classes and what is beside them.
use Rattle.std.specs.Prelude.{ℕ, ◌+◌, List, [], ◌∷◌, ◌++◌, map, take, Option, Some, None, option_map, Bool, true, false, if◌then◌else◌}
use Rattle.std.specs.List.{list_any}
use Rattle.smv_core.specs.Values.{Name, Value, scalar, ordinal, Simple, range, choice, scalarset, ordset, Outcome, Truth, values_of, numbers_from, same, below, not_of}
use Rattle.smv_core.specs.FlatMeaning.{Numbered, simple_in}
use Rattle.smv_core.specs.declared.tree.Op.{Op}
use Rattle.smv_core.specs.declared.tree.Op.TheVariants.{Equal, Differ, Less, AtMost, Greater, AtLeast}
use Rattle.smv_core.specs.declared.flat.Simple.{Simple as FlatSimple}
use Rattle.smv_core.specs.declared.abstract_type.Rest.{Rest}
use Rattle.smv_core.specs.declared.abstract_type.Rest.TheVariants as beside
use Rattle.smv_core.specs.declared.abstract_type.AbsType.{AbsType}

-- A number, a constant or a class, which is written as the value of its number; or else a rest: of a scalarset rest 0, of an ordset the
-- gap below the class of its number and above the one before (classes and one rest: McMillan, CHARME 1999; gaps are this project's).
pub data Place : Type 0 where
  named : Value → Place
  rest : Value → Place

-- the same two places
abbrev pub same_place : Place → Place → Bool
same_place (named u) (named v) = same u v
same_place (rest u) (rest v) = same u v
same_place _ _ = false

-- no rest
abbrev pub is_named : Place → Bool
is_named (named v) = true
is_named (rest v) = false

-- one of these places
abbrev pub is_among : List Place → Place → Bool
is_among places p = list_any (same_place p) places

-- a design where each set type has as many values as a case has classes, and what each set type has beside its classes
pub record World : Type 0 where
  pub classes : Numbered
  pub rests : Name → Rest

-- a design as a case sees it
abbrev pub world : Numbered → (Name → AbsType) → World
world n types = record { classes = record n { sizes = λ t. (types t).named }; rests = λ t. (types t).rest }

-- the numbers of the rests beside so many classes
abbrev pub rests_beside : Rest → ℕ → List ℕ
rests_beside beside.None classes = []
rests_beside beside.One classes = 0 ∷ []
rests_beside beside.Gaps classes = numbers_from 0 (classes + 1)

module _ (w : World) where
  -- the numbers, constants and classes of a type
  abbrev pub named_of : Simple → List Place
  named_of t = map named (values_of w.classes.sizes t)

  -- the rests of a type
  abbrev pub rests_of : Simple → List Place
  rests_of (range low high) = []
  rests_of (choice names) = []
  rests_of (scalarset t) = map (λ g. rest (scalar t g)) (rests_beside (w.rests t) (w.classes.sizes t))
  rests_of (ordset t) = map (λ g. rest (ordinal t g)) (rests_beside (w.rests t) (w.classes.sizes t))

  -- the abstract values of a type
  abbrev pub places_of : Simple → List Place
  places_of t = named_of t ++ rests_of t

  -- those of a type by its numbers
  abbrev pub named_in : FlatSimple → List Place
  named_in t = named_of (simple_in w.classes t)

  abbrev pub rests_in : FlatSimple → List Place
  rests_in t = rests_of (simple_in w.classes t)

  abbrev pub places_in : FlatSimple → List Place
  places_in t = places_of (simple_in w.classes t)

-- an outcome of a case, none where it is Undefined
abbrev pub AbsOutcome : Type 0
AbsOutcome = Option Place

-- the value of an outcome; logic and arithmetic make no more of a rest than of any value of a set type
abbrev pub valued : AbsOutcome → Outcome
valued (Some (named v)) = Some v
valued _ = None

-- a number or a constant is where it is
abbrev pub as_place : Outcome → AbsOutcome
as_place u = option_map named u

-- a truth value that is not known
abbrev pub unsure : Truth → List Truth
unsure (Some b) = Some true ∷ Some false ∷ []
unsure None = None ∷ []

-- `=`: only a rest with itself is not known
abbrev pub equal_places : Place → Place → List Truth
equal_places (named u) (named v) = Some (same u v) ∷ []
equal_places (rest u) (rest v) = if same u v then unsure (Some true) else Some false ∷ []
equal_places _ _ = Some false ∷ []

-- `<`: a gap lies below the class of its number; only a gap with itself is not known
abbrev pub below_places : Place → Place → List Truth
below_places (named u) (named v) = below (Some u) (Some v) ∷ []
below_places (named u) (rest v) = below (Some u) (Some v) ∷ []
below_places (rest u) (named v) = not_of (below (Some v) (Some u)) ∷ []
below_places (rest u) (rest v) = if same u v then unsure (below (Some u) (Some v)) else below (Some u) (Some v) ∷ []

-- an answer for two outcomes, Undefined where one is
abbrev pub where_defined : (Place → Place → List Truth) → AbsOutcome → AbsOutcome → List Truth
where_defined answers (Some p) (Some q) = answers p q
where_defined answers _ _ = None ∷ []

-- what each comparison may give
abbrev pub may_compare : Op → AbsOutcome → AbsOutcome → List Truth
may_compare Equal u v = where_defined equal_places u v
may_compare Differ u v = map not_of (where_defined equal_places u v)
may_compare Less u v = where_defined below_places u v
may_compare AtMost u v = map not_of (where_defined below_places v u)
may_compare Greater u v = where_defined below_places v u
may_compare AtLeast u v = map not_of (where_defined below_places u v)

-- the places of the variables that are bound, each at its number; a binder's variable cuts off those from its number on
abbrev pub bind_place : List Place → ℕ → Place → List Place
bind_place b var p = take var b ++ p ∷ []
