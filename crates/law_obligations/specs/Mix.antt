-- How truth values may come out: which of 0, 1 and neither are possible.
use Rattle.std.specs.Prelude.{List, [], ◌∷◌, Some, None, Bool, true, false, ◌&&◌, ◌||◌}
use Rattle.std.specs.List.{list_any}
use Rattle.smv_core.specs.Values.{Truth, number}
use Rattle.smv_core.specs.Outcome.{is_true}
use Rattle.law_obligations.specs.Places.{AbsOutcome, named}
use Rattle.law_obligations.specs.Right.{is_false, is_neither}

pub record Mix : Type 0 where
  pub no : Bool
  pub yes : Bool
  pub neither : Bool

-- a list with a member
abbrev pub is_there : {X : Type 0} → List X → Bool
is_there [] = false
is_there (x ∷ xs) = true

-- which are among these
abbrev pub mix_of : List Truth → Mix
mix_of ts = record { no = list_any is_false ts; yes = list_any is_true ts; neither = list_any is_neither ts }

-- which are what a function gives at these
abbrev pub mix_by : {X : Type 0} → (X → Truth) → List X → Mix
mix_by f xs = record { no = list_any (λ x. is_false (f x)) xs; yes = list_any (λ x. is_true (f x)) xs; neither = list_any (λ x. is_neither (f x)) xs }

-- something is possible
abbrev pub is_filled : Mix → Bool
is_filled m = m.no || (m.yes || m.neither)

-- 1 alone
abbrev pub only_yes : Mix
only_yes = record { no = false; yes = true; neither = false }

-- nothing
abbrev pub none_at_all : Mix
none_at_all = record { no = false; yes = false; neither = false }

-- `~`
abbrev pub not_mix : Mix → Mix
not_mix m = record { no = m.yes; yes = m.no; neither = m.neither }

-- `&` of two, where both are filled
abbrev pub and_mix : Mix → Mix → Mix
and_mix m n = record { no = m.no || n.no; yes = m.yes && n.yes; neither = (m.neither && (n.yes || n.neither)) || (m.yes && n.neither) }

-- `|`, `->`
abbrev pub or_mix : Mix → Mix → Mix
or_mix m n = not_mix (and_mix (not_mix m) (not_mix n))

abbrev pub implies_mix : Mix → Mix → Mix
implies_mix m n = or_mix (not_mix m) n

-- `<->`
abbrev pub iff_mix : Mix → Mix → Mix
iff_mix m n = record { no = (m.no && n.yes) || (m.yes && n.no); yes = (m.no && n.no) || (m.yes && n.yes); neither = m.neither || n.neither }

-- `&` of all
abbrev pub and_all : List Mix → Mix
and_all [] = only_yes
and_all (m ∷ ms) = and_mix m (and_all ms)

abbrev pub or_all : List Mix → Mix
or_all [] = not_mix only_yes
or_all (m ∷ ms) = or_mix m (or_all ms)

abbrev pub implies_all : List Mix → Mix
implies_all [] = record { no = false; yes = false; neither = true }
implies_all (m ∷ []) = m
implies_all (m ∷ n ∷ ms) = implies_mix m (implies_all (n ∷ ms))

-- also none of them: for a conjunction then 1, and for a disjunction 0
abbrev pub or_none : Mix → Mix
or_none m = record { no = m.no; yes = true; neither = m.neither }

abbrev pub or_zero : Mix → Mix
or_zero m = record { no = true; yes = m.yes; neither = m.neither }

-- a quantifier, by its parts at the numbers and classes and by those at the rests, of which it takes any part
abbrev pub all_mix : List Mix → Mix → Mix
all_mix at_named at_rests = and_mix (and_all at_named) (or_none at_rests)

abbrev pub any_mix : List Mix → Mix → Mix
any_mix at_named at_rests = or_mix (or_all at_named) (or_zero at_rests)

-- the outcomes of a mix
abbrev pub if_so : Bool → AbsOutcome → List AbsOutcome → List AbsOutcome
if_so true u us = u ∷ us
if_so false u us = us

abbrev pub shown_of : Mix → List AbsOutcome
shown_of m = if_so m.no (Some (named (number 0))) (if_so m.yes (Some (named (number 1))) (if_so m.neither None []))
