-- The gist of the possible results of a definition: whether Nothing is possible, whether a result is, and whether a result that passes a test is.
use Rattle.std.specs.Prelude.{List, [], ◌∷◌, Option, Some, None, is_none, Bool, true, false, ◌&&◌, ◌||◌}
use Rattle.std.specs.List.{list_any}
use Rattle.smv_core.specs.Values.{Truth, and_of}
use Rattle.law_obligations.specs.Places.{Place, AbsOutcome, same_place}
use Rattle.law_obligations.specs.Mix.{Mix, mix_by, only_yes, and_mix}

pub record Gist : Type 0 where
  pub nothing : Bool
  pub something : Bool
  pub given : Bool

abbrev pub passes : {X : Type 0} → (X → Bool) → Option X → Bool
passes f None = false
passes f (Some x) = f x

abbrev pub is_result : {X : Type 0} → Option X → Bool
is_result None = false
is_result (Some x) = true

abbrev pub gist_of : {X : Type 0} → (X → Bool) → List (Option X) → Gist
gist_of f rs = record { nothing = list_any is_none rs; something = list_any is_result rs; given = list_any (passes f) rs }

-- Nothing
abbrev pub nothing_alone : Gist
nothing_alone = record { nothing = true; something = false; given = false }

-- under a condition; where it is no truth value, everything, unless neither branch has a result
abbrev pub if_gist : Bool → Mix → Gist → Gist → Gist
if_gist everything c g h = record {
  nothing = (c.no && h.nothing) || ((c.yes && g.nothing) || (c.neither && (g.nothing && h.nothing)));
  something = (c.no && h.something) || ((c.yes && g.something) || (c.neither && (g.something || h.something)));
  given = (c.no && h.given) || ((c.yes && g.given) || (c.neither && ((g.something || h.something) && everything)));
}

-- the first result
abbrev pub first_gist : Gist → Gist → Gist
first_gist g h = record { nothing = g.nothing && h.nothing; something = g.something || h.something; given = g.given || (g.nothing && h.given) }

abbrev pub first_all : List Gist → Gist
first_all [] = nothing_alone
first_all (g ∷ gs) = first_gist g (first_all gs)

-- an index against the element's, and all of them
abbrev pub at_index : Place → AbsOutcome → Truth
at_index q (Some p) = Some (same_place p q)
at_index q None = None

abbrev pub is_known : AbsOutcome → Truth
is_known (Some p) = Some true
is_known None = None

abbrev pub matches : List Place → List AbsOutcome → Truth
matches qs [] = Some true
matches [] (u ∷ us) = and_of (is_known u) (matches [] us)
matches (q ∷ qs) (u ∷ us) = and_of (at_index q u) (matches qs us)

abbrev pub matches_all : List Place → List (List AbsOutcome) → Mix
matches_all qs [] = only_yes
matches_all [] (us ∷ uss) = and_mix (mix_by is_known us) (matches_all [] uss)
matches_all (q ∷ qs) (us ∷ uss) = and_mix (mix_by (at_index q) us) (matches_all qs uss)

-- an assignment, by whether its element is the one asked for
abbrev pub assigned_gist : Bool → Bool → Mix → Gist
assigned_gist everything right m = record { nothing = m.no; something = m.yes || m.neither; given = (m.yes && right) || (m.neither && everything) }
