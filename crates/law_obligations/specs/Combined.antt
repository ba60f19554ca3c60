-- What operators make of tests of their parts.
use Rattle.std.specs.Prelude.{◌+◌, ◌-◌, List, [], ◌∷◌, map, Some, Bool, ◌&&◌, ◌||◌}
use Rattle.std.specs.List.{list_any}
use Rattle.smv_core.specs.Outcome.{is_true}
use Rattle.smv_core.specs.Values.{number, numbers_from, add}
use Rattle.smv_core.specs.declared.flat.FlatExpr.{FlatExpr}
use Rattle.smv_core.specs.declared.flat.FlatMember.{FlatMember, One, Span as SpanOf}
use Rattle.smv_core.specs.declared.flat.FlatSigned.{FlatSigned, out-FlatSigned}
use Rattle.smv_core.specs.declared.tree.Op.TheVariants.{Equal}
use Rattle.law_obligations.specs.Places.{Place, named, World, AbsOutcome, valued, as_place, may_compare}
use Rattle.law_obligations.specs.May.{AbsState, Kept, may}
use Rattle.law_obligations.specs.Right.{is_false, is_neither}
use Rattle.law_obligations.specs.Sets.{pairs}
use Rattle.law_obligations.specs.Mix.{Mix, none_at_all, or_all}

-- one of two, and of all
abbrev pub union_mix : Mix → Mix → Mix
union_mix m n = record { no = m.no || n.no; yes = m.yes || n.yes; neither = m.neither || n.neither }

abbrev pub unions : List Mix → Mix
unions [] = none_at_all
unions (m ∷ ms) = union_mix m (unions ms)

-- one of three by a condition
abbrev pub branch_any : Mix → Bool → Bool → Bool → Bool
branch_any x at_yes at_no at_neither = (x.no && at_no) || ((x.yes && at_yes) || (x.neither && at_neither))

-- `in`: `=` of an outcome and some outcome of a member, and one outcome of the left side against all members
abbrev pub equal_mix : AbsOutcome → List AbsOutcome → Mix
equal_mix u vs = record { no = list_any (λ v. list_any is_false (may_compare Equal u v)) vs; yes = list_any (λ v. list_any is_true (may_compare Equal u v)) vs; neither = list_any (λ v. list_any is_neither (may_compare Equal u v)) vs }

abbrev pub member_mix : List (List AbsOutcome) → AbsOutcome → Mix
member_mix vss u = or_all (map (equal_mix u) vss)

abbrev pub within_mix : List AbsOutcome → List (List AbsOutcome) → Mix
within_mix us vss = record { no = list_any (λ u. (member_mix vss u).no) us; yes = list_any (λ u. (member_mix vss u).yes) us; neither = list_any (λ u. (member_mix vss u).neither) us }

-- what each member of a listed set may be
abbrev pub of_member : World → Kept → AbsState → List Place → FlatMember → List (List AbsOutcome)
of_member w kept a b (One e) = may w kept a e b ∷ []
of_member w kept a b (SpanOf span at) = map (λ k. Some (named (number k)) ∷ []) (numbers_from span.low (span.high + 1 - span.low))

-- a chain of sums and differences, by what its parts may be, and a test of it as one of its first part
abbrev pub summed : (FlatExpr → List AbsOutcome) → List FlatSigned → List AbsOutcome → List AbsOutcome
summed each [] us = us
summed each (x ∷ xs) us = summed each xs (pairs (λ u v. as_place (add (out-FlatSigned x).minus (valued u) (valued v)) ∷ []) us (each (out-FlatSigned x).of))

abbrev pub sum_test : (FlatExpr → List AbsOutcome) → List FlatSigned → (AbsOutcome → Bool) → AbsOutcome → Bool
sum_test each [] p u = p u
sum_test each (x ∷ xs) p u = list_any (λ v. sum_test each xs p (as_place (add (out-FlatSigned x).minus (valued u) (valued v)))) (each (out-FlatSigned x).of)
