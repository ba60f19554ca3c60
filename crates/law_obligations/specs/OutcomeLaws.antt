-- What operators, quantifiers, `in`, reads and definitions give, by what is possible of their parts.
use Rattle.std.specs.Prelude.{◌≡◌, List, [], ◌∷◌, map, flat_map, Option, Bool, true}
use Rattle.std.specs.List.{list_any, list_all}
use Rattle.smv_core.specs.Values.{iff_of, conjunction, disjunction, implication}
use Rattle.smv_core.specs.declared.flat.FlatExpr.{FlatExpr}
use Rattle.smv_core.specs.declared.flat.FlatSigned.{FlatSigned}
use Rattle.smv_core.specs.declared.flat.Simple.{Simple}
use Rattle.law_obligations.specs.Sets.{one_of_each, pairs}
use Rattle.law_obligations.specs.Places.{Place, World, AbsOutcome, equal_places, where_defined}
use Rattle.law_obligations.specs.May.{seen, shown, quantified}
use Rattle.law_obligations.specs.Results.{first_result, taken}
use Rattle.law_obligations.specs.Mix.{is_there, mix_by, iff_mix, and_all, or_all, implies_all, all_mix, any_mix}
use Rattle.law_obligations.specs.Combined.{within_mix, summed, sum_test}
use Rattle.law_obligations.specs.Gist.{gist_of, if_gist, first_all}
use Rattle.law_obligations.specs.ReadOutcomes.{found, within_all, found_from}

-- chains of operators on one outcome of each part, each of which may be something
abbrev pub ConjunctionsMix : Type 0
ConjunctionsMix = (uss : List (List AbsOutcome)) → list_all is_there uss ≡ true → mix_by (λ us. conjunction (map seen us)) (one_of_each uss) ≡ and_all (map (mix_by seen) uss)

abbrev pub DisjunctionsMix : Type 0
DisjunctionsMix = (uss : List (List AbsOutcome)) → list_all is_there uss ≡ true → mix_by (λ us. disjunction (map seen us)) (one_of_each uss) ≡ or_all (map (mix_by seen) uss)

abbrev pub ImplicationsMix : Type 0
ImplicationsMix = (us : List AbsOutcome) (uss : List (List AbsOutcome)) → list_all is_there (us ∷ uss) ≡ true → mix_by (λ us. implication (map seen us)) (one_of_each (us ∷ uss)) ≡ implies_all (map (mix_by seen) (us ∷ uss))

abbrev pub EquivalencesMix : Type 0
EquivalencesMix = (us vs : List AbsOutcome) → is_there us ≡ true → is_there vs ≡ true → mix_by seen (pairs (λ u v. shown (iff_of (seen u) (seen v)) ∷ []) us vs) ≡ iff_mix (mix_by seen us) (mix_by seen vs)

-- quantifiers take any part of what is at the rests
abbrev pub ConjunctionsOverTypes : Type 0
ConjunctionsOverTypes = (at_named : List (List AbsOutcome)) (at_rests : List AbsOutcome) → list_all is_there at_named ≡ true → mix_by seen (quantified conjunction at_named at_rests) ≡ all_mix (map (mix_by seen) at_named) (mix_by seen at_rests)

abbrev pub DisjunctionsOverTypes : Type 0
DisjunctionsOverTypes = (at_named : List (List AbsOutcome)) (at_rests : List AbsOutcome) → list_all is_there at_named ≡ true → mix_by seen (quantified disjunction at_named at_rests) ≡ any_mix (map (mix_by seen) at_named) (mix_by seen at_rests)

-- `in` chooses its left part once for all members
abbrev pub MembershipsMix : Type 0
MembershipsMix = (us : List AbsOutcome) (vss : List (List AbsOutcome)) → list_all is_there vss ≡ true →
    mix_by (λ t. t) (pairs (λ u vs. map disjunction (one_of_each (map (where_defined equal_places u) vs))) us (one_of_each vss)) ≡ within_mix us vss

-- sums are taken from the left, and reads index by index
abbrev pub SumsFold : Type 0
SumsFold = (each : FlatExpr → List AbsOutcome) (more : List FlatSigned) (us : List AbsOutcome) (p : AbsOutcome → Bool) → list_any p (summed each more us) ≡ list_any (sum_test each more p) us

abbrev pub ReadsFold : Type 0
ReadsFold = (w : World) (outside : Bool) (inside : List Place → Bool) (over : List Simple) (uss : List (List AbsOutcome)) → list_all is_there uss ≡ true →
    list_any (λ us. found outside inside (within_all w over us)) (one_of_each uss) ≡ found_from w outside inside [] over uss

-- a definition's results: under a condition, and the first of one of each
abbrev pub ConditionsGist : Type 0
ConditionsGist = (everything : Place → Bool) (f : (Place → Bool) → Bool) (us : List AbsOutcome) (ls rs : List (Option (Place → Bool))) → is_there ls ≡ true → is_there rs ≡ true →
    gist_of f (flat_map (λ u. pairs (λ x y. taken everything (seen u) x y ∷ []) ls rs) us) ≡ if_gist (f everything) (mix_by seen us) (gist_of f ls) (gist_of f rs)

abbrev pub FirstResultsGist : Type 0
FirstResultsGist = (f : (Place → Bool) → Bool) (rss : List (List (Option (Place → Bool)))) → list_all is_there rss ≡ true → gist_of f (map first_result (one_of_each rss)) ≡ first_all (map (gist_of f) rss)
