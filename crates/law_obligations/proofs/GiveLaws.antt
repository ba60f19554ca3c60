-- What a definition may give, and gives for certain, by the gist of its possible results; comparisons and `<->` by pairs.
use Rattle.std.proofs.Common.{◌≡◌, List, [], ◌∷◌, map, Bool, true, false, not, ◌&&◌, ◌||◌, Option, Some, None, refl, ap, ◌∙◌}
use Rattle.std.specs.List.{flat_map, list_any, list_all}
use Rattle.std.specs.Option.{is_none}
use Rattle.law_lists.proofs.Anys.{any-map, any-flat_map, any-agree}
use Rattle.smv_core.specs.Values.{Truth}
use Rattle.smv_core.specs.Outcome.{is_true}
use Rattle.smv_core.specs.declared.tree.Op.{Op}
use Rattle.smv_core.specs.declared.flat.Def.{Def}
use Rattle.smv_core.specs.declared.flat.DefBody.{DefBody}
use Rattle.law_obligations.specs.Sets.{pairs}
use Rattle.law_obligations.specs.Right.{is_false, is_neither, may_allow, must_allow}
use Rattle.law_obligations.specs.Places.{Place, World, AbsOutcome, is_among, may_compare}
use Rattle.law_obligations.specs.May.{AbsState, Kept, seen, shown}
use Rattle.law_obligations.specs.Results.{results}
use Rattle.law_obligations.specs.Demands.{or_else, may_give, must_give}
use Rattle.law_obligations.specs.Gist.{Gist, passes, gist_of}
use Rattle.law_obligations.specs.Mix.{mix_by}
use Rattle.law_obligations.proofs.MixLaws.{same_mix, seen-shown}

-- some result gives the place, or Nothing does
abbrev pub given_by : Gist → Bool → Bool
given_by g nothing = g.given || (g.nothing && nothing)

or_else-any : (p : Place) (nothing : Place → Bool) (rs : List (Option (Place → Bool))) → list_any (λ r. or_else r nothing p) rs ≡ given_by (gist_of (λ x. x p) rs) (nothing p)
or_else-any p nothing [] = refl
or_else-any p nothing (None ∷ rs) = ap (λ b. nothing p || b) (or_else-any p nothing rs) ∙ at (nothing p) (list_any (passes (λ x. x p)) rs) (list_any is_none rs)
  where
    at : (x g k : Bool) → (x || (g || (k && x))) ≡ (g || ((true || k) && x))
    at true true k = refl
    at true false k = refl
    at false true k = refl
    at false false true = refl
    at false false false = refl
or_else-any p nothing (Some x ∷ rs) = ap (λ b. x p || b) (or_else-any p nothing rs) ∙ at (x p) (list_any (passes (λ x. x p)) rs) (list_any is_none rs && nothing p)
  where
    at : (x g k : Bool) → (x || (g || k)) ≡ ((x || g) || k)
    at true g k = refl
    at false g k = refl

or_else-all : (p : Place) (nothing : Place → Bool) (rs : List (Option (Place → Bool))) → list_all (λ r. or_else r nothing p) rs ≡ not (given_by (gist_of (λ x. not (x p)) rs) (not (nothing p)))
or_else-all p nothing [] = refl
or_else-all p nothing (None ∷ rs) = ap (λ b. nothing p && b) (or_else-all p nothing rs) ∙ at (nothing p) (list_any (passes (λ x. not (x p))) rs) (list_any is_none rs)
  where
    at : (x g k : Bool) → (x && not (g || (k && not x))) ≡ not (g || ((true || k) && not x))
    at true true k = refl
    at true false true = refl
    at true false false = refl
    at false true k = refl
    at false false k = refl
or_else-all p nothing (Some x ∷ rs) = ap (λ b. x p && b) (or_else-all p nothing rs) ∙ at (x p) (list_any (passes (λ x. not (x p))) rs) (list_any is_none rs && not (nothing p))
  where
    at : (x g k : Bool) → (x && not (g || k)) ≡ not ((not x || g) || k)
    at true g k = refl
    at false g k = refl

module _ (w : World) (kept : Kept) (def : Def) (indexes : List Place) (every : List Place) (part : DefBody) (a : AbsState) (nothing : Place → Bool) (p : Place) where
  pub may-given : may_give w kept def indexes every part a nothing p ≡ given_by (gist_of (λ x. x p) (results w kept a indexes (λ q. is_among every q) (may_allow w kept a every) part [])) (nothing p)
  may-given = or_else-any p nothing (results w kept a indexes (λ q. is_among every q) (may_allow w kept a every) part [])

  pub must-given : must_give w kept def indexes every part a nothing p ≡ not (given_by (gist_of (λ x. not (x p)) (results w kept a indexes (λ q. is_among every q) (must_allow w kept a every) part [])) (not (nothing p)))
  must-given = or_else-all p nothing (results w kept a indexes (λ q. is_among every q) (must_allow w kept a every) part [])

-- a comparison: what the answers for each two outcomes are
abbrev pub answers : (AbsOutcome → AbsOutcome → List Truth) → (Truth → Bool) → List AbsOutcome → List AbsOutcome → Bool
answers f p us vs = list_any (λ u. list_any (λ v. list_any p (f u v)) vs) us

pub mix-compare : (op : Op) (us vs : List AbsOutcome) →
    mix_by seen (pairs (λ u v. map shown (may_compare op u v)) us vs) ≡ record { no = answers (may_compare op) is_false us vs; yes = answers (may_compare op) is_true us vs; neither = answers (may_compare op) is_neither us vs }
mix-compare op us vs = same_mix (part is_false) (part is_true) (part is_neither)
  where
    part : (p : Truth → Bool) → list_any (λ u. p (seen u)) (pairs (λ u v. map shown (may_compare op u v)) us vs) ≡ answers (may_compare op) p us vs
    part p = any-flat_map (λ u. p (seen u)) (λ u. flat_map (λ v. map shown (may_compare op u v)) vs) us
        ∙ any-agree (λ u. list_any (λ x. p (seen x)) (flat_map (λ v. map shown (may_compare op u v)) vs)) (λ u. list_any (λ v. list_any p (may_compare op u v)) vs) us (λ u.
        any-flat_map (λ x. p (seen x)) (λ v. map shown (may_compare op u v)) vs
        ∙ any-agree (λ v. list_any (λ x. p (seen x)) (map shown (may_compare op u v))) (λ v. list_any p (may_compare op u v)) vs (λ v.
        any-map (λ x. p (seen x)) shown (may_compare op u v) ∙ any-agree (λ t. p (seen (shown t))) p (may_compare op u v) (λ t. ap p (seen-shown t))))
