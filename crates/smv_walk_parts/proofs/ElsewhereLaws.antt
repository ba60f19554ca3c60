-- An assignment that is known to be elsewhere is not to the element, whatever else its indexes are.
use Rattle.std.proofs.Common.{◌≡◌, List, [], ◌∷◌, map, Some, None, Bool, true, false, ◌||◌, not, refl, sym, ap, ◌∙◌}
use Rattle.smv_core.specs.declared.flat.FlatExpr.{FlatExpr, Number, Var, Loop, Constant, Read', Not', And', Or', Implies', Iff', Compare', Within', Sum', Modulo', Choose', All', Any', List', Each'}
use Rattle.law_obligations.specs.Places.{Place, World, AbsOutcome, same_place}
use Rattle.law_obligations.specs.May.{AbsState, Kept, may}
use Rattle.law_obligations.specs.Mix.{Mix, mix_by, and_mix}
use Rattle.law_obligations.specs.Gist.{at_index, matches_all}
use Rattle.smv_walk_parts.specs.Elsewhere.{known_place, is_other, is_elsewhere}

-- 0 alone
abbrev pub only_no : Mix
only_no = record { no = true; yes = false; neither = false }

no_and : (m : Mix) → and_mix only_no m ≡ only_no
no_and m = refl

and_no : (m : Mix) → and_mix m only_no ≡ only_no
and_no m = at m.no m.yes m.neither
  where
    at : (x y z : Bool) → and_mix (record { no = x; yes = y; neither = z }) only_no ≡ only_no
    at true true true = refl
    at true true false = refl
    at true false true = refl
    at true false false = refl
    at false true true = refl
    at false true false = refl
    at false false true = refl
    at false false false = refl

differs : (c : Bool) → not c ≡ true → mix_by (λ (u : AbsOutcome). Some c) (None ∷ []) ≡ only_no
differs true e = absurd (cc)
differs false e = refl

-- an index that is known to be at another place
module _ (w : World) (kept : Kept) (a : AbsState) (b : List Place) (q : Place) where
  one : (u : AbsOutcome) → is_other q u ≡ true → mix_by (at_index q) (u ∷ []) ≡ only_no
  one None e = absurd (cc)
  one (Some p) e = differs (same_place p q) e

  index : (e : FlatExpr) → is_other q (known_place w b e) ≡ true → mix_by (at_index q) (may w kept a e b) ≡ only_no
  index (Number value at) e = one (known_place w b (Number value at)) e
  index (Var var at) e = one (known_place w b (Var var at)) e
  index (Loop value at) e = one (known_place w b (Loop value at)) e
  index (Constant list value at) e = one (known_place w b (Constant list value at)) e
  index (Read' family shape indexes at) e = absurd (cc)
  index (Not' shape of at) e = absurd (cc)
  index (And' shape parts) e = absurd (cc)
  index (Or' shape parts) e = absurd (cc)
  index (Implies' shape parts) e = absurd (cc)
  index (Iff' l left r right) e = absurd (cc)
  index (Compare' op l left r right) e = absurd (cc)
  index (Within' l left r set) e = absurd (cc)
  index (Sum' f head shape more) e = absurd (cc)
  index (Modulo' shape of by at) e = absurd (cc)
  index (Choose' c cond l left r right) e = absurd (cc)
  index (All' shape body var over at) e = absurd (cc)
  index (Any' shape body var over at) e = absurd (cc)
  index (List' shape members at) e = absurd (cc)
  index (Each' var over cond at) e = absurd (cc)

-- with those of the others
module _ (w : World) (kept : Kept) (a : AbsState) (b : List Place) where
  joined : (q : Place) (x : FlatExpr) (c others : Bool) (rest : Mix) → c ≡ is_other q (known_place w b x) → (c || others) ≡ true → (others ≡ true → rest ≡ only_no) → and_mix (mix_by (at_index q) (may w kept a x b)) rest ≡ only_no
  joined q x true others rest h o r = ap (λ m. and_mix m rest) (index w kept a b q x (sym h)) ∙ no_and rest
  joined q x false others rest h o r = ap (and_mix (mix_by (at_index q) (may w kept a x b))) (r o) ∙ and_no (mix_by (at_index q) (may w kept a x b))

  -- the left side then matches for certain not
  pub never_matches : (qs : List Place) (es : List FlatExpr) → is_elsewhere w qs es b ≡ true → matches_all qs (map (λ e. may w kept a e b) es) ≡ only_no
  never_matches [] es e = absurd (cc)
  never_matches (q ∷ qs) [] e = absurd (cc)
  never_matches (q ∷ qs) (x ∷ xs) e = joined q x (is_other q (known_place w b x)) (is_elsewhere w qs xs b) (matches_all qs (map (λ e. may w kept a e b) xs)) refl e (λ o. never_matches qs xs o)
