-- What the parts of a definition may give an element, as the definitions of demands have it.
use Rattle.std.proofs.Common.{◌≡◌, ℕ, List, [], ◌∷◌, Option, Some, None, Bool, true, false, not, ◌&&◌, ◌||◌, refl, sym, ap, ◌∙◌, if◌then◌else◌}
use Rattle.std.specs.List.{list_any, list_all}
use Rattle.law_lists.proofs.Anys.{any-agree}
use Rattle.smv_core.specs.declared.flat.Def.{Def}
use Rattle.smv_core.specs.declared.flat.DefBody.{DefBody}
use Rattle.law_obligations.specs.Places.{Place, same_place, is_named, is_among}
use Rattle.law_obligations.specs.May.{AbsState}
use Rattle.law_obligations.specs.Demands.{concerns_place, or_else, may_give, must_give, may_step, must_step}
use Rattle.law_obligations.specs.Results.{results}
use Rattle.law_obligations.proofs.Same.{same_place-is}
use Rattle.law_obligations.specs.Gist.{gist_of}
use Rattle.smv_targets.specs.Targets.{Aim}
use Rattle.smv_walks.specs.declared.walks.Way.{Way}
use Rattle.smv_walks.specs.declared.walks.Way.TheVariants.{May, Must}
use Rattle.smv_walks.specs.Walks.{asked, allowed, gist_in}
use Rattle.smv_walks.specs.Given.{passes_or, gives_in, keeps_asked, kept_after, nothing_in, next_in, now_in, possible}

-- ---- gists

nothing_first : (b g n : Bool) → (b || (g || (n && b))) ≡ (g || b)
nothing_first true true n = refl
nothing_first true false n = refl
nothing_first false true n = refl
nothing_first false false true = refl
nothing_first false false false = refl

given_first : (x g n b : Bool) → (x || (g || (n && b))) ≡ ((x || g) || (n && b))
given_first true g n b = refl
given_first false g n b = refl

pub passes-gist : {X : Type 0} (f : X → Bool) (b : Bool) (rs : List (Option X)) → list_any (passes_or f b) rs ≡ ((gist_of f rs).given || ((gist_of f rs).nothing && b))
passes-gist f b [] = refl
passes-gist f b (None ∷ rs) = ap (λ c. b || c) (passes-gist f b rs) ∙ nothing_first b (gist_of f rs).given (gist_of f rs).nothing
passes-gist f b (Some x ∷ rs) = ap (λ c. f x || c) (passes-gist f b rs) ∙ given_first (f x) (gist_of f rs).given (gist_of f rs).nothing b

pub part-gist : (way : Way) (z : Aim) (a : ℕ → Bool) (part : DefBody) (b : Bool) → gives_in way z a part b ≡ ((gist_in way z a [] part).given || ((gist_in way z a [] part).nothing && b))
unfolding gives_in gist_in
part-gist way z a part b = passes-gist (asked way (z.value a)) b (results z.view.world z.view.kept (z.view.state a) z.indexes (λ p. is_among z.every p) (allowed way z a) part [])

-- ---- all results and some result

may-gives : (p : Place) (nothing : Place → Bool) (rs : List (Option (Place → Bool))) → list_any (λ r. or_else r nothing p) rs ≡ list_any (passes_or (asked May p) (nothing p)) rs
may-gives p nothing rs = any-agree (λ r. or_else r nothing p) (passes_or (asked May p) (nothing p)) rs at
  where
    at : (r : Option (Place → Bool)) → or_else r nothing p ≡ passes_or (asked May p) (nothing p) r
    at None = refl
    at (Some x) = refl

not_both : (x b : Bool) → not (x && b) ≡ (not x || not b)
not_both true b = refl
not_both false b = refl

must-gives : (p : Place) (nothing : Place → Bool) (rs : List (Option (Place → Bool))) → not (list_all (λ r. or_else r nothing p) rs) ≡ list_any (passes_or (asked Must p) (not (nothing p))) rs
must-gives p nothing [] = refl
must-gives p nothing (None ∷ rs) = not_both (nothing p) (list_all (λ r. or_else r nothing p) rs) ∙ ap (λ c. not (nothing p) || c) (must-gives p nothing rs)
must-gives p nothing (Some x ∷ rs) = not_both (x p) (list_all (λ r. or_else r nothing p) rs) ∙ ap (λ c. not (x p) || c) (must-gives p nothing rs)

-- ---- the three definitions

when_so : {X : Type 0} (c : Bool) (x y : X) → c ≡ true → (if c then x else y) ≡ x
when_so true x y e = refl
when_so false x y e = absurd (cc)

when_not : {X : Type 0} (c : Bool) (x y : X) → c ≡ false → (if c then x else y) ≡ y
when_not true x y e = absurd (cc)
when_not false x y e = refl

pub possible-comb : (way : Way) (z : Aim) (a : ℕ → Bool) (def : Def) (before : Option AbsState) → concerns_place def.comb z.indexes ≡ true → possible way z.view.world z.view.kept def z.indexes z.every before (z.view.state a) (z.value a) ≡ now_in way def.comb z a
unfolding now_in gives_in
possible-comb May z a def before e =
    when_so (concerns_place def.comb z.indexes) (may_give z.view.world z.view.kept def z.indexes z.every def.comb (z.view.state a) (λ p. is_among z.every p) (z.value a)) (may_step z.view.world z.view.kept def z.indexes z.every before (z.view.state a) (z.value a)) e
    ∙ may-gives (z.value a) (λ p. is_among z.every p) (results z.view.world z.view.kept (z.view.state a) z.indexes (λ p. is_among z.every p) (allowed May z a) def.comb [])
possible-comb Must z a def before e =
    ap not (when_so (concerns_place def.comb z.indexes) (must_give z.view.world z.view.kept def z.indexes z.every def.comb (z.view.state a) (λ p. is_among z.every p) (z.value a)) (must_step z.view.world z.view.kept def z.indexes z.every before (z.view.state a) (z.value a)) e)
    ∙ must-gives (z.value a) (λ p. is_among z.every p) (results z.view.world z.view.kept (z.view.state a) z.indexes (λ p. is_among z.every p) (allowed Must z a) def.comb [])

pub possible-init : (way : Way) (z : Aim) (a : ℕ → Bool) (def : Def) → concerns_place def.comb z.indexes ≡ false → possible way z.view.world z.view.kept def z.indexes z.every None (z.view.state a) (z.value a) ≡ now_in way def.init z a
unfolding now_in gives_in
possible-init May z a def e =
    when_not (concerns_place def.comb z.indexes) (may_give z.view.world z.view.kept def z.indexes z.every def.comb (z.view.state a) (λ p. is_among z.every p) (z.value a)) (may_step z.view.world z.view.kept def z.indexes z.every None (z.view.state a) (z.value a)) e
    ∙ may-gives (z.value a) (λ p. is_among z.every p) (results z.view.world z.view.kept (z.view.state a) z.indexes (λ p. is_among z.every p) (allowed May z a) def.init [])
possible-init Must z a def e =
    ap not (when_not (concerns_place def.comb z.indexes) (must_give z.view.world z.view.kept def z.indexes z.every def.comb (z.view.state a) (λ p. is_among z.every p) (z.value a)) (must_step z.view.world z.view.kept def z.indexes z.every None (z.view.state a) (z.value a)) e)
    ∙ must-gives (z.value a) (λ p. is_among z.every p) (results z.view.world z.view.kept (z.view.state a) z.indexes (λ p. is_among z.every p) (allowed Must z a) def.init [])

-- in the view of the state before
pub possible-next : (way : Way) (z : Aim) (a : ℕ → Bool) (def : Def) (now : AbsState) → concerns_place def.comb z.indexes ≡ false → possible way z.view.world z.view.kept def z.indexes z.every (Some (z.view.state a)) now (z.value a) ≡ next_in way def.family def.next z a
unfolding next_in nothing_in gives_in
possible-next May z a def now e =
    when_not (concerns_place def.comb z.indexes) (may_give z.view.world z.view.kept def z.indexes z.every def.comb now (λ p. is_among z.every p) (z.value a)) (may_step z.view.world z.view.kept def z.indexes z.every (Some (z.view.state a)) now (z.value a)) e
    ∙ may-gives (z.value a) (kept_after May (concerns_place def.next z.indexes) z.every (z.view.state a def.family z.indexes)) (results z.view.world z.view.kept (z.view.state a) z.indexes (λ p. is_among z.every p) (allowed May z a) def.next [])
possible-next Must z a def now e =
    ap not (when_not (concerns_place def.comb z.indexes) (must_give z.view.world z.view.kept def z.indexes z.every def.comb now (λ p. is_among z.every p) (z.value a)) (must_step z.view.world z.view.kept def z.indexes z.every (Some (z.view.state a)) now (z.value a)) e)
    ∙ must-gives (z.value a) (kept_after Must (concerns_place def.next z.indexes) z.every (z.view.state a def.family z.indexes)) (results z.view.world z.view.kept (z.view.state a) z.indexes (λ p. is_among z.every p) (allowed Must z a) def.next [])

-- ---- what Nothing stands for

pub nothing-everything : (way : Way) (family : ℕ) (next : DefBody) (z : Aim) (a : ℕ → Bool) → concerns_place next z.indexes ≡ false → asked way (z.value a) (λ p. is_among z.every p) ≡ nothing_in way family next z a
unfolding nothing_in
nothing-everything May family next z a e = ap (λ c. kept_after May c z.every (z.view.state a family z.indexes) (z.value a)) (sym e)
nothing-everything Must family next z a e = ap (λ c. not (kept_after Must c z.every (z.view.state a family z.indexes) (z.value a))) (sym e)

-- the same place twice
named_alike : (q p : Place) → (same_place q p && is_named q) ≡ (same_place q p && is_named p)
named_alike q p = at (same_place q p) refl
  where
    at : (b : Bool) → same_place q p ≡ b → (b && is_named q) ≡ (b && is_named p)
    at true e = ap is_named (same_place-is q p e)
    at false e = refl

pub nothing-kept : (way : Way) (family : ℕ) (next : DefBody) (z : Aim) (a : ℕ → Bool) → concerns_place next z.indexes ≡ true → is_among z.every (z.view.state a family z.indexes) ≡ true → keeps_asked way z.every (Some (z.view.state a family z.indexes)) (z.value a) ≡ nothing_in way family next z a
unfolding nothing_in
nothing-kept May family next z a e there = ap (λ c. kept_after May c z.every (z.view.state a family z.indexes) (z.value a)) (sym e)
nothing-kept Must family next z a e there =
    let q : Place = z.view.state a family z.indexes in
    ap (λ c. not (if c then same_place q (z.value a) && is_named q else is_among z.every (z.value a))) there
    ∙ (ap not (named_alike q (z.value a)) ∙ ap (λ c. not (kept_after Must c z.every q (z.value a))) (sym e))
