-- What is brought together by owner.
use Rattle.std.proofs.Common.{◌≡◌, List, [], ◌∷◌, ◌++◌, Option, Some, None, Bool, true, false, cond, refl, sym, ap, ◌∙◌}
use Rattle.std.specs.List.{AllByRecursion, IsDistinct}
use Rattle.std.specs.Map.{keys_of, lookup}
use Rattle.std.specs.HashMap.{HashMap, UpdatesBy}
use Rattle.std.proofs.lemmas.List.{append-nil, append_assoc}
use Rattle.smv_core.specs.declared.flat.FlatExpr.{FlatExpr}
use Rattle.smv_core.specs.declared.flat.DefBody.{DefBody}
use Rattle.law_designs.specs.Definitions.{is_nothing}
use Rattle.smv_design.specs.declared.owners.Owner.{Owner}
use Rattle.smv_design.specs.declared.parts.Part.{Part}
use Rattle.smv_design.specs.declared.groups.Sides.{Sides}
use Rattle.smv_design.specs.Parts.{kept}
use Rattle.smv_design.specs.Groups.{same_owner, parts_for, no_sides, filled, more, combine, or_none, used, held, one_more}
use Rattle.smv_design.proofs.OwnerLaws.{owners-equal, owners-turned}

-- an owner that had no parts gets its first
pub first-part : {S : Type 0} (m m' : HashMap Owner Sides S) (owner : Owner) (is_second : Bool) (says : DefBody) (sides : Sides) → used m owner ≡ None → sides ≡ more no_sides is_second says
    → UpdatesBy same_owner (same_owner owner) m m' (Some sides) → (other : Owner) → used m' other ≡ one_more (used m other) (same_owner owner other) is_second says
first-part m m' owner is_second says sides none one updates other = updates.0 other ∙ by (same_owner owner other) refl
  where
    by : (b : Bool) → same_owner owner other ≡ b → cond b (Some sides) (used m other) ≡ one_more (used m other) b is_second says
    by true e =
        let here : used m other ≡ None = ap (used m) (sym (owners-equal owner other e)) ∙ none in
        ap (λ s. Some s) one ∙ sym (ap (λ o. Some (more (or_none o) is_second says)) here)
    by false e = refl

-- nothing is said yet
pub none-held : {S : Type 0} (groups : HashMap Owner Sides S) (owner : Owner) → groups.entries ≡ [] → held groups owner ≡ no_sides
none-held groups owner e = rw e refl

-- ---- more parts

pub filled-none : (s : Sides) (is_second : Bool) → filled s is_second [] ≡ s
filled-none s true = ap (λ (l : List DefBody). let t : Sides = record { first = s.first; second = l } in t) (append-nil s.second)
filled-none s false = ap (λ (l : List DefBody). let t : Sides = record { first = l; second = s.second } in t) (append-nil s.first)

pub filled-both : (s : Sides) (is_second : Bool) (xs ys : List DefBody) → filled (filled s is_second xs) is_second ys ≡ filled s is_second (xs ++ ys)
filled-both s true xs ys = ap (λ (l : List DefBody). let t : Sides = record { first = s.first; second = l } in t) (append_assoc s.second xs ys)
filled-both s false xs ys = ap (λ (l : List DefBody). let t : Sides = record { first = l; second = s.second } in t) (append_assoc s.first xs ys)

filled-more : (s : Sides) (is_second : Bool) (says : DefBody) (rest : List DefBody) → filled (more s is_second says) is_second rest ≡ filled s is_second (says ∷ rest)
filled-more s is_second says rest = filled-both s is_second (says ∷ []) rest

-- one more part of a list
pub filled-step : (before after : Option Sides) (p : Part) (owner : Owner) (is_second : Bool) (rest : List Part) → after ≡ one_more before (same_owner p.owner owner) is_second p.says
    → filled (or_none after) is_second (parts_for owner rest) ≡ filled (or_none before) is_second (parts_for owner (p ∷ rest))
filled-step before after p owner is_second rest e = ap (λ o. filled (or_none o) is_second (parts_for owner rest)) e ∙ by (same_owner p.owner owner)
  where
    by : (b : Bool) → filled (or_none (one_more before b is_second p.says)) is_second (parts_for owner rest) ≡ filled (or_none before) is_second (cond b (p.says ∷ parts_for owner rest) (parts_for owner rest))
    by true = filled-more (or_none before) is_second p.says (parts_for owner rest)
    by false = refl

pub filled-end : (s : Sides) (is_second : Bool) (owner : Owner) (parts : List Part) → parts ≡ [] → filled s is_second (parts_for owner parts) ≡ s
filled-end s is_second owner parts e = ap (λ l. filled s is_second (parts_for owner l)) e ∙ filled-none s is_second

-- ---- a map that is taken apart

module _ (test : Option FlatExpr) (owner : Owner) where
  -- what these entries come to for the owner
  abbrev pub drained : List (Owner × Sides) → List DefBody
  drained [] = []
  drained ((o, s) ∷ es) = cond (same_owner o owner) (kept (combine test s)) [] ++ drained es

  abbrev AllOther : List (Owner × Sides) → Type 0
  AllOther [] = Unit {0}
  AllOther ((o, s) ∷ es) = (same_owner o owner ≡ false) × AllOther es

  none-drained : (es : List (Owner × Sides)) → AllOther es → drained es ≡ []
  none-drained [] other = refl
  none-drained ((o, s) ∷ es) other = ap (λ b. cond b (kept (combine test s)) [] ++ drained es) other.0 ∙ none-drained es other.1

  others : (o : Owner) (es : List (Owner × Sides)) → o ≡ owner → AllByRecursion (λ y. same_owner o y ≡ false) (keys_of es) → AllOther es
  others o [] same apart = tt
  others o ((k, s) ∷ es) same apart = (owners-turned k owner ∙ ap (λ a. same_owner a k) (sym same) ∙ apart.0, others o es same apart.1)

  none-combined : (t : Option FlatExpr) → [] ≡ kept (combine t no_sides)
  none-combined None = refl
  none-combined (Some c) = refl

  -- where no two keys are the same, they come to what is held of the owner
  pub drained-all : (es : List (Owner × Sides)) → IsDistinct same_owner (keys_of es) → drained es ≡ kept (combine test (or_none (lookup (same_owner owner) es)))
  unfolding IsDistinct
  drained-all [] apart = none-combined test
  drained-all ((o, s) ∷ es) apart = by (same_owner owner o) refl (drained-all es apart.1)
    where
      by : (b : Bool) → same_owner owner o ≡ b → drained es ≡ kept (combine test (or_none (lookup (same_owner owner) es))) → drained ((o, s) ∷ es) ≡ kept (combine test (or_none (cond b (Some s) (lookup (same_owner owner) es))))
      by true e rest =
          ap (λ b. cond b (kept (combine test s)) [] ++ drained es) (owners-turned o owner ∙ e)
          ∙ ap (λ l. kept (combine test s) ++ l) (none-drained es (others o es (sym (owners-equal owner o e)) apart.0)) ∙ append-nil (kept (combine test s))
      by false e rest = ap (λ b. cond b (kept (combine test s)) [] ++ drained es) (owners-turned o owner ∙ e) ∙ rest

-- ---- parts in a row

pub parts-end : (ps qs : List Part) (owner : Owner) → parts_for owner (ps ++ qs) ≡ parts_for owner ps ++ parts_for owner qs
parts-end [] qs owner = refl
parts-end (p ∷ ps) qs owner = by (same_owner p.owner owner) (parts-end ps qs owner)
  where
    by : (b : Bool) → parts_for owner (ps ++ qs) ≡ parts_for owner ps ++ parts_for owner qs
        → cond b (p.says ∷ parts_for owner (ps ++ qs)) (parts_for owner (ps ++ qs)) ≡ cond b (p.says ∷ parts_for owner ps) (parts_for owner ps) ++ parts_for owner qs
    by true rest = ap (λ l. p.says ∷ l) rest
    by false rest = rest

-- one more part, if it has a result
pub kept-part : (ps qs : List Part) (owner other : Owner) (says : DefBody) → is_nothing says ≡ false → qs ≡ ps ++ record { owner = owner; says = says } ∷ [] → parts_for other qs ≡ parts_for other ps ++ cond (same_owner owner other) (kept says) []
kept-part ps qs owner other says some new = ap (parts_for other) new ∙ parts-end ps (record { owner = owner; says = says } ∷ []) other ∙ ap (λ l. parts_for other ps ++ l) (by (same_owner owner other))
  where
    by : (b : Bool) → cond b (says ∷ []) [] ≡ cond b (kept says) []
    by true = sym (ap (λ n. cond n [] (says ∷ [])) some)
    by false = refl
