-- The place that is found is that of the induction.
use Rattle.std.proofs.Common.{◌≡◌, List, [], ◌∷◌, map, filter, Bool, true, false, if◌then◌else◌, Option, Some, None, refl, sym, ap, ◌∙◌}
use Rattle.std.specs.List.{flat_map, list_any}
use Rattle.std.specs.Option.{option_map}
use Rattle.std.specs.Str.{bytes_eq}
use Rattle.smv_core.specs.Values.{Name}
use Rattle.smv_core.specs.declared.tree.Top.{Top}
use Rattle.smv_core.specs.declared.tree.TypeExpr.{TypeExpr, Named}
use Rattle.law_strengthened_texts.specs.Stronger.{Found, is_ordset, ordset_named, if_parameter, if_only, induction, main_claims, innermost}
use Rattle.smv_strengthen.specs.Claims.{type_name, top_candidates}
use Rattle.smv_strengthen.specs.Place.{place_of, if_ordset, only_place}
use Rattle.smv_strengthen.proofs.ClaimLaws.{candidate_of, named, in-tops}

module _ (tops : List Top) (var : Name) where
  one-is : (c : Found) → if_ordset tops c.word.at (if list_any (λ v. bytes_eq v.name var) c.vars then type_name (innermost var c.binders) else None) ≡ option_map place_of (if_parameter tops var c)
  one-is c = by_test (list_any (λ v. bytes_eq v.name var) c.vars)
    where
      by_set : (set : Name) (b : Bool) → (if b then Some (record { at = c.word.at; set = set }) else None) ≡ option_map place_of (option_map {U = Found × Name} (λ s. (c, s)) (if b then Some set else None))
      by_set set true = refl
      by_set set false = refl

      by_type : (o : Option TypeExpr) → if_ordset tops c.word.at (type_name o) ≡ option_map place_of (option_map {U = Found × Name} (λ s. (c, s)) (ordset_named tops o))
      by_type (Some (Named word at)) = by_set word.name (list_any (is_ordset word.name) tops)
      by_type _ = refl

      by_test : (b : Bool) → if_ordset tops c.word.at (if b then type_name (innermost var c.binders) else None) ≡ option_map place_of (if b then option_map {U = Found × Name} (λ s. (c, s)) (ordset_named tops (innermost var c.binders)) else None)
      by_test true = by_type (innermost var c.binders)
      by_test false = refl

  only-is : (cs : List Found) → only_place tops (map (candidate_of var) cs) ≡ option_map place_of (if_only tops var cs)
  only-is [] = refl
  only-is (c ∷ []) = one-is c
  only-is (c ∷ d ∷ cs) = refl

pub placed : (tops : List Top) (name var : Name) → only_place tops (flat_map (top_candidates name var) tops) ≡ option_map place_of (induction tops name var)
placed tops name var = ap (only_place tops) (sym (in-tops var name tops)) ∙ only-is tops var (filter (named var name) (main_claims tops))
