-- The abstract forms of set types, one after the other.
use Rattle.std.proofs.Common.{◌≡◌, ℕ, suc, ◌+◌, ◌≤◌, List, [], ◌∷◌, ◌++◌, drop, length, Some, refl, sym, ap, ◌∙◌, arith, append_assoc, append-nil}
use Rattle.std.specs.List.{slice_get}
use Rattle.std.proofs.lemmas.Grind.{common_steps}
use Rattle.law_lists.proofs.Lists.{length_map}
use Rattle.smv_core.specs.declared.flat.SetInfo.{SetInfo}
use Rattle.smv_core.specs.declared.flat.Param.{Param}
use Rattle.smv_core.specs.declared.flat.Keep.{Keep}
use Rattle.smv_core.specs.declared.flat.Class.{Class}
use Rattle.smv_core.specs.declared.abstract_type.AbsType.{AbsType}
use Rattle.law_obligations.specs.Cases.{Treatment, numbered, type_in}
use Rattle.law_obligations.specs.LeafCases.{kept_of, treatment_of, treatments_of, parameters_of}
use Rattle.law_obligations.proofs.CoverNames.{numbered-at}
use Rattle.law_obligations.proofs.ScriptCases.{treatment-at}
use Rattle.smv_cases.specs.Types.{types_of}
use Rattle.smv_cases.proofs.SlotLaws.{drop-one}

numbered_long : (k : ℕ) (ts : List Treatment) → length (numbered k ts) ≡ length ts
numbered_long k [] = refl
numbered_long k (t ∷ ts) = ap suc (numbered_long (k + 1) ts)

treatments_long : (keeps : List Keep) (k : ℕ) (sets : List SetInfo) → length (treatments_of keeps k sets) ≡ length sets
treatments_long keeps k [] = refl
treatments_long keeps k (info ∷ sets) = ap suc (treatments_long keeps (k + 1) sets)

module _ (sets : List SetInfo) (params : List Param) (keeps : List Keep) (classes : List Class) where
  abbrev all : List AbsType
  all = types_of sets params keeps classes

  long : length (types_of sets params keeps classes) ≡ length sets
  long = length_map (λ (set, t). type_in t set (parameters_of keeps params) classes) (numbered 0 (treatments_of keeps 0 sets)) ∙ (numbered_long 0 (treatments_of keeps 0 sets) ∙ treatments_long keeps 0 sets)

  -- one type more
  pub types_more : (place : ℕ) (info : SetInfo) (types more : List AbsType) (made : AbsType) → slice_get sets place ≡ Some info → more ≡ types ++ made ∷ [] →
      made ≡ type_in (treatment_of info.ordered info.size (kept_of keeps place)) place (parameters_of keeps params) classes → types ++ drop place all ≡ all → more ++ drop (place + 1) all ≡ all
  types_more place info types more made e is same so_far =
      let there = numbered-at (λ (set, t). type_in t set (parameters_of keeps params) classes) 0 place place (treatments_of keeps 0 sets) (treatment_of info.ordered info.size (kept_of keeps place)) (omega arith)
      (treatment-at keeps 0 place place sets info (omega arith) e) in
      ap (λ xs. xs ++ drop (place + 1) all) is ∙ (append_assoc types (made ∷ []) (drop (place + 1) all)
      ∙ (ap (λ t. types ++ t ∷ drop (place + 1) all) same ∙ (ap (λ xs. types ++ xs) (sym (drop-one all place (type_in (treatment_of info.ordered info.size (kept_of keeps place)) place (parameters_of keeps params) classes) there)) ∙ so_far)))

  pub types_all : (place : ℕ) (types : List AbsType) → length sets ≤ place → types ++ drop place all ≡ all → types ≡ all
  types_all place types l e = sym (append-nil types) ∙ (ap (λ xs. types ++ xs) (sym (past all place (omega (arith, l, long)))) ∙ e)
    where
      past : (xs : List AbsType) (k : ℕ) → length xs ≤ k → drop k xs ≡ []
      past xs k l = grind (arith, common_steps)
