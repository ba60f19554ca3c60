-- Every instance of a leaf has a case with a placing.
use Rattle.std.proofs.Common.{◌≡◌, ℕ, ◌+◌, List, [], ◌∷◌, map, Bool, true, false, sym, subst, Option, Some, None, IfSome}
use Rattle.law_lists.proofs.Lists.{map-map}
use Rattle.smv_core.specs.Values.{Value, Sizes}
use Rattle.smv_core.specs.FlatMeaning.{Numbered, values_in}
use Rattle.smv_core.specs.declared.flat.SetInfo.{SetInfo}
use Rattle.smv_core.specs.declared.flat.Param.{Param}
use Rattle.smv_core.specs.declared.flat.Keep.{Keep}
use Rattle.law_obligations.specs.Sets.{Has, first, later, one_of_each}
use Rattle.law_obligations.specs.Cases.{Parameter}
use Rattle.law_obligations.specs.Covers.{AreApart, IsTreated, AreTreated, IsIndexType, AreCovered}
use Rattle.law_obligations.specs.LeafCases.{kept_of, treatment_of, treatments_of, stays, parameters_of}
use Rattle.law_obligations.proofs.Members.{Has-from_map}
use Rattle.law_obligations.proofs.CoverCases.{cases_cover}

is_treated : (is_ordered : Bool) (declared : Option ℕ) (kept : Option (List ℕ)) (size : ℕ) → IfSome declared (λ n. size ≡ n) → IsTreated is_ordered size (treatment_of is_ordered declared kept)
is_treated true declared kept size e = tt
is_treated false None kept size e = tt
is_treated false (Some n) None size e = sym e
is_treated false (Some n) (Some vars) size e = sym e

are_treated : (sizes : Sizes) (keeps : List Keep) (k : ℕ) (sets : List SetInfo) → ((info : SetInfo) → Has sets info → IfSome info.size (λ n. sizes info.name ≡ n)) → AreTreated sizes sets (treatments_of keeps k sets)
are_treated sizes keeps k [] each = tt
are_treated sizes keeps k (info ∷ sets) each =
    (is_treated info.ordered info.size (kept_of keeps k) (sizes info.name) (each info first), are_treated sizes keeps (k + 1) sets (λ other h. each other (later h)))

pub leaf_cases_cover : (n : Numbered) → AreApart n.sets → ((info : SetInfo) → Has n.sets info → IfSome info.size (λ size. n.sizes info.name ≡ size)) →
    (params : List Param) → ((p : Param) → Has params p → IsIndexType p.over) → (keeps : List Keep) →
    (values : List Value) → Has (one_of_each (map (values_in n) (map (λ p. p.over) params))) values →
    AreCovered n (treatments_of keeps 0 n.sets) (parameters_of keeps params) values
leaf_cases_cover n apart sized params indexed keeps values h =
    cases_cover n (treatments_of keeps 0 n.sets) apart (are_treated n.sizes keeps 0 n.sets sized) (parameters_of keeps params)
    (λ q at. let r = Has-from_map parameter params at in subst (λ z. IsIndexType z.over) (sym r.2) (indexed r.0 r.1))
    values
    (subst (λ types. Has (one_of_each (map (values_in n) types)) values) (sym (map-map (λ p. p.over) parameter params)) h)
  where
    parameter : Param → Parameter
    parameter p = record { over = p.over; listed = stays keeps p.over p.var }
