-- The faults of a text's tops, one after the other, and the first of them.
use Rattle.std.proofs.Common.{◌≡◌, ℕ, zero, suc, ◌+◌, List, [], ◌∷◌, ◌++◌, take, drop, ap, sym, ◌∙◌, add-one}
use Rattle.std.specs.Prelude.{Option, Some, slice_get}
use Rattle.std.specs.List.{flat_map}
use Rattle.std.proofs.lemmas.List.{append_assoc}
use Rattle.law_lists.proofs.Places.{drop_got}
use Rattle.smv_core.specs.Values.{Name}
use Rattle.smv_core.specs.declared.fault.Fault.{Fault}
use Rattle.smv_core.specs.declared.tree.Word.{Word}
use Rattle.smv_core.specs.declared.tree.Item.{Item}
use Rattle.smv_core.specs.declared.tree.TypeExpr.{TypeExpr}
use Rattle.smv_core.specs.declared.tree.Top.{Top}
use Rattle.smv_core.specs.declared.tree.Top.TheVariants.{Alias, Module as ModuleOf}
use Rattle.smv_mentions.specs.Scopes.{Constant, pieces, constants}
use Rattle.smv_mentions.specs.FirstFault.{first_of}
use Rattle.smv_first_fault.specs.Firsts.{earlier_of}
use Rattle.smv_first_fault.proofs.FirstLaws.{earlier-assoc, earlier-none}
use Rattle.law_designs.specs.Types.{Types, types_after, type_faults}
use Rattle.law_designs.specs.References.{Module, modules_from}
use Rattle.law_designs.specs.KindFaults.{in_item, in_top, in_tops}
use Rattle.smv_expression_kinds.specs.declared.lookups.Scope.{Scope as HeldScope}
use Rattle.smv_expression_kinds.specs.Forms.{types_from, types_before, module_in}
use Rattle.smv_expression_kinds.specs.Found.{scope_of}
use Rattle.smv_expression_kinds.proofs.ScopeLaws.{here-types}

module _ (scope : HeldScope) where
  pub top-Module : (top : Top) (word : Word) (formals : List Word) (body : List Item) (at : ℕ) → slice_get scope.tables.now.names.text.now.tops scope.place ≡ Some top → top ≡ ModuleOf word formals body at
      → flat_map (in_item (scope_of scope) []) body
      ≡ in_top (modules_from [] scope.tables.now.names.text.now.tops) (constants (pieces scope.tables.now.names.text.now)) (types_before scope.tables.now.names.text.now scope.place) top
  unfolding scope_of
  top-Module top word formals body at here is =
      ap (λ o. flat_map (in_item (record { modules = modules_from [] scope.tables.now.names.text.now.tops; constants = constants (pieces scope.tables.now.names.text.now); here = module_in (types_before scope.tables.now.names.text.now scope.place) o }) []) body) (here ∙ ap Some is)
      ∙ ap (in_top (modules_from [] scope.tables.now.names.text.now.tops) (constants (pieces scope.tables.now.names.text.now)) (types_before scope.tables.now.names.text.now scope.place)) (sym is)

  pub top-Alias : (top : Top) (word : Word) (of : TypeExpr) (at : ℕ) → top ≡ Alias word of at
      → type_faults (scope_of scope).here.types of
      ≡ in_top (modules_from [] scope.tables.now.names.text.now.tops) (constants (pieces scope.tables.now.names.text.now)) (types_before scope.tables.now.names.text.now scope.place) top
  top-Alias top word of at is =
      ap (λ types. type_faults types of) (here-types scope)
      ∙ ap (in_top (modules_from [] scope.tables.now.names.text.now.tops) (constants (pieces scope.tables.now.names.text.now)) (types_before scope.tables.now.names.text.now scope.place)) (sym is)

-- ---- one top after the other

types-next : (types : Types) (tops : List Top) (i : ℕ) (top : Top) → slice_get tops i ≡ Some top → types_from types (take (suc i) tops) ≡ types_after (types_from types (take i tops)) top
types-next types [] i top h = cc
types-next types (here ∷ tops) zero top h = let same : here ≡ top = cc in ap (types_after types) same
types-next types (here ∷ tops) (suc i) top h = types-next (types_after types here) tops i top h

pub tops-step : (modules : List (Name × Module)) (known : List (Name × Constant)) (tops : List Top) (i : ℕ) (top : Top) (before after all : List Fault) → slice_get tops i ≡ Some top
    → after ≡ before ++ in_top modules known (types_from [] (take i tops)) top
    → before ++ in_tops modules known (types_from [] (take i tops)) (drop i tops) ≡ all
    → after ++ in_tops modules known (types_from [] (take (i + 1) tops)) (drop (i + 1) tops) ≡ all
tops-step modules known tops i top before after all got is so_far = rw add-one
    (ap (λ l. l ++ in_tops modules known (types_from [] (take (suc i) tops)) (drop (suc i) tops)) is
    ∙ append_assoc before (in_top modules known (types_from [] (take i tops)) top) (in_tops modules known (types_from [] (take (suc i) tops)) (drop (suc i) tops))
    ∙ ap (λ types. before ++ (in_top modules known (types_from [] (take i tops)) top ++ in_tops modules known types (drop (suc i) tops))) (types-next [] tops i top got)
    ∙ ap (λ l. before ++ in_tops modules known (types_from [] (take i tops)) l) (sym (drop_got tops i top got))
    ∙ so_far)

-- ---- the first of some faults

pub earlier-step : (found : Option Fault) (f : Fault) (faults : List Fault) → earlier_of (earlier_of found (Some f)) (first_of faults) ≡ earlier_of found (first_of (f ∷ faults))
earlier-step found f faults = earlier-assoc found (Some f) (first_of faults)

pub ruleset first_in_turn = (earlier-none, earlier-step)
