-- The arguments of instances.
use Rattle.std.proofs.Common.{◌≡◌, ℕ, suc, ◌+◌, ◌<◌, ◌≤◌, List, [], ◌∷◌, ◌++◌, map, length, get_or, drop, drop-cons, refl, ap, ◌∙◌, sym, arith}
use Rattle.std.specs.Prelude.{zip}
use Rattle.std.specs.List.{flat_map}
use Rattle.std.proofs.lemmas.List.{append-nil, append_assoc}
use Rattle.law_lists.proofs.Places.{drop_past}
use Rattle.smv_core.specs.Walk.{indexes_of}
use Rattle.smv_core.specs.declared.fault.Fault.{Fault}
use Rattle.smv_core.specs.declared.tree.Word.{Word}
use Rattle.smv_core.specs.declared.tree.Path.{Path, out-Path}
use Rattle.smv_core.specs.declared.tree.Expr.{Expr, Signal, Signal', Row_of-Part, end_of-Part, items_hidden-the_row-Part-0}
use mathlib.Core.Former.{Count}
use Rattle.law_designs.specs.Kinds.{Kind}
use Rattle.law_designs.specs.References.{Scope, Vars, signal_at, reference}
use Rattle.law_designs.specs.Operands.{operand, target}
use Rattle.law_designs.specs.KindFaults.{given, gives}
use Rattle.smv_kinds.specs.Found.{words_left}
use Rattle.smv_operand_kinds.proofs.KindLaws.{reference-at}

module _ (scope : Scope) where
  pub target-at : (vars : Vars) (path : Path) → (target scope vars path).at ≡ (out-Path path).at
  target-at vars path = reference-at (out-Path path).at (signal_at scope (out-Path path).parts) (map (operand scope vars) (indexes_of (out-Path path).parts))

  abbrev parts_of : Expr → (n : Count) × Row_of-Part n
  parts_of (Signal' shape row at) = (_, row)
  parts_of _ = (_, end_of-Part)

  pub gives-Signal : (kind : Kind) (path : Path) → gives scope kind (Signal path) ≡ given scope kind (out-Path path).parts (target scope [] path)
  gives-Signal kind path =
      let row : (n : Count) × Row_of-Part n = parts_of (Signal path) in
      ap (λ l. given scope kind l (reference (out-Path path).at (signal_at scope l) (map (operand scope []) (indexes_of l)))) (items_hidden-the_row-Part-0 (out-Path path).parts)

pub ruleset equations = (target-at, gives-Signal)

pub zip-none : (f : Word × Expr → List Fault) (words : List Word) → flat_map f (zip words []) ≡ []
zip-none f [] = refl
zip-none f (word ∷ words) = refl

zip-one : (f : Word × Expr → List Fault) (word : Word) (words : List Word) (x : Expr) → flat_map f (zip (word ∷ words) (x ∷ [])) ≡ f (word, x)
zip-one f word words x = ap (λ l. f (word, x) ++ l) (zip-none f words) ∙ append-nil (f (word, x))

pub zip-step : (f : Word × Expr → List Fault) (words : List Word) (x : Expr) (args : List Expr)
    → flat_map f (zip words (x ∷ args)) ≡ flat_map f (zip words (x ∷ [])) ++ flat_map f (zip (words_left words) args)
zip-step f [] x args = refl
zip-step f (word ∷ words) x args = ap (λ l. l ++ flat_map f (zip words args)) (sym (zip-one f word words x))

-- an argument of the first of some formals
pub zip-first : (f : Word × Expr → List Fault) (words : List Word) (word : Word) (x : Expr) → 1 ≤ length words → word ≡ get_or words 0 word → f (word, x) ≡ flat_map f (zip words (x ∷ []))
zip-first f [] word x h e = absurd (omega arith)
zip-first f (other ∷ words) word x h e = ap (λ w. f (w, x)) e ∙ sym (zip-one f other words x)

pub ruleset zips = (zip-step, zip-none)

-- ---- one argument after the other

module _ (f : Word × Expr → List Fault) (args : List Expr) where
  pub args-step : (i : ℕ) (x : Expr) (words left : List Word) (old new first : List Fault) → i < length args → x ≡ get_or args i x
      → old ++ flat_map f (zip words (drop i args)) ≡ first → new ≡ old ++ flat_map f (zip words (x ∷ [])) → left ≡ words_left words
      → new ++ flat_map f (zip left (drop (i + 1) args)) ≡ first
  args-step i x words left old new first lt is so_far faults less =
      let next : suc i ≡ i + 1 = omega arith in
      let here : drop i args ≡ x ∷ drop (i + 1) args = drop-cons args i x lt ∙ ap (λ y. y ∷ drop (suc i) args) (sym is) ∙ ap (λ j. x ∷ drop j args) next in
      ap (λ l. l ++ flat_map f (zip left (drop (i + 1) args))) faults
      ∙ append_assoc old (flat_map f (zip words (x ∷ []))) (flat_map f (zip left (drop (i + 1) args)))
      ∙ ap (λ ws. old ++ (flat_map f (zip words (x ∷ [])) ++ flat_map f (zip ws (drop (i + 1) args)))) less
      ∙ ap (λ l. old ++ l) (sym (zip-step f words x (drop (i + 1) args)))
      ∙ sym (ap (λ l. old ++ flat_map f (zip words l)) here)
      ∙ so_far

  pub args-done : (i : ℕ) (words : List Word) (old first : List Fault) → length args ≤ i → old ++ flat_map f (zip words (drop i args)) ≡ first → old ≡ first
  args-done i words old first past so_far =
      sym (ap (λ l. old ++ flat_map f (zip words l)) (drop_past args i past) ∙ ap (λ l. old ++ l) (zip-none f words) ∙ append-nil old) ∙ so_far
