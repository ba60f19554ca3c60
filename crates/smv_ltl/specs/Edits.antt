-- The edits of a text that the code has read.
use Rattle.std.specs.Prelude.{◌≤◌, ℕ, List, [], ◌∷◌, ◌++◌, map, flat_map, filter, codes, length, Option, Some, None, if◌then◌else◌}
use Rattle.std.specs.List.{AllByRecursion}
use Rattle.smv_core.specs.Values.{Name}
use Rattle.smv_core.specs.declared.tree.Item.{Item}
use Rattle.smv_core.specs.declared.tree.Top.{Top}
use Rattle.smv_core.specs.declared.tree.Top.TheVariants.{Module}
use Rattle.smv_core.specs.declared.tree.Word.{Word}
use Rattle.smv_core.specs.declared.tree.TypeExpr.{TypeExpr}
use Rattle.law_formulas.specs.Monitors as monitors
use Rattle.law_translated_texts.specs.Answers.{limit}
use Rattle.law_translated_texts.specs.Parts.{type_at}
use Rattle.law_translated_texts.specs.Phrases.{Binders}
use Rattle.law_translated_texts.specs.Translation as law
use Rattle.law_translated_texts.specs.Translation.{Placed, Edit, placed_at, spaced, claim_edit, monitors_edit, module_edits, has_monitors, closing, changed_in}
use Rattle.smv_token_ends.specs.Fronts.{IsTokenAt}
use Rattle.smv_ltl.specs.declared.changed.Changed.{Changed}
use Rattle.smv_ltl.specs.declared.edits.Source.{Source}
use Rattle.smv_ltl.specs.Changes.{change_of, changes_of}
use Rattle.smv_ltl.specs.Rising.{Rises}

-- the text is not too long, its tokens stand in it, and their offsets rise
pub record IsSource (source : Source) : Type 0 where
  pub short : length source.text.now ≤ limit
  pub stand : AllByRecursion (IsTokenAt source.text.now) source.tokens.now
  pub rise : Rises source.tokens.now

-- the name of the first claim that has monitors
abbrev pub first_watched : List law.Changed → Option ℕ
first_watched [] = None
first_watched (c ∷ cs) = if has_monitors c then Some c.name else first_watched cs

module _ (source : Source) where
  abbrev pub binders_at : monitors.Around → Binders
  binders_at around = map (λ (b : Word × TypeExpr). (b.0.name, type_at source.text.now source.tokens.now b.0.at)) around

  abbrev pub edit_of : Changed → Edit
  edit_of c = claim_edit source.text.now source.tokens.now (change_of c)

  abbrev pub edits_of : List Changed → List Edit
  edits_of cs = map edit_of cs

  abbrev pub all_declared : List Changed → Placed
  all_declared cs = flat_map (λ (c : Changed). placed_at c.name (spaced (law.declarations source.text.now source.tokens.now (change_of c)))) cs

  abbrev pub all_defined : List Changed → Placed
  all_defined cs = flat_map (λ (c : Changed). placed_at c.name (spaced (law.definitions source.text.now source.tokens.now (change_of c)))) cs

  -- what comes before the closing brace of a module; what belongs to no monitor belongs to this place
  abbrev pub monitors_from : Name → List Changed → ℕ → Placed
  monitors_from layer cs name =
      all_declared cs ++ (placed_at name (spaced (codes "layer" ∷ layer ∷ codes ":" ∷ codes "{" ∷ [])) ++ (all_defined cs ++ placed_at name (spaced (codes "}" ∷ []) ++ codes " ")))

  abbrev pub layer_edits : Name → ℕ → List Changed → List Edit
  layer_edits layer at cs = monitors_edit source.text.now source.tokens.now layer at (filter has_monitors (changes_of cs))

  -- those of a module with these items, before these tops
  abbrev pub edits_in : List (ℕ × monitors.Watched) → Name → List Item → List Top → List Edit
  edits_in plan layer items tops =
      module_edits source.text.now source.tokens.now plan layer (flat_map (changed_in plan []) items) (closing source.tokens.now tops)

  -- those of a top, before these
  abbrev pub edits_at : List (ℕ × monitors.Watched) → Name → Top → List Top → List Edit
  edits_at plan layer (Module word formals items at) tops = edits_in plan layer items tops
  edits_at plan layer _ tops = []
