-- The front of a monitor's definitions.
use Rattle.std.specs.Prelude.{List, ◌∷◌, ◌++◌, [], ℕ, flat_map, codes}
use Rattle.std.specs.List.{AllByRecursion}
use Rattle.smv_core.specs.Values.{Name}
use Rattle.law_translated_texts.specs.Phrases.{Pieces, Binders, in_parens, monitor, names_in, within, assigned}
use Rattle.smv_token_ends.specs.Fronts.{IsTokenAt}
use Rattle.smv_phrases.specs.declared.monitors.Binder.{Binder}

-- the tokens from a binder's type on stand in the text
abbrev pub Stands : List ℕ → Binder → Type 0
Stands text b = AllByRecursion (IsTokenAt text) b.types.now

-- `forall ( i in T ) ..`
abbrev pub binding : Binders → Pieces
binding binders = flat_map (λ b. codes "forall" ∷ in_parens (b.0 ∷ codes "in" ∷ b.1)) binders

-- what stands before the value that a monitor has next
abbrev pub defining_front : Binders → Name → Pieces
defining_front binders m =
    let path = monitor (names_in binders) m in
    within binders (assigned (codes "init") path (codes "0" ∷ [])) ++ (binding binders ++ codes "next" ∷ in_parens path ++ codes ":=" ∷ [])
