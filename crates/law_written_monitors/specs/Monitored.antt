-- What is written before the closing brace of a module for the claims that have monitors.
use Rattle.std.specs.Prelude.{ℕ, List, [], ◌∷◌, ◌++◌, flat_map, codes, length, Bool, nat_lt}
use Rattle.smv_core.specs.Values.{Name}
use Rattle.smv_core.specs.declared.tree.Item.{Item, Layer}
use Rattle.law_formulas.specs.Monitors as m
use Rattle.law_formulas.specs.Monitors.{Around, Watched, word_of}
use Rattle.law_translated_texts.specs.Parts.{Phrase, Now, Next, When, Weak}
use Rattle.law_translated_texts.specs.Phrases.{Pieces, Binders, declared, defined}

-- a claim: its binders, as they are written and in the tree, its formula with its monitors, and the bytes of the formula's parts
pub record Monitored : Type 0 where
  pub binders : Binders
  pub around : Around
  pub watched : Watched
  pub phrase : Phrase (List ℕ)

abbrev pub declarations_of : Monitored → Pieces
declarations_of c = declared c.binders c.watched.monitors

abbrev pub definitions_of : Monitored → Pieces
definitions_of c = defined c.binders c.watched.monitors c.phrase

-- the declarations of the monitors, and then the layer with their definitions
abbrev pub written : Name → List Monitored → Pieces
written layer cs = flat_map declarations_of cs ++ (codes "layer" ∷ layer ∷ codes ":" ∷ codes "{" ∷ flat_map definitions_of cs ++ codes "}" ∷ [])

-- the same in the tree
abbrev pub in_tree : Monitored → Around × Watched
in_tree c = (c.around, c.watched)

abbrev pub items_of : Name → List Monitored → List Item
items_of layer cs = flat_map (λ c. m.declared (in_tree c)) cs ++ Layer (word_of layer) (flat_map (λ c. m.defined (in_tree c)) cs) 0 ∷ []

-- nothing where no claim has monitors
abbrev pub items_left : Name → List Monitored → List Item
items_left layer [] = []
items_left layer (c ∷ cs) = items_of layer (c ∷ cs)

abbrev pub has_monitors : Monitored → Bool
has_monitors c = nat_lt 0 (length c.watched.monitors)

-- each part of a formula is so
abbrev pub PartsAre : (List ℕ → Type 0) → Phrase (List ℕ) → Type 0
PartsAre P (Now bytes) = P bytes
PartsAre P (Next p) = PartsAre P p
PartsAre P (When bytes p) = P bytes × PartsAre P p
PartsAre P (Weak bytes others) = P bytes × P others
