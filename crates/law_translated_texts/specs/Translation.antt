-- The translated text of a text with formulas, byte by byte, with the place in the text that was read to which each byte belongs.
use Rattle.std.specs.Prelude.{ℕ, suc, ◌+◌, Bool, List, [], ◌∷◌, ◌++◌, map, flat_map, filter, codes, length, drop, take_while, Option, Some, None, if◌then◌else◌, nat_lt}
use Rattle.std.specs.List.{slice_index}
use Rattle.smv_core.specs.Values.{Name}
use Rattle.smv_core.specs.declared.token.Token.{Token}
use Rattle.smv_core.specs.declared.tree.Word.{Word}
use Rattle.smv_core.specs.declared.tree.Expr.{Number}
use Rattle.smv_core.specs.declared.tree.TypeExpr.{TypeExpr}
use Rattle.smv_core.specs.declared.tree.Item.{Item, Forall', Block', Claim, Row_of-Item, end_of-Item, more_of-Item}
use Rattle.smv_core.specs.declared.tree.Top.{Top}
use Rattle.smv_core.specs.declared.tree.Top.TheVariants.{SetType, Alias, Module}
use Rattle.smv_core.specs.Signs.{close_brace}
use Rattle.smv_core.specs.Notation.{Tokens, same_kind}
use Rattle.law_lexed_parts.specs.Parts.{begin_of, end_of_all}
use Rattle.law_strengthened_claims.specs.Renaming.{between}
use Rattle.law_formulas.specs.Formulas.{FormulaText, at_place}
use Rattle.law_formulas.specs.Monitors.{Watched, Around, watched, monitors_of, free_names, layer_of}
use Rattle.law_formula_texts.specs.Laws.{names_of}
use Rattle.law_translated_texts.specs.Parts.{Phrase, from_place, part, behind_part, parts_of, phrase_of, type_at}
use Rattle.law_translated_texts.specs.Phrases.{Pieces, outset, claim_of, Binders, names_in, declared, defined}

-- ---- which claims are changed

-- a claim that is changed: the offsets of its name and of its formula, the binders around it from the outside in, and the formula with its monitors
pub record Changed : Type 0 where
  pub name : ℕ
  pub place : ℕ
  pub around : Around
  pub watched : Watched

abbrev pub if_changed : Word → Around → ℕ → Option Watched → List Changed
if_changed name around place None = []
if_changed name around place (Some w) = record { name = name.at; place = place; around = around; watched = w } ∷ []

module _ (plan : List (ℕ × Watched)) where
  abbrev mutual
    -- those of an item inside these binders, in their order
    pub changed_in : Around → Item → List Changed
    changed_in around (Forall' var over shape (more_of-Item body end_of-Item) at) = changed_in (around ++ (var, over) ∷ []) body
    changed_in around (Block' shape items) = changed_among around items
    changed_in around (Claim name vars (Number value place) at) = if_changed name around place (at_place plan place)
    changed_in around _ = []

    pub changed_among : {m : _} → Around → Row_of-Item m → List Changed
    changed_among around end_of-Item = []
    changed_among around (more_of-Item item rest) = changed_in around item ++ changed_among around rest

-- ---- bytes with their places

-- each byte of the translated text, and the offset to which it belongs
abbrev pub Placed : Type 0
Placed = List (ℕ × ℕ)

-- all at one offset
abbrev pub placed_at : ℕ → List ℕ → Placed
placed_at at bytes = map (λ b. (b, at)) bytes

-- each at its own
abbrev pub placed_from : ℕ → List ℕ → Placed
placed_from at [] = []
placed_from at (b ∷ bytes) = (b, at) ∷ placed_from (suc at) bytes

-- pieces with a blank before each
abbrev pub spaced : Pieces → List ℕ
spaced ps = flat_map (λ p. codes " " ++ p) ps

-- other bytes in place of those from one offset up to another
pub record Edit : Type 0 where
  pub from : ℕ
  pub to : ℕ
  pub written : Placed

-- the text from an offset on, with these edits, of which each stands behind those before it
abbrev pub edited : List ℕ → ℕ → List Edit → Placed
edited text from [] = placed_from from (drop from text)
edited text from (e ∷ es) = placed_from from (between text from e.from) ++ (e.written ++ edited text e.to es)

-- ---- the edits of a text

module _ (text : List ℕ) (ts : Tokens) where
  -- the tokens of the text from a changed claim's formula on
  abbrev pub formula_tokens : Changed → Tokens
  formula_tokens c = from_place c.place ts

  abbrev pub phrase : Changed → Phrase (List ℕ)
  phrase c = phrase_of text (parts_of c.watched.formula (formula_tokens c))

  abbrev pub binders : Changed → Binders
  binders c = map (λ (b : Word × TypeExpr). (b.0.name, type_at text ts b.0.at)) c.around

  -- what stands in place of the formula
  abbrev pub body : Changed → Pieces
  body c = claim_of (names_in (binders c)) c.watched.monitors outset (phrase c)

  abbrev pub declarations : Changed → Pieces
  declarations c = declared (binders c) c.watched.monitors

  abbrev pub definitions : Changed → Pieces
  definitions c = defined (binders c) c.watched.monitors (phrase c)

  -- A changed claim, from its name up to its semicolon, with its body in place of its formula. Each byte belongs to the claim's name.
  abbrev pub claim_edit : Changed → Edit
  claim_edit c =
      let fs = part (formula_tokens c) in
      let end = begin_of (behind_part (formula_tokens c)) + 1 in
      record {
        from = c.name;
        to = end;
        written = placed_at c.name (between text c.name c.place ++ (spaced (body c) ++ (codes " " ++ between text (end_of_all text fs) end)));
      }

  -- What comes before the closing brace of a module: the declarations of the monitors of these claims, and then the layer, with the definitions. What belongs to no monitor belongs to the first claim's name.
  abbrev pub monitors_written : Name → Changed → List Changed → Placed
  monitors_written layer c cs =
      flat_map (λ d. placed_at d.name (spaced (declarations d))) (c ∷ cs)
      ++ (placed_at c.name (spaced (codes "layer" ∷ layer ∷ codes ":" ∷ codes "{" ∷ []))
      ++ (flat_map (λ d. placed_at d.name (spaced (definitions d))) (c ∷ cs)
      ++ placed_at c.name (spaced (codes "}" ∷ []) ++ codes " ")))

  -- nothing where no claim has monitors
  abbrev pub monitors_edit : Name → ℕ → List Changed → List Edit
  monitors_edit layer at [] = []
  monitors_edit layer at (c ∷ cs) = record { from = at; to = at; written = monitors_written layer c cs } ∷ []

-- where the last `}` of some tokens stands
abbrev pub last_brace : Tokens → ℕ → ℕ
last_brace [] at = at
last_brace (t ∷ ts) at = last_brace ts (if same_kind t.kind close_brace then t.at else at)

-- the tokens before a top: before its word or its name
abbrev pub before_top : Tokens → List Top → Tokens
before_top ts [] = ts
before_top ts (SetType word ordered span at ∷ tops) = take_while (λ (t : Token). nat_lt t.at word.at) ts
before_top ts (Alias word of at ∷ tops) = take_while (λ (t : Token). nat_lt t.at at) ts
before_top ts (Module word formals body at ∷ tops) = take_while (λ (t : Token). nat_lt t.at at) ts

-- where the closing brace of a module stands, which is the last before the next top
abbrev pub closing : Tokens → List Top → ℕ
closing ts tops = last_brace (before_top ts tops) 0

-- the claim has monitors
abbrev pub has_monitors : Changed → Bool
has_monitors c = nat_lt 0 (length c.watched.monitors)

module _ (text : List ℕ) (ts : Tokens) (plan : List (ℕ × Watched)) (layer : Name) where
  -- the edits of a module: of its claims, and then before its closing brace
  abbrev pub module_edits : List Changed → ℕ → List Edit
  module_edits cs at = map (claim_edit text ts) cs ++ monitors_edit text ts layer at (filter has_monitors cs)

  -- the edits of the tops, in their order
  abbrev pub edits : List Top → List Edit
  edits [] = []
  edits (Module word formals items at ∷ tops) = module_edits (flat_map (changed_in plan []) items) (closing ts tops) ++ edits tops
  edits (other ∷ tops) = edits tops

-- ---- the translated text

-- The translated text, and for each offset of it, its end included, the place in the text that was read.
pub record Translation : Type 0 where
  pub text : List ℕ
  pub places : List ℕ

-- the end belongs to the end
abbrev pub with_end : List ℕ → Placed → Translation
with_end text bytes = record { text = map (λ b. b.0) bytes; places = map (λ b. b.1) bytes ++ length text ∷ [] }

-- that of a text with these tokens, where the monitors and then the layer have these names
abbrev pub translation_by : List Name → List ℕ → Tokens → FormulaText → Translation
translation_by names text ts ft = with_end text (edited text 0 (edits text ts (watched ft.formulas names) (layer_of names ft) ft.text.tops))

-- with the first names that are no tokens of the text
abbrev pub translation_of : List ℕ → Tokens → FormulaText → Translation
translation_of text ts ft = translation_by (free_names (names_of ts) (monitors_of ft.formulas + 1)) text ts ft

-- ---- back

-- where an offset of the translated text, its end included, stands in the text that was read
abbrev pub back : Translation → ℕ → ℕ
back t at = slice_index t.places at
