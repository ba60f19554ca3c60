-- The names of a module, as its top says them.
use Rattle.std.proofs.Common.{◌≡◌, ℕ, zero, suc, List, [], ◌∷◌, refl, ap, sym, ◌∙◌}
use Rattle.std.specs.Prelude.{Option, Some, slice_get}
use Rattle.std.specs.Option.{option_map_or}
use Rattle.smv_core.specs.Values.{Name}
use Rattle.smv_core.specs.Types.{find_name}
use Rattle.smv_core.specs.declared.tree.Word.{Word}
use Rattle.smv_core.specs.declared.tree.Text.{Text}
use Rattle.smv_core.specs.declared.tree.Item.{Item}
use Rattle.smv_core.specs.declared.tree.Top.{Top}
use Rattle.smv_core.specs.declared.tree.Top.TheVariants.{SetType, Alias, Module as ModuleOf}
use Rattle.smv_mentions.specs.Mentions.{Mention}
use Rattle.smv_mentions.specs.Scopes.{Known, Own, piece_of, known_after, pieces_from, own_names}
use Rattle.smv_scope.specs.Numbered.{mentions_at}
use Rattle.law_designs.specs.Types.{Types}
use Rattle.smv_expression_kinds.specs.Forms.{module_in}

-- what a top says does not hang on the types before it
abbrev says : Option Top → List Mention
says top = option_map_or (λ top. (piece_of [] top).mentions) top []

says-alone : (known : Known) (top : Top) → (piece_of known top).mentions ≡ (piece_of [] top).mentions
says-alone known (SetType word ordered span at) = refl
says-alone known (Alias word of at) = refl
says-alone known (ModuleOf word formals body at) = refl

says-from : (known : Known) (tops : List Top) (i : ℕ) → option_map_or (λ piece. piece.mentions) (slice_get (pieces_from known tops) i) [] ≡ says (slice_get tops i)
says-from known [] i = refl
says-from known (top ∷ tops) zero = says-alone known top
says-from known (top ∷ tops) (suc i) = says-from (known_after known top) tops i

pub own-is : (text : Text) (place : ℕ) (types : Types) (name : Name) (top : Top) (word : Word) (formals : List Word) (body : List Item) (at : ℕ) (found : Option Own)
    → slice_get text.tops place ≡ Some top → top ≡ ModuleOf word formals body at → find_name (own_names (mentions_at text place)) name ≡ found
    → find_name (module_in types (slice_get text.tops place)).own name ≡ found
own-is text place types name top word formals body at found here is named =
    ap (λ o. find_name (module_in types o).own name) (here ∙ ap Some is)
    ∙ sym (ap (λ l. find_name (own_names l) name) (says-from [] text.tops place ∙ ap says (here ∙ ap Some is)))
    ∙ named
