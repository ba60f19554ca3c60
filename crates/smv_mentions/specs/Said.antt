-- What the program notes of a text, as what the text says.
use Rattle.std.specs.Prelude.{◌≡◌, List, [], flat_map, map, Option, option_map}
use Rattle.std.proofs.Common.{Bor}
use Rattle.smv_core.specs.declared.tree.Word.{Word}
use Rattle.smv_core.specs.declared.tree.Top.{Top}
use Rattle.smv_core.specs.declared.tree.Text.{Text}
use Rattle.smv_core.specs.declared.tree.Field.{out-Field}
use Rattle.smv_mentions.specs.declared.mentions.What.{What as NotedWhat}
use Rattle.smv_mentions.specs.declared.mentions.What.TheVariants.{Signal, Instance, Goal}
use Rattle.smv_mentions.specs.declared.mentions.Mention.{Mention as Noted}
use Rattle.smv_mentions.specs.declared.mentions.Mention.TheVariants.{Declares, Binds, Follows, NamesType, ListsConstants, HasFields, Instantiates}
use Rattle.smv_mentions.specs.declared.pieces.Piece.{Piece as NotedPiece}
use Rattle.smv_mentions.specs.Scopes.{piece_of}
use Rattle.smv_mentions.specs.Mentions.{What, signal, instance, goal, Mention, declares, binds, follows, names_type, lists_constants, has_fields, instantiates}

abbrev pub said_of : NotedWhat → What
said_of (Signal role of) = signal role of.now
said_of (Instance name) = instance name.now
said_of Goal = goal

abbrev pub said : Noted → Mention
said (Declares word what) = declares word.now (said_of what)
said (Binds around var) = binds around var.now
said (Follows around parts) = follows around parts.now
said (NamesType word) = names_type word.now
said (ListsConstants names) = lists_constants names.now
said (HasFields fields) = has_fields (flat_map (λ field. (out-Field field).names) fields.now)
said (Instantiates name args) = instantiates name.now args

-- words that are held by reference
abbrev pub words_at : List (Bor Word) → List Word
words_at words = map (λ word. word.now) words

-- what a top says, told apart from the types around it: its name, its formals where it is a module, and what it says about names
abbrev pub told_by : Top → Word × Option (List Word) × List Mention
told_by top =
    let piece = piece_of [] top in
    (piece.word, piece.formals, piece.mentions)

-- the same of what the program noted of a top
abbrev pub told : NotedPiece → Word × Option (List Word) × List Mention
told piece = (piece.word.now, option_map (λ (formals : Bor (List Word)). formals.now) piece.formals, map said piece.mentions.items)

-- what was noted of a text's tops, in their order
abbrev pub AreNoted : List NotedPiece → Text → Type 0
AreNoted pieces text = map told pieces ≡ map told_by text.tops
