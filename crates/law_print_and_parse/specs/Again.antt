-- What is printed may be read again: the law of the canonical spelling.
use Rattle.std.specs.Prelude.{◌≡◌, ℕ, List}
use Rattle.smv_core.specs.declared.tree.Text.{Text}
use Rattle.smv_parse.specs.Spelling.{SpellsText}
use Rattle.smv_print.specs.Canonical.{canonical}
use Rattle.law_print_and_parse.specs.Aside.{text_aside}

-- The canonical spelling of the tree of a text spells the same tree, places aside, and is its own canonical spelling.
abbrev pub IsPrintedAgain : Type 0
IsPrintedAgain = (text : List ℕ) (tree : Text) → SpellsText text tree →
    (again : Text) × SpellsText (canonical tree) again × (text_aside again ≡ text_aside tree) × (canonical again ≡ canonical tree)

-- Texts whose trees are the same, places aside, have one canonical spelling.
abbrev pub IsOnePrint : Type 0
IsOnePrint = (text other : List ℕ) (tree others : Text) → SpellsText text tree → SpellsText other others → text_aside others ≡ text_aside tree → canonical others ≡ canonical tree
