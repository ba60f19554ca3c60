-- Lists of constants that were compared.
use Rattle.std.specs.Prelude.{◌≡◌, ℕ, List, [], Option, IfSome, slice_get}
use Rattle.std.specs.Option.{option_map_or}
use Rattle.std.proofs.Common.{Bor}
use Rattle.smv_core.specs.Values.{Name}
use Rattle.smv_core.specs.Types.{names_of}
use Rattle.smv_core.specs.Outcome.{same_path}
use Rattle.smv_core.specs.declared.tree.Word.{Word}
use Rattle.smv_scope.specs.declared.constants.Compared.{Compared}

-- the names of the list of a number
abbrev pub listed : List (Bor (List Word)) → ℕ → List Name
listed lists list = option_map_or (λ words. names_of words.now) (slice_get lists list) []

-- where a list was compared with these words, it is known whether they are the same
abbrev pub IsCompared : List (Bor (List Word)) → List Word → Option Compared → Type 0
IsCompared lists words last = IfSome last (λ compared. compared.same ≡ same_path (listed lists compared.list) (names_of words))
