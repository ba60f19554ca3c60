-- Which tokens are names, and which names are free.
use Rattle.std.specs.Prelude.{ℕ, Bool, true, false, not, List, filter, map}
use Rattle.std.specs.Str.{bytes_eq}
use Rattle.std.specs.List.{list_any}
use Rattle.smv_core.specs.Values.{Name, numbers_from}
use Rattle.smv_core.specs.declared.token.TokenKind.{TokenKind}
use Rattle.smv_core.specs.declared.token.TokenKind.TheVariants.{Ident}
use Rattle.law_formulas.specs.Monitors.{numbered}

abbrev pub is_name : TokenKind → Bool
is_name (Ident bytes) = true
is_name _ = false

-- of so many names from the one with this number on, those that are not used
abbrev pub free_from : List Name → ℕ → ℕ → List Name
free_from used k n = filter (λ name. not (list_any (bytes_eq name) used)) (map numbered (numbers_from k n))
