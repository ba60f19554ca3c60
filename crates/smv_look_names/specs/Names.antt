-- Where a name that is declared twice is declared first: the other place of a fault 8, for each way in which a name may be declared twice.
use Rattle.std.specs.Prelude.{ℕ, List, [], ◌∷◌, ◌++◌, map, flat_map, max, min, Option, Some, None, option_to_list, if◌then◌else◌, nat_eq}
use Rattle.smv_core.specs.Values.{Name}
use Rattle.smv_core.specs.Types.{find_name, names_of}
use Rattle.smv_core.specs.Outcome.{same_path}
use Rattle.smv_core.specs.declared.tree.Word.{Word}
use Rattle.smv_core.specs.declared.tree.Text.{Text}
use Rattle.smv_mentions.specs.Mentions.{Mention, declares, binds, lists_constants, has_fields}
use Rattle.smv_mentions.specs.Scopes.{Piece, Constant, Scope, constant_at, scope_of, pieces}
use Rattle.smv_mentions.specs.NameFaults.{own_at, declared_words, formals_of}
use Rattle.smv_first_fault.specs.Firsts.{least}

-- where a constant of these words is listed first, if that is another list
abbrev pub in_other_list : List Word → Option Constant → List ℕ
in_other_list words None = []
in_other_list words (Some constant) = if same_path constant.names (names_of words) then [] else constant.at ∷ []

module _ (at : ℕ) where
  -- where the name of the word at the place stands first before it, among some names and the words of a list
  abbrev pub first_before : List (Name × ℕ) → List Word → List ℕ
  first_before seen [] = []
  first_before seen (word ∷ more) = (if nat_eq word.at at then option_to_list (find_name seen word.name) else []) ++ first_before (seen ++ (word.name, word.at) ∷ []) more

  -- the earlier of two declarations of one name, where there are two and the later stands at the place
  abbrev pub earlier_of : Option ℕ → ℕ → List ℕ
  earlier_of None here = []
  earlier_of (Some other) here = if nat_eq (max other here) at then min other here ∷ [] else []

  -- where the constant at the place is listed first, if that is another list
  abbrev pub listed_at : List (Name × Constant) → List Word → Word → List ℕ
  listed_at constants words word = if nat_eq word.at at then in_other_list words (find_name constants word.name) else []

  -- In one thing that a module or type says: a field or a constant twice in one list; a constant of another list; a constant that is a name of a module or a variable; a variable that is a name
  -- of its module or a variable around it.
  abbrev pub first_said : Scope → Mention → List ℕ
  first_said scope (has_fields words) = first_before [] words
  first_said scope (lists_constants words) = first_before [] words ++ flat_map (listed_at scope.constants words) words
  first_said scope (declares word what) = earlier_of (constant_at scope word.name) word.at
  first_said scope (binds bound var) = earlier_of bound var.at ++ earlier_of (constant_at scope var.name) var.at ++ earlier_of (own_at scope var.name) var.at
  first_said scope _ = []

  -- in a top: a formal twice, a name of a module twice, and what it says
  abbrev pub first_in : List Piece → Piece → List ℕ
  first_in tops piece = first_before [] (formals_of piece) ++ first_before [] (declared_words piece.mentions) ++ flat_map (first_said (scope_of tops piece)) piece.mentions

  -- all places of a text where the name that is declared twice at this place is declared before
  abbrev pub declared_before : List Piece → List ℕ
  declared_before tops = first_before [] (map (λ piece. piece.word) tops) ++ flat_map (first_in tops) tops

-- where the name that is declared twice at a place of a text is declared first
abbrev pub declared_first : Text → ℕ → Option ℕ
declared_first text at = least (declared_before at (pieces text))
