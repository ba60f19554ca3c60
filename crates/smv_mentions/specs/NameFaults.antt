-- The faults of names, each as the list of the places where its rule is broken.
use Rattle.std.specs.Prelude.{option_map, ℕ, zero, suc, List, [], ◌∷◌, ◌++◌, map, flat_map, filter, length, max, Option, Some, None, Bool, true, false, not, ◌&&◌, ◌||◌, if◌then◌else◌, nat_eq, unwrap_or, is_none}
use Rattle.std.specs.Str.{bytes_eq}
use Rattle.std.specs.List.{list_any}
use Rattle.smv_core.specs.Values.{Name}
use Rattle.smv_core.specs.Types.{find_name, names_of}
use Rattle.smv_core.specs.FlatOrder.{main}
use Rattle.smv_core.specs.Outcome.{same_path}
use Rattle.smv_core.specs.declared.tree.Word.{Word}
use Rattle.smv_core.specs.declared.tree.Role.TheVariants.{Input, Output}
use Rattle.smv_mentions.specs.Mentions.{What, signal, Mention, declares, binds, follows, names_type, lists_constants, has_fields, instantiates}
use Rattle.smv_mentions.specs.Scopes.{Fields, Piece, Body, Own, Constant, Scope, has_name, module_named, constant_at, path_places, words_of, scope_of}

-- the places of these words
abbrev pub places_of : List Word → List ℕ
places_of words = map (λ word. word.at) words

-- the place, where the rule is broken
abbrev pub place_if : Bool → ℕ → List ℕ
place_if broken at = if broken then at ∷ [] else []

-- ---- fault 7: a name that is not declared

-- a type is declared earlier, and its name is not first that of a module
abbrev pub is_type : Option (Option Fields) → Bool
is_type (Some (Some fields)) = true
is_type _ = false

-- a signal that a module takes or gives
abbrev pub is_port : What → Bool
is_port (signal Input of) = true
is_port (signal Output of) = true
is_port _ = false

abbrev pub is_port_if_own : Option Own → Bool
is_port_if_own None = false
is_port_if_own (Some own) = is_port own.what

-- the places of fault 7 in one thing that a module says: a type, a module, a name or a field is not declared, or an `input` or `output` is no formal
abbrev pub undeclared : Scope → List Word → Mention → List ℕ
undeclared scope formals (names_type word) = place_if (not (is_type (find_name scope.known word.name))) word.at
undeclared scope formals (instantiates word args) = place_if (is_none (module_named scope.tops word.name)) word.at
undeclared scope formals (follows bound parts) = path_places scope bound (words_of parts)
undeclared scope formals (declares word what) = place_if (is_port what && not (has_name formals word.name)) word.at
undeclared scope formals _ = []

-- a formal that is not declared as `input` or `output`
abbrev pub formal_undeclared : Scope → Word → List ℕ
formal_undeclared scope word = place_if (not (is_port_if_own (find_name scope.own word.name))) word.at

-- ---- fault 8: a name declared twice

-- the words whose name stands before in the list, or is one of those seen so far
abbrev pub repeated : List Name → List Word → List ℕ
repeated seen [] = []
repeated seen (word ∷ more) = place_if (list_any (bytes_eq word.name) seen) word.at ++ repeated (word.name ∷ seen) more

-- the later of two declarations of one name, where there is another
abbrev pub later : Option ℕ → ℕ → List ℕ
later None at = []
later (Some other) at = max other at ∷ []

-- where a name is first declared as the module's own
abbrev pub own_at : Scope → Name → Option ℕ
own_at scope name = option_map (λ (own : Own). own.at) (find_name scope.own name)

-- a constant belongs to the first list that has it
abbrev pub is_of_other_list : List Word → Option Constant → Bool
is_of_other_list words None = false
is_of_other_list words (Some constant) = not (same_path constant.names (names_of words))

-- The places of fault 8 in one thing that a module or type says: a field or a constant twice in one list; a constant of another list; a constant that is a
-- name of a module or a variable; a variable that is a name of its module or a variable around it.
abbrev pub doubled : Scope → Mention → List ℕ
doubled scope (has_fields words) = repeated [] words
doubled scope (lists_constants words) = repeated [] words ++ places_of (filter (λ word. is_of_other_list words (find_name scope.constants word.name)) words)
doubled scope (declares word what) = later (constant_at scope word.name) word.at
doubled scope (binds bound var) = later bound var.at ++ later (constant_at scope var.name) var.at ++ later (own_at scope var.name) var.at
doubled scope _ = []

-- the words that a module declares
abbrev pub declared_words : List Mention → List Word
declared_words [] = []
declared_words (declares word what ∷ more) = word ∷ declared_words more
declared_words (_ ∷ more) = declared_words more

-- ---- fault 9: no module `main`

abbrev pub without_main : List Piece → List ℕ
without_main tops = place_if (is_none (module_named tops main)) 0

-- ---- fault 10: a module that contains itself

-- the modules of which a module has instances
abbrev pub used_in : List Mention → List Name
used_in [] = []
used_in (instantiates word args ∷ more) = word.name ∷ used_in more
used_in (_ ∷ more) = used_in more

abbrev pub used_if_module : Option Body → List Name
used_if_module None = []
used_if_module (Some body) = used_in body.mentions

-- a module is another one or contains an instance of it, at most so many modules deep
abbrev pub contains : List Piece → ℕ → Name → Name → Bool
contains tops zero target name = bytes_eq name target
contains tops (suc n) target name = bytes_eq name target || list_any (contains tops n target) (used_if_module (module_named tops name))

-- an instance in the module of this name from whose module that module is reached; no chain of different modules is longer than there are tops
abbrev pub recursive : List Piece → Name → Mention → List ℕ
recursive tops name (instantiates word args) = place_if (contains tops (length tops) name word.name) word.at
recursive tops name _ = []

-- ---- fault 11: a wrong number of arguments

abbrev pub takes_other : ℕ → Option Body → Bool
takes_other n None = false
takes_other n (Some body) = not (nat_eq (length body.formals) n)

abbrev pub miscounted : List Piece → Mention → List ℕ
miscounted tops (instantiates word args) = place_if (takes_other args (module_named tops word.name)) word.at
miscounted tops _ = []

-- ---- the faults of a text

-- the formals of a top
abbrev pub formals_of : Piece → List Word
formals_of piece = unwrap_or piece.formals []

module _ (tops : List Piece) where
  abbrev pub undeclared_in : Piece → List ℕ
  undeclared_in piece =
      let scope = scope_of tops piece in
      flat_map (formal_undeclared scope) (formals_of piece) ++ flat_map (undeclared scope (formals_of piece)) piece.mentions

  abbrev pub doubled_in : Piece → List ℕ
  doubled_in piece = repeated [] (formals_of piece) ++ repeated [] (declared_words piece.mentions) ++ flat_map (doubled (scope_of tops piece)) piece.mentions

  abbrev pub recursive_in : Piece → List ℕ
  recursive_in piece = flat_map (recursive tops piece.word.name) piece.mentions

  abbrev pub miscounted_in : Piece → List ℕ
  miscounted_in piece = flat_map (miscounted tops) piece.mentions

  -- all places of each fault of names, each with its number
  abbrev pub name_faults : List (ℕ × List ℕ)
  name_faults =
      (7, flat_map undeclared_in tops)
      ∷ (8, repeated [] (map (λ piece. piece.word) tops) ++ flat_map doubled_in tops)
      ∷ (9, without_main tops)
      ∷ (10, flat_map recursive_in tops)
      ∷ (11, flat_map miscounted_in tops) ∷ []
