-- The first fault of a text among 7, 8, 9 and 11: names that are not declared or declared twice, no module `main`, and wrong numbers of arguments.
use Rattle.std.specs.Prelude.{ℕ, List, [], ◌∷◌, ◌++◌, map, flat_map, Option}
use Rattle.smv_core.specs.declared.fault.Fault.{Fault}
use Rattle.smv_core.specs.declared.tree.Text.{Text}
use Rattle.smv_mentions.specs.Scopes.{Piece, pieces}
use Rattle.smv_mentions.specs.NameFaults.{undeclared_in, doubled_in, repeated, without_main, miscounted_in}
use Rattle.smv_mentions.specs.FirstFault.{first_of, faults_at}

-- all places of each of these faults, each with its number
abbrev pub scope_faults : List Piece → List (ℕ × List ℕ)
scope_faults tops =
    (7, flat_map (undeclared_in tops) tops)
    ∷ (8, repeated [] (map (λ piece. piece.word) tops) ++ flat_map (doubled_in tops) tops)
    ∷ (9, without_main tops)
    ∷ (11, flat_map (miscounted_in tops) tops) ∷ []

-- the first of them
unfoldable pub first_scope_fault : Text → Option Fault
first_scope_fault text = first_of (flat_map faults_at (scope_faults (pieces text)))
