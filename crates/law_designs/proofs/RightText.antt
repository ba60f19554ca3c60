-- A text without faults of names, size and kinds is right, and its left sides are whole.
use Rattle.law_designs.proofs.Opening.{opening}
use Rattle.std.proofs.Common.{◌≡◌, ℕ, ◌≤◌, List, [], ◌∷◌, ◌++◌, map, flat_map, length, None, refl}
use Rattle.std.specs.List.{AllByRecursion}
use Rattle.law_lists.proofs.Each.{all_each}
use Rattle.smv_core.specs.Types.{types_from}
use Rattle.smv_core.specs.FlatOrder.{modules, main, families_in}
use Rattle.smv_core.specs.declared.tree.Text.{Text}
use Rattle.smv_mentions.specs.Scopes.{Piece, constants, pieces}
use Rattle.smv_mentions.specs.NameFaults.{repeated, undeclared_in, doubled_in, without_main, recursive_in, miscounted_in}
use Rattle.smv_mentions.specs.FirstFault.{first_of, faults_at, faults_of_names, fault_of_size, first_fault}
use Rattle.law_designs.specs.References.{modules_from}
use Rattle.law_designs.specs.KindFaults.{faults_of_kinds, first_fault_of_kinds}
use Rattle.law_designs.specs.Entries.{entries}
use Rattle.law_designs.specs.WholeText.{EntryIsRight, TextIsRight}
use Rattle.law_designs.specs.LeftSides.{EntryLeads, TextLeads}
use Rattle.law_designs.specs.Written.{TextIsWritten}
use Rattle.law_designs.specs.WellKinded.{IsWellKinded}
use Rattle.law_designs.proofs.WrittenRules.{spelled-written}
use Rattle.law_designs.proofs.Faultless.{empty-both, empty-each, no_fault-in, none-first, no_places}
use Rattle.law_designs.proofs.Modules.{AreModules, tops-modules}
use Rattle.law_designs.proofs.WrittenEntries.{text-right}
use Rattle.law_designs.proofs.LeftSides.{text-whole}

-- the faults of names behind fault 8, and behind fault 7
abbrev behind_eight : List Piece → List (ℕ × List ℕ)
behind_eight tops =
    (9, without_main tops)
    ∷ (10, flat_map (recursive_in tops) tops)
    ∷ (11, flat_map (miscounted_in tops) tops) ∷ []

abbrev others : List Piece → List (ℕ × List ℕ)
others tops = (8, repeated [] (map (λ piece. piece.word) tops) ++ flat_map (doubled_in tops) tops) ∷ behind_eight tops

-- the modules of a text without faults
pub modules-of : (text : Text) → TextIsWritten text → first_fault text ≡ None → first_fault_of_kinds text ≡ None →
    AreModules (types_from [] text.tops) (modules_from [] text.tops) (constants (pieces text)) (modules_from [] text.tops) (modules text.tops)
unfolding opening
modules-of text written names kinds =
    let tops : List Piece = pieces text in
    let none : faults_of_names text ≡ [] = no_fault-in (faults_of_names text) (none-first (first_of (faults_of_names text)) (fault_of_size text) names) in
    let places : List ℕ = flat_map (undeclared_in tops) tops in
    let seven = empty-both (faults_at (7, places)) (flat_map faults_at (others tops)) none in
    let declared : AllByRecursion (λ piece. undeclared_in tops piece ≡ []) tops = empty-each (undeclared_in tops) tops (no_places 7 places seven.0) in
    let twice : List ℕ = repeated [] (map (λ piece. piece.word) tops) ++ flat_map (doubled_in tops) tops in
    let eight = empty-both (faults_at (8, twice)) (flat_map faults_at (behind_eight tops)) seven.1 in
    let apart : AllByRecursion (λ piece. doubled_in tops piece ≡ []) tops = empty-each (doubled_in tops) tops (empty-both (repeated [] (map (λ piece. piece.word) tops)) (flat_map (doubled_in tops) tops) (no_places 8 twice eight.0)).1 in
    tops-modules (types_from [] text.tops) (modules_from [] text.tops) (constants tops) tops [] [] tt [] text.tops refl written (no_fault-in (faults_of_kinds text) kinds) declared refl apart

pub right-text : (text : Text) → TextIsWritten text → first_fault text ≡ None → first_fault_of_kinds text ≡ None → TextIsRight text
unfolding opening
right-text text written names kinds = all_each (EntryIsRight text) (entries text) (text-right text (modules-of text written names kinds))

-- the same of a text that is spelled
pub well_kinded-right : (text : Text) → IsWellKinded text → TextIsRight text
unfolding opening
well_kinded-right text h = right-text text (spelled-written h.0 h.1 text h.2) h.3 h.4

pub well_kinded-whole : (text : Text) → IsWellKinded text →
    ((n : ℕ) → length (modules text.tops) ≤ n → families_in (types_from [] text.tops) (modules text.tops) n [] main ≡ families_in (types_from [] text.tops) (modules text.tops) (length (modules text.tops)) [] main) → TextLeads text
unfolding opening
well_kinded-whole text h deep = all_each (EntryLeads text) (entries text) (text-whole text (modules-of text (spelled-written h.0 h.1 text h.2) h.3 h.4) deep)
