-- What follows where a text has no fault of names and of size.
use Rattle.std.proofs.Common.{◌≡◌, ◌≤◌, List, [], ◌++◌, map, flat_map, length, Option, Some, None, is_none, Bool, true, false, cond, ◌||◌, nat_lt, refl, arith}
use Rattle.std.specs.List.{AllByRecursion, list_any}
use Rattle.std.proofs.lemmas.Bool.{or_parts}
use Rattle.law_lists.proofs.Numbers.{nat_lt-not}
use Rattle.law_lists.proofs.Lists.{map-nil}
use Rattle.smv_core.specs.Types.{find_name}
use Rattle.smv_core.specs.FlatOrder.{modules, main}
use Rattle.smv_core.specs.declared.tree.Text.{Text}
use Rattle.smv_mentions.specs.Scopes.{Piece, body_if_module, pieces}
use Rattle.smv_mentions.specs.NameFaults.{place_if, repeated, doubled_in, without_main, name_faults}
use Rattle.smv_mentions.specs.FirstFault.{first_of, faults_at, faults_of_names, fault_at_main, fault_of_size, first_fault}
use Rattle.smv_mentions.specs.Sizes.{sized_from, things_in, is_too_wide, count_different, constant_names, statements_in, is_too_large}
use Rattle.law_flat_kinds.proofs.NoFaults.{none-both}
use Rattle.law_designs.proofs.Faultless.{empty-both, empty-each, no_fault-in}

-- ---- lists of faults

-- the faults of names of such a text, none of each number
pub record HasNone (text : Text) : Type 0 where
  pub doubled : AllByRecursion (λ (piece : Piece). doubled_in (pieces text) piece ≡ []) (pieces text)
  pub main : without_main (pieces text) ≡ []

pub none-named : (text : Text) → first_fault text ≡ None → HasNone text
none-named text e =
    let tops : List Piece = pieces text in
    let none : flat_map faults_at (name_faults tops) ≡ [] = no_fault-in (faults_of_names text) (none-both (first_of (faults_of_names text)) (fault_of_size text) e).0 in
    let each : AllByRecursion (λ f. faults_at f ≡ []) (name_faults tops) = empty-each faults_at (name_faults tops) none in
    let eight : repeated [] (map (λ (piece : Piece). piece.word) tops) ++ flat_map (doubled_in tops) tops ≡ [] = map-nil _ (repeated [] (map (λ (piece : Piece). piece.word) tops) ++ flat_map (doubled_in tops) tops) each.1.0 in
    record {
      doubled = empty-each (doubled_in tops) tops (empty-both (repeated [] (map (λ (piece : Piece). piece.word) tops)) (flat_map (doubled_in tops) tops) eight).1;
      main = map-nil _ (without_main tops) each.1.1.0;
    }

-- ---- the limits

small : (text : Text) → first_fault text ≡ None → is_too_large text ≡ false
small text e = by_size (is_too_large text) (find_name (map (λ (piece : Piece). (piece.word.name, piece)) (pieces text)) main) (none-named text e).main (none-both (first_of (faults_of_names text)) (fault_of_size text) e).1
  where
    by_size : (b : Bool) (o : Option Piece) → place_if (is_none (body_if_module o)) 0 ≡ [] → cond b (fault_at_main o) None ≡ None → b ≡ false
    by_size false o there none = refl
    by_size true None there none = absurd (cc (there))
    by_size true (Some piece) there none = absurd (cc (none))

-- what the size counts is within the limits
pub record IsSmall (text : Text) : Type 0 where
  pub things : length (things_in (sized_from [] text.tops) (modules text.tops) (length (modules text.tops)) main) ≤ 4096
  pub constants : count_different [] (constant_names text) ≤ 4096
  pub statements : statements_in (sized_from [] text.tops) (modules text.tops) (length (modules text.tops)) main ≤ 65536

pub within-limits : (text : Text) → first_fault text ≡ None → IsSmall text
within-limits text e =
    let known = sized_from [] text.tops in
    let bodies = modules text.tops in
    let things = things_in known bodies (length bodies) main in
    let many = nat_lt 4096 (length things) in
    let wide = list_any is_too_wide things in
    let listed = nat_lt 4096 (count_different [] (constant_names text)) in
    let long = nat_lt 65536 (statements_in known bodies (length bodies) main) in
    let a : (((many || wide) || listed) ≡ false) × (long ≡ false) = or_parts ((many || wide) || listed) long (small text e) in
    let b : ((many || wide) ≡ false) × (listed ≡ false) = or_parts (many || wide) listed a.0 in
    let c : (many ≡ false) × (wide ≡ false) = or_parts many wide b.0 in
    record { things = nat_lt-not 4096 (length things) c.0; constants = nat_lt-not 4096 (count_different [] (constant_names text)) b.1; statements = nat_lt-not 65536 (statements_in known bodies (length bodies) main) a.1 }
