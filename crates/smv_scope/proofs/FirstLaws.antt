-- The first fault of scopes, from the first place of each of its numbers.
use Rattle.std.proofs.Common.{◌≡◌, ℕ, List, [], ◌++◌, map}
use Rattle.std.specs.Prelude.{Option}
use Rattle.std.specs.List.{flat_map}
use Rattle.smv_mentions.specs.FirstFault.{first_of, faults_at}
use Rattle.smv_mentions.specs.Scopes.{Piece}
use Rattle.smv_mentions.specs.NameFaults.{undeclared_in, doubled_in, repeated, without_main, miscounted_in}
use Rattle.smv_first_fault.specs.Firsts.{earlier_of, least, fault_at}
use Rattle.smv_first_fault.proofs.FirstLaws.{two, one}
use Rattle.smv_scope.specs.ScopeFault.{scope_faults}

pub scope-first : (tops : List Piece) (a b c d : Option ℕ) → a ≡ least (flat_map (undeclared_in tops) tops) → b ≡ least (repeated [] (map (λ piece. piece.word) tops) ++ flat_map (doubled_in tops) tops)
    → c ≡ least (without_main tops) → d ≡ least (flat_map (miscounted_in tops) tops)
    → earlier_of (fault_at 7 a) (earlier_of (fault_at 8 b) (earlier_of (fault_at 9 c) (fault_at 11 d))) ≡ first_of (flat_map faults_at (scope_faults tops))
scope-first tops a b c d first second third fourth =
    two 7 (flat_map (undeclared_in tops) tops) a _ _ first
    (two 8 (repeated [] (map (λ piece. piece.word) tops) ++ flat_map (doubled_in tops) tops) b _ _ second
    (two 9 (without_main tops) c _ _ third (one 11 (flat_map (miscounted_in tops) tops) d fourth)))
