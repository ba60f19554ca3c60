-- The first fault of a list, from the first of its parts.
use Rattle.std.proofs.Common.{◌≡◌, List, [], ◌++◌, map, sym, ap, ◌∙◌}
use Rattle.std.specs.Prelude.{Option}
use Rattle.std.specs.List.{flat_map}
use Rattle.smv_core.specs.declared.fault.Fault.{Fault}
use Rattle.smv_core.specs.declared.tree.Text.{Text}
use Rattle.smv_mentions.specs.Scopes.{pieces}
use Rattle.smv_mentions.specs.NameFaults.{undeclared_in, doubled_in, repeated, without_main, recursive_in, miscounted_in}
use Rattle.smv_mentions.specs.FirstFault.{first_of, faults_at, faults_of_names}
use Rattle.smv_first_fault.specs.Firsts.{earlier_of, FirstOfBoth, AnyOrder}
use Rattle.smv_scope.specs.ScopeFault.{first_scope_fault}
use Rattle.smv_size.specs.Recursion.{first_recursion}

-- a part may be taken out of the middle and compared last
pub taken_out : FirstOfBoth → AnyOrder → (a b c d e : List Fault) → first_of (a ++ (b ++ (c ++ (d ++ e)))) ≡ earlier_of (first_of (a ++ (b ++ (c ++ e)))) (first_of d)
taken_out both order a b c d e =
    both a (b ++ (c ++ (d ++ e))) ∙ ap (earlier_of (first_of a)) (deeper b (c ++ (d ++ e)) (c ++ e) (deeper c (d ++ e) e (both d e ∙ order.0 (first_of d) (first_of e))))
    ∙ sym (order.1 (first_of a) (first_of (b ++ (c ++ e))) (first_of d)) ∙ ap (λ f. earlier_of f (first_of d)) (sym (both a (b ++ (c ++ e))))
  where
    deeper : (x y z : List Fault) → first_of y ≡ earlier_of (first_of z) (first_of d) → first_of (x ++ y) ≡ earlier_of (first_of (x ++ z)) (first_of d)
    deeper x y z is = both x y ∙ ap (earlier_of (first_of x)) is ∙ sym (order.1 (first_of x) (first_of z) (first_of d)) ∙ ap (λ f. earlier_of f (first_of d)) (sym (both x z))

-- the first fault of the names is the earlier of the first of its scopes and the first module that contains itself
pub joined : FirstOfBoth → AnyOrder → (text : Text) (scope recursion result : Option Fault) → scope ≡ first_scope_fault text → recursion ≡ first_recursion text →
    result ≡ earlier_of scope recursion → result ≡ first_of (faults_of_names text)
unfolding first_scope_fault
joined both order text scope recursion result is_scope is_recursion is =
    let tops = pieces text in
    is ∙ ap (earlier_of scope) is_recursion ∙ ap (λ f. earlier_of f (first_recursion text)) is_scope
    ∙ sym (taken_out both order (faults_at (7, flat_map (undeclared_in tops) tops)) (faults_at (8, repeated [] (map (λ piece. piece.word) tops) ++ flat_map (doubled_in tops) tops)) (faults_at (9, without_main tops)) (faults_at (10, flat_map (recursive_in tops) tops)) (faults_at (11, flat_map (miscounted_in tops) tops) ++ []))
