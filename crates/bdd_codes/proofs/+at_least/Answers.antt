use Rattle.std.proofs.Common.{rules, ℕ, List, ◌≤◌, length, refl, ap, arith}
use Rattle.std.proofs.lemmas.List.{nil_from_length}
use Rattle.std.proofs.lemmas.Nat.{one_shl}
use Rattle.bdd_codes.specs.Codes.{AreWithin}
use Rattle.bdd_codes.proofs.CodeLaws.{no_least, least_low, least_high, first_within, lower_within}
use Rattle.bdd_codes.proofs.+at_least.Goals as goal

pub returns-in_default-clause-table : goal.returns-in_default-clause-table
returns-in_default-clause-table t c a = no_least c.args.next c.args.places.now c.args.least a _ (c.constant-in_default.ensures.constant a) (nil_from_length c.args.places.now c.in_default.ensures.cases) (omega arith)

pub returns-in_ok-r-clause-table : goal.returns-in_ok-r-clause-table
returns-in_ok-r-clause-table t c a =
    let k = c.in-Some.ensures.cases in
    least_low c.args.next c.args.places.now c.in-Some.lower.now c.in-Some.place.now c.args.least _ a _ _ _ _ k.0 (c.variable-var.ensures.is a) (c.in_ok-r.ensures.table a) (one_shl (length c.in-Some.lower.now) 32 (omega arith)) (c.constant-high.ensures.constant a) (c.in_ok-low.ensures.table a) c.if-least-half.true

pub returns-in_ok-r-2-clause-table : goal.returns-in_ok-r-2-clause-table
returns-in_ok-r-2-clause-table t c a =
    let k = c.in-Some.ensures.cases in
    least_high c.args.next c.args.places.now c.in-Some.lower.now c.in-Some.place.now c.args.least _ a _ _ _ _ k.0 (c.variable-var.ensures.is a) (c.in_ok-r-2.ensures.table a) (one_shl (length c.in-Some.lower.now) 32 (omega arith)) (c.in_ok-high.ensures.table a) (c.constant-low.ensures.constant a) (omega arith)

pub at_least-requires : goal.at_least-requires
at_least-requires t c =
    let k = c.in-Some.ensures.cases in
    let room : AreWithin c.args.store.now c.in-Some.lower.now = lower_within c.args.store.now c.args.store.now c.args.places.now c.in-Some.lower.now c.in-Some.place.now k.0 refl c.requires.room in
    let long = ap (λ (ps : List ℕ). length ps) k.0 in
    let width : length c.in-Some.lower.now ≤ 32 = omega (arith, long) in
    search (rules, room, width)

pub at_least-requires-else-least-half : goal.at_least-requires-else-least-half
at_least-requires-else-least-half t c =
    let k = c.in-Some.ensures.cases in
    let room : AreWithin c.args.store.now c.in-Some.lower.now = lower_within c.args.store.now c.args.store.now c.args.places.now c.in-Some.lower.now c.in-Some.place.now k.0 refl c.requires.room in
    let long = ap (λ (ps : List ℕ). length ps) k.0 in
    let width : length c.in-Some.lower.now ≤ 32 = omega (arith, long) in
    search (rules, room, width)

pub variable-var-requires : goal.variable-var-requires
variable-var-requires t c =
    let k = c.in-Some.ensures.cases in
    first_within c.args.store.now c.args.places.now c.in-Some.lower.now c.in-Some.place.now k.0 c.requires.room
