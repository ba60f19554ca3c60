use Rattle.std.proofs.Common.{◌<◌, length, arith, refl}
use Rattle.smv_decide.proofs.Told.{Has_at}
use Rattle.smv_look_aiger.proofs.CaseLaws.{no_case, one_case}
use Rattle.smv_look_aiger.proofs.tasks.among.Goals as goal

pub returns-then-place-count : goal.returns-then-place-count
returns-then-place-count c = no_case c.args.cases.now c.args.number c.saturating_sub-place.result (length c.args.cases.now) c.saturating_sub-place.ensures refl (let test = c.if-place-count.true in omega (arith, test))

pub file-requires-clause-case : goal.file-requires-clause-case
file-requires-clause-case c =
    let test = c.if-place-count.false in
    let lt : c.saturating_sub-place.result < length c.args.cases.now = omega (arith, test) in
    c.requires.cases.are_cases c.index-cases-place.result (Has_at c.args.cases.now c.saturating_sub-place.result c.index-cases-place.result lt c.index-cases-place.is)

pub file-requires-clause-width : goal.file-requires-clause-width
file-requires-clause-width c =
    let test = c.if-place-count.false in
    let lt : c.saturating_sub-place.result < length c.args.cases.now = omega (arith, test) in
    c.requires.cases.have_width c.index-cases-place.result (Has_at c.args.cases.now c.saturating_sub-place.result c.index-cases-place.result lt c.index-cases-place.is)

pub returns : goal.returns
returns c =
    let test = c.if-place-count.false in
    let lt : c.saturating_sub-place.result < length c.args.cases.now = omega (arith, test) in
    (c.index-cases-place.result.classes, one_case c.args.cases.now c.args.number c.saturating_sub-place.result c.index-cases-place.result c.saturating_sub-place.ensures lt c.index-cases-place.is, c.in_ok-bytes.ensures)
