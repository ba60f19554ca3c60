use Rattle.std.proofs.Common.{refl}
use Rattle.smv_encode.proofs.KnownCases.{current_known}
use Rattle.smv_encode.proofs.times.met_at.Goals as goal

pub returns-in_ok-r-2-clause-known : goal.returns-in_ok-r-2-clause-known
returns-in_ok-r-2-clause-known c =
    current_known c.args.store.now c.first_by.new.store c.args.problem.now c.args.cells.now _ _ _ refl c.as_slice-current.ensures.value c.in_ok-r-2.ensures.keeps c.requires.live c.requires.known c.in_ok-r-2.ensures.known
