use Rattle.smv_wires.proofs.Tests.{all_made, alone_found}
use Rattle.smv_wires.proofs.alone.is_alone.Goals as goal

pub is_alone_behind-requires-clause-made : goal.is_alone_behind-requires-clause-made
is_alone_behind-requires-clause-made c = all_made c.args.store.now c.are_small.new.store c.args.offers.now c.are_small.ensures.keeps c.requires.made

pub returns-clause-alone : goal.returns-clause-alone
returns-clause-alone c held a = alone_found c.args.store.now c.are_small.new.store a c.constant-never.result c.args.offers.now c.are_small.ensures.keeps c.requires.made (c.constant-never.ensures.constant a) (c.in_ok-alone.ensures.alone held a)
