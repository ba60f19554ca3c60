use Rattle.smv_wires.proofs.Tests.{all_made}
use Rattle.smv_wires.proofs.alone.are_small.Goals as goal

pub marked_behind-requires : goal.marked_behind-requires
marked_behind-requires c = record { made = all_made c.args.store.now c.clear_marks.new.self c.args.offers.now c.clear_marks.ensures.keeps c.requires.made }
