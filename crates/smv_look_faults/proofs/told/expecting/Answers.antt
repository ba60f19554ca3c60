use Rattle.smv_look_faults.proofs.ToldLaws.{told_expecting}
use Rattle.smv_look_faults.proofs.told.expecting.Goals as goal

pub returns : goal.returns
returns c =
    let more = c.in_ok-push_expected.ensures in
    told_expecting c.args.text.now c.args.fault.number c.args.fault.at c.push_expected.new.out.items c.in_ok-out.out.items more.0 c.requires.unexpected more.1 c.in_ok-out.ensures more.2
