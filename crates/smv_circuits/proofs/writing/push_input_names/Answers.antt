use Rattle.smv_circuits.specs.Files.{input_name}
use Rattle.smv_circuits.proofs.FileLaws.{name_more}
use Rattle.smv_circuits.proofs.writing.push_input_names.Goals as goal

pub loop-bit-preserved : goal.loop-bit-preserved
loop-bit-preserved c = name_more input_name c.loop-bit.bit c.args.out.now.items c.loop-bit.out.items c.push_input_name.new.out.items c.loop-bit.invariant c.in_ok-push_input_name.ensures
