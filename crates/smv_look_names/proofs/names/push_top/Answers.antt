use Rattle.smv_look_names.proofs.TopLaws.{in-top, on_ok}
use Rattle.smv_look_names.proofs.names.push_top.Goals as goal

pub returns : goal.returns
returns c =
    let t = c.args.tables.now in
    on_ok c.push_all_said.result _ _
    (in-top c.args.at t.text.now t.pieces.now c.requires.tables.noted c.args.place c.args.piece.now c.requires.here c.formals_of.result.now c.as_slice.result.now c.as_slice-2.result.now
    c.args.out.now.items c.push_words.new.out.items c.push_declared.new.out.items c.push_all_said.new.out.items
    c.formals_of.ensures c.as_slice.ensures.value c.as_slice-2.ensures.value c.in_ok-push_words.ensures c.in_ok-push_declared.ensures)
    c.push_all_said.ensures
