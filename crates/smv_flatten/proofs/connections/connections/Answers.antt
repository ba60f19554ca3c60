use Rattle.std.proofs.Common.{◌++◌, ◌<◌, None, map, length, get_or, sym, ap, ◌∙◌, arith}
use Rattle.law_lists.proofs.Places.{get_or-own}
use Rattle.smv_core.specs.declared.tree.Word.{Word}
use Rattle.smv_core.specs.declared.tree.Role.TheVariants.{Plain}
use Rattle.law_designs.specs.Entries.{connection}
use Rattle.smv_flatten_families.specs.Held.{scope_here}
use Rattle.smv_flatten.specs.Leaves.{binders_of}
use Rattle.smv_flatten.specs.Items.{act_item}
use Rattle.smv_flatten.proofs.ConnectionLaws.{connect-step, connect-done}
use Rattle.smv_flatten.proofs.connections.connections.Goals as goal

pub loop-i-preserved : goal.loop-i-preserved
loop-i-preserved c =
    let says = act_item (scope_here c.args.here) None (binders_of c.args.around.now) in
    let i = c.loop-i.i in
    let n = c.args.name.now in
    let role = get_or c.args.roles.now i Plain in
    let word = c.index-formals-i.result in
    let e = c.index-args-i.result in
    let there : i < length c.args.roles.now = omega arith in
    let more = c.in_ok-add_connection.ensures ∙ ap (λ (w : Word). c.loop-i.out.items ++ map says (connection role n w.name e)) (sym c.index-formals-i.is) in
    connect-step says n c.args.formals.now c.args.roles.now c.args.args.now i word role e c.loop-i.out.items c.add_connection.new.out.items _ (omega arith)
    c.index-formals-i.is (get_or-own c.args.roles.now i Plain there) c.index-args-i.is c.loop-i.invariant more

pub returns : goal.returns
returns c =
    connect-done (act_item (scope_here c.args.here) None (binders_of c.args.around.now)) c.args.name.now c.args.formals.now c.args.roles.now c.args.args.now c.loop-i.i c.loop-i.out.items _ (omega arith) c.loop-i.invariant
