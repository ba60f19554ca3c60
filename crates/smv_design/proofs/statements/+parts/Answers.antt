use Rattle.std.proofs.Common.{◌≡◌, ◌+◌, List, Bool, false, flat_map, sym, ap, ◌∙◌}
use Rattle.smv_core.specs.Walk.{same_kind}
use Rattle.smv_core.specs.declared.flat.FlatExpr.{FlatExpr}
use Rattle.smv_core.specs.declared.flat.DefBody.{DefBody}
use Rattle.smv_core.specs.declared.flat.DefBody as flat
use Rattle.law_designs.specs.Definitions.{joined, each_value}
use Rattle.smv_design.specs.Parts.{size, kept}
use Rattle.smv_design.specs.Groups.{same_owner, filled, used, held, one_more}
use Rattle.smv_design.specs.Told.{told, told_from}
use Rattle.smv_design.proofs.GroupLaws.{none-held}
use Rattle.smv_design.proofs.StatementLaws.{one-kept, told-Block, none-added, Assign-added, If-added, Default-added, Forall-made, alone}
use Rattle.smv_design.proofs.statements.+parts.Goals as goal

pub add_branch-returns-in_ok-after-in-Block-clause-parts : goal.add_branch-returns-in_ok-after-in-Block-clause-parts
add_branch-returns-in_ok-after-in-Block-clause-parts t c = λ owner. (
  told_from c.args.kind c.args.layer owner c.args.place c.as_slice-parts.result.now,
  c.in_ok-after-in-Block.ensures.parts owner,
  ap (λ acts. joined (told_from c.args.kind c.args.layer owner c.args.place acts)) c.as_slice-parts.ensures ∙ sym (told-Block c.args.kind c.args.layer owner c.args.place c.in-Block.parts)
      ∙ ap (told c.args.kind c.args.layer owner c.args.place) (sym c.in-Block.is),
)

pub add_branch-returns-in_ok-after-in_default : goal.add_branch-returns-in_ok-after-in_default
add_branch-returns-in_ok-after-in_default t c = record {
  parts = λ owner. (kept (told c.args.kind c.args.layer owner c.args.place c.args.act.now), c.in_ok-after-in_default.ensures.parts owner, one-kept (told c.args.kind c.args.layer owner c.args.place c.args.act.now));
  after = c.in_ok-after-in_default.ensures.after;
}

pub add_said-returns-then-not-is_same-clause-parts : goal.add_said-returns-then-not-is_same-clause-parts
add_said-returns-then-not-is_same-clause-parts t c = λ owner.
    let other : same_kind c.in-Assign.which c.args.kind ≡ false = sym c.is_same.ensures ∙ c.if-not-is_same.true in
    none-added c.args.kind c.args.layer owner (held c.args.groups.now owner) c.args.is_second c.args.place c.in-Assign.which c.in-Assign.family c.in-Assign.left c.in-Assign.value c.in-Assign.at other
    ∙ ap (λ act. filled (held c.args.groups.now owner) c.args.is_second (kept (told c.args.kind c.args.layer owner c.args.place act))) (sym c.in-Assign.is)

pub add_said-returns-in_ok-add-in-Assign-clause-parts : goal.add_said-returns-in_ok-add-in-Assign-clause-parts
add_said-returns-in_ok-add-in-Assign-clause-parts t c = λ owner.
    let before = used c.args.groups.now owner in
    let it : Bool = same_owner (record { layer = c.args.layer; family = c.in-Assign.family }) owner in
    Assign-added c.args.kind c.args.layer owner before (used c.add.new.groups owner) c.args.is_second c.args.place c.in-Assign.which c.in-Assign.family c.in-Assign.left c.in-Assign.value c.in-Assign.at
    (sym c.is_same.ensures ∙ c.if-not-is_same.false)
    (c.in_ok-add-in-Assign.ensures owner ∙ ap (one_more before it c.args.is_second) (c.in_ok-says-in-Assign.ensures ∙ ap (λ (left : List FlatExpr). flat.Assign left c.in-Assign.value c.args.place c.in-Assign.at) c.as_slice.ensures))
    ∙ ap (λ act. filled (held c.args.groups.now owner) c.args.is_second (kept (told c.args.kind c.args.layer owner c.args.place act))) (sym c.in-Assign.is)

pub add_said-returns-in_ok-add_all-in-If-clause-parts : goal.add_said-returns-in_ok-add_all-in-If-clause-parts
add_said-returns-in_ok-add_all-in-If-clause-parts t c = λ owner.
    let kind = c.args.kind in
    let layer = c.args.layer in
    let place = c.args.place in
    let one = c.in_ok-middle-in-If.ensures.parts owner in
    let two = c.in_ok-after-in-If.ensures.parts owner in
    let left : joined one.0 ≡ told kind layer owner place c.in-If.yes = one.2 ∙ ap (told kind layer owner place) c.get.ensures in
    let right : joined two.0 ≡ told kind layer owner (place + size c.in-If.yes) c.in-If.no =
    two.2 ∙ ap (told kind layer owner c.in_ok-middle-in-If.middle) c.get-in-If.ensures ∙ ap (λ k. told kind layer owner k c.in-If.no) (c.in_ok-middle-in-If.ensures.after ∙ ap (λ act. place + size act) c.get.ensures) in
    c.in_ok-add_all-in-If.ensures owner
    ∙ ap (filled (held c.args.groups.now owner) c.args.is_second) (c.in_ok-parts-in-If.ensures owner
    ∙ If-added kind layer owner (held c.new-sides.result owner) (held c.add_branch.new.groups owner) (held c.add_branch-in-If.new.groups owner) one.0 two.0 place c.in-If.cond c.in-If.yes c.in-If.no
    (none-held c.new-sides.result owner c.new-sides.ensures.empty) one.1 two.1 left right
    ∙ ap (λ act. kept (told kind layer owner place act)) (sym c.in-If.is))

pub add_said-returns-in_ok-add_all-in-Default-clause-parts : goal.add_said-returns-in_ok-add_all-in-Default-clause-parts
add_said-returns-in_ok-add_all-in-Default-clause-parts t c = λ owner.
    let kind = c.args.kind in
    let layer = c.args.layer in
    let place = c.args.place in
    let first = c.in_ok-middle-in-Default.ensures.parts owner in
    let second = c.in_ok-after-in-Default.ensures.parts owner in
    let left : joined (held c.add_branch-in-Default.new.groups owner).first ≡ told kind layer owner place c.in-Default.first =
    alone kind layer owner (held c.new-firsts.result owner) (held c.add_branch-in-Default.new.groups owner) first.0 place c.in-Default.first (none-held c.new-firsts.result owner c.new-firsts.ensures.empty) first.1
    (first.2 ∙ ap (told kind layer owner place) c.get-in-Default.ensures) in
    let right : joined (held c.add_branch-in-Default-2.new.groups owner).first ≡ told kind layer owner (place + size c.in-Default.first) c.in-Default.second =
    alone kind layer owner (held c.new-seconds.result owner) (held c.add_branch-in-Default-2.new.groups owner) second.0 (place + size c.in-Default.first) c.in-Default.second (none-held c.new-seconds.result owner c.new-seconds.ensures.empty) second.1
    (second.2 ∙ ap (told kind layer owner c.in_ok-middle-in-Default.middle) c.get-in-Default-2.ensures
    ∙ ap (λ k. told kind layer owner k c.in-Default.second) (c.in_ok-middle-in-Default.ensures.after ∙ ap (λ act. place + size act) c.get-in-Default.ensures)) in
    c.in_ok-add_all-in-Default.ensures owner
    ∙ ap (filled (held c.args.groups.now owner) c.args.is_second) (c.in_ok-parts-in-Default.ensures owner
    ∙ Default-added kind layer owner place c.in-Default.first c.in-Default.second (held c.add_branch-in-Default.new.groups owner).first (held c.add_branch-in-Default-2.new.groups owner).first left right
    ∙ ap (λ act. kept (told kind layer owner place act)) (sym c.in-Default.is))

pub add_said-returns-in_ok-add_all-in-Forall-clause-parts : goal.add_said-returns-in_ok-add_all-in-Forall-clause-parts
add_said-returns-in_ok-add_all-in-Forall-clause-parts t c = λ owner.
    let kind = c.args.kind in
    let layer = c.args.layer in
    let place = c.args.place in
    let body = c.in_ok-after-in-Forall.ensures.parts owner in
    let says : joined (held c.add_branch-in-Forall.new.groups owner).first ≡ told kind layer owner place c.in-Forall.body =
    alone kind layer owner (held c.new-inner-in-Forall.result owner) (held c.add_branch-in-Forall.new.groups owner) body.0 place c.in-Forall.body (none-held c.new-inner-in-Forall.result owner c.new-inner-in-Forall.ensures.empty) body.1
    (body.2 ∙ ap (told kind layer owner place) c.get-in-Forall.ensures) in
    c.in_ok-add_all-in-Forall.ensures owner
    ∙ ap (filled (held c.args.groups.now owner) c.args.is_second) (c.in_ok-parts-in-Forall.ensures owner
    ∙ ap (λ (l : List DefBody). flat_map (λ p. kept (each_value c.in-Forall.var c.in-Forall.over p)) l) (c.in_ok-merged-in-Forall.ensures owner ∙ ap kept says)
    ∙ Forall-made kind layer owner place c.in-Forall.var c.in-Forall.over c.in-Forall.body ∙ ap (λ act. kept (told kind layer owner place act)) (sym c.in-Forall.is))
