use Rattle.std.proofs.Common.{ℕ, ◌≡◌, ◌+◌, ◌*◌, List, map, take, refl, sum, ap, sym, length, ◌∙◌}
use Rattle.std.specs.List.{sum_by}
use Rattle.std.proofs.lemmas.List.{take_all}
use Rattle.smv_core.specs.Values.{Name}
use Rattle.smv_core.specs.FlatOrder.{Body}
use Rattle.smv_core.specs.declared.tree.Word.{Word}
use Rattle.smv_core.specs.declared.tree.Expr.{Expr}
use Rattle.smv_core.specs.declared.tree.Item.{Item, Instance}
use Rattle.smv_mentions.specs.Sizes.{Sized, body_named, statements_of_item, statements}
use Rattle.smv_size.specs.Limits.{capped}
use Rattle.smv_size.specs.declared.modules.ModuleSize.{ModuleSize}
use Rattle.smv_size.proofs.CountLaws.{sum_is}
use Rattle.smv_size.proofs.MetLaws.{sum-turn, met-Block, met-Forall, met-Layer}
use Rattle.smv_size.proofs.modules.+items.Goals as goal

pub statements_of-returns-in-Layer : goal.statements_of-returns-in-Layer
statements_of-returns-in-Layer t c known bodies things counts f =
    let inside = counts in
    let body = c.in-Layer.body in
    sum_is c.plus.result 1 c.in_all.result 1 (sum_by statements body) c.plus.ensures refl (c.in_all.ensures ∙ ap (λ l. capped (sum_by statements l)) c.as_slice.ensures)
    ∙ ap capped (sym (met-Layer known bodies inside c.in-Layer.name body c.in-Layer.at)) ∙ ap (λ (x : Item). capped (statements_of_item known bodies inside x)) (sym c.in-Layer.is)

pub statements_of-returns-in-Forall : goal.statements_of-returns-in-Forall
statements_of-returns-in-Forall t c known bodies things counts f =
    let inside = counts in
    let body = c.in-Forall.body in
    sum_is c.plus-in-Forall.result 1 c.statements_of.result 1 (statements_of_item known bodies inside body) c.plus-in-Forall.ensures refl
    (c.statements_of.ensures known bodies things counts f ∙ ap (λ (x : Item). capped (statements_of_item known bodies inside x)) c.get.ensures)
    ∙ ap capped (sym (met-Forall known bodies inside c.in-Forall.var c.in-Forall.over body c.in-Forall.at)) ∙ ap (λ (x : Item). capped (statements_of_item known bodies inside x)) (sym c.in-Forall.is)

pub statements_of-returns-in-Block : goal.statements_of-returns-in-Block
statements_of-returns-in-Block t c known bodies things counts f =
    let inside = counts in
    let items = c.in-Block.items in
    sum_is c.plus-in-Block.result 1 c.statements_of_items.result 1 (sum (map (statements_of_item known bodies inside) items)) c.plus-in-Block.ensures refl
    (c.statements_of_items.ensures known bodies things counts f ∙ ap (λ (l : List Item). capped (sum (map (statements_of_item known bodies inside) l))) c.as_slice-in-Block.ensures)
    ∙ ap capped (sym (met-Block known bodies inside items)) ∙ ap (λ (x : Item). capped (statements_of_item known bodies inside x)) (sym c.in-Block.is)

counted : (known : List (Name × Sized)) (bodies : List (Name × Body)) (inside : Name → ℕ) (r n : ℕ) (words : List Word) (name : Word) (args : List Expr) (at : ℕ)
    → r ≡ capped (n * (length (body_named known bodies name.name).formals + inside name.name)) → n ≡ length words → r ≡ capped (statements_of_item known bodies inside (Instance words name args at))
counted known bodies inside r n words name args at e f = e ∙ ap (λ k. capped (k * (length (body_named known bodies name.name).formals + inside name.name))) f

pub statements_of-returns-in-Instance : goal.statements_of-returns-in-Instance
statements_of-returns-in-Instance t c known bodies things counts f =
    let inside = counts in
    let name = c.in-Instance.module.name in
    let is = c.size_named.ensures ∙ f name in
    let sum = c.connected.ensures (length (body_named known bodies name).formals) (inside name) (ap (λ (m : ModuleSize). m.formals) is) (ap (λ (m : ModuleSize). m.statements) is) in
    counted known bodies inside c.connected.result c.len.result c.in-Instance.words c.in-Instance.module c.in-Instance.args c.in-Instance.at sum c.len.ensures
    ∙ ap (λ (x : Item). capped (statements_of_item known bodies inside x)) (sym c.in-Instance.is)

pub statements_of_items-loop-item-preserved : goal.statements_of_items-loop-item-preserved
statements_of_items-loop-item-preserved t c known bodies things counts f =
    let count = statements_of_item known bodies counts in
    let items = c.args.items.now in
    let i = c.loop-item.item-index in
    let x = c.item-item.result in
    sum_is c.plus-total.result c.loop-item.total c.statements_of.result (sum (map count (take i items))) (count x) c.plus-total.ensures (c.loop-item.invariant known bodies things counts f) (c.statements_of.ensures known bodies things counts f)
    ∙ ap capped (sum-turn count items i x c.loop-item-test.true c.item-item.is)

pub statements_of_items-returns : goal.statements_of_items-returns
statements_of_items-returns t c known bodies things counts f =
    let count = statements_of_item known bodies counts in
    c.loop-item.invariant known bodies things counts f ∙ ap (λ l. capped (sum (map count l))) (take_all c.loop-item.item-index c.args.items.now c.loop-item-test.false)
