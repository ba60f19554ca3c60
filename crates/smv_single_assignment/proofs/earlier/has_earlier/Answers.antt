use Rattle.std.proofs.Common.{◌||◌, ap, sym, ◌∙◌}
use Rattle.std.specs.List.{list_any}
use Rattle.smv_core.specs.declared.tree.Kind.TheVariants.{Comb, Next}
use Rattle.law_designs.specs.SingleFaults.{is_comb}
use Rattle.smv_single_assignment.specs.Clashes.{clash_by, clashes_of}
use Rattle.smv_single_assignment.specs.Links.{held, between}
use Rattle.smv_single_assignment.proofs.EarlierLaws.{one-kind-Meet, one-kind-Cross, mixed-by, mixed-other, kind-here}
use Rattle.smv_single_assignment.proofs.earlier.has_earlier.Goals as goal

pub returns-then-has_earlier_of : goal.returns-then-has_earlier_of
returns-then-has_earlier_of c = λ b got.
    let xs = between c.args.start c.args.middle (held c.args.table.now) in
    let kind = kind-here c.args.table.now.all.items c.args.place c.index.result.now b c.requires.within c.index.ensures got in
    c.if-has_earlier_of.true
    ∙ sym (mixed-by c.args.by b c.in-Mixed.is (sym kind ∙ c.in-Comb.is) xs ∙ ap (λ t. t || list_any (clashes_of Next c.args.by b) xs) (sym (c.has_earlier_of.ensures b got) ∙ c.if-has_earlier_of.true))

pub returns-else-has_earlier_of : goal.returns-else-has_earlier_of
returns-else-has_earlier_of c = λ b got.
    let xs = between c.args.start c.args.middle (held c.args.table.now) in
    let kind = kind-here c.args.table.now.all.items c.args.place c.index.result.now b c.requires.within c.index.ensures got in
    c.has_earlier_of-else-has_earlier_of.ensures b got
    ∙ sym (mixed-by c.args.by b c.in-Mixed.is (sym kind ∙ c.in-Comb.is) xs ∙ ap (λ t. t || list_any (clashes_of Next c.args.by b) xs) (sym (c.has_earlier_of.ensures b got) ∙ c.if-has_earlier_of.false))

pub returns-in-Init : goal.returns-in-Init
returns-in-Init c = λ b got.
    let xs = between c.args.start c.args.middle (held c.args.table.now) in
    let kind = kind-here c.args.table.now.all.items c.args.place c.index.result.now b c.requires.within c.index.ensures got in
    c.has_earlier_of-in-Init.ensures b got ∙ ap (λ by. list_any (clashes_of Comb by b) xs) c.in-Mixed.is ∙ mixed-other b (ap is_comb (sym kind ∙ c.in-Init.is)) xs ∙ sym (ap (λ by. list_any (λ a. clash_by by a b) xs) c.in-Mixed.is)

pub returns-in-Next : goal.returns-in-Next
returns-in-Next c = λ b got.
    let xs = between c.args.start c.args.middle (held c.args.table.now) in
    let kind = kind-here c.args.table.now.all.items c.args.place c.index.result.now b c.requires.within c.index.ensures got in
    c.has_earlier_of-in-Next.ensures b got ∙ ap (λ by. list_any (clashes_of Comb by b) xs) c.in-Mixed.is ∙ mixed-other b (ap is_comb (sym kind ∙ c.in-Next.is)) xs ∙ sym (ap (λ by. list_any (λ a. clash_by by a b) xs) c.in-Mixed.is)

pub returns-in-Meet : goal.returns-in-Meet
returns-in-Meet c = λ b got.
    let xs = between c.args.start c.args.middle (held c.args.table.now) in
    let kind = kind-here c.args.table.now.all.items c.args.place c.index.result.now b c.requires.within c.index.ensures got in
    c.has_earlier_of-in-Meet.ensures b got ∙ ap (λ by. list_any (clashes_of c.index.result.now.kind by b) xs) c.in-Meet.is ∙ one-kind-Meet c.index.result.now.kind b kind xs ∙ sym (ap (λ by. list_any (λ a. clash_by by a b) xs) c.in-Meet.is)

pub returns-in-Cross : goal.returns-in-Cross
returns-in-Cross c = λ b got.
    let xs = between c.args.start c.args.middle (held c.args.table.now) in
    let kind = kind-here c.args.table.now.all.items c.args.place c.index.result.now b c.requires.within c.index.ensures got in
    c.has_earlier_of-in-Cross.ensures b got ∙ one-kind-Cross c.index.result.now.kind c.args.by b kind c.in-Cross.around c.in-Cross.is xs
