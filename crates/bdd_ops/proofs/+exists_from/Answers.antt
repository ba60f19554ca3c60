use Rattle.std.proofs.Common.{◌≡◌, ℕ, Bool, ◌||◌, cond, refl, sym, ap, ◌∙◌, arith, false, true}
use Rattle.bdd_store.specs.Graph.{with_at}
use Rattle.bdd_store.specs.Diagram.{table, Keeps}
use Rattle.bdd_ops.specs.Functions.{some_at}
use Rattle.memo_table.specs.Results.{same_pair}
use Rattle.bdd_ops.specs.Memo.{IsImage, joined}
use Rattle.bdd_ops.proofs.MemoLaws.{image_found, same_table, images_kept, joins_kept, pair_test, holds_kept, holds_same}
use Rattle.bdd_ops.proofs.Tables.{split_at, some_cond, free_before, or_same_both}
use Rattle.bdd_ops.proofs.Recalled.{exists_first}
use Rattle.bdd_ops.proofs.Held.{fresh_node}
use Rattle.bdd_store.specs.declared.Operation.TheVariants.{Exists}
use Rattle.bdd_store.specs.Results.{made}
use Rattle.bdd_store.proofs.Keeping.{keeps_then, keeps_self}
use Rattle.bdd_ops.specs.Functions.{Function}
use Rattle.bdd_ops.specs.Grown.{Adds}
use Rattle.bdd_ops.proofs.Grown.{adds_fresh, adds_then, adds_same, adds_made, some_branch, on_err, err_then}
use Rattle.bdd_ops.proofs.+exists_from.Goals as goal

pub returns-then-var-first-clause-table : goal.returns-then-var-first-clause-table
returns-then-var-first-clause-table t c a =
    let free = λ (x : Bool). free_before (table c.args.store.now c.args.f) c.var-first.result c.args.var x c.var-first.ensures.from c.if-var-first.true a in
    or_same_both (table c.args.store.now c.args.f a) (table c.args.store.now c.args.f (with_at a c.args.var false)) (table c.args.store.now c.args.f (with_at a c.args.var true)) (free false) (free true)

-- a result that is kept is right
pub returns-in-Some-get-clause-live : goal.returns-in-Some-get-clause-live
returns-in-Some-get-clause-live t c = (image_found (some_at c.args.var) 0 c.args.store.now c.args.memo.now (c.args.f, c.args.f) c.in-Some-get.r c.in-Some-get.ensures.value c.requires.memo).live

pub returns-in-Some-get-clause-first : goal.returns-in-Some-get-clause-first
returns-in-Some-get-clause-first t c = omega (arith, (image_found (some_at c.args.var) 0 c.args.store.now c.args.memo.now (c.args.f, c.args.f) c.in-Some-get.r c.in-Some-get.ensures.value c.requires.memo).first)

pub returns-in-Some-get-clause-table : goal.returns-in-Some-get-clause-table
returns-in-Some-get-clause-table t c = (image_found (some_at c.args.var) 0 c.args.store.now c.args.memo.now (c.args.f, c.args.f) c.in-Some-get.r c.in-Some-get.ensures.value c.requires.memo).table

pub returns-in-Some-recall-clause-first : goal.returns-in-Some-recall-clause-first
returns-in-Some-recall-clause-first t c =
    let d = c.args.store.now in
    let is = c.in-Some-recall.ensures.some d c.requires.known in
    exists_first d c.requires.sound c.in-Some-recall.r is.live c.args.var c.args.f c.requires.live is.table

-- what the store comes to know is right
pub node_within-requires-clause-made : goal.node_within-requires-clause-made
node_within-requires-clause-made t c a =
    let before = c.args.store.now in
    let middle = c.exists_from.new.store in
    let last = c.exists_from-2.new.store in
    let v = c.var-first.result in
    let split = split_at (table before c.args.f) (table before c.low-f_low.result) (table before c.high-f_high.result) v
    (λ e. c.low-f_low.ensures.table e ∙ ap (λ y. table before c.args.f (with_at e y false)) (sym c.var-first.ensures.var))
    (λ e. c.high-f_high.ensures.table e ∙ ap (λ y. table before c.args.f (with_at e y true)) (sym c.var-first.ensures.var)) in
    let low_is = c.in_ok-high.ensures.keeps.tables c.in_ok-low.low c.in_ok-low.ensures.live a ∙ c.in_ok-low.ensures.table a in
    let high_is = c.in_ok-high.ensures.table a ∙ ap (λ T. some_at c.args.var T a) (same_table before middle c.in_ok-low.ensures.keeps c.high-f_high.result c.high-f_high.ensures.live) in
    ap (λ y. cond (a v) y (table last c.in_ok-low.low a)) high_is
    ∙ ap (λ y. cond (a v) (some_at c.args.var (table before c.high-f_high.result) a) y) low_is
    ∙ some_cond c.args.var (table before c.args.f) (table before c.high-f_high.result) (table before c.low-f_low.result) v a c.if-first-var.false split
    ∙ ap (λ (T : (ℕ → Bool) → Bool). some_at c.args.var T a) (sym (same_table before last (keeps_then before middle last c.in_ok-low.ensures.keeps c.in_ok-high.ensures.keeps) c.args.f c.requires.live))

-- after both branches
both_keep_no_node : (t : ℕ) (c : goal.After-from_residual-in_err-r t) → Keeps c.args.store.now c.exists_from-2.new.store
both_keep_no_node t c = keeps_then c.args.store.now c.exists_from.new.store c.exists_from-2.new.store c.in_ok-low.ensures.keeps c.in_ok-high.ensures.keeps

all_keep_no_node : (t : ℕ) (c : goal.After-from_residual-in_err-r t) → Keeps c.args.store.now c.node_within.new.store
all_keep_no_node t c = keeps_then c.args.store.now c.exists_from-2.new.store c.node_within.new.store (both_keep_no_node t c) c.in_err-r.ensures.keeps

pub returns-in_err-r-clause-keeps : goal.returns-in_err-r-clause-keeps
returns-in_err-r-clause-keeps t c = all_keep_no_node t c

pub returns-in_err-r-clause-joins : goal.returns-in_err-r-clause-joins
returns-in_err-r-clause-joins t c = joins_kept false c.exists_from-2.new.store c.node_within.new.store c.exists_from-2.new.joins c.in_err-r.ensures.keeps c.in_ok-high.ensures.joins

pub returns-in_err-r-clause-memo : goal.returns-in_err-r-clause-memo
returns-in_err-r-clause-memo t c = images_kept (some_at c.args.var) 0 c.exists_from-2.new.store c.node_within.new.store c.exists_from-2.new.memo c.in_err-r.ensures.keeps c.in_ok-high.ensures.memo

-- after both branches
both_keep_no_room : (t : ℕ) (c : goal.After-from_residual-in_err-keep t) → Keeps c.args.store.now c.exists_from-2.new.store
both_keep_no_room t c = keeps_then c.args.store.now c.exists_from.new.store c.exists_from-2.new.store c.in_ok-low.ensures.keeps c.in_ok-high.ensures.keeps

all_keep_no_room : (t : ℕ) (c : goal.After-from_residual-in_err-keep t) → Keeps c.args.store.now c.node_within.new.store
all_keep_no_room t c = keeps_then c.args.store.now c.exists_from-2.new.store c.node_within.new.store (both_keep_no_room t c) c.in_ok-r.ensures.keeps

pub returns-in_err-keep-clause-keeps : goal.returns-in_err-keep-clause-keeps
returns-in_err-keep-clause-keeps t c = all_keep_no_room t c

pub returns-in_err-keep-clause-joins : goal.returns-in_err-keep-clause-joins
returns-in_err-keep-clause-joins t c = joins_kept false c.exists_from-2.new.store c.node_within.new.store c.exists_from-2.new.joins c.in_ok-r.ensures.keeps c.in_ok-high.ensures.joins

pub returns-in_err-keep-clause-memo : goal.returns-in_err-keep-clause-memo
returns-in_err-keep-clause-memo t c =
    holds_same same_pair pair_test (IsImage (some_at c.args.var) 0 c.node_within.new.store) c.exists_from-2.new.memo c.keep.new.memo c.in_err-keep.ensures.err
    (images_kept (some_at c.args.var) 0 c.exists_from-2.new.store c.node_within.new.store c.exists_from-2.new.memo c.in_ok-r.ensures.keeps c.in_ok-high.ensures.memo)

-- after both branches
both_keep_done : (t : ℕ) (c : goal.In_ok-keep t) → Keeps c.args.store.now c.exists_from-2.new.store
both_keep_done t c = keeps_then c.args.store.now c.exists_from.new.store c.exists_from-2.new.store c.in_ok-low.ensures.keeps c.in_ok-high.ensures.keeps

all_keep_done : (t : ℕ) (c : goal.In_ok-keep t) → Keeps c.args.store.now c.node_within.new.store
all_keep_done t c = keeps_then c.args.store.now c.exists_from-2.new.store c.node_within.new.store (both_keep_done t c) c.in_ok-r.ensures.keeps

pub returns-clause-keeps : goal.returns-clause-keeps
returns-clause-keeps t c = all_keep_done t c

pub returns-clause-joins : goal.returns-clause-joins
returns-clause-joins t c = joins_kept false c.exists_from-2.new.store c.node_within.new.store c.exists_from-2.new.joins c.in_ok-r.ensures.keeps c.in_ok-high.ensures.joins

pub returns-clause-fresh : goal.returns-clause-fresh
returns-clause-fresh t c =
    fresh_node c.args.store.now c.exists_from.new.store c.exists_from-2.new.store c.node_within.new.store c.in_ok-low.low c.in_ok-high.high c.in_ok-r.r
    c.in_ok-low.ensures.fresh c.in_ok-high.ensures.fresh c.in_ok-high.ensures.keeps c.in_ok-low.ensures.live c.in_ok-r.ensures.fresh c.in_ok-r.ensures.reached

-- the table of the new result
table_done : (t : ℕ) (c : goal.In_ok-keep t) (a : ℕ → Bool) → table c.node_within.new.store c.in_ok-r.r a ≡ some_at c.args.var (table c.args.store.now c.args.f) a
table_done t c a =
    let before = c.args.store.now in
    let middle = c.exists_from.new.store in
    let last = c.exists_from-2.new.store in
    let v = c.var-first.result in
    let split = split_at (table before c.args.f) (table before c.low-f_low.result) (table before c.high-f_high.result) v
    (λ e. c.low-f_low.ensures.table e ∙ ap (λ y. table before c.args.f (with_at e y false)) (sym c.var-first.ensures.var))
    (λ e. c.high-f_high.ensures.table e ∙ ap (λ y. table before c.args.f (with_at e y true)) (sym c.var-first.ensures.var)) in
    let low_is = c.in_ok-high.ensures.keeps.tables c.in_ok-low.low c.in_ok-low.ensures.live a ∙ c.in_ok-low.ensures.table a in
    let high_is = c.in_ok-high.ensures.table a ∙ ap (λ T. some_at c.args.var T a) (same_table before middle c.in_ok-low.ensures.keeps c.high-f_high.result c.high-f_high.ensures.live) in
    c.in_ok-r.ensures.table a
    ∙ ap (λ y. cond (a v) y (table last c.in_ok-low.low a)) high_is
    ∙ ap (λ y. cond (a v) (some_at c.args.var (table before c.high-f_high.result) a) y) low_is
    ∙ some_cond c.args.var (table before c.args.f) (table before c.high-f_high.result) (table before c.low-f_low.result) v a c.if-first-var.false split

pub returns-clause-table : goal.returns-clause-table
returns-clause-table t c = table_done t c

-- the new result is right
answer_done : (t : ℕ) (c : goal.In_ok-keep t) → IsImage (some_at c.args.var) 0 c.node_within.new.store (c.args.f, c.args.f) c.in_ok-r.r
answer_done t c =
    let keeps = all_keep_done t c in
    let f_first = keeps.firsts c.args.f c.requires.live in
    record {
      twice = refl;
      from_live = keeps.live c.args.f c.requires.live;
      from_proper = omega (arith, f_first, keeps.vars, c.var-first.ensures.within, c.var-first.ensures.var);
      live = c.in_ok-r.ensures.live;
      first = omega (arith, c.in_ok-r.ensures.first, c.var-first.ensures.var, f_first);
      table = λ a. table_done t c a ∙ ap (λ T. some_at c.args.var T a) (sym (same_table c.args.store.now c.node_within.new.store keeps c.args.f c.requires.live));
    }

pub returns-clause-memo : goal.returns-clause-memo
returns-clause-memo t c =
    holds_kept same_pair pair_test (IsImage (some_at c.args.var) 0 c.node_within.new.store) c.exists_from-2.new.memo c.keep.new.memo (c.args.f, c.args.f) c.in_ok-r.r c.in_ok-keep.ensures.memo
    (images_kept (some_at c.args.var) 0 c.exists_from-2.new.store c.node_within.new.store c.exists_from-2.new.memo c.in_ok-r.ensures.keeps c.in_ok-high.ensures.memo) (answer_done t c)

pub returns-clause-known : goal.returns-clause-known
returns-clause-known t c = c.in_ok-keep.ensures.right c.node_within.new.store (c.in_ok-r.ensures.known c.exists_from-2.new.known c.in_ok-high.ensures.known) c.in_ok-r.ensures.right

pub returns-in_err-keep-clause-known : goal.returns-in_err-keep-clause-known
returns-in_err-keep-clause-known t c = c.in_err-keep.ensures.right c.node_within.new.store (c.in_ok-r.ensures.known c.exists_from-2.new.known c.in_ok-high.ensures.known) c.in_ok-r.ensures.right

-- what was added until a branch was refused
pub returns-in_err-low-clause-adds : goal.returns-in_err-low-clause-adds
returns-in_err-low-clause-adds t c =
    let d = c.args.store.now in
    let m = c.exists_from.new.store in
    let F : Function = some_at c.args.var (table d c.args.f) in
    on_err c.from_residual.result (Adds d m F) (some_branch d d m c.requires.sound c.args.var c.args.f c.low-f_low.result c.var-first.result false (omega (arith, c.var-first.ensures.within, c.var-first.ensures.var)) (omega (arith, c.var-first.ensures.var)) c.if-first-var.false
    (keeps_self d) c.low-f_low.ensures.live (λ a. c.low-f_low.ensures.table a ∙ ap (λ y. table d c.args.f (with_at a y false)) (sym c.var-first.ensures.var)) c.in_err-low.ensures.keeps
    (c.in_err-low.ensures.adds))

pub returns-in_err-high-clause-adds : goal.returns-in_err-high-clause-adds
returns-in_err-high-clause-adds t c =
    let d = c.args.store.now in
    let m = c.exists_from.new.store in
    let e = c.exists_from-2.new.store in
    let F : Function = some_at c.args.var (table d c.args.f) in
    on_err c.from_residual-in_err-high.result (Adds d e F) (adds_then d m e F c.in_err-high.ensures.keeps
    (some_branch d d m c.requires.sound c.args.var c.args.f c.low-f_low.result c.var-first.result false (omega (arith, c.var-first.ensures.within, c.var-first.ensures.var)) (omega (arith, c.var-first.ensures.var)) c.if-first-var.false
    (keeps_self d) c.low-f_low.ensures.live (λ a. c.low-f_low.ensures.table a ∙ ap (λ y. table d c.args.f (with_at a y false)) (sym c.var-first.ensures.var)) c.in_ok-low.ensures.keeps
    (adds_fresh d m c.in_ok-low.ensures.sound c.in_ok-low.low c.in_ok-low.ensures.live (some_at c.args.var (table d c.low-f_low.result)) c.in_ok-low.ensures.table c.in_ok-low.ensures.fresh))
    (some_branch d m e c.requires.sound c.args.var c.args.f c.high-f_high.result c.var-first.result true (omega (arith, c.var-first.ensures.within, c.var-first.ensures.var)) (omega (arith, c.var-first.ensures.var)) c.if-first-var.false
    c.in_ok-low.ensures.keeps c.high-f_high.ensures.live (λ a. c.high-f_high.ensures.table a ∙ ap (λ y. table d c.args.f (with_at a y true)) (sym c.var-first.ensures.var)) c.in_err-high.ensures.keeps
    (c.in_err-high.ensures.adds)))

-- what both branches added
both_add_no_node : (t : ℕ) (c : goal.After-from_residual-in_err-r t) → Adds c.args.store.now c.exists_from-2.new.store (some_at c.args.var (table c.args.store.now c.args.f))
both_add_no_node t c =
    let d = c.args.store.now in
    let m = c.exists_from.new.store in
    let e = c.exists_from-2.new.store in
    let F : Function = some_at c.args.var (table d c.args.f) in
    adds_then d m e F c.in_ok-high.ensures.keeps
    (some_branch d d m c.requires.sound c.args.var c.args.f c.low-f_low.result c.var-first.result false (omega (arith, c.var-first.ensures.within, c.var-first.ensures.var)) (omega (arith, c.var-first.ensures.var)) c.if-first-var.false
    (keeps_self d) c.low-f_low.ensures.live (λ a. c.low-f_low.ensures.table a ∙ ap (λ y. table d c.args.f (with_at a y false)) (sym c.var-first.ensures.var)) c.in_ok-low.ensures.keeps
    (adds_fresh d m c.in_ok-low.ensures.sound c.in_ok-low.low c.in_ok-low.ensures.live (some_at c.args.var (table d c.low-f_low.result)) c.in_ok-low.ensures.table c.in_ok-low.ensures.fresh))
    (some_branch d m e c.requires.sound c.args.var c.args.f c.high-f_high.result c.var-first.result true (omega (arith, c.var-first.ensures.within, c.var-first.ensures.var)) (omega (arith, c.var-first.ensures.var)) c.if-first-var.false
    c.in_ok-low.ensures.keeps c.high-f_high.ensures.live (λ a. c.high-f_high.ensures.table a ∙ ap (λ y. table d c.args.f (with_at a y true)) (sym c.var-first.ensures.var)) c.in_ok-high.ensures.keeps
    (adds_fresh m e c.in_ok-high.ensures.sound c.in_ok-high.high c.in_ok-high.ensures.live (some_at c.args.var (table m c.high-f_high.result)) c.in_ok-high.ensures.table c.in_ok-high.ensures.fresh))

-- what both branches added
both_add_no_room : (t : ℕ) (c : goal.After-from_residual-in_err-keep t) → Adds c.args.store.now c.exists_from-2.new.store (some_at c.args.var (table c.args.store.now c.args.f))
both_add_no_room t c =
    let d = c.args.store.now in
    let m = c.exists_from.new.store in
    let e = c.exists_from-2.new.store in
    let F : Function = some_at c.args.var (table d c.args.f) in
    adds_then d m e F c.in_ok-high.ensures.keeps
    (some_branch d d m c.requires.sound c.args.var c.args.f c.low-f_low.result c.var-first.result false (omega (arith, c.var-first.ensures.within, c.var-first.ensures.var)) (omega (arith, c.var-first.ensures.var)) c.if-first-var.false
    (keeps_self d) c.low-f_low.ensures.live (λ a. c.low-f_low.ensures.table a ∙ ap (λ y. table d c.args.f (with_at a y false)) (sym c.var-first.ensures.var)) c.in_ok-low.ensures.keeps
    (adds_fresh d m c.in_ok-low.ensures.sound c.in_ok-low.low c.in_ok-low.ensures.live (some_at c.args.var (table d c.low-f_low.result)) c.in_ok-low.ensures.table c.in_ok-low.ensures.fresh))
    (some_branch d m e c.requires.sound c.args.var c.args.f c.high-f_high.result c.var-first.result true (omega (arith, c.var-first.ensures.within, c.var-first.ensures.var)) (omega (arith, c.var-first.ensures.var)) c.if-first-var.false
    c.in_ok-low.ensures.keeps c.high-f_high.ensures.live (λ a. c.high-f_high.ensures.table a ∙ ap (λ y. table d c.args.f (with_at a y true)) (sym c.var-first.ensures.var)) c.in_ok-high.ensures.keeps
    (adds_fresh m e c.in_ok-high.ensures.sound c.in_ok-high.high c.in_ok-high.ensures.live (some_at c.args.var (table m c.high-f_high.result)) c.in_ok-high.ensures.table c.in_ok-high.ensures.fresh))

pub returns-in_err-r-clause-adds : goal.returns-in_err-r-clause-adds
returns-in_err-r-clause-adds t c =
    let d = c.args.store.now in
    let e = c.exists_from-2.new.store in
    let n = c.node_within.new.store in
    let F : Function = some_at c.args.var (table d c.args.f) in
    let op = Exists c.args.f c.args.var in
    on_err c.from_residual-in_err-r.result (Adds d n F) (adds_then d e n F c.in_err-r.ensures.keeps (both_add_no_node t c)
    (adds_same e n F (made e op) (λ a. ap (λ (T : Function). some_at c.args.var T a) (same_table d e (both_keep_no_node t c) c.args.f c.requires.live)) c.in_err-r.ensures.adds))

pub returns-in_err-keep-clause-adds : goal.returns-in_err-keep-clause-adds
returns-in_err-keep-clause-adds t c =
    let d = c.args.store.now in
    let e = c.exists_from-2.new.store in
    let n = c.node_within.new.store in
    let F : Function = some_at c.args.var (table d c.args.f) in
    let op = Exists c.args.f c.args.var in
    on_err c.from_residual-in_err-keep.result (Adds d n F) (adds_then d e n F c.in_ok-r.ensures.keeps (both_add_no_room t c)
    (adds_made e n c.in_ok-r.ensures.sound op c.in_ok-r.r c.in_ok-r.ensures.right F (λ a. ap (λ (T : Function). some_at c.args.var T a) (same_table d n (all_keep_no_room t c) c.args.f c.requires.live)) c.in_ok-r.ensures.fresh))

-- where the variable is the first one, its branches are joined
pub returns-then-first-var-clause-adds : goal.returns-then-first-var-clause-adds
returns-then-first-var-clause-adds t c =
    let d = c.args.store.now in
    let m = c.join_from.new.store in
    let lo = table d c.low-f_low.result in
    let hi = table d c.high-f_high.result in
    let F : Function = some_at c.args.var (table d c.args.f) in
    let G : Function = λ a. joined false (lo a) (hi a) in
    let at = sym c.var-first.ensures.var ∙ c.if-first-var.true in
    err_then c.join_from.result (Adds d m G) (Adds d m F) (adds_same d m F G (λ a.
    ap (λ y. y || hi a) (c.low-f_low.ensures.table a ∙ ap (λ y. table d c.args.f (with_at a y false)) at)
    ∙ ap (λ y. table d c.args.f (with_at a c.args.var false) || y) (c.high-f_high.ensures.table a ∙ ap (λ y. table d c.args.f (with_at a y true)) at))) c.join_from.ensures.adds
