use Rattle.std.proofs.Common.{◌≡◌, inl, inr, ℕ, ◌+◌, ◌-◌, Bool, cond, refl, sym, ap, ◌∙◌, subst, arith, false, true}
use Rattle.memo_table.specs.Results.{same_pair}
use Rattle.bdd_store.specs.Graph.{with_at}
use Rattle.bdd_store.specs.Diagram.{table, first_var, Keeps}
use Rattle.bdd_store.specs.Sure.{IsSure}
use Rattle.bdd_store.proofs.Keeping.{keeps_then, keeps_self}
use Rattle.bdd_ops.specs.Memo.{changed, IsImage, pair_first}
use Rattle.bdd_ops.specs.News.{State, IsFound, News, SamePair, change_of}
use Rattle.bdd_ops.proofs.NewsLaws.{news_none, news_hit, news_err, news_first, news_second, news_later, news_weaken, news_put, found_kept, found_here}
use Rattle.bdd_ops.proofs.MemoLaws.{image_found, same_table, first_within, images_kept, pair_test, holds_kept, holds_same}
use Rattle.bdd_ops.proofs.Tables.{split_at, changed_cond}
use Rattle.bdd_ops.proofs.Recalled.{change_first}
use Rattle.bdd_ops.proofs.Held.{fresh_node}
use denote.Param.{number}
use Rattle.bdd_ops.specs.contracts.change_from.{BACK-type, FLIP-type}
use Rattle.bdd_ops.proofs.+change_from.Given as given
use Rattle.bdd_ops.proofs.+change_from.Goals as goal

-- how far variables move, and whether the value is negated
abbrev back_of : given.Over → ℕ
back_of g = BACK-type (number g.row.BACK) (number g.row.FLIP)

abbrev flip_of : given.Over → Bool
flip_of g = FLIP-type (number g.row.BACK) (number g.row.FLIP)

-- a result that is kept is right
pub returns-in-Some-get-clause-live : goal.returns-in-Some-get-clause-live
returns-in-Some-get-clause-live g t c = (image_found (changed (back_of g) (flip_of g)) (back_of g) c.args.store.now c.args.memo.now (c.args.f, c.args.f) c.in-Some-get.r c.in-Some-get.ensures.value c.requires.memo).live

pub returns-in-Some-get-clause-first : goal.returns-in-Some-get-clause-first
returns-in-Some-get-clause-first g t c = (image_found (changed (back_of g) (flip_of g)) (back_of g) c.args.store.now c.args.memo.now (c.args.f, c.args.f) c.in-Some-get.r c.in-Some-get.ensures.value c.requires.memo).first

pub returns-in-Some-get-clause-table : goal.returns-in-Some-get-clause-table
returns-in-Some-get-clause-table g t c = (image_found (changed (back_of g) (flip_of g)) (back_of g) c.args.store.now c.args.memo.now (c.args.f, c.args.f) c.in-Some-get.r c.in-Some-get.ensures.value c.requires.memo).table

pub returns-in-Some-recall-clause-first : goal.returns-in-Some-recall-clause-first
returns-in-Some-recall-clause-first g t c =
    let d = c.args.store.now in
    let is = c.in-Some-recall.ensures.some d c.requires.known in
    change_first d c.requires.sound c.in-Some-recall.r is.live (back_of g) (flip_of g) c.args.f c.requires.live (λ a. is.table a ∙ c.changing-operation.ensures.made d a)

-- what the store comes to know is right
pub result_node-requires-clause-made : goal.result_node-requires-clause-made
result_node-requires-clause-made g t c a =
    let before = c.args.store.now in
    let middle = c.change_from.new.store in
    let last = c.change_from-2.new.store in
    let v = c.var-var.result in
    let split = split_at (table before c.args.f) (table before c.low-f_low.result) (table before c.high-f_high.result) v
    (λ e. c.low-f_low.ensures.table e ∙ ap (λ y. table before c.args.f (with_at e y false)) (sym c.var-var.ensures.var))
    (λ e. c.high-f_high.ensures.table e ∙ ap (λ y. table before c.args.f (with_at e y true)) (sym c.var-var.ensures.var)) in
    let low_is = c.in_ok-high.ensures.keeps.tables c.in_ok-low.low c.in_ok-low.ensures.live a ∙ c.in_ok-low.ensures.table a in
    let high_is = c.in_ok-high.ensures.table a ∙ ap (λ T. changed (back_of g) (flip_of g) T a) (same_table before middle c.in_ok-low.ensures.keeps c.high-f_high.result c.high-f_high.ensures.live) in
    ap (λ y. cond (a (v - (back_of g))) y (table last c.in_ok-low.low a)) high_is
    ∙ ap (λ y. cond (a (v - (back_of g))) (changed (back_of g) (flip_of g) (table before c.high-f_high.result) a) y) low_is
    ∙ changed_cond (back_of g) (flip_of g) (table before c.args.f) (table before c.high-f_high.result) (table before c.low-f_low.result) v a split
    ∙ ap (λ (T : (ℕ → Bool) → Bool). changed (back_of g) (flip_of g) T a) (sym (same_table before last (keeps_then before middle last c.in_ok-low.ensures.keeps c.in_ok-high.ensures.keeps) c.args.f c.requires.live))
    ∙ sym (c.changing-operation.ensures.made last a)

-- after both branches
both_keep_no_node : (g : given.Over) (t : ℕ) (c : goal.After-from_residual-in_err-r g t) → Keeps c.args.store.now c.change_from-2.new.store
both_keep_no_node g t c = keeps_then c.args.store.now c.change_from.new.store c.change_from-2.new.store c.in_ok-low.ensures.keeps c.in_ok-high.ensures.keeps

all_keep_no_node : (g : given.Over) (t : ℕ) (c : goal.After-from_residual-in_err-r g t) → Keeps c.args.store.now c.result_node.new.store
all_keep_no_node g t c = keeps_then c.args.store.now c.change_from-2.new.store c.result_node.new.store (both_keep_no_node g t c) c.in_err-r.ensures.keeps

pub returns-in_err-r-clause-keeps : goal.returns-in_err-r-clause-keeps
returns-in_err-r-clause-keeps g t c = all_keep_no_node g t c

pub returns-in_err-r-clause-memo : goal.returns-in_err-r-clause-memo
returns-in_err-r-clause-memo g t c = images_kept (changed (back_of g) (flip_of g)) (back_of g) c.change_from-2.new.store c.result_node.new.store c.change_from-2.new.memo c.in_err-r.ensures.keeps c.in_ok-high.ensures.memo

-- after both branches
both_keep_no_room : (g : given.Over) (t : ℕ) (c : goal.After-from_residual-in_err-keep g t) → Keeps c.args.store.now c.change_from-2.new.store
both_keep_no_room g t c = keeps_then c.args.store.now c.change_from.new.store c.change_from-2.new.store c.in_ok-low.ensures.keeps c.in_ok-high.ensures.keeps

all_keep_no_room : (g : given.Over) (t : ℕ) (c : goal.After-from_residual-in_err-keep g t) → Keeps c.args.store.now c.result_node.new.store
all_keep_no_room g t c = keeps_then c.args.store.now c.change_from-2.new.store c.result_node.new.store (both_keep_no_room g t c) c.in_ok-r.ensures.keeps

pub returns-in_err-keep-clause-keeps : goal.returns-in_err-keep-clause-keeps
returns-in_err-keep-clause-keeps g t c = all_keep_no_room g t c

pub returns-in_err-keep-clause-memo : goal.returns-in_err-keep-clause-memo
returns-in_err-keep-clause-memo g t c =
    holds_same same_pair pair_test (IsImage (changed (back_of g) (flip_of g)) (back_of g) c.result_node.new.store) c.change_from-2.new.memo c.keep.new.memo c.in_err-keep.ensures.err
    (images_kept (changed (back_of g) (flip_of g)) (back_of g) c.change_from-2.new.store c.result_node.new.store c.change_from-2.new.memo c.in_ok-r.ensures.keeps c.in_ok-high.ensures.memo)

-- after both branches
both_keep_done : (g : given.Over) (t : ℕ) (c : goal.In_ok-keep g t) → Keeps c.args.store.now c.change_from-2.new.store
both_keep_done g t c = keeps_then c.args.store.now c.change_from.new.store c.change_from-2.new.store c.in_ok-low.ensures.keeps c.in_ok-high.ensures.keeps

all_keep_done : (g : given.Over) (t : ℕ) (c : goal.In_ok-keep g t) → Keeps c.args.store.now c.result_node.new.store
all_keep_done g t c = keeps_then c.args.store.now c.change_from-2.new.store c.result_node.new.store (both_keep_done g t c) c.in_ok-r.ensures.keeps

pub returns-clause-keeps : goal.returns-clause-keeps
returns-clause-keeps g t c = all_keep_done g t c

pub returns-clause-fresh : goal.returns-clause-fresh
returns-clause-fresh g t c =
    fresh_node c.args.store.now c.change_from.new.store c.change_from-2.new.store c.result_node.new.store c.in_ok-low.low c.in_ok-high.high c.in_ok-r.r
    c.in_ok-low.ensures.fresh c.in_ok-high.ensures.fresh c.in_ok-high.ensures.keeps c.in_ok-low.ensures.live c.in_ok-r.ensures.fresh c.in_ok-r.ensures.reached

-- the table of the new result
table_done : (g : given.Over) (t : ℕ) (c : goal.In_ok-keep g t) (a : ℕ → Bool) → table c.result_node.new.store c.in_ok-r.r a ≡ changed (back_of g) (flip_of g) (table c.args.store.now c.args.f) a
table_done g t c a =
    let before = c.args.store.now in
    let middle = c.change_from.new.store in
    let last = c.change_from-2.new.store in
    let v = c.var-var.result in
    let split = split_at (table before c.args.f) (table before c.low-f_low.result) (table before c.high-f_high.result) v
    (λ e. c.low-f_low.ensures.table e ∙ ap (λ y. table before c.args.f (with_at e y false)) (sym c.var-var.ensures.var))
    (λ e. c.high-f_high.ensures.table e ∙ ap (λ y. table before c.args.f (with_at e y true)) (sym c.var-var.ensures.var)) in
    let low_is = c.in_ok-high.ensures.keeps.tables c.in_ok-low.low c.in_ok-low.ensures.live a ∙ c.in_ok-low.ensures.table a in
    let high_is = c.in_ok-high.ensures.table a ∙ ap (λ T. changed (back_of g) (flip_of g) T a) (same_table before middle c.in_ok-low.ensures.keeps c.high-f_high.result c.high-f_high.ensures.live) in
    c.in_ok-r.ensures.table a
    ∙ ap (λ y. cond (a (v - (back_of g))) y (table last c.in_ok-low.low a)) high_is
    ∙ ap (λ y. cond (a (v - (back_of g))) (changed (back_of g) (flip_of g) (table before c.high-f_high.result) a) y) low_is
    ∙ changed_cond (back_of g) (flip_of g) (table before c.args.f) (table before c.high-f_high.result) (table before c.low-f_low.result) v a split

pub returns-clause-table : goal.returns-clause-table
returns-clause-table g t c = table_done g t c

-- the new result is right
answer_done : (g : given.Over) (t : ℕ) (c : goal.In_ok-keep g t) → IsImage (changed (back_of g) (flip_of g)) (back_of g) c.result_node.new.store (c.args.f, c.args.f) c.in_ok-r.r
answer_done g t c =
    let keeps = all_keep_done g t c in
    let f_first = keeps.firsts c.args.f c.requires.live in
    record {
      twice = refl;
      from_live = keeps.live c.args.f c.requires.live;
      from_proper = omega (arith, f_first, keeps.vars, c.var-var.ensures.within, c.var-var.ensures.var);
      live = c.in_ok-r.ensures.live;
      first = omega (arith, c.in_ok-r.ensures.first, c.var-var.ensures.var, f_first);
      table = λ a. table_done g t c a ∙ ap (λ T. changed (back_of g) (flip_of g) T a) (sym (same_table c.args.store.now c.result_node.new.store keeps c.args.f c.requires.live));
    }

pub returns-clause-memo : goal.returns-clause-memo
returns-clause-memo g t c =
    holds_kept same_pair pair_test (IsImage (changed (back_of g) (flip_of g)) (back_of g) c.result_node.new.store) c.change_from-2.new.memo c.keep.new.memo (c.args.f, c.args.f) c.in_ok-r.r c.in_ok-keep.ensures.memo
    (images_kept (changed (back_of g) (flip_of g)) (back_of g) c.change_from-2.new.store c.result_node.new.store c.change_from-2.new.memo c.in_ok-r.ensures.keeps c.in_ok-high.ensures.memo) (answer_done g t c)

pub returns-in-Some-clause-first : goal.returns-in-Some-clause-first
returns-in-Some-clause-first g t c = let within = first_within c.args.store.now c.args.f c.requires.live in omega (arith, within, c.constant.ensures.first)

pub returns-clause-known : goal.returns-clause-known
returns-clause-known g t c = c.in_ok-keep.ensures.right c.result_node.new.store (c.in_ok-r.ensures.known c.change_from-2.new.known c.in_ok-high.ensures.known) c.in_ok-r.ensures.right

pub returns-in_err-keep-clause-known : goal.returns-in_err-keep-clause-known
returns-in_err-keep-clause-known g t c = c.in_err-keep.ensures.right c.result_node.new.store (c.in_ok-r.ensures.known c.change_from-2.new.known c.in_ok-high.ensures.known) c.in_ok-r.ensures.right

pub returns-in_err-low-clause-news : goal.returns-in_err-low-clause-news
returns-in_err-low-clause-news g t c =
    let d = c.args.store.now in
    let op = change_of (flip_of g) in
    let f = c.args.f in
    let fl = c.low-f_low.result in
    let fh = c.high-f_high.result in
    let before : State = (d, (c.args.known.now, c.args.memo.now)) in
    let first : State = (c.change_from.new.store, (c.change_from.new.known, c.change_from.new.memo)) in
    news_err op SamePair c.args.turn c.from_residual.result c.from_residual.ensures.0 before first f f (first_var d f) (news_weaken op SamePair c.args.turn before first f f (first_var d f + 1) (first_var d f) 1 (omega arith)
    (news_first op SamePair c.args.turn before first f f fl fl _ (first_var d f + 1) 1 (keeps_self d) (omega (arith, c.low-f_low.ensures.first))
    (λ a live down. c.low-f_low.ensures.reached a live down) (λ a live down. c.low-f_low.ensures.reached a live down) c.in_err-low.ensures.news))

pub returns-in_err-high-clause-news : goal.returns-in_err-high-clause-news
returns-in_err-high-clause-news g t c =
    let d = c.args.store.now in
    let op = change_of (flip_of g) in
    let f = c.args.f in
    let fl = c.low-f_low.result in
    let fh = c.high-f_high.result in
    let before : State = (d, (c.args.known.now, c.args.memo.now)) in
    let first : State = (c.change_from.new.store, (c.change_from.new.known, c.change_from.new.memo)) in
    let second : State = (c.change_from-2.new.store, (c.change_from-2.new.known, c.change_from-2.new.memo)) in
    let keeps = c.in_ok-low.ensures.keeps in
    let low = news_first op SamePair c.args.turn before first f f fl fl _ (first_var d f + 1) 0 (keeps_self d) (omega (arith, c.low-f_low.ensures.first))
    (λ a live down. c.low-f_low.ensures.reached a live down) (λ a live down. c.low-f_low.ensures.reached a live down) c.in_ok-low.ensures.news in
    news_err op SamePair c.args.turn c.from_residual-in_err-high.result c.from_residual-in_err-high.ensures.0 before second f f (first_var d f) (news_weaken op SamePair c.args.turn before second f f (first_var d f + 1) (first_var d f) 1 (omega arith)
    (news_second op SamePair c.args.turn before first second f f fh fh _ (first_var d f + 1) 0 1 keeps c.in_err-high.ensures.keeps
    (omega (arith, c.high-f_high.ensures.first, keeps.firsts fh c.high-f_high.ensures.live))
    (λ a live down. keeps.reached a fh live c.high-f_high.ensures.live (c.high-f_high.ensures.reached a live down))
    (λ a live down. keeps.reached a fh live c.high-f_high.ensures.live (c.high-f_high.ensures.reached a live down)) low c.in_err-high.ensures.news))

-- the news of both branches
both_news_no_node : (g : given.Over) (t : ℕ) (c : goal.After-from_residual-in_err-r g t) → News (change_of (flip_of g)) SamePair c.args.turn (c.args.store.now, (c.args.known.now, c.args.memo.now)) (c.change_from-2.new.store, (c.change_from-2.new.known, c.change_from-2.new.memo)) c.args.f c.args.f (first_var c.args.store.now c.args.f + 1) 0
both_news_no_node g t c =
    let d = c.args.store.now in
    let op = change_of (flip_of g) in
    let f = c.args.f in
    let fl = c.low-f_low.result in
    let fh = c.high-f_high.result in
    let before : State = (d, (c.args.known.now, c.args.memo.now)) in
    let first : State = (c.change_from.new.store, (c.change_from.new.known, c.change_from.new.memo)) in
    let second : State = (c.change_from-2.new.store, (c.change_from-2.new.known, c.change_from-2.new.memo)) in
    let keeps = c.in_ok-low.ensures.keeps in
    let low = news_first op SamePair c.args.turn before first f f fl fl _ (first_var d f + 1) 0 (keeps_self d) (omega (arith, c.low-f_low.ensures.first))
    (λ a live down. c.low-f_low.ensures.reached a live down) (λ a live down. c.low-f_low.ensures.reached a live down) c.in_ok-low.ensures.news in
    news_second op SamePair c.args.turn before first second f f fh fh _ (first_var d f + 1) 0 0 keeps c.in_ok-high.ensures.keeps
    (omega (arith, c.high-f_high.ensures.first, keeps.firsts fh c.high-f_high.ensures.live))
    (λ a live down. keeps.reached a fh live c.high-f_high.ensures.live (c.high-f_high.ensures.reached a live down))
    (λ a live down. keeps.reached a fh live c.high-f_high.ensures.live (c.high-f_high.ensures.reached a live down)) low c.in_ok-high.ensures.news

pub returns-in_err-r-clause-news : goal.returns-in_err-r-clause-news
returns-in_err-r-clause-news g t c =
    let d = c.args.store.now in
    let op = change_of (flip_of g) in
    let f = c.args.f in
    let before : State = (d, (c.args.known.now, c.args.memo.now)) in
    let second : State = (c.change_from-2.new.store, (c.change_from-2.new.known, c.change_from-2.new.memo)) in
    let last : State = (c.result_node.new.store, (c.change_from-2.new.known, c.change_from-2.new.memo)) in
    news_err op SamePair c.args.turn c.from_residual-in_err-r.result c.from_residual-in_err-r.ensures.0 before last f f (first_var d f) (news_weaken op SamePair c.args.turn before last f f (first_var d f + 1) (first_var d f) 1 (omega arith)
    (news_later op SamePair c.args.turn before second last f f (first_var d f + 1) 0 1 (both_keep_no_node g t c) c.in_err-r.ensures.keeps (λ p found. found) (omega (arith, c.in_err-r.ensures.calls)) (both_news_no_node g t c)))

-- the news of both branches
both_news_no_room : (g : given.Over) (t : ℕ) (c : goal.After-from_residual-in_err-keep g t) → News (change_of (flip_of g)) SamePair c.args.turn (c.args.store.now, (c.args.known.now, c.args.memo.now)) (c.change_from-2.new.store, (c.change_from-2.new.known, c.change_from-2.new.memo)) c.args.f c.args.f (first_var c.args.store.now c.args.f + 1) 0
both_news_no_room g t c =
    let d = c.args.store.now in
    let op = change_of (flip_of g) in
    let f = c.args.f in
    let fl = c.low-f_low.result in
    let fh = c.high-f_high.result in
    let before : State = (d, (c.args.known.now, c.args.memo.now)) in
    let first : State = (c.change_from.new.store, (c.change_from.new.known, c.change_from.new.memo)) in
    let second : State = (c.change_from-2.new.store, (c.change_from-2.new.known, c.change_from-2.new.memo)) in
    let keeps = c.in_ok-low.ensures.keeps in
    let low = news_first op SamePair c.args.turn before first f f fl fl _ (first_var d f + 1) 0 (keeps_self d) (omega (arith, c.low-f_low.ensures.first))
    (λ a live down. c.low-f_low.ensures.reached a live down) (λ a live down. c.low-f_low.ensures.reached a live down) c.in_ok-low.ensures.news in
    news_second op SamePair c.args.turn before first second f f fh fh _ (first_var d f + 1) 0 0 keeps c.in_ok-high.ensures.keeps
    (omega (arith, c.high-f_high.ensures.first, keeps.firsts fh c.high-f_high.ensures.live))
    (λ a live down. keeps.reached a fh live c.high-f_high.ensures.live (c.high-f_high.ensures.reached a live down))
    (λ a live down. keeps.reached a fh live c.high-f_high.ensures.live (c.high-f_high.ensures.reached a live down)) low c.in_ok-high.ensures.news

pub returns-in_err-keep-clause-news : goal.returns-in_err-keep-clause-news
returns-in_err-keep-clause-news g t c =
    let d = c.args.store.now in
    let op = change_of (flip_of g) in
    let f = c.args.f in
    let before : State = (d, (c.args.known.now, c.args.memo.now)) in
    let second : State = (c.change_from-2.new.store, (c.change_from-2.new.known, c.change_from-2.new.memo)) in
    let last : State = (c.result_node.new.store, (c.keep.new.known, c.keep.new.memo)) in
    news_err op SamePair c.args.turn c.from_residual-in_err-keep.result c.from_residual-in_err-keep.ensures.0 before last f f (first_var d f) (news_weaken op SamePair c.args.turn before last f f (first_var d f + 1) (first_var d f) 1 (omega arith)
    (news_later op SamePair c.args.turn before second last f f (first_var d f + 1) 0 1 (both_keep_no_room g t c) c.in_ok-r.ensures.keeps
    (found_kept op c.args.turn second last (f, f) c.in_ok-r.r c.in_err-keep.ensures.sure c.in_err-keep.ensures.memo) (omega (arith, c.in_ok-r.ensures.calls)) (both_news_no_room g t c)))

-- the news of both branches
both_news_done : (g : given.Over) (t : ℕ) (c : goal.In_ok-keep g t) → News (change_of (flip_of g)) SamePair c.args.turn (c.args.store.now, (c.args.known.now, c.args.memo.now)) (c.change_from-2.new.store, (c.change_from-2.new.known, c.change_from-2.new.memo)) c.args.f c.args.f (first_var c.args.store.now c.args.f + 1) 0
both_news_done g t c =
    let d = c.args.store.now in
    let op = change_of (flip_of g) in
    let f = c.args.f in
    let fl = c.low-f_low.result in
    let fh = c.high-f_high.result in
    let before : State = (d, (c.args.known.now, c.args.memo.now)) in
    let first : State = (c.change_from.new.store, (c.change_from.new.known, c.change_from.new.memo)) in
    let second : State = (c.change_from-2.new.store, (c.change_from-2.new.known, c.change_from-2.new.memo)) in
    let keeps = c.in_ok-low.ensures.keeps in
    let low = news_first op SamePair c.args.turn before first f f fl fl _ (first_var d f + 1) 0 (keeps_self d) (omega (arith, c.low-f_low.ensures.first))
    (λ a live down. c.low-f_low.ensures.reached a live down) (λ a live down. c.low-f_low.ensures.reached a live down) c.in_ok-low.ensures.news in
    news_second op SamePair c.args.turn before first second f f fh fh _ (first_var d f + 1) 0 0 keeps c.in_ok-high.ensures.keeps
    (omega (arith, c.high-f_high.ensures.first, keeps.firsts fh c.high-f_high.ensures.live))
    (λ a live down. keeps.reached a fh live c.high-f_high.ensures.live (c.high-f_high.ensures.reached a live down))
    (λ a live down. keeps.reached a fh live c.high-f_high.ensures.live (c.high-f_high.ensures.reached a live down)) low c.in_ok-high.ensures.news

pub returns-clause-news : goal.returns-clause-news
returns-clause-news g t c =
    let d = c.args.store.now in
    let op = change_of (flip_of g) in
    let f = c.args.f in
    let before : State = (d, (c.args.known.now, c.args.memo.now)) in
    let second : State = (c.change_from-2.new.store, (c.change_from-2.new.known, c.change_from-2.new.memo)) in
    let last : State = (c.result_node.new.store, (c.keep.new.known, c.keep.new.memo)) in
    let is = c.changing-operation.ensures.is in
    let absent : IsFound op c.args.turn before (f, f) → ⊥ = λ found. elim found [
      | inl sure ↦ c.in-None.ensures.none c.args.turn (subst (IsSure c.args.known.now c.args.turn) (sym is) sure)
      | inr some ↦ some (sym c.in-None-get.ensures.value)
    ] in
    let found : IsFound op c.args.turn last (f, f) = elim c.in_ok-keep.ensures.found [
      | inl sure ↦ inl (subst (IsSure c.keep.new.known c.args.turn) is sure)
      | inr put ↦ inr (found_here c.change_from-2.new.memo c.keep.new.memo (f, f) c.in_ok-r.r put)
    ] in
    let first : pair_first d (f, f) ≡ first_var d f = omega arith in
    news_put op SamePair c.args.turn before second last f f (first_var d f + 1) (first_var d f) (both_keep_done g t c) c.in_ok-r.ensures.keeps
    (found_kept op c.args.turn second last (f, f) c.in_ok-r.r c.in_ok-keep.ensures.sure c.in_ok-keep.ensures.memo) (omega (arith, c.in_ok-r.ensures.calls))
    (omega arith) c.requires.live c.requires.live (omega (arith, c.var-var.ensures.within, c.var-var.ensures.var)) (omega (arith, c.var-var.ensures.within, c.var-var.ensures.var)) first refl absent found (both_news_done g t c)

pub returns-in-Some-clause-news : goal.returns-in-Some-clause-news
returns-in-Some-clause-news g t c = news_none (change_of (flip_of g)) SamePair c.args.turn _ _ c.args.f c.args.f _ 0 (λ p found. found) (omega arith)

pub returns-in-Some-get-clause-news : goal.returns-in-Some-get-clause-news
returns-in-Some-get-clause-news g t c = news_none (change_of (flip_of g)) SamePair c.args.turn _ _ c.args.f c.args.f _ 0 (λ p found. found) (omega arith)

pub returns-in-Some-recall-clause-news : goal.returns-in-Some-recall-clause-news
returns-in-Some-recall-clause-news g t c = news_hit (change_of (flip_of g)) SamePair c.args.turn c.args.store.now c.args.known.now c.note_hit.new.self c.args.memo.now c.args.f c.args.f _ c.note_hit.ensures
