use Rattle.std.proofs.Common.{◌≡◌, true, false, refl, inl, inr, ℕ, ◌+◌, Bool, min, sym, ap, ◌∙◌, subst, arith}
use Rattle.memo_table.specs.Results.{same_pair}
use Rattle.bdd_store.specs.Diagram.{table, first_var, Keeps}
use Rattle.bdd_store.specs.Sure.{IsSure}
use Rattle.bdd_store.specs.Results.{made}
use Rattle.bdd_store.proofs.Keeping.{keeps_then, keeps_self}
use Rattle.bdd_ops.specs.Memo.{joined, IsJoin}
use Rattle.bdd_ops.specs.News.{State, IsFound, News, AnyPair, join_of}
use Rattle.bdd_ops.proofs.NewsLaws.{news_none, news_hit, news_err, news_first, news_second, news_later, news_weaken, news_put, found_kept, found_here}
use Rattle.bdd_ops.proofs.MemoLaws.{join_found, joins_kept, pair_test, holds_kept, holds_same}
use Rattle.bdd_ops.proofs.Recalled.{join_first, join_made, join_later}
use Rattle.bdd_ops.proofs.Held.{fresh_node}
use Rattle.bdd_ops.specs.Functions.{Function}
use Rattle.bdd_ops.specs.Grown.{Adds}
use Rattle.bdd_ops.proofs.Grown.{adds_fresh, adds_then, adds_same, adds_made, join_branch, on_err}
use denote.Param.{number}
use Rattle.bdd_ops.specs.contracts.join_from.{UNIT-type}
use Rattle.bdd_ops.proofs.+join_from.Given as given
use Rattle.bdd_ops.proofs.+join_from.Goals as goal

-- the value that is neutral
abbrev unit_of : given.Over → Bool
unit_of g = UNIT-type (number g.row.UNIT)

-- a result that is kept is right
pub returns-in-Some-get-clause-live : goal.returns-in-Some-get-clause-live
returns-in-Some-get-clause-live g t c = (join_found (unit_of g) c.args.store.now c.args.memo.now (c.args.f, c.args.g) c.in-Some-get.r c.in-Some-get.ensures.value c.requires.memo).live

pub returns-in-Some-get-clause-first : goal.returns-in-Some-get-clause-first
returns-in-Some-get-clause-first g t c = (join_found (unit_of g) c.args.store.now c.args.memo.now (c.args.f, c.args.g) c.in-Some-get.r c.in-Some-get.ensures.value c.requires.memo).first

pub returns-in-Some-get-clause-table : goal.returns-in-Some-get-clause-table
returns-in-Some-get-clause-table g t c = (join_found (unit_of g) c.args.store.now c.args.memo.now (c.args.f, c.args.g) c.in-Some-get.r c.in-Some-get.ensures.value c.requires.memo).table

pub returns-in-Some-recall-clause-first : goal.returns-in-Some-recall-clause-first
returns-in-Some-recall-clause-first g t c =
    let d = c.args.store.now in
    let is = c.in-Some-recall.ensures.some d c.requires.known in
    join_first d c.requires.sound c.in-Some-recall.r is.live (unit_of g) c.args.f c.args.g c.requires.f_live (λ a. is.table a ∙ c.joining-operation.ensures.made d a)

-- what the store comes to know is right
pub node_within-requires-clause-made : goal.node_within-requires-clause-made
node_within-requires-clause-made g t c a =
    let before = c.args.store.now in
    let middle = c.join_from.new.store in
    let last = c.join_from-2.new.store in
    let unit = unit_of g in
    join_made unit c.min-var.result (table before c.args.f) (table before c.args.g) (table before c.split.result.0) (table before c.split.result.1) (table before c.split-2.result.0) (table before c.split-2.result.1) (table last c.in_ok-low.low) (table last c.in_ok-high.high)
    c.split.ensures.low_table c.split.ensures.high_table c.split-2.ensures.low_table c.split-2.ensures.high_table
    (λ e. c.in_ok-high.ensures.keeps.tables c.in_ok-low.low c.in_ok-low.ensures.live e ∙ c.in_ok-low.ensures.table e)
    (λ e. c.in_ok-high.ensures.table e ∙ sym (join_later unit before middle c.in_ok-low.ensures.keeps c.split.result.1 c.split-2.result.1 c.split.ensures.high_live c.split-2.ensures.high_live e)) a
    ∙ join_later unit before last (keeps_then before middle last c.in_ok-low.ensures.keeps c.in_ok-high.ensures.keeps) c.args.f c.args.g c.requires.f_live c.requires.g_live a
    ∙ sym (c.joining-operation.ensures.made last a)

-- after both branches
both_keep_no_node : (g : given.Over) (t : ℕ) (c : goal.After-from_residual-in_err-r g t) → Keeps c.args.store.now c.join_from-2.new.store
both_keep_no_node g t c = keeps_then c.args.store.now c.join_from.new.store c.join_from-2.new.store c.in_ok-low.ensures.keeps c.in_ok-high.ensures.keeps

all_keep_no_node : (g : given.Over) (t : ℕ) (c : goal.After-from_residual-in_err-r g t) → Keeps c.args.store.now c.node_within.new.store
all_keep_no_node g t c = keeps_then c.args.store.now c.join_from-2.new.store c.node_within.new.store (both_keep_no_node g t c) c.in_err-r.ensures.keeps

pub returns-in_err-r-clause-keeps : goal.returns-in_err-r-clause-keeps
returns-in_err-r-clause-keeps g t c = all_keep_no_node g t c

pub returns-in_err-r-clause-memo : goal.returns-in_err-r-clause-memo
returns-in_err-r-clause-memo g t c = joins_kept (unit_of g) c.join_from-2.new.store c.node_within.new.store c.join_from-2.new.memo c.in_err-r.ensures.keeps c.in_ok-high.ensures.memo

-- after both branches
both_keep_no_room : (g : given.Over) (t : ℕ) (c : goal.After-from_residual-in_err-keep g t) → Keeps c.args.store.now c.join_from-2.new.store
both_keep_no_room g t c = keeps_then c.args.store.now c.join_from.new.store c.join_from-2.new.store c.in_ok-low.ensures.keeps c.in_ok-high.ensures.keeps

all_keep_no_room : (g : given.Over) (t : ℕ) (c : goal.After-from_residual-in_err-keep g t) → Keeps c.args.store.now c.node_within.new.store
all_keep_no_room g t c = keeps_then c.args.store.now c.join_from-2.new.store c.node_within.new.store (both_keep_no_room g t c) c.in_ok-r.ensures.keeps

pub returns-in_err-keep-clause-keeps : goal.returns-in_err-keep-clause-keeps
returns-in_err-keep-clause-keeps g t c = all_keep_no_room g t c

pub returns-in_err-keep-clause-memo : goal.returns-in_err-keep-clause-memo
returns-in_err-keep-clause-memo g t c =
    holds_same same_pair pair_test (IsJoin (unit_of g) c.node_within.new.store) c.join_from-2.new.memo c.keep.new.memo c.in_err-keep.ensures.err
    (joins_kept (unit_of g) c.join_from-2.new.store c.node_within.new.store c.join_from-2.new.memo c.in_ok-r.ensures.keeps c.in_ok-high.ensures.memo)

-- after both branches
both_keep_done : (g : given.Over) (t : ℕ) (c : goal.In_ok-keep g t) → Keeps c.args.store.now c.join_from-2.new.store
both_keep_done g t c = keeps_then c.args.store.now c.join_from.new.store c.join_from-2.new.store c.in_ok-low.ensures.keeps c.in_ok-high.ensures.keeps

all_keep_done : (g : given.Over) (t : ℕ) (c : goal.In_ok-keep g t) → Keeps c.args.store.now c.node_within.new.store
all_keep_done g t c = keeps_then c.args.store.now c.join_from-2.new.store c.node_within.new.store (both_keep_done g t c) c.in_ok-r.ensures.keeps

pub returns-clause-keeps : goal.returns-clause-keeps
returns-clause-keeps g t c = all_keep_done g t c

-- the table of the new result
table_done : (g : given.Over) (t : ℕ) (c : goal.In_ok-keep g t) (a : ℕ → Bool) → table c.node_within.new.store c.in_ok-r.r a ≡ joined (unit_of g) (table c.args.store.now c.args.f a) (table c.args.store.now c.args.g a)
table_done g t c a =
    let before = c.args.store.now in
    let middle = c.join_from.new.store in
    let last = c.join_from-2.new.store in
    let unit = unit_of g in
    c.in_ok-r.ensures.table a
    ∙ join_made unit c.min-var.result (table before c.args.f) (table before c.args.g) (table before c.split.result.0) (table before c.split.result.1) (table before c.split-2.result.0) (table before c.split-2.result.1) (table last c.in_ok-low.low) (table last c.in_ok-high.high)
    c.split.ensures.low_table c.split.ensures.high_table c.split-2.ensures.low_table c.split-2.ensures.high_table
    (λ e. c.in_ok-high.ensures.keeps.tables c.in_ok-low.low c.in_ok-low.ensures.live e ∙ c.in_ok-low.ensures.table e)
    (λ e. c.in_ok-high.ensures.table e ∙ sym (join_later unit before middle c.in_ok-low.ensures.keeps c.split.result.1 c.split-2.result.1 c.split.ensures.high_live c.split-2.ensures.high_live e)) a

pub returns-clause-table : goal.returns-clause-table
returns-clause-table g t c = table_done g t c

pub returns-clause-fresh : goal.returns-clause-fresh
returns-clause-fresh g t c =
    fresh_node c.args.store.now c.join_from.new.store c.join_from-2.new.store c.node_within.new.store c.in_ok-low.low c.in_ok-high.high c.in_ok-r.r
    c.in_ok-low.ensures.fresh c.in_ok-high.ensures.fresh c.in_ok-high.ensures.keeps c.in_ok-low.ensures.live c.in_ok-r.ensures.fresh c.in_ok-r.ensures.reached

-- the new result is right
answer_done : (g : given.Over) (t : ℕ) (c : goal.In_ok-keep g t) → IsJoin (unit_of g) c.node_within.new.store (c.args.f, c.args.g) c.in_ok-r.r
answer_done g t c =
    let keeps = all_keep_done g t c in
    let f_first = keeps.firsts c.args.f c.requires.f_live in
    let g_first = keeps.firsts c.args.g c.requires.g_live in
    let vars = keeps.vars in
    record {
      first_live = keeps.live c.args.f c.requires.f_live;
      second_live = keeps.live c.args.g c.requires.g_live;
      first_proper = omega (arith, f_first, vars, c.var-f_var.ensures.within, c.var-f_var.ensures.var);
      second_proper = omega (arith, g_first, vars, c.var-g_var.ensures.within, c.var-g_var.ensures.var);
      live = c.in_ok-r.ensures.live;
      first = omega (arith, c.in_ok-r.ensures.first, c.min-var.ensures, c.var-f_var.ensures.var, c.var-g_var.ensures.var, f_first, g_first);
      table = λ a. table_done g t c a ∙ ap (λ y. joined (unit_of g) y (table c.args.store.now c.args.g a)) (sym (keeps.tables c.args.f c.requires.f_live a)) ∙ ap (λ y. joined (unit_of g) (table c.node_within.new.store c.args.f a) y) (sym (keeps.tables c.args.g c.requires.g_live a));
    }

pub returns-clause-memo : goal.returns-clause-memo
returns-clause-memo g t c =
    holds_kept same_pair pair_test (IsJoin (unit_of g) c.node_within.new.store) c.join_from-2.new.memo c.keep.new.memo (c.args.f, c.args.g) c.in_ok-r.r c.in_ok-keep.ensures.memo
    (joins_kept (unit_of g) c.join_from-2.new.store c.node_within.new.store c.join_from-2.new.memo c.in_ok-r.ensures.keeps c.in_ok-high.ensures.memo) (answer_done g t c)

pub returns-clause-known : goal.returns-clause-known
returns-clause-known g t c = c.in_ok-keep.ensures.right c.node_within.new.store (c.in_ok-r.ensures.known c.join_from-2.new.known c.in_ok-high.ensures.known) c.in_ok-r.ensures.right

pub returns-in_err-keep-clause-known : goal.returns-in_err-keep-clause-known
returns-in_err-keep-clause-known g t c = c.in_err-keep.ensures.right c.node_within.new.store (c.in_ok-r.ensures.known c.join_from-2.new.known c.in_ok-high.ensures.known) c.in_ok-r.ensures.right

pub returns-in_err-low-clause-news : goal.returns-in_err-low-clause-news
returns-in_err-low-clause-news g t c =
    let d = c.args.store.now in
    let before : State = (d, (c.args.known.now, c.args.memo.now)) in
    let first : State = (c.join_from.new.store, (c.join_from.new.known, c.join_from.new.memo)) in
    news_err (join_of (unit_of g)) AnyPair c.args.turn c.from_residual.result c.from_residual.ensures.0 before first c.args.f c.args.g (min (first_var d c.args.f) (first_var d c.args.g)) (news_first (join_of (unit_of g)) AnyPair c.args.turn before first c.args.f c.args.g c.split.result.0 c.split-2.result.0 _ (min (first_var d c.args.f) (first_var d c.args.g)) 1 (keeps_self d)
    (omega (arith, c.split.ensures.low_later, c.split-2.ensures.low_later))
    (λ a live down. c.split.ensures.low_reached a live down) (λ a live down. c.split-2.ensures.low_reached a live down) c.in_err-low.ensures.news)

pub returns-in_err-high-clause-news : goal.returns-in_err-high-clause-news
returns-in_err-high-clause-news g t c =
    let d = c.args.store.now in
    let op = join_of (unit_of g) in
    let keeps = c.in_ok-low.ensures.keeps in
    let before : State = (d, (c.args.known.now, c.args.memo.now)) in
    let first : State = (c.join_from.new.store, (c.join_from.new.known, c.join_from.new.memo)) in
    let second : State = (c.join_from-2.new.store, (c.join_from-2.new.known, c.join_from-2.new.memo)) in
    let low = news_first op AnyPair c.args.turn before first c.args.f c.args.g c.split.result.0 c.split-2.result.0 _ (min (first_var d c.args.f) (first_var d c.args.g)) 0 (keeps_self d)
    (omega (arith, c.split.ensures.low_later, c.split-2.ensures.low_later))
    (λ a live down. c.split.ensures.low_reached a live down) (λ a live down. c.split-2.ensures.low_reached a live down) c.in_ok-low.ensures.news in
    news_err op AnyPair c.args.turn c.from_residual-in_err-high.result c.from_residual-in_err-high.ensures.0 before second c.args.f c.args.g (min (first_var d c.args.f) (first_var d c.args.g)) (news_second op AnyPair c.args.turn before first second c.args.f c.args.g c.split.result.1 c.split-2.result.1 _ (min (first_var d c.args.f) (first_var d c.args.g)) 0 1 keeps c.in_err-high.ensures.keeps
    (omega (arith, c.split.ensures.high_later, c.split-2.ensures.high_later, keeps.firsts c.split.result.1 c.split.ensures.high_live, keeps.firsts c.split-2.result.1 c.split-2.ensures.high_live))
    (λ a live down. keeps.reached a c.split.result.1 live c.split.ensures.high_live (c.split.ensures.high_reached a live down))
    (λ a live down. keeps.reached a c.split-2.result.1 live c.split-2.ensures.high_live (c.split-2.ensures.high_reached a live down)) low c.in_err-high.ensures.news)

-- the news of both branches
both_news_no_node : (g : given.Over) (t : ℕ) (c : goal.After-from_residual-in_err-r g t) → News (join_of (unit_of g)) AnyPair c.args.turn (c.args.store.now, (c.args.known.now, c.args.memo.now)) (c.join_from-2.new.store, (c.join_from-2.new.known, c.join_from-2.new.memo)) c.args.f c.args.g (c.min-var.result + 1) 0
both_news_no_node g t c =
    let d = c.args.store.now in
    let op = join_of (unit_of g) in
    let keeps = c.in_ok-low.ensures.keeps in
    let before : State = (d, (c.args.known.now, c.args.memo.now)) in
    let first : State = (c.join_from.new.store, (c.join_from.new.known, c.join_from.new.memo)) in
    let second : State = (c.join_from-2.new.store, (c.join_from-2.new.known, c.join_from-2.new.memo)) in
    let low = news_first op AnyPair c.args.turn before first c.args.f c.args.g c.split.result.0 c.split-2.result.0 _ (c.min-var.result + 1) 0 (keeps_self d)
    (omega (arith, c.split.ensures.low_first, c.split-2.ensures.low_first))
    (λ a live down. c.split.ensures.low_reached a live down) (λ a live down. c.split-2.ensures.low_reached a live down) c.in_ok-low.ensures.news in
    news_second op AnyPair c.args.turn before first second c.args.f c.args.g c.split.result.1 c.split-2.result.1 _ (c.min-var.result + 1) 0 0 keeps c.in_ok-high.ensures.keeps
    (omega (arith, c.split.ensures.high_first, c.split-2.ensures.high_first, keeps.firsts c.split.result.1 c.split.ensures.high_live, keeps.firsts c.split-2.result.1 c.split-2.ensures.high_live))
    (λ a live down. keeps.reached a c.split.result.1 live c.split.ensures.high_live (c.split.ensures.high_reached a live down))
    (λ a live down. keeps.reached a c.split-2.result.1 live c.split-2.ensures.high_live (c.split-2.ensures.high_reached a live down)) low c.in_ok-high.ensures.news

pub returns-in_err-r-clause-news : goal.returns-in_err-r-clause-news
returns-in_err-r-clause-news g t c =
    let d = c.args.store.now in
    let op = join_of (unit_of g) in
    let before : State = (d, (c.args.known.now, c.args.memo.now)) in
    let second : State = (c.join_from-2.new.store, (c.join_from-2.new.known, c.join_from-2.new.memo)) in
    let last : State = (c.node_within.new.store, (c.join_from-2.new.known, c.join_from-2.new.memo)) in
    news_err op AnyPair c.args.turn c.from_residual-in_err-r.result c.from_residual-in_err-r.ensures.0 before last c.args.f c.args.g (min (first_var d c.args.f) (first_var d c.args.g)) (news_weaken op AnyPair c.args.turn before last c.args.f c.args.g (c.min-var.result + 1) (min (first_var d c.args.f) (first_var d c.args.g)) 1
    (omega (arith, c.min-var.ensures, c.var-f_var.ensures.var, c.var-g_var.ensures.var))
    (news_later op AnyPair c.args.turn before second last c.args.f c.args.g (c.min-var.result + 1) 0 1 (both_keep_no_node g t c) c.in_err-r.ensures.keeps (λ p found. found) (omega (arith, c.in_err-r.ensures.calls)) (both_news_no_node g t c)))

-- the news of both branches
both_news_no_room : (g : given.Over) (t : ℕ) (c : goal.After-from_residual-in_err-keep g t) → News (join_of (unit_of g)) AnyPair c.args.turn (c.args.store.now, (c.args.known.now, c.args.memo.now)) (c.join_from-2.new.store, (c.join_from-2.new.known, c.join_from-2.new.memo)) c.args.f c.args.g (c.min-var.result + 1) 0
both_news_no_room g t c =
    let d = c.args.store.now in
    let op = join_of (unit_of g) in
    let keeps = c.in_ok-low.ensures.keeps in
    let before : State = (d, (c.args.known.now, c.args.memo.now)) in
    let first : State = (c.join_from.new.store, (c.join_from.new.known, c.join_from.new.memo)) in
    let second : State = (c.join_from-2.new.store, (c.join_from-2.new.known, c.join_from-2.new.memo)) in
    let low = news_first op AnyPair c.args.turn before first c.args.f c.args.g c.split.result.0 c.split-2.result.0 _ (c.min-var.result + 1) 0 (keeps_self d)
    (omega (arith, c.split.ensures.low_first, c.split-2.ensures.low_first))
    (λ a live down. c.split.ensures.low_reached a live down) (λ a live down. c.split-2.ensures.low_reached a live down) c.in_ok-low.ensures.news in
    news_second op AnyPair c.args.turn before first second c.args.f c.args.g c.split.result.1 c.split-2.result.1 _ (c.min-var.result + 1) 0 0 keeps c.in_ok-high.ensures.keeps
    (omega (arith, c.split.ensures.high_first, c.split-2.ensures.high_first, keeps.firsts c.split.result.1 c.split.ensures.high_live, keeps.firsts c.split-2.result.1 c.split-2.ensures.high_live))
    (λ a live down. keeps.reached a c.split.result.1 live c.split.ensures.high_live (c.split.ensures.high_reached a live down))
    (λ a live down. keeps.reached a c.split-2.result.1 live c.split-2.ensures.high_live (c.split-2.ensures.high_reached a live down)) low c.in_ok-high.ensures.news

pub returns-in_err-keep-clause-news : goal.returns-in_err-keep-clause-news
returns-in_err-keep-clause-news g t c =
    let d = c.args.store.now in
    let op = join_of (unit_of g) in
    let before : State = (d, (c.args.known.now, c.args.memo.now)) in
    let second : State = (c.join_from-2.new.store, (c.join_from-2.new.known, c.join_from-2.new.memo)) in
    let last : State = (c.node_within.new.store, (c.keep.new.known, c.keep.new.memo)) in
    news_err op AnyPair c.args.turn c.from_residual-in_err-keep.result c.from_residual-in_err-keep.ensures.0 before last c.args.f c.args.g (min (first_var d c.args.f) (first_var d c.args.g)) (news_weaken op AnyPair c.args.turn before last c.args.f c.args.g (c.min-var.result + 1) (min (first_var d c.args.f) (first_var d c.args.g)) 1
    (omega (arith, c.min-var.ensures, c.var-f_var.ensures.var, c.var-g_var.ensures.var))
    (news_later op AnyPair c.args.turn before second last c.args.f c.args.g (c.min-var.result + 1) 0 1 (both_keep_no_room g t c) c.in_ok-r.ensures.keeps
    (found_kept op c.args.turn second last (c.args.f, c.args.g) c.in_ok-r.r c.in_err-keep.ensures.sure c.in_err-keep.ensures.memo) (omega (arith, c.in_ok-r.ensures.calls)) (both_news_no_room g t c)))

-- the news of both branches
both_news_done : (g : given.Over) (t : ℕ) (c : goal.In_ok-keep g t) → News (join_of (unit_of g)) AnyPair c.args.turn (c.args.store.now, (c.args.known.now, c.args.memo.now)) (c.join_from-2.new.store, (c.join_from-2.new.known, c.join_from-2.new.memo)) c.args.f c.args.g (c.min-var.result + 1) 0
both_news_done g t c =
    let d = c.args.store.now in
    let op = join_of (unit_of g) in
    let keeps = c.in_ok-low.ensures.keeps in
    let before : State = (d, (c.args.known.now, c.args.memo.now)) in
    let first : State = (c.join_from.new.store, (c.join_from.new.known, c.join_from.new.memo)) in
    let second : State = (c.join_from-2.new.store, (c.join_from-2.new.known, c.join_from-2.new.memo)) in
    let low = news_first op AnyPair c.args.turn before first c.args.f c.args.g c.split.result.0 c.split-2.result.0 _ (c.min-var.result + 1) 0 (keeps_self d)
    (omega (arith, c.split.ensures.low_first, c.split-2.ensures.low_first))
    (λ a live down. c.split.ensures.low_reached a live down) (λ a live down. c.split-2.ensures.low_reached a live down) c.in_ok-low.ensures.news in
    news_second op AnyPair c.args.turn before first second c.args.f c.args.g c.split.result.1 c.split-2.result.1 _ (c.min-var.result + 1) 0 0 keeps c.in_ok-high.ensures.keeps
    (omega (arith, c.split.ensures.high_first, c.split-2.ensures.high_first, keeps.firsts c.split.result.1 c.split.ensures.high_live, keeps.firsts c.split-2.result.1 c.split-2.ensures.high_live))
    (λ a live down. keeps.reached a c.split.result.1 live c.split.ensures.high_live (c.split.ensures.high_reached a live down))
    (λ a live down. keeps.reached a c.split-2.result.1 live c.split-2.ensures.high_live (c.split-2.ensures.high_reached a live down)) low c.in_ok-high.ensures.news

pub returns-clause-news : goal.returns-clause-news
returns-clause-news g t c =
    let d = c.args.store.now in
    let op = join_of (unit_of g) in
    let before : State = (d, (c.args.known.now, c.args.memo.now)) in
    let second : State = (c.join_from-2.new.store, (c.join_from-2.new.known, c.join_from-2.new.memo)) in
    let last : State = (c.node_within.new.store, (c.keep.new.known, c.keep.new.memo)) in
    let is = c.joining-operation.ensures.is in
    let absent : IsFound op c.args.turn before (c.args.f, c.args.g) → ⊥ = λ found. elim found [
      | inl sure ↦ c.in-None.ensures.none c.args.turn (subst (IsSure c.args.known.now c.args.turn) (sym is) sure)
      | inr some ↦ some (sym c.in-None-get.ensures.value)
    ] in
    let found : IsFound op c.args.turn last (c.args.f, c.args.g) = elim c.in_ok-keep.ensures.found [
      | inl sure ↦ inl (subst (IsSure c.keep.new.known c.args.turn) is sure)
      | inr put ↦ inr (found_here c.join_from-2.new.memo c.keep.new.memo (c.args.f, c.args.g) c.in_ok-r.r put)
    ] in
    news_put op AnyPair c.args.turn before second last c.args.f c.args.g (c.min-var.result + 1) (min (first_var d c.args.f) (first_var d c.args.g)) (both_keep_done g t c) c.in_ok-r.ensures.keeps
    (found_kept op c.args.turn second last (c.args.f, c.args.g) c.in_ok-r.r c.in_ok-keep.ensures.sure c.in_ok-keep.ensures.memo) (omega (arith, c.in_ok-r.ensures.calls))
    (omega (arith, c.min-var.ensures, c.var-f_var.ensures.var, c.var-g_var.ensures.var)) c.requires.f_live c.requires.g_live
    (omega (arith, c.var-f_var.ensures.within, c.var-f_var.ensures.var)) (omega (arith, c.var-g_var.ensures.within, c.var-g_var.ensures.var)) refl refl absent found (both_news_done g t c)

pub returns-then-x-clause-news : goal.returns-then-x-clause-news
returns-then-x-clause-news g t c = news_none (join_of (unit_of g)) AnyPair c.args.turn _ _ c.args.f c.args.g _ 0 (λ p found. found) (omega arith)

pub returns-else-x-clause-news : goal.returns-else-x-clause-news
returns-else-x-clause-news g t c = news_none (join_of (unit_of g)) AnyPair c.args.turn _ _ c.args.f c.args.g _ 0 (λ p found. found) (omega arith)

pub returns-then-x-2-clause-news : goal.returns-then-x-2-clause-news
returns-then-x-2-clause-news g t c = news_none (join_of (unit_of g)) AnyPair c.args.turn _ _ c.args.f c.args.g _ 0 (λ p found. found) (omega arith)

pub returns-else-x-2-clause-news : goal.returns-else-x-2-clause-news
returns-else-x-2-clause-news g t c = news_none (join_of (unit_of g)) AnyPair c.args.turn _ _ c.args.f c.args.g _ 0 (λ p found. found) (omega arith)

pub returns-then-eq-clause-news : goal.returns-then-eq-clause-news
returns-then-eq-clause-news g t c = news_none (join_of (unit_of g)) AnyPair c.args.turn _ _ c.args.f c.args.g _ 0 (λ p found. found) (omega arith)

pub returns-in-Some-get-clause-news : goal.returns-in-Some-get-clause-news
returns-in-Some-get-clause-news g t c = news_none (join_of (unit_of g)) AnyPair c.args.turn _ _ c.args.f c.args.g _ 0 (λ p found. found) (omega arith)

pub returns-in-Some-recall-clause-news : goal.returns-in-Some-recall-clause-news
returns-in-Some-recall-clause-news g t c = news_hit (join_of (unit_of g)) AnyPair c.args.turn c.args.store.now c.args.known.now c.note_hit.new.self c.args.memo.now c.args.f c.args.g _ c.note_hit.ensures

-- what was added until a branch was refused
pub returns-in_err-low-clause-adds : goal.returns-in_err-low-clause-adds
returns-in_err-low-clause-adds g t c =
    let d = c.args.store.now in
    let m = c.join_from.new.store in
    let unit = unit_of g in
    let F : Function = λ a. joined unit (table d c.args.f a) (table d c.args.g a) in
    on_err c.from_residual.result (Adds d m F) (join_branch d d m c.requires.sound unit c.args.f c.args.g c.split.result.0 c.split-2.result.0 c.min-var.result false (omega (arith, c.min-var.ensures, c.var-f_var.ensures.within, c.var-f_var.ensures.var)) (omega (arith, c.min-var.ensures, c.var-f_var.ensures.var)) (omega (arith, c.min-var.ensures, c.var-g_var.ensures.var))
    (keeps_self d) c.split.ensures.low_live c.split-2.ensures.low_live c.split.ensures.low_table c.split-2.ensures.low_table c.in_err-low.ensures.keeps
    (c.in_err-low.ensures.adds))

pub returns-in_err-high-clause-adds : goal.returns-in_err-high-clause-adds
returns-in_err-high-clause-adds g t c =
    let d = c.args.store.now in
    let m = c.join_from.new.store in
    let e = c.join_from-2.new.store in
    let unit = unit_of g in
    let F : Function = λ a. joined unit (table d c.args.f a) (table d c.args.g a) in
    on_err c.from_residual-in_err-high.result (Adds d e F) (adds_then d m e F c.in_err-high.ensures.keeps
    (join_branch d d m c.requires.sound unit c.args.f c.args.g c.split.result.0 c.split-2.result.0 c.min-var.result false (omega (arith, c.min-var.ensures, c.var-f_var.ensures.within, c.var-f_var.ensures.var)) (omega (arith, c.min-var.ensures, c.var-f_var.ensures.var)) (omega (arith, c.min-var.ensures, c.var-g_var.ensures.var))
    (keeps_self d) c.split.ensures.low_live c.split-2.ensures.low_live c.split.ensures.low_table c.split-2.ensures.low_table c.in_ok-low.ensures.keeps
    (adds_fresh d m c.in_ok-low.ensures.sound c.in_ok-low.low c.in_ok-low.ensures.live (λ a. joined unit (table d c.split.result.0 a) (table d c.split-2.result.0 a)) c.in_ok-low.ensures.table c.in_ok-low.ensures.fresh))
    (join_branch d m e c.requires.sound unit c.args.f c.args.g c.split.result.1 c.split-2.result.1 c.min-var.result true (omega (arith, c.min-var.ensures, c.var-f_var.ensures.within, c.var-f_var.ensures.var)) (omega (arith, c.min-var.ensures, c.var-f_var.ensures.var)) (omega (arith, c.min-var.ensures, c.var-g_var.ensures.var))
    c.in_ok-low.ensures.keeps c.split.ensures.high_live c.split-2.ensures.high_live c.split.ensures.high_table c.split-2.ensures.high_table c.in_err-high.ensures.keeps
    (c.in_err-high.ensures.adds)))

-- what both branches added
both_add_no_node : (g : given.Over) (t : ℕ) (c : goal.After-from_residual-in_err-r g t) → Adds c.args.store.now c.join_from-2.new.store (λ a. joined (unit_of g) (table c.args.store.now c.args.f a) (table c.args.store.now c.args.g a))
both_add_no_node g t c =
    let d = c.args.store.now in
    let m = c.join_from.new.store in
    let e = c.join_from-2.new.store in
    let unit = unit_of g in
    let F : Function = λ a. joined unit (table d c.args.f a) (table d c.args.g a) in
    adds_then d m e F c.in_ok-high.ensures.keeps
    (join_branch d d m c.requires.sound unit c.args.f c.args.g c.split.result.0 c.split-2.result.0 c.min-var.result false (omega (arith, c.min-var.ensures, c.var-f_var.ensures.within, c.var-f_var.ensures.var)) (omega (arith, c.min-var.ensures, c.var-f_var.ensures.var)) (omega (arith, c.min-var.ensures, c.var-g_var.ensures.var))
    (keeps_self d) c.split.ensures.low_live c.split-2.ensures.low_live c.split.ensures.low_table c.split-2.ensures.low_table c.in_ok-low.ensures.keeps
    (adds_fresh d m c.in_ok-low.ensures.sound c.in_ok-low.low c.in_ok-low.ensures.live (λ a. joined unit (table d c.split.result.0 a) (table d c.split-2.result.0 a)) c.in_ok-low.ensures.table c.in_ok-low.ensures.fresh))
    (join_branch d m e c.requires.sound unit c.args.f c.args.g c.split.result.1 c.split-2.result.1 c.min-var.result true (omega (arith, c.min-var.ensures, c.var-f_var.ensures.within, c.var-f_var.ensures.var)) (omega (arith, c.min-var.ensures, c.var-f_var.ensures.var)) (omega (arith, c.min-var.ensures, c.var-g_var.ensures.var))
    c.in_ok-low.ensures.keeps c.split.ensures.high_live c.split-2.ensures.high_live c.split.ensures.high_table c.split-2.ensures.high_table c.in_ok-high.ensures.keeps
    (adds_fresh m e c.in_ok-high.ensures.sound c.in_ok-high.high c.in_ok-high.ensures.live (λ a. joined unit (table m c.split.result.1 a) (table m c.split-2.result.1 a)) c.in_ok-high.ensures.table c.in_ok-high.ensures.fresh))

-- what both branches added
both_add_no_room : (g : given.Over) (t : ℕ) (c : goal.After-from_residual-in_err-keep g t) → Adds c.args.store.now c.join_from-2.new.store (λ a. joined (unit_of g) (table c.args.store.now c.args.f a) (table c.args.store.now c.args.g a))
both_add_no_room g t c =
    let d = c.args.store.now in
    let m = c.join_from.new.store in
    let e = c.join_from-2.new.store in
    let unit = unit_of g in
    let F : Function = λ a. joined unit (table d c.args.f a) (table d c.args.g a) in
    adds_then d m e F c.in_ok-high.ensures.keeps
    (join_branch d d m c.requires.sound unit c.args.f c.args.g c.split.result.0 c.split-2.result.0 c.min-var.result false (omega (arith, c.min-var.ensures, c.var-f_var.ensures.within, c.var-f_var.ensures.var)) (omega (arith, c.min-var.ensures, c.var-f_var.ensures.var)) (omega (arith, c.min-var.ensures, c.var-g_var.ensures.var))
    (keeps_self d) c.split.ensures.low_live c.split-2.ensures.low_live c.split.ensures.low_table c.split-2.ensures.low_table c.in_ok-low.ensures.keeps
    (adds_fresh d m c.in_ok-low.ensures.sound c.in_ok-low.low c.in_ok-low.ensures.live (λ a. joined unit (table d c.split.result.0 a) (table d c.split-2.result.0 a)) c.in_ok-low.ensures.table c.in_ok-low.ensures.fresh))
    (join_branch d m e c.requires.sound unit c.args.f c.args.g c.split.result.1 c.split-2.result.1 c.min-var.result true (omega (arith, c.min-var.ensures, c.var-f_var.ensures.within, c.var-f_var.ensures.var)) (omega (arith, c.min-var.ensures, c.var-f_var.ensures.var)) (omega (arith, c.min-var.ensures, c.var-g_var.ensures.var))
    c.in_ok-low.ensures.keeps c.split.ensures.high_live c.split-2.ensures.high_live c.split.ensures.high_table c.split-2.ensures.high_table c.in_ok-high.ensures.keeps
    (adds_fresh m e c.in_ok-high.ensures.sound c.in_ok-high.high c.in_ok-high.ensures.live (λ a. joined unit (table m c.split.result.1 a) (table m c.split-2.result.1 a)) c.in_ok-high.ensures.table c.in_ok-high.ensures.fresh))

pub returns-in_err-r-clause-adds : goal.returns-in_err-r-clause-adds
returns-in_err-r-clause-adds g t c =
    let d = c.args.store.now in
    let e = c.join_from-2.new.store in
    let n = c.node_within.new.store in
    let unit = unit_of g in
    let F : Function = λ a. joined unit (table d c.args.f a) (table d c.args.g a) in
    on_err c.from_residual-in_err-r.result (Adds d n F) (adds_then d e n F c.in_err-r.ensures.keeps (both_add_no_node g t c)
    (adds_same e n F (made e c.joining-operation.result) (λ a. c.joining-operation.ensures.made e a ∙ sym (join_later unit d e (both_keep_no_node g t c) c.args.f c.args.g c.requires.f_live c.requires.g_live a)) c.in_err-r.ensures.adds))

pub returns-in_err-keep-clause-adds : goal.returns-in_err-keep-clause-adds
returns-in_err-keep-clause-adds g t c =
    let d = c.args.store.now in
    let e = c.join_from-2.new.store in
    let n = c.node_within.new.store in
    let unit = unit_of g in
    let F : Function = λ a. joined unit (table d c.args.f a) (table d c.args.g a) in
    on_err c.from_residual-in_err-keep.result (Adds d n F) (adds_then d e n F c.in_ok-r.ensures.keeps (both_add_no_room g t c)
    (adds_made e n c.in_ok-r.ensures.sound c.joining-operation.result c.in_ok-r.r c.in_ok-r.ensures.right F (λ a. c.joining-operation.ensures.made n a ∙ sym (join_later unit d n (all_keep_no_room g t c) c.args.f c.args.g c.requires.f_live c.requires.g_live a)) c.in_ok-r.ensures.fresh))
