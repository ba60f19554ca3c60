-- A node that is put, and how many there are then.
use Rattle.std.proofs.Common.{◌≡◌, ◌≢◌, ℕ, zero, suc, ◌+◌, ◌<◌, ◌≤◌, Bool, true, false, cond, List, [], ◌∷◌, ◌++◌, length, get_or, set, refl, sym, ◌∙◌, ap, subst, arith, inl, inr, length-append}
use Rattle.std.specs.List.{count_by}
use Rattle.std.specs.Prelude.{nat_lt}
use Rattle.std.proofs.Math.ListN.{get_or-append, length-set}
use Rattle.std.proofs.Math.Seq.{get_or-append_seam}
use Rattle.std.proofs.lemmas.List.Sums.{sum_by-cons, sum_by-append, count_by-le-length}
use Rattle.std.proofs.lemmas.Bool.{cases_lt}
use Rattle.std.proofs.lemmas.Bool.Decides.{nat_tests}
use Rattle.bdd_store.specs.declared.chains.Node.{Node}
use Rattle.bdd_store.specs.Graph.{no_node, node_at, var_at, Live}
use Rattle.bdd_store.specs.Chains.{Matches, SameGraph, Puts, node_count, home, bucket_of, start, InChain, AllOf, Chained}
use Rattle.bdd_store.specs.Seen.{flag}
use Rattle.bdd_store.proofs.ChainLaws.{cases_eq, home_node, home_free, none_at_end}
use Rattle.bdd_store.proofs.Writes.{written_here, written_other}

pub node_is : (x : Node) (ns : List Node) (r : ℕ) (nd : Node) → node_at ns r ≡ nd → Matches ns r nd.var nd.low nd.high
node_is x ns r nd e = (ap (λ y. y.var) e, ap (λ y. y.low) e, ap (λ y. y.high) e)

-- at the end
pub puts_append : (n : ℕ) (ns : List Node) (nd : Node) → nd.var < n → Puts n ns (ns ++ nd ∷ []) (length ns) nd.var nd.low nd.high
puts_append n ns nd lt =
    let ms = ns ++ nd ∷ [] in
    let len : length ms ≡ length ns + 1 = length-append ns (nd ∷ []) in
    let old : (r : ℕ) → r < length ns → node_at ms r ≡ node_at ns r = λ r lt_r. get_or-append ns (nd ∷ []) no_node r lt_r in
    let new : node_at ms (length ns) ≡ nd = get_or-append_seam ns nd [] no_node in
    record {
      live = (omega (arith, len), omega (arith, ap (λ y. y.var) new), λ e. absurd (omega (arith, ap (λ y. y.var) new)));
      here = node_is nd ms (length ns) nd new;
      same = λ r live.
          let e = old r live.0 in
          ((omega (arith, len, live.0), omega (arith, ap (λ y. y.var) e, live.1), λ at. live.2 (sym (ap (λ y. y.var) e) ∙ at)), node_is nd ms r (node_at ns r) e);
      only = λ r live. elim (cases_lt r (length ns)) [
        | inl lt_r ↦ let e = old r lt_r in inl (lt_r, omega (arith, ap (λ y. y.var) e, live.1), λ at. live.2 (ap (λ y. y.var) e ∙ at))
        | inr le ↦ inr (omega (arith, len, live.0))
      ];
    }

-- at a place that was given back
pub puts_written : (n : ℕ) (ns : List Node) (f : ℕ) (nd : Node) → nd.var < n → 2 ≤ f → f < length ns → n ≤ var_at ns f → Puts n ns (set ns f nd) f nd.var nd.low nd.high
puts_written n ns f nd lt two within was =
    let ms = set ns f nd in
    let len : length ms ≡ length ns = length-set ns f nd in
    let old : (r : ℕ) → r ≢ f → node_at ms r ≡ node_at ns r = λ r ne. written_other ns f nd r ne in
    let new : node_at ms f ≡ nd = written_here ns f nd within in
    let not_live : Live n ns f → ⊥ = λ live. let small = live.2 (omega (arith, was, live.1)) in omega arith in
    record {
      live = (omega (arith, len, within), omega (arith, ap (λ y. y.var) new), λ e. absurd (omega (arith, ap (λ y. y.var) new)));
      here = node_is nd ms f nd new;
      same = λ r live.
          let e = old r (λ at. not_live (subst (λ q. Live n ns q) at live)) in
          ((omega (arith, len, live.0), omega (arith, ap (λ y. y.var) e, live.1), λ at. live.2 (sym (ap (λ y. y.var) e) ∙ at)), node_is nd ms r (node_at ns r) e);
      only = λ r live. elim (cases_eq r f) [
        | inl at ↦ inr at
        | inr ne ↦ let e = old r ne in inl (omega (arith, len, live.0), omega (arith, ap (λ y. y.var) e, live.1), λ at. live.2 (ap (λ y. y.var) e ∙ at))
      ];
    }

pub live_graph : (n : ℕ) (ns ms : List Node) → SameGraph ns ms → (r : ℕ) → Live n ns r → Live n ms r
live_graph n ns ms graph r live = (omega (arith, graph.count, live.0), omega (arith, graph.vars r, live.1), λ e. live.2 (sym (graph.vars r) ∙ e))

pub graph_live : (n : ℕ) (ns ms : List Node) → SameGraph ns ms → (r : ℕ) → Live n ms r → Live n ns r
graph_live n ns ms graph r live = (omega (arith, graph.count, live.0), omega (arith, graph.vars r, live.1), λ e. live.2 (graph.vars r ∙ e))

-- links do not matter
pub puts_graph : (n : ℕ) (ns ms ls : List Node) (f var low high : ℕ) → Puts n ns ms f var low high → SameGraph ms ls → Puts n ns ls f var low high
puts_graph n ns ms ls f var low high puts graph = record {
  live = live_graph n ms ls graph f puts.live;
  here = (graph.vars f ∙ puts.here.0, graph.lows f ∙ puts.here.1, graph.highs f ∙ puts.here.2);
  same = λ r live. let is = puts.same r live in (live_graph n ms ls graph r is.0, (graph.vars r ∙ is.1.0, graph.lows r ∙ is.1.1, graph.highs r ∙ is.1.2));
  only = λ r live. puts.only r (graph_live n ms ls graph r live);
}

-- how many nodes a list has
abbrev pub one_if : Bool → ℕ
one_if t = cond t 1 0

pub count_cons : (n : ℕ) (x : Node) (xs : List Node) → node_count n (x ∷ xs) ≡ one_if (nat_lt x.var n) + node_count n xs
unfolding node_count
count_cons n x xs = sum_by-cons (λ (y : Node). cond (nat_lt y.var n) 1 0) x xs

pub node_one : (n : ℕ) (x : Node) → x.var < n → one_if (nat_lt x.var n) ≡ 1
node_one n x lt = let test : nat_lt x.var n ≡ true = grind (arith, nat_tests) in ap (λ t. cond t 1 0) test

pub node_none : (n : ℕ) (x : Node) → n ≤ x.var → one_if (nat_lt x.var n) ≡ 0
node_none n x le = let test : nat_lt x.var n ≡ false = grind (arith, nat_tests) in ap (λ t. cond t 1 0) test

pub counted_append : (n : ℕ) (ns : List Node) (nd : Node) → nd.var < n → node_count n (ns ++ nd ∷ []) ≡ node_count n ns + 1
counted_append n [] nd lt = count_cons n nd [] ∙ omega (arith, node_one n nd lt)
counted_append n (x ∷ xs) nd lt = count_cons n x (xs ++ nd ∷ []) ∙ omega (arith, counted_append n xs nd lt, count_cons n x xs)

pub counted_written : (n : ℕ) (ns : List Node) (f : ℕ) (nd : Node) → nd.var < n → f < length ns → n ≤ var_at ns f → node_count n (set ns f nd) ≡ node_count n ns + 1
counted_written n [] f nd lt within was = absurd (omega arith)
counted_written n (x ∷ xs) zero nd lt within was = count_cons n nd xs ∙ omega (arith, node_one n nd lt, count_cons n x xs, node_none n x was)
counted_written n (x ∷ xs) (suc f) nd lt within was = count_cons n x (set xs f nd) ∙ omega (arith, counted_written n xs f nd lt (omega arith) was, count_cons n x xs)

counted_alike : (n : ℕ) (ns ms : List Node) → length ms ≡ length ns → ((r : ℕ) → var_at ms r ≡ var_at ns r) → node_count n ms ≡ node_count n ns
counted_alike n [] [] len same = refl
counted_alike n [] (y ∷ ys) len same = absurd (omega arith)
counted_alike n (x ∷ xs) [] len same = absurd (omega arith)
counted_alike n (x ∷ xs) (y ∷ ys) len same = count_cons n y ys ∙ omega (arith, counted_alike n xs ys (omega arith) (λ r. same (suc r)), ap (λ v. one_if (nat_lt v n)) (same 0)) ∙ sym (count_cons n x xs)

pub counted_graph : (n : ℕ) (ns ms : List Node) → SameGraph ns ms → node_count n ms ≡ node_count n ns
counted_graph n ns ms graph = counted_alike n ns ms graph.count graph.vars

-- constants are not counted
pub counted_few : (n : ℕ) (ns : List Node) → 2 ≤ length ns → var_at ns 0 ≡ n → var_at ns 1 ≡ n → node_count n ns + 2 ≤ length ns
counted_few n [] two zero_last one_last = absurd (omega arith)
counted_few n (x ∷ []) two zero_last one_last = absurd (omega arith)
counted_few n (x ∷ y ∷ ns) two zero_last one_last =
    omega (arith, count_cons n x (y ∷ ns), count_cons n y ns, node_none n x (omega arith), node_none n y (omega arith), at_most ns)
  where
    at_most : (l : List Node) → node_count n l ≤ length l
    at_most l = unfold node_count in count_by-le-length (λ (z : Node). nat_lt z.var n) l

counted_each : (n : ℕ) (ns : List Node) → ((r : ℕ) → r < length ns → var_at ns r < n) → node_count n ns ≡ length ns
counted_each n [] each = unfold node_count in refl
counted_each n (x ∷ xs) each = count_cons n x xs ∙ omega (arith, node_one n x (each 0 (omega arith)), counted_each n xs (λ r lt. each (suc r) (omega arith)))

-- with an empty free list every other place is a node
pub counted_full : (n : ℕ) (ns : List Node) (heads : List ℕ) → Chained n ns heads 0 (AllOf ns) → 2 ≤ length ns → var_at ns 0 ≡ n → var_at ns 1 ≡ n → length ns ≡ node_count n ns + 2
counted_full n ns heads ok two zero_last one_last = by_list ns two zero_last one_last (λ r le lt. elim (cases_lt (var_at ns r) n) [
  | inl is ↦ is
  | inr past ↦ absurd (none_at_end ns r ok.ends (subst (λ x. InChain ns x r) (ap (start heads 0) (home_free n ns (length heads) r past) ∙ past_end heads) (ok.listed r le lt)) (omega arith))
])
  where
    past_end : (xs : List ℕ) → get_or xs (length xs) 0 ≡ 0
    past_end [] = refl
    past_end (x ∷ xs) = past_end xs

    by_list : (l : List Node) → 2 ≤ length l → var_at l 0 ≡ n → var_at l 1 ≡ n → ((r : ℕ) → 2 ≤ r → r < length l → var_at l r < n) → length l ≡ node_count n l + 2
    by_list [] two zero_last one_last each = absurd (omega arith)
    by_list (x ∷ []) two zero_last one_last each = absurd (omega arith)
    by_list (x ∷ y ∷ l) two zero_last one_last each =
        omega (arith, count_cons n x (y ∷ l), count_cons n y l, node_none n x (omega arith), node_none n y (omega arith), counted_each n l (λ r lt. each (suc (suc r)) (omega arith) (omega arith)))

-- a mark more, which is not set
pub flags_append : (marks : List Bool) (q : ℕ) → flag (marks ++ false ∷ []) q ≡ flag marks q
unfolding flag
flags_append [] zero = refl
flags_append [] (suc q) = refl
flags_append (x ∷ xs) zero = refl
flags_append (x ∷ xs) (suc q) = unfold flag in flags_append xs q

pub marks_append : (marks : List Bool) → count_by (λ (s : Bool). s) (marks ++ false ∷ []) ≡ count_by (λ s. s) marks
marks_append marks = sum_by-append (λ (s : Bool). cond s 1 0) marks (false ∷ []) ∙ omega arith

-- the home of a node that was put
pub home_put : (n : ℕ) (ns : List Node) (len f : ℕ) (nd : Node) → node_at ns f ≡ nd → nd.var < n → home n ns len f ≡ bucket_of nd.var nd.low nd.high len
home_put n ns len f nd e lt = home_node n ns len f (omega (arith, ap (λ y. y.var) e)) ∙ ap (λ y. bucket_of y.var y.low y.high len) e
