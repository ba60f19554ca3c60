-- What a sweep leaves: the nodes that are marked, and the constants.
use Rattle.std.proofs.Common.{◌≡◌, ℕ, zero, suc, ◌+◌, ◌<◌, ◌≤◌, ◌⊎◌, Bool, true, false, cond, List, [], ◌∷◌, length, get_or, refl, sym, ◌∙◌, ap, subst, arith, inl, inr}
use Rattle.std.specs.Prelude.{nat_lt}
use Rattle.std.specs.List.{flat_map, count_by}
use Rattle.std.proofs.Math.Path.{fun_ext}
use Rattle.std.proofs.lemmas.Bool.{cases_lt}
use Rattle.std.proofs.lemmas.Bool.Decides.{nat_tests}
use Rattle.bdd_store.specs.declared.Ref.{Ref}
use Rattle.bdd_store.specs.declared.chains.Node.{Node}
use Rattle.bdd_store.specs.Graph.{var_at, low_at, high_at, Live, step, below, Reduced}
use Rattle.bdd_store.specs.Beads.{truth_table, bead_count}
use Rattle.bdd_store.specs.Diagram.{Diagram, IsLive, AreLive, ref_at, table, tables_of, IsReduced, first_var, Reaches, Keeps, IsKept, Sweeps, held}
use Rattle.bdd_store.specs.Chains.{GivesBack, SameGraph, node_count}
use Rattle.bdd_store.specs.Seen.{flag, SeenIs, places_of}
use Rattle.bdd_store.proofs.Walks.{step_here}
use Rattle.bdd_store.proofs.Sets.{member, member_append, or_true, or_left, or_right}
use Rattle.bdd_store.proofs.Reach.{below_kept}
use Rattle.bdd_store.proofs.Counts.{Each, IsNode, below_all_nodes}
use Rattle.bdd_store.proofs.CountLaws.{closed_all, places_live, count_is}
use Rattle.bdd_store.proofs.Seen.{count_by_step}
use Rattle.bdd_store.proofs.Puts.{count_cons, live_graph, graph_live, counted_graph}
use Rattle.bdd_store.proofs.Laws.{reaches_self}
use Rattle.bdd_store.proofs.HeldLaws.{each_member}
use Rattle.bdd_store.proofs.NodeLaws.{Extends, extends_keeps, reduced_graph, held_is}

-- a place that stays
abbrev pub Stands : List Bool → ℕ → Type 0
Stands marks r = (r < 2) ⊎ (flag marks r ≡ true)

module _ (n : ℕ) (ns ms : List Node) (marks : List Bool) (ps : List ℕ) (ok : Reduced n ns) (gives : GivesBack n ns ms marks) (each : Each (Live n ns) ps) (seen : SeenIs marks (flat_map (below ns n 0) ps)) where
  -- a place that is marked has a node
  marked_node : (r : ℕ) → flag marks r ≡ true → IsNode n ns r
  marked_node r is = each_member (IsNode n ns) (flat_map (below ns n 0) ps) r (below_all_nodes n ns ok ps each) (sym (seen r) ∙ is)

  pub stands_live : (r : ℕ) → Live n ns r → Stands marks r → Live n ms r
  stands_live r live stands =
      let e = gives.kept r stands in
      (omega (arith, gives.count, live.0), omega (arith, ap (λ (x : Node). x.var) e, live.1), λ at. live.2 (sym (ap (λ (x : Node). x.var) e) ∙ at))

  pub live_stands : (r : ℕ) → Live n ms r → Live n ns r × Stands marks r
  live_stands r live = by_flag (flag marks r) refl
    where
      old : Stands marks r → Live n ns r
      old stands =
          let e = gives.kept r stands in
          (omega (arith, gives.count, live.0), omega (arith, ap (λ (x : Node). x.var) e, live.1), λ at. live.2 (ap (λ (x : Node). x.var) e ∙ at))

      by_flag : (t : Bool) → flag marks r ≡ t → Live n ns r × Stands marks r
      by_flag true is = (old (inr is), inr is)
      by_flag false is = elim (cases_lt r 2) [
        | inl small ↦ (old (inl small), inl small)
        | inr two ↦ absurd (let small = live.2 (gives.gone r two (omega (arith, gives.count, live.0)) is) in omega arith)
      ]

  pub back_extends : Extends n ms ns
  back_extends r live =
      let is = live_stands r live in
      let e = gives.kept r is.1 in
      (is.0, (sym (ap (λ (x : Node). x.var) e), sym (ap (λ (x : Node). x.low) e), sym (ap (λ (x : Node). x.high) e)))

  -- the branches of a node that stays stay
  branch_stands : (r : ℕ) (x : Bool) → Live n ns r → Stands marks r → var_at ns r < n → Live n ns (step ns (var_at ns r) r x) → Stands marks (step ns (var_at ns r) r x)
  branch_stands r x live stands lt child = elim (cases_lt (var_at ns (step ns (var_at ns r) r x)) n) [
    | inr last ↦ inl (child.2 (omega (arith, child.1, last)))
    | inl proper ↦ elim stands [
      | inl small ↦ absurd (small_last r small lt)
      | inr is ↦ inr (seen (step ns (var_at ns r) r x) ∙ closed_all n ns ok ps each r x (sym (seen r) ∙ is) proper)
    ]
  ]
    where
      small_last : (q : ℕ) → q < 2 → var_at ns q < n → ⊥
      small_last zero small lt_q = omega (arith, ok.zero_last)
      small_last (suc zero) small lt_q = omega (arith, ok.one_last)
      small_last (suc (suc q)) small lt_q = omega arith

  pub swept_reduced : Reduced n ms
  swept_reduced =
      let same_var : (r : ℕ) → Stands marks r → var_at ms r ≡ var_at ns r = λ r stands. ap (λ (x : Node). x.var) (gives.kept r stands) in
      let same_low : (r : ℕ) → Stands marks r → low_at ms r ≡ low_at ns r = λ r stands. ap (λ (x : Node). x.low) (gives.kept r stands) in
      let same_high : (r : ℕ) → Stands marks r → high_at ms r ≡ high_at ns r = λ r stands. ap (λ (x : Node). x.high) (gives.kept r stands) in
      let lt_old : (r : ℕ) → Stands marks r → var_at ms r < n → var_at ns r < n = λ r stands lt. omega (arith, same_var r stands, lt) in
      let low : (r : ℕ) → Live n ns r → Stands marks r → var_at ns r < n → Stands marks (low_at ns r) = λ r live stands lt.
      subst (Stands marks) (step_here ns (var_at ns r) r false refl) (branch_stands r false live stands lt (subst (Live n ns) (sym (step_here ns (var_at ns r) r false refl)) (ok.low_live r live lt))) in
      let high : (r : ℕ) → Live n ns r → Stands marks r → var_at ns r < n → Stands marks (high_at ns r) = λ r live stands lt.
      subst (Stands marks) (step_here ns (var_at ns r) r true refl) (branch_stands r true live stands lt (subst (Live n ns) (sym (step_here ns (var_at ns r) r true refl)) (ok.high_live r live lt))) in
      record {
        constants = omega (arith, gives.count, ok.constants);
        zero_last = same_var 0 (inl (omega arith)) ∙ ok.zero_last;
        one_last = same_var 1 (inl (omega arith)) ∙ ok.one_last;
        low_live = λ r live lt.
            let is = live_stands r live in
            let lt_ns = lt_old r is.1 lt in
            subst (Live n ms) (sym (same_low r is.1)) (stands_live (low_at ns r) (ok.low_live r is.0 lt_ns) (low r is.0 is.1 lt_ns));
        high_live = λ r live lt.
            let is = live_stands r live in
            let lt_ns = lt_old r is.1 lt in
            subst (Live n ms) (sym (same_high r is.1)) (stands_live (high_at ns r) (ok.high_live r is.0 lt_ns) (high r is.0 is.1 lt_ns));
        low_later = λ r live lt.
            let is = live_stands r live in
            let lt_ns = lt_old r is.1 lt in
            omega (arith, ok.low_later r is.0 lt_ns, same_var r is.1, ap (var_at ms) (same_low r is.1), same_var (low_at ns r) (low r is.0 is.1 lt_ns));
        high_later = λ r live lt.
            let is = live_stands r live in
            let lt_ns = lt_old r is.1 lt in
            omega (arith, ok.high_later r is.0 lt_ns, same_var r is.1, ap (var_at ms) (same_high r is.1), same_var (high_at ns r) (high r is.0 is.1 lt_ns));
        differ = λ r live lt e. let is = live_stands r live in ok.differ r is.0 (lt_old r is.1 lt) (sym (same_low r is.1) ∙ e ∙ same_high r is.1);
        unique = λ r q live_r live_q lt e_var e_low e_high.
            let is_r = live_stands r live_r in
            let is_q = live_stands q live_q in
            ok.unique r q is_r.0 is_q.0 (lt_old r is_r.1 lt) (sym (same_var r is_r.1) ∙ e_var ∙ same_var q is_q.1) (sym (same_low r is_r.1) ∙ e_low ∙ same_low q is_q.1) (sym (same_high r is_r.1) ∙ e_high ∙ same_high q is_q.1);
      }

  -- as many nodes are left as are marked
  node_if_marked : (r : ℕ) → r < length ns → nat_lt (var_at ms r) n ≡ flag marks r
  node_if_marked r within = by_flag (flag marks r) refl
    where
      not_node : n ≤ var_at ms r → nat_lt (var_at ms r) n ≡ false
      not_node le = grind (arith, nat_tests)

      by_flag : (t : Bool) → flag marks r ≡ t → nat_lt (var_at ms r) n ≡ flag marks r
      by_flag true is =
          let lt : var_at ms r < n = omega (arith, ap (λ (x : Node). x.var) (gives.kept r (inr is)), (marked_node r is).1) in
          let test : nat_lt (var_at ms r) n ≡ true = grind (arith, nat_tests) in
          test ∙ sym is
      by_flag false is = elim (cases_lt r 2) [
        | inl small ↦ not_node (omega (arith, ap (λ (x : Node). x.var) (gives.kept r (inl small)), constant_last r small)) ∙ sym is
        | inr two ↦ not_node (omega (arith, gives.gone r two within is)) ∙ sym is
      ]
        where
          constant_last : (q : ℕ) → q < 2 → var_at ns q ≡ n
          constant_last zero small = ok.zero_last
          constant_last (suc zero) small = ok.one_last
          constant_last (suc (suc q)) small = absurd (omega arith)

  count_marked : (ls : List Node) (fs : List Bool) → length fs ≡ length ls → ((r : ℕ) → r < length ls → nat_lt (var_at ls r) n ≡ get_or fs r false) → node_count n ls ≡ count_by (λ (s : Bool). s) fs
  count_marked [] [] len same = unfold node_count in refl
  count_marked [] (y ∷ ys) len same = absurd (omega arith)
  count_marked (x ∷ xs) [] len same = absurd (omega arith)
  count_marked (x ∷ xs) (y ∷ ys) len same =
      count_cons n x xs ∙ ap (λ t. cond t 1 0 + node_count n xs) (same 0 (omega arith)) ∙ by_test y (count_marked xs ys (omega arith) (λ r lt. same (suc r) (omega arith))) ∙ sym (count_by_step y ys)
    where
      by_test : (t : Bool) → node_count n xs ≡ count_by (λ (s : Bool). s) ys → cond t 1 0 + node_count n xs ≡ cond t (suc (count_by (λ (s : Bool). s) ys)) (count_by (λ s. s) ys)
      by_test true e = omega (arith, e)
      by_test false e = omega (arith, e)

  pub swept_count : length marks ≡ length ns → node_count n ms ≡ count_by (λ (s : Bool). s) marks
  unfolding flag
  swept_count len = count_marked ms marks (omega (arith, len, gives.count)) (λ r lt. node_if_marked r (omega (arith, lt, gives.count)))

-- which root leads to a member
root_of : (ns : List Node) (n : ℕ) (rs : List Ref) (q : ℕ) → member q (flat_map (below ns n 0) (places_of rs)) ≡ true → (i : ℕ) × (i < length rs) × (member q (below ns n 0 (ref_at rs i).place) ≡ true)
root_of ns n [] q is = absurd (let f : false ≡ true = is in cc)
root_of ns n (r ∷ rs) q is = elim (or_true (member q (below ns n 0 r.place)) (member q (flat_map (below ns n 0) (places_of rs))) (sym (member_append q (below ns n 0 r.place) (flat_map (below ns n 0) (places_of rs))) ∙ is)) [
  | inl here ↦ (0, omega arith, here)
  | inr later ↦ let rest = root_of ns n rs q later in (suc rest.0, omega (arith, rest.1), rest.2)
]

of_root : (ns : List Node) (n : ℕ) (rs : List Ref) (i q : ℕ) → i < length rs → member q (below ns n 0 (ref_at rs i).place) ≡ true → member q (flat_map (below ns n 0) (places_of rs)) ≡ true
of_root ns n [] i q lt is = absurd (omega arith)
of_root ns n (r ∷ rs) zero q lt is = member_append q (below ns n 0 r.place) (flat_map (below ns n 0) (places_of rs)) ∙ or_left (member q (below ns n 0 r.place)) (member q (flat_map (below ns n 0) (places_of rs))) is
of_root ns n (r ∷ rs) (suc i) q lt is = member_append q (below ns n 0 r.place) (flat_map (below ns n 0) (places_of rs)) ∙ or_right (member q (below ns n 0 r.place)) (member q (flat_map (below ns n 0) (places_of rs))) (of_root ns n rs i q (omega arith) is)

-- tables that stay
pub tables_kept : (d e : Diagram) → Keeps d e → (rs : List Ref) → AreLive d rs → tables_of e rs ≡ tables_of d rs
unfolding tables_of
tables_kept d e keeps [] live = refl
tables_kept d e keeps (r ∷ rs) live =
    let same = fun_ext (keeps.tables r (live 0 (omega arith))) in
    ap (λ t. t ∷ tables_of e rs) (ap (λ n. truth_table n 0 (table e r)) keeps.vars ∙ ap (truth_table d.vars 0) same)
    ∙ ap (λ ts. truth_table d.vars 0 (table d r) ∷ ts) (tables_kept d e keeps rs (λ i lt. live (suc i) (omega arith)))

-- the whole sweep: the nodes that are not marked are given back, and then the links change
module _ (d e : Diagram) (ms : List Node) (marks : List Bool) (roots : List Ref) (ok : IsReduced d) (same_vars : e.vars ≡ d.vars) (gives : GivesBack d.vars d.nodes ms marks) (graph : SameGraph ms e.nodes) (live : AreLive d roots)
    (seen : SeenIs marks (flat_map (below d.nodes d.vars 0) (places_of roots))) where
  pub each_root : Each (Live d.vars d.nodes) (places_of roots)
  each_root = places_live d roots live

  stands_e : (r : Ref) → IsLive d r → Stands marks r.place → IsLive e r
  unfolding IsReduced IsLive
  stands_e r live_r stands = subst (λ m. Live m e.nodes r.place) (sym same_vars) (live_graph d.vars ms e.nodes graph r.place (stands_live d.vars d.nodes ms marks (places_of roots) ok gives each_root seen r.place live_r stands))

  e_stands : (r : Ref) → IsLive e r → IsLive d r × Stands marks r.place
  unfolding IsReduced IsLive
  e_stands r live_r = live_stands d.vars d.nodes ms marks (places_of roots) ok gives each_root seen r.place (graph_live d.vars ms e.nodes graph r.place (subst (λ m. Live m e.nodes r.place) same_vars live_r))

  kept_stands : (r : Ref) → IsKept d roots r → Stands marks r.place
  unfolding IsReduced IsLive first_var Reaches
  kept_stands r kept = elim (cases_lt (var_at d.nodes r.place) d.vars) [
    | inr last ↦ inl (kept.0.2 (omega (arith, last, kept.0.1)))
    | inl proper ↦ elim kept.1 [
      | inl constant ↦ absurd (constant proper)
      | inr root ↦ inr (seen r.place ∙ of_root d.nodes d.vars roots root.0 r.place root.1 (root.2 proper))
    ]
  ]

  stands_kept : (r : Ref) → IsLive d r → Stands marks r.place → IsKept d roots r
  unfolding IsReduced first_var Reaches
  stands_kept r live_r stands = (
    live_r,
    elim stands [
      | inl small ↦ inl (λ lt. not_small r.place small lt)
      | inr is ↦ let root = root_of d.nodes d.vars roots r.place (sym (seen r.place) ∙ is) in inr (root.0, root.1, λ proper. root.2)
    ],
  )
    where
      not_small : (q : ℕ) → q < 2 → var_at d.nodes q < d.vars → ⊥
      not_small zero small lt = omega (arith, ok.zero_last)
      not_small (suc zero) small lt = omega (arith, ok.one_last)
      not_small (suc (suc q)) small lt = omega arith

  pub swept_sound : IsReduced e
  unfolding IsReduced
  swept_sound = subst (λ m. Reduced m e.nodes) (sym same_vars) (reduced_graph d.vars ms e.nodes (swept_reduced d.vars d.nodes ms marks (places_of roots) ok gives each_root seen) graph)

  back_all : Extends e.vars e.nodes d.nodes
  unfolding IsReduced
  back_all r live_r =
      let in_ms = graph_live d.vars ms e.nodes graph r (subst (λ m. Live m e.nodes r) same_vars live_r) in
      let is = back_extends d.vars d.nodes ms marks (places_of roots) ok gives each_root seen r in_ms in
      (subst (λ m. Live m d.nodes r) (sym same_vars) is.0, (is.1.0 ∙ sym (graph.vars r), is.1.1 ∙ sym (graph.lows r), is.1.2 ∙ sym (graph.highs r)))

  -- all that is live after was live before
  pub swept_back : Keeps e d
  swept_back = extends_keeps e d swept_sound (sym same_vars) back_all

  below_same : (f : Ref) → IsLive e f → below d.nodes d.vars 0 f.place ≡ below e.nodes e.vars 0 f.place
  unfolding IsReduced IsLive
  below_same f live_f = ap (λ m. below d.nodes m 0 f.place) (sym same_vars) ∙ below_kept e.vars e.nodes d.nodes swept_sound (λ r live_r. (back_all r live_r).1) e.vars 0 f.place (omega arith) live_f

  reached_e : (f r : Ref) → IsLive e f → IsLive e r → Reaches d f r → Reaches e f r
  unfolding Reaches
  reached_e f r live_f live_r is proper = ap (member r.place) (sym (below_same f live_f)) ∙ is (omega (arith, swept_back.firsts r live_r, proper, same_vars))

  pub swept : Sweeps d e roots
  swept = record {
    vars = same_vars;
    live = λ r kept. stands_e r kept.0 (kept_stands r kept);
    only = λ r live_r. let is = e_stands r live_r in stands_kept r is.0 is.1;
    tables = λ r kept a. sym (swept_back.tables r (stands_e r kept.0 (kept_stands r kept)) a);
    reached = λ f r kept_f kept_r. reached_e f r (stands_e f kept_f.0 (kept_stands f kept_f)) (stands_e r kept_r.0 (kept_stands r kept_r));
    firsts = λ r kept. sym (swept_back.firsts r (stands_e r kept.0 (kept_stands r kept)));
  }

  pub roots_live : AreLive e roots
  roots_live i lt = swept.live (ref_at roots i) (live i lt, inr (i, lt, reaches_self d (ref_at roots i)))

  pub swept_kept : (r : Ref) → IsLive e r → IsKept e roots r
  swept_kept r live_r = (
    live_r,
    elim (swept.only r live_r).1 [
      | inl constant ↦ inl (λ proper. constant (omega (arith, proper, swept_back.firsts r live_r, same_vars)))
      | inr root ↦ inr (root.0, root.1, reached_e (ref_at roots root.0) r (roots_live root.0 root.1) live_r root.2)
    ],
  )

  pub swept_tables : tables_of d roots ≡ tables_of e roots
  swept_tables = tables_kept e d swept_back roots roots_live

  pub swept_counted : length marks ≡ length d.nodes → node_count e.vars e.nodes ≡ count_by (λ (s : Bool). s) marks
  unfolding IsReduced
  swept_counted len = ap (λ m. node_count m e.nodes) same_vars ∙ counted_graph d.vars ms e.nodes graph ∙ swept_count d.vars d.nodes ms marks (places_of roots) ok gives each_root seen len

  pub swept_held : length marks ≡ length d.nodes → held e ≡ bead_count d.vars (tables_of d roots)
  swept_held len = held_is e ∙ swept_counted len ∙ count_is d ok roots each_root marks seen
