-- How many nodes a diagram holds.
use Rattle.std.proofs.Common.{◌≡◌, ℕ, zero, suc, ◌+◌, ◌<◌, ◌≤◌, ◌⊎◌, Bool, true, false, eqb, cond, List, [], ◌∷◌, ◌++◌, length, map, get_or, refl, sym, ◌∙◌, ap, subst, arith, inl, inr}
use Rattle.std.specs.Prelude.{nat_lt}
use Rattle.std.specs.List.{flat_map, count_by}
use Rattle.std.proofs.lemmas.Bool.Decides.{nat_tests}
use Rattle.bdd_store.specs.declared.Ref.{Ref}
use Rattle.bdd_store.specs.declared.chains.Node.{Node}
use Rattle.bdd_store.specs.Graph.{var_at, Live, below, Reduced}
use Rattle.bdd_store.specs.Diagram.{Diagram, IsLive, AreLive, IsReduced, first_var, Reaches, Keeps, beads, held, tables_of}
use Rattle.bdd_store.specs.Beads.{bead_count, count_distinct}
use Rattle.bdd_store.specs.Chains.{node_count}
use Rattle.bdd_store.specs.Seen.{places_of}
use Rattle.bdd_store.proofs.Sets.{member, subset_count, member_append, eqb_is, or_true, or_left, or_right}
use Rattle.bdd_store.proofs.Counts.{Each, IsNode, below_all_nodes, beads_below}
use Rattle.bdd_store.proofs.CountLaws.{places_live, tables_are}
use Rattle.bdd_store.proofs.Seen.{trues, trues_at, count_trues, count_by_step}
use Rattle.bdd_store.proofs.Few.{beads_are}
use Rattle.bdd_store.proofs.Puts.{count_cons}
use Rattle.bdd_store.proofs.NodeLaws.{held_is}

pub each_member : (P : ℕ → Type 0) (xs : List ℕ) (q : ℕ) → Each P xs → member q xs ≡ true → P q
each_member P [] q each is = absurd (let f : false ≡ true = is in cc)
each_member P (x ∷ xs) q each is = elim (or_true (eqb q x) (member q xs) is) [ inl e ↦ subst P (sym (eqb_is q x e)) each.0 | inr later ↦ each_member P xs q each.1 later ]

-- which places have a node
node_flags : ℕ → List Node → List Bool
node_flags n ns = map (λ (x : Node). nat_lt x.var n) ns

flags_at : (n : ℕ) (ns : List Node) (q : ℕ) → q < length ns → get_or (node_flags n ns) q false ≡ nat_lt (var_at ns q) n
unfolding node_flags
flags_at n [] q lt = absurd (omega arith)
flags_at n (x ∷ xs) zero lt = refl
flags_at n (x ∷ xs) (suc q) lt = unfold node_flags in flags_at n xs q (omega arith)

flags_in : (n : ℕ) (ns : List Node) (q : ℕ) → get_or (node_flags n ns) q false ≡ true → q < length ns
unfolding node_flags
flags_in n [] q is = absurd (let f : false ≡ true = is in cc)
flags_in n (x ∷ xs) zero is = omega arith
flags_in n (x ∷ xs) (suc q) is = let rest = flags_in n xs q (unfold node_flags in is) in omega arith

flags_count : (n : ℕ) (ns : List Node) → count_by (λ (s : Bool). s) (node_flags n ns) ≡ node_count n ns
unfolding node_flags
flags_count n [] = unfold node_count in refl
flags_count n (x ∷ xs) = count_by_step (nat_lt x.var n) (map (λ (y : Node). nat_lt y.var n) xs) ∙ by_test (nat_lt x.var n) (unfold node_flags in flags_count n xs) ∙ sym (count_cons n x xs)
  where
    by_test : (t : Bool) → count_by (λ (s : Bool). s) (map (λ (y : Node). nat_lt y.var n) xs) ≡ node_count n xs → cond t (suc (count_by (λ (s : Bool). s) (map (λ (y : Node). nat_lt y.var n) xs))) (count_by (λ s. s) (map (λ (y : Node). nat_lt y.var n) xs)) ≡ cond t 1 0 + node_count n xs
    by_test true e = omega (arith, e)
    by_test false e = omega (arith, e)

-- the places of the nodes
nodes_of : ℕ → List Node → List ℕ
nodes_of n ns = trues 0 (node_flags n ns)

nodes_count : (n : ℕ) (ns : List Node) → count_distinct eqb (nodes_of n ns) ≡ node_count n ns
unfolding nodes_of
nodes_count n ns = count_trues 0 (node_flags n ns) ∙ flags_count n ns

nodes_have : (n : ℕ) (ns : List Node) (q : ℕ) → q < length ns → var_at ns q < n → member q (nodes_of n ns) ≡ true
unfolding nodes_of
nodes_have n ns q within lt =
    let e : 0 + q ≡ q = omega arith in
    let test : nat_lt (var_at ns q) n ≡ true = grind (arith, nat_tests) in
    ap (λ y. member y (trues 0 (node_flags n ns))) (sym e) ∙ trues_at 0 q (node_flags n ns) ∙ flags_at n ns q within ∙ test

nodes_are : (n : ℕ) (ns : List Node) (q : ℕ) → member q (nodes_of n ns) ≡ true → (q < length ns) × (var_at ns q < n)
unfolding nodes_of
nodes_are n ns q is =
    let e : 0 + q ≡ q = omega arith in
    let set : get_or (node_flags n ns) q false ≡ true = sym (trues_at 0 q (node_flags n ns)) ∙ ap (λ y. member y (trues 0 (node_flags n ns))) e ∙ is in
    let within = flags_in n ns q set in
    let test : nat_lt (var_at ns q) n ≡ true = sym (flags_at n ns q within) ∙ set in
    (within, grind (arith, nat_tests))

-- the nodes below some places are no more than all nodes
pub below_most : (n : ℕ) (ns : List Node) → Reduced n ns → (ps : List ℕ) → Each (Live n ns) ps → count_distinct eqb (flat_map (below ns n 0) ps) ≤ node_count n ns
below_most n ns ok ps live =
    omega (
      arith,
      nodes_count n ns,
      subset_count (flat_map (below ns n 0) ps) (nodes_of n ns) (λ q is.
          let node = each_member (IsNode n ns) (flat_map (below ns n 0) ps) q (below_all_nodes n ns ok ps live) is in
          nodes_have n ns q node.0.0 node.1),
    )

-- so beads are no more than the nodes that are held
pub beads_most : (d : Diagram) → IsReduced d → (rs : List Ref) → AreLive d rs → bead_count d.vars (tables_of d rs) ≤ held d
unfolding IsReduced
beads_most d ok rs live =
    let each = places_live d rs live in
    let is = ap (bead_count d.vars) (tables_are d rs) ∙ beads_below d.vars d.nodes ok (places_of rs) each in
    omega (arith, is, below_most d.vars d.nodes ok (places_of rs) each, held_is d)

count_append_step : (x : ℕ) (xs ys : List ℕ) (s t : Bool) → member x xs ≡ s → member x (xs ++ ys) ≡ t → count_distinct eqb (xs ++ ys) ≤ count_distinct eqb xs + count_distinct eqb ys
    → cond t (count_distinct eqb (xs ++ ys)) (suc (count_distinct eqb (xs ++ ys))) ≤ cond s (count_distinct eqb xs) (suc (count_distinct eqb xs)) + count_distinct eqb ys
count_append_step x xs ys true true is_s is_t ih = ih
count_append_step x xs ys true false is_s is_t ih = absurd (let f : true ≡ false = sym (or_left (member x xs) (member x ys) is_s) ∙ sym (member_append x xs ys) ∙ is_t in cc)
count_append_step x xs ys false true is_s is_t ih = omega (arith, ih)
count_append_step x xs ys false false is_s is_t ih = omega (arith, ih)

pub count_append : (xs ys : List ℕ) → count_distinct eqb (xs ++ ys) ≤ count_distinct eqb xs + count_distinct eqb ys
unfolding count_distinct
count_append [] ys = omega arith
count_append (x ∷ xs) ys = count_append_step x xs ys (member x xs) (member x (xs ++ ys)) refl refl (count_append xs ys)

-- where each new node is reached from r, at most r's beads are new
pub held_grows : (d e : Diagram) → IsReduced e → Keeps d e → (r : Ref) → IsLive e r → ((q : Ref) → IsLive e q → IsLive d q ⊎ Reaches e r q) → held e ≤ held d + beads e r
unfolding IsLive first_var Reaches
held_grows d e ok keeps r live fresh =
    let few = subset_count (nodes_of e.vars e.nodes) (nodes_of d.vars d.nodes ++ below e.nodes e.vars 0 r.place) (λ q is.
    let node = nodes_are e.vars e.nodes q is in
    let x : Ref = record { place = q } in
    let live_x : Live e.vars e.nodes q = (node.0, omega (arith, node.1), λ at. absurd (omega (arith, node.1, at))) in
    member_append q (nodes_of d.vars d.nodes) (below e.nodes e.vars 0 r.place) ∙ elim (fresh x live_x) [
      | inl old ↦ or_left (member q (nodes_of d.vars d.nodes)) (member q (below e.nodes e.vars 0 r.place)) (nodes_have d.vars d.nodes q old.0 (omega (arith, keeps.firsts x old, node.1, keeps.vars)))
      | inr reached ↦ or_right (member q (nodes_of d.vars d.nodes)) (member q (below e.nodes e.vars 0 r.place)) (reached node.1)
    ]) in
    omega (arith, few, count_append (nodes_of d.vars d.nodes) (below e.nodes e.vars 0 r.place), nodes_count e.vars e.nodes, nodes_count d.vars d.nodes, beads_are e ok r live, held_is e, held_is d)
