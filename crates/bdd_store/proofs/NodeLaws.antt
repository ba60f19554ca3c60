-- What stays of a diagram where its nodes stay, and what a node that is put adds.
use Rattle.std.proofs.Common.{◌≡◌, ◌≢◌, ℕ, ◌+◌, ◌<◌, ◌≤◌, ◌⊎◌, Bool, true, false, eqb, cond, List, [], ◌∷◌, ◌++◌, length, refl, sym, ◌∙◌, ap, subst, arith, inl, inr}
use Rattle.std.specs.List.{flat_map}
use Rattle.std.specs.Prelude.{Result, Ok, Err, OnErr}
use Rattle.bdd_store.specs.declared.Ref.{Ref}
use Rattle.bdd_store.specs.declared.chains.Node.{Node}
use Rattle.bdd_store.specs.Graph.{var_at, low_at, high_at, Live, step, walk, below, Reduced}
use Rattle.bdd_store.specs.Diagram.{Diagram, IsLive, ref_at, table, IsReduced, first_var, IsProper, Reaches, held, Keeps, HasMarks, KeepsMarks}
use Rattle.bdd_store.specs.Steps.{Grows, Stays, Gives, IsFound}
use Rattle.bdd_store.specs.Seen.{flag, places_of}
use Rattle.bdd_store.specs.Chains.{bucket_of, home, start, InChain, AllOf, Chained, Matches, SameGraph, Puts, node_count}
use Rattle.bdd_store.proofs.Walks.{step_here, step_live}
use Rattle.bdd_store.proofs.Seen.{closed_below}
use Rattle.bdd_store.proofs.Tables.{walk_node, walk_kept, zero_live, one_live}
use Rattle.bdd_store.proofs.Sets.{member}
use Rattle.bdd_store.proofs.Reach.{below_kept, below_self, below_branch}
use Rattle.bdd_store.proofs.Counts.{Each}
use Rattle.bdd_store.proofs.CountLaws.{places_live}
use Rattle.bdd_store.proofs.Laws.{equal_refs}
use Rattle.bdd_store.proofs.ChainLaws.{home_node}
use Rattle.bdd_store.proofs.Puts.{live_graph, graph_live, counted_graph}

-- each live place is live after, with its node
abbrev pub Extends : ℕ → List Node → List Node → Type 0
Extends n ns ms = (r : ℕ) → Live n ns r → Live n ms r × Matches ms r (var_at ns r) (low_at ns r) (high_at ns r)

pub graph_extends : (n : ℕ) (ns ms : List Node) → SameGraph ns ms → Extends n ns ms
graph_extends n ns ms graph r live = (live_graph n ns ms graph r live, (graph.vars r, graph.lows r, graph.highs r))

pub same_extends : (n : ℕ) (ns ms : List Node) → ms ≡ ns → Extends n ns ms
same_extends n ns ms e r live = subst (λ l. Live n l r × Matches l r (var_at ns r) (low_at ns r) (high_at ns r)) (sym e) (live, (refl, refl, refl))

-- so the tables stay
pub extends_keeps : (d e : Diagram) → IsReduced d → e.vars ≡ d.vars → Extends d.vars d.nodes e.nodes → Keeps d e
unfolding IsReduced IsLive table first_var Reaches
extends_keeps d e ok same_vars more =
    let n = d.vars in
    let ns = d.nodes in
    let same : (r : ℕ) → Live n ns r → (var_at e.nodes r ≡ var_at ns r) × (low_at e.nodes r ≡ low_at ns r) × (high_at e.nodes r ≡ high_at ns r) = λ r live. (more r live).1 in
    record {
      vars = same_vars;
      live = λ r live. subst (λ m. Live m e.nodes r.place) (sym same_vars) (more r.place live).0;
      tables = λ r live a. ap (λ m. eqb (walk e.nodes m 0 r.place a) 1) same_vars ∙ ap (λ p. eqb p 1) (walk_kept n ns e.nodes ok same n 0 r.place a (omega arith) live);
      reached = λ f r live_f live_r is proper.
          ap (λ m. member r.place (below e.nodes m 0 f.place)) same_vars
          ∙ ap (member r.place) (below_kept n ns e.nodes ok same n 0 f.place (omega arith) live_f)
          ∙ is (omega (arith, proper, (same r.place live_r).0, same_vars));
      firsts = λ r live. (same r.place live).0;
    }

all_below_kept : (n : ℕ) (ns ms : List Node) → Reduced n ns → Extends n ns ms → (ps : List ℕ) → Each (Live n ns) ps → flat_map (below ms n 0) ps ≡ flat_map (below ns n 0) ps
all_below_kept n ns ms ok more [] live = refl
all_below_kept n ns ms ok more (p ∷ ps) live =
    ap (λ l. l ++ flat_map (below ms n 0) ps) (below_kept n ns ms ok (λ r live_r. (more r live_r).1) n 0 p (omega arith) live.0)
    ∙ ap (λ l. below ns n 0 p ++ l) (all_below_kept n ns ms ok more ps live.1)

-- and the marks
pub extends_marks : (d e : Diagram) → IsReduced d → e.vars ≡ d.vars → Extends d.vars d.nodes e.nodes → ((q : ℕ) → flag e.marks q ≡ flag d.marks q) → KeepsMarks d e
unfolding IsReduced HasMarks
extends_marks d e ok same_vars more same fs live is q =
    same q ∙ is q ∙ sym (ap (λ m. member q (flat_map (below e.nodes m 0) (places_of fs))) same_vars ∙ ap (member q) (all_below_kept d.vars d.nodes e.nodes ok more (places_of fs) (places_live d fs live)))

pub marks_trans : (d e f : Diagram) → Keeps d e → KeepsMarks d e → KeepsMarks e f → KeepsMarks d f
marks_trans d e f keeps first second fs live is = second fs (λ i lt. keeps.live (ref_at fs i) (live i lt)) (first fs live is)

-- the same nodes
pub same_keeps : (d e : Diagram) → IsReduced d → e.vars ≡ d.vars → e.nodes ≡ d.nodes → Keeps d e
same_keeps d e ok same_vars same_nodes = extends_keeps d e ok same_vars (same_extends d.vars d.nodes e.nodes same_nodes)

pub same_marks : (d e : Diagram) → IsReduced d → e.vars ≡ d.vars → e.nodes ≡ d.nodes → e.marks ≡ d.marks → KeepsMarks d e
same_marks d e ok same_vars same_nodes same = extends_marks d e ok same_vars (same_extends d.vars d.nodes e.nodes same_nodes) (λ q. ap (λ l. flag l q) same)

pub same_sound : (d e : Diagram) → IsReduced d → e.vars ≡ d.vars → e.nodes ≡ d.nodes → IsReduced e
unfolding IsReduced
same_sound d e ok same_vars same_nodes = subst (λ ns. Reduced e.vars ns) (sym same_nodes) (subst (λ n. Reduced n d.nodes) (sym same_vars) ok)

pub same_live : (d e : Diagram) → e.vars ≡ d.vars → e.nodes ≡ d.nodes → (q : Ref) → IsLive e q → IsLive d q
unfolding IsLive
same_live d e same_vars same_nodes q live = subst (λ n. Live n d.nodes q.place) same_vars (subst (λ ns. Live e.vars ns q.place) same_nodes live)

pub held_is : (d : Diagram) → held d ≡ node_count d.vars d.nodes
unfolding held node_count
held_is d = refl

pub same_held : (d e : Diagram) → e.vars ≡ d.vars → e.nodes ≡ d.nodes → held e ≡ held d
same_held d e same_vars same_nodes = held_is e ∙ ap (λ n. node_count n e.nodes) same_vars ∙ ap (node_count d.vars) same_nodes ∙ sym (held_is d)

-- the same nodes but for their links
pub reduced_graph : (n : ℕ) (ns ms : List Node) → Reduced n ns → SameGraph ns ms → Reduced n ms
reduced_graph n ns ms ok same =
    let old : (r : ℕ) → Live n ms r → Live n ns r = graph_live n ns ms same in
    let new : (r : ℕ) → Live n ns r → Live n ms r = live_graph n ns ms same in
    let lt_old : (r : ℕ) → var_at ms r < n → var_at ns r < n = λ r lt. omega (arith, same.vars r, lt) in
    record {
      constants = omega (arith, ok.constants, same.count);
      zero_last = same.vars 0 ∙ ok.zero_last;
      one_last = same.vars 1 ∙ ok.one_last;
      low_live = λ r live lt. subst (Live n ms) (sym (same.lows r)) (new (low_at ns r) (ok.low_live r (old r live) (lt_old r lt)));
      high_live = λ r live lt. subst (Live n ms) (sym (same.highs r)) (new (high_at ns r) (ok.high_live r (old r live) (lt_old r lt)));
      low_later = λ r live lt. omega (arith, ok.low_later r (old r live) (lt_old r lt), same.vars r, ap (var_at ms) (same.lows r), same.vars (low_at ns r));
      high_later = λ r live lt. omega (arith, ok.high_later r (old r live) (lt_old r lt), same.vars r, ap (var_at ms) (same.highs r), same.vars (high_at ns r));
      differ = λ r live lt e. ok.differ r (old r live) (lt_old r lt) (sym (same.lows r) ∙ e ∙ same.highs r);
      unique = λ r q live_r live_q lt same_var same_low same_high.
          ok.unique r q (old r live_r) (old q live_q) (lt_old r lt) (sym (same.vars r) ∙ same_var ∙ same.vars q) (sym (same.lows r) ∙ same_low ∙ same.lows q) (sym (same.highs r) ∙ same_high ∙ same.highs q);
    }

-- the table of a node, by its children's
pub node_table : (d : Diagram) → IsReduced d → (r lo hi : Ref) (v : ℕ) → IsLive d r → v < d.vars → Matches d.nodes r.place v lo.place hi.place → (a : ℕ → Bool) → table d r a ≡ cond (a v) (table d hi a) (table d lo a)
unfolding IsReduced IsLive table
node_table d ok r lo hi v live lt is a =
    let n = d.vars in
    let ns = d.nodes in
    let w = var_at ns r.place in
    ap (λ p. eqb p 1) (walk_node n ns ok r.place a live (omega (arith, is.0)))
    ∙ ap (λ p. eqb (walk ns n 0 p a) 1) (step_here ns w r.place (a w) refl ∙ ap (λ x. cond (a x) (high_at ns r.place) (low_at ns r.place)) is.0)
    ∙ by_case (a v)
  where
    by_case : (x : Bool) → eqb (walk d.nodes d.vars 0 (cond x (high_at d.nodes r.place) (low_at d.nodes r.place)) a) 1 ≡ cond x (eqb (walk d.nodes d.vars 0 hi.place a) 1) (eqb (walk d.nodes d.vars 0 lo.place a) 1)
    by_case true = ap (λ p. eqb (walk d.nodes d.vars 0 p a) 1) is.2
    by_case false = ap (λ p. eqb (walk d.nodes d.vars 0 p a) 1) is.1

-- a node whose chain does not have it is nowhere
pub absent_everywhere : (n : ℕ) (ns : List Node) (heads : List ℕ) (free : ℕ) → Reduced n ns → Chained n ns heads free (AllOf ns) → (var low high b head : ℕ) → var < n → b ≡ bucket_of var low high (length heads) → head ≡ start heads free b
    → ((r : ℕ) → 0 < r → InChain ns head r → Matches ns r var low high → ⊥)
    → (r : ℕ) → Live n ns r → Matches ns r var low high → ⊥
absent_everywhere n ns heads free ok chained var low high b head lt is_b is_head none r live is =
    let lt_r : var_at ns r < n = omega (arith, is.0) in
    let place : home n ns (length heads) r ≡ b =
    home_node n ns (length heads) r lt_r ∙ ap (λ x. bucket_of x (low_at ns r) (high_at ns r) (length heads)) is.0 ∙ ap (λ x. bucket_of var x (high_at ns r) (length heads)) is.1 ∙ ap (λ x. bucket_of var low x (length heads)) is.2 ∙ sym is_b in
    let not_zero : r ≢ 0 = λ e. omega (arith, is.0, ok.zero_last, ap (var_at ns) e) in
    let not_one : r ≢ 1 = λ e. omega (arith, is.0, ok.one_last, ap (var_at ns) e) in
    none r (omega arith) (subst (λ h. InChain ns h r) (ap (start heads free) place ∙ sym is_head) (chained.listed r (omega arith) live.0)) is

module _ (n : ℕ) (ns ms : List Node) (f var low high : ℕ) (ok : Reduced n ns) (puts : Puts n ns ms f var low high) where
  reduced_put : var < n → Live n ns low → Live n ns high → var < var_at ns low → var < var_at ns high → low ≢ high → ((r : ℕ) → Live n ns r → Matches ns r var low high → ⊥) → Reduced n ms
  reduced_put var_in low_live high_live low_later high_later differ absent =
      let kept : (r q : ℕ) → r ≡ q → Live n ns q → Live n ms r = λ r q e live. subst (Live n ms) (sym e) (puts.same q live).0 in
      let var_kept : (r q : ℕ) → r ≡ q → Live n ns q → var_at ms r ≡ var_at ns q = λ r q e live. ap (var_at ms) e ∙ (puts.same q live).1.0 in
      let var_f : (r : ℕ) → r ≡ f → var_at ms r ≡ var = λ r e. ap (var_at ms) e ∙ puts.here.0 in
      let low_f : (r : ℕ) → r ≡ f → low_at ms r ≡ low = λ r e. ap (low_at ms) e ∙ puts.here.1 in
      let high_f : (r : ℕ) → r ≡ f → high_at ms r ≡ high = λ r e. ap (high_at ms) e ∙ puts.here.2 in
      record {
        constants = (puts.same 1 (one_live n ns ok)).0.0;
        zero_last = (puts.same 0 (zero_live n ns ok)).1.0 ∙ ok.zero_last;
        one_last = (puts.same 1 (one_live n ns ok)).1.0 ∙ ok.one_last;
        low_live = λ r live lt. elim (puts.only r live) [
          | inl old ↦ let is = (puts.same r old).1 in kept (low_at ms r) (low_at ns r) is.1 (ok.low_live r old (omega (arith, is.0, lt)))
          | inr at ↦ kept (low_at ms r) low (low_f r at) low_live
        ];
        high_live = λ r live lt. elim (puts.only r live) [
          | inl old ↦ let is = (puts.same r old).1 in kept (high_at ms r) (high_at ns r) is.2 (ok.high_live r old (omega (arith, is.0, lt)))
          | inr at ↦ kept (high_at ms r) high (high_f r at) high_live
        ];
        low_later = λ r live lt. elim (puts.only r live) [
          | inl old ↦
              let is = (puts.same r old).1 in
              let lt_ns : var_at ns r < n = omega (arith, is.0, lt) in
              omega (arith, ok.low_later r old lt_ns, is.0, var_kept (low_at ms r) (low_at ns r) is.1 (ok.low_live r old lt_ns))
          | inr at ↦ omega (arith, low_later, var_f r at, var_kept (low_at ms r) low (low_f r at) low_live)
        ];
        high_later = λ r live lt. elim (puts.only r live) [
          | inl old ↦
              let is = (puts.same r old).1 in
              let lt_ns : var_at ns r < n = omega (arith, is.0, lt) in
              omega (arith, ok.high_later r old lt_ns, is.0, var_kept (high_at ms r) (high_at ns r) is.2 (ok.high_live r old lt_ns))
          | inr at ↦ omega (arith, high_later, var_f r at, var_kept (high_at ms r) high (high_f r at) high_live)
        ];
        differ = λ r live lt same. elim (puts.only r live) [
          | inl old ↦ let is = (puts.same r old).1 in ok.differ r old (omega (arith, is.0, lt)) (sym is.1 ∙ same ∙ is.2)
          | inr at ↦ differ (sym (low_f r at) ∙ same ∙ high_f r at)
        ];
        unique = λ r q live_r live_q lt same_var same_low same_high. elim (puts.only r live_r) [
          | inl old_r ↦
              let is_r = (puts.same r old_r).1 in
              elim (puts.only q live_q) [
                | inl old_q ↦ let is_q = (puts.same q old_q).1 in ok.unique r q old_r old_q (omega (arith, is_r.0, lt)) (sym is_r.0 ∙ same_var ∙ is_q.0) (sym is_r.1 ∙ same_low ∙ is_q.1) (sym is_r.2 ∙ same_high ∙ is_q.2)
                | inr at_q ↦ absurd (absent r old_r (sym is_r.0 ∙ same_var ∙ var_f q at_q, sym is_r.1 ∙ same_low ∙ low_f q at_q, sym is_r.2 ∙ same_high ∙ high_f q at_q))
              ]
          | inr at_r ↦ elim (puts.only q live_q) [
            | inl old_q ↦ let is_q = (puts.same q old_q).1 in absurd (absent q old_q (sym is_q.0 ∙ sym same_var ∙ var_f r at_r, sym is_q.1 ∙ sym same_low ∙ low_f r at_r, sym is_q.2 ∙ sym same_high ∙ high_f r at_r))
            | inr at_q ↦ at_r ∙ sym at_q
          ]
        ];
      }

same_place : (r q : Ref) → r.place ≡ q.place → r ≡ q
same_place r q e = ap (λ (p : ℕ). let x : Ref = record { place = p } in x) e

-- what lies below a child lies below the node
module _ (n : ℕ) (ns : List Node) (ok : Reduced n ns) where
  child_below : (r child q : ℕ) (x : Bool) → Live n ns r → var_at ns r < n → child ≡ step ns (var_at ns r) r x → member q (below ns n 0 child) ≡ true → member q (below ns n 0 r) ≡ true
  child_below r child q x live lt is_child inside =
      closed_below n ns ok (below ns n 0 r) (λ p y in_p lt_p. below_branch n ns ok n 0 r p y (omega arith) live (omega arith) in_p lt_p) n 0 child q (omega arith)
      (subst (Live n ns) (sym is_child) (step_live n ns ok (var_at ns r) r x live lt)) (omega arith)
      (λ lt_child. subst (λ p. member p (below ns n 0 r) ≡ true) (sym is_child) (below_branch n ns ok n 0 r r x (omega arith) live (omega arith) (below_self ns n 0 r (omega arith) (omega arith)) (omega (arith, lt_child, ap (var_at ns) is_child)))) inside

pub reaches_child : (d : Diagram) → IsReduced d → (r child q : Ref) (x : Bool) → IsLive d r → IsProper d r → child.place ≡ cond x (high_at d.nodes r.place) (low_at d.nodes r.place) → Reaches d child q → Reaches d r q
unfolding IsReduced IsLive first_var Reaches
reaches_child d ok r child q x live lt is_child is proper = child_below d.vars d.nodes ok r.place child.place q.place x live lt (is_child ∙ sym (step_here d.nodes (var_at d.nodes r.place) r.place x refl)) (is proper)

-- a node of the diagram gives itself
node_gives : (d e : Diagram) → IsReduced e → Keeps d e → (var : ℕ) (lo hi r : Ref) → var < e.vars → IsLive d lo → IsLive d hi → IsLive e r → Matches e.nodes r.place var lo.place hi.place
    → ((q : Ref) → IsLive e q → IsLive d q ⊎ (q ≡ r)) → Gives d e var lo hi r
unfolding first_var
node_gives d e ok keeps var lo hi r var_in lo_live hi_live live is fresh =
    let proper : IsProper e r = omega (arith, is.0, var_in) in
    record {
      live = live;
      first = omega (arith, is.0);
      tables = λ a.
          node_table e ok r lo hi var live var_in is a
          ∙ ap (λ x. cond (a var) x (table e lo a)) (keeps.tables hi hi_live a) ∙ ap (λ x. cond (a var) (table d hi a) x) (keeps.tables lo lo_live a);
      reached = λ q live_q which. elim which [
        | inl at_lo ↦ reaches_child e ok r lo q false live proper (sym is.1) (keeps.reached lo q lo_live live_q at_lo)
        | inr at_hi ↦ reaches_child e ok r hi q true live proper (sym is.2) (keeps.reached hi q hi_live live_q at_hi)
      ];
      fresh = fresh;
    }

-- the same nodes: nothing new
pub same_grows : (d e : Diagram) → IsReduced d → e.vars ≡ d.vars → e.nodes ≡ d.nodes → e.marks ≡ d.marks → Grows d e
same_grows d e ok same_vars same_nodes same = record { sound = same_sound d e ok same_vars same_nodes; keeps = same_keeps d e ok same_vars same_nodes; marks = same_marks d e ok same_vars same_nodes same }

pub same_stays : (d e : Diagram) → IsReduced d → e.vars ≡ d.vars → e.nodes ≡ d.nodes → e.marks ≡ d.marks → Stays d e
same_stays d e ok same_vars same_nodes same = record { grows = same_grows d e ok same_vars same_nodes same; only = same_live d e same_vars same_nodes; held = same_held d e same_vars same_nodes }

pub graph_stays : (d e : Diagram) → IsReduced d → e.vars ≡ d.vars → SameGraph d.nodes e.nodes → e.marks ≡ d.marks → Stays d e
unfolding IsReduced IsLive
graph_stays d e ok same_vars graph same =
    let more = graph_extends d.vars d.nodes e.nodes graph in
    record {
      grows = record {
        sound = subst (λ m. Reduced m e.nodes) (sym same_vars) (reduced_graph d.vars d.nodes e.nodes ok graph);
        keeps = extends_keeps d e ok same_vars more;
        marks = extends_marks d e ok same_vars more (λ q. ap (λ l. flag l q) same);
      };
      only = λ q live. graph_live d.vars d.nodes e.nodes graph q.place (subst (λ m. Live m e.nodes q.place) same_vars live);
      held = held_is e ∙ ap (λ m. node_count m e.nodes) same_vars ∙ counted_graph d.vars d.nodes e.nodes graph ∙ sym (held_is d);
    }

-- a node that was found
pub found_gives : (d e : Diagram) → IsReduced d → e.vars ≡ d.vars → e.nodes ≡ d.nodes → (var : ℕ) (lo hi r : Ref) → var < d.vars → IsLive d lo → IsLive d hi → (r.place < length d.nodes) × Matches d.nodes r.place var lo.place hi.place → Gives d e var lo hi r
unfolding IsLive
found_gives d e ok same_vars same_nodes var lo hi r var_in lo_live hi_live is =
    let live : IsLive d r = (is.0, omega (arith, is.1.0, var_in), λ at. absurd (omega (arith, is.1.0, var_in, at))) in
    let keeps = same_keeps d e ok same_vars same_nodes in
    node_gives d e (same_sound d e ok same_vars same_nodes) keeps var lo hi r (omega (arith, var_in, same_vars)) lo_live hi_live (keeps.live r live) (subst (λ ns. Matches ns r.place var lo.place hi.place) (sym same_nodes) is.1)
    (λ q live_q. inl (same_live d e same_vars same_nodes q live_q))

cond_same : {A : Type 0} (x : Bool) (y : A) → y ≡ cond x y y
cond_same true y = refl
cond_same false y = refl

-- two equal children: their function
pub child_gives : (d e : Diagram) → IsReduced d → e.vars ≡ d.vars → e.nodes ≡ d.nodes → (var : ℕ) (lo hi : Ref) → IsLive d lo → var < first_var d lo → lo.place ≡ hi.place → Gives d e var lo hi lo
child_gives d e ok same_vars same_nodes var lo hi lo_live later same =
    let keeps = same_keeps d e ok same_vars same_nodes in
    let one : lo ≡ hi = same_place lo hi same in
    record {
      live = keeps.live lo lo_live;
      first = omega (arith, later, keeps.firsts lo lo_live);
      tables = λ a. keeps.tables lo lo_live a ∙ cond_same (a var) (table d lo a) ∙ ap (λ x. cond (a var) (table d x a) (table d lo a)) one;
      reached = λ q live_q which. elim which [ inl at_lo ↦ keeps.reached lo q lo_live live_q at_lo | inr at_hi ↦ keeps.reached lo q lo_live live_q (subst (λ x. Reaches d x q) (sym one) at_hi) ];
      fresh = λ q live_q. inl (same_live d e same_vars same_nodes q live_q);
    }

-- a node that was put
pub record IsPut (d e : Diagram) (var : ℕ) (lo hi r : Ref) : Type 0 where
  pub grows : Grows d e
  pub gives : Gives d e var lo hi r
  pub absent : (q : Ref) → IsLive d q → IsFound d var lo hi q → ⊥

pub put_gives : (d e : Diagram) → IsReduced d → e.vars ≡ d.vars → ((q : ℕ) → flag e.marks q ≡ flag d.marks q) → (var : ℕ) (lo hi r : Ref) → var < d.vars → IsLive d lo → IsLive d hi → var < first_var d lo → var < first_var d hi → lo.place ≢ hi.place
    → ((p : ℕ) → Live d.vars d.nodes p → Matches d.nodes p var lo.place hi.place → ⊥)
    → Puts d.vars d.nodes e.nodes r.place var lo.place hi.place → IsPut d e var lo hi r
unfolding IsReduced IsLive first_var
put_gives d e ok same_vars same_flags var lo hi r var_in lo_live hi_live lo_later hi_later differ absent puts =
    let reduced = reduced_put d.vars d.nodes e.nodes r.place var lo.place hi.place ok puts var_in lo_live hi_live lo_later hi_later differ absent in
    let sound : IsReduced e = subst (λ m. Reduced m e.nodes) (sym same_vars) reduced in
    let keeps = extends_keeps d e ok same_vars puts.same in
    let live : IsLive e r = subst (λ m. Live m e.nodes r.place) (sym same_vars) puts.live in
    let fresh : (q : Ref) → IsLive e q → IsLive d q ⊎ (q ≡ r) = λ q live_q. elim (puts.only q.place (subst (λ m. Live m e.nodes q.place) same_vars live_q)) [ inl old ↦ inl old | inr at ↦ inr (same_place q r at) ] in
    let gives = node_gives d e sound keeps var lo hi r (omega (arith, var_in, same_vars)) lo_live hi_live live puts.here fresh in
    record {
      grows = record { sound = sound; keeps = keeps; marks = extends_marks d e ok same_vars puts.same same_flags };
      gives = gives;
      absent = λ q live_q same.
          let at : q ≡ r = equal_refs e sound q r (keeps.live q live_q) live (λ a. keeps.tables q live_q a ∙ same a ∙ sym (gives.tables a)) in
          let old : Live d.vars d.nodes r.place = subst (λ x. Live d.vars d.nodes x.place) at live_q in
          let is = (puts.same r.place old).1 in
          absent r.place old (sym is.0 ∙ puts.here.0, sym is.1 ∙ puts.here.1, sym is.2 ∙ puts.here.2);
    }

-- one step after another
pub gives_stays : (d e f : Diagram) (var : ℕ) (lo hi r : Ref) → Grows d e → Gives d e var lo hi r → Stays e f → Gives d f var lo hi r
gives_stays d e f var lo hi r grows gives stays = record {
  live = stays.grows.keeps.live r gives.live;
  first = omega (arith, gives.first, stays.grows.keeps.firsts r gives.live);
  tables = λ a. stays.grows.keeps.tables r gives.live a ∙ gives.tables a;
  reached = λ q live which. stays.grows.keeps.reached r q gives.live (grows.keeps.live q live) (gives.reached q live which);
  fresh = λ q live. gives.fresh q (stays.only q live);
}

pub stays_from : (d f e : Diagram) → d ≡ f → Stays d e → Stays f e
stays_from d f e same stays = subst (λ x. Stays x e) same stays

-- the same nodes, and the same flags one by one
pub flags_grows : (d e : Diagram) → IsReduced d → e.vars ≡ d.vars → e.nodes ≡ d.nodes → ((q : ℕ) → flag e.marks q ≡ flag d.marks q) → Grows d e
flags_grows d e ok same_vars same_nodes same = record { sound = same_sound d e ok same_vars same_nodes; keeps = same_keeps d e ok same_vars same_nodes; marks = extends_marks d e ok same_vars (same_extends d.vars d.nodes e.nodes same_nodes) same }

pub on_err : {A E : Type 0} (r : Result A E) (P : Type 0) → P → OnErr r P
on_err (Ok x) P p = tt
on_err (Err e) P p = p

pub le_more : (a b k : ℕ) → a ≡ b → a ≤ b + k
le_more a b k e = omega arith
