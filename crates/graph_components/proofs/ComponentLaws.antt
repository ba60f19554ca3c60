-- Labels that hold are those of components.
use Rattle.std.proofs.Common.{◌≡◌, ℕ, ◌<◌, ◌≤◌, ◌↔◌, inl, inr, Bool, List, [], length, get_or, refl, sym, subst, ◌∙◌, arith}
use Rattle.std.specs.List.{Contains}
use Rattle.std.proofs.lemmas.Bool.{cases_lt}
use Rattle.std.proofs.lemmas.List.{get_or_past}
use Rattle.graph_search.specs.Walks.{Walk, here, step, follow}
use Rattle.graph_search.specs.Searches.{IsSeen}
use Rattle.graph_search.specs.Reverse.{after, AreNumbers, IsGraph, IsReverse}
use Rattle.graph_search.proofs.ReverseLaws.{by_itself}
use Rattle.graph_components.specs.Components.{AreComponents, AreMates, IsFirstMate, Rises, IsInner, AreRoots, IsAllFound, IsJoined}
use Rattle.graph_components.specs.Inner.{IsFirstBoth}

module _ (f : ℕ → List ℕ) where
  then : {x y z : ℕ} → Walk f x y → Walk f y z → Walk f x z
  then here q = q
  then (step c p) q = step c (then p q)

module _ (graph inner : List (List ℕ)) (labels roots : List ℕ) (long : length labels ≡ length graph) (rises : Rises graph labels) (is_inner : IsInner graph labels inner)
    (are : AreRoots labels roots) (joined : IsJoined inner roots) where
  abbrev label : ℕ → ℕ
  label x = get_or labels x 0

  -- walks along inner edges
  outside : {x y : ℕ} → Walk (after inner) x y → Walk (after graph) x y
  outside here = here
  outside (step {x = x} {y = y} c w) = step (is_inner.edges x y c).0 (outside w)

  one_label : {x y : ℕ} → Walk (after inner) x y → label x ≡ label y
  one_label here = refl
  one_label (step {x = x} {y = y} c w) = (is_inner.edges x y c).1 ∙ one_label w

  higher : {x y : ℕ} → Walk (after graph) x y → label x ≤ label y
  higher here = omega arith
  higher (step {x = x} {y = y} c w) = let l = rises x y c in let m = higher w in omega (arith, l, m)

  leads_back : (x y : ℕ) → x < length graph → y < length graph → label x ≡ label y → Walk (after graph) y x
  leads_back x y lx ly same =
      let room = is_inner.room in
      let p = joined.found x (omega (arith, lx, room)) in
      let q = joined.leads y (omega (arith, ly, room)) in
      let from_root : Walk (after inner) p.0 x = p.2 in
      let to_root : Walk (after inner) y q.0 = q.2 in
      let one : q.0 ≡ p.0 = are.apart q.0 p.0 q.1 p.1 (sym (one_label to_root) ∙ (sym same ∙ sym (one_label from_root))) in
      then (after graph) (outside to_root) (subst (λ r. Walk (after graph) r x) (sym one) (outside from_root))

  pub are_components : AreComponents graph labels
  are_components = record {
    room = long;
    same = λ x y lx ly. (
      λ e. (leads_back y x ly lx (sym e), leads_back x y lx ly e),
      λ m. let l = higher m.0 in let r = higher m.1 in omega (arith, l, r),
    );
  }

-- ---- back along edges

module _ (graph back : List (List ℕ)) (roots : List ℕ) (reverse : IsReverse graph back) where
  turned : {x y : ℕ} → Walk (after back) x y → Walk (after graph) y x
  turned here = here
  turned (step {x = x} {y = y} c w) = then (after graph) (turned w) (step ((reverse.edges y x).0 c) here)

  pub is_joined : IsAllFound graph roots → IsAllFound back roots → IsJoined graph roots
  is_joined found found_back = record {
    found = found;
    leads = λ x l. let q = found_back x (let r = reverse.room in omega (arith, l, r)) in (q.0, q.1, turned q.2);
  }

-- ---- the first node of each component

joined_mates : (graph : List (List ℕ)) {x y z : ℕ} → AreMates graph x y → AreMates graph y z → AreMates graph x z
joined_mates graph p q = (then (after graph) p.0 q.0, then (after graph) q.1 p.1)

turned_mates : (graph : List (List ℕ)) {x y : ℕ} → AreMates graph x y → AreMates graph y x
turned_mates graph p = (p.1, p.0)

-- they are labels of components
pub first_mates : (graph : List (List ℕ)) (labels : List ℕ) (nodes : ℕ) → nodes ≡ length graph → length labels ≡ nodes → ((x : ℕ) → x < nodes → IsFirstMate graph x (get_or labels x 0)) → AreComponents graph labels
first_mates graph labels nodes size long each = record {
  room = long ∙ size;
  same = λ x y lx ly.
      let p = each x (omega (arith, lx, size)) in
      let q = each y (omega (arith, ly, size)) in (
        λ e. joined_mates graph p.mate (subst (λ z. AreMates graph z y) (sym e) (turned_mates graph q.mate)),
        λ m.
            let l = p.least (get_or labels y 0) (joined_mates graph m q.mate) in
            let r = q.least (get_or labels x 0) (joined_mates graph (turned_mates graph m) p.mate) in
            omega (arith, l, r),
      );
}

-- the first node that is marked as led to and as leading here
pub first_is_mate : (graph : List (List ℕ)) (there and_back : List Bool) (node first : ℕ) → ((x : ℕ) → IsSeen there x ↔ Walk (after graph) node x) → ((x : ℕ) → IsSeen and_back x ↔ Walk (after graph) x node) →
    IsFirstBoth there and_back first → IsFirstMate graph node first
first_is_mate graph there and_back node first led leads is = record {
  mate = ((led first).0 is.there, (leads first).0 is.and_back);
  least = λ y m. is.least y ((led y).1 m.0) ((leads y).1 m.1);
}

-- where each node is named by itself, walks are the same
module _ (graph : List (List ℕ)) (numbers : List ℕ) (are : AreNumbers (length graph) numbers) where
  by_numbers : {x y : ℕ} → Walk (after graph) x y → Walk (follow graph numbers) x y
  by_numbers here = here
  by_numbers (step {x = x} {y = y} c w) = step (subst (λ l. Contains l y) (sym (by_itself graph numbers are x)) c) (by_numbers w)

  by_nodes : {x y : ℕ} → Walk (follow graph numbers) x y → Walk (after graph) x y
  by_nodes here = here
  by_nodes (step {x = x} {y = y} c w) = step (subst (λ l. Contains l y) (by_itself graph numbers are x) c) (by_nodes w)

  pub named : (x y : ℕ) → Walk (follow graph numbers) x y ↔ Walk (after graph) x y
  named x y = (by_nodes, by_numbers)

-- ---- what searches take

none_in : {P : Type 0} (x : ℕ) → Contains [] x → P
none_in x c = let l = c.1 in absurd (omega (arith, l))

pub back_is_graph : (graph back : List (List ℕ)) → IsReverse graph back → IsGraph back
back_is_graph graph back reverse y x c = elim (cases_lt x (length graph)) [
  | inl l ↦ let r = reverse.room in omega (arith, l, r)
  | inr p ↦ none_in y (subst (λ l. Contains l y) (get_or_past graph x [] p) ((reverse.edges x y).0 c))
]

pub roots_within : (labels roots same : List ℕ) (nodes : ℕ) → AreRoots labels roots → same ≡ roots → length labels ≡ nodes → (x : ℕ) → Contains same x → x < nodes
roots_within labels roots same nodes are e long x c = let b = are.nodes x (subst (λ l. Contains l x) e c) in omega (arith, b, long)
