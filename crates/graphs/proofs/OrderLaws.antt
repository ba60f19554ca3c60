-- How an order grows.
use Rattle.std.proofs.Common.{◌≡◌, ◌≢◌, ℕ, ◌+◌, ◌<◌, ◌≤◌, ◌⊎◌, inl, inr, Bool, true, false, List, [], ◌∷◌, ◌++◌, take, length, get_or, replicate, set, count_by, cond, refl, sym, subst, ap, ◌∙◌, arith}
use Rattle.std.specs.List.{All, AllPairs, Any, Contains}
use Rattle.std.proofs.lemmas.Grind.{common_steps}
use Rattle.std.proofs.lemmas.List.{length-set, length-replicate, take-append-le, take_at}
use Rattle.std.proofs.lemmas.List.Sums.{count_by-le-length}
use Rattle.std.proofs.lemmas.List.Folds.{sum_by-replicate}
use Rattle.std.proofs.lemmas.List.Elements.{All-push, All-weaker, All-nil, All-contains, Contains-push, Contains-append_left}
use Rattle.std.proofs.lemmas.List.Quantifiers.{all_pairs_push}
use Rattle.std.proofs.lemmas.Bool.{false≢true, cases_lt, cases_Bool}
use Rattle.graphs.specs.Graph.{next}
use Rattle.graph_search.specs.Searches.{IsSeen}
use Rattle.graphs.specs.Ranks.{IsLeftOut, IsOrder}
use Rattle.graphs.specs.Placed.{IsSettled, Placed, Came}
use Rattle.graph_search.proofs.SearchLaws.{seen_kept, seen_new, seen_which, counted_step}

-- the order with one more
order_front : (order : List ℕ) (node k : ℕ) → k < length order → get_or (order ++ node ∷ []) k 0 ≡ get_or order k 0
order_front order node k h = grind (arith, common_steps)

order_last : (order : List ℕ) (node : ℕ) → get_or (order ++ node ∷ []) (length order) 0 ≡ node
order_last order node = grind (arith, common_steps)

order_longer : (order : List ℕ) (node : ℕ) → length (order ++ node ∷ []) ≡ length order + 1
order_longer order node = grind (arith, common_steps)

none_counted : (n : ℕ) → count_by (λ flag. flag) (replicate n false) ≡ 0
none_counted n = sum_by-replicate (λ (flag : Bool). cond flag 1 0) n false ∙ (omega arith)

module _ (graph : List (List ℕ)) (placed : List Bool) (order : List ℕ) (s : Placed graph placed order) where
  module _ (node : ℕ) (within : node < length graph) (none : get_or placed node false ≡ false) (ready : All (IsSeen placed) (next graph node)) where
    new_room : node < length placed
    new_room = omega (arith, s.room)

    new_stands : (x : ℕ) → IsSeen (set placed node true) x → Contains (order ++ node ∷ []) x
    new_stands x e = elim (seen_which placed node x e) [
      | inl same ↦ subst (Contains (order ++ node ∷ [])) (sym same) (Contains-push order node)
      | inr old ↦ Contains-append_left order (node ∷ []) x (s.stands x old)
    ]

    new_once : AllPairs (λ (earlier later : ℕ). earlier ≢ later) (order ++ node ∷ [])
    new_once = all_pairs_push (λ (earlier later : ℕ). earlier ≢ later) order node s.once (λ k d h e. false≢true (sym none ∙ ap (λ x. get_or placed x false) (sym e) ∙ s.has k d h))

    new_behind : (place : ℕ) → place < length (order ++ node ∷ []) → All (Contains (take place (order ++ node ∷ []))) (next graph (get_or (order ++ node ∷ []) place 0))
    new_behind place h = elim (cases_lt place (length order)) [
      | inl before ↦
          subst (λ front. All (Contains front) (next graph (get_or (order ++ node ∷ []) place 0))) (sym (take-append-le place order (node ∷ []) (omega arith)))
          (subst (λ x. All (Contains (take place order)) (next graph x)) (sym (order_front order node place before)) (s.behind place before))
      | inr last ↦
          let here : length order ≡ place = omega (arith, order_longer order node) in
          subst (λ p. All (Contains (take p (order ++ node ∷ []))) (next graph (get_or (order ++ node ∷ []) p 0))) here
          (subst (λ front. All (Contains front) (next graph (get_or (order ++ node ∷ []) (length order) 0))) (sym (take_at order (node ∷ []) (length order) refl))
          (subst (λ x. All (Contains order) (next graph x)) (sym (order_last order node)) (All-weaker (IsSeen placed) (Contains order) s.stands (next graph node) ready)))
    ]

    placed_more : Placed graph (set placed node true) (order ++ node ∷ [])
    placed_more = record {
      room = length-set placed node true ∙ s.room;
      counted = omega (arith, order_longer order node, s.counted, counted_step placed node new_room none);
      nodes = All-push (λ x. x < length graph) order node s.nodes within;
      has = All-push (IsSeen (set placed node true)) order node (All-weaker (IsSeen placed) (IsSeen (set placed node true)) (seen_kept placed node) order s.has) (seen_new placed node new_room);
      stands = new_stands;
      once = new_once;
      behind = new_behind;
    }

    -- a node that comes next
    pub came_next : Came graph (λ x. x ≡ node) placed (set placed node true) order (order ++ node ∷ []) true
    came_next = record {
      so_far = placed_more;
      grows = λ e. omega (arith, order_longer order node);
      same_placed = λ e. absurd (cc);
      same_order = λ e. absurd (cc);
      settled = λ e. absurd (cc);
    }

  -- nothing came
  pub came_none : (nodes : ℕ → Type 0) → ((x : ℕ) → nodes x → IsSettled graph placed x) → Came graph nodes placed placed order order false
  came_none nodes h = record {
    so_far = s;
    grows = λ e. absurd (cc);
    same_placed = λ e. refl;
    same_order = λ e. refl;
    settled = λ e. h;
  }

  -- one node settled
  pub one_settled : (node : ℕ) → IsSettled graph placed node → (x : ℕ) → x ≡ node → IsSettled graph placed x
  one_settled node h x e = subst (IsSettled graph placed) (sym e) h

  pub few : length order ≤ length graph
  few = omega (arith, s.counted, count_by-le-length (λ flag. flag) placed, s.room)

  -- where each node is settled, the order is whole
  pub is_order : ((x : ℕ) → x < length graph → IsSettled graph placed x) → IsOrder graph order
  is_order h = record {
    nodes = s.nodes;
    once = s.once;
    behind = s.behind;
    left_out = λ node l out. left node out (h node l);
  }
    where
      left : (node : ℕ) → IsLeftOut order node → IsSettled graph placed node → Any (IsLeftOut order) (next graph node)
      left node out (inl seen) = absurd (out (s.stands node seen))
      left node out (inr some) = (some.0, some.1, some.2, some.3, λ c. false≢true (sym some.4 ∙ All-contains (IsSeen placed) order some.1 s.has c))

-- no node has a place
pub placed_none : (graph : List (List ℕ)) (placed : List Bool) (order : List ℕ) → placed ≡ replicate (length graph) false → order ≡ [] → Placed graph placed order
placed_none graph placed order e f = subst (λ q. Placed graph placed q) (sym f) (subst (λ p. Placed graph p []) (sym e) (record {
  room = length-replicate (length graph) false;
  counted = sym (none_counted (length graph));
  nodes = All-nil (λ x. x < length graph);
  has = All-nil (IsSeen (replicate (length graph) false));
  stands = λ x h. absurd (none x h);
  once = λ i j d l m. absurd (omega arith);
  behind = λ p l. absurd (omega arith);
}))
  where
    none : (x : ℕ) → IsSeen (replicate (length graph) false) x → ⊥
    none x h = grind (arith, common_steps)

-- one node more: it came, or nothing changed
module _ (graph : List (List ℕ)) (i : ℕ) (placed mid after : List Bool) (order longer longest : List ℕ) (came more : Bool) (first : Came graph (λ x. x < i) placed mid order longer came) (last : Came graph (λ x. x ≡ i) mid after longer longest more) where
  pub came_then : more ≡ true → Came graph (λ x. x < i + 1) placed after order longest true
  came_then e = record {
    so_far = last.so_far;
    grows = λ f. grown (cases_Bool came);
    same_placed = λ f. absurd (cc);
    same_order = λ f. absurd (cc);
    settled = λ f. absurd (cc);
  }
    where
      grown : (came ≡ true) ⊎ (came ≡ false) → length order < length longest
      grown (inl f) = omega (arith, first.grows f, last.grows e)
      grown (inr f) = let same = ap length (first.same_order f) in omega (arith, same, last.grows e)

  pub came_still : more ≡ false → Came graph (λ x. x < i + 1) placed after order longest came
  came_still e = record {
    so_far = last.so_far;
    grows = λ f. let same = ap length (last.same_order e) in omega (arith, same, first.grows f);
    same_placed = λ f. last.same_placed e ∙ first.same_placed f;
    same_order = λ f. last.same_order e ∙ first.same_order f;
    settled = λ f x l. each f x l (cases_lt x i);
  }
    where
      each : came ≡ false → (x : ℕ) → x < i + 1 → (x < i) ⊎ (i ≤ x) → IsSettled graph placed x
      each f x l (inl b) = first.settled f x b
      each f x l (inr b) = subst (λ p. IsSettled graph p x) (first.same_placed f) (last.settled e x (omega arith))
