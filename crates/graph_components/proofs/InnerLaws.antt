-- Inner edges, and the first node of each label.
use Rattle.std.proofs.Common.{◌≡◌, ℕ, zero, suc, ◌+◌, ◌<◌, List, [], ◌∷◌, ◌++◌, filter, length, get_or, drop, set, replicate, Bool, true, false, cond, refl, ap, sym, subst, ◌∙◌, ◌⊎◌, inl, inr, nat_eq, arith, add-one, drop-cons}
use Rattle.std.specs.List.{Contains}
use Rattle.std.proofs.lemmas.Bool.Decides.{nat_tests}
use Rattle.std.specs.Global.{Vec}
use Rattle.std.proofs.lemmas.Bool.{false≢true}
use Rattle.std.proofs.lemmas.List.{append_assoc, map-append, length-replicate}
use Rattle.std.proofs.lemmas.List.Elements.{Contains-push_cases}
use Rattle.graph_search.specs.Walks.{Walk, here, step, lists, follow}
use Rattle.graph_search.specs.Searches.{IsSeen, IsQueue, IsExplored, Saw}
use Rattle.graph_search.specs.Reverse.{after, AreNumbers, IsGraph}
use Rattle.graph_search.proofs.SearchLaws.{seen_kept, seen_new}
use Rattle.graph_search.proofs.ReachedLaws.{came, queued, marked_queue, from_none}
use Rattle.graph_search.proofs.ReverseLaws.{by_itself, edges_within, items_at, lists_long}
use Rattle.graph_components.specs.Components.{IsInner, IsAllFound}
use Rattle.graph_components.specs.Inner.{alike, inner, AreMet}

none_in : {P : Type 0} (x : ℕ) → Contains [] x → P
none_in x c = let l = c.1 in absurd (omega (arith, l))

-- ---- members

uncons : {X : Type 0} (x : X) (xs : List X) (y : X) → Contains (x ∷ xs) y → (x ≡ y) ⊎ Contains xs y
uncons x xs y c = at c.0 c.1 c.2
  where
    at : (k : ℕ) → k < length (x ∷ xs) → get_or (x ∷ xs) k y ≡ y → (x ≡ y) ⊎ Contains xs y
    at zero l e = inl e
    at (suc k) l e = inr (k, omega arith, e)

head : {X : Type 0} (x : X) (xs : List X) → Contains (x ∷ xs) x
head x xs = (0, omega arith, refl)

behind : {X : Type 0} (x : X) (xs : List X) (y : X) → Contains xs y → Contains (x ∷ xs) y
behind x xs y c = let l = c.1 in (suc c.0, omega (arith, l), c.2)

equal : (m n : ℕ) → nat_eq m n ≡ true → m ≡ n
equal m n e = grind (arith, nat_tests)

filtered : (p : ℕ → Bool) (xs : List ℕ) (y : ℕ) → Contains (filter p xs) y → Contains xs y × (p y ≡ true)
filtered p [] y c = none_in y c
filtered p (x ∷ xs) y c = at (filtered p xs y) (p x) refl c
  where
    at : (Contains (filter p xs) y → Contains xs y × (p y ≡ true)) → (b : Bool) → p x ≡ b → Contains (cond b (x ∷ filter p xs) (filter p xs)) y → Contains (x ∷ xs) y × (p y ≡ true)
    at further true e c = elim (uncons x (filter p xs) y c) [
      | inl s ↦ (subst (Contains (x ∷ xs)) s (head x xs), subst (λ z. p z ≡ true) s e)
      | inr r ↦ let f = further r in (behind x xs y f.0, f.1)
    ]
    at further false e c = let f = further c in (behind x xs y f.0, f.1)

-- ---- inner edges

module _ (labels : List ℕ) where
  inner-room : (s : ℕ) (graph : List (List ℕ)) → length (inner labels s graph) ≡ length graph
  inner-room s [] = refl
  inner-room s (nodes ∷ graph) = ap suc (inner-room (suc s) graph)

  inner-edges : (s : ℕ) (graph : List (List ℕ)) (x y : ℕ) → Contains (after (inner labels s graph) x) y → Contains (after graph x) y × (get_or labels (s + x) 0 ≡ get_or labels y 0)
  inner-edges s [] x y c = none_in y c
  inner-edges s (nodes ∷ graph) zero y c =
      let f = filtered (λ x. nat_eq (get_or labels x 0) (get_or labels s 0)) nodes y c in
      (f.0, ap (λ n. get_or labels n 0) (let same : s + 0 ≡ s = omega arith in same) ∙ sym (equal (get_or labels y 0) (get_or labels s 0) f.1))
  inner-edges s (nodes ∷ graph) (suc x) y c =
      let r = inner-edges (suc s) graph x y c in
      (r.0, ap (λ n. get_or labels n 0) (let same : s + suc x ≡ suc s + x = omega arith in same) ∙ r.1)

  pub is_inner : (graph inside : List (List ℕ)) → inside ≡ inner labels 0 graph → IsInner graph labels inside
  is_inner graph inside e = subst (IsInner graph labels) (sym e) (record {
    room = inner-room 0 graph;
    edges = λ x y c. let r = inner-edges 0 graph x y c in (r.0, ap (λ n. get_or labels n 0) (let same : x ≡ 0 + x = omega arith in same) ∙ r.1);
  })

  -- inner edges lead to nodes
  pub inner_is_graph : (graph inside : List (List ℕ)) → IsGraph graph → IsInner graph labels inside → IsGraph inside
  inner_is_graph graph inside is e x y c = let l = is x y (e.edges x y c).0 in let r = e.room in omega (arith, l, r)

-- ---- one node after another

module _ (labels : List ℕ) where
  pub one_node : (graph : List (Vec ℕ)) (k : ℕ) (nodes list : Vec ℕ) (old new : List (Vec ℕ)) (whole : List (List ℕ)) → k < length graph → nodes ≡ get_or graph k nodes → list.items ≡ alike labels (get_or labels k 0) nodes.items → new ≡ old ++ list ∷ [] →
      lists old ++ inner labels k (drop k (lists graph)) ≡ whole → lists new ++ inner labels (k + 1) (drop (k + 1) (lists graph)) ≡ whole
  one_node graph k nodes list old new whole h e is p known =
      let from_here : drop k (lists graph) ≡ nodes.items ∷ drop (suc k) (lists graph) =
      drop-cons (lists graph) k [] (let l = lists_long graph in omega (arith, h, l)) ∙ ap (λ x. x ∷ drop (suc k) (lists graph)) (sym (items_at graph k nodes h e)) in
      ap (λ l. lists l ++ inner labels (k + 1) (drop (k + 1) (lists graph))) p
      ∙ ap (λ l. l ++ inner labels (k + 1) (drop (k + 1) (lists graph))) (map-append (λ (list : Vec ℕ). list.items) old (list ∷ []))
      ∙ append_assoc (lists old) (list.items ∷ []) (inner labels (k + 1) (drop (k + 1) (lists graph)))
      ∙ ap (λ x. lists old ++ x ∷ inner labels (k + 1) (drop (k + 1) (lists graph))) is
      ∙ ap (λ n. lists old ++ alike labels (get_or labels k 0) nodes.items ∷ inner labels n (drop n (lists graph))) (add-one k)
      ∙ ap (λ l. lists old ++ inner labels k l) (sym from_here)
      ∙ known

  -- a label that was met by no root so far
  pub met_more : (met : List Bool) (roots : List ℕ) (node : ℕ) → node < length labels → get_or labels node 0 < length met → get_or met (get_or labels node 0) false ≡ false → AreMet labels met roots →
      AreMet labels (set met (get_or labels node 0) true) (roots ++ node ∷ [])
  met_more met roots node below within new known = record {
    are_roots = record {
      nodes = λ x c. elim (Contains-push_cases roots node x c) [ inl old ↦ known.are_roots.nodes x old | inr is ↦ subst (λ z. z < length labels) is below ];
      apart = λ x y c d e. elim (Contains-push_cases roots node x c) [
        | inl old ↦ elim (Contains-push_cases roots node y d) [
          | inl other ↦ known.are_roots.apart x y old other e
          | inr is ↦ absurd (fresh x old (e ∙ ap label (sym is)))
        ]
        | inr is ↦ elim (Contains-push_cases roots node y d) [
          | inl other ↦ absurd (fresh y other (sym e ∙ ap label (sym is)))
          | inr same ↦ sym is ∙ same
        ]
      ];
    };
    are_marked = λ x c. elim (Contains-push_cases roots node x c) [
      | inl old ↦ seen_kept met (label node) (label x) (known.are_marked x old)
      | inr is ↦ subst (λ z. IsSeen (set met (label node) true) (label z)) is (seen_new met (label node) within)
    ];
  }
    where
      label : ℕ → ℕ
      label x = get_or labels x 0

      fresh : (x : ℕ) → Contains roots x → get_or labels x 0 ≡ get_or labels node 0 → ⊥
      fresh x old e = let m : get_or met (get_or labels x 0) false ≡ true = known.are_marked x old in false≢true (sym new ∙ (ap (λ l. get_or met l false) (sym e) ∙ m))

-- ---- what a search marks

module _ (graph : List (List ℕ)) (numbers roots : List ℕ) (are : AreNumbers (length graph) numbers) where
  on : {x y : ℕ} → Walk (follow graph numbers) x y → Walk (after graph) x y
  on here = here
  on (step {x = x} {y = y} c w) = step (subst (λ l. Contains l y) (by_itself graph numbers are x) c) (on w)

  pub all_found : (n : ℕ) (begun seen marks : List Bool) (none queue longer : List ℕ) → n ≡ length graph → begun ≡ replicate n false → none ≡ [] → Saw roots begun seen none queue →
      IsExplored (follow graph numbers) seen marks queue longer → ((k : ℕ) → k < length marks → get_or marks k false ≡ true) → IsAllFound graph roots
  all_found n begun seen marks none queue longer size b e saw all marked x h =
      let first : Saw roots (replicate n false) seen [] queue = from_none n roots begun seen none queue b e saw in
      let room : length marks ≡ length graph = all.room ∙ (first.room ∙ (length-replicate n false ∙ size)) in
      let there : Contains longer x = elim (all.told x (marked x (omega (arith, h, room)))) [ inl old ↦ all.front x (marked_queue n roots seen queue first x old) | inr c ↦ c ] in
      let r = all.reached x there in
      (r.0, (came n roots seen queue first r.0).0 r.1, on r.2)

  pub from_nodes : (n : ℕ) (begun seen : List Bool) (none queue : List ℕ) → n ≡ length graph → IsGraph graph → begun ≡ replicate n false → none ≡ [] → Saw roots begun seen none queue →
      ((x y : ℕ) → Contains (follow graph numbers x) y → y < length seen) × IsQueue seen queue
  from_nodes n begun seen none queue size is b e saw =
      let first : Saw roots (replicate n false) seen [] queue = from_none n roots begun seen none queue b e saw in (
        λ x y c. let l = edges_within graph numbers are is x y c in let r = first.room in let m = length-replicate n false in omega (arith, l, r, m, size),
        queued n roots seen queue first,
      )
