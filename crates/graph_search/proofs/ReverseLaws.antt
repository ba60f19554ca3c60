-- Graphs from the ends of their edges.
use Rattle.std.proofs.Common.{◌≡◌, ℕ, zero, suc, ◌+◌, ◌<◌, ◌≤◌, ◌⊎◌, ◌↔◌, inl, inr, List, [], ◌∷◌, ◌++◌, map, take, length, get_or, set, replicate, Some, refl, sym, subst, ap, ◌∙◌, arith}
use Rattle.std.specs.List.{Contains}
use Rattle.std.specs.Global.{Vec}
use Rattle.std.proofs.lemmas.Grind.{common_steps}
use Rattle.std.proofs.lemmas.List.{get_or_past, length-set, length-take, get_or-take, take_all, get_or-set_other, get_or-set_same, length-map, length-replicate, map-set}
use Rattle.std.proofs.lemmas.List.Elements.{Contains-append_left, Contains-push, Contains-push_cases}
use Rattle.std.proofs.lemmas.Option.{slice_get-get_or, slice_get_past}
use Rattle.std.proofs.lemmas.Bool.{cases_eq, cases_lt}
use Rattle.graph_search.specs.Walks.{lists, held, list_at, follow, Walk, here, step}
use Rattle.graph_search.specs.Reverse.{after, IsGraph, IsReverse, IsNoted, AreNumbers}
use Rattle.graph_search.proofs.SearchLaws.{at_front}

none_in : {P : Type 0} (x : ℕ) → Contains [] x → P
none_in x c = let l = c.1 in absurd (omega (arith, l))

only : (x y : ℕ) → Contains (x ∷ []) y → y ≡ x
only x y h = let first : h.0 ≡ 0 = (let l = h.1 in omega (arith, l)) in sym h.2 ∙ at h.0 first
  where
    at : (k : ℕ) → k ≡ 0 → get_or (x ∷ []) k y ≡ x
    at k e = grind (arith, common_steps)

-- one node more in the list of another
pub noted : (back longer : List (List ℕ)) (place node : ℕ) → place < length back → longer ≡ set back place (after back place ++ node ∷ []) → IsNoted (place ∷ []) node back longer
noted back longer place node h e = record {
  room = ap (λ (g : List (List ℕ)). length g) e ∙ length-set back place (after back place ++ node ∷ []);
  edges = λ x y. (λ c. there x y (cases_eq y place) c, λ s. back_there x y (cases_eq y place) s);
}
  where
    at_place : after longer place ≡ after back place ++ node ∷ []
    at_place = ap (λ g. after g place) e ∙ get_or-set_same back place (after back place ++ node ∷ []) [] h

    at_other : (y : ℕ) → (y ≡ place → ⊥) → after longer y ≡ after back y
    at_other y n = ap (λ g. after g y) e ∙ get_or-set_other back place y (after back place ++ node ∷ []) [] n

    there : (x y : ℕ) → (y ≡ place) ⊎ (y ≡ place → ⊥) → Contains (after longer y) x → Contains (after back y) x ⊎ ((x ≡ node) × Contains (place ∷ []) y)
    there x y (inl same) c =
        elim (Contains-push_cases (after back place) node x (subst (λ l. Contains l x) (ap (after longer) same ∙ at_place) c)) [
          | inl old ↦ inl (subst (λ z. Contains (after back z) x) (sym same) old)
          | inr is ↦ inr (sym is, subst (Contains (place ∷ [])) (sym same) (0, omega arith, first))
        ]
      where
        first : get_or (place ∷ []) 0 place ≡ place
        first = grind (arith, common_steps)
    there x y (inr other) c = inl (subst (λ l. Contains l x) (at_other y other) c)

    back_there : (x y : ℕ) → (y ≡ place) ⊎ (y ≡ place → ⊥) → Contains (after back y) x ⊎ ((x ≡ node) × Contains (place ∷ []) y) → Contains (after longer y) x
    back_there x y (inl same) (inl old) =
        subst (λ l. Contains l x) (sym (ap (after longer) same ∙ at_place)) (Contains-append_left (after back place) (node ∷ []) x (subst (λ z. Contains (after back z) x) same old))
    back_there x y (inl same) (inr r) =
        subst (λ l. Contains l x) (sym (ap (after longer) same ∙ at_place)) (subst (Contains (after back place ++ node ∷ [])) (sym r.0) (Contains-push (after back place) node))
    back_there x y (inr other) (inl old) = subst (λ l. Contains l x) (sym (at_other y other)) old
    back_there x y (inr other) (inr r) = absurd (other (only place y r.1))

pub noted_none : (node : ℕ) (back : List (List ℕ)) → IsNoted [] node back back
noted_none node back = record { room = refl; edges = λ x y. (λ c. inl c, λ s. elim s [ inl c ↦ c | inr r ↦ none_in y r.1 ]) }

further : (nodes : List ℕ) (i x : ℕ) → i < length nodes → Contains (take i nodes) x → Contains (take (i + 1) nodes) x
further nodes i x h c =
    let l = c.1 in
    let below : c.0 < i = omega (arith, l, length-take i nodes) in
    let b : c.0 < i + 1 = omega (arith, below) in
    (c.0, omega (arith, below, h, length-take (i + 1) nodes), get_or-take (i + 1) nodes c.0 x b ∙ (sym (get_or-take i nodes c.0 x below) ∙ c.2))

-- the next of some nodes stands in one more of them
next_in : (nodes : List ℕ) (i : ℕ) → i < length nodes → Contains (take (i + 1) nodes) (get_or nodes i 0)
next_in nodes i h = (i, omega (arith, h, length-take (i + 1) nodes), at)
  where
    at : get_or (take (i + 1) nodes) i (get_or nodes i 0) ≡ get_or nodes i 0
    at = grind (arith, common_steps)

pub noted_more : (nodes : List ℕ) (i node : ℕ) (back longer longest : List (List ℕ)) → i < length nodes → IsNoted (take i nodes) node back longer → IsNoted (get_or nodes i 0 ∷ []) node longer longest →
    IsNoted (take (i + 1) nodes) node back longest
noted_more nodes i node back longer longest h former last = record {
  room = last.room ∙ former.room;
  edges = λ x y. (
    λ c. elim ((last.edges x y).0 c) [
      | inl old ↦ elim ((former.edges x y).0 old) [ inl older ↦ inl older | inr r ↦ inr (r.0, further nodes i y h r.1) ]
      | inr r ↦ inr (r.0, subst (Contains (take (i + 1) nodes)) (sym (only (get_or nodes i 0) y r.1)) (next_in nodes i h))
    ],
    λ s. elim s [
      | inl old ↦ (last.edges x y).1 (inl ((former.edges x y).1 (inl old)))
      | inr r ↦ elim (at_front nodes i y h r.1) [
        | inl before ↦ (last.edges x y).1 (inl ((former.edges x y).1 (inr (r.0, before))))
        | inr same ↦ (last.edges x y).1 (inr (r.0, (0, omega arith, same)))
      ]
    ],
  );
}

pub noted_all : (nodes : List ℕ) (i node : ℕ) (back longer : List (List ℕ)) → length nodes ≤ i → IsNoted (take i nodes) node back longer → IsNoted nodes node back longer
noted_all nodes i node back longer h s = subst (λ l. IsNoted l node back longer) (take_all i nodes h) s

-- ---- all nodes in turn

-- the edges from the nodes below a number, from their ends
pub record IsReverseTo (graph back : List (List ℕ)) (n : ℕ) : Type 0 where
  pub room : length back ≡ length graph
  pub edges : (x y : ℕ) → Contains (after back y) x ↔ ((x < n) × Contains (after graph x) y)

pub reverse_none : (graph back : List (List ℕ)) (n : ℕ) → n ≡ length graph → back ≡ replicate n [] → IsReverseTo graph back 0
reverse_none graph back n long e = record {
  room = ap (λ (g : List (List ℕ)). length g) e ∙ (length-replicate n [] ∙ long);
  edges = λ x y. (λ c. none_in x (subst (λ l. Contains l x) (ap (λ g. after g y) e ∙ empty n y) c), λ r. absurd (let l = r.0 in omega (arith, l)));
}
  where
    empty : (n y : ℕ) → get_or (replicate {A = List ℕ} n []) y [] ≡ []
    empty n y = grind (arith, common_steps)

pub reverse_more : (graph back longer : List (List ℕ)) (n : ℕ) (nodes : List ℕ) → nodes ≡ after graph n → IsReverseTo graph back n → IsNoted nodes n back longer → IsReverseTo graph longer (n + 1)
reverse_more graph back longer n nodes is so_far noted = record {
  room = noted.room ∙ so_far.room;
  edges = λ x y. (
    λ c. elim ((noted.edges x y).0 c) [
      | inl old ↦ (let r = (so_far.edges x y).0 old in let l = r.0 in (omega (arith, l), r.1))
      | inr r ↦ (let same = r.0 in (omega (arith, same), subst (λ z. Contains (after graph z) y) (sym r.0) (subst (λ l. Contains l y) is r.1)))
    ],
    λ r. elim (cases_lt x n) [
      | inl below ↦ (noted.edges x y).1 (inl ((so_far.edges x y).1 (below, r.1)))
      | inr above ↦ let same : x ≡ n = (let l = r.0 in omega (arith, l)) in
          (noted.edges x y).1 (inr (same, subst (λ l. Contains l y) (sym is) (subst (λ z. Contains (after graph z) y) same r.1)))
    ],
  );
}

pub reverse_all : (graph back : List (List ℕ)) (n : ℕ) → length graph ≤ n → IsReverseTo graph back n → IsReverse graph back
reverse_all graph back n h all = record {
  room = all.room;
  edges = λ x y. (λ c. ((all.edges x y).0 c).1, λ c. (all.edges x y).1 (within x y c, c));
}
  where
    within : (x y : ℕ) → Contains (after graph x) y → x < n
    within x y c = elim (cases_lt x (length graph)) [ inl below ↦ omega (arith, below, h) | inr above ↦ none_in y (subst (λ l. Contains l y) (get_or_past graph x [] above) c) ]

-- the list at a place, as it is held
pub items_at : {X : Type 0} (vecs : List (Vec X)) (place : ℕ) (was : Vec X) → place < length vecs → was ≡ get_or vecs place was → was.items ≡ get_or (map (λ (v : Vec X). v.items) vecs) place []
items_at [] place was l e = absurd (omega arith)
items_at {X} (v ∷ vecs) zero was l e = ap (λ (v : Vec X). v.items) e
items_at (v ∷ vecs) (suc place) was l e = items_at vecs place was (omega arith) e

-- one element more in it
pub pushed : {X : Type 0} (vecs : List (Vec X)) (place : ℕ) (x : X) (was now : Vec X) → place < length vecs → was ≡ get_or vecs place was → now.items ≡ was.items ++ x ∷ [] →
    map (λ (v : Vec X). v.items) (set vecs place now) ≡ set (map (λ (v : Vec X). v.items) vecs) place (get_or (map (λ (v : Vec X). v.items) vecs) place [] ++ x ∷ [])
pushed {X} vecs place x was now l e more =
    map-set (λ (v : Vec X). v.items) vecs place now ∙ ap (set (map (λ (v : Vec X). v.items) vecs) place) (more ∙ ap (λ xs. xs ++ x ∷ []) (items_at vecs place was l e))

pub lists_long : (graph : List (Vec ℕ)) → length (lists graph) ≡ length graph
lists_long graph = length-map graph (λ (list : Vec ℕ). list.items)

-- ---- walks from their ends

walked : (next : ℕ → List ℕ) {x y z : ℕ} → Walk next x y → Contains (next y) z → Walk next x z
walked next here c = step c here
walked next (step d w) c = step d (walked next w c)

turned : (next back : ℕ → List ℕ) → ((x y : ℕ) → Contains (next x) y → Contains (back y) x) → {x y : ℕ} → Walk next x y → Walk back y x
turned next back edges here = here
turned next back edges (step c w) = walked back (turned next back edges w) (edges _ _ c)

-- where each node is named by itself
pub by_itself : (graph : List (List ℕ)) (numbers : List ℕ) → AreNumbers (length graph) numbers → (x : ℕ) → follow graph numbers x ≡ after graph x
by_itself graph numbers are x = elim (cases_lt x (length graph)) [
  | inl below ↦
      let there : x < length numbers = (let r = are.room in omega (arith, r, below)) in
      ap (list_at graph) (slice_get-get_or numbers x 0 there ∙ ap Some (are.each x below)) ∙ ap held (slice_get-get_or graph x [] below)
  | inr above ↦
      let past : length numbers ≤ x = (let r = are.room in omega (arith, r, above)) in
      ap (list_at graph) (slice_get_past numbers x past) ∙ sym (get_or_past graph x [] above)
]

-- so what a node leads to in the reverse is what leads to it
pub led : (graph back : List (List ℕ)) (numbers : List ℕ) (target x : ℕ) → AreNumbers (length back) numbers → IsReverse graph back → Walk (follow back numbers) target x ↔ Walk (after graph) x target
led graph back numbers target x are reverse = (
  turned (follow back numbers) (after graph) (λ y z c. (reverse.edges z y).0 (subst (λ l. Contains l z) (by_itself back numbers are y) c)),
  turned (after graph) (follow back numbers) (λ y z c. subst (λ l. Contains l y) (sym (by_itself back numbers are z)) ((reverse.edges y z).1 c)),
)

pub edges_within : (back : List (List ℕ)) (numbers : List ℕ) → AreNumbers (length back) numbers → IsGraph back → (x y : ℕ) → Contains (follow back numbers x) y → y < length back
edges_within back numbers are is x y c = is x y (subst (λ l. Contains l y) (by_itself back numbers are x) c)
