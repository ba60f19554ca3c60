-- A store that grew below one function grew by no more than its beads.
use Rattle.std.proofs.Common.{◌≡◌, ℕ, zero, suc, ◌+◌, ◌<◌, ◌≤◌, ◌⊎◌, Bool, true, false, eqb, cond, nat_lt, List, [], ◌∷◌, ◌++◌, length, refl, sym, ◌∙◌, ap, subst, arith, inl, inr}
use Rattle.std.specs.List.{count_by}
use Rattle.std.proofs.lemmas.List.Sums.{sum_by-cons}
use Rattle.std.proofs.lemmas.Bool.Decides.{nat_tests}
use Rattle.bdd_store.specs.declared.Ref.{Ref}
use Rattle.bdd_store.specs.declared.chains.Node.{Node}
use Rattle.bdd_store.specs.Graph.{var_at, below}
use Rattle.bdd_store.specs.Beads.{count_distinct}
use Rattle.bdd_store.specs.Diagram.{Diagram, IsLive, IsReduced, Reaches, Keeps, first_var, held, beads}
use Rattle.bdd_store.proofs.Few.{beads_are}
use Rattle.bdd_store.proofs.Laws.{reaches_self}
use Rattle.bdd_store.proofs.Sets.{member, Subset, subset_count, member_append, eqb_is, eqb_same, or_true, or_left, or_right}
use Rattle.bdd_store.proofs.HeldLaws.{count_append}
use Rattle.bdd_ops.specs.Functions.{IsFreshBelow}

-- the places from k on at which nodes stand
pub held_places : ℕ → List Node → ℕ → List ℕ
held_places n [] k = []
held_places n (x ∷ xs) k = cond (nat_lt x.var n) (k ∷ held_places n xs (suc k)) (held_places n xs (suc k))

length_step : (t : Bool) (k m : ℕ) (l : List ℕ) → length l ≡ m → length (cond t (k ∷ l) l) ≡ cond t 1 0 + m
length_step true k m l e = omega (arith, e)
length_step false k m l e = omega (arith, e)

length_held : (n : ℕ) (ns : List Node) (k : ℕ) → length (held_places n ns k) ≡ count_by (λ (x : Node). nat_lt x.var n) ns
unfolding held_places
length_held n [] k = refl
length_held n (x ∷ xs) k =
    length_step (nat_lt x.var n) k (count_by (λ (x : Node). nat_lt x.var n) xs) (held_places n xs (suc k)) (length_held n xs (suc k))
    ∙ sym (sum_by-cons (λ (x : Node). cond (nat_lt x.var n) 1 0) x xs)

-- q is the place of a node
abbrev pub Found : ℕ → List Node → ℕ → ℕ → Type 0
Found n ns k q = (i : ℕ) × (q ≡ k + i) × (i < length ns) × (var_at ns i < n)

found_later : (n : ℕ) (x : Node) (xs : List Node) (k q : ℕ) → Found n xs (suc k) q → Found n (x ∷ xs) k q
found_later n x xs k q f = (suc f.0, omega (arith, f.1), omega (arith, f.2), f.3)

below_test : (v n : ℕ) → nat_lt v n ≡ true → v < n
below_test v n e = grind (arith, nat_tests)

test_below : (v n : ℕ) → v < n → nat_lt v n ≡ true
test_below v n e = grind (arith, nat_tests)

found_step : (n : ℕ) (x : Node) (xs : List Node) (k q : ℕ) (l : List ℕ) (t : Bool) → nat_lt x.var n ≡ t → (member q l ≡ true → Found n xs (suc k) q) → member q (cond t (k ∷ l) l) ≡ true → Found n (x ∷ xs) k q
found_step n x xs k q l true is rest e = elim (or_true (eqb q k) (member q l) e) [
  | inl same ↦ (0, omega (arith, eqb_is q k same), omega arith, below_test x.var n is)
  | inr later ↦ found_later n x xs k q (rest later)
]
found_step n x xs k q l false is rest e = found_later n x xs k q (rest e)

pub found : (n : ℕ) (ns : List Node) (k q : ℕ) → member q (held_places n ns k) ≡ true → Found n ns k q
unfolding held_places
found n [] k q e = absurd (let none : false ≡ true = e in cc)
found n (x ∷ xs) k q e = found_step n x xs k q (held_places n xs (suc k)) (nat_lt x.var n) refl (found n xs (suc k) q) e

in_step : (t : Bool) (k q : ℕ) (l : List ℕ) → member q l ≡ true → member q (cond t (k ∷ l) l) ≡ true
in_step true k q l e = or_right (eqb q k) (member q l) e
in_step false k q l e = e

here_step : (t : Bool) (k : ℕ) (l : List ℕ) → t ≡ true → member k (cond t (k ∷ l) l) ≡ true
here_step true k l is = or_left (eqb k k) (member k l) (eqb_same k)
here_step false k l is = absurd (let none : false ≡ true = is in cc)

held_in : (n : ℕ) (ns : List Node) (k i q : ℕ) → q ≡ k + i → i < length ns → var_at ns i < n → member q (held_places n ns k) ≡ true
unfolding held_places
held_in n [] k i q e lt var = absurd (omega (arith, lt))
held_in n (x ∷ xs) k zero q e lt var =
    let same : q ≡ k = omega (arith, e) in
    ap (λ z. member z (cond (nat_lt x.var n) (k ∷ held_places n xs (suc k)) (held_places n xs (suc k)))) same ∙ here_step (nat_lt x.var n) k (held_places n xs (suc k)) (test_below x.var n var)
held_in n (x ∷ xs) k (suc i) q e lt var = in_step (nat_lt x.var n) k q (held_places n xs (suc k)) (held_in n xs (suc k) i q (omega (arith, e)) (omega (arith, lt)) var)

distinct_step : (t s : Bool) (k : ℕ) (l : List ℕ) → member k l ≡ s → s ≡ false → count_distinct eqb l ≡ length l → count_distinct eqb (cond t (k ∷ l) l) ≡ length (cond t (k ∷ l) l)
unfolding count_distinct
distinct_step true s k l is none e = ap (λ m. cond m (count_distinct eqb l) (suc (count_distinct eqb l))) (is ∙ none) ∙ ap suc e
distinct_step false s k l is none e = e

not_later : (n : ℕ) (xs : List Node) (k : ℕ) (s : Bool) → member k (held_places n xs (suc k)) ≡ s → s ≡ false
not_later n xs k true is = absurd (let f = found n xs (suc k) k is in omega (arith, f.1))
not_later n xs k false is = refl

distinct : (n : ℕ) (ns : List Node) (k : ℕ) → count_distinct eqb (held_places n ns k) ≡ length (held_places n ns k)
unfolding held_places
distinct n [] k = unfold count_distinct in refl
distinct n (x ∷ xs) k = distinct_step (nat_lt x.var n) (member k (held_places n xs (suc k))) k (held_places n xs (suc k)) refl (not_later n xs k (member k (held_places n xs (suc k))) refl) (distinct n xs (suc k))

pub count_held : (d : Diagram) → held d ≡ count_distinct eqb (held_places d.vars d.nodes 0)
unfolding held
count_held d = sym (distinct d.vars d.nodes 0 ∙ length_held d.vars d.nodes 0)

unfoldable pub ref : ℕ → Ref
ref i = record { place = i }

pub node_live : (d : Diagram) (i : ℕ) → i < length d.nodes → var_at d.nodes i < d.vars → IsLive d (ref i)
unfolding IsLive ref
node_live d i lt var = (lt, omega (arith, var), λ e. absurd (omega (arith, e, var)))

pub live_held : (d : Diagram) (i : ℕ) → IsLive d (ref i) → first_var d (ref i) < d.vars → member i (held_places d.vars d.nodes 0) ≡ true
unfolding IsLive first_var ref
live_held d i live var = held_in d.vars d.nodes 0 i i (omega arith) live.0 var

pub node_first : (d : Diagram) (i : ℕ) → var_at d.nodes i < d.vars → first_var d (ref i) < d.vars
unfolding first_var ref
node_first d i var = var

reached_below : (d : Diagram) (f : Ref) (i : ℕ) → Reaches d f (ref i) → first_var d (ref i) < d.vars → member i (below d.nodes d.vars 0 f.place) ≡ true
unfolding Reaches ref
reached_below d f i reaches proper = reaches proper

new_held : (d e : Diagram) → Keeps d e → (r : Ref) → IsFreshBelow d e r → Subset (held_places e.vars e.nodes 0) (held_places d.vars d.nodes 0 ++ below e.nodes e.vars 0 r.place)
new_held d e keeps r fresh q is =
    let f = found e.vars e.nodes 0 q is in
    let same : f.0 ≡ q = omega (arith, f.1) in
    let live = node_live e f.0 f.2 f.3 in
    let proper = node_first e f.0 f.3 in
    subst (λ z. member z (held_places d.vars d.nodes 0 ++ below e.nodes e.vars 0 r.place) ≡ true) same
    (member_append f.0 (held_places d.vars d.nodes 0) (below e.nodes e.vars 0 r.place) ∙ elim (fresh (ref f.0) live) [
      | inl old ↦ or_left (member f.0 (held_places d.vars d.nodes 0)) (member f.0 (below e.nodes e.vars 0 r.place)) (live_held d f.0 old (omega (arith, keeps.firsts (ref f.0) old, keeps.vars, proper)))
      | inr reached ↦ or_right (member f.0 (held_places d.vars d.nodes 0)) (member f.0 (below e.nodes e.vars 0 r.place)) (reached_below e r f.0 reached proper)
    ])

pub held_bound : (d e : Diagram) → IsReduced e → Keeps d e → (r : Ref) → IsLive e r → IsFreshBelow d e r → held e ≤ held d + beads e r
held_bound d e ok keeps r live fresh =
    let few = subset_count (held_places e.vars e.nodes 0) (held_places d.vars d.nodes 0 ++ below e.nodes e.vars 0 r.place) (new_held d e keeps r fresh) in
    omega (arith, few, count_append (held_places d.vars d.nodes 0) (below e.nodes e.vars 0 r.place), count_held d, count_held e, beads_are e ok r live)

-- what a node adds to what its branches added lies below it
pub fresh_node : (d m e n : Diagram) (low high r : Ref) → IsFreshBelow d m low → IsFreshBelow m e high → Keeps m e → IsLive m low
    → ((q : Ref) → IsLive n q → IsLive e q ⊎ (q ≡ r))
    → ((q : Ref) → IsLive e q → Reaches e low q ⊎ Reaches e high q → Reaches n r q)
    → IsFreshBelow d n r
fresh_node d m e n low high r by_low by_high keeps live_low by_node reached q live = elim (by_node q live) [
  | inr is ↦ inr (subst (Reaches n r) (sym is) (reaches_self n r))
  | inl in_e ↦ elim (by_high q in_e) [
    | inr below_high ↦ inr (reached q in_e (inr below_high))
    | inl in_m ↦ elim (by_low q in_m) [
      | inl in_d ↦ inl in_d
      | inr below_low ↦ inr (reached q in_e (inl (keeps.reached low q live_low in_m below_low)))
    ]
  ]
]
