-- Where each edge leads to a smaller number there is no cycle: on one, each number would be above every bound.
use Rattle.std.proofs.Common.{◌≡◌, ℕ, zero, suc, ◌<◌, ◌≤◌, List, [], ◌∷◌, length, filter, Option, Some, None, Bool, true, false, ◌||◌, cond, nat_eq, refl, ap, ◌∙◌, arith}
use Rattle.std.specs.List.{list_any}
use Rattle.law_lists.proofs.Booleans.{left_of, right_of}
use Rattle.law_lists.proofs.Numbers.{nat_eq-is}
use Rattle.smv_core.specs.declared.flat.Cell.{Cell}
use Rattle.law_designs.specs.WholeText.{is_one_layer}
use Rattle.law_designs.specs.Loops.{Edge, same_indexes, same_cell, leads_on, going_on, hold_a_cycle}
use Rattle.law_designs.specs.LoopLaws.{AreFalling}
use Rattle.law_designs.proofs.Cycles.{few, not_longer, rest_of, each_is_one}

-- ---- cells that are the same

pub one-is : (i j : Option ℕ) → is_one_layer i j ≡ true → i ≡ j
one-is None None e = refl
one-is (Some m) (Some n) e = ap Some (nat_eq-is m n e)
one-is None (Some n) e = absurd (cc (e))
one-is (Some m) None e = absurd (cc (e))

indexes-are : (is js : List (Option ℕ)) → same_indexes is js ≡ true → is ≡ js
indexes-are [] [] e = refl
indexes-are [] (j ∷ js) e = absurd (cc (e))
indexes-are (i ∷ is) [] e = absurd (cc (e))
indexes-are (i ∷ is) (j ∷ js) e =
    ap (λ k. k ∷ is) (one-is i j (left_of (is_one_layer i j) (same_indexes is js) e)) ∙ ap (λ ks. j ∷ ks) (indexes-are is js (right_of (is_one_layer i j) (same_indexes is js) e))

abbrev cell : ℕ → List (Option ℕ) → Cell
cell family indexes = record { family = family; indexes = indexes }

cell-is : (a b : Cell) → same_cell a b ≡ true → a ≡ b
cell-is a b e =
    ap (λ f. cell f a.indexes) (nat_eq-is a.family b.family (left_of (nat_eq a.family b.family) (same_indexes a.indexes b.indexes) e))
    ∙ ap (λ is. cell b.family is) (indexes-are a.indexes b.indexes (right_of (nat_eq a.family b.family) (same_indexes a.indexes b.indexes) e))

-- ---- the descent

-- each passes
abbrev AllPass : (Edge → Bool) → List Edge → Type 0
AllPass p [] = Unit {0}
AllPass p (e ∷ edges) = (p e ≡ true) × AllPass p edges

all-pass : (p : Edge → Bool) (edges : List Edge) → filter p edges ≡ edges → AllPass p edges
all-pass p [] h = tt
all-pass p (e ∷ edges) h = at (p e) refl h (all-pass p edges)
  where
    at : (b : Bool) → p e ≡ b → cond b (e ∷ filter p edges) (filter p edges) ≡ e ∷ edges → (filter p edges ≡ edges → AllPass p edges) → (p e ≡ true) × AllPass p edges
    at true k h more = (k, more (ap rest_of h))
    at false k h more = absurd (not_longer e (filter p edges) edges (few p edges) h)

module _ (rank : Cell → ℕ) where
  -- each edge leads from a cell whose number is not below this
  abbrev AllAbove : ℕ → List Edge → Type 0
  AllAbove m [] = Unit {0}
  AllAbove m (e ∷ edges) = (m ≤ rank e.0) × AllAbove m edges

  above-zero : (edges : List Edge) → AllAbove 0 edges
  above-zero [] = tt
  above-zero (e ∷ edges) = (omega arith, above-zero edges)

  -- a cell from which one of them leads
  start-above : (m : ℕ) (c : Cell) (edges : List Edge) → list_any (λ (other : Edge). same_cell c other.0) edges ≡ true → AllAbove m edges → m ≤ rank c
  start-above m c [] e a = absurd (cc (e))
  start-above m c (f ∷ edges) e a = at (same_cell c f.0) refl e (λ h. start-above m c edges h a.1)
    where
      at : (b : Bool) → same_cell c f.0 ≡ b → (b || list_any (λ (other : Edge). same_cell c other.0) edges) ≡ true → (list_any (λ (other : Edge). same_cell c other.0) edges ≡ true → m ≤ rank c) → m ≤ rank c
      at true k e more = let l = a.0 in let r = ap rank (cell-is c f.0 k) in omega (arith, l, r)
      at false k e more = more e

  higher : (m : ℕ) (all edges : List Edge) → AllPass (leads_on all) edges → AreFalling rank edges → AllAbove m all → AllAbove (suc m) edges
  higher m all [] p f a = tt
  higher m all (e ∷ edges) p f a = let l = start-above m e.1 all p.0 a in let k = f.0 in (omega (arith, l, k), higher m all edges p.1 f.1 a)

  above : (m : ℕ) (edges : List Edge) → going_on edges ≡ edges → AreFalling rank edges → AllAbove m edges
  above zero edges h f = above-zero edges
  above (suc m) edges h f = higher m edges edges (all-pass (leads_on edges) edges h) f (above m edges h f)

  falling-left : (p : Edge → Bool) (edges : List Edge) → AreFalling rank edges → AreFalling rank (filter p edges)
  falling-left p [] f = tt
  falling-left p (e ∷ edges) f = at (p e) (falling-left p edges f.1)
    where
      at : (b : Bool) → AreFalling rank (filter p edges) → AreFalling rank (cond b (e ∷ filter p edges) (filter p edges))
      at true more = (f.0, more)
      at false more = more

  none : (edges : List Edge) → going_on edges ≡ edges → AreFalling rank edges → 0 < length edges → ⊥
  none [] h f l = absurd (omega (arith, l))
  none (e ∷ edges) h f l = let k = (above (suc (rank e.0)) (e ∷ edges) h f).0 in absurd (omega (arith, k))

pub no_cycle : (edges : List Edge) (rank : Cell → ℕ) → AreFalling rank edges → hold_a_cycle edges ≡ false
no_cycle edges rank f = at (hold_a_cycle edges) refl
  where
    at : (b : Bool) → hold_a_cycle edges ≡ b → b ≡ false
    at false h = refl
    at true h = let r = each_is_one edges h in absurd (none rank (filter r.0 edges) r.1.0 (falling-left rank r.0 edges f) r.1.1)
