-- Without a cycle each cell has a number, and each edge leads to a smaller one: for how many rounds an edge from the cell is kept.
use Rattle.std.proofs.Common.{◌≡◌, ℕ, zero, suc, ◌<◌, List, [], ◌∷◌, length, filter, Option, Some, None, Bool, true, false, cond, nat_eq, refl, arith}
use Rattle.std.specs.List.{list_any}
use Rattle.law_lists.proofs.Booleans.{and_both, either_left, either_right}
use Rattle.smv_core.specs.declared.flat.Cell.{Cell}
use Rattle.law_designs.specs.WholeText.{is_one_layer}
use Rattle.law_designs.specs.Loops.{Edge, same_indexes, same_cell, leads_on, going_on, kept, are_some, hold_a_cycle}
use Rattle.law_designs.specs.LoopLaws.{AreFalling}

itself : (n : ℕ) → nat_eq n n ≡ true
itself n = search arith

pub one_itself : (i : Option ℕ) → is_one_layer i i ≡ true
one_itself None = refl
one_itself (Some k) = itself k

pub indexes_themselves : (is : List (Option ℕ)) → same_indexes is is ≡ true
indexes_themselves [] = refl
indexes_themselves (i ∷ is) = and_both (one_itself i) (indexes_themselves is)

cell_itself : (c : Cell) → same_cell c c ≡ true
cell_itself c = and_both (itself c.family) (indexes_themselves c.indexes)

-- one of the edges starts at the cell
abbrev starts : List Edge → Cell → Bool
starts edges c = list_any (λ (other : Edge). same_cell c other.0) edges

-- one of the first edges starts where each of the second does
abbrev AllStart : List Edge → List Edge → Type 0
AllStart edges [] = Unit {0}
AllStart edges (e ∷ more) = (starts edges e.0 ≡ true) × AllStart edges more

start-more : (e : Edge) (edges more : List Edge) → AllStart edges more → AllStart (e ∷ edges) more
start-more e edges [] h = tt
start-more e edges (f ∷ more) h = (either_right (same_cell f.0 e.0) h.0, start-more e edges more h.1)

all-start : (edges : List Edge) → AllStart edges edges
all-start [] = tt
all-start (e ∷ edges) = (either_left (starts edges e.0) (cell_itself e.0), start-more e edges edges (all-start edges))

-- for how many rounds an edge from the cell is kept
abbrev rank : ℕ → List Edge → Cell → ℕ
rank zero edges c = 0
rank (suc n) edges c = cond (starts edges c) (suc (rank n (going_on edges) c)) 0

less : (b c : Bool) (m n : ℕ) → c ≡ true → (b ≡ true → m < n) → cond b (suc m) 0 < cond c (suc n) 0
less true true m n e h = let l = h refl in omega (arith, l)
less false true m n e h = omega arith
less b false m n e h = absurd (cc (e))

falling-all : (n : ℕ) (edges more : List Edge) → AllStart edges more → AreFalling (rank n (going_on edges)) (filter (leads_on edges) more) → AreFalling (rank (suc n) edges) more
falling-all n edges [] s f = tt
falling-all n edges (e ∷ more) s f = at (leads_on edges e) refl f (λ g. falling-all n edges more s.1 g)
  where
    at : (b : Bool) → leads_on edges e ≡ b → AreFalling (rank n (going_on edges)) (cond b (e ∷ filter (leads_on edges) more) (filter (leads_on edges) more)) →
        (AreFalling (rank n (going_on edges)) (filter (leads_on edges) more) → AreFalling (rank (suc n) edges) more) → AreFalling (rank (suc n) edges) (e ∷ more)
    at true k f rest = (less (starts edges e.1) (starts edges e.0) (rank n (going_on edges) e.1) (rank n (going_on edges) e.0) s.0 (λ h. f.0), rest f.1)
    at false k f rest = (less (starts edges e.1) (starts edges e.0) (rank n (going_on edges) e.1) (rank n (going_on edges) e.0) s.0 (λ h. absurd (cc (h, k))), rest f)

falling : (n : ℕ) (edges : List Edge) → are_some (kept n edges) ≡ false → AreFalling (rank n edges) edges
falling zero [] h = tt
falling zero (e ∷ edges) h = absurd (cc (h))
falling (suc n) edges h = falling-all n edges edges (all-start edges) (falling n (going_on edges) h)

pub order : (edges : List Edge) → hold_a_cycle edges ≡ false → (rank : Cell → ℕ) × AreFalling rank edges
order edges h = (rank (length edges) edges, falling (length edges) edges h)
