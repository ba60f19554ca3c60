-- What a round of ranks leaves.
use Rattle.std.proofs.Common.{◌≡◌, ◌≢◌, ℕ, zero, suc, ◌+◌, ◌-◌, ◌<◌, ◌≤◌, ◌⊎◌, inl, inr, List, length, get_or, set, Bool, true, false, not, ◌&&◌, cond, nat_eq, refl, sym, ap, ◌∙◌, arith}
use Rattle.std.specs.List.{All}
use Rattle.std.proofs.lemmas.List.{get_or_past, length-set, get_or-set_same, get_or-set_other, get_or_read}
use Rattle.std.proofs.lemmas.List.Sums.{sum_by-set}
use Rattle.std.proofs.lemmas.Bool.{cases_eq}
use Rattle.law_lists.proofs.Booleans.{clash}
use Rattle.smv_loops.specs.declared.ranks.Links.{Links}
use Rattle.smv_loops.specs.Ranks.{rank, IsOpen, Falls, IsHeldUp, flag, AreHeldUp, raised, Raised, FlaggedBy, AreSettled, unranked}

is_none : (r : ℕ) → 0 < r → nat_eq r 0 ≡ false
is_none zero l = absurd (omega (arith, l))
is_none (suc r) l = grind arith

kept : (b : Bool) (next r : ℕ) → 0 < r → raised b next r ≡ r
kept b next r l = ap (λ z. cond (z && not b) next r) (is_none r l)

fresh : (b : Bool) (next r : ℕ) → r ≡ 0 → 0 < raised b next r → (b ≡ false) × (raised b next r ≡ next)
fresh true next zero e l = absurd (omega (arith, l))
fresh false next zero e l = (refl, refl)
fresh true next (suc r) e l = absurd (omega (arith, e))
fresh false next (suc r) e l = absurd (omega (arith, e))

is_zero_or_not : (r : ℕ) → (r ≡ 0) ⊎ (0 < r)
is_zero_or_not zero = inl refl
is_zero_or_not (suc r) = inr (omega arith)

below : (ranks : List ℕ) (cell : ℕ) → 0 < rank ranks cell → cell < length ranks
below ranks cell l = at (is_zero_or_not (length ranks - cell))
  where
    at : (length ranks - cell ≡ 0) ⊎ (0 < length ranks - cell) → cell < length ranks
    at (inl e) = let p = get_or_past ranks cell 0 (omega (arith, e)) in absurd (omega (arith, l, p))
    at (inr m) = omega (arith, m)

module _ (flags : List Bool) (next : ℕ) (old new : List ℕ) (moved : Bool) (r : Raised flags next old new moved) where
  after : (cell : ℕ) → cell < length old → rank new cell ≡ raised (flag flags cell) next (rank old cell)
  after cell l = r.each cell l

  after_one : (cell : ℕ) → 0 < rank old cell → rank new cell ≡ rank old cell
  after_one cell l = r.each cell (below old cell l) ∙ kept (flag flags cell) next (rank old cell) l

  pub falls_on : (links : List Links) → AreHeldUp old links flags → ((cell : ℕ) → rank old cell < next) → All (Falls old) links → All (Falls new) links
  falls_on links h most falls j d l a b la lb p = at (is_zero_or_not (rank old from))
    where
      from : ℕ
      from = get_or (get_or links j d).from.items a 0

      to : ℕ
      to = get_or (get_or links j d).to.items b 0

      inside : from < length old
      inside = let k = below new from p in let e = r.room in omega (arith, k, e)

      at : (rank old from ≡ 0) ⊎ (0 < rank old from) → (0 < rank new to) × (rank new to < rank new from)
      at (inr q) =
          let f = falls j d l a b la lb q in
          let e = after_one to f.0 in
          let g = after_one from q in
          (omega (arith, f.0, e), omega (arith, f.1, e, g))
      at (inl e) =
          let g = after from inside in
          let n = fresh (flag flags from) next (rank old from) e (omega (arith, p, g)) in
          on_to n (is_zero_or_not (rank old to)) g
        where
          on_to : (flag flags from ≡ false) × (raised (flag flags from) next (rank old from) ≡ next) → (rank old to ≡ 0) ⊎ (0 < rank old to) → rank new from ≡ raised (flag flags from) next (rank old from) → (0 < rank new to) × (rank new to < rank new from)
          on_to n (inl z) g = absurd (clash (h.each j d l (b, lb, z) a la) n.0)
          on_to n (inr q) g =
              let k = after_one to q in
              let m = most to in
              let s = n.1 in
              (omega (arith, q, k), omega (arith, k, m, s, g))

  pub settled_now : moved ≡ false → (cells : ℕ) (links : List Links) → length old ≡ cells → AreHeldUp old links flags → All (Falls old) links → AreSettled cells links new
  settled_now m cells links e h falls = record {
    room = let k = r.room in omega (arith, k, e);
    fall = rw (r.still m) falls;
    stuck = λ cell l z.
        let same = ap (λ ranks. rank ranks cell) (r.still m) in
        let zero_old : rank old cell ≡ 0 = sym same ∙ z in
        on_new (r.still m) cell (h.is_one cell (r.stuck m cell (omega (arith, l, e)) zero_old));
  }
    where
      on_new : new ≡ old → (cell : ℕ) → IsHeldUp old links cell → IsHeldUp new links cell
      on_new s cell x = rw s x

-- ---- a round, cell by cell

-- what a round has left of the cells so far
pub record SoFar (flags : List Bool) (next : ℕ) (old : List ℕ) (i : ℕ) (ranks : List ℕ) (moved : Bool) : Type 0 where
  pub room : length ranks ≡ length old
  pub each : (k : ℕ) → k < i → rank ranks k ≡ raised (flag flags k) next (rank old k)
  pub rest : (k : ℕ) → i ≤ k → rank ranks k ≡ rank old k
  pub no_more : unranked ranks ≤ unranked old
  pub fewer : moved ≡ true → unranked ranks < unranked old
  pub still : moved ≡ false → ranks ≡ old
  pub stuck : moved ≡ false → (k : ℕ) → k < i → rank old k ≡ 0 → flag flags k ≡ true

abbrev count : ℕ → ℕ
count r = cond (nat_eq r 0) 1 0

pub unranked-set : (ranks : List ℕ) (i next : ℕ) → i < length ranks → rank ranks i ≡ 0 → 0 < next → unranked (set ranks i next) < unranked ranks
unranked-set ranks i next l z n =
    let s = sum_by-set count ranks i next 0 l in
    let e : count (rank ranks i) ≡ count 0 = ap count z in
    let f : count next ≡ 0 = ap (λ b. cond b 1 0) (is_none next n) in
    omega (arith, s, e, f)

module _ (flags : List Bool) (next : ℕ) (old : List ℕ) (i : ℕ) (ranks : List ℕ) (moved : Bool) (s : SoFar flags next old i ranks moved) where
  same : rank ranks i ≡ rank old i
  same = s.rest i (omega arith)

  set-each : rank ranks i ≡ 0 → flag flags i ≡ false → i < length ranks → (k : ℕ) → k < i + 1 → rank (set ranks i next) k ≡ raised (flag flags k) next (rank old k)
  set-each none free l k m = at (cases_eq k i)
    where
      at : (k ≡ i) ⊎ (k ≢ i) → rank (set ranks i next) k ≡ raised (flag flags k) next (rank old k)
      at (inl e) =
          let z : rank old i ≡ 0 = sym same ∙ none in
          ap (rank (set ranks i next)) e ∙ get_or-set_same ranks i next 0 l ∙ ap (λ r. raised false next r) (sym z) ∙ ap (λ b. raised b next (rank old i)) (sym free) ∙ ap (λ k. raised (flag flags k) next (rank old k)) (sym e)
      at (inr n) = get_or-set_other ranks i k next 0 n ∙ s.each k (omega (arith, m, n))

  set-rest : (k : ℕ) → i + 1 ≤ k → rank (set ranks i next) k ≡ rank old k
  set-rest k m = let n : k ≢ i = omega arith in get_or-set_other ranks i k next 0 n ∙ s.rest k (omega arith)

  pub so_far_raised : (after : List ℕ) (now : Bool) → after ≡ set ranks i next → now ≡ true → rank ranks i ≡ 0 → flag flags i ≡ false → i < length ranks → 0 < next → SoFar flags next old (i + 1) after now
  so_far_raised after now e m none free l n = rw e (rw m (record {
    room = let h = length-set ranks i next in let g = s.room in omega (arith, h, g);
    each = set-each none free l;
    rest = set-rest;
    no_more = let u = unranked-set ranks i next l none n in let g = s.no_more in omega (arith, u, g);
    fewer = λ t. let u = unranked-set ranks i next l none n in let g = s.no_more in omega (arith, u, g);
    still = λ f. absurd (clash refl f);
    stuck = λ f k m z. absurd (clash refl f);
  }))

  stays : (r : ℕ) (b : Bool) → (r ≡ 0) ⊎ (0 < r) → (r ≡ 0 → b ≡ true) → r ≡ raised b next r
  stays r b (inl e) h = sym (ap (λ b. raised b next r) (h e) ∙ closed (nat_eq r 0))
    where
      closed : (z : Bool) → cond (z && false) next r ≡ r
      closed true = refl
      closed false = refl
  stays r b (inr l) h = sym (kept b next r l)

  pub so_far_kept : (after : List ℕ) (now : Bool) → after ≡ ranks → now ≡ moved → (rank ranks i ≡ 0 → flag flags i ≡ true) → SoFar flags next old (i + 1) after now
  so_far_kept after now e m held = rw e (rw m (record {
    room = s.room;
    each = λ k l. each_at k l (cases_eq k i);
    rest = λ k l. s.rest k (omega (arith, l));
    no_more = s.no_more;
    fewer = s.fewer;
    still = s.still;
    stuck = λ f k l z. stuck_at f k l z (cases_eq k i);
  }))
    where
      each_at : (k : ℕ) → k < i + 1 → (k ≡ i) ⊎ (k ≢ i) → rank ranks k ≡ raised (flag flags k) next (rank old k)
      each_at k l (inl q) =
          ap (rank ranks) q ∙ same ∙ stays (rank old i) (flag flags i) (is_zero_or_not (rank old i)) (λ z. held (same ∙ z)) ∙ ap (λ k. raised (flag flags k) next (rank old k)) (sym q)
      each_at k l (inr n) = s.each k (omega (arith, l, n))

      stuck_at : moved ≡ false → (k : ℕ) → k < i + 1 → rank old k ≡ 0 → (k ≡ i) ⊎ (k ≢ i) → flag flags k ≡ true
      stuck_at f k l z (inl q) = ap (flag flags) q ∙ held (same ∙ sym (ap (rank old) q) ∙ z)
      stuck_at f k l z (inr n) = s.stuck f k (omega (arith, l, n)) z

-- ---- flags, assignment by assignment

-- the flags of the assignments so far
pub record FlagsSoFar (ranks : List ℕ) (links : List Links) (i : ℕ) (flags : List Bool) : Type 0 where
  pub room : length flags ≡ length ranks
  pub is_one : (cell : ℕ) → flag flags cell ≡ true → IsHeldUp ranks links cell
  pub each : (j : ℕ) (d : Links) → j < i → IsOpen ranks (get_or links j d).to.items → (a : ℕ) → a < length (get_or links j d).from.items → flag flags (get_or (get_or links j d).from.items a 0) ≡ true

pub flags_more : (ranks : List ℕ) (links : List Links) (i : ℕ) (link : Links) (flags after : List Bool) → i < length links → link ≡ get_or links i link → FlagsSoFar ranks links i flags → FlaggedBy ranks link flags after → FlagsSoFar ranks links (i + 1) after
flags_more ranks links i link flags after l is s f = record {
  room = f.room ∙ s.room;
  is_one = λ cell h. elim (f.is_one cell h) [
    | inl g ↦ s.is_one cell g
    | inr g ↦ (link, (i, l, sym is), g.0, g.1)
  ];
  each = λ j d m o a k. at j d m o a k (cases_eq j i);
}
  where
    at : (j : ℕ) (d : Links) → j < i + 1 → IsOpen ranks (get_or links j d).to.items → (a : ℕ) → a < length (get_or links j d).from.items → (j ≡ i) ⊎ (j ≢ i) → flag after (get_or (get_or links j d).from.items a 0) ≡ true
    at j d m o a k (inr n) = f.kept (get_or (get_or links j d).from.items a 0) (s.each j d (omega (arith, m, n)) o a k)
    at j d m o a k (inl e) =
        let same : get_or links j d ≡ link = ap (λ j. get_or links j d) e ∙ sym (get_or_read links i link l is d) in
        there (get_or links j d) same o a k
      where
        there : (other : Links) → other ≡ link → IsOpen ranks other.to.items → (a : ℕ) → a < length other.from.items → flag after (get_or other.from.items a 0) ≡ true
        there other q = rw q f.each
