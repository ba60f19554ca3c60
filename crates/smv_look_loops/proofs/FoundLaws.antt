-- Where the edges of assignments first hold a cycle with those of one of them, a loop begins with it.
use Rattle.std.proofs.Common.{◌≡◌, ℕ, zero, suc, ◌+◌, ◌<◌, ◌≤◌, ◌⊎◌, inl, inr, List, [], ◌∷◌, ◌++◌, map, length, Option, Bool, true, false, ◌&&◌, ◌||◌, cond, nat_eq, refl, sym, ap, subst, ◌∙◌, arith}
use Rattle.std.specs.List.{Contains, list_any}
use Rattle.std.proofs.lemmas.Bool.{cases_lt}
use Rattle.law_lists.proofs.Booleans.{clash, left_of, right_of, and_both, either_left, either_right}
use Rattle.law_lists.proofs.Lists.{head_is}
use Rattle.law_lists.proofs.Numbers.{nat_eq-is}
use Rattle.smv_core.specs.declared.flat.Family.{Family}
use Rattle.smv_core.specs.declared.flat.Cell.{Cell}
use Rattle.smv_core.specs.declared.flat.Design.{Design}
use Rattle.law_designs.specs.Loops.{Edge, same_indexes, same_cell, hold_a_cycle, edges_of, undelayed_in, closing, looping}
use Rattle.law_designs.specs.Reading.{Reference, Reading}
use Rattle.law_designs.specs.WholeText.{is_one_layer}
use Rattle.law_designs.proofs.Descents.{one-is, no_cycle}
use Rattle.law_designs.proofs.Orders.{order, indexes_themselves}
use Rattle.smv_loops.specs.Cells.{froms, tos, reads_of}
use Rattle.smv_loops.specs.Edges.{edges_at}
use Rattle.smv_loops.proofs.AnyOrderLaws.{falling-in, in-ordered}
use Rattle.smv_loops.proofs.CycleLaws.{falling-each}
use Rattle.smv_loops.proofs.Members.{In, in-either, any-of, in-mapped, in-flat_mapped}
use Rattle.smv_look_loops.specs.Paths.{Reads, Path, assignments, IsLoopAt}
use Rattle.smv_look_loops.proofs.EdgeLaws.{contains-in}
use Rattle.smv_look_loops.proofs.ShareLaws.{any-found, eq-true}

-- ---- cells that are the same

indexes-are : (is js : List (Option ℕ)) → same_indexes is js ≡ true → is ≡ js
indexes-are [] [] e = refl
indexes-are [] (j ∷ js) e = absurd (cc (e))
indexes-are (i ∷ is) [] e = absurd (cc (e))
indexes-are (i ∷ is) (j ∷ js) e =
    ap (λ k. k ∷ is) (one-is i j (left_of (is_one_layer i j) (same_indexes is js) e)) ∙ ap (λ ks. j ∷ ks) (indexes-are is js (right_of (is_one_layer i j) (same_indexes is js) e))

abbrev cell_of : ℕ → List (Option ℕ) → Cell
cell_of family indexes = record { family = family; indexes = indexes }

cell-is : (a b : Cell) → same_cell a b ≡ true → a ≡ b
cell-is a b e =
    ap (λ f. cell_of f a.indexes) (nat_eq-is a.family b.family (left_of (nat_eq a.family b.family) (same_indexes a.indexes b.indexes) e))
    ∙ ap (λ is. cell_of b.family is) (indexes-are a.indexes b.indexes (right_of (nat_eq a.family b.family) (same_indexes a.indexes b.indexes) e))

cell-itself : (c : Cell) → same_cell c c ≡ true
cell-itself c = and_both (eq-true c.family c.family refl) (indexes_themselves c.indexes)

none-of : {X : Type 0} (test : X → Bool) (x : X) (xs : List X) → list_any test xs ≡ false → In x xs → test x ≡ false
none-of test x xs none i = at (test x) refl
  where
    at : (b : Bool) → test x ≡ b → test x ≡ false
    at true e = absurd (clash (any-of test x xs i e) none)
    at false e = e

-- ---- an assignment, and edges of others

module _ (families : List Family) (all : List Reading) where
  ends : (b : Reading) (e : Edge) → In e (edges_at families b) → In e.0 (froms families b) × In e.1 (tos families b)
  ends b e h =
      let r = in-flat_mapped (λ (c : Cell). map (λ (d : Cell). (c, d)) (tos families b)) e (froms families b) h in
      let s = in-mapped (λ (d : Cell). (r.0, d)) e (tos families b) r.2 in
      let p : r.0 ≡ e.0 = ap (λ (x : Edge). x.0) s.2 in
      let q : s.0 ≡ e.1 = ap (λ (x : Edge). x.1) s.2 in
      (subst (λ (c : Cell). In c (froms families b)) p r.1, subst (λ (c : Cell). In c (tos families b)) q s.1)

  module _ (a : Reading) (a_in : In a all) where
    -- a cell leads to the assignment: that concerns it, or another one with a path to it does
    abbrev Leads : Cell → Type 0
    Leads c = In c (froms families a) ⊎ ((b : Reading) × In b all × In c (froms families b) × (places : List ℕ) × Path families all b places a)

    abbrev HasPath : Reading → Type 0
    HasPath b = (places : List ℕ) × (0 < length places) × Path families all b places a

    module _ (b : Reading) (c : Cell) where
      made : (r : Reference) → In r b.reads → In c (reads_of families r) → (z : Reading) → In c (froms families z) → Reads families b r.at z
      made r i j z k = record { reference = r; stands = contains-in r b.reads i; is = refl; cell = c; read = contains-in c (reads_of families r) j; concerned = contains-in c (froms families z) k }

      reads-leads : In c (tos families b) → Leads c → HasPath b
      reads-leads t l = let r = in-flat_mapped (reads_of families) c b.reads t in on r.0 r.1 r.2 l
        where
          on : (r : Reference) → In r b.reads → In c (reads_of families r) → Leads c → HasPath b
          on r i j (inl here) = (r.at ∷ [], omega arith, (a, contains-in a all a_in, made r i j a here, refl))
          on r i j (inr x) = (r.at ∷ x.3, omega arith, (x.0, contains-in x.0 all x.1, made r i j x.0 x.2, x.4))

    module _ (edges : List Edge) (of : (e : Edge) → In e edges → (b : Reading) × In b all × In e (edges_at families b)) where
      abbrev leads : ℕ → Cell → Bool
      leads zero c = list_any (same_cell c) (froms families a)
      leads (suc n) c = leads n c || list_any (λ (e : Edge). same_cell c e.0 && leads n e.1) edges

      leads-more : (m n : ℕ) (c : Cell) → m ≤ n → leads m c ≡ true → leads n c ≡ true
      leads-more m zero c l h = let z : m ≡ 0 = omega (arith, l) in subst (λ (k : ℕ). leads k c ≡ true) z h
      leads-more m (suc n) c l h = elim (cases_lt n m) [
        | inl above ↦ let z : m ≡ suc n = omega (arith, l, above) in subst (λ (k : ℕ). leads k c ≡ true) z h
        | inr below ↦ either_left (list_any (λ (e : Edge). same_cell c e.0 && leads n e.1) edges) (leads-more m n c below h)
      ]

      are-led : (n : ℕ) (c : Cell) → leads n c ≡ true → Leads c
      are-led zero c h =
          let f = any-found (same_cell c) (froms families a) h in
          inl (subst (λ (d : Cell). In d (froms families a)) (sym (cell-is c f.0 f.2)) f.1)
      are-led (suc n) c h = at (leads n c) refl (λ x g. are-led n x g)
        where
          at : (b : Bool) → leads n c ≡ b → ((x : Cell) → leads n x ≡ true → Leads x) → Leads c
          at true e led = led c e
          at false e led =
              let h_rest : list_any (λ (e : Edge). same_cell c e.0 && leads n e.1) edges ≡ true = sym (ap (λ (b : Bool). b || list_any (λ (e : Edge). same_cell c e.0 && leads n e.1) edges) e) ∙ h in
              let f = any-found (λ (e : Edge). same_cell c e.0 && leads n e.1) edges h_rest in
              let b = of f.0 f.1 in
              let k = ends b.0 f.0 b.2 in
              let p = reads-leads b.0 f.0.1 k.1 (led f.0.1 (right_of (same_cell c f.0.0) (leads n f.0.1) f.2)) in
              inr (b.0, b.1, subst (λ (d : Cell). In d (froms families b.0)) (sym (cell-is c f.0.0 (left_of (same_cell c f.0.0) (leads n f.0.1) f.2))) k.0, p.0, p.2)

      module _ (rank : Cell → ℕ) (falls : (e : Edge) → In e edges → rank e.1 < rank e.0) where
        abbrev lead : Cell → Bool
        lead c = leads (suc (rank c)) c

        -- above the ranks of these cells
        abbrev bound : List Cell → ℕ
        bound [] = 0
        bound (c ∷ cells) = suc (rank c + bound cells)

        below : (c : Cell) (cells : List Cell) → In c cells → rank c < bound cells
        below c [] i = absurd i
        below c (d ∷ cells) (inl same) = let e : rank d ≡ rank c = ap rank same in omega (arith, e)
        below c (d ∷ cells) (inr i) = let l = below c cells i in omega (arith, l)

        -- what leads to the assignment stands above all else
        abbrev lifted : Cell → ℕ
        lifted c = rank c + cond (lead c) (bound (tos families a)) 0

        high : (c : Cell) → lead c ≡ true → lifted c ≡ rank c + bound (tos families a)
        high c e = ap (λ (b : Bool). rank c + cond b (bound (tos families a)) 0) e

        low : (c : Cell) → lead c ≡ false → lifted c ≡ rank c + 0
        low c e = ap (λ (b : Bool). rank c + cond b (bound (tos families a)) 0) e

        old-falls : (e : Edge) → In e edges → lifted e.1 < lifted e.0
        old-falls e i = at (lead e.1) refl
          where
            at : (b : Bool) → lead e.1 ≡ b → lifted e.1 < lifted e.0
            at true h =
                let l = falls e i in
                let on : leads (rank e.0) e.1 ≡ true = leads-more (suc (rank e.1)) (rank e.0) e.1 (omega (arith, l)) h in
                let g : lead e.0 ≡ true = either_right (leads (rank e.0) e.0) (any-of (λ (f : Edge). same_cell e.0 f.0 && leads (rank e.0) f.1) e edges i (and_both (cell-itself e.0) on)) in
                let p = high e.1 h in
                let q = high e.0 g in
                omega (arith, l, p, q)
            at false h =
                let l = falls e i in
                let p = low e.1 h in
                let q : lifted e.0 ≡ rank e.0 + cond (lead e.0) (bound (tos families a)) 0 = refl in
                omega (arith, l, p, q)

        new-falls : list_any lead (tos families a) ≡ false → (e : Edge) → In e (edges_at families a) → lifted e.1 < lifted e.0
        new-falls none e i =
            let k = ends a e i in
            let here : leads 0 e.0 ≡ true = any-of (same_cell e.0) e.0 (froms families a) k.0 (cell-itself e.0) in
            let p = high e.0 (leads-more 0 (suc (rank e.0)) e.0 (omega arith) here) in
            let q = low e.1 (none-of lead e.1 (tos families a) none k.1) in
            let l = below e.1 (tos families a) k.1 in
            omega (arith, p, q, l)

        found : hold_a_cycle (edges ++ edges_at families a) ≡ true → HasPath a
        found cycle = at (list_any lead (tos families a)) refl
          where
            at : (b : Bool) → list_any lead (tos families a) ≡ b → HasPath a
            at true h =
                let f = any-found lead (tos families a) h in
                reads-leads a f.0 f.1 (are-led (suc (rank f.0)) f.0 f.2)
            at false h = absurd (clash cycle (no_cycle (edges ++ edges_at families a) lifted (falling-each lifted (edges ++ edges_at families a) each)))
              where
                each : (e : Edge) → In e (edges ++ edges_at families a) → lifted e.1 < lifted e.0
                each e i = elim (in-either e edges (edges_at families a) i) [ inl j ↦ old-falls e j | inr j ↦ new-falls h e j ]

      pub path-found : hold_a_cycle edges ≡ false → hold_a_cycle (edges ++ edges_at families a) ≡ true → HasPath a
      path-found none cycle = let r = order edges none in found r.0 (falling-in r.0 edges r.1) cycle

-- ---- the assignments of a design

module _ (d : Design) (at : ℕ) (all : List Reading) where
  abbrev Found : Type 0
  Found = (places : List ℕ) × (a : Reading) × Contains all a × (a.at ≡ at) × (0 < length places) × Path d.families all a places a

  abbrev OfAll : List Edge → Type 0
  OfAll edges = (e : Edge) → In e edges → (b : Reading) × In b all × In e (edges_at d.families b)

  abbrev Closes : List Reading → Type 0
  Closes rest = (edges : List Edge) → ((b : Reading) → In b rest → In b all) → OfAll edges → hold_a_cycle edges ≡ false → closing d edges rest ≡ at ∷ [] → Found

  closed-by : (rest : List Reading) → Closes rest
  closed-by [] edges inside of none h = absurd (cc)
  closed-by (b ∷ more) edges inside of none h = by (hold_a_cycle (edges ++ edges_of d b)) refl (closed-by more)
    where
      b_in : In b all
      b_in = inside b (inl refl)

      on : OfAll (edges ++ edges_of d b)
      on f i = elim (in-either f edges (edges_of d b) i) [ inl j ↦ of f j | inr j ↦ (b, b_in, j) ]

      by : (t : Bool) → hold_a_cycle (edges ++ edges_of d b) ≡ t → Closes more → Found
      by true e rest =
          let p = path-found d.families all b b_in edges of none e in
          (p.0, b, contains-in b all b_in, head_is (sym (ap (λ (t : Bool). cond t (b.at ∷ []) (closing d (edges ++ edges_of d b) more)) e) ∙ h), p.1, p.2)
      by false e rest = rest (edges ++ edges_of d b) (λ c i. inside c (inr i)) on e (sym (ap (λ (t : Bool). cond t (b.at ∷ []) (closing d (edges ++ edges_of d b) more)) e) ∙ h)

pub loop-found : (d : Design) (at : ℕ) → looping d ≡ at ∷ [] → (places : List ℕ) × IsLoopAt d at places
loop-found d at h =
    let p = closed-by d at (assignments d) (undelayed_in d) [] (λ b i. in-ordered b (assignments d) i) (λ e i. absurd i) refl h in
    (p.0, (p.1, p.2, p.3, p.4, p.5))
