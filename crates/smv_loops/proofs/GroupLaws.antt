-- Ranks of cells and of rows say what ranks of cells alone would say.
use Rattle.std.proofs.Common.{◌≡◌, ℕ, zero, suc, ◌+◌, ◌-◌, ◌<◌, ◌≤◌, ◌⊎◌, inl, inr, List, [], ◌∷◌, ◌++◌, map, length, get_or, refl, sym, ap, ◌∙◌, arith}
use Rattle.std.specs.List.{flat_map, All}
use Rattle.std.proofs.lemmas.Bool.{cases_lt}
use Rattle.smv_core.specs.declared.flat.Family.{Family}
use Rattle.law_designs.specs.Reading.{Reading}
use Rattle.smv_loops.specs.declared.ranks.Links.{Links}
use Rattle.smv_loops.specs.Ranks.{rank, rank_at, Falls, AreBelow, IsHeldUp}
use Rattle.smv_loops.specs.Cells.{number_in, froms, tos}
use Rattle.smv_loops.specs.Edges.{total, IsRowLink, AreRowLinks, AreLinks, AllLinks, AreShown}
use Rattle.smv_loops.proofs.Members.{In, in-same, in-left, in-right, in-either, in-get_or, in-contains, place-in, in-mapped, in-flat_map, in-flat_mapped}
use Rattle.smv_loops.proofs.RowLaws.{cells-below}
use Rattle.smv_loops.proofs.CycleLaws.{AreFallingAll, IsStuck}

zero_or : (k : ℕ) → (k ≡ 0) ⊎ (0 < k)
zero_or zero = inl refl
zero_or (suc k) = inr (omega arith)

module _ (stands : ℕ → List ℕ) where
  same_row : {n m : ℕ} (link : Links) → n ≡ m → IsRowLink stands n link → IsRowLink stands m link
  same_row link e h = rw e at h

  -- the links of the row of a number
  row-at : (n : ℕ) (links : List Links) → AreRowLinks stands n links → (m : ℕ) → n ≤ m → m < n + length links → (link : Links) × In link links × IsRowLink stands m link
  row-at n [] h m l k = absurd (omega (arith, l, k))
  row-at n (link ∷ links) h m l k = at (row-at (n + 1) links h.1 m) (cases_lt n m)
    where
      at : (n + 1 ≤ m → m < n + 1 + length links → (found : Links) × In found links × IsRowLink stands m found) → (n < m) ⊎ (m ≤ n) → (found : Links) × In found (link ∷ links) × IsRowLink stands m found
      at rest (inl g) = let r = rest (omega (arith, g)) (omega (arith, k)) in (r.0, inr r.1, r.2)
      at rest (inr g) = let e : n ≡ m = omega (arith, l, g) in (link, inl refl, same_row link e h.0)

  -- the number of a row of which these are the links
  row-of : (n : ℕ) (links : List Links) → AreRowLinks stands n links → (link : Links) → In link links → (m : ℕ) × (n ≤ m) × (m < n + length links) × IsRowLink stands m link
  row-of n [] h link i = absurd i
  row-of n (other ∷ links) h link (inl e) = (n, omega arith, omega arith, same_link e h.0)
    where
      same_link : other ≡ link → IsRowLink stands n other → IsRowLink stands n link
      same_link e g = rw e at g
  row-of n (other ∷ links) h link (inr i) =
      let r = row-of (n + 1) links h.1 link i in
      let l = r.1 in
      let k = r.2 in
      (r.0, omega (arith, l), omega (arith, k), r.3)

one-of : (n m : ℕ) → In n (m ∷ []) → m ≡ n
one-of n m (inl e) = e
one-of n m (inr i) = absurd i

falls-in : (ranks : List ℕ) (links : List Links) → All (Falls ranks) links → (link : Links) → In link links → Falls ranks link
falls-in ranks links f link i = at (place-in link links i)
  where
    at : (k : ℕ) × (k < length links) × ((d : Links) → get_or links k d ≡ link) → Falls ranks link
    at p = rw (p.2 link) at (f p.0 link p.1)

-- a falling edge of links, by the numbers at its ends
falls-at : (ranks : List ℕ) (link : Links) → Falls ranks link → (c t : ℕ) → In c link.from.items → In t link.to.items → 0 < rank ranks c → rank ranks t < rank ranks c
falls-at ranks link f c t i j l =
    let p = place-in c link.from.items i in
    let q = place-in t link.to.items j in
    let from : rank_at ranks link.from.items p.0 ≡ rank ranks c = ap (rank ranks) (p.2 0) in
    let to : rank_at ranks link.to.items q.0 ≡ rank ranks t = ap (rank ranks) (q.2 0) in
    let falls = f p.0 q.0 p.1 q.1 (omega (arith, from, l)) in
    let less = falls.1 in
    omega (arith, from, to, less)

-- a number in links that are below another one
below-at : (m : ℕ) (ts : List ℕ) → All (λ t. t < m) ts → (t : ℕ) → In t ts → t < m
below-at m ts h t i =
    let p = place-in t ts i in
    let e = p.2 0 in
    let l : get_or ts p.0 0 < m = h p.0 0 p.1 in
    omega (arith, e, l)

module _ (families : List Family) (stands : ℕ → List ℕ) (nodes : ℕ) where
  -- the links beside an assignment
  link-at : (links : List Links) (readings : List Reading) → AllLinks families stands nodes links readings → (a : Reading) → In a readings → (link : Links) × In link links × AreLinks families stands nodes link a
  link-at [] [] h a i = absurd i
  link-at [] (b ∷ more) h a i = absurd h
  link-at (link ∷ links) [] h a i = absurd i
  link-at (link ∷ links) (b ∷ more) h a (inl e) = (link, inl refl, same_links e h.0)
    where
      same_links : b ≡ a → AreLinks families stands nodes link b → AreLinks families stands nodes link a
      same_links e g = rw e at g
  link-at (link ∷ links) (b ∷ more) h a (inr i) = let r = link-at links more h.1 a i in (r.0, inr r.1, r.2)

  -- the assignment beside links
  reading-at : (links : List Links) (readings : List Reading) → AllLinks families stands nodes links readings → (link : Links) → In link links → (a : Reading) × In a readings × AreLinks families stands nodes link a
  reading-at [] [] h link i = absurd i
  reading-at [] (b ∷ more) h link i = absurd i
  reading-at (other ∷ links) [] h link i = absurd h
  reading-at (other ∷ links) (b ∷ more) h link (inl e) = (b, inl refl, same_links e h.0)
    where
      same_links : other ≡ link → AreLinks families stands nodes other b → AreLinks families stands nodes link b
      same_links e g = rw e at g
  reading-at (other ∷ links) (b ∷ more) h link (inr i) = let r = reading-at links more h.1 link i in (r.0, inr r.1, r.2)

module _ (families : List Family) where
  from-below : (a : Reading) (c : ℕ) → In c (map (number_in families) (froms families a)) → c < total families
  from-below a c i =
      let r = in-mapped (number_in families) c (froms families a) i in
      let e = r.2 in
      let l = cells-below families a.family a.left r.0 r.1 in
      omega (arith, e, l)

  module _ (rows : ℕ) (links : List Links) (readings : List Reading) (s : AreShown families rows links readings) where
    of-row : (link : Links) → In link s.of_rows → In link links
    of-row link i = in-same link (s.of_rows ++ s.own) links (sym s.split) (in-left link s.of_rows s.own i)

    of-own : (link : Links) → In link s.own → In link links
    of-own link i = in-same link (s.of_rows ++ s.own) links (sym s.split) (in-right link s.of_rows s.own i)

    either : (link : Links) → In link links → In link s.of_rows ⊎ In link s.own
    either link i = in-either link s.of_rows s.own (in-same link links (s.of_rows ++ s.own) s.split i)

    the-row : (n : ℕ) → total families ≤ n → n < total families + rows → (link : Links) × In link s.of_rows × IsRowLink s.stands n link
    the-row n l k = let e = s.count in row-at s.stands (total families) s.of_rows s.row_links n l (omega (arith, k, e))

    row-number : (link : Links) → In link s.of_rows → (m : ℕ) × (total families ≤ m) × (m < total families + rows) × IsRowLink s.stands m link
    row-number link i =
        let r = row-of s.stands (total families) s.of_rows s.row_links link i in
        let k = r.2 in
        let e = s.count in
        (r.0, r.1, omega (arith, k, e), r.3)

    own-link : (a : Reading) → In a readings → (link : Links) × In link s.own × AreLinks families s.stands (total families + rows) link a
    own-link = link-at families s.stands (total families + rows) s.own readings s.own_links

    own-reading : (link : Links) → In link s.own → (a : Reading) × In a readings × AreLinks families s.stands (total families + rows) link a
    own-reading = reading-at families s.stands (total families + rows) s.own readings s.own_links

    -- all numbers that are concerned are below that of nodes
    below-each : (link : Links) → In link links → (c : ℕ) → In c link.from.items → c < total families + rows
    below-each link i c j = at (either link i)
      where
        at : In link s.of_rows ⊎ In link s.own → c < total families + rows
        at (inl g) =
            let r = row-number link g in
            let e = one-of c r.0 (in-same c link.from.items (r.0 ∷ []) r.3.from j) in
            let l = r.2 in
            omega (arith, e, l)
        at (inr g) =
            let r = own-reading link g in
            let l = from-below r.0 c (in-same c link.from.items (map (number_in families) (froms families r.0)) r.2.from j) in
            omega (arith, l)

    pub links-below : (nodes : ℕ) → nodes ≡ total families + rows → AreBelow nodes links
    links-below nodes e k d l a m =
        let g = below-each (get_or links k d) (in-get_or links k d l) (get_or (get_or links k d).from.items a 0) (in-get_or (get_or links k d).from.items a 0 m) in
        omega (arith, e, g)

    module _ (ranks : List ℕ) where
      -- what a number stands for has no greater rank
      falls-down : All (Falls ranks) links → ((n : ℕ) → n < total families + rows → 0 < rank ranks n) → (fuel n d : ℕ) → n < fuel → n < total families + rows → In d (s.stands n) → rank ranks d ≤ rank ranks n
      falls-down falls all zero n d l k i = absurd (omega (arith, l))
      falls-down falls all (suc fuel) n d l k i = at (falls-down falls all fuel) (cases_lt n (total families))
        where
          at : ((m d : ℕ) → m < fuel → m < total families + rows → In d (s.stands m) → rank ranks d ≤ rank ranks m) → (n < total families) ⊎ (total families ≤ n) → rank ranks d ≤ rank ranks n
          at rest (inl g) =
              let e : n ≡ d = one-of d n (in-same d (s.stands n) (n ∷ []) (s.alone n g) i) in
              let r = ap (rank ranks) e in
              omega (arith, r)
          at rest (inr g) =
              let r = the-row n g k in
              let t = in-flat_mapped s.stands d r.0.to.items (in-same d (s.stands n) (flat_map s.stands r.0.to.items) (sym r.2.to) i) in
              let b = below-at n r.0.to.items r.2.below t.0 t.1 in
              let less = rest t.0 d (omega (arith, b, l)) (omega (arith, b, k)) t.2 in
              let f = falls-at ranks r.0 (falls-in ranks links falls r.0 (of-row r.0 r.1)) n t.0 (in-same n (n ∷ []) r.0.from.items (sym r.2.from) (inl refl)) t.1 (all n k) in
              omega (arith, less, f)

      pub falling : All (Falls ranks) links → ((n : ℕ) → n < total families + rows → 0 < rank ranks n) → AreFallingAll families (total families) ranks readings
      falling falls all a i c d f t =
          let r = own-link a i in
          let u = in-flat_mapped s.stands d r.0.to.items (in-same d (map (number_in families) (tos families a)) (flat_map s.stands r.0.to.items) (sym r.2.to) t) in
          let b = below-at (total families + rows) r.0.to.items r.2.below u.0 u.1 in
          let l = from-below a c f in
          let less = falls-down falls all (suc u.0) u.0 d (omega arith) b u.2 in
          let g = falls-at ranks r.0 (falls-in ranks links falls r.0 (of-own r.0 r.1)) c u.0 (in-same c (map (number_in families) (froms families a)) r.0.from.items (sym r.2.from) f) u.1 (all c (omega (arith, l))) in
          omega (arith, less, g)

      module _ (stuck : (n : ℕ) → n < total families + rows → rank ranks n ≡ 0 → IsHeldUp ranks links n) where
        -- a number without a rank stands for a cell without one
        pub open-cell : (fuel n : ℕ) → n < fuel → n < total families + rows → rank ranks n ≡ 0 → (d : ℕ) × (d < total families) × In d (s.stands n) × (rank ranks d ≡ 0)
        open-cell zero n l k z = absurd (omega (arith, l))
        open-cell (suc fuel) n l k z = at (open-cell fuel) (cases_lt n (total families))
          where
            held : ((m : ℕ) → m < fuel → m < total families + rows → rank ranks m ≡ 0 → (d : ℕ) × (d < total families) × In d (s.stands m) × (rank ranks d ≡ 0)) → total families ≤ n → IsHeldUp ranks links n → (d : ℕ) × (d < total families) × In d (s.stands n) × (rank ranks d ≡ 0)
            held rest g h = by (either h.0 (in-contains links h.0 h.1))
              where
                here : In n h.0.from.items
                here = in-contains h.0.from.items n h.2

                by : In h.0 s.of_rows ⊎ In h.0 s.own → (d : ℕ) × (d < total families) × In d (s.stands n) × (rank ranks d ≡ 0)
                by (inr j) =
                    let r = own-reading h.0 j in
                    let b = from-below r.0 n (in-same n h.0.from.items (map (number_in families) (froms families r.0)) r.2.from here) in
                    absurd (omega (arith, b, g))
                by (inl j) =
                    let r = row-number h.0 j in
                    let e : r.0 ≡ n = one-of n r.0 (in-same n h.0.from.items (r.0 ∷ []) r.3.from here) in
                    let o = h.3 in
                    let t = get_or h.0.to.items o.0 0 in
                    let i : In t h.0.to.items = in-get_or h.0.to.items o.0 0 o.1 in
                    let b = below-at r.0 h.0.to.items r.3.below t i in
                    let found = rest t (omega (arith, b, e, l)) (omega (arith, b, e, k)) o.2 in
                    let inside = in-same found.0 (flat_map s.stands h.0.to.items) (s.stands n) (r.3.to ∙ ap s.stands e) (in-flat_map s.stands t found.0 h.0.to.items i found.2) in
                    (found.0, found.1, inside, found.3)

            at : ((m : ℕ) → m < fuel → m < total families + rows → rank ranks m ≡ 0 → (d : ℕ) × (d < total families) × In d (s.stands m) × (rank ranks d ≡ 0)) → (n < total families) ⊎ (total families ≤ n) → (d : ℕ) × (d < total families) × In d (s.stands n) × (rank ranks d ≡ 0)
            at rest (inl g) = (n, g, in-same n (n ∷ []) (s.stands n) (sym (s.alone n g)) (inl refl), z)
            at rest (inr g) = held rest g (stuck n k z)

        pub stuck-cell : (cell : ℕ) → cell < total families → rank ranks cell ≡ 0 → IsStuck families (total families) ranks readings cell
        stuck-cell cell l z = held (stuck cell (omega (arith, l)) z)
          where
            held : IsHeldUp ranks links cell → IsStuck families (total families) ranks readings cell
            held h = by (either h.0 (in-contains links h.0 h.1))
              where
                here : In cell h.0.from.items
                here = in-contains h.0.from.items cell h.2

                by : In h.0 s.of_rows ⊎ In h.0 s.own → IsStuck families (total families) ranks readings cell
                by (inl j) =
                    let r = row-number h.0 j in
                    let e : r.0 ≡ cell = one-of cell r.0 (in-same cell h.0.from.items (r.0 ∷ []) r.3.from here) in
                    let b = r.1 in
                    absurd (omega (arith, b, e, l))
                by (inr j) =
                    let r = own-reading h.0 j in
                    let o = h.3 in
                    let t = get_or h.0.to.items o.0 0 in
                    let i : In t h.0.to.items = in-get_or h.0.to.items o.0 0 o.1 in
                    let b = below-at (total families + rows) h.0.to.items r.2.below t i in
                    let found = open-cell (suc t) t (omega arith) b o.2 in
                    let inside = in-same found.0 (flat_map s.stands h.0.to.items) (map (number_in families) (tos families r.0)) r.2.to (in-flat_map s.stands t found.0 h.0.to.items i found.2) in
                    (r.0, r.1, in-same cell h.0.from.items (map (number_in families) (froms families r.0)) r.2.from here, (found.0, inside, found.3))
