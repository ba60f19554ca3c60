-- The first assignment with which there is a loop.
use Rattle.std.proofs.Common.{◌≡◌, ℕ, zero, suc, ◌+◌, ◌-◌, ◌<◌, ◌≤◌, List, [], ◌∷◌, ◌++◌, map, filter, length, get_or, take, Some, None, Bool, true, false, cond, refl, sym, ap, ◌∙◌, arith}
use Rattle.std.specs.List.{flat_map}
use Rattle.std.proofs.lemmas.List.{append-nil, append_assoc, map-append, length-append}
use Rattle.std.proofs.lemmas.List.{get_or_read}
use Rattle.std.proofs.Math.Seq.{take-append-add}
use Rattle.law_lists.proofs.Booleans.{clash}
use Rattle.law_lists.proofs.Places.{take_read}
use Rattle.smv_core.specs.declared.flat.Family.{Family}
use Rattle.smv_core.specs.declared.flat.Design.{Design}
use Rattle.law_designs.specs.Reading.{Reading}
use Rattle.law_designs.specs.Loops.{Edge, hold_a_cycle, edges_of, closing, undelayed_in, in_order, is_base}
use Rattle.smv_mentions.specs.FirstFault.{first_of, faults_at}
use Rattle.law_designs.specs.FirstFault.{first_fault_of_loops}
use Rattle.smv_loops.specs.declared.ranks.Links.{Links}
use Rattle.smv_loops.specs.declared.rows.Row.{Row}
use Rattle.smv_loops.specs.Ranks.{rank, IsHeldUp, AreSettled}
use Rattle.smv_loops.specs.Bases.{undelayed_of}
use Rattle.smv_loops.specs.Held.{assigned_in}
use Rattle.smv_loops.specs.Cells.{number_in}
use Rattle.smv_loops.specs.Numbers.{AreBases}
use Rattle.smv_loops.specs.Rows.{stands_for}
use Rattle.smv_loops.specs.Edges.{total, AreRowLinks, AreLinks, AllLinks, AreAdded, AreShown, edges_at, IsFirst}
use Rattle.smv_loops.proofs.Members.{In}
use Rattle.smv_loops.proofs.TableLaws.{table_from, length-table, get-from, get-to}
use Rattle.smv_loops.proofs.CycleLaws.{AreFallingAll, none-held, one-held, edge-falls, fewer-edges}
use Rattle.smv_loops.proofs.RowLaws.{stands-alone}
use Rattle.smv_loops.proofs.GroupLaws.{falling, open-cell, stuck-cell}

module _ (families : List Family) where
  abbrev edges_in : List Reading → List Edge
  edges_in readings = flat_map (edges_at families) readings

  module _ (nodes rows : ℕ) (links : List Links) (ranks : List ℕ) (readings : List Reading) (e : nodes ≡ total families + rows) (s : AreSettled nodes links ranks) (shown : AreShown families rows links readings) where
    stuck : (n : ℕ) → n < total families + rows → rank ranks n ≡ 0 → IsHeldUp ranks links n
    stuck n l z = s.stuck n (omega (arith, l, e)) z

    -- a number without a rank shows a cycle
    open-held : (n : ℕ) → n < nodes → rank ranks n ≡ 0 → hold_a_cycle (edges_in readings) ≡ true
    open-held n l z =
        let r = open-cell families rows links readings shown ranks stuck (suc n) n (omega arith) (omega (arith, l, e)) z in
        one-held families (total families) ranks readings (table_from 0 families) (length-table 0 families) (get-from families) (get-to families) (stuck-cell families rows links readings shown ranks stuck) r.0 r.1 r.3

    all-fall : ((n : ℕ) → n < nodes → 0 < rank ranks n) → AreFallingAll families (total families) ranks readings
    all-fall all = falling families rows links readings shown ranks s.fall (λ n l. all n (omega (arith, l, e)))

    -- what the ranks say of the edges
    pub decided : (b : Bool) → (b ≡ true → (cell : ℕ) × (cell < length ranks) × (rank ranks cell ≡ 0)) → (b ≡ false → (cell : ℕ) → cell < length ranks → 0 < rank ranks cell) → b ≡ hold_a_cycle (edges_in readings)
    decided true some none =
        let h = some refl in
        let l = h.1 in
        let r = s.room in
        sym (open-held h.0 (omega (arith, l, r)) h.2)
    decided false some none =
        let r = s.room in
        sym (none-held families (total families) ranks readings (all-fall (λ n l. none refl n (omega (arith, l, r)))))

    module _ (none : hold_a_cycle (edges_in readings) ≡ false) where
      -- without a cycle each number has a rank
      all-ranked : (n : ℕ) → n < nodes → 0 < rank ranks n
      all-ranked n l = by (rank ranks n) refl
        where
          by : (r : ℕ) → rank ranks n ≡ r → 0 < r
          by zero z = absurd (clash (open-held n l z) none)
          by (suc r) z = omega arith

      -- and each edge leads to a smaller one
      pub edges-fall : (edge : Edge) → In edge (edges_in readings) → rank ranks (number_in families edge.1) < rank ranks (number_in families edge.0)
      edges-fall edge i = edge-falls families (total families) ranks readings (all-fall all-ranked) edge i

  -- ---- links side by side

  module _ (stands : ℕ → List ℕ) (nodes : ℕ) where
    length-links : (links : List Links) (readings : List Reading) → AllLinks families stands nodes links readings → length links ≡ length readings
    length-links [] [] h = refl
    length-links [] (a ∷ more) h = absurd h
    length-links (x ∷ links) [] h = absurd h
    length-links (x ∷ links) (a ∷ more) h = ap suc (length-links links more h.1)

    links-push : (links : List Links) (readings : List Reading) (link : Links) (a : Reading) → AllLinks families stands nodes links readings → AreLinks families stands nodes link a → AllLinks families stands nodes (links ++ link ∷ []) (readings ++ a ∷ [])
    links-push [] [] link a h l = (l, tt)
    links-push [] (b ∷ more) link a h l = absurd h
    links-push (x ∷ links) [] link a h l = absurd h
    links-push (x ∷ links) (b ∷ more) link a h l = (h.0, links-push links more link a h.1 l)

    links-take : (n : ℕ) (links : List Links) (readings : List Reading) → AllLinks families stands nodes links readings → AllLinks families stands nodes (take n links) (take n readings)
    links-take zero links readings h = tt
    links-take (suc n) [] [] h = tt
    links-take (suc n) [] (b ∷ more) h = absurd h
    links-take (suc n) (x ∷ links) [] h = absurd h
    links-take (suc n) (x ∷ links) (b ∷ more) h = (h.0, links-take n links more h.1)

    pub added-none : (old : List Links) → AreAdded families stands nodes old old []
    added-none old = record { own = []; split = sym (append-nil old); links = tt }

    pub added-more : {H : Type 0} (f : H → Reading) (held : List H) (i : ℕ) (x : H) (old new after : List Links) (link : Links) → i < length held → x ≡ get_or held i x → AreAdded families stands nodes old new (map f (take i held)) → AreLinks families stands nodes link (f x) → after ≡ new ++ link ∷ [] → AreAdded families stands nodes old after (map f (take (i + 1) held))
    added-more f held i x old new after link l e h a s = record {
      own = h.own ++ link ∷ [];
      split = s ∙ ap (λ l. l ++ link ∷ []) h.split ∙ append_assoc old h.own (link ∷ []);
      links = rw (ap (map f) (take_read held i x l e) ∙ map-append f (take i held) (x ∷ [])) (links-push h.own (map f (take i held)) link (f x) h.links a);
    }

  -- ---- links of rows and of assignments

  pub cells-total : (bases : List ℕ) (n : ℕ) → AreBases families bases → n ≡ get_or bases (length families) n → n ≡ total families
  cells-total bases n b is =
      let room = b.room in
      let l : length families < length bases = omega (arith, room) in
      get_or_read bases (length families) n l is 0 ∙ b.each (length families) (omega arith)

  pub all-shown : (rows : List Row) (cells : ℕ) (of_rows all : List Links) (readings : List Reading) → cells ≡ total families → length of_rows ≡ length rows → AreRowLinks (stands_for families rows) cells of_rows → AreAdded families (stands_for families rows) (total families + length rows) of_rows all readings → AreShown families (length rows) all readings
  all-shown rows cells of_rows all readings e n r a = record {
    stands = stands_for families rows;
    of_rows = of_rows;
    own = a.own;
    split = a.split;
    count = n;
    alone = stands-alone families rows;
    row_links = rw e at r;
    own_links = a.links;
  }

  -- ---- some of the assignments

  module _ (rows : ℕ) (links : List Links) (readings : List Reading) (s : AreShown families rows links readings) where
    pub length-shown : length links ≡ rows + length readings
    length-shown =
        let a = ap (λ (l : List Links). length l) s.split in
        let b = length-append s.of_rows s.own in
        let c = s.count in
        let d = length-links s.stands (total families + rows) s.own readings s.own_links in
        omega (arith, a, b, c, d)

    pub shown-take : (k : ℕ) → AreShown families rows (take (rows + k) links) (take k readings)
    shown-take k = record {
      stands = s.stands;
      of_rows = s.of_rows;
      own = take k s.own;
      split = ap (take (rows + k)) s.split ∙ ap (λ r. take (r + k) (s.of_rows ++ s.own)) (sym s.count) ∙ take-append-add s.of_rows s.own k;
      count = s.count;
      alone = s.alone;
      row_links = s.row_links;
      own_links = links-take s.stands (total families + rows) k s.own readings s.own_links;
    }

    pub is-first : (low high : ℕ) → high ≡ low + 1 → rows + high ≤ length links → hold_a_cycle (edges_in (take low readings)) ≡ false → hold_a_cycle (edges_in (take high readings)) ≡ true → IsFirst families readings low
    is-first low high e l f t =
        let n = length-shown in
        (omega (arith, n, e, l), f, ap (λ n. hold_a_cycle (edges_in (take n readings))) (sym e) ∙ t)

    pub take-whole : take (length links - rows) readings ≡ readings
    take-whole =
        let n = length-shown in
        let e : length links - rows ≡ length readings = omega (arith, n) in
        ap (λ n. take n readings) e ∙ take-all readings
      where
        take-all : (xs : List Reading) → take (length xs) xs ≡ xs
        take-all [] = refl
        take-all (x ∷ xs) = ap (λ l. x ∷ l) (take-all xs)

    pub none-shown : length links ≤ rows → hold_a_cycle (edges_in readings) ≡ false
    none-shown l = let n = length-shown in at readings (omega (arith, n, l))
      where
        at : (xs : List Reading) → length xs ≡ 0 → hold_a_cycle (edges_in xs) ≡ false
        at [] e = refl
        at (x ∷ xs) e = absurd (omega (arith, e))

-- ---- the place at which there is a loop

module _ (d : Design) where
  abbrev edges : Reading → List Edge
  edges = edges_of d

  pub closing-none : (before : List Edge) (readings : List Reading) → hold_a_cycle (before ++ flat_map edges readings) ≡ false → closing d before readings ≡ []
  closing-none before [] h = refl
  closing-none before (a ∷ more) h = by (hold_a_cycle (before ++ edges a)) refl (closing-none (before ++ edges a) more (ap hold_a_cycle (append_assoc before (edges a) (flat_map edges more)) ∙ h))
    where
      joined : hold_a_cycle ((before ++ edges a) ++ flat_map edges more) ≡ false
      joined = ap hold_a_cycle (append_assoc before (edges a) (flat_map edges more)) ∙ h

      by : (b : Bool) → hold_a_cycle (before ++ edges a) ≡ b → closing d (before ++ edges a) more ≡ [] → cond b (a.at ∷ []) (closing d (before ++ edges a) more) ≡ []
      by true e rest = let f = fewer-edges (before ++ edges a) (flat_map edges more) joined in absurd (cc)
      by false e rest = rest

  pub closing-at : (before : List Edge) (readings : List Reading) (k : ℕ) (x : Reading) → k < length readings → x ≡ get_or readings k x → hold_a_cycle (before ++ flat_map edges (take k readings)) ≡ false → hold_a_cycle (before ++ flat_map edges (take (suc k) readings)) ≡ true → closing d before readings ≡ x.at ∷ []
  closing-at before [] k x l e f t = absurd (omega (arith, l))
  closing-at before (a ∷ more) zero x l e f t = ap (λ b. cond b (a.at ∷ []) (closing d (before ++ edges a) more)) now ∙ ap (λ (a : Reading). a.at ∷ []) (sym e)
    where
      now : hold_a_cycle (before ++ edges a) ≡ true
      now = ap (λ l. hold_a_cycle (before ++ l)) (sym (append-nil (edges a))) ∙ t
  closing-at before (a ∷ more) (suc k) x l e f t =
      by (hold_a_cycle (before ++ edges a)) refl
      (closing-at (before ++ edges a) more k x (omega (arith, l)) e (ap hold_a_cycle (append_assoc before (edges a) (flat_map edges (take k more))) ∙ f) (ap hold_a_cycle (append_assoc before (edges a) (flat_map edges (take (suc k) more))) ∙ t))
    where
      joined : hold_a_cycle ((before ++ edges a) ++ flat_map edges (take k more)) ≡ false
      joined = ap hold_a_cycle (append_assoc before (edges a) (flat_map edges (take k more))) ∙ f

      by : (b : Bool) → hold_a_cycle (before ++ edges a) ≡ b → closing d (before ++ edges a) more ≡ x.at ∷ [] → cond b (a.at ∷ []) (closing d (before ++ edges a) more) ≡ x.at ∷ []
      by true h rest = let g = fewer-edges (before ++ edges a) (flat_map edges (take k more)) joined in absurd (cc)
      by false h rest = rest

  pub fault-none : (readings : List Reading) → readings ≡ undelayed_in d → hold_a_cycle (flat_map (edges_at d.families) readings) ≡ false → None ≡ first_fault_of_loops d
  fault-none readings e h = ap (λ places. first_of (faults_at (18, places))) (sym (closing-none [] readings h)) ∙ ap (λ rs. first_of (faults_at (18, closing d [] rs))) e

  pub fault-some : (readings : List Reading) (k : ℕ) (x : Reading) → readings ≡ undelayed_in d → IsFirst d.families readings k → x ≡ get_or readings k x → Some (record { number = 18; at = x.at }) ≡ first_fault_of_loops d
  fault-some readings k x e f g =
      let n : k + 1 ≡ suc k = omega arith in
      let t : hold_a_cycle (flat_map edges (take (suc k) readings)) ≡ true = ap (λ n. hold_a_cycle (flat_map edges (take n readings))) (sym n) ∙ f.2 in
      ap (λ places. first_of (faults_at (18, places))) (sym (closing-at [] readings k x f.0 g f.1 t)) ∙ ap (λ rs. first_of (faults_at (18, closing d [] rs))) e

  pub same-undelayed : in_order (flat_map undelayed_of (filter (is_base d) d.defs)) ≡ undelayed_in d
  unfolding assigned_in
  same-undelayed = refl

pub get-mapped : {X Y : Type 0} (f : X → Y) (xs : List X) (k : ℕ) (x : X) → k < length xs → x ≡ get_or xs k x → f x ≡ get_or (map f xs) k (f x)
get-mapped f [] k x l e = absurd (omega (arith, l))
get-mapped f (y ∷ ys) zero x l e = ap f e
get-mapped f (y ∷ ys) (suc k) x l e = get-mapped f ys k x (omega (arith, l)) e
