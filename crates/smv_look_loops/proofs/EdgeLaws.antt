-- The edges of the graph of assignments.
use Rattle.std.proofs.Common.{◌≡◌, ℕ, zero, suc, ◌+◌, List, [], ◌∷◌, slice_get, inl, inr, Option, Some, None, Bool, true, false, cond, nat_eq, refl, sym, ap, subst, ◌∙◌, arith}
use Rattle.std.specs.List.{Contains}
use Rattle.law_lists.proofs.Options.{some_is}
use Rattle.law_lists.proofs.Places.{get-map}
use Rattle.smv_core.specs.declared.flat.Family.{Family}
use Rattle.law_designs.specs.Loops.{cells_of}
use Rattle.law_designs.specs.Reading.{Reference, Reading}
use Rattle.smv_loops.proofs.Members.{In, in-left, in-right, in-either, in-contains, place-in}
use Rattle.graph_loops.specs.declared.edges.Edge.{Edge}
use Rattle.graph_loops.specs.Walks.{edges_in, leaving}
use Rattle.smv_look_loops.specs.Paths.{Reads}
use Rattle.smv_look_loops.specs.Shares.{meets, first_place}
use Rattle.smv_look_loops.specs.Graphs.{place_of, edge_if, row, rows, nodes_at}
use Rattle.smv_look_loops.proofs.ShareLaws.{meets-cell, cell-meets, eq-is, eq-true}

pub contains-in : {X : Type 0} (x : X) (xs : List X) → In x xs → Contains xs x
contains-in x xs h = let r = place-in x xs h in (r.0, r.1, r.2 x)

module _ (families : List Family) where
  -- ---- the first reference

  first-found : (reads : List Reference) (b : Reading) (place : ℕ) → first_place families reads b ≡ Some place → (r : Reference) × In r reads × (meets families r b ≡ true) × (r.at ≡ place)
  first-found [] b place h = absurd (cc)
  first-found (r ∷ reads) b place h = at (meets families r b) refl (λ g. first-found reads b place g)
    where
      at : (t : Bool) → meets families r b ≡ t → (first_place families reads b ≡ Some place → (q : Reference) × In q reads × (meets families q b ≡ true) × (q.at ≡ place)) → (q : Reference) × In q (r ∷ reads) × (meets families q b ≡ true) × (q.at ≡ place)
      at true e more = (r, inl refl, e, some_is (sym (ap (λ (t : Bool). cond t (Some r.at) (first_place families reads b)) e) ∙ h))
      at false e more =
          let f = more (sym (ap (λ (t : Bool). cond t (Some r.at) (first_place families reads b)) e) ∙ h) in
          (f.0, inr f.1, f.2, f.3)

  found-first : (reads : List Reference) (b : Reading) (r : Reference) → In r reads → meets families r b ≡ true → (place : ℕ) × (first_place families reads b ≡ Some place)
  found-first [] b r h m = absurd h
  found-first (q ∷ reads) b r h m = at (meets families q b) refl h (λ i. found-first reads b r i m)
    where
      at : (t : Bool) → meets families q b ≡ t → In r (q ∷ reads) → (In r reads → (place : ℕ) × (first_place families reads b ≡ Some place)) → (place : ℕ) × (cond (meets families q b) (Some q.at) (first_place families reads b) ≡ Some place)
      at true e i more = (q.at, ap (λ (t : Bool). cond t (Some q.at) (first_place families reads b)) e)
      at false e (inl same) more = absurd (wrong (sym e ∙ ap (λ (q : Reference). meets families q b) same ∙ m))
        where
          wrong : false ≡ true → ⊥
          wrong w = absurd (cc)
      at false e (inr i) more =
          let f = more i in
          (f.0, ap (λ (t : Bool). cond t (Some q.at) (first_place families reads b)) e ∙ f.1)

  pub place-reads : (a b : Reading) (place : ℕ) → place_of families a b ≡ Some place → Reads families a place b
  place-reads a b place h =
      let f = first-found a.reads b place h in
      let c = meets-cell families f.0 b f.2 in
      record {
        reference = f.0;
        stands = contains-in f.0 a.reads f.1;
        is = f.3;
        cell = c.0;
        read = contains-in c.0 (cells_of (slice_get families f.0.family) f.0.family f.0.indexes) c.1.0;
        concerned = contains-in c.0 (cells_of (slice_get families b.family) b.family b.left) c.1.1;
      }

  pub reads-place : (a b : Reading) (place : ℕ) → Reads families a place b → (other : ℕ) × (place_of families a b ≡ Some other)
  reads-place a b place r =
      found-first a.reads b r.reference (in-contains a.reads r.reference r.stands)
      (cell-meets families r.reference b r.cell (in-contains (cells_of (slice_get families r.reference.family) r.reference.family r.reference.indexes) r.cell r.read, in-contains (cells_of (slice_get families b.family) b.family b.left) r.cell r.concerned))

  -- ---- the edges of an assignment

  -- an edge to one of these, of which the first has this number
  abbrev pub LeadsTo : Reading → ℕ → List Reading → Edge → Type 0
  LeadsTo a node all e = (j : ℕ) × (b : Reading) × (e.to ≡ node + j) × (slice_get all j ≡ Some b) × (place_of families a b ≡ Some e.place)

  row-edge : (a : Reading) (node : ℕ) (all : List Reading) (e : Edge) → In e (row families a node all) → LeadsTo a node all e
  row-edge a node [] e h = absurd h
  row-edge a node (b ∷ more) e h = elim (in-either e (edge_if node (place_of families a b)) (row families a (node + 1) more) h) [
    | inl first ↦ at (place_of families a b) refl first
    | inr rest ↦
        let r = row-edge a (node + 1) more e rest in
        let to = r.2 in
        (suc r.0, r.1, omega (arith, to), r.3, r.4)
  ]
    where
      at : (o : Option ℕ) → place_of families a b ≡ o → In e (edge_if node o) → LeadsTo a node (b ∷ more) e
      at None is i = absurd i
      at (Some place) is (inl same) =
          let to : node ≡ e.to = ap (λ (e : Edge). e.to) same in
          (0, b, omega (arith, to), refl, is ∙ ap (λ (e : Edge). Some e.place) same)
      at (Some place) is (inr i) = absurd i

  edge-row : (a : Reading) (node : ℕ) (all : List Reading) (j : ℕ) (b : Reading) (place : ℕ) → slice_get all j ≡ Some b → place_of families a b ≡ Some place → (e : Edge) × In e (row families a node all) × (e.to ≡ node + j)
  edge-row a node [] j b place h p = absurd (cc)
  edge-row a node (c ∷ more) zero b place h p =
      let e : Edge = record { to = node; place = place } in
      let is : place_of families a c ≡ Some place = ap (place_of families a) (some_is h) ∙ p in
      (e, in-left e (edge_if node (place_of families a c)) (row families a (node + 1) more) (subst (λ (o : Option ℕ). In e (edge_if node o)) (sym is) (inl refl)), omega arith)
  edge-row a node (c ∷ more) (suc j) b place h p =
      let r = edge-row a (node + 1) more j b place h p in
      let to = r.2 in
      (r.0, in-right r.0 (edge_if node (place_of families a c)) (row families a (node + 1) more) r.1, omega (arith, to))

  module _ (all : List Reading) (u : ℕ) (a : Reading) (h : slice_get all u ≡ Some a) where
    leaving-is : leaving (rows families all) u ≡ row families a 0 all
    leaving-is = ap edges_in (get-map (λ (a : Reading). row families a 0 all) all u a h)

    pub edge-reads : (e : Edge) → Contains (leaving (rows families all) u) e → (b : Reading) × (slice_get all e.to ≡ Some b) × Reads families a e.place b
    edge-reads e c =
        let i : In e (row families a 0 all) = in-contains (row families a 0 all) e (subst (λ (es : List Edge). Contains es e) leaving-is c) in
        let r = row-edge a 0 all e i in
        let to = r.2 in
        let same : e.to ≡ r.0 = omega (arith, to) in
        (r.1, ap (slice_get all) same ∙ r.3, place-reads a r.1 e.place r.4)

    pub reads-edge : (v : ℕ) (b : Reading) (place : ℕ) → slice_get all v ≡ Some b → Reads families a place b → (e : Edge) × Contains (leaving (rows families all) u) e × (e.to ≡ v)
    reads-edge v b place g r =
        let p = reads-place a b place r in
        let e = edge-row a 0 all v b p.0 g p.1 in
        let to = e.2 in
        (e.0, subst (λ (es : List Edge). Contains es e.0) (sym leaving-is) (contains-in e.0 (row families a 0 all) e.1), omega (arith, to))

-- ---- the assignments at a place

module _ (at : ℕ) where
  abbrev StandsAt : ℕ → List Reading → ℕ → Type 0
  StandsAt node all t = (j : ℕ) × (a : Reading) × (t ≡ node + j) × (slice_get all j ≡ Some a) × (a.at ≡ at)

  node-stands : (node : ℕ) (all : List Reading) (t : ℕ) → In t (nodes_at at node all) → StandsAt node all t
  node-stands node [] t h = absurd h
  node-stands node (a ∷ more) t h = elim (in-either t (cond (nat_eq a.at at) (node ∷ []) []) (nodes_at at (node + 1) more) h) [
    | inl first ↦ here (nat_eq a.at at) refl first
    | inr rest ↦
        let r = node-stands (node + 1) more t rest in
        let to = r.2 in
        (suc r.0, r.1, omega (arith, to), r.3, r.4)
  ]
    where
      here : (b : Bool) → nat_eq a.at at ≡ b → In t (cond b (node ∷ []) []) → StandsAt node (a ∷ more) t
      here true e (inl same) = (0, a, omega (arith, same), refl, eq-is a.at at e)
      here true e (inr i) = absurd i
      here false e i = absurd i

  stands-node : (node : ℕ) (all : List Reading) (j : ℕ) (a : Reading) → slice_get all j ≡ Some a → a.at ≡ at → In (node + j) (nodes_at at node all)
  stands-node node [] j a h e = absurd (cc)
  stands-node node (b ∷ more) zero a h e =
      let same : nat_eq b.at at ≡ true = eq-true b.at at (ap (λ (a : Reading). a.at) (some_is h) ∙ e) in
      let sum : node ≡ node + 0 = omega arith in
      in-left (node + 0) (cond (nat_eq b.at at) (node ∷ []) []) (nodes_at at (node + 1) more) (subst (λ (t : Bool). In (node + 0) (cond t (node ∷ []) [])) (sym same) (inl sum))
  stands-node node (b ∷ more) (suc j) a h e =
      let r = stands-node (node + 1) more j a h e in
      let sum : node + 1 + j ≡ node + suc j = omega arith in
      in-right (node + suc j) (cond (nat_eq b.at at) (node ∷ []) []) (nodes_at at (node + 1) more) (subst (λ (t : ℕ). In t (nodes_at at (node + 1) more)) sum r)

  pub nodes-stand : (all : List Reading) (t : ℕ) → Contains (nodes_at at 0 all) t → (a : Reading) × (slice_get all t ≡ Some a) × (a.at ≡ at)
  nodes-stand all t c =
      let r = node-stands 0 all t (in-contains (nodes_at at 0 all) t c) in
      let to = r.2 in
      let same : t ≡ r.0 = omega (arith, to) in
      (r.1, ap (slice_get all) same ∙ r.3, r.4)

  pub stand-nodes : (all : List Reading) (t : ℕ) (a : Reading) → slice_get all t ≡ Some a → a.at ≡ at → Contains (nodes_at at 0 all) t
  stand-nodes all t a h e =
      let sum : 0 + t ≡ t = omega arith in
      contains-in t (nodes_at at 0 all) (subst (λ (t : ℕ). In t (nodes_at at 0 all)) sum (stands-node 0 all t a h e))
