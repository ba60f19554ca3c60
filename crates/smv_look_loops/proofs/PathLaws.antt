-- Walks through the graph of assignments are paths, and a path has a walk as long.
use Rattle.std.proofs.Common.{◌≡◌, ℕ, ◌+◌, ◌<◌, List, [], ◌∷◌, filter, length, slice_get, Some, refl, sym, ap, subst, ◌∙◌, arith}
use Rattle.std.specs.List.{Contains, flat_map}
use Rattle.std.proofs.lemmas.Option.{slice_get_within, get_or_from_slice_get}
use Rattle.law_lists.proofs.Options.{some_is}
use Rattle.law_lists.proofs.Places.{get_read}
use Rattle.smv_core.specs.declared.flat.Family.{Family}
use Rattle.smv_core.specs.declared.flat.Def.{Def}
use Rattle.smv_core.specs.declared.flat.Design.{Design}
use Rattle.law_designs.specs.Loops.{undelayed, is_base}
use Rattle.law_designs.specs.Reading.{Reading}
use Rattle.smv_loops.specs.Bases.{undelayed_of}
use Rattle.smv_loops.specs.Held.{assigned_in}
use Rattle.graph_loops.specs.declared.edges.Edge.{Edge}
use Rattle.graph_loops.specs.Walks.{leaving, Walk, IsLoopOf, IsShortest}
use Rattle.smv_look_loops.specs.Paths.{Reads, Path, assignments, IsLoopAt}
use Rattle.smv_look_loops.specs.Graphs.{rows, nodes_at}
use Rattle.smv_look_loops.proofs.EdgeLaws.{edge-reads, reads-edge, nodes-stand, stand-nodes}

contains-at : (all : List Reading) (u : ℕ) (a : Reading) → slice_get all u ≡ Some a → Contains all a
contains-at all u a h = (u, slice_get_within all u a h, get_or_from_slice_get all u a a h)

at-contains : (all : List Reading) (a : Reading) → Contains all a → (u : ℕ) × (slice_get all u ≡ Some a)
at-contains all a c = (c.0, get_read all c.0 a c.1 (sym c.2))

module _ (families : List Family) (all : List Reading) where
  walk-path : (places : List ℕ) (u t : ℕ) (a z : Reading) → slice_get all u ≡ Some a → slice_get all t ≡ Some z → Walk (rows families all) u places t → Path families all a places z
  walk-path [] u t a z h g w = some_is (sym h ∙ ap (slice_get all) w ∙ g)
  walk-path (place ∷ places) u t a z h g w =
      let r = edge-reads families all u a h w.0 w.1 in
      (r.0, contains-at all w.0.to r.0 r.1, subst (λ (p : ℕ). Reads families a p r.0) w.2 r.2, walk-path places w.0.to t r.0 z r.1 g w.3)

  -- a walk of this length
  abbrev HasWalk : ℕ → ℕ → ℕ → Type 0
  HasWalk u t many = (places : List ℕ) × (length places ≡ many) × Walk (rows families all) u places t

  one-on : (u v t : ℕ) (many : ℕ) (e : Edge) → Contains (leaving (rows families all) u) e → e.to ≡ v → HasWalk v t many → HasWalk u t (many + 1)
  one-on u v t many e c to w =
      let l = w.1 in
      (e.place ∷ w.0, omega (arith, l), (e, c, refl, subst (λ (n : ℕ). Walk (rows families all) n w.0 t) (sym to) w.2))

  path-walk : (places : List ℕ) (u t : ℕ) (a z : Reading) → slice_get all u ≡ Some a → slice_get all t ≡ Some z → 0 < length places → Path families all a places z → HasWalk u t (length places)
  path-walk [] u t a z h g p w = absurd (omega (arith, p))
  path-walk (place ∷ []) u t a z h g p w =
      let to_z : Reads families a place z = subst (λ (b : Reading). Reads families a place b) w.3 w.2 in
      let e = reads-edge families all u a h t z place g to_z in
      one-on u t t 0 e.0 e.1 e.2 ([], refl, refl)
  path-walk (place ∷ next ∷ places) u t a z h g p w =
      let v = at-contains all w.0 w.1 in
      let e = reads-edge families all u a h v.0 w.0 place v.1 w.2 in
      let r = path-walk (next ∷ places) v.0 t w.0 z v.1 g (omega arith) w.3 in
      let sum : length (next ∷ places) + 1 ≡ length (place ∷ next ∷ places) = omega arith in
      subst (HasWalk u t) sum (one-on u v.0 t (length (next ∷ places)) e.0 e.1 e.2 r)

  module _ (at : ℕ) where
    -- a loop of these assignments that begins at the place
    abbrev IsLoopIn : List ℕ → Type 0
    IsLoopIn places = (a : Reading) × Contains all a × (a.at ≡ at) × (0 < length places) × Path families all a places a

    walk-loop : (places : List ℕ) → IsLoopOf (rows families all) (nodes_at at 0 all) places → IsLoopIn places
    walk-loop places w =
        let s = nodes-stand at all w.0 w.1 in
        (s.0, contains-at all w.0 s.0 s.1, s.2, w.2.0, walk-path places w.0 w.0 s.0 s.0 s.1 s.1 w.2.1)

    loop-walk : (places : List ℕ) → IsLoopIn places → (other : List ℕ) × (length other ≡ length places) × IsLoopOf (rows families all) (nodes_at at 0 all) other
    loop-walk places p =
        let u = at-contains all p.0 p.1 in
        let w = path-walk places u.0 u.0 p.0 p.0 u.1 u.1 p.3 p.4 in
        let l = w.1 in
        let some = p.3 in
        (w.0, w.1, (u.0, stand-nodes at all u.0 p.0 u.1 p.2, (omega (arith, l, some), w.2)))

    shortest-in : (places : List ℕ) → IsShortest (IsLoopOf (rows families all) (nodes_at at 0 all)) places → IsShortest IsLoopIn places
    shortest-in [] s = λ other p. let w = loop-walk other p in s w.0 w.2
    shortest-in (place ∷ places) s = (walk-loop (place ∷ places) s.0, λ other p. let w = loop-walk other p in let k = s.1 w.0 w.2 in let l = w.1 in omega (arith, k, l))

-- ---- the assignments of a design

held-are : (defs : List Def) → flat_map undelayed_of defs ≡ flat_map undelayed defs
unfolding assigned_in
held-are defs = refl

pub shortest-at : (d : Design) (at : ℕ) (all : List Reading) (graph : List (List Edge)) (nodes places : List ℕ) → all ≡ flat_map undelayed_of (filter (is_base d) d.defs) → graph ≡ rows d.families all → nodes ≡ nodes_at at 0 all → IsShortest (IsLoopOf graph nodes) places → IsShortest (IsLoopAt d at) places
shortest-at d at all graph nodes places a g n s =
    let same : all ≡ assignments d = a ∙ held-are (filter (is_base d) d.defs) in
    let on : IsShortest (IsLoopOf (rows d.families all) (nodes_at at 0 all)) places = rw g at (rw n at s) in
    shortest-in d.families (assignments d) at places (subst (λ (all : List Reading). IsShortest (IsLoopOf (rows d.families all) (nodes_at at 0 all)) places) same on)
