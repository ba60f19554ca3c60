-- Distinct nodes below a function are no more than its beads.
use Rattle.std.proofs.Common.{◌≡◌, ℕ, suc, ◌≤◌, Bool, true, false, ◌||◌, eqb, cond, List, [], ◌∷◌, length, refl, sym, ◌∙◌, ap, arith, inl, inr}
use Rattle.std.specs.List.{IsDistinct, AllByRecursion}
use Rattle.bdd_store.specs.declared.Ref.{Ref}
use Rattle.bdd_store.specs.Graph.{below}
use Rattle.bdd_store.specs.Beads.{count_distinct}
use Rattle.bdd_store.specs.Diagram.{Diagram, IsLive, IsReduced, IsProper, Reaches, beads}
use Rattle.bdd_store.proofs.Few.{beads_are}
use Rattle.bdd_store.proofs.Sets.{member, Subset, subset_count, eqb_is, or_true}
use Rattle.bdd_ops.specs.Memo.{same_one}

-- a node that f reaches
pub record IsBelow (d : Diagram) (f p : Ref) : Type 0 where
  pub reached : Reaches d f p
  pub proper : IsProper d p

abbrev places : List Ref → List ℕ
places [] = []
places (p ∷ ps) = p.place ∷ places ps

or_neither : (s t : Bool) → s ≡ false → t ≡ false → s || t ≡ false
or_neither s t e f = ap (λ x. x || t) e ∙ f

not_among : (x : ℕ) (p : Ref) (ps : List Ref) → p.place ≡ x → AllByRecursion (λ q. same_one p q ≡ false) ps → member x (places ps) ≡ false
not_among x p [] e all = refl
not_among x p (q ∷ qs) e all = or_neither (eqb x q.place) (member x (places qs)) (ap (λ y. eqb y q.place) (sym e) ∙ all.0) (not_among x p qs e all.1)

count_places : (ps : List Ref) → IsDistinct same_one ps → count_distinct eqb (places ps) ≡ length ps
unfolding IsDistinct count_distinct
count_places [] d = refl
count_places (p ∷ ps) d = ap (λ t. cond t (count_distinct eqb (places ps)) (suc (count_distinct eqb (places ps)))) (not_among p.place p ps refl d.0) ∙ ap suc (count_places ps d.1)

places_below : (d : Diagram) (f : Ref) (ps : List Ref) → AllByRecursion (IsBelow d f) ps → Subset (places ps) (below d.nodes d.vars 0 f.place)
unfolding Reaches
places_below d f [] all q e = absurd (let none : false ≡ true = e in cc)
places_below d f (p ∷ ps) all q e = elim (or_true (eqb q p.place) (member q (places ps)) e) [
  | inl is ↦ ap (λ z. member z (below d.nodes d.vars 0 f.place)) (eqb_is q p.place is) ∙ all.0.reached all.0.proper
  | inr later ↦ places_below d f ps all.1 q later
]

pub few_ones_below : (d : Diagram) → IsReduced d → (f : Ref) → IsLive d f → (ps : List Ref) → IsDistinct same_one ps → AllByRecursion (IsBelow d f) ps → length ps ≤ beads d f
few_ones_below d ok f live ps distinct all =
    let few = subset_count (places ps) (below d.nodes d.vars 0 f.place) (places_below d f ps all) in
    omega (arith, few, count_places ps distinct, beads_are d ok f live)
