-- What an outcome says, and what it means.
use Rattle.std.proofs.Common.{◌≡◌, ℕ, zero, suc, ◌*◌, ◌≤◌, true, List, [], ◌∷◌, ◌++◌, map, length, drop, inl, inr, refl, sym, ◌∙◌, ap, subst, arith, append_assoc}
use Rattle.std.proofs.Math.Seq.{drop-append_seam}
use Rattle.bdd_store.specs.declared.Ref.{Ref}
use Rattle.bdd_store.specs.Beads.{truth_table, bead_count}
use Rattle.bdd_store.specs.Diagram.{Diagram, IsLive, table, beads}
use Rattle.bdd_store.proofs.Functions.{one_of, beads_monotone}
use Rattle.bdd_ops.specs.Functions.{Function}
use Rattle.smv_rings.specs.Lists.{Lists, IsLists}
use Rattle.smv_rings.specs.Paths.{IsInductive}
use Rattle.smv_rings.specs.Schedule.{live, functions, after, turn, ring, kept_at, schedule}
use Rattle.smv_rings.specs.Ops.{IsOneOf}
use Rattle.smv_rings.proofs.PathLaws.{violating_of, violates_of}
use Rattle.smv_search.specs.declared.Outcome.{Outcome}
use Rattle.smv_search.specs.declared.Outcome.TheVariants.{Closed, Reaches, OutOfNodes, OutOfSteps}
use Rattle.law_events.specs.Events.{Budget, Event, count, First, IsFirstEvent}
use Rattle.law_events.specs.Events.Event.{Counted, Reached, Shut, Images}
use Rattle.smv_search.specs.Keeping.{AllHeld, KeepsRefs}
use Rattle.smv_search.specs.Runs.{rings_to}
use Rattle.smv_search.specs.Answers.{found, Answers, IsProof, IsLeast, IsFew, IsTold}
use Rattle.smv_search.proofs.Keep.{map_kept, keeps_some}
use Rattle.law_events.proofs.Meaning.{false_means, true_means, images_mean, shut_within}
use Rattle.smv_search.proofs.Start.{one_here, one_alone}

-- what stands behind the functions of the lists are the rings
pub rings_behind : (d : Diagram) (l : Lists) (refs now shown : List Ref) (own depth : ℕ) → own ≡ length refs → shown ≡ drop own now → (rings : List Ref) × (now ≡ refs ++ rings) × (map (table d) rings ≡ rings_to l depth) × ((r : Ref) → IsOneOf r rings → IsLive d r)
    → (map (table d) shown ≡ rings_to l depth) × ((r : Ref) → IsOneOf r shown → IsLive d r)
rings_behind d l refs now shown own depth len is (rings, front, tables, live) =
    let same : shown ≡ rings = is ∙ ap (λ (n : ℕ). drop n now) len ∙ ap (drop (length refs)) front ∙ drop-append_seam refs rings in
    (ap (map (table d)) same ∙ tables, λ r one. live r (subst (IsOneOf r) same one))

last_kept : (l : Lists) (k : ℕ) → (fs : List Function) × (kept_at l k ≡ fs ++ (ring l k ∷ []))
last_kept l zero = (functions l, refl)
last_kept l (suc k) = (kept_at l k, refl)

-- a ring that is kept has no more beads than all that is counted
ring_within : (l : Lists) (n k : ℕ) (rest : List Function) → bead_count n (truth_table n 0 (ring l k) ∷ []) ≤ bead_count n (map (truth_table n 0) (kept_at l k ++ rest))
ring_within l n k rest =
    let split = last_kept l k in
    let is : kept_at l k ++ rest ≡ split.0 ++ (ring l k ∷ rest) = ap (λ fs. fs ++ rest) split.1 ∙ append_assoc split.0 (ring l k ∷ []) rest in
    beads_monotone n (truth_table n 0 (ring l k) ∷ []) (map (truth_table n 0) (kept_at l k ++ rest)) (λ t e.
    subst (λ u. one_of (map (truth_table n 0) (kept_at l k ++ rest)) u ≡ true) (sym (one_alone n (ring l k) t e))
    (subst (λ fs. one_of (map (truth_table n 0) fs) (truth_table n 0 (ring l k)) ≡ true) (sym is) (one_here n split.0 rest (ring l k))))

module _ (l : Lists) (b : Budget) (ok : IsLists l) where
  shut_beads : (n k : ℕ) → First b (schedule l n) (Shut k) → bead_count b.vars (truth_table b.vars 0 (ring l k) ∷ []) ≤ b.nodes
  unfolding count
  shut_beads n k first = omega (arith, ring_within l b.vars k (after (ring l k) (turn l k) ∷ (ring l (suc k) ∷ [])), shut_within l b n k first)

  module _ (d e : Diagram) (roots : List Ref) (o : Outcome) (told : IsTold d l b o) where
    pub found_live : AllHeld d (found o)
    found_live = by_case o told
      where
        by_case : (o : Outcome) → IsTold d l b o → AllHeld d (found o)
        by_case (Closed set) (k, first, is, live) r one = elim one [ inl same ↦ subst (IsLive d) (sym same) live | inr none ↦ absurd none ]
        by_case (Reaches depth rings) told r one = told.2 r one
        by_case (OutOfNodes n) told r one = absurd one
        by_case OutOfSteps told r one = absurd one

    module _ (keeps : KeepsRefs d e roots) (sub : (r : Ref) → IsOneOf r (found o) → IsOneOf r roots) (vars : d.vars ≡ b.vars) where
      pub answers : b.vars ≡ 2 * l.bits → Answers e l b.nodes b.images o
      answers bits = by_case o told sub
        where
          of_budget : (v : Event) → First b (schedule l b.images) v → IsFirstEvent l b.nodes b.images v
          of_budget v first = subst (λ (n : ℕ). First (record { vars = n; nodes = b.nodes; images = b.images }) (schedule l b.images) v) bits first

          by_case : (o : Outcome) → IsTold d l b o → ((r : Ref) → IsOneOf r (found o) → IsOneOf r roots) → Answers e l b.nodes b.images o
          by_case (Closed set) (k, first, is, live) sub = (k, of_budget (Shut k) first, keeps.tables set (sub set (inl refl)) ∙ is)
          by_case (Reaches depth rings) told sub = (of_budget (Reached depth) told.0, map_kept d e rings.items (keeps_some d e roots rings.items sub keeps) ∙ told.1)
          by_case (OutOfNodes n) told sub = of_budget (Counted n) told
          by_case OutOfSteps told sub = of_budget Images told

      pub proof_of : IsProof e l b.nodes o
      unfolding beads
      proof_of = by_case o told sub
        where
          by_case : (o : Outcome) → IsTold d l b o → ((r : Ref) → IsOneOf r (found o) → IsOneOf r roots) → IsProof e l b.nodes o
          by_case (Closed set) (k, first, is, live) sub =
              let means = true_means l b ok b.images k first in
              let table_is : table e set ≡ ring l k = keeps.tables set (sub set (inl refl)) ∙ is in
              let n : e.vars ≡ b.vars = keeps.vars ∙ vars in (
                subst (λ f. IsInductive l f) (sym table_is) means.0,
                (λ j path is. means.1 j (path j) (violates_of l j path is)),
                subst (λ (m : ℕ). bead_count m (truth_table m 0 (table e set) ∷ []) ≤ b.nodes) (sym n) (subst (λ f. bead_count b.vars (truth_table b.vars 0 f ∷ []) ≤ b.nodes) (sym table_is) (shut_beads b.images k first)),
              )
          by_case (Reaches depth rings) told sub = tt
          by_case (OutOfNodes n) told sub = tt
          by_case OutOfSteps told sub = tt

    pub least_of : IsLeast l o
    least_of = by_case o told
      where
        by_case : (o : Outcome) → IsTold d l b o → IsLeast l o
        by_case (Closed set) told = tt
        by_case (Reaches depth rings) told =
            let means = false_means l b ok b.images depth told.0 in
            let path = violating_of l depth means.0.0 means.0.1 in
            ((path.0, path.1), λ k lt path is. means.1 k lt (path k) (violates_of l k path is))
        by_case (OutOfNodes n) told = tt
        by_case OutOfSteps told = tt

    pub few_of : IsFew l b.images o
    few_of = by_case o told
      where
        by_case : (o : Outcome) → IsTold d l b o → IsFew l b.images o
        by_case (Closed set) told = tt
        by_case (Reaches depth rings) told = tt
        by_case (OutOfNodes n) told = tt
        by_case OutOfSteps told = images_mean l b ok b.images told
