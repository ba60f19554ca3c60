-- From ring 0 to the end of a search.
use Rattle.std.proofs.Common.{◌≡◌, ℕ, suc, ◌+◌, ◌*◌, inl, inr, List, [], ◌∷◌, ◌++◌, map, refl, sym, ◌∙◌, ap, subst, arith, Result, Ok, Err, Option, Some, None}
use Rattle.bdd_store.specs.declared.Ref.{Ref}
use Rattle.bdd_store.specs.Diagram.{Diagram, IsLive, table}
use Rattle.smv_rings.specs.declared.Rel.{Rel}
use Rattle.smv_rings.specs.Lists.{Lists, IsRel, lists_of, refs_of}
use Rattle.smv_rings.specs.Schedule.{functions, turn, ring, kept_at, schedule}
use Rattle.smv_rings.specs.declared.ops.Op.{Op}
use Rattle.smv_rings.specs.Ops.{IsOneOf, acts_of, FitsActs}
use Rattle.smv_rings.proofs.Rels.{lists_ok}
use Rattle.smv_rings.proofs.Rings.{ring_facts}
use Rattle.smv_rings.proofs.Fits.{turn_fits, fits_any}
use Rattle.smv_rings.proofs.Refs.{one_left, one_right, one_append}
use Rattle.smv_rings.proofs.Whole.{map_append}
use Rattle.smv_search.specs.declared.counts.Stop.{Stop}
use Rattle.smv_search.specs.declared.counts.Stop.TheVariants.{TooMany, OutOfMemory}
use Rattle.smv_search.specs.declared.turns.End.{End}
use Rattle.law_events.specs.Events.{Budget, Event, AllUneventful, First}
use Rattle.law_events.specs.Events.Event.{Counted, Reached}
use Rattle.smv_search.specs.Keeping.{AllHeld, KeepsRefs}
use Rattle.smv_search.specs.Runs.{IsEnd, IsEndLive}
use Rattle.smv_search.specs.Answers.{Begins}
use Rattle.smv_search.proofs.Keep.{keeps_then, keeps_some}
use Rattle.smv_search.proofs.TurnLaws.{first_longer}
use Rattle.smv_search.proofs.Start.{lists_kept, functions_are}

first_more : (l : Lists) (b : Budget) (v : Event) (n : ℕ) → First b (schedule l 0) v → First b (schedule l n) v
first_more l b v n first = let e : n + 0 ≡ n = omega arith in subst (λ (i : ℕ). First b (schedule l i) v) e (first_longer l b v 0 n first)

-- the plan of a turn fits each ring
pub plan_fits : (e : Diagram) (rel : Rel) (ops : List Op) → IsRel e rel → ((k : ℕ) → acts_of e (suc k) ops ≡ turn (lists_of e rel) k) → (k : ℕ) → FitsActs e.vars (ring (lists_of e rel) k) (acts_of e 0 ops)
unfolding lists_of
plan_fits e rel ops is turns k =
    let ok = lists_ok e rel is in
    subst (λ (n : ℕ). FitsActs n (ring (lists_of e rel) k) (acts_of e 0 ops)) (sym is.vars)
    (fits_any e (2 * rel.bits) (suc k) 0 (ring (lists_of e rel) k) ops
    (subst (FitsActs (2 * rel.bits) (ring (lists_of e rel) k)) (sym (turns k)) (turn_fits (lists_of e rel) ok (ring (lists_of e rel) k) k (ring_facts (lists_of e rel) ok k).0)))

module _ (d e : Diagram) (rel : Rel) (keeps : KeepsRefs d e (refs_of rel)) (nodes steps : ℕ) (r : Result (Option Ref) Stop) where
  abbrev pub budget_at : Diagram → Budget
  budget_at f = record { vars = f.vars; nodes = nodes; images = steps }

  module _ (begins : Begins e (lists_of d rel) (budget_at d) r) where
    pub begun_stop : (s : Stop) → r ≡ Err s → IsEnd e (lists_of d rel) (budget_at d) (Err s)
    begun_stop (TooMany n) is = first_more (lists_of d rel) (budget_at d) (Counted n) steps (subst (Begins e (lists_of d rel) (budget_at d)) is begins)
    begun_stop OutOfMemory is = tt

    pub begun_none : r ≡ Ok None → First (budget_at d) (schedule (lists_of d rel) steps) (Reached 0)
    begun_none is = first_more (lists_of d rel) (budget_at d) (Reached 0) steps (subst (Begins e (lists_of d rel) (budget_at d)) is begins)

    module _ (first : Ref) (some : r ≡ Ok (Some first)) (live now pushed : List Ref) (own : live ≡ refs_of rel) (same : now ≡ live) (push_is : pushed ≡ now ++ (first ∷ [])) where
      got : AllUneventful (budget_at d) (schedule (lists_of d rel) 0) × IsLive e first × (table e first ≡ ring (lists_of d rel) 0)
      got = subst (Begins e (lists_of d rel) (budget_at d)) some begins

      pushed_is : pushed ≡ refs_of rel ++ (first ∷ [])
      pushed_is = push_is ∙ ap (λ rs. rs ++ (first ∷ [])) (same ∙ own)

      pub first_in : IsOneOf first pushed
      first_in = subst (IsOneOf first) (sym pushed_is) (one_right first (refs_of rel) (first ∷ []) (inl refl))

      pub own_in : (q : Ref) → IsOneOf q (refs_of rel) → IsOneOf q pushed
      own_in q one = subst (IsOneOf q) (sym pushed_is) (one_left q (refs_of rel) (first ∷ []) one)

      pub live_in : AllHeld e pushed
      live_in q one = elim (one_append q (refs_of rel) (first ∷ []) (subst (IsOneOf q) pushed_is one)) [
        | inl old ↦ keeps.live q old
        | inr new ↦ elim new [ inl is ↦ subst (IsLive e) (sym is) got.1 | inr none ↦ absurd none ]
      ]

      pub ring_at : table e first ≡ ring (lists_of e rel) 0
      ring_at = got.2 ∙ ap (λ l. ring l 0) (sym (lists_kept d e rel keeps))

      pub kept_pushed : map (table e) pushed ≡ kept_at (lists_of e rel) 0
      kept_pushed = ap (map (table e)) pushed_is ∙ map_append (table e) (refs_of rel) (first ∷ []) ∙ ap (λ fs. fs ++ (table e first ∷ [])) (functions_are e rel) ∙ ap (λ f. functions (lists_of e rel) ++ (f ∷ [])) ring_at

      pub passed_at : AllUneventful (budget_at e) (schedule (lists_of e rel) 0)
      passed_at =
          subst (λ l. AllUneventful (budget_at e) (schedule l 0)) (sym (lists_kept d e rel keeps)) (
          subst (λ (n : ℕ). AllUneventful (record { vars = n; nodes = nodes; images = steps }) (schedule (lists_of d rel) 0)) (sym keeps.vars) got.0)

      module _ (f : Diagram) (result : Result End Stop) where
        pub end_at : IsEnd f (lists_of e rel) (budget_at e) result → IsEnd f (lists_of d rel) (budget_at d) result
        end_at end =
            subst (λ (n : ℕ). IsEnd f (lists_of d rel) (record { vars = n; nodes = nodes; images = steps }) result) keeps.vars (
            subst (λ l. IsEnd f l (budget_at e) result) (lists_kept d e rel keeps) end)

        pub keeps_at : KeepsRefs e f pushed → KeepsRefs d f (refs_of rel)
        keeps_at more = keeps_then d e f (refs_of rel) keeps (keeps_some e f pushed (refs_of rel) own_in more)

        pub rings_at : (final : List Ref) → ((own : List Ref) → pushed ≡ own ++ (first ∷ []) → map (table e) own ≡ functions (lists_of e rel) → IsEndLive f (lists_of e rel) own final result) → IsEndLive f (lists_of d rel) (refs_of rel) final result
        rings_at final rings = subst (λ l. IsEndLive f l (refs_of rel) final result) (lists_kept d e rel keeps) (rings (refs_of rel) pushed_is (functions_are e rel))
