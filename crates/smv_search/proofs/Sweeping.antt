-- The last sweep of a search.
use Rattle.std.proofs.Common.{◌≡◌, ℕ, List, ◌++◌, inl, inr, sym, subst}
use Rattle.bdd_store.specs.declared.Ref.{Ref}
use Rattle.bdd_store.specs.Diagram.{Diagram, AreLive, Sweeps}
use Rattle.smv_rings.specs.declared.Rel.{Rel}
use Rattle.smv_rings.specs.Lists.{IsRel, lists_of, refs_of}
use Rattle.smv_rings.specs.Ops.{IsOneOf}
use Rattle.smv_rings.proofs.Rels.{lists_ok}
use Rattle.smv_rings.proofs.Refs.{one_left, one_right, one_append}
use Rattle.smv_search.specs.declared.Outcome.{Outcome}
use Rattle.law_events.specs.Events.{Budget}
use Rattle.smv_search.specs.Keeping.{AllHeld, KeepsRefs}
use Rattle.smv_search.specs.Answers.{found, Answers, IsProof, IsTold}
use Rattle.smv_search.proofs.Keep.{held_at, keeps_swept, keeps_then, keeps_some}
use Rattle.smv_search.proofs.Outcomes.{found_live, answers, proof_of}

module _ (d e : Diagram) (rel : Rel) (is : IsRel d rel) (keeps : KeepsRefs d e (refs_of rel)) (nodes images : ℕ) (o : Outcome) where
  abbrev pub budget_of : Budget
  budget_of = record { vars = d.vars; nodes = nodes; images = images }

  module _ (told : IsTold e (lists_of d rel) budget_of o) (roots : List Ref) (roots_are : roots ≡ refs_of rel ++ found o) where
    roots_held : AllHeld e roots
    roots_held r one = elim (one_append r (refs_of rel) (found o) (subst (IsOneOf r) roots_are one)) [
      | inl old ↦ keeps.live r old
      | inr new ↦ found_live (lists_of d rel) budget_of (lists_ok d rel is) e e roots o told r new
    ]

    own_in : (r : Ref) → IsOneOf r (refs_of rel) → IsOneOf r roots
    own_in r one = subst (IsOneOf r) (sym roots_are) (one_left r (refs_of rel) (found o) one)

    found_in : (r : Ref) → IsOneOf r (found o) → IsOneOf r roots
    found_in r one = subst (IsOneOf r) (sym roots_are) (one_right r (refs_of rel) (found o) one)

    pub roots_live : AreLive e roots
    roots_live = held_at e roots roots_held

    module _ (f : Diagram) (sweeps : Sweeps e f roots) where
      swept : KeepsRefs e f roots
      swept = keeps_swept e f roots roots_held sweeps

      pub keeps_end : KeepsRefs d f (refs_of rel)
      keeps_end = keeps_then d e f (refs_of rel) keeps (keeps_some e f roots (refs_of rel) own_in swept)

      pub found_end : AllHeld f (found o)
      found_end r one = swept.live r (found_in r one)

      pub answers_end : Answers f (lists_of d rel) nodes images o
      unfolding lists_of
      answers_end = answers (lists_of d rel) budget_of (lists_ok d rel is) e f roots o told swept found_in keeps.vars is.vars

      pub proof_end : IsProof f (lists_of d rel) nodes o
      proof_end = proof_of (lists_of d rel) budget_of (lists_ok d rel is) e f roots o told swept found_in keeps.vars
