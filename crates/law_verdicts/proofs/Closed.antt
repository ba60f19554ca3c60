-- The set of a closed search passes the inductive check.
use Rattle.std.proofs.Common.{inl, refl, sym, subst}
use Rattle.bdd_store.specs.Diagram.{table}
use Rattle.smv_rings.specs.Lists.{Lists, IsCurrent, lists_of}
use Rattle.smv_rings.specs.Paths.{IsInductive}
use Rattle.smv_rings.proofs.Rels.{lists_ok}
use Rattle.smv_rings.proofs.Rings.{ring_facts}
use Rattle.smv_search.proofs.Start.{rel_kept, lists_kept}
use Rattle.law_verdicts.specs.Certified.{ClosedSetsPass}

pub closed_pass : ClosedSetsPass
closed_pass old new rel nodes images set ok keeps live answer proof = record {
  rel_is = rel_kept old new rel keeps ok;
  live = live set (inl refl);
  current = subst IsCurrent (sym answer.2) (ring_facts (lists_of old rel) (lists_ok old rel ok) answer.0).1;
  inductive = subst (λ (l : Lists). IsInductive l (table new set)) (sym (lists_kept old new rel keeps)) proof.0;
}
