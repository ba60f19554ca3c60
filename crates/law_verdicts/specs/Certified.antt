-- What the inductive check says of the set of a closed search.
use Rattle.std.specs.Prelude.{ℕ}
use Rattle.bdd_store.specs.declared.Ref.{Ref}
use Rattle.bdd_store.specs.Diagram.{Diagram, IsLive, table}
use Rattle.smv_rings.specs.declared.Rel.{Rel}
use Rattle.smv_rings.specs.Lists.{IsCurrent, IsRel, lists_of, refs_of}
use Rattle.smv_rings.specs.Ops.{IsOneOf}
use Rattle.smv_rings.specs.Paths.{IsInductive}
use Rattle.smv_search.specs.declared.Outcome.TheVariants.{Closed}
use Rattle.smv_search.specs.Keeping.{KeepsRefs}
use Rattle.smv_search.specs.Answers.{Answers, IsProof, found}

-- the check may be called of the set in this store, and is true of it
pub record PassesCheck (d : Diagram) (rel : Rel) (set : Ref) : Type 0 where
  pub rel_is : IsRel d rel
  pub live : IsLive d set
  pub current : IsCurrent (table d set)
  pub inductive : IsInductive (lists_of d rel) (table d set)

-- Where a search that began in one store ends in another with a closed set, as its contract says it, the set passes the inductive check there.
abbrev pub ClosedSetsPass : Type 0
ClosedSetsPass = (old new : Diagram) (rel : Rel) (nodes steps : ℕ) (set : Ref) → IsRel old rel → KeepsRefs old new (refs_of rel) →
    ((r : Ref) → IsOneOf r (found (Closed set)) → IsLive new r) → Answers new (lists_of old rel) nodes steps (Closed set) → IsProof new (lists_of old rel) nodes (Closed set) →
    PassesCheck new rel set
