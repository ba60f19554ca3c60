-- What is known of the expressions of a case stays so where a store grows.
use Rattle.std.proofs.Common.{◌≡◌, List, [], sym, subst, Some, Result, Ok, Err, IfOk}
use Rattle.smv_problem.specs.declared.problem.Problem.{Problem}
use Rattle.bdd_store.specs.declared.Ref.{Ref}
use Rattle.bdd_store.specs.Diagram.{Diagram, IsLive, table, Keeps}
use Rattle.smv_cells.specs.declared.cells.Cell.{Cell}
use Rattle.smv_cells.specs.Cells.{AreCellsMade}
use Rattle.smv_outcomes.specs.Remembered.{AreKnown, Entries}
use Rattle.smv_outcomes.proofs.KnownLaws.{known_kept, none_known}
use Rattle.smv_walks.specs.Demands.{AreOldKnown}
use Rattle.smv_encode.specs.declared.cells.Cells.{Cells}
use Rattle.smv_encode.specs.declared.cells.CaseKnown.{CaseKnown}
use Rattle.smv_encode.specs.Encoded.{AreLiveCells, AreKnownOfCase}
use Rattle.smv_encode.proofs.CodedCells.{kept_conditions}

pub list_known : (d e : Diagram) (p : Problem) (cells : List (Cell Ref)) (entries : Entries Ref) → Keeps d e → AreCellsMade (IsLive d) cells → AreKnown IsLive table d p cells entries → AreKnown IsLive table e p cells entries
list_known d e p cells entries k live known = known_kept IsLive table (λ (s : Diagram). s.vars) d e p cells entries (kept_conditions d e k) live known

pub case_known_kept : (d e : Diagram) (p : Problem) (cells : Cells) (known : CaseKnown) → Keeps d e → AreLiveCells d cells → AreKnownOfCase d p cells known → AreKnownOfCase e p cells known
case_known_kept d e p cells known k live is = record {
  current = list_known d e p cells.current.items known.current.entries.items k live.current is.current;
  next = list_known d e p cells.next.items known.next.entries.items k live.next is.next;
}

-- nothing is known
pub none_known_of_case : (d : Diagram) (p : Problem) (cells : Cells) (known : CaseKnown) → known.current.entries.items ≡ [] → known.next.entries.items ≡ [] → AreKnownOfCase d p cells known
none_known_of_case d p cells known no_current no_next = record {
  current = none_known IsLive table d p cells.current.items known.current.entries.items no_current;
  next = none_known IsLive table d p cells.next.items known.next.entries.items no_next;
}

-- ---- more is known of one time

pub current_known : (d e : Diagram) (p : Problem) (cells : Cells) (known new : CaseKnown) (now : List (Cell Ref)) → new.next.entries.items ≡ known.next.entries.items → now ≡ cells.current.items → Keeps d e → AreLiveCells d cells → AreKnownOfCase d p cells known
    → AreKnown IsLive table e p now new.current.entries.items → AreKnownOfCase e p cells new
current_known d e p cells known new now rest same k live is more = record {
  current = subst (λ (cs : List (Cell Ref)). AreKnown IsLive table e p cs new.current.entries.items) same more;
  next = subst (λ (es : Entries Ref). AreKnown IsLive table e p cells.next.items es) (sym rest) (list_known d e p cells.next.items known.next.entries.items k live.next is.next);
}

pub next_known : (d e : Diagram) (p : Problem) (cells : Cells) (known new : CaseKnown) (now : List (Cell Ref)) → new.current.entries.items ≡ known.current.entries.items → now ≡ cells.next.items → Keeps d e → AreLiveCells d cells → AreKnownOfCase d p cells known
    → AreKnown IsLive table e p now new.next.entries.items → AreKnownOfCase e p cells new
next_known d e p cells known new now rest same k live is more = record {
  current = subst (λ (es : Entries Ref). AreKnown IsLive table e p cells.current.items es) (sym rest) (list_known d e p cells.current.items known.current.entries.items k live.current is.current);
  next = subst (λ (cs : List (Cell Ref)). AreKnown IsLive table e p cs new.next.entries.items) same more;
}

-- ---- more is known of both

pub both_known : {E : Type 0} (e : Diagram) (p : Problem) (cells : Cells) (new : CaseKnown) (before now : List (Cell Ref)) → before ≡ cells.current.items → now ≡ cells.next.items → (r : Result Ref E)
    → IfOk r (λ r. AreOldKnown IsLive table e p (Some before) new.current.entries.items) → IfOk r (λ r. AreKnown IsLive table e p now new.next.entries.items) → IfOk r (λ r. AreKnownOfCase e p cells new)
both_known e p cells new before now same_before same_now (Ok r) past known = record {
  current = subst (λ (cs : List (Cell Ref)). AreKnown IsLive table e p cs new.current.entries.items) same_before past;
  next = subst (λ (cs : List (Cell Ref)). AreKnown IsLive table e p cs new.next.entries.items) same_now known;
}
both_known e p cells new before now same_before same_now (Err x) past known = tt
