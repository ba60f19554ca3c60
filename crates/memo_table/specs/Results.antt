-- What a reader of the contracts must believe: a Memo is a list of results by their operands, the last one first.
use Rattle.std.specs.Prelude.{Bool, ◌==◌, ◌&&◌, List, Option}
use Rattle.std.specs.Map.{lookup}
use Rattle.bdd_store.specs.declared.Ref.{Ref}

abbrev pub Results : Type 0
Results = List ((Ref × Ref) × Ref)

abbrev pub same_pair : Ref × Ref → Ref × Ref → Bool
same_pair p q = p.0.place == q.0.place && p.1.place == q.1.place

-- the result for a pair of operands
abbrev pub result_of : Results → Ref × Ref → Option Ref
result_of m p = lookup (same_pair p) m
