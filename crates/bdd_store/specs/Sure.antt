-- Which results stay for a turn.
use Rattle.std.specs.Prelude.{◌≡◌, ℕ, ◌<◌, List, length}
use Rattle.bdd_store.specs.declared.Operation.{Operation}
use Rattle.bdd_store.specs.declared.Operation.TheVariants.{And, Or, Not, Rename, Exists}
use Rattle.bdd_store.specs.declared.results.Entry.{Entry}
use Rattle.bdd_store.specs.Results.{entry_at}
use Rattle.bdd_store.specs.Chains.{bucket_of}

-- the place of an operation among len
unfoldable pub slot_of : ℕ → Operation → ℕ
slot_of len (And f g) = bucket_of 1 f.place g.place len
slot_of len (Or f g) = bucket_of 2 f.place g.place len
slot_of len (Not f) = bucket_of 3 f.place 0 len
slot_of len (Rename f) = bucket_of 4 f.place 0 len
slot_of len (Exists f v) = bucket_of 5 f.place v len

-- an operation's place has its result, which is of this turn
pub record IsSure (es : List Entry) (turn : ℕ) (o : Operation) : Type 0 where
  pub some : 0 < length es
  pub here : (entry_at es (slot_of (length es) o)).operation ≡ o
  pub now : (entry_at es (slot_of (length es) o)).turn ≡ turn
