-- What the laws of definitions need: each `forall` variable is an index of each left side under it, and at most one of its values gives a result.
use Rattle.std.specs.Prelude.{◌≡◌, ◌<◌, ℕ, suc, List, [], ◌∷◌, length, slice_get, is_none, Some, true, false}
use Rattle.smv_core.specs.Values.{Value}
use Rattle.smv_core.specs.FlatMeaning.{Numbered, FlatState, FlatElement, bind, values_in, flat_result}
use Rattle.smv_core.specs.declared.flat.Def.{Def}
use Rattle.smv_core.specs.declared.flat.FlatExpr.{Var}
use Rattle.smv_core.specs.declared.flat.DefBody.{DefBody, Nothing, Assign, If', First', Forall', Row_of-DefBody, end_of-DefBody, more_of-DefBody}
use Rattle.law_obligations.specs.Sets.{Has}
use Rattle.law_obligations.specs.Places.{is_named}
use Rattle.law_obligations.specs.Pictures.{Placing, placed, IsState, IsValue, AreValues}

abbrev mutual
  -- each assignment has the variable of this number alone as one of so many indexes, under binders of greater numbers
  pub HasVariable : ℕ → ℕ → DefBody → Type 0
  HasVariable var count Nothing = Unit {0}
  HasVariable var count (Assign left value place at) = (j : ℕ) × (j < count) × (offset : ℕ) × (slice_get left j ≡ Some (Var var offset))
  HasVariable var count (If' cond l (more_of-DefBody left end_of-DefBody) r (more_of-DefBody right end_of-DefBody)) = HasVariable var count left × HasVariable var count right
  HasVariable var count (First' shape parts) = HaveVariable var count parts
  HasVariable var count (Forall' other over shape (more_of-DefBody body end_of-DefBody)) = (var < other) × HasVariable var count body

  pub HaveVariable : {m : _} → ℕ → ℕ → Row_of-DefBody m → Type 0
  HaveVariable var count end_of-DefBody = Unit {0}
  HaveVariable var count (more_of-DefBody part others) = HasVariable var count part × HaveVariable var count others

abbrev mutual
  -- under so many variables: each `forall` has the next number, and each assignment under it has its variable
  pub IsBound : ℕ → ℕ → DefBody → Type 0
  IsBound around count Nothing = Unit {0}
  IsBound around count (Assign left value place at) = Unit {0}
  IsBound around count (If' cond l (more_of-DefBody left end_of-DefBody) r (more_of-DefBody right end_of-DefBody)) = IsBound around count left × IsBound around count right
  IsBound around count (First' shape parts) = AreBound around count parts
  IsBound around count (Forall' var over shape (more_of-DefBody body end_of-DefBody)) = (var ≡ around) × HasVariable var count body × IsBound (suc around) count body

  pub AreBound : {m : _} → ℕ → ℕ → Row_of-DefBody m → Type 0
  AreBound around count end_of-DefBody = Unit {0}
  AreBound around count (more_of-DefBody part others) = IsBound around count part × AreBound around count others

module _ (n : Numbered) (s : FlatState) (x : FlatElement) (every : List Value) where
  abbrev mutual
    -- at most one value of each `forall` variable gives the element a result
    pub OneGives : DefBody → Type 0
    OneGives Nothing = Unit {0}
    OneGives (Assign left value place at) = Unit {0}
    OneGives (If' cond l (more_of-DefBody left end_of-DefBody) r (more_of-DefBody right end_of-DefBody)) = OneGives left × OneGives right
    OneGives (First' shape parts) = OneOfEachGives parts
    OneGives (Forall' var over shape (more_of-DefBody body end_of-DefBody)) =
        ((b : List Value) → AreValues n b → length b ≡ var → (u v : Value) → Has (values_in n over) u → Has (values_in n over) v →
        is_none (flat_result n s x every body (bind b var u)) ≡ false → is_none (flat_result n s x every body (bind b var v)) ≡ false → u ≡ v)
        × OneGives body

    pub OneOfEachGives : {m : _} → Row_of-DefBody m → Type 0
    OneOfEachGives end_of-DefBody = Unit {0}
    OneOfEachGives (more_of-DefBody part others) = OneGives part × OneOfEachGives others

-- values of a design that lie at numbers, constants and classes
abbrev pub AreAtClasses : Numbered → Placing → List Value → Type 0
AreAtClasses n spots [] = Unit {0}
AreAtClasses n spots (v ∷ vs) = (IsValue n v × (is_named (placed spots v) ≡ true)) × AreAtClasses n spots vs

-- the parts of a definition are so for an element, in every state
pub record IsSingle (n : Numbered) (def : Def) (indexes : List Value) (every : List Value) : Type 0 where
  pub init_bound : IsBound 0 (length indexes) def.init
  pub next_bound : IsBound 0 (length indexes) def.next
  pub comb_bound : IsBound 0 (length indexes) def.comb
  pub init_single : (s : FlatState) → IsState n s → OneGives n s (record { family = def.family; indexes = indexes }) every def.init
  pub next_single : (s : FlatState) → IsState n s → OneGives n s (record { family = def.family; indexes = indexes }) every def.next
  pub comb_single : (s : FlatState) → IsState n s → OneGives n s (record { family = def.family; indexes = indexes }) every def.comb
