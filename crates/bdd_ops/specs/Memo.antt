-- The results of one operation, kept by its operands.
use Rattle.std.specs.Prelude.{◌≡◌, ℕ, ◌-◌, ◌+◌, ◌≤◌, Bool, true, ◌&&◌, ◌||◌, ◌==◌, not, if◌then◌else◌, min, IfSome, List}
use Rattle.std.specs.declared.hash.FoldHasher.{FoldHasher}
use Rattle.std.specs.declared.hash.BuildHasherDefault.{BuildHasherDefault}
use Rattle.std.specs.HashSet.{contains, HashSet}
use Rattle.bdd_store.specs.declared.Ref.{Ref}
use Rattle.bdd_store.specs.Diagram.{Diagram, IsLive, IsProper, table, first_var}
use Rattle.memo_table.specs.Results.{Results, same_pair, result_of}
use Rattle.bdd_ops.specs.Functions.{Function, depends, bit_at}

-- conjunction where its unit is true, and disjunction where it is false
abbrev pub joined : Bool → Bool → Bool → Bool
joined unit x y = if unit then x && y else (x || y)

-- each variable is replaced by that which stands so many before it, and the value is negated where this is asked for
abbrev pub changed : ℕ → Bool → Function → Function
changed back flip f a = if flip then not (f (λ v. a (v - back))) else f (λ v. a (v - back))

abbrev pub Known : Type 0 → Type 0
Known K = HashSet K (BuildHasherDefault FoldHasher)

abbrev pub same_one : Ref → Ref → Bool
same_one p q = p.place == q.place

-- the result that is kept for a pair is right
pub record IsJoin (unit : Bool) (d : Diagram) (p : Ref × Ref) (r : Ref) : Type 0 where
  pub first_live : IsLive d p.0
  pub second_live : IsLive d p.1
  pub first_proper : IsProper d p.0
  pub second_proper : IsProper d p.1
  pub live : IsLive d r
  pub first : min (first_var d p.0) (first_var d p.1) ≤ first_var d r
  pub table : (a : ℕ → Bool) → table d r a ≡ joined unit (table d p.0 a) (table d p.1 a)

-- the result that is kept for a Ref, as both operands, is right: what T makes of its table, and at most so many
-- variables before it
pub record IsImage (T : Function → Function) (back : ℕ) (d : Diagram) (p : Ref × Ref) (r : Ref) : Type 0 where
  pub twice : p.0 ≡ p.1
  pub from_live : IsLive d p.0
  pub from_proper : IsProper d p.0
  pub live : IsLive d r
  pub first : first_var d p.0 ≤ first_var d r + back
  pub table : (a : ℕ → Bool) → table d r a ≡ T (table d p.0) a

-- each result that is kept is right
abbrev pub AreJoins : Bool → Diagram → Results → Type 0
AreJoins unit d m = (p : Ref × Ref) → IfSome (result_of m p) (IsJoin unit d p)

abbrev pub AreImages : (Function → Function) → ℕ → Diagram → Results → Type 0
AreImages T back d m = (p : Ref × Ref) → IfSome (result_of m p) (IsImage T back d p)

-- the earlier variable of two
abbrev pub pair_first : Diagram → Ref × Ref → ℕ
pair_first d p = min (first_var d p.0) (first_var d p.1)

-- f is 0 wherever g is
abbrev pub Implies : Diagram → Ref → Ref → Type 0
Implies d f g = (a : ℕ → Bool) → table d f a ≡ true → table d g a ≡ true

-- the pairs that are kept imply
abbrev pub AreImplied : Diagram → Known (Ref × Ref) → Type 0
AreImplied d known = (p : Ref × Ref) → contains same_pair known p ≡ true → Implies d p.0 p.1

-- the variables of each Ref that was seen are flagged
abbrev pub AreFlagged : Diagram → Known Ref → List Bool → Type 0
AreFlagged d seen flags = (q : Ref) → contains same_one seen q ≡ true → (v : ℕ) → depends d.vars (table d q) v ≡ true → bit_at flags v ≡ true
