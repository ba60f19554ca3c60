-- Functions of finitely many variables.
use Rattle.std.proofs.Common.{◌≡◌, ℕ, zero, suc, Bool, true, false, ◌⊎◌, inl, inr, refl, ◌∙◌, arith}
use Rattle.bdd_store.specs.declared.Ref.{Ref}
use Rattle.bdd_store.specs.Graph.{with_at}
use Rattle.bdd_store.specs.Diagram.{Diagram, table}
use Rattle.bdd_store.proofs.Functions.{with_agree, with_own, half_reads, table_reads, Reads}
use Rattle.bdd_ops.specs.Functions.{Function, depends, FreeOf}
use Rattle.bdd_ops.proofs.Depends as Known
use Rattle.smv_rings.specs.Functions.{DependsBelow}

pub table_below : (d : Diagram) (r : Ref) → DependsBelow d.vars (table d r)
table_below d r a c same = table_reads d r a c (λ v le lt. same v (omega arith))

pub below_reads : (n : ℕ) (f : Function) → DependsBelow n f → Reads n 0 f
below_reads n f below a c same = below a c (λ v lt. same v (omega arith) (omega arith))

pub free_then : (n v : ℕ) (f : Function) → DependsBelow n f → (x : Bool) → DependsBelow n (λ a. f (with_at a v x))
free_then n v f below x a c same = below (with_at a v x) (with_at c v x) (λ w lt. with_agree a c v x w (λ ne. same w lt))

pub free_of : (n v : ℕ) (f : Function) → DependsBelow n f → depends n f v ≡ false → FreeOf v f
free_of n v f below e = Known.not_depends n v f (below_reads n f below) e

-- some assignment has the value 1, or none has
pub some_or_never : (b k : ℕ) (f : Function) → Reads b k f → ((a : ℕ → Bool) × (f a ≡ true)) ⊎ ((a : ℕ → Bool) → f a ≡ false)
some_or_never zero k f reads = by_value (f (λ _. false)) refl
  where
    by_value : (x : Bool) → f (λ _. false) ≡ x → ((a : ℕ → Bool) × (f a ≡ true)) ⊎ ((a : ℕ → Bool) → f a ≡ false)
    by_value true e = inl ((λ _. false), e)
    by_value false e = inr (λ a. reads a (λ _. false) (λ v le lt. absurd (omega arith)) ∙ e)
some_or_never (suc b) k f reads =
    elim (some_or_never b (suc k) (λ a. f (with_at a k false)) (half_reads b k f false reads)) [
      | inl found ↦ inl (with_at found.0 k false, found.1)
      | inr none_low ↦ elim (some_or_never b (suc k) (λ a. f (with_at a k true)) (half_reads b k f true reads)) [
        | inl found ↦ inl (with_at found.0 k true, found.1)
        | inr none_high ↦ inr (λ a. reads a (with_at a k (a k)) (λ v le lt. with_own a k v) ∙ both a (a k) none_low none_high)
      ]
    ]
  where
    both : (a : ℕ → Bool) (x : Bool) → ((c : ℕ → Bool) → f (with_at c k false) ≡ false) → ((c : ℕ → Bool) → f (with_at c k true) ≡ false) → f (with_at a k x) ≡ false
    both a false low high = low a
    both a true low high = high a
