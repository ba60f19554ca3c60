-- Lists of lines that grow at their end.
use Rattle.std.proofs.Common.{◌≡◌, ◌∙◌, ℕ, zero, suc, ◌≤◌, List, [], ◌∷◌, ◌++◌, length, slice_get, Some, None, refl, sym, ap, subst, arith, append_assoc, append-nil}
use Rattle.smv_proof.specs.declared.proof.Node.{Node}

abbrev pub Grows : List Node → List Node → Type 0
Grows old new = (more : List Node) × (new ≡ old ++ more)

pub grows_self : (nodes : List Node) → Grows nodes nodes
grows_self nodes = ([], sym (append-nil nodes))

pub grows_more : (nodes more : List Node) → Grows nodes (nodes ++ more)
grows_more nodes more = (more, refl)

pub grows_on : (a b c : List Node) → Grows a b → Grows b c → Grows a c
grows_on a b c (m, e) (n, f) = (m ++ n, f ∙ (ap (λ (x : List Node). x ++ n) e ∙ append_assoc a m n))

pub grows_length : (a b : List Node) → Grows a b → length a ≤ length b
grows_length a b (m, e) = subst (λ (x : List Node). length a ≤ length x) (sym e) (longer a m)
  where
    longer : (a m : List Node) → length a ≤ length (a ++ m)
    longer [] m = omega arith
    longer (x ∷ a) m = let le = longer a m in omega arith

pub get_more : (xs ys : List Node) (i : ℕ) (x : Node) → slice_get xs i ≡ Some x → slice_get (xs ++ ys) i ≡ Some x
get_more [] ys i x e = absurd (cc (e))
get_more (z ∷ xs) ys zero x e = e
get_more (z ∷ xs) ys (suc i) x e = get_more xs ys i x e

pub get_grown : (xs ys : List Node) → Grows xs ys → (i : ℕ) (x : Node) → slice_get xs i ≡ Some x → slice_get ys i ≡ Some x
get_grown xs ys (more, e) i x g = subst (λ (zs : List Node). slice_get zs i ≡ Some x) (sym e) (get_more xs more i x g)

pub get_last : (xs : List Node) (x : Node) (more : List Node) → slice_get (xs ++ x ∷ more) (length xs) ≡ Some x
get_last [] x more = refl
get_last (z ∷ xs) x more = get_last xs x more

pub none_some : {X Y : Type 0} {x : X} → None ≡ Some x → Y
none_some e = absurd (cc (e))
