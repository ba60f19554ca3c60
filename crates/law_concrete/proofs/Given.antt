-- Sizes that are given are sizes of the design.
use Rattle.std.proofs.Common.{◌≡◌, ◌<◌, ◌≤◌, ℕ, suc, List, [], ◌∷◌, length, Option, Some, None, Bool, true, false, if◌then◌else◌, refl, sym, subst, arith}
use Rattle.std.specs.Prelude.{IfSome}
use Rattle.std.specs.Str.{bytes_eq}
use Rattle.std.proofs.lemmas.Slice.Eq.{bytes_eq-Decides}
use Rattle.smv_core.specs.declared.flat.SetInfo.{SetInfo}
use Rattle.law_obligations.specs.Sets.{Has, first, later}
use Rattle.law_obligations.specs.Covers.{AreApart, by_name}
use Rattle.law_concrete.specs.Sizes.{next_size, given_after, size_list, undeclared}

-- a size of a set type, as it is declared
abbrev IsRight : Option ℕ → ℕ → Type 0
IsRight size k = (0 < k) × IfSome size (λ n. k ≡ n)

next-right : (size : Option ℕ) (given : List ℕ) (more : ℕ) → IfSome size (λ n. 1 ≤ n) → ((k : ℕ) → Has given k → 1 ≤ k) → (size ≡ None → length given ≡ suc more) → IsRight size (next_size size given)
next-right (Some n) given more h each long = (omega (arith, h), refl)
next-right None [] more h each long = absurd (let l = long refl in omega (arith, l))
next-right None (k ∷ given) more h each long = ((let l = each k first in omega (arith, l)), tt)

apart-false : (a b : List ℕ) → (a ≡ b → ⊥) → bytes_eq a b ≡ false
apart-false a b h = at (bytes_eq a b) refl
  where
    at : (c : Bool) → bytes_eq a b ≡ c → bytes_eq a b ≡ false
    at true e = absurd (h ((bytes_eq-Decides a b).0 e))
    at false e = e

after-each : (size : Option ℕ) (given : List ℕ) → ((k : ℕ) → Has given k → 1 ≤ k) → (k : ℕ) → Has (given_after size given) k → 1 ≤ k
after-each (Some n) given each k h = each k h
after-each None [] each k h = elim h [ ]
after-each None (j ∷ given) each k h = each k (later h)

pub sizes-right : (sets : List SetInfo) (given : List ℕ) → AreApart sets → ((info : SetInfo) → Has sets info → IfSome info.size (λ n. 1 ≤ n)) → ((k : ℕ) → Has given k → 1 ≤ k) → length given ≡ undeclared sets →
    (info : SetInfo) → Has sets info → IsRight info.size (by_name 0 sets (size_list sets given) info.name)
sizes-right [] given apart declared each long info h = elim h [ ]
sizes-right (x ∷ sets) given apart declared each long _ first =
    subst (λ b. IsRight x.size (if b then next_size x.size given else by_name 0 sets (size_list sets (given_after x.size given)) x.name)) (sym ((bytes_eq-Decides x.name x.name).1 refl))
    (next-right x.size given (undeclared sets) (declared x first) each (one-long x.size long))
  where
    one-long : (size : Option ℕ) → length given ≡ undeclared (record x { size = size } ∷ sets) → size ≡ None → length given ≡ suc (undeclared sets)
    one-long (Some n) l e = absurd (cc (e))
    one-long None l e = l
sizes-right (x ∷ sets) given apart declared each long info (later h) =
    subst (λ b. IsRight info.size (if b then next_size x.size given else by_name 0 sets (size_list sets (given_after x.size given)) info.name)) (sym (apart-false x.name info.name (apart.0 info h)))
    (sizes-right sets (given_after x.size given) apart.1 (λ i k. declared i (later k)) (after-each x.size given each) (after-long x.size given long) info h)
  where
    after-long : (size : Option ℕ) (given : List ℕ) → length given ≡ undeclared (record x { size = size } ∷ sets) → length (given_after size given) ≡ undeclared sets
    after-long (Some n) given l = l
    after-long None [] l = absurd (omega (arith, l))
    after-long None (k ∷ given) l = omega (arith, l)
