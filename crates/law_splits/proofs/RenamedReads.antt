-- What an expression reads whose variables have other numbers.
use Rattle.std.proofs.Common.{◌≡◌, ℕ, suc, ◌+◌, ◌-◌, ◌<◌, ◌≤◌, List, ◌++◌, Bool, true, false, ◌&&◌, sym, subst, ◌⊎◌, inl, inr, arith, nat_eq, nat_lt}
use Rattle.std.proofs.lemmas.Bool.{cases_lt, cases_Bool}
use Rattle.law_lists.proofs.Numbers.{nat_eq-is, nat_lt-true, nat_eq-not}
use Rattle.law_lists.proofs.Booleans.{either_left, either_right, and_both}
use Rattle.smv_core.specs.declared.flat.FlatMember.{One, Span as SpanOf}
use Rattle.smv_core.specs.declared.flat.FlatExpr.{FlatExpr, Number, Read', Var, Loop, Constant, Not', And', Or', Implies', Iff', Compare', Within', Sum', Modulo', Choose', All', Any', List', Each', Held-FlatExpr-Each-2, None', Some', Row_of-FlatExpr, end_of-FlatExpr, more_of-FlatExpr, Row_of-FlatMember, end_of-FlatMember, more_of-FlatMember, Row_of-FlatSigned, end_of-FlatSigned, more_of-FlatSigned}
use Rattle.law_obligations.specs.Sets.{Has, first}
use Rattle.law_obligations.specs.Scopes.{under, ReadsOnly, ReadOnly, ReadSigned, ReadMembers, ReadHeld}
use Rattle.law_obligations.proofs.Members.{Has-left, Has-right}
use Rattle.law_obligations.proofs.Same.{nat_eq-itself}
use Rattle.law_splits.specs.Variables.{Occurrence, readings, readings_each, readings_signed, readings_members, readings_held, renamed, renamed_each, renamed_signed, renamed_members, renamed_held, IsNumbered, AreNumbered, AreSignedNumbered, AreMembersNumbered, IsHeldNumbered}

pub less_or_same : (v m : ℕ) → v < suc m → (nat_eq v m ≡ true) ⊎ (nat_eq v m ≡ false) → (v ≡ m) ⊎ (v < m)
less_or_same v m l (inl e) = inl (nat_eq-is v m e)
less_or_same v m l (inr e) = inr (let d = nat_eq-not v m e in omega (arith, l, d))

-- Variables below n stand for parameters below a count, the others for the variables from a total on.
module _ (n count total : ℕ) (within : count ≤ total) (r : ℕ → ℕ) (inner : (v : ℕ) → n ≤ v → r v ≡ total + (v - n)) where
  abbrev pub IsFine : ℕ → Type 0
  IsFine v = v < n → r v < count

  abbrev pub AreFine : List Occurrence → Type 0
  AreFine xs = (x : Occurrence) → Has xs x → IsFine x.var

  -- each fine variable below m has a number in the scope
  abbrev pub Reaches : ℕ → (ℕ → Bool) → Type 0
  Reaches m scope = (v : ℕ) → v < m → IsFine v → scope (r v) ≡ true

  below : (m v : ℕ) → n ≤ m → v < m → IsFine v → r v < r m
  below m v l k f = elim (cases_lt v n) [
    | inl low ↦ let a = f low in let b = inner m l in omega (arith, a, b, within)
    | inr high ↦ let a = inner v high in let b = inner m l in omega (arith, a, b, k, high)
  ]

  under_reaches : (m : ℕ) (scope : ℕ → Bool) → n ≤ m → Reaches m scope → Reaches (suc m) (under (r m) scope)
  under_reaches m scope l h v k f = elim (less_or_same v m k (cases_Bool (nat_eq v m))) [
    | inl e ↦ subst (λ w. under (r m) scope (r w) ≡ true) (sym e) (either_left (nat_lt (r m) (r m) && scope (r m)) (nat_eq-itself (r m)))
    | inr low ↦ either_right (nat_eq (r v) (r m)) (and_both (nat_lt-true (r v) (r m) (below m v l low f)) (h v low f))
  ]

  left : {xs : List Occurrence} (ys : List Occurrence) → AreFine (xs ++ ys) → AreFine xs
  left ys f x h = f x (Has-left ys h)

  right : (xs : List Occurrence) {ys : List Occurrence} → AreFine (xs ++ ys) → AreFine ys
  right xs f x h = f x (Has-right xs h)

  mutual
    pub reads : (e : FlatExpr) (m : ℕ) (scope : ℕ → Bool) → n ≤ m → IsNumbered m e → AreFine (readings e) → Reaches m scope → ReadsOnly scope (renamed r e)
    reads (Number value place) m scope l i f h = tt
    reads (Read' family shape indexes place) m scope l i f h = reads_each indexes m scope l i f h
    reads (Var var place) m scope l i f h = h var i (f (record { var = var; at = place }) first)
    reads (Loop value place) m scope l i f h = tt
    reads (Constant list value place) m scope l i f h = tt
    reads (Not' shape (more_of-FlatExpr e end_of-FlatExpr) place) m scope l i f h = reads e m scope l i f h
    reads (And' shape parts) m scope l i f h = reads_each parts m scope l i f h
    reads (Or' shape parts) m scope l i f h = reads_each parts m scope l i f h
    reads (Implies' shape parts) m scope l i f h = reads_each parts m scope l i f h
    reads (Iff' a (more_of-FlatExpr x end_of-FlatExpr) b (more_of-FlatExpr y end_of-FlatExpr)) m scope l i f h =
        (reads x m scope l i.0 (left (readings y) f) h, reads y m scope l i.1 (right (readings x) f) h)
    reads (Compare' op a (more_of-FlatExpr x end_of-FlatExpr) b (more_of-FlatExpr y end_of-FlatExpr)) m scope l i f h =
        (reads x m scope l i.0 (left (readings y) f) h, reads y m scope l i.1 (right (readings x) f) h)
    reads (Within' a (more_of-FlatExpr x end_of-FlatExpr) b (more_of-FlatExpr y end_of-FlatExpr)) m scope l i f h =
        (reads x m scope l i.0 (left (readings y) f) h, reads y m scope l i.1 (right (readings x) f) h)
    reads (Sum' a (more_of-FlatExpr x end_of-FlatExpr) shape more) m scope l i f h =
        (reads x m scope l i.0 (left (readings_signed more) f) h, reads_signed more m scope l i.1 (right (readings x) f) h)
    reads (Modulo' shape (more_of-FlatExpr e end_of-FlatExpr) by place) m scope l i f h = reads e m scope l i f h
    reads (Choose' t (more_of-FlatExpr c end_of-FlatExpr) a (more_of-FlatExpr x end_of-FlatExpr) b (more_of-FlatExpr y end_of-FlatExpr)) m scope l i f h =
        (reads c m scope l i.0 (left (readings x) (left (readings y) f)) h, reads x m scope l i.1 (right (readings c) (left (readings y) f)) h, reads y m scope l i.2 (right (readings c ++ readings x) f) h)
    reads (All' shape (more_of-FlatExpr body end_of-FlatExpr) var over place) m scope l i f h =
        subst (λ k. ReadsOnly (under (r k) scope) (renamed r body)) (sym i.0) (reads body (suc m) (under (r m) scope) (omega (arith, l)) i.1 f (under_reaches m scope l h))
    reads (Any' shape (more_of-FlatExpr body end_of-FlatExpr) var over place) m scope l i f h =
        subst (λ k. ReadsOnly (under (r k) scope) (renamed r body)) (sym i.0) (reads body (suc m) (under (r m) scope) (omega (arith, l)) i.1 f (under_reaches m scope l h))
    reads (List' shape members place) m scope l i f h = reads_members members m scope l i f h
    reads (Each' var over held place) m scope l i f h =
        subst (λ k. ReadHeld (under (r k) scope) (renamed_held r held)) (sym i.0) (reads_held held (suc m) (under (r m) scope) (omega (arith, l)) i.1 f (under_reaches m scope l h))

    reads_each : {k : _} (row : Row_of-FlatExpr k) (m : ℕ) (scope : ℕ → Bool) → n ≤ m → AreNumbered m row → AreFine (readings_each row) → Reaches m scope → ReadOnly scope (renamed_each r row)
    reads_each end_of-FlatExpr m scope l i f h = tt
    reads_each (more_of-FlatExpr e others) m scope l i f h = (reads e m scope l i.0 (left (readings_each others) f) h, reads_each others m scope l i.1 (right (readings e) f) h)

    reads_signed : {k : _} (row : Row_of-FlatSigned k) (m : ℕ) (scope : ℕ → Bool) → n ≤ m → AreSignedNumbered m row → AreFine (readings_signed row) → Reaches m scope → ReadSigned scope (renamed_signed r row)
    reads_signed end_of-FlatSigned m scope l i f h = tt
    reads_signed (more_of-FlatSigned minus e others) m scope l i f h = (reads e m scope l i.0 (left (readings_signed others) f) h, reads_signed others m scope l i.1 (right (readings e) f) h)

    reads_members : {k : _} (row : Row_of-FlatMember k) (m : ℕ) (scope : ℕ → Bool) → n ≤ m → AreMembersNumbered m row → AreFine (readings_members row) → Reaches m scope → ReadMembers scope (renamed_members r row)
    reads_members end_of-FlatMember m scope l i f h = tt
    reads_members (more_of-FlatMember (One e) others) m scope l i f h = (reads e m scope l i.0 (left (readings_members others) f) h, reads_members others m scope l i.1 (right (readings e) f) h)
    reads_members (more_of-FlatMember (SpanOf span place) others) m scope l i f h = reads_members others m scope l i f h

    reads_held : (held : Held-FlatExpr-Each-2) (m : ℕ) (scope : ℕ → Bool) → n ≤ m → IsHeldNumbered m held → AreFine (readings_held held) → Reaches m scope → ReadHeld scope (renamed_held r held)
    reads_held None' m scope l i f h = tt
    reads_held (Some' shape (more_of-FlatExpr c end_of-FlatExpr)) m scope l i f h = reads c m scope l i f h
