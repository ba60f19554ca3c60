-- The guards of a chain of splits.
use Rattle.std.proofs.Common.{◌≡◌, ℕ, zero, suc, ◌≤◌, List, [], ◌∷◌, ◌++◌, map, length, append_assoc, refl, sym, ap, subst, ◌∙◌, ◌⊎◌, inl, inr, Option, Some, None, arith}
use Rattle.std.specs.Str.{bytes_eq}
use Rattle.std.specs.List.{flat_map, find}
use Rattle.std.proofs.lemmas.List.{length-append}
use Rattle.smv_core.specs.Values.{Name}
use Rattle.smv_core.specs.declared.flat.Design.{Design}
use Rattle.smv_core.specs.declared.flat.Param.{Param}
use Rattle.smv_core.specs.declared.flat.FlatSplit.{FlatSplit}
use Rattle.smv_core.specs.declared.flat.Guard.{Guard}
use Rattle.smv_core.specs.declared.flat.Simple.{Simple}
use Rattle.law_obligations.specs.Sets.{Has, first, later}
use Rattle.law_obligations.specs.Guards.{AreGuards}
use Rattle.law_obligations.proofs.Members.{Has-cases}
use Rattle.law_splits.specs.Leaves.{named_by, Cut, cut, new, all_params, guards_of, params_after, onward_if, chain}
use Rattle.law_splits.specs.SplitLaws.{IsIndex}
use Rattle.law_splits.proofs.Params.{from_new}
use Rattle.law_splits.proofs.OneCut.{IsGood, AreBetween, are_between}

-- each split has the parameters of what is before it
abbrev pub Follows : List Param → List Cut → Type 0
Follows params [] = Unit {0}
Follows params (c ∷ cuts) = (c.params ≡ params) × Follows (all_params c) cuts

pub chain_follows : (d : Design) (n : ℕ) (name : Name) (params : List Param) → Follows params (chain d n name params)
chain_follows d zero name params = tt
chain_follows d (suc n) name params = at (find (λ s. bytes_eq (named_by s.of) name) d.splits) (λ name params. chain_follows d n name params)
  where
    at : (o : Option FlatSplit) → ((name : Name) (params : List Param) → Follows params (chain d n name params)) → Follows params (onward_if (chain d n) params o)
    at None goes = tt
    at (Some s) goes = (refl, goes s.name (all_params (cut params s)))

-- the parameters that a chain adds
pub record Adds (params all : List Param) : Type 0 where
  pub more : List Param
  pub is : all ≡ params ++ more

pub adds : (params : List Param) (cuts : List Cut) → Follows params cuts → Adds params (params_after params cuts)
adds params [] f = record { more = []; is = nothing_more params }
  where
    nothing_more : {X : Type 0} (xs : List X) → xs ≡ xs ++ []
    nothing_more [] = refl
    nothing_more (x ∷ xs) = ap (λ ys. x ∷ ys) (nothing_more xs)
adds params (c ∷ cuts) f = let r = adds (all_params c) cuts f.1 in
    record { more = new c ++ r.more; is = r.is ∙ (append_assoc c.params (new c) r.more ∙ ap (λ ps. ps ++ (new c ++ r.more)) f.0) }

-- they are over ranges and set types
pub indexes_after : (d : Design) (params : List Param) (cuts : List Cut) → Follows params cuts → ((c : Cut) → Has cuts c → IsGood d c) → ((p : Param) → Has params p → IsIndex d p.over) →
    (p : Param) → Has (params_after params cuts) p → IsIndex d p.over
indexes_after d params [] f good own p h = own p h
indexes_after d params (c ∷ cuts) f good own p h = indexes_after d (all_params c) cuts f.1 (λ c k. good c (later k)) (λ p k. of_cut p (Has-cases c.params (new c) k)) p h
  where
    of_cut : (p : Param) → Has c.params p ⊎ Has (new c) p → IsIndex d p.over
    of_cut p (inl k) = own p (subst (λ ps. Has ps p) f.0 k)
    of_cut p (inr k) = let n = from_new c (good c first).are_bound p k in subst (IsIndex d) n.same_type ((good c first).are_indexes n.bound n.is_bound)

-- the guards of one split, and then those of the others
join : (count next : ℕ) (types : List Simple) (gs hs : List Guard) → count ≤ next → AreBetween count next types gs → AreGuards next types hs → AreGuards count types (gs ++ hs)
join count next types gs hs l a b = record {
  is_added = λ g h. elim (Has-cases gs hs h) [ inl k ↦ a.is_added g k | inr k ↦ let m = b.is_added g k in omega (arith, l, m) ];
  is_of_type = λ g h. elim (Has-cases gs hs h) [ inl k ↦ a.is_of_type g k | inr k ↦ b.is_of_type g k ];
  reads_before = λ g h. elim (Has-cases gs hs h) [ inl k ↦ a.reads_before g k | inr k ↦ b.reads_before g k ];
  one_each = λ g h i j e. one g h (Has-cases gs hs i) (Has-cases gs hs j) e;
}
  where
    one : (g h : Guard) → Has gs g ⊎ Has hs g → Has gs h ⊎ Has hs h → g.var ≡ h.var → g ≡ h
    one g h (inl i) (inl j) e = a.one_each g h i j e
    one g h (inl i) (inr j) e = absurd (let m = a.is_below g i in let n = b.is_added h j in omega (arith, m, n, e))
    one g h (inr i) (inl j) e = absurd (let m = a.is_below h j in let n = b.is_added g i in omega (arith, m, n, e))
    one g h (inr i) (inr j) e = b.one_each g h i j e

pub chain_guards : (d : Design) (params : List Param) (cuts : List Cut) → Follows params cuts → ((c : Cut) → Has cuts c → IsGood d c) → (all : List Param) → params_after params cuts ≡ all →
    AreGuards (length params) (map (λ p. p.over) all) (flat_map (guards_of (length all)) cuts)
chain_guards d params [] f good all e = record { is_added = λ g h. elim h [ ]; is_of_type = λ g h. elim h [ ]; reads_before = λ g h. elim h [ ]; one_each = λ g h i j e. elim i [ ] }
chain_guards d params (c ∷ cuts) f good all e =
    let r = adds (all_params c) cuts f.1 in
    let is : all ≡ all_params c ++ r.more = sym e ∙ r.is in
    let here : AreBetween (length c.params) (length (all_params c)) (map (λ p. p.over) all) (guards_of (length all) c) =
    subst (λ all. AreBetween (length c.params) (length (all_params c)) (map (λ p. p.over) all) (guards_of (length all) c)) (sym is) (are_between d c (good c first) r.more) in
    let long = length-append c.params (new c) in
    let both = join (length c.params) (length (all_params c)) (map (λ p. p.over) all) (guards_of (length all) c) (flat_map (guards_of (length all)) cuts) (omega (arith, long)) here
    (chain_guards d (all_params c) cuts f.1 (λ c k. good c (later k)) all e) in
    subst (λ ps. AreGuards (length ps) (map (λ p. p.over) all) (flat_map (guards_of (length all)) (c ∷ cuts))) f.0 both
