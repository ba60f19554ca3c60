-- Chains of splits, one split after the other.
use Rattle.std.proofs.Common.{◌≡◌, ℕ, zero, suc, ◌+◌, ◌-◌, ◌<◌, ◌≤◌, List, [], ◌∷◌, ◌++◌, map, length, refl, ap, sym, ◌∙◌, arith, find}
use Rattle.std.specs.Prelude.{Option, Some, None, Bool, true, false, cond, option_map, option_and_then, slice_get, if◌then◌else◌}
use Rattle.std.specs.Str.{bytes_eq}
use Rattle.std.specs.List.{flat_map}
use Rattle.std.proofs.lemmas.List.{append_assoc, append-nil}
use Rattle.smv_core.specs.Values.{Name}
use Rattle.smv_core.specs.declared.flat.Design.{Design}
use Rattle.smv_core.specs.declared.flat.Param.{Param}
use Rattle.smv_core.specs.declared.flat.FlatSplit.{FlatSplit}
use Rattle.smv_core.specs.declared.flat.Guard.{Guard}
use Rattle.smv_core.specs.declared.flat.Leaf.{Leaf}
use Rattle.name_index.specs.Position.{position}
use Rattle.law_obligations.specs.Soundness.{FlatUnit}
use Rattle.law_splits.specs.Leaves.{Cut, cut, named_by, name_of, own_params, all_params, params_after, name_after, guards_of, chain, onward_if, leaf_of}
use Rattle.smv_splits.specs.Links.{Place, Followed, place_of, further, beyond, ended, guards_at, leaf_at_end}

abbrev followed : List Param → Name → List Place → Followed
followed params name links = record { params = params; name = name; links = links }

-- what stands at the first place of a name
pub found-at : {X : Type 0} (f : X → Name) (name : Name) (xs : List X) → option_and_then (slice_get xs) (position (map f xs) name) ≡ find (λ x. bytes_eq (f x) name) xs
found-at f name [] = refl
found-at {X} f name (x ∷ xs) = at (bytes_eq (f x) name) (position (map f xs) name) (found-at f name xs)
  where
    at : (b : Bool) (o : Option ℕ) → option_and_then (slice_get xs) o ≡ find (λ x. bytes_eq (f x) name) xs →
        option_and_then (slice_get (x ∷ xs)) (if b then Some 0 else option_map suc o) ≡ cond b (Some x) (find (λ x. bytes_eq (f x) name) xs)
    at true o e = refl
    at false None e = e
    at false (Some k) e = e

module _ (d : Design) where
  -- a chain without a split more
  nothing-beyond : (x : Followed) → beyond x [] ≡ x
  nothing-beyond x = ap (followed x.params x.name) (append-nil x.links)

  abbrev next : Name → Option FlatSplit
  next name = find (λ s. bytes_eq (named_by s.of) name) d.splits

  pub ended-none : (n : ℕ) (x : Followed) → next x.name ≡ None → ended d n x ≡ x
  ended-none zero x e = nothing-beyond x
  ended-none (suc n) x e = ap (λ o. beyond x (onward_if (chain d n) x.params o)) e ∙ nothing-beyond x

  ended-some : (n : ℕ) (x : Followed) (s : FlatSplit) → next x.name ≡ Some s → ended d (suc n) x ≡ ended d n (further x s)
  ended-some n x s e =
      let c = cut x.params s in
      let rest = chain d n s.name (all_params c) in
      ap (λ o. beyond x (onward_if (chain d n) x.params o)) e
      ∙ ap (followed (params_after (all_params c) rest) (name_after s.name rest)) (sym (append_assoc x.links ((s, length x.params) ∷ []) (map place_of rest)))

  -- one turn
  pub turn : (m k : ℕ) (x y : Followed) (s : FlatSplit) (whole : Followed) → k < m → next x.name ≡ Some s → y ≡ further x s → ended d (m - k) x ≡ whole → ended d (m - (k + 1)) y ≡ whole
  turn m k x y s whole below e is known =
      let less : m - k ≡ suc (m - (k + 1)) = omega (arith, below) in
      ap (ended d (m - (k + 1))) is ∙ sym (ended-some (m - (k + 1)) x s e) ∙ ap (λ n. ended d n x) (sym less) ∙ known

  pub turned-none : (m k : ℕ) (x whole : Followed) → next x.name ≡ None → ended d (m - k) x ≡ whole → x ≡ whole
  turned-none m k x whole e known = sym (ended-none (m - k) x e) ∙ known

  pub turned-all : (m k : ℕ) (x whole : Followed) → m ≤ k → ended d (m - k) x ≡ whole → x ≡ whole
  turned-all m k x whole over known = let none : m - k ≡ zero = omega (arith, over) in sym (nothing-beyond x) ∙ ap (λ n. ended d n x) (sym none) ∙ known

  -- the leaf at the end of a unit's chain
  guards-are : (count : ℕ) (cuts : List Cut) → flat_map (guards_at count) (map place_of cuts) ≡ flat_map (guards_of count) cuts
  guards-are count [] = refl
  guards-are count (c ∷ cuts) = ap (λ l. guards_of count c ++ l) (guards-are count cuts)

  pub leaf-is : (u : ℕ) (unit : FlatUnit) (name : Name) (params : List Param) (links : List Place) (leaf : Leaf) → name ≡ name_of d unit → params ≡ own_params d unit → links ≡ [] →
      leaf ≡ leaf_at_end u (ended d (length d.splits) (followed params name links)) → leaf ≡ leaf_of d u unit
  leaf-is u unit name params links leaf n p l is =
      is ∙ ap (λ name. leaf_at_end u (ended d (length d.splits) (followed params name links))) n
      ∙ ap (λ params. leaf_at_end u (ended d (length d.splits) (followed params (name_of d unit) links))) p
      ∙ ap (λ links. leaf_at_end u (ended d (length d.splits) (followed (own_params d unit) (name_of d unit) links))) l
      ∙ ap (λ guards. leaf_with guards) (guards-are (length (params_after (own_params d unit) cuts)) cuts)
    where
      cuts : List Cut
      cuts = chain d (length d.splits) (name_of d unit) (own_params d unit)

      leaf_with : List Guard → Leaf
      leaf_with guards = record { unit = u; name = name_after (name_of d unit) cuts; params = params_after (own_params d unit) cuts; guards = guards }

-- a leaf, part by part
abbrev leaf-with : ℕ → Name → List Param → List Guard → Leaf
leaf-with unit name params guards = record { unit = unit; name = name; params = params; guards = guards }

pub leaf-made : (unit : ℕ) (chain : Followed) (name : Name) (params : List Param) (guards : List Guard) → name ≡ chain.name → params ≡ chain.params → guards ≡ flat_map (guards_at (length chain.params)) chain.links →
    leaf-with unit name params guards ≡ leaf_at_end unit chain
leaf-made unit chain name params guards n p g =
    ap (λ x. leaf-with unit x params guards) n ∙ ap (λ x. leaf-with unit chain.name x guards) p ∙ ap (leaf-with unit chain.name chain.params) g
