-- The parameters that a split adds: where they stand, and of which variables they are.
use Rattle.std.proofs.Common.{◌≡◌, ℕ, suc, ◌+◌, ◌≤◌, List, [], ◌∷◌, map, length, true, refl, sym, ap, subst, ◌∙◌, inl, inr, Some, Bool, false, ◌||◌, if◌then◌else◌, unwrap_or, arith}
use Rattle.std.specs.Str.{bytes_eq}
use Rattle.std.specs.List.{slice_get, find}
use Rattle.std.proofs.lemmas.Slice.Eq.{bytes_eq-Decides}
use Rattle.smv_core.specs.Values.{Name}
use Rattle.smv_core.specs.declared.tree.Word.{Word}
use Rattle.smv_core.specs.declared.flat.Simple.{Simple}
use Rattle.smv_core.specs.declared.flat.Simple.TheVariants.{Enum}
use Rattle.smv_core.specs.declared.flat.Param.{Param}
use Rattle.law_obligations.specs.Sets.{Has, first, later}
use Rattle.law_obligations.proofs.Members.{Has-uncons, Has-from_map}
use Rattle.law_obligations.proofs.Lookups.{Has-option, find-some}
use Rattle.law_splits.specs.Leaves.{numbered, nameless, with_name, bound_as, Cut, new, all_params}
use Rattle.law_splits.specs.SplitFaults.{names_one}
use Rattle.law_splits.proofs.Lists.{get_behind}

pub same_name : (a b : Name) → bytes_eq a b ≡ true → a ≡ b
same_name a b e = (bytes_eq-Decides a b).0 e

pub name_same : (a b : Name) → a ≡ b → bytes_eq a b ≡ true
name_same a b e = (bytes_eq-Decides a b).1 e

-- one of these parameters that a word names
pub record IsNamed (params : List Param) (word : Word) (p : Param) : Type 0 where
  pub is_there : Has params p
  pub is_name : p.name ≡ word.name

pub named : (params : List Param) (word : Word) {p : Param} → Has (with_name params word) p → IsNamed params word p
named params word {p} h = let r = find-some (λ q. bytes_eq q.name word.name) params (Has-option (find (λ q. bytes_eq q.name word.name) params) h) in
    record { is_there = r.0; is_name = same_name p.name word.name r.1 }

-- numbered from a number on: the parameter, its place, and what it was before
pub record IsNumberedFrom (k : ℕ) (params : List Param) (p : Param) : Type 0 where
  pub place : ℕ
  pub is_var : p.var ≡ k + place
  pub is_at : slice_get (numbered k params) place ≡ Some p
  pub before : Param
  pub was_there : Has params before
  pub same_type : before.over ≡ p.over
  pub same_word : before.name ≡ p.name

pub from_numbered : (k : ℕ) (params : List Param) (p : Param) → Has (numbered k params) p → IsNumberedFrom k params p
from_numbered k [] p h = elim h [ ]
from_numbered k (q ∷ params) p h = elim (Has-uncons h) [
  | inl e ↦ subst (IsNumberedFrom k (q ∷ params)) (sym e) (record { place = 0; is_var = omega arith; is_at = refl; before = q; was_there = first; same_type = refl; same_word = refl })
  | inr l ↦ let r = from_numbered (suc k) params p l in let i = r.is_var in
      record { place = suc r.place; is_var = omega (arith, i); is_at = r.is_at; before = r.before; was_there = later r.was_there; same_type = r.same_type; same_word = r.same_word }
]

-- a new parameter of a split: it stands at its number, and is a bound variable that some word of the split names
pub record IsNew (c : Cut) (p : Param) : Type 0 where
  pub is_past : length c.params ≤ p.var
  pub is_at : slice_get (all_params c) p.var ≡ Some p
  pub word : Word
  pub is_word : Has c.split.vars word
  pub bound : Param
  pub is_bound : Has c.split.bound bound
  pub same_type : bound.over ≡ p.over
  pub same_word : p.name ≡ word.name

-- a name that is bound is that of a variable
pub is_bound_as : (bound : List Param) (word : Word) → names_one bound word ≡ true → IsNamed bound word (bound_as bound word)
is_bound_as [] word e = absurd (cc)
is_bound_as (p ∷ bound) word e = at (bytes_eq p.name word.name) refl e (λ k. is_bound_as bound word k)
  where
    at : (b : Bool) → bytes_eq p.name word.name ≡ b → (b || names_one bound word) ≡ true → (names_one bound word ≡ true → IsNamed bound word (bound_as bound word)) →
        IsNamed (p ∷ bound) word (unwrap_or (if b then Some p else find (λ q. bytes_eq q.name word.name) bound) (record { var = 0; over = Enum 0; name = word.name }))
    at true same e goes = record { is_there = first; is_name = same_name p.name word.name same }
    at false other e goes = let r = goes e in record { is_there = later r.is_there; is_name = r.is_name }

pub from_new : (c : Cut) → ((word : Word) → Has c.split.vars word → names_one c.split.bound word ≡ true) → (p : Param) → Has (new c) p → IsNew c p
from_new c are_bound p h =
    let n = from_numbered (length c.params) (map (bound_as c.split.bound) c.split.vars) p h in
    let r = Has-from_map (bound_as c.split.bound) c.split.vars n.was_there in
    let q = subst (IsNamed c.split.bound r.0) (sym r.2) (is_bound_as c.split.bound r.0 (are_bound r.0 r.1)) in
    let v = n.is_var in
    record {
      is_past = omega (arith, v);
      is_at = subst (λ k. slice_get (all_params c) k ≡ Some p) (sym v) (get_behind c.params (new c) n.place ∙ n.is_at);
      word = r.0;
      is_word = r.1;
      bound = n.before;
      is_bound = q.is_there;
      same_type = n.same_type;
      same_word = sym n.same_word ∙ q.is_name;
    }

-- numbering changes no type, and the parameters of a map have the types of its indexes
pub numbered_types : (k : ℕ) (params : List Param) → map (λ p. p.over) (numbered k params) ≡ map (λ p. p.over) params
numbered_types k [] = refl
numbered_types k (p ∷ params) = ap (λ ts. p.over ∷ ts) (numbered_types (suc k) params)

pub nameless_types : (types : List Simple) → map (λ p. p.over) (map nameless types) ≡ types
nameless_types [] = refl
nameless_types (t ∷ types) = ap (λ ts. t ∷ ts) (nameless_types types)
