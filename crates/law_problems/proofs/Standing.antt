-- A variable of a split that stands for a parameter has that parameter's kind.
use Rattle.std.proofs.Common.{◌≡◌, ℕ, zero, suc, ◌<◌, List, [], ◌∷◌, ◌++◌, map, zip, length, Bool, true, false, cond, not, ◌&&◌, ◌||◌, inl, inr, refl, sym, ap, subst, ◌∙◌, Option, Some, None, arith, nat_eq}
use Rattle.std.specs.Str.{bytes_eq}
use Rattle.std.specs.List.{flat_map, find, slice_get, list_any}
use Rattle.std.specs.Option.{option_to_list}
use Rattle.law_lists.proofs.Options.{some_is}
use Rattle.law_lists.proofs.Numbers.{nat_eq-is}
use Rattle.law_lists.proofs.Places.{get_there}
use Rattle.smv_core.specs.Values.{Name}
use Rattle.smv_core.specs.declared.fault.Fault.{Fault}
use Rattle.smv_core.specs.declared.tree.Word.{Word}
use Rattle.smv_core.specs.declared.flat.Design.{Design}
use Rattle.smv_core.specs.declared.flat.Simple.{Simple}
use Rattle.smv_core.specs.declared.flat.Simple.TheVariants.{Range, Enum, Set}
use Rattle.smv_core.specs.declared.flat.Param.{Param}
use Rattle.smv_core.specs.declared.flat.FlatSplit.{FlatSplit}
use Rattle.smv_core.specs.declared.flat.Unit.{Unit}
use Rattle.smv_mentions.specs.NameFaults.{place_if}
use Rattle.law_obligations.specs.Sets.{Has, first, later}
use Rattle.law_obligations.specs.Covers.{IsIndexType}
use Rattle.law_obligations.proofs.Members.{Has-uncons, Has-left, Has-right, Has-map, Has-flat_map}
use Rattle.law_obligations.proofs.OneOfEach.{get_Has, Has_get}
use Rattle.law_obligations.specs.Outlines.{unit_in}
use Rattle.law_obligations.specs.Units.{units_of}
use Rattle.law_obligations.proofs.Lookups.{Has-filter, find-some, place_of-is}
use Rattle.law_designs.specs.FlatKinds.{kind_of, set_type}
use Rattle.law_splits.specs.Leaves.{named_by, with_name, name_of, own_params, Cut, cut, old, all_params, stands_for, onward, onward_if, chain}
use Rattle.law_splits.specs.SplitFaults.{astray, split_again, names_one, doubled, bracketed, not_in_one, not_new, other_kind, strays, same_type, is_of_variables, miscounted, other_type, misfits, mismatches, cuts, cuts_of, faults_of_splits}
use Rattle.law_splits.proofs.Lists.{get_longer, get_map}
use Rattle.law_splits.proofs.Good.{kept}
use Rattle.law_problems.specs.Kinded.{kinds_of}

absent : (b : Bool) (at : ℕ) → (Has (place_if b at) at → ⊥) → b ≡ false
absent true at none = absurd (none first)
absent false at none = refl

-- two of one type have values of one kind
one_kind : (t u : Simple) → same_type t u ≡ true → kind_of t ≡ kind_of u
one_kind (Range a b) (Range c e) h = refl
one_kind (Range a b) (Enum l) h = absurd (cc)
one_kind (Range a b) (Set s) h = absurd (cc)
one_kind (Enum l) (Range a b) h = absurd (cc)
one_kind (Enum k) (Enum l) h = ap (λ j. kind_of (Enum j)) (nat_eq-is k l h)
one_kind (Enum l) (Set s) h = absurd (cc)
one_kind (Set s) (Range a b) h = absurd (cc)
one_kind (Set s) (Enum l) h = absurd (cc)
one_kind (Set s) (Set u) h = ap set_type (nat_eq-is s u h)

-- an index type is one that a variable may have
of_variables : (t : Simple) → IsIndexType t → is_of_variables t ≡ true
of_variables (Range a b) i = refl
of_variables (Enum l) i = absurd i
of_variables (Set s) i = refl

not_other : (a b : Bool) → a ≡ true → (a && (not b || false)) ≡ false → b ≡ true
not_other true true h e = refl
not_other true false h e = absurd (cc)
not_other false b h e = absurd (cc)

-- a name that one of these has is found
one_named : (bound : List Param) (word : Word) → names_one bound word ≡ true → (p : Param) × (with_name bound word ≡ p ∷ [])
one_named [] word h = absurd (cc)
one_named (p ∷ bound) word h = at (bytes_eq p.name word.name) refl h (λ k. one_named bound word k)
  where
    at : (b : Bool) → bytes_eq p.name word.name ≡ b → (b || names_one bound word) ≡ true → (names_one bound word ≡ true → (q : Param) × (with_name bound word ≡ q ∷ [])) →
        (q : Param) × (option_to_list (cond b (Some p) (find (λ q. bytes_eq q.name word.name) bound)) ≡ q ∷ [])
    at true e h goes = (p, refl)
    at false e h goes = goes h

-- the variable at a place among those that some names name is that of the name at this place
record NamedAt (bound : List Param) (words : List Word) (k : ℕ) (p : Param) : Type 0 where
  word : Word
  is_at : slice_get words k ≡ Some word
  is_named : with_name bound word ≡ p ∷ []

named_at : (bound : List Param) (words : List Word) → ((word : Word) → Has words word → names_one bound word ≡ true) → (k : ℕ) (p : Param) →
    slice_get (flat_map (with_name bound) words) k ≡ Some p → NamedAt bound words k p
named_at bound [] each k p e = absurd (cc)
named_at bound (word ∷ words) each k p e =
    let one = one_named bound word (each word first) in
    by_place k (subst (λ ps. slice_get (ps ++ flat_map (with_name bound) words) k ≡ Some p) one.1 e) one.1 (λ j e. named_at bound words (λ w h. each w (later h)) j p e)
  where
    by_place : (k : ℕ) {q : Param} → slice_get (q ∷ flat_map (with_name bound) words) k ≡ Some p → with_name bound word ≡ q ∷ [] →
        ((j : ℕ) → slice_get (flat_map (with_name bound) words) j ≡ Some p → NamedAt bound words j p) → NamedAt bound (word ∷ words) k p
    by_place zero e one goes = record { word = word; is_at = refl; is_named = one ∙ ap (λ q. q ∷ []) (some_is e) }
    by_place (suc k) e one goes = let r = goes k e in record { word = r.word; is_at = r.is_at; is_named = r.is_named }

-- beside each other at one place
has_zip : {X Y : Type 0} (xs : List X) (ys : List Y) (k : ℕ) {x : X} {y : Y} → slice_get xs k ≡ Some x → slice_get ys k ≡ Some y → Has (zip xs ys) (x, y)
has_zip [] ys k e i = absurd (cc)
has_zip (x ∷ xs) [] k e i = absurd (cc)
has_zip (w ∷ xs) (z ∷ ys) zero {x} {y} e i = subst (λ v. Has (zip (w ∷ xs) (z ∷ ys)) (v, y)) (some_is e) (subst (λ v. Has (zip (w ∷ xs) (z ∷ ys)) (w, v)) (some_is i) first)
has_zip (x ∷ xs) (y ∷ ys) (suc k) e i = later (has_zip xs ys k e i)

past : {X : Type 0} (xs : List X) (k : ℕ) {x : X} → slice_get xs k ≡ Some x → k < length xs
past [] k e = absurd (cc)
past (y ∷ xs) zero e = omega arith
past (y ∷ xs) (suc k) e = let l = past xs k e in omega (arith, l)

-- brackets with a name have one for each parameter
counted : (count : ℕ) (words : List Word) → ((at : ℕ) → Has (miscounted count words) at → ⊥) → (k : ℕ) {word : Word} → slice_get words k ≡ Some word → length words ≡ count
counted count [] free k e = absurd (cc)
counted count (word ∷ more) free k e = nat_eq-is (length (word ∷ more)) count (kept (nat_eq (length (word ∷ more)) count) word.at (free word.at))

module _ (d : Design) (none : faults_of_splits d ≡ []) where
  no_fault : (f : Fault) → Has (faults_of_splits d) f → ⊥
  no_fault f h = elim (subst (λ fs. Has fs f) none h) [ ]

  abbrev fault : ℕ → Fault
  fault at = record { number = 24; at = at }

  no_place : (at : ℕ) → Has (flat_map (misfits d.families) d.splits ++ flat_map mismatches (cuts_of d)) at → ⊥
  no_place at h = no_fault (fault at) (Has-right (map (λ at. record { number = 23; at = at }) (flat_map (astray d) d.splits ++ split_again d.splits)) (Has-left [] (Has-map fault h)))

  no_misfit : (s : FlatSplit) → Has d.splits s → (at : ℕ) → Has (misfits d.families s) at → ⊥
  no_misfit s i at h = no_place at (Has-left (flat_map mismatches (cuts_of d)) (Has-flat_map (misfits d.families) i h))

  no_mismatch : (c : Cut) → Has (cuts_of d) c → (at : ℕ) → Has (mismatches c) at → ⊥
  no_mismatch c i at h = no_place at (Has-right (flat_map (misfits d.families) d.splits) (Has-flat_map mismatches i h))

  -- each name in the brackets of its reference is bound
  are_bound : (s : FlatSplit) → Has d.splits s → (word : Word) → Has s.of.names word → names_one s.bound word ≡ true
  are_bound s i word h = kept (names_one s.bound word) word.at
      (λ k. no_misfit s i word.at (Has-left (strays s) (Has-left (other_kind d.families s) (Has-left (not_new s) (Has-left (not_in_one s) (Has-left (doubled (bracketed s))
      (Has-flat_map (λ word. place_if (not (names_one s.bound word)) word.at) (Has-right s.vars h) k)))))))

  -- a name has the type of the parameter at its place
  abbrev differs : FlatSplit → Word × Param → List ℕ
  differs s (word, p) = place_if (is_of_variables p.over && list_any (λ b. not (same_type b.over p.over)) (with_name s.bound word)) word.at

  module _ (c : Cut) (is_split : Has d.splits c.split) (is_cut : Has (cuts_of d) c) (are_indexes : (p : Param) → Has c.params p → IsIndexType p.over) where
    of_type : (word : Word) (p q : Param) → with_name c.split.bound word ≡ p ∷ [] → Has (zip c.split.of.names c.params) (word, q) → Has c.params q → kind_of p.over ≡ kind_of q.over
    of_type word p q named h i =
        let none_at : (Has (place_if (is_of_variables q.over && list_any (λ b. not (same_type b.over q.over)) (with_name c.split.bound word)) word.at) word.at → ⊥) =
        λ k. no_mismatch c is_cut word.at (Has-right (miscounted (length c.params) c.split.of.names) (Has-flat_map (differs c.split) h k)) in
        let e = absent (is_of_variables q.over && list_any (λ b. not (same_type b.over q.over)) (with_name c.split.bound word)) word.at none_at in
        let f : (is_of_variables q.over && (not (same_type p.over q.over) || false)) ≡ false = subst (λ ps. (is_of_variables q.over && list_any (λ b. not (same_type b.over q.over)) ps) ≡ false) named e in
        one_kind p.over q.over (not_other (is_of_variables q.over) (same_type p.over q.over) (of_variables q.over (are_indexes q i)) f)

    module _ (in_place : (v : ℕ) (p : Param) → slice_get c.split.bound v ≡ Some p → p.var ≡ v) (more : List Param) where
      pub stands : (v k : ℕ) → stands_for c.split v ≡ Some k → slice_get (kinds_of (c.params ++ more)) k ≡ slice_get (kinds_of c.split.bound) v
      stands v k e =
          let found = place_of-is (λ p. nat_eq p.var v) (old c.split) k e in
          let p = found.0 in
          let n = named_at c.split.bound c.split.of.names (are_bound c.split is_split) k p found.1 in
          let long = counted (length c.params) c.split.of.names (λ at h. no_mismatch c is_cut at (Has-left (other_type c) h)) k n.is_at in
          let short = past c.split.of.names k n.is_at in
          let q = get_there c.params k (omega (arith, long, short)) in
          let same = of_type n.word p q.0 n.is_named (has_zip c.split.of.names c.params k n.is_at q.1) (get_Has c.params k q.0 q.1) in
          let bound = find-some (λ p. bytes_eq p.name n.word.name) c.split.bound (from_list (find (λ p. bytes_eq p.name n.word.name) c.split.bound) p n.is_named) in
          let place = Has_get bound.0 in
          let var : place.0 ≡ v = sym (in_place place.0 p place.1) ∙ nat_eq-is p.var v found.2 in
          let there : slice_get c.split.bound v ≡ Some p = subst (λ w. slice_get c.split.bound w ≡ Some p) var place.1 in
          get_map (λ p. kind_of p.over) (c.params ++ more) k (get_longer c.params more k q.1) ∙ (ap Some (sym same) ∙ sym (get_map (λ p. kind_of p.over) c.split.bound v there))
        where
          from_list : (o : Option Param) (p : Param) → option_to_list o ≡ p ∷ [] → o ≡ Some p
          from_list None p e = absurd (cc)
          from_list (Some q) p e = cc

  -- the chain of what has a name is among the splits that lead to it
  chain_in : (n : ℕ) (name : Name) (params : List Param) (c : Cut) → Has (chain d n name params) c → Has d.splits c.split × Has (cuts d n name params) c
  chain_in zero name params c h = elim h [ ]
  chain_in (suc n) name params c h = at (find (λ s. bytes_eq (named_by s.of) name) d.splits) refl h (λ name params c. chain_in n name params c)
    where
      at : (o : Option FlatSplit) → find (λ s. bytes_eq (named_by s.of) name) d.splits ≡ o → Has (onward_if (chain d n) params o) c →
          ((name : Name) (params : List Param) (c : Cut) → Has (chain d n name params) c → Has d.splits c.split × Has (cuts d n name params) c) → Has d.splits c.split × Has (cuts d (suc n) name params) c
      at None e h goes = elim h [ ]
      at (Some s) e h goes = let f = find-some (λ s. bytes_eq (named_by s.of) name) d.splits e in let k = Has-filter (λ s. bytes_eq (named_by s.of) name) f.0 f.1 in elim (Has-uncons h) [
        | inl i ↦ (subst (λ c. Has d.splits c.split) (sym i) f.0, Has-flat_map (onward (cuts d n) params) k (subst (Has (onward (cuts d n) params s)) (sym i) first))
        | inr l ↦ let r = goes s.name (all_params (cut params s)) c l in (r.0, Has-flat_map (onward (cuts d n) params) k (later r.1))
      ]

  pub chain_cut : (unit : Unit) → Has (units_of d) unit → (c : Cut) → Has (chain d (length d.splits) (name_of d (unit_in d unit)) (own_params d (unit_in d unit))) c → Has d.splits c.split × Has (cuts_of d) c
  chain_cut unit u c h =
      let r = chain_in (length d.splits) (name_of d (unit_in d unit)) (own_params d (unit_in d unit)) c h in
      (r.0, Has-flat_map (λ unit. cuts d (length d.splits) (name_of d (unit_in d unit)) (own_params d (unit_in d unit))) u r.1)
