-- What the splits of a design without a fault of splits have.
use Rattle.std.proofs.Common.{◌≡◌, ℕ, zero, suc, ◌<◌, ◌≤◌, List, [], ◌∷◌, ◌++◌, map, length, Bool, true, false, not, refl, sym, subst, ◌⊎◌, inl, inr, Option, Some, None, arith, nat_eq}
use Rattle.std.specs.Str.{bytes_eq}
use Rattle.std.specs.List.{flat_map, find, filter}
use Rattle.std.specs.Option.{is_none}
use Rattle.law_lists.proofs.Numbers.{nat_eq-is, nat_lt-true}
use Rattle.law_lists.proofs.Booleans.{and_both}
use Rattle.smv_core.specs.Values.{Name}
use Rattle.smv_core.specs.declared.fault.Fault.{Fault}
use Rattle.smv_core.specs.declared.tree.Word.{Word}
use Rattle.smv_core.specs.declared.flat.Design.{Design}
use Rattle.smv_core.specs.declared.flat.Param.{Param}
use Rattle.smv_core.specs.declared.flat.FlatSplit.{FlatSplit}
use Rattle.smv_core.specs.declared.flat.FlatPair.{FlatPair}
use Rattle.smv_core.specs.declared.flat.Unit.{Unit}
use Rattle.smv_mentions.specs.NameFaults.{place_if}
use Rattle.law_obligations.specs.Sets.{Has, first, later}
use Rattle.law_obligations.proofs.Members.{Has-uncons, Has-left, Has-right, Has-map, Has-flat_map}
use Rattle.law_obligations.specs.Outlines.{unit_in}
use Rattle.law_obligations.specs.Units.{units_of}
use Rattle.law_obligations.proofs.Lookups.{Has-filter, find-some}
use Rattle.law_splits.specs.Variables.{Occurrence, readings}
use Rattle.law_splits.specs.Leaves.{named_by, with_name, name_of, own_params, Cut, cut, all_params, stands_for, onward, onward_if, chain}
use Rattle.law_splits.specs.SplitFaults.{astray, split_again, names_one, unbound, doubled, bracketed, equations_of, not_in_one, not_new, other_kind, is_stray, strays, miscounted, other_type, misfits, mismatches, cuts, cuts_of, faults_of_splits}
use Rattle.law_splits.specs.SplitLaws.{IsRead}
use Rattle.law_splits.proofs.Lists.{one_only, at_most_each, option_long}
use Rattle.law_splits.proofs.OneCut.{IsGood}

-- a place that is not there
pub kept : (b : Bool) (at : ℕ) → (Has (place_if (not b) at) at → ⊥) → b ≡ true
kept true at none = refl
kept false at none = absurd (none first)

some_or_none : (o : Option ℕ) → ((k : ℕ) × (o ≡ Some k)) ⊎ (is_none o ≡ true)
some_or_none None = inr refl
some_or_none (Some k) = inl (k, refl)

module _ (d : Design) (read : IsRead d) (none : faults_of_splits d ≡ []) where
  no_fault : (f : Fault) → Has (faults_of_splits d) f → ⊥
  no_fault f h = elim (subst (λ fs. Has fs f) none h) [ ]

  abbrev fits : List ℕ
  fits = flat_map (misfits d.families) d.splits ++ flat_map mismatches (cuts_of d)

  abbrev fault : ℕ → Fault
  fault at = record { number = 24; at = at }

  no_place : (at : ℕ) → Has fits at → ⊥
  no_place at h = no_fault (fault at) (Has-right (map (λ at. record { number = 23; at = at }) (flat_map (astray d) d.splits ++ split_again d.splits)) (Has-left [] (Has-map fault h)))

  module _ (s : FlatSplit) (is_split : Has d.splits s) where
    no_misfit : (at : ℕ) → Has (misfits d.families s) at → ⊥
    no_misfit at h = no_place at (Has-left (flat_map mismatches (cuts_of d)) (Has-flat_map (misfits d.families) is_split h))

    stands : (pair : FlatPair) → Has s.pairs pair → (x : Occurrence) → Has (readings pair.left) x → x.var < length s.bound → (k : ℕ) × (stands_for s x.var ≡ Some k)
    stands pair h x k l = elim (some_or_none (stands_for s x.var)) [
      | inl r ↦ r
      | inr e ↦ absurd (no_misfit x.at (Has-right (unbound s ++ doubled (bracketed s) ++ not_in_one s ++ not_new s ++ other_kind d.families s)
          (Has-flat_map (λ pair. map (λ reading. reading.at) (filter (is_stray s) (readings pair.left))) h
          (Has-map (λ reading. reading.at) (Has-filter (is_stray s) k (and_both (nat_lt-true x.var (length s.bound) l) e))))))
    ]

    in_one : (word : Word) → Has s.vars word → (a b : FlatPair) → Has (equations_of s.pairs word) a → Has (equations_of s.pairs word) b → a ≡ b
    in_one word h a b = one_only (equations_of s.pairs word) a b (nat_eq-is (length (equations_of s.pairs word)) 1 (kept (nat_eq (length (equations_of s.pairs word)) 1) word.at
        (λ k. no_misfit word.at (Has-left (strays s) (Has-left (other_kind d.families s) (Has-left (not_new s) (Has-right (unbound s ++ doubled (bracketed s))
        (Has-flat_map (λ word. place_if (not (nat_eq (length (equations_of s.pairs word)) 1)) word.at) h k))))))))

    bound : (word : Word) → Has s.vars word → names_one s.bound word ≡ true
    bound word h = kept (names_one s.bound word) word.at
        (λ k. no_misfit word.at (Has-left (strays s) (Has-left (other_kind d.families s) (Has-left (not_new s) (Has-left (not_in_one s) (Has-left (doubled (bracketed s))
        (Has-flat_map (λ word. place_if (not (names_one s.bound word)) word.at) (Has-left s.of.names h) k)))))))

  few : (count : ℕ) (bound : List Param) (names : List Word) → ((at : ℕ) → Has (miscounted count names) at → ⊥) → length (flat_map (with_name bound) names) ≤ count
  few count bound [] free = omega arith
  few count bound (word ∷ more) free =
      let a = at_most_each (with_name bound) (λ word. option_long (find (λ p. bytes_eq p.name word.name) bound)) (word ∷ more) in
      let b = nat_eq-is (length (word ∷ more)) count (kept (nat_eq (length (word ∷ more)) count) word.at (free word.at)) in
      omega (arith, a, b)

  is_good : (c : Cut) → Has d.splits c.split → Has (cuts_of d) c → IsGood d c
  is_good c h k = record {
    are_few = few (length c.params) c.split.bound c.split.of.names
        (λ at l. no_place at (Has-right (flat_map (misfits d.families) d.splits) (Has-flat_map mismatches k (Has-left (other_type c) l))));
    stand = stands c.split h;
    in_one = in_one c.split h;
    are_numbered = read.numbered c.split h;
    are_indexes = read.bound c.split h;
    are_bound = bound c.split h;
  }

  -- the chain of what has a name is among the splits that lead to it
  chain_in : (n : ℕ) (name : Name) (params : List Param) (c : Cut) → Has (chain d n name params) c → Has d.splits c.split × Has (cuts d n name params) c
  chain_in zero name params c h = elim h [ ]
  chain_in (suc n) name params c h = at (find (λ s. bytes_eq (named_by s.of) name) d.splits) refl h (λ name params c. chain_in n name params c)
    where
      at : (o : Option FlatSplit) → find (λ s. bytes_eq (named_by s.of) name) d.splits ≡ o → Has (onward_if (chain d n) params o) c →
          ((name : Name) (params : List Param) (c : Cut) → Has (chain d n name params) c → Has d.splits c.split × Has (cuts d n name params) c) → Has d.splits c.split × Has (cuts d (suc n) name params) c
      at None e h goes = elim h [ ]
      at (Some s) e h goes = let f = find-some (λ s. bytes_eq (named_by s.of) name) d.splits e in let k = Has-filter (λ s. bytes_eq (named_by s.of) name) f.0 f.1 in elim (Has-uncons h) [
        | inl i ↦ (subst (λ c. Has d.splits c.split) (sym i) f.0, Has-flat_map (onward (cuts d n) params) k (subst (Has (onward (cuts d n) params s)) (sym i) first))
        | inr l ↦ let r = goes s.name (all_params (cut params s)) c l in (r.0, Has-flat_map (onward (cuts d n) params) k (later r.1))
      ]

  pub good_chain : (unit : Unit) → Has (units_of d) unit → (c : Cut) → Has (chain d (length d.splits) (name_of d (unit_in d unit)) (own_params d (unit_in d unit))) c → IsGood d c
  good_chain unit u c h =
      let r = chain_in (length d.splits) (name_of d (unit_in d unit)) (own_params d (unit_in d unit)) c h in
      is_good c r.0 (Has-flat_map (λ unit. cuts d (length d.splits) (name_of d (unit_in d unit)) (own_params d (unit_in d unit))) u r.1)
