-- A chain of splits ends before it has more splits than the design.
use Rattle.std.proofs.Common.{◌≡◌, ◌≢◌, ℕ, zero, suc, ◌<◌, List, [], ◌∷◌, ◌++◌, length, Bool, true, false, cond, refl, sym, ap, subst, ◌∙◌, ◌⊎◌, inl, inr, Option, Some, None, arith}
use Rattle.std.specs.Str.{bytes_eq}
use Rattle.std.specs.List.{slice_get, find}
use Rattle.std.proofs.lemmas.List.{length-append}
use Rattle.std.proofs.lemmas.Option.{slice_get_within}
use Rattle.law_lists.proofs.Options.{some_is}
use Rattle.smv_core.specs.Values.{Name}
use Rattle.smv_core.specs.declared.flat.Design.{Design}
use Rattle.smv_core.specs.declared.flat.Param.{Param}
use Rattle.smv_core.specs.declared.flat.FlatSplit.{FlatSplit}
use Rattle.smv_core.specs.declared.flat.Unit.{Unit}
use Rattle.smv_core.specs.declared.flat.Leaf.{Leaf}
use Rattle.law_obligations.specs.Sets.{Has, first, later}
use Rattle.law_obligations.specs.Placings.{AreDistinct, AreBelow}
use Rattle.law_obligations.proofs.Members.{Has-uncons}
use Rattle.law_obligations.proofs.OneOfEach.{get_Has, Has_get}
use Rattle.law_obligations.proofs.CoverLists.{not_found, at_most_size}
use Rattle.law_obligations.specs.Outlines.{unit_in}
use Rattle.law_obligations.specs.Units.{units_of}
use Rattle.law_obligations.proofs.Lookups.{find-some}
use Rattle.law_splits.specs.Leaves.{named_by, name_of, own_params, Cut, cut, all_params, name_after, onward_if, chain, leaves_from}
use Rattle.law_splits.specs.SplitLaws.{HasNamesApart, LeavesAreEnds}
use Rattle.law_splits.proofs.Params.{same_name, name_same}

find-none : {X : Type 0} (p : X → Bool) (xs : List X) {x : X} → find p xs ≡ None → Has xs x → p x ≡ false
find-none p [] e h = elim h [ ]
find-none {X} p (y ∷ xs) {x} e h = at (p y) refl e (λ i k. find-none p xs i k)
  where
    at : (b : Bool) → p y ≡ b → cond b (Some y) (find p xs) ≡ None → (find p xs ≡ None → Has xs x → p x ≡ false) → p x ≡ false
    at true i e goes = absurd (cc)
    at false i e goes = elim (Has-uncons h) [ inl q ↦ subst (λ z. p z ≡ false) (sym q) i | inr k ↦ goes e k ]

-- no number stands at two places
distinct : (ps : List ℕ) → ((i j p : ℕ) → i < j → slice_get ps i ≡ Some p → slice_get ps j ≡ Some p → ⊥) → AreDistinct ps
distinct [] none = tt
distinct (p ∷ ps) none = (
  not_found p ps (λ h. let r = Has_get h in none 0 (suc r.0) p (omega arith) refl r.1),
  distinct ps (λ i j q l a b. none (suc i) (suc j) q (omega (arith, l)) a b),
)

module _ (d : Design) (apart : HasNamesApart d) where
  -- splits by their places, each of what has the name before it
  abbrev Path : Name → List ℕ → Name → Type 0
  Path name [] end = name ≡ end
  Path name (p ∷ ps) end = (s : FlatSplit) × (slice_get d.splits p ≡ Some s) × (named_by s.of ≡ name) × Path s.name ps end

  extend : (name : Name) (ps : List ℕ) (end : Name) (p : ℕ) (s : FlatSplit) → Path name ps end → slice_get d.splits p ≡ Some s → named_by s.of ≡ end → Path name (ps ++ p ∷ []) s.name
  extend name [] end p s h e o = (s, e, o ∙ sym h, refl)
  extend name (q ∷ ps) end p s h e o = (h.0, h.1, h.2, extend h.0.name ps end p s h.3 e o)

  -- a split after another
  record Step (ps : List ℕ) (k p : ℕ) : Type 0 where
    q : ℕ
    at : slice_get ps k ≡ Some q
    s : FlatSplit
    is_s : slice_get d.splits q ≡ Some s
    t : FlatSplit
    is_t : slice_get d.splits p ≡ Some t
    after : named_by t.of ≡ s.name

  step : (name : Name) (ps : List ℕ) (end : Name) → Path name ps end → (k p : ℕ) → slice_get ps (suc k) ≡ Some p → Step ps k p
  step name [] end h k p e = absurd (cc)
  step name (q ∷ []) end h k p e = absurd (cc)
  step name (q ∷ r ∷ ps) end h zero p e = record { q = q; at = refl; s = h.0; is_s = h.1; t = h.3.0; is_t = subst (λ p. slice_get d.splits p ≡ Some h.3.0) (some_is e) h.3.1; after = h.3.2 }
  step name (q ∷ r ∷ ps) end h (suc k) p e =
      let n = step h.0.name (r ∷ ps) end h.3 k p e in
      record { q = n.q; at = n.at; s = n.s; is_s = n.is_s; t = n.t; is_t = n.is_t; after = n.after }

  start : (name : Name) (ps : List ℕ) (end : Name) → Path name ps end → (p : ℕ) → slice_get ps 0 ≡ Some p → (s : FlatSplit) × (slice_get d.splits p ≡ Some s) × (named_by s.of ≡ name)
  start name [] end h p e = absurd (cc)
  start name (q ∷ ps) end h p e = (h.0, subst (λ p. slice_get d.splits p ≡ Some h.0) (some_is e) h.1, h.2)

  one_of : (p : ℕ) (s t : FlatSplit) → slice_get d.splits p ≡ Some s → slice_get d.splits p ≡ Some t → named_by s.of ≡ named_by t.of
  one_of p s t a b = ap (λ (s : FlatSplit). named_by s.of) (some_is (sym a ∙ b))

  -- from the name of no split a path has no split twice
  once : (root : Name) → ((s : FlatSplit) → Has d.splits s → root ≢ s.name) → (ps : List ℕ) (end : Name) → Path root ps end →
      (i j p : ℕ) → i < j → slice_get ps i ≡ Some p → slice_get ps j ≡ Some p → ⊥
  once root roots ps end h i zero p l a b = absurd (omega (arith, l))
  once root roots ps end h zero (suc j) p l a b =
      let f = start root ps end h p a in
      let g = step root ps end h j p b in
      roots g.s (get_Has d.splits g.q g.s g.is_s) (sym f.2 ∙ (one_of p f.0 g.t f.1 g.is_t ∙ g.after))
  once root roots ps end h (suc i) (suc j) p l a b =
      let f = step root ps end h i p a in
      let g = step root ps end h j p b in
      let same : f.q ≡ g.q = apart.splits f.q g.q f.s g.s f.is_s g.is_s (sym f.after ∙ (one_of p f.t g.t f.is_t g.is_t ∙ g.after)) in
      once root roots ps end h i j f.q (omega (arith, l)) f.at (subst (λ q. slice_get ps j ≡ Some q) (sym same) g.at)

  are_below : (name : Name) (ps : List ℕ) (end : Name) → Path name ps end → AreBelow (length d.splits) ps
  are_below name [] end h = tt
  are_below name (p ∷ ps) end h = (slice_get_within d.splits p h.0 h.1, are_below h.0.name ps end h.3)

  -- the path of a chain
  record Walked (name : Name) (cuts : List Cut) : Type 0 where
    places : List ℕ
    path : Path name places (name_after name cuts)
    long : length places ≡ length cuts

  walked : (n : ℕ) (name : Name) (params : List Param) → Walked name (chain d n name params)
  walked zero name params = record { places = []; path = refl; long = refl }
  walked (suc n) name params = at (find (λ s. bytes_eq (named_by s.of) name) d.splits) refl (λ name params. walked n name params)
    where
      at : (o : Option FlatSplit) → find (λ s. bytes_eq (named_by s.of) name) d.splits ≡ o → ((name : Name) (params : List Param) → Walked name (chain d n name params)) →
          Walked name (onward_if (chain d n) params o)
      at None e goes = record { places = []; path = refl; long = refl }
      at (Some s) e goes =
          let f = find-some (λ s. bytes_eq (named_by s.of) name) d.splits e in
          let g = Has_get f.0 in
          let r = goes s.name (all_params (cut params s)) in
          record { places = g.0 ∷ r.places; path = (s, g.1, same_name (named_by s.of) name f.1, r.path); long = ap suc r.long }

  -- it ends, or has as many splits as it may
  ended : (n : ℕ) (name : Name) (params : List Param) →
      (find (λ s. bytes_eq (named_by s.of) (name_after name (chain d n name params))) d.splits ≡ None) ⊎ (length (chain d n name params) ≡ n)
  ended zero name params = inr refl
  ended (suc n) name params = at (find (λ s. bytes_eq (named_by s.of) name) d.splits) refl (λ name params. ended n name params)
    where
      at : (o : Option FlatSplit) → find (λ s. bytes_eq (named_by s.of) name) d.splits ≡ o →
          ((name : Name) (params : List Param) → (find (λ s. bytes_eq (named_by s.of) (name_after name (chain d n name params))) d.splits ≡ None) ⊎ (length (chain d n name params) ≡ n)) →
          (find (λ s. bytes_eq (named_by s.of) (name_after name (onward_if (chain d n) params o))) d.splits ≡ None) ⊎ (length (onward_if (chain d n) params o) ≡ suc n)
      at None e goes = inl e
      at (Some s) e goes = elim (goes s.name (all_params (cut params s))) [ inl f ↦ inl f | inr f ↦ inr (ap suc f) ]

  chain_ends : (root : Name) → ((s : FlatSplit) → Has d.splits s → root ≢ s.name) → (params : List Param) (s : FlatSplit) → Has d.splits s →
      named_by s.of ≢ name_after root (chain d (length d.splits) root params)
  chain_ends root roots params s h e = elim (ended (length d.splits) root params) [
    | inl f ↦ let a = find-none (λ s. bytes_eq (named_by s.of) (name_after root (chain d (length d.splits) root params))) d.splits f h in
        let b = name_same (named_by s.of) (name_after root (chain d (length d.splits) root params)) e in absurd (cc)
    | inr f ↦
        let w = walked (length d.splits) root params in
        let g = Has_get h in
        let path = extend root w.places (name_after root (chain d (length d.splits) root params)) g.0 s w.path g.1 e in
        let most = at_most_size (length d.splits) (w.places ++ g.0 ∷ []) (distinct (w.places ++ g.0 ∷ []) (once root roots (w.places ++ g.0 ∷ []) s.name path)) (are_below root (w.places ++ g.0 ∷ []) s.name path) in
        let long = length-append w.places (g.0 ∷ []) in
        let l = w.long in
        absurd (omega (arith, most, long, l, f))
  ]

  leaf_ends : (u : ℕ) (units : List Unit) → ((unit : Unit) → Has units unit → Has (units_of d) unit) → (leaf : Leaf) → Has (leaves_from d u units) leaf → (s : FlatSplit) → Has d.splits s → named_by s.of ≢ leaf.name
  leaf_ends u [] each leaf h s k e = elim h [ ]
  leaf_ends u (unit ∷ units) each leaf h s k e = elim (Has-uncons h) [
    | inl i ↦ chain_ends (name_of d (unit_in d unit)) (apart.units unit (each unit first)) (own_params d (unit_in d unit)) s k (e ∙ ap (λ (leaf : Leaf). leaf.name) i)
    | inr l ↦ leaf_ends (suc u) units (λ unit j. each unit (later j)) leaf l s k e
  ]

pub leaves_are_ends : LeavesAreEnds
leaves_are_ends d apart leaf h s k e = leaf_ends d apart 0 (units_of d) (λ unit h. h) leaf h s k e
