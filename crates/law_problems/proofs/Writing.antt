-- Indexes and elements as they are written.
use Rattle.std.proofs.Common.{◌≡◌, ℕ, ◌+◌, ◌-◌, List, [], ◌∷◌, map, Bool, true, false, cond, refl, sym, ap, subst, ◌∙◌, Option, Some, None}
use Rattle.std.specs.List.{slice_get}
use Rattle.std.proofs.lemmas.Simd.{map-map}
use Rattle.std.proofs.lemmas.List.Folds.{flat_map-map}
use Rattle.law_lists.proofs.Lists.{head_is, tail_is, map-flat_map, flat_map_alike}
use Rattle.smv_core.specs.Values.{Value, number, scalar, ordinal, values_of, numbers_from}
use Rattle.smv_core.specs.Values as values
use Rattle.smv_core.specs.FlatMeaning.{set_type}
use Rattle.smv_core.specs.declared.flat.Family.{Family}
use Rattle.smv_core.specs.declared.flat.Simple.{Simple}
use Rattle.smv_core.specs.declared.flat.Simple.TheVariants.{Range, Enum, Set}
use Rattle.smv_core.specs.declared.flat.SetInfo.{SetInfo}
use Rattle.smv_core.specs.declared.flat.Element.{Element}
use Rattle.smv_core.specs.declared.flat.Class.{Class}
use Rattle.smv_core.specs.declared.flat.Class.TheVariants as class
use Rattle.law_obligations.specs.Sets.{Has, first, later, one_of_each}
use Rattle.law_obligations.specs.Places.{Place, named, World, named_in}
use Rattle.law_obligations.specs.Covers.{IsIndexType}
use Rattle.law_obligations.specs.Soundness.{over_of}
use Rattle.law_obligations.proofs.Members.{Has-from_map}
use Rattle.law_obligations.proofs.OneOfEach.{AreOf, are_of, get_Has, Has-from_flat_map}
use Rattle.law_obligations.specs.Cones.{AbsElement, element, elements_of, elements}
use Rattle.smv_problem.specs.Written.{written_class, written_element}
use Rattle.law_problems.specs.Order.{AreIndexed}
use Rattle.law_problems.specs.Written.{classes_of, named_classes}

-- what a value makes of each number is written so
written-each : (f : ℕ → Value) (g : ℕ → Class) → ((k : ℕ) → written_class (named (f k)) ≡ g k) → (ks : List ℕ) → map written_class (map named (map f ks)) ≡ map g ks
written-each f g is [] = refl
written-each f g is (k ∷ ks) = ap (λ c. c ∷ map written_class (map named (map f ks))) (is k) ∙ ap (λ cs. g k ∷ cs) (written-each f g is ks)

module _ (w : World) where
  set_written : (o : Option SetInfo) → map written_class (map named (values_of w.classes.sizes (set_type o))) ≡ classes_of w o
  set_written None = refl
  set_written (Some info) = at info.ordered
    where
      at : (b : Bool) → map written_class (map named (values_of w.classes.sizes (cond b (values.ordset info.name) (values.scalarset info.name)))) ≡ map class.Named (numbers_from 0 (w.classes.sizes info.name))
      at true = written-each (ordinal info.name) (λ k. class.Named k) (λ k. refl) (numbers_from 0 (w.classes.sizes info.name))
      at false = written-each (scalar info.name) (λ k. class.Named k) (λ k. refl) (numbers_from 0 (w.classes.sizes info.name))

  pub named_written : (t : Simple) → IsIndexType t → map written_class (named_in w t) ≡ named_classes w t
  named_written (Range low high) i = written-each number (λ k. class.Number k) (λ k. refl) (numbers_from low (high + 1 - low))
  named_written (Enum list) i = absurd i
  named_written (Set set) i = set_written (slice_get w.classes.sets set)

pub choices_written : (pss : List (List Place)) → map (map written_class) (one_of_each pss) ≡ one_of_each (map (map written_class) pss)
choices_written [] = refl
choices_written (ps ∷ pss) =
    map-flat_map (map written_class) (λ p. map (λ qs. p ∷ qs) (one_of_each pss)) ps
    ∙ (flat_map_alike (λ p. map (map written_class) (map (λ qs. p ∷ qs) (one_of_each pss))) (λ p. map (λ cs. written_class p ∷ cs) (one_of_each (map (map written_class) pss))) ps (λ p.
    map-map (map written_class) (λ qs. p ∷ qs) (one_of_each pss)
    ∙ (sym (map-map (λ cs. written_class p ∷ cs) (map written_class) (one_of_each pss)) ∙ ap (map (λ cs. written_class p ∷ cs)) (choices_written pss)))
    ∙ sym (flat_map-map (λ c. map (λ cs. c ∷ cs) (one_of_each (map (map written_class) pss))) written_class ps))

-- elements

-- members of one such list that are written alike are one
one_each : (f : ℕ → Value) (g : ℕ → Class) → ((k : ℕ) → written_class (named (f k)) ≡ g k) → ((k l : ℕ) → g k ≡ g l → k ≡ l) → (ks : List ℕ) (p q : Place) → Has (map named (map f ks)) p → Has (map named (map f ks)) q → written_class p ≡ written_class q → p ≡ q
one_each f g is inj ks p q h k e =
    let a = Has-from_map named (map f ks) h in let a2 = Has-from_map f ks a.1 in
    let b = Has-from_map named (map f ks) k in let b2 = Has-from_map f ks b.1 in
    let pa : p ≡ named (f a2.0) = a.2 ∙ ap named a2.2 in
    let qb : q ≡ named (f b2.0) = b.2 ∙ ap named b2.2 in
    let same : a2.0 ≡ b2.0 = inj a2.0 b2.0 (sym (ap written_class pa ∙ is a2.0) ∙ (e ∙ (ap written_class qb ∙ is b2.0))) in
    pa ∙ (ap (λ m. named (f m)) same ∙ sym qb)

number_one : (k l : ℕ) → class.Number k ≡ class.Number l → k ≡ l
number_one k l e = cc

named_one : (k l : ℕ) → class.Named k ≡ class.Named l → k ≡ l
named_one k l e = cc

module _ (w : World) where
  one_in_set : (o : Option SetInfo) (p q : Place) → Has (map named (values_of w.classes.sizes (set_type o))) p → Has (map named (values_of w.classes.sizes (set_type o))) q → written_class p ≡ written_class q → p ≡ q
  one_in_set None p q h k e = elim h [ ]
  one_in_set (Some info) p q h k e = at info.ordered h k
    where
      at : (b : Bool) → Has (map named (values_of w.classes.sizes (cond b (values.ordset info.name) (values.scalarset info.name)))) p → Has (map named (values_of w.classes.sizes (cond b (values.ordset info.name) (values.scalarset info.name)))) q → p ≡ q
      at true h k = one_each (ordinal info.name) (λ k. class.Named k) (λ k. refl) named_one (numbers_from 0 (w.classes.sizes info.name)) p q h k e
      at false h k = one_each (scalar info.name) (λ k. class.Named k) (λ k. refl) named_one (numbers_from 0 (w.classes.sizes info.name)) p q h k e

  one_in : (t : Simple) → IsIndexType t → (p q : Place) → Has (named_in w t) p → Has (named_in w t) q → written_class p ≡ written_class q → p ≡ q
  one_in (Range low high) i p q h k e = one_each number (λ k. class.Number k) (λ k. refl) number_one (numbers_from low (high + 1 - low)) p q h k e
  one_in (Enum list) i p q h k e = absurd i
  one_in (Set set) i p q h k e = one_in_set (slice_get w.classes.sets set) p q h k e

  all_one : (types : List Simple) → ((t : Simple) → Has types t → IsIndexType t) → (ps qs : List Place) → AreOf (map (named_in w) types) ps → AreOf (map (named_in w) types) qs → map written_class ps ≡ map written_class qs → ps ≡ qs
  all_one [] i [] [] h k e = refl
  all_one [] i [] (q ∷ qs) h k e = elim k [ ]
  all_one [] i (p ∷ ps) qs h k e = elim h [ ]
  all_one (t ∷ types) i [] qs h k e = elim h [ ]
  all_one (t ∷ types) i (p ∷ ps) [] h k e = elim k [ ]
  all_one (t ∷ types) i (p ∷ ps) (q ∷ qs) h k e =
      ap (λ p. p ∷ ps) (one_in t (i t first) p q h.0 k.0 (head_is e)) ∙ ap (λ ps. q ∷ ps) (all_one types (λ u m. i u (later m)) ps qs h.1 k.1 (tail_is e))

  over_indexed : AreIndexed w → (o : Option Family) (k : ℕ) → slice_get w.classes.families k ≡ o → (t : Simple) → Has (over_of o) t → IsIndexType t
  over_indexed indexed None k e t h = elim h [ ]
  over_indexed indexed (Some f) k e t h = indexed f (get_Has w.classes.families k f e) t h

  indexes-are : (x : AbsElement) → Has (elements w) x → AreOf (map (named_in w) (over_of (slice_get w.classes.families x.family))) x.indexes
  indexes-are x h =
      let r = Has-from_flat_map (elements_of w) (numbers_from 0 _) h in
      let q = Has-from_map (element r.0) (one_of_each (map (named_in w) (over_of (slice_get w.classes.families r.0)))) r.2 in
      subst (λ (x : AbsElement). AreOf (map (named_in w) (over_of (slice_get w.classes.families x.family))) x.indexes) (sym q.2) (are_of (map (named_in w) (over_of (slice_get w.classes.families r.0))) q.0 q.1)

  pub elements_written : AreIndexed w → (x y : AbsElement) → Has (elements w) x → Has (elements w) y → written_element x ≡ written_element y → x ≡ y
  elements_written indexed x y h k e =
      let family : x.family ≡ y.family = ap (λ (x : Element). x.family) e in
      let there = subst (λ family. AreOf (map (named_in w) (over_of (slice_get w.classes.families family))) y.indexes) (sym family) (indexes-are y k) in
      let indexes = all_one (over_of (slice_get w.classes.families x.family)) (over_indexed indexed (slice_get w.classes.families x.family) x.family refl) x.indexes y.indexes (indexes-are x h) there (ap (λ (x : Element). x.indexes) e) in
      ap (λ k. element k x.indexes) family ∙ ap (element y.family) indexes
