-- How the search goes on.
use Rattle.std.proofs.Common.{◌≡◌, ℕ, zero, suc, ◌+◌, ◌<◌, List, [], ◌∷◌, ◌++◌, map, length, slice_get, Option, Some, None, false, Result, Ok, Err, refl, sym, ap, subst, ◌∙◌, inl, inr, arith}
use Rattle.std.specs.Prelude.{option_to_list}
use Rattle.std.specs.List.{flat_map, slice_index_or}
use Rattle.std.specs.Result.{OnOk}
use Rattle.std.proofs.lemmas.List.{append-nil}
use Rattle.smv_core.specs.declared.flat.Element.{Element}
use Rattle.smv_core.specs.declared.flat.Simple.{Simple}
use Rattle.smv_core.specs.declared.flat.Family.{Family}
use Rattle.smv_core.specs.declared.flat.Def.{Def}
use Rattle.smv_core.specs.declared.flat.Class.{Class}
use Rattle.law_obligations.specs.Sets.{Has, first, later, one_of_each}
use Rattle.law_obligations.specs.Places.{Place, named_in}
use Rattle.law_obligations.specs.Covers.{IsIndexType}
use Rattle.law_obligations.specs.Soundness.{over_of}
use Rattle.law_obligations.proofs.Members.{Has-from_map, Has-cases}
use Rattle.law_obligations.proofs.OneOfEach.{AreOf, are_of, get_Has, Has-from_flat_map}
use Rattle.law_obligations.specs.Outlines.{chosen}
use Rattle.law_obligations.specs.Reached.{is_among, reached}
use Rattle.law_obligations.specs.Cones.{AbsElement, element, elements_of, elements, elements_of_def, same_element}
use Rattle.law_obligations.proofs.Lookups.{Has-from_filter}
use Rattle.law_problems.proofs.Searches.{search-begun, search-turn}
use Rattle.smv_problem.specs.Written.{written_class, written_element}
use Rattle.smv_elements.specs.Elements.{is_full, put_all}
use Rattle.smv_spots.specs.declared.spots.Spot.{Spot}
use Rattle.smv_reads.specs.declared.bindings.View.{View}
use Rattle.smv_reads.specs.Views.{world_of, IsView, place_in, places, spot_in, classes_in}
use Rattle.smv_reads.specs.Reading.{read_of}
use Rattle.smv_reads.proofs.IndexLaws.{class-back, named-classes}
use Rattle.law_problems.specs.Adds.{Adds}
use Rattle.law_problems.proofs.Putting.{added}
use Rattle.smv_cone.specs.declared.parts.Part.{Part}
use Rattle.smv_cone.specs.Parts.{spots_in, outline_of, firsts, nexts, cone_of, IsPartView}
use Rattle.smv_cone.specs.Begins.{read_first}
use Rattle.smv_cone.specs.Searching.{read_next, HasLeast, HasFound}

item-get : {X : Type 0} (xs : List X) (k : ℕ) (x : X) → k < length xs → x ≡ slice_index_or xs k x → slice_get xs k ≡ Some x
item-get [] k x l e = absurd (omega arith)
item-get (y ∷ xs) zero x l e = ap Some (sym e)
item-get (y ∷ xs) (suc k) x l e = item-get xs k x (omega arith) e

-- ---- what the chosen definition reads

pub next-none : (p : Part) (family : ℕ) (own : List Spot) → chosen (outline_of p) p.choice.now.picks family ≡ None → read_next p family own ≡ []
unfolding read_next
next-none p family own e = ap (λ (o : Option Def). map written_element (flat_map (elements_of_def (world_of p.view) (places p.view own)) (option_to_list o))) e

pub next-some : (p : Part) (family : ℕ) (own : List Spot) (def : Def) → chosen (outline_of p) p.choice.now.picks family ≡ Some def → read_next p family own ≡ read_of p.view own def
unfolding read_next read_of
next-some p family own def e =
    ap (λ (o : Option Def). map written_element (flat_map (elements_of_def (world_of p.view) (places p.view own)) (option_to_list o))) e
    ∙ ap (map written_element) (append-nil (elements_of_def (world_of p.view) (places p.view own) def))

-- ---- elements lie where their classes are

module _ (v : View) (h : IsView v) where
  pub place-back : (t : Simple) → IsIndexType t → (q : Place) → Has (named_in (world_of v) t) q → place_in v (spot_in t (written_class q)) ≡ q
  place-back t i q m =
      let from = Has-from_map (λ c. place_in v (spot_in t c)) (classes_in v.types.now t) (subst (λ ps. Has ps q) (named-classes v h.is_world t i) m) in
      ap (λ (c : Class). place_in v (spot_in t c)) (ap written_class from.2 ∙ class-back v t from.0) ∙ sym from.2

  pub places-back : (types : List Simple) → ((t : Simple) → Has types t → IsIndexType t) → (qs : List Place) → AreOf (map (named_in (world_of v)) types) qs → places v (spots_in types (map written_class qs)) ≡ qs
  places-back [] i [] m = refl
  places-back [] i (q ∷ qs) m = elim m [ ]
  places-back (t ∷ types) i [] m = elim m [ ]
  places-back (t ∷ types) i (q ∷ qs) m = ap (λ (x : Place). x ∷ places v (spots_in types (map written_class qs))) (place-back t (i t first) q m.0) ∙ ap (λ (xs : List Place). q ∷ xs) (places-back types (λ u k. i u (later k)) qs m.1)

  indexed : (o : Option Family) (k : ℕ) → slice_get v.design.now.families k ≡ o → (t : Simple) → Has (over_of o) t → IsIndexType t
  indexed None k e t m = elim m [ ]
  indexed (Some f) k e t m = h.are_indexed f (get_Has v.design.now.families k f e) t m

  indexes-are : (x : AbsElement) → Has (elements (world_of v)) x → AreOf (map (named_in (world_of v)) (over_of (slice_get v.design.now.families x.family))) x.indexes
  indexes-are x m =
      let r = Has-from_flat_map (elements_of (world_of v)) _ m in
      let q = Has-from_map (element r.0) (one_of_each (map (named_in (world_of v)) (over_of (slice_get v.design.now.families r.0)))) r.2 in
      subst (λ (x : AbsElement). AreOf (map (named_in (world_of v)) (over_of (slice_get v.design.now.families x.family))) x.indexes) (sym q.2) (are_of (map (named_in (world_of v)) (over_of (slice_get v.design.now.families r.0))) q.0 q.1)

  pub element-back : (x : AbsElement) → Has (elements (world_of v)) x → places v (spots_in (over_of (slice_get v.design.now.families x.family)) (map written_class x.indexes)) ≡ x.indexes
  element-back x m = places-back (over_of (slice_get v.design.now.families x.family)) (indexed (slice_get v.design.now.families x.family) x.family refl) x.indexes (indexes-are x m)

module _ (p : Part) (h : IsPartView p) (least : HasLeast p) where
  pub cone-of : (x : AbsElement) → Has (cone_of p) x → Has (elements (world_of p.view)) x
  cone-of x m = (Has-from_filter (is_among same_element (nexts p) (reached same_element (nexts p) (length (elements (world_of p.view))) (firsts p))) (elements (world_of p.view)) m).0

  -- what is read next for an element is what follows it
  next-is : (x : AbsElement) → Has (cone_of p) x → read_next p x.family (spots_in (over_of (slice_get p.view.design.now.families x.family)) (map written_class x.indexes)) ≡ map written_element (nexts p x)
  unfolding read_next
  next-is x m =
      ap (λ (ps : List Place). map written_element (flat_map (elements_of_def (world_of p.view) ps) (option_to_list (chosen (outline_of p) p.choice.now.picks x.family)))) (element-back p.view h.is_view x (cone-of x m))

  -- ---- the search

  pub begun : (new : List Element) → new ≡ put_all [] (read_first p) → HasFound p new 0
  unfolding read_first
  begun new e =
      let a = added (world_of p.view) h.is_view.are_indexed [] (firsts p) (λ x m. elim m [ ]) (λ x m. cone-of x (least.begins x m)) tt in
      let adds : Adds [] (firsts p) a.0 = a.1 in
      let same : map written_element a.0 ≡ new = sym (e ∙ adds.are_put) in
      record {
        all = a.0;
        are_written = same;
        are_apart = adds.are_apart;
        within = λ x m. least.begins x (adds.fresh x m);
        is_search = λ few. search-begun (nexts p) (firsts p) (cone_of p) least a.0 (adds.all (ap is_full same ∙ few)) adds.fresh;
      }

  got : (xs : List AbsElement) (k : ℕ) (e : Element) → slice_get (map written_element xs) k ≡ Some e → (x : AbsElement) × (slice_get xs k ≡ Some x) × (written_element x ≡ e)
  got [] k e g = absurd (cc)
  got (x ∷ xs) zero e g = (x, refl, inner g)
    where
      inner : {a b : Element} → Some a ≡ Some b → a ≡ b
      inner e = cc
  got (x ∷ xs) (suc k) e g = got xs k e g

  pub gone-on : (found new : List Element) (turn : ℕ) (e : Element) → HasFound p found turn → is_full found ≡ false → slice_get found turn ≡ Some e →
      new ≡ put_all found (read_next p e.family (spots_in (over_of (slice_get p.view.design.now.families e.family)) e.indexes)) → HasFound p new (turn + 1)
  gone-on found new turn e f few at is =
      let x = got f.all turn e (ap (λ (es : List Element). slice_get es turn) f.are_written ∙ at) in
      let m : Has (cone_of p) x.0 = f.within x.0 (get_Has f.all turn x.0 x.1) in
      let read : read_next p e.family (spots_in (over_of (slice_get p.view.design.now.families e.family)) e.indexes) ≡ map written_element (nexts p x.0) =
      ap (λ (e : Element). read_next p e.family (spots_in (over_of (slice_get p.view.design.now.families e.family)) e.indexes)) (sym x.2) ∙ next-is x.0 m in
      let a = added (world_of p.view) h.is_view.are_indexed f.all (nexts p x.0) (λ y k. cone-of y (f.within y k)) (λ y k. cone-of y (least.goes_on x.0 y m k)) f.are_apart in
      let adds : Adds f.all (nexts p x.0) a.0 = a.1 in
      let same : map written_element (f.all ++ a.0) ≡ new = sym (is ∙ (ap (put_all found) read ∙ (ap (λ (es : List Element). put_all es (map written_element (nexts p x.0))) (sym f.are_written) ∙ adds.are_put))) in
      let search = f.is_search few in
      record {
        all = f.all ++ a.0;
        are_written = same;
        are_apart = adds.are_apart;
        within = within a.0 (λ y k. least.goes_on x.0 y m (adds.fresh y k));
        is_search = λ fewer. search-turn (nexts p) (firsts p) (cone_of p) least f.all a.0 turn x.0 search x.1 adds.fresh (adds.all (ap is_full same ∙ fewer));
      }
    where
      within : (more : List AbsElement) → ((y : AbsElement) → Has more y → Has (cone_of p) y) → (y : AbsElement) → Has (f.all ++ more) y → Has (cone_of p) y
      within more of y k = elim (Has-cases f.all more k) [ inl l ↦ f.within y l | inr r ↦ of y r ]

  -- the same after a call
  pub gone-on-ok : {X E : Type 0} (r : Result X E) (found new : List Element) (turn : ℕ) (e : Element) (own : List Spot) → HasFound p found turn → is_full found ≡ false → turn < length found → e ≡ slice_index_or found turn e →
      own ≡ spots_in (over_of (slice_get p.view.design.now.families e.family)) e.indexes → OnOk r (new ≡ put_all found (read_next p e.family own)) → OnOk r (HasFound p new (turn + 1))
  gone-on-ok (Ok x) found new turn e own f few l at is ok = gone-on found new turn e f few (item-get found turn e l at) (ok ∙ ap (λ (b : List Spot). put_all found (read_next p e.family b)) is)
  gone-on-ok (Err x) found new turn e own f few l at is ok = tt
