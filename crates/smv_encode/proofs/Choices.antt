-- What is chosen of demands as they are written is what is chosen of the demands.
use Rattle.std.proofs.Common.{◌≡◌, ℕ, List, [], ◌∷◌, map, Bool, true, false, ◌&&◌, ◌||◌, if◌then◌else◌, refl, sym, ap, subst, ◌∙◌, inl, inr, zero, suc, ◌+◌, ◌<◌, ◌≤◌, length, drop, get_or, arith}
use Rattle.std.specs.List.{list_any, slice_get}
use Rattle.std.proofs.Math.Seq.{drop-cons}
use Rattle.std.proofs.lemmas.Bool.{cases_Bool}
use Rattle.smv_core.specs.FlatMeaning.{Numbered}
use Rattle.smv_core.specs.declared.flat.Class.{Class}
use Rattle.smv_core.specs.declared.flat.Element.{Element}
use Rattle.law_obligations.specs.Sets.{Has, first, later}
use Rattle.law_obligations.specs.Places.{Place}
use Rattle.law_obligations.specs.Demands.{concerns_place}
use Rattle.law_obligations.specs.Soundness.{over_of}
use Rattle.law_obligations.specs.Obligations.{Demanded, defined, holds}
use Rattle.law_obligations.specs.Cones.{AbsElement, element, same_element}
use Rattle.law_obligations.proofs.Lookups.{find-some}
use Rattle.law_obligations.proofs.ConeFacts.{same_element-itself, same_element-family, same_element-indexes}
use Rattle.law_obligations.specs.Readings.{PosedCase, Slot, slots}
use Rattle.law_obligations.proofs.ReadBack.{found, slot_element}
use Rattle.law_reports.specs.CaseLists.{defines, is_claim, is_by_next, those_of}
use Rattle.smv_spots.specs.declared.spots.Spot.{Spot}
use Rattle.smv_spots.specs.Spots.{place_in}
use Rattle.smv_problem.specs.declared.problem.Demand.{Demand}
use Rattle.smv_problem.specs.declared.problem.Problem.{Problem}
use Rattle.smv_problem.specs.Written.{written, written_class, written_element, written_demand}
use Rattle.smv_problem.specs.WellFormed.{IsWellFormed}
use Rattle.smv_typed_spots.specs.TypedSpots.{class_spots}
use Rattle.smv_encode.proofs.CodedCells.{indexes_back, placed_indexes}
use Rattle.smv_elements.specs.Elements as listed
use Rattle.smv_elements.proofs.Keys.{same-is, same-itself}
use Rattle.smv_encode.specs.Encoded.{IsKept}
use Rattle.smv_encode.specs.ChosenDemands.{is_held, is_of, is_moving}
use Rattle.smv_encode.specs.Parts.{AreDemands}

module _ (c : PosedCase) (well : IsWellFormed c) where
  pub written_once : (x y : AbsElement) → Has c.elements x → Has c.elements y → written_element x ≡ written_element y → x ≡ y
  written_once x y hx hy e =
      let family : x.family ≡ y.family = ap (λ (z : Element). z.family) e in
      let classes : map written_class x.indexes ≡ map written_class y.indexes = ap (λ (z : Element). z.indexes) e in
      let indexes : x.indexes ≡ y.indexes =
      sym (indexes_back c well x hx)
      ∙ ap (λ (cs : List Class). map (place_in c.problem.world.classes) (class_spots (over_of (slice_get c.problem.world.classes.families x.family)) cs)) classes
      ∙ ap (λ (f : ℕ). map (place_in c.problem.world.classes) (class_spots (over_of (slice_get c.problem.world.classes.families f)) (map written_class y.indexes))) family
      ∙ indexes_back c well y hy in
      λ i. record { family = family i; indexes = indexes i }

  element_kept : (family : ℕ) (ps : List Place) → c.problem.kept family ps ≡ true → Has c.elements (element family ps)
  element_kept family ps k =
      let any : list_any (same_element (element family ps)) c.elements ≡ true = sym (ap (λ (keeps : ℕ → List Place → Bool). keeps family ps) well.is_case.are_kept) ∙ k in
      let slot = found c.problem.world (same_element (element family ps)) 0 c.elements any in
      let at = find-some (λ (s : Slot). same_element (element family ps) s.element) (slots c) slot.1 in
      let is : element family ps ≡ slot.0.element = same_is (element family ps) slot.0.element at.1 in
      subst (Has c.elements) (sym is) (slot_element c.problem.world 0 c.elements slot.0 at.0)
    where
      same_is : (x y : AbsElement) → same_element x y ≡ true → x ≡ y
      same_is x y e = λ i. record { family = same_element-family x y e i; indexes = same_element-indexes x y e i }

  -- the same element is written the same
  pub same_written : (x y : AbsElement) → Has c.elements x → Has c.elements y → listed.same_element (written_element x) (written_element y) ≡ same_element x y
  same_written x y hx hy = elim (cases_Bool (listed.same_element (written_element x) (written_element y))) [
    | inl e ↦
        let is : x ≡ y = written_once x y hx hy (same-is (written_element x) (written_element y) e) in
        e ∙ sym (subst (λ (z : AbsElement). same_element x z ≡ true) is (same_element-itself x))
    | inr e ↦ elim (cases_Bool (same_element x y)) [
      | inl f ↦
          let family = same_element-family x y f in
          let indexes = same_element-indexes x y f in
          let is : x ≡ y = λ i. record { family = family i; indexes = indexes i } in
          absurd (clash (subst (λ (z : AbsElement). listed.same_element (written_element x) (written_element z) ≡ true) is (same-itself (written_element x))) e)
      | inr f ↦ e ∙ sym f
    ]
  ]
    where
      clash : {b : Bool} → b ≡ true → b ≡ false → ⊥
      clash p q = cc

  pub defines_written : (x : AbsElement) (d : Demanded) → Has c.elements x → IsKept c d → is_of (written_element x) (written_demand c.problem.world.classes d) ≡ defines x d
  defines_written x (defined def indexes) h k = same_written x (element def.family indexes) h (element_kept def.family indexes k)
  defines_written x (holds body b) h k = refl

  -- ---- whether an element moves

  moved_at : (x : AbsElement) (d : Demanded) (ps : List Place) → ps ≡ x.indexes → defines x d ≡ true → is_moving ps (written_demand c.problem.world.classes d) ≡ is_by_next d
  moved_at x (defined def indexes) ps e own = ap (λ (qs : List Place). concerns_place def.next qs) (e ∙ same_element-indexes x (element def.family indexes) own)
  moved_at x (holds body b) ps e own = refl

  one_moves : (x : AbsElement) (d : Demanded) (ds : List Demanded) (ps : List Place) → ps ≡ x.indexes → (b : Bool) → defines x d ≡ b → (rest : Bool) → rest ≡ list_any is_by_next (those_of ds x)
      → ((b && is_moving ps (written_demand c.problem.world.classes d)) || rest) ≡ list_any is_by_next (if b then d ∷ those_of ds x else those_of ds x)
  one_moves x d ds ps e true own rest more = ap (λ (m : Bool). m || rest) (moved_at x d ps e own) ∙ ap (λ (m : Bool). is_by_next d || m) more
  one_moves x d ds ps e false own rest more = more

  all_move : (x : AbsElement) → Has c.elements x → (ps : List Place) → ps ≡ x.indexes → (ds : List Demanded) → ((d : Demanded) → Has ds d → IsKept c d) →
      list_any (λ d. is_of (written_element x) d && is_moving ps d) (map (written_demand c.problem.world.classes) ds) ≡ list_any is_by_next (those_of ds x)
  all_move x h ps e [] k = refl
  all_move x h ps e (d ∷ ds) k =
      ap (λ (b : Bool). (b && is_moving ps (written_demand c.problem.world.classes d)) || list_any (λ d. is_of (written_element x) d && is_moving ps d) (map (written_demand c.problem.world.classes) ds)) (defines_written x d h (k d first))
      ∙ one_moves x d ds ps e (defines x d) refl (list_any (λ d. is_of (written_element x) d && is_moving ps d) (map (written_demand c.problem.world.classes) ds)) (all_move x h ps e ds (λ g m. k g (later m)))

  -- so a call tells
  pub moves_are : (p : Problem) → p ≡ written c → (x : AbsElement) (x' : Element) → Has c.elements x → x' ≡ written_element x → (spots : List Spot) → spots ≡ class_spots (over_of (slice_get p.families x'.family)) x'.indexes → (ds : List Demanded) (demands : List Demand) → AreDemands c ds demands
      → (result : Bool) → ((n : Numbered) → result ≡ list_any (λ d. is_of x' d && is_moving (map (place_in n) spots) d) demands) → result ≡ list_any is_by_next (those_of ds x)
  moves_are p is x x' h e spots at ds demands are result tells =
      tells c.problem.world.classes
      ∙ ap (λ (y : Element). list_any (λ d. is_of y d && is_moving (map (place_in c.problem.world.classes) spots) d) demands) e
      ∙ ap (λ (gs : List Demand). list_any (λ d. is_of (written_element x) d && is_moving (map (place_in c.problem.world.classes) spots) d) gs) are.written
      ∙ all_move x h (map (place_in c.problem.world.classes) spots) placed ds are.kept
    where
      placed : map (place_in c.problem.world.classes) spots ≡ x.indexes
      placed = placed_indexes p c is well x x' h e spots at

-- the body of a claim
pub held_written : (n : Numbered) (d : Demanded) → is_held (written_demand n d) ≡ is_claim d
held_written n (defined def indexes) = refl
held_written n (holds body b) = refl

-- ---- members of which a test says no

pub none_moves : {X : Type 0} (f : X → Bool) (ds : List X) (i : ℕ) (d : X) (w : Bool) → i < length ds → d ≡ get_or ds i d → f d ≡ false → list_any f (drop i ds) ≡ w → list_any f (drop (i + 1) ds) ≡ w
none_moves f ds i d w lt at is before =
    let one : i + 1 ≡ suc i = omega arith in
    ap (λ (k : ℕ). list_any f (drop k ds)) one
    ∙ sym (ap (list_any f) (drop-cons ds i d lt ∙ ap (λ g. g ∷ drop (suc i) ds) (sym at)) ∙ ap (λ (b : Bool). b || list_any f (drop (suc i) ds)) is)
    ∙ before

none_left : {X : Type 0} (ds : List X) (i : ℕ) → length ds ≤ i → drop i ds ≡ []
none_left [] zero le = refl
none_left [] (suc i) le = refl
none_left (d ∷ ds) zero le = absurd (omega arith)
none_left (d ∷ ds) (suc i) le = none_left ds i (omega arith)

pub none_moves_all : {X : Type 0} (f : X → Bool) (ds : List X) (i : ℕ) (w : Bool) → length ds ≤ i → list_any f (drop i ds) ≡ w → false ≡ w
none_moves_all f ds i w le before = sym (ap (list_any f) (none_left ds i le)) ∙ before
