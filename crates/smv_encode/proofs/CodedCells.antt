-- Cells whose values are those of codes are the cells of the case in the state that the bits are read as.
use Rattle.std.proofs.Common.{◌≡◌, ℕ, suc, ◌+◌, ◌^◌, ◌<◌, ◌≤◌, append_assoc, List, [], ◌∷◌, ◌++◌, map, length, Bool, true, false, ◌&&◌, ◌||◌, nat_eq, nat_lt, refl, sym, ap, subst, ◌∙◌, Option, Some, None, inl, inr, arith}
use Rattle.std.specs.List.{list_any, slice_get}
use Rattle.std.proofs.lemmas.Bool.{cases_Bool}
use Rattle.law_lists.proofs.Lists.{length_map}
use Rattle.smv_core.specs.declared.flat.Simple.{Simple}
use Rattle.smv_core.specs.declared.flat.Family.{Family}
use Rattle.smv_core.specs.declared.flat.Element.{Element}
use Rattle.law_obligations.specs.Sets.{Has, first, later}
use Rattle.law_obligations.specs.Places.{Place, World, places_in}
use Rattle.law_obligations.specs.Soundness.{over_of}
use Rattle.law_obligations.specs.Covers.{IsIndexType}
use Rattle.law_obligations.proofs.OneOfEach.{get_Has}
use Rattle.law_obligations.specs.Cones.{AbsElement, element, same_element, same_places}
use Rattle.law_obligations.proofs.ConeFacts.{same_element-itself, same_element-family, same_element-indexes}
use Rattle.law_obligations.specs.Bits.{Bits}
use Rattle.law_obligations.specs.Codes.{bits_for, code_from, value_of_code}
use Rattle.law_obligations.specs.Readings.{PosedCase, Slot, values_in, values_of, bits_of, slots_from, is_value, state_bits, reading}
use Rattle.law_obligations.proofs.ReadBack.{reads_slot}
use Rattle.law_obligations.proofs.Codes.{bits_are}
use Rattle.law_worlds.proofs.Filled.{case_filled}
use Rattle.law_worlds.proofs.Worlds.{world_of_case}
use Rattle.smv_problem.specs.declared.problem.Problem.{Problem}
use Rattle.smv_problem.specs.Written.{written, written_element, written_class, written_type}
use Rattle.smv_problem.specs.WellFormed.{IsWellFormed, IsProblem, OfCases}
use Rattle.smv_readings.specs.StateBits.{count_for, bits_of_family, bits_of_elements, bits_in}
use Rattle.smv_readings.proofs.Counts.{values-counted, bits-of-cases}
use Rattle.smv_readings.proofs.Written.{slot_found}
use Rattle.smv_readings.proofs.Spelling.{bits_short}
use Rattle.smv_typed_spots.specs.TypedSpots.{class_spots}
use Rattle.smv_typed_spots.proofs.TypedLaws.{classes_placed}
use Rattle.smv_spots.specs.declared.spots.Spot.{Spot}
use Rattle.smv_spots.specs.Spots.{place_in}
use Rattle.smv_problem_spots.specs.Worlds.{IsWorldOf}
use Rattle.bdd_store.specs.declared.Ref.{Ref}
use Rattle.bdd_store.specs.Diagram.{Diagram, IsLive, AreLive, Keeps, table}
use Rattle.bdd_codes.specs.Codes.{bits_at, code_at, AreValues}
use Rattle.law_arrangements.specs.Arrangements.{Arrangement, spread}
use Rattle.law_arrangements.specs.Orders.{arranged}
use Rattle.smv_conditions.specs.declared.offers.Offer.{Offer}
use Rattle.smv_conditions.specs.Keep.{KeepsConditions}
use Rattle.smv_conditions.specs.Offers.{AreOffersMade}
use Rattle.smv_conditions.proofs.AddLaws.{offers_same}
use Rattle.smv_cells.specs.declared.cells.Cell.{Cell}
use Rattle.smv_cells.specs.Cells.{is_cell_of, AreCellsMade}
use Rattle.smv_cells.specs.Seen.{IsView, IsSeen}
use Rattle.smv_cells.proofs.SeenLaws.{cells_kept}
use Rattle.smv_orders.specs.Places.{ArePlaces}
use Rattle.smv_orders.proofs.Orders.{places_apart}
use Rattle.smv_encode.proofs.Placed.{code_placed}
use Rattle.smv_encode.specs.Coded.{state_at, view_at, paired, HaveValues, AreAmong, IsCoded, AreCoded}
use Rattle.smv_encode.specs.Encoded.{AreCodedCells}
use Rattle.smv_encode.specs.declared.cells.Cells.{Cells}
use Rattle.smv_encode.proofs.Paired.{coded_value, paired_made}

-- what a store keeps, conditions keep
pub kept_conditions : (d e : Diagram) → Keeps d e → KeepsConditions IsLive table (λ (s : Diagram). s.vars) d e
kept_conditions d e k = record { made = k.live; same = k.tables; stays = k.vars }

-- ---- counts and bits of a problem are those of each case that is written so

family_counted : (w : World) (o : Option Family) → count_for (map (λ (l : List (List ℕ)). length l) w.classes.enums) (map (written_type w) w.classes.sets) o ≡ length (values_in w o)
family_counted w None = refl
family_counted w (Some f) = sym (values-counted w f.value)

module _ (p : Problem) (c : PosedCase) (is : p ≡ written c) where
  pub count_is : (family : ℕ) → count_for p.lists p.types (slice_get p.families family) ≡ length (values_in c.problem.world (slice_get c.problem.world.classes.families family))
  unfolding written
  count_is family = ap (λ (q : Problem). count_for q.lists q.types (slice_get q.families family)) is ∙ family_counted c.problem.world (slice_get c.problem.world.classes.families family)

  pub width_is : (x : AbsElement) → bits_of_family p.families p.lists p.types x.family ≡ bits_of c.problem.world x
  width_is x = ap bits_for (count_is x.family)

  -- ---- the cell of an element

  module _ (d : Diagram) (order : List ℕ) (next : Bool) (bit : ℕ) (places : List ℕ) (placed : ArePlaces order bit places) where
    pub made_cell : (world : IsWorldOf p c.problem.world) (x : AbsElement) (x' : Element) → x' ≡ written_element x → (count : ℕ) → length places ≡ bits_of_family p.families p.lists p.types x'.family → count ≡ count_for p.lists p.types (slice_get p.families x'.family) → 1 ≤ count
        → (spots : List Spot) → ((w : World) → IsWorldOf p w → map (place_in w.classes) spots ≡ values_in w (slice_get w.classes.families x'.family)) → (rs : List Ref) → length rs ≡ count → AreValues d next places rs
        → (indexes : List Spot) → map (place_in c.problem.world.classes) indexes ≡ x.indexes
        → IsCoded c order d next bit x (record { family = x'.family; indexes = indexes; values = paired spots rs })
    made_cell world x x' e count wide many some spots values rs long each indexes at = record {
      family = same;
      indexes = at;
      values = λ a q.
          coded_value c.problem.world.classes d a q (values_of c.problem.world x) spots rs (code_at next places a) are (long ∙ many ∙ count_is x'.family ∙ sym length_spots)
          (let all = length_spots in let counted = count_is x'.family in omega (arith, all, counted, many, some)) (λ k lt. each k lt a)
          ∙ ap (λ (n : ℕ). q (Some (value_of_code (values_of c.problem.world x) n))) (code_placed order next a bit places placed)
          ∙ ap (λ (n : ℕ). q (Some (value_of_code (values_of c.problem.world x) (code_from (spread order (bits_at next a)) bit n)))) (wide ∙ ap (λ (family : ℕ). bits_of_family p.families p.lists p.types family) same ∙ width_is x);
    }
      where
        same : x'.family ≡ x.family
        same = ap (λ (y : Element). y.family) e

        are : map (place_in c.problem.world.classes) spots ≡ values_of c.problem.world x
        are = values c.problem.world world ∙ ap (λ (family : ℕ). values_in c.problem.world (slice_get c.problem.world.classes.families family)) same

        length_map : {X Y : Type 0} (f : X → Y) (xs : List X) → length (map f xs) ≡ length xs
        length_map f [] = refl
        length_map f (y ∷ ys) = ap (λ n. suc n) (length_map f ys)

        length_spots : length spots ≡ length (values_in c.problem.world (slice_get c.problem.world.classes.families x'.family))
        length_spots = sym (length_map (place_in c.problem.world.classes) spots) ∙ ap (λ (ps : List Place). length ps) (values c.problem.world world)

-- ---- cells stay those of their elements

pub coded_kept : (c : PosedCase) (order : List ℕ) (d e : Diagram) (next : Bool) (bit : ℕ) (x : AbsElement) (cell : Cell Ref) → Keeps d e → AreOffersMade (IsLive d) cell.values → IsCoded c order d next bit x cell → IsCoded c order e next bit x cell
coded_kept c order d e next bit x cell k made h = record {
  family = h.family;
  indexes = h.indexes;
  values = λ a p. offers_same c.problem.world.classes IsLive table (λ (s : Diagram). s.vars) a p d e cell.values (kept_conditions d e k) made ∙ h.values a p;
}

-- ---- each of them is the cell of a slot

pub has_slot : (c : PosedCase) (order : List ℕ) (d : Diagram) (next : Bool) (b : ℕ) (xs : List AbsElement) (cells : List (Cell Ref)) → AreCoded c order d next b xs cells → (cell : Cell Ref) → Has cells cell →
    (slot : Slot) × Has (slots_from c.problem.world b xs) slot × IsCoded c order d next slot.bit slot.element cell
has_slot c order d next b [] [] are cell h = elim h [ ]
has_slot c order d next b [] (y ∷ cells) are cell h = absurd are
has_slot c order d next b (x ∷ xs) [] are cell h = absurd are
has_slot c order d next b (x ∷ xs) (y ∷ cells) are _ first = (record { element = x; bit = b }, first, are.0)
has_slot c order d next b (x ∷ xs) (y ∷ cells) are cell (later h) = let r = has_slot c order d next (b + bits_of c.problem.world x) xs cells are.1 cell h in (r.0, later r.1, r.2)

same_both : (x y : AbsElement) → same_element x y ≡ true → same_element y x ≡ true
same_both x y e =
    let is : x ≡ y = λ i. record { family = same_element-family x y e i; indexes = same_element-indexes x y e i } in
    subst (λ (z : AbsElement). same_element z x ≡ true) is (same_element-itself x)

same_turned : (x y : AbsElement) → same_element x y ≡ same_element y x
same_turned x y = elim (cases_Bool (same_element x y)) [
  | inl e ↦ e ∙ sym (same_both x y e)
  | inr e ↦ elim (cases_Bool (same_element y x)) [
    | inl f ↦ same_both y x f ∙ sym f
    | inr f ↦ e ∙ sym f
  ]
]

pub cells_of_elements : (c : PosedCase) (order : List ℕ) (d : Diagram) (next : Bool) (b : ℕ) (xs : List AbsElement) (cells : List (Cell Ref)) → AreCoded c order d next b xs cells → (family : ℕ) (ps : List Place) →
    list_any (same_element (element family ps)) xs ≡ list_any (is_cell_of c.problem.world.classes family ps) cells
cells_of_elements c order d next b [] [] are family ps = refl
cells_of_elements c order d next b [] (y ∷ cells) are family ps = absurd are
cells_of_elements c order d next b (x ∷ xs) [] are family ps = absurd are
cells_of_elements c order d next b (x ∷ xs) (y ∷ cells) are family ps =
    let h = are.0 in
    ap (λ (z : Bool). z || list_any (same_element (element family ps)) xs)
    (same_turned (element family ps) x
    ∙ ap (λ (f : ℕ). nat_eq f family && same_places x.indexes ps) (sym h.family)
    ∙ ap (λ (qs : List Place). nat_eq y.family family && same_places qs ps) (sym h.indexes))
    ∙ ap (λ (z : Bool). is_cell_of c.problem.world.classes family ps y || z) (cells_of_elements c order d next (b + bits_of c.problem.world x) xs cells are.1 family ps)

-- ---- so they are seen

pub case_view : (c : PosedCase) (o : Arrangement) (next : Bool) → IsWellFormed c → IsView (view_at c o next)
case_view c o next well = record { filled = λ a e b. case_filled c well (state_at c o next a) e b }

pub coded_seen : (c : PosedCase) (order : List ℕ) (d : Diagram) (next : Bool) (p : Problem) (cells : List (Cell Ref)) → IsWellFormed c → IsWorldOf p c.problem.world → AreCoded c order d next 0 c.elements cells → IsSeen table d p cells (view_at c (arranged order) next)
coded_seen c order d next p cells well world are = record {
  view = case_view c (arranged order) next well;
  world = world;
  values = λ a q cell h.
      let r = has_slot c order d next 0 c.elements cells are cell h in
      let slot : Slot = r.0 in
      let s : Bits = spread order (bits_at next a) in
      r.2.values a q
      ∙ ap (λ (v : Place). q (Some v)) (
      sym (reads_slot c s slot.element.family slot.element.indexes (Some slot) (slot_found c.problem.world 0 c.elements well.elements slot r.1))
      ∙ ap (λ (f : ℕ). reading c s f slot.element.indexes) (sym r.2.family)
      ∙ ap (λ (ps : List Place). reading c s cell.family ps) (sym r.2.indexes)
      );
  kept = λ family ps. ap (λ (keeps : ℕ → List Place → Bool). keeps family ps) well.is_case.are_kept ∙ cells_of_elements c order d next 0 c.elements cells are family ps;
}

-- ---- "the code is that of a value"

pub value_is : (p : Problem) (c : PosedCase) (is : p ≡ written c) (next : Bool) (places : List ℕ) (count family : ℕ) → length places ≡ bits_of_family p.families p.lists p.types family → count ≡ count_for p.lists p.types (slice_get p.families family) → (x : AbsElement) → x.family ≡ family → (order : List ℕ) (bit : ℕ) → ArePlaces order bit places → (a : ℕ → Bool)
    → nat_lt (code_at next places a) count ≡ is_value c.problem.world (spread order (bits_at next a)) (record { element = x; bit = bit })
value_is p c is next places count family wide many x same order bit placed a =
    let wide' : length places ≡ bits_of c.problem.world x = wide ∙ ap (λ (f : ℕ). bits_of_family p.families p.lists p.types f) (sym same) ∙ width_is p c is x in
    let many' : count ≡ length (values_of c.problem.world x) = many ∙ ap (λ (f : ℕ). count_for p.lists p.types (slice_get p.families f)) (sym same) ∙ count_is p c is x.family in
    let s : Bits = spread order (bits_at next a) in
    ap (λ (n : ℕ). nat_lt n count) (code_placed order next a bit places placed) ∙ ap (λ (n : ℕ). nat_lt (code_from s bit n) count) wide' ∙ ap (λ (n : ℕ). nat_lt (code_from s bit (bits_of c.problem.world x)) n) many'

-- ---- what the calls need

pub problem_world : (p : Problem) (c : PosedCase) → p ≡ written c → IsWellFormed c → IsWorldOf p c.problem.world
problem_world p c is well = subst (λ (q : Problem). IsWorldOf q c.problem.world) (sym is) (world_of_case c well)

-- the bits of a family are few, and they have a code for each of its values
pub few_bits : (width count n : ℕ) → width ≡ bits_for n → count ≡ n → count < 2 ^ 32 → width ≤ 32
few_bits width count n wide many small = let short = bits_short count small in let same : width ≡ bits_for count = wide ∙ ap bits_for (sym many) in omega (arith, short, same)

pub enough_bits : (width count n : ℕ) → width ≡ bits_for n → count ≡ n → count ≤ 2 ^ width
enough_bits width count n wide many = subst (λ (b : ℕ). count ≤ 2 ^ b) (sym (wide ∙ ap bits_for (sym many))) (bits_are count).enough

-- as many spots as the family has values
pub spots_counted : (p : Problem) → IsProblem p → (family : ℕ) (spots : List Spot) → ((w : World) → IsWorldOf p w → map (place_in w.classes) spots ≡ values_in w (slice_get w.classes.families family)) → length spots ≡ count_for p.lists p.types (slice_get p.families family)
spots_counted p (c, is, well) family spots values =
    sym (length_map (place_in c.problem.world.classes) spots) ∙ ap (λ (ps : List Place). length ps) (values c.problem.world (problem_world p c is well)) ∙ sym (count_is p c is family)

-- ---- indexes

index_types : (c : PosedCase) → IsWellFormed c → (family : ℕ) (t : Simple) → Has (over_of (slice_get c.problem.world.classes.families family)) t → IsIndexType t
index_types c well family t h = by (slice_get c.problem.world.classes.families family) refl h
  where
    by : (o : Option Family) → slice_get c.problem.world.classes.families family ≡ o → Has (over_of o) t → IsIndexType t
    by None e h = elim h [ ]
    by (Some f) e h = well.index_types f (get_Has c.problem.world.classes.families family f e) t h

-- an element's indexes, by how they are written
pub indexes_back : (c : PosedCase) → IsWellFormed c → (x : AbsElement) → Has c.elements x → map (place_in c.problem.world.classes) (class_spots (over_of (slice_get c.problem.world.classes.families x.family)) (map written_class x.indexes)) ≡ x.indexes
indexes_back c well x h = classes_placed c.problem.world (over_of (slice_get c.problem.world.classes.families x.family)) x.indexes (index_types c well x.family) (well.indexes x h)

pub placed_indexes : (p : Problem) (c : PosedCase) → p ≡ written c → IsWellFormed c → (x : AbsElement) (x' : Element) → Has c.elements x → x' ≡ written_element x → (spots : List Spot) → spots ≡ class_spots (over_of (slice_get p.families x'.family)) x'.indexes → map (place_in c.problem.world.classes) spots ≡ x.indexes
unfolding written
placed_indexes p c is well x x' h e spots at =
    ap (map (place_in c.problem.world.classes)) (at
    ∙ ap (λ (y : Element). class_spots (over_of (slice_get p.families y.family)) y.indexes) e
    ∙ ap (λ (q : Problem). class_spots (over_of (slice_get q.families x.family)) (map written_class x.indexes)) is)
    ∙ indexes_back c well x h

-- ---- the cell of an element, and those behind it

pub whole_cell : (d : Diagram) (next : Bool) (places : List ℕ) (p : Problem) (x' : Element) (count : ℕ) → length places ≡ bits_of_family p.families p.lists p.types x'.family → count ≡ count_for p.lists p.types (slice_get p.families x'.family) → 1 ≤ count
    → (spots shown : List Spot) → shown ≡ spots → ((w : World) → IsWorldOf p w → map (place_in w.classes) spots ≡ values_in w (slice_get w.classes.families x'.family)) → (rs seen : List Ref) → seen ≡ rs → length rs ≡ count → AreValues d next places rs
    → (indexes : List Spot) → indexes ≡ class_spots (over_of (slice_get p.families x'.family)) x'.indexes → (offers : List (Offer Ref)) → offers ≡ paired shown seen
    → OfCases p (λ c. (x : AbsElement) → Has c.elements x → x' ≡ written_element x → (order : List ℕ) (bit : ℕ) → ArePlaces order bit places → IsCoded c order d next bit x (record { family = x'.family; indexes = indexes; values = offers }))
whole_cell d next places p x' count wide many some spots shown es values rs seen er long each indexes at offers paired_so c is well x h e order bit placed =
    subst (λ (os : List (Offer Ref)). IsCoded c order d next bit x (record { family = x'.family; indexes = indexes; values = os })) (sym (paired_so ∙ ap (λ (ps : List Spot). paired ps seen) es ∙ ap (λ (qs : List Ref). paired spots qs) er))
    (made_cell p c is d order next bit places placed (problem_world p c is well) x x' e count wide many some spots values rs long each indexes (placed_indexes p c is well x x' h e indexes at))

pub values_made : (d : Diagram) (spots shown : List Spot) → (rs seen : List Ref) → seen ≡ rs → AreLive d rs → (offers : List (Offer Ref)) → offers ≡ paired shown seen → AreOffersMade (IsLive d) offers
values_made d spots shown rs seen er from offers is =
    subst (AreOffersMade (IsLive d)) (sym (is ∙ ap (λ (qs : List Ref). paired shown qs) er)) (paired_made d shown rs from)

pub first_has : (p : Problem) (elements others : List Element) (x : Element) → elements ≡ x ∷ others → HaveValues p elements → 1 ≤ count_for p.lists p.types (slice_get p.families x.family)
first_has p elements others x e have = have x (subst (λ (xs : List Element). Has xs x) (sym e) first)

pub others_have : (p : Problem) (elements others : List Element) (x : Element) → elements ≡ x ∷ others → HaveValues p elements → HaveValues p others
others_have p elements others x e have y h = have y (subst (λ (xs : List Element). Has xs y) (sym e) (later h))

pub first_room : (p : Problem) (elements others : List Element) (x : Element) → elements ≡ x ∷ others →
    bits_of_elements p.families p.lists p.types elements ≡ bits_of_family p.families p.lists p.types x.family + bits_of_elements p.families p.lists p.types others
first_room p elements others x e = ap (bits_of_elements p.families p.lists p.types) e

pub more_made : (d e : Diagram) (cells more : List (Cell Ref)) (cell : Cell Ref) → Keeps d e → AreCellsMade (IsLive d) cells → AreOffersMade (IsLive e) cell.values → more ≡ cells ++ cell ∷ [] → AreCellsMade (IsLive e) more
more_made d e cells more cell k made is pushed =
    subst (AreCellsMade (IsLive e)) (sym pushed) (by cells (cells_kept IsLive table (λ (s : Diagram). s.vars) d e cells (kept_conditions d e k) made))
  where
    by : (cs : List (Cell Ref)) → AreCellsMade (IsLive e) cs → AreCellsMade (IsLive e) (cs ++ cell ∷ [])
    by [] m = (is, tt)
    by (c ∷ cs) m = (m.0, by cs m.1)

pub coded_more : (p : Problem) (d e : Diagram) (next : Bool) (own behind places : List ℕ) (elements others : List Element) (x' : Element) (old mid new : List (Cell Ref)) (cell : Cell Ref) → elements ≡ x' ∷ others → mid ≡ old ++ cell ∷ [] → Keeps d e → AreOffersMade (IsLive d) cell.values
    → places ≡ own ++ behind → length own ≡ bits_of_family p.families p.lists p.types x'.family → OfCases p (λ c. (x : AbsElement) → Has c.elements x → x' ≡ written_element x → (order : List ℕ) (bit : ℕ) → ArePlaces order bit own → IsCoded c order d next bit x cell)
    → ((rest : List (Cell Ref)) × (new ≡ mid ++ rest) × OfCases p (λ c. (xs : List AbsElement) → AreAmong c.elements xs → others ≡ map written_element xs → (order : List ℕ) (bit : ℕ) → ArePlaces order bit behind → AreCoded c order e next bit xs rest))
    → ((more : List (Cell Ref)) × (new ≡ old ++ more) × OfCases p (λ c. (xs : List AbsElement) → AreAmong c.elements xs → elements ≡ map written_element xs → (order : List ℕ) (bit : ℕ) → ArePlaces order bit places → AreCoded c order e next bit xs more))
coded_more p d e next own behind places elements others x' old mid new cell is pushed k made parts wide one more =
    (cell ∷ more.0, more.1 ∙ ap (λ (cs : List (Cell Ref)). cs ++ more.0) pushed ∙ append_assoc old (cell ∷ []) more.0, λ c same well xs among e_xs order bit placed. by c same well xs among (sym is ∙ e_xs) order bit (places_apart order bit own behind (subst (ArePlaces order bit) parts placed)))
  where
    head_is : {u v : Element} {us vs : List Element} → u ∷ us ≡ v ∷ vs → u ≡ v
    head_is e = cc

    tail_is : {u v : Element} {us vs : List Element} → u ∷ us ≡ v ∷ vs → us ≡ vs
    tail_is e = cc

    by : (c : PosedCase) → p ≡ written c → IsWellFormed c → (xs : List AbsElement) → AreAmong c.elements xs → x' ∷ others ≡ map written_element xs → (order : List ℕ) (bit : ℕ) → ArePlaces order bit own × ArePlaces order (bit + length own) behind → AreCoded c order e next bit xs (cell ∷ more.0)
    by c same well [] among f order bit placed = absurd (cc)
    by c same well (x ∷ xs) among f order bit placed =
        let same_width : length own ≡ bits_of c.problem.world x = wide ∙ ap (λ (y : Element). bits_of_family p.families p.lists p.types y.family) (head_is f) ∙ width_is p c same x in (
          coded_kept c order d e next bit x cell k made (one c same well x (among x first) (head_is f) order bit placed.0),
          subst (λ (n : ℕ). AreCoded c order e next (bit + n) xs more.0) same_width (more.2 c same well xs (λ y h. among y (later h)) (tail_is f) order (bit + length own) placed.1),
        )

-- ---- all cells of a problem

Has_written : (xs : List AbsElement) (x' : Element) → Has (map written_element xs) x' → (x : AbsElement) × Has xs x × (x' ≡ written_element x)
Has_written [] x' h = elim h [ ]
Has_written (x ∷ xs) _ first = (x, first, refl)
Has_written (x ∷ xs) x' (later h) = let r = Has_written xs x' h in (r.0, later r.1, r.2)

pub all_have : (p : Problem) → IsProblem p → (elements : List Element) → elements ≡ p.elements → HaveValues p elements
unfolding written
all_have p (c, is, well) elements e x' h =
    let r = Has_written c.elements x' (subst (λ (xs : List Element). Has xs x') (e ∙ ap (λ (q : Problem). q.elements) is) h) in
    let x : AbsElement = r.0 in
    let f = well.is_case.have_values x r.1 in
    let many : count_for p.lists p.types (slice_get p.families x'.family) ≡ length (places_in c.problem.world f.0.value) =
    count_is p c is x'.family ∙ ap (λ (y : Element). length (values_in c.problem.world (slice_get c.problem.world.classes.families y.family))) r.2 ∙ ap (λ (o : Option Family). length (values_in c.problem.world o)) f.1 in
    let some = f.2 in
    omega (arith, many, some)

pub all_room : (p : Problem) (elements : List Element) (n : ℕ) → elements ≡ p.elements → bits_in p ≤ n → bits_of_elements p.families p.lists p.types elements ≤ n
all_room p elements n e room = subst (λ (xs : List Element). bits_of_elements p.families p.lists p.types xs ≤ n) (sym e) room

-- as many places as a case has bits are enough
pub bits_room : (p : Problem) (n : ℕ) → IsProblem p → OfCases p (λ c. n ≡ state_bits c) → bits_in p ≤ n
bits_room p n (c, is, well) all = let bits = bits-of-cases p c is in let count = all c is well in omega (arith, bits, count)

module _ (p : Problem) (d : Diagram) (next : Bool) (places : List ℕ) (elements : List Element) (old new : List (Cell Ref)) (e : elements ≡ p.elements) (none : old ≡ [])
    (coded : (more : List (Cell Ref)) × (new ≡ old ++ more) × OfCases p (λ c. (xs : List AbsElement) → AreAmong c.elements xs → elements ≡ map written_element xs → (order : List ℕ) (bit : ℕ) → ArePlaces order bit places → AreCoded c order d next bit xs more)) where
  pub all_coded : OfCases p (λ c. (order : List ℕ) → ArePlaces order 0 places → AreCoded c order d next 0 c.elements new)
  unfolding written
  all_coded c is well order placed =
      subst (λ (cells : List (Cell Ref)). AreCoded c order d next 0 c.elements cells) (sym (coded.1 ∙ ap (λ (cs : List (Cell Ref)). cs ++ coded.0) none))
      (coded.2 c is well c.elements (λ x h. h) (e ∙ ap (λ (q : Problem). q.elements) is) order 0 placed)

  pub all_seen : OfCases p (λ c. (order : List ℕ) → ArePlaces order 0 places → IsSeen table d p new (view_at c (arranged order) next))
  all_seen c is well order placed = coded_seen c order d next p new well (problem_world p c is well) (all_coded c is well order placed)

-- they stay so where the store grows
pub coded_on : (c : PosedCase) (order : List ℕ) (d e : Diagram) (next : Bool) (bit : ℕ) (xs : List AbsElement) (cells : List (Cell Ref)) → Keeps d e → AreCellsMade (IsLive d) cells → AreCoded c order d next bit xs cells → AreCoded c order e next bit xs cells
coded_on c order d e next bit [] [] k made are = tt
coded_on c order d e next bit [] (y ∷ cells) k made are = absurd are
coded_on c order d e next bit (x ∷ xs) [] k made are = absurd are
coded_on c order d e next bit (x ∷ xs) (y ∷ cells) k made are = (coded_kept c order d e next bit x y k made.0 are.0, coded_on c order d e next (bit + bits_of c.problem.world x) xs cells k made.1 are.1)

pub both_coded : (p : Problem) (d e : Diagram) (current next : List (Cell Ref)) → Keeps d e → AreCellsMade (IsLive d) current → (places : List ℕ) → OfCases p (λ c. (order : List ℕ) → ArePlaces order 0 places → AreCoded c order d false 0 c.elements current)
    → OfCases p (λ c. (order : List ℕ) → ArePlaces order 0 places → AreCoded c order e true 0 c.elements next) → (cells : Cells) → cells.current.items ≡ current → cells.next.items ≡ next → OfCases p (λ c. (order : List ℕ) → ArePlaces order 0 places → AreCodedCells c order e cells)
both_coded p d e current next k live places coded_current coded_next cells ec en c is well order placed = record {
  current = subst (λ (cs : List (Cell Ref)). AreCoded c order e false 0 c.elements cs) (sym ec) (coded_on c order d e false 0 c.elements current k live (coded_current c is well order placed));
  next = subst (λ (cs : List (Cell Ref)). AreCoded c order e true 0 c.elements cs) (sym en) (coded_next c is well order placed);
}
