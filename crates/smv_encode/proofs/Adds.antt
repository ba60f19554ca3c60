-- Functions put behind a list, one after the other.
use Rattle.std.proofs.Common.{◌≡◌, ℕ, suc, ◌+◌, List, [], ◌∷◌, ◌++◌, map, length, get_or, Bool, true, false, ◌&&◌, not, if◌then◌else◌, refl, sym, ap, subst, ◌∙◌, append_assoc, inl, inr, arith, zero, take, ◌<◌, ◌≤◌}
use Rattle.std.specs.List.{filter, flat_map, list_any, list_all}
use Rattle.std.proofs.lemmas.Bool.{cases_lt}
use Rattle.std.proofs.lemmas.List.{append-nil, length-append, get_or_append_left, map-append}
use Rattle.std.proofs.Math.Seq.{get_or-append_seam}
use Rattle.law_lists.proofs.Places.{take_past}
use Rattle.law_lists.proofs.Lists.{length_map}
use Rattle.smv_core.specs.declared.flat.Element.{Element}
use Rattle.law_obligations.specs.Sets.{Has, first, later}
use Rattle.law_obligations.specs.Obligations.{Demanded}
use Rattle.law_obligations.specs.Cones.{AbsElement}
use Rattle.law_obligations.specs.Readings.{PosedCase, Slot, bits_of, is_value, slots_from}
use Rattle.bdd_codes.specs.Codes.{bits_at}
use Rattle.law_arrangements.specs.Arrangements.{Arrangement, spread}
use Rattle.law_reports.specs.CaseLists.{is_claim, is_by_next, defines, those_of}
use Rattle.bdd_store.specs.declared.Ref.{Ref}
use Rattle.bdd_store.specs.Diagram.{Diagram, IsLive, AreLive, Keeps, table, ref_at}
use Rattle.bdd_store.proofs.Keeping.{functions_kept}
use Rattle.bdd_ops.specs.Functions.{Function}
use Rattle.smv_problem.specs.declared.problem.Demand.{Demand}
use Rattle.smv_problem.specs.Written.{written_element, written_demand}
use Rattle.smv_problem.specs.WellFormed.{IsWellFormed}
use Rattle.smv_encode.specs.Encoded.{met_at}
use Rattle.smv_encode.specs.ChosenDemands.{is_held, is_of}
use Rattle.smv_encode.specs.Parts.{AreDemands, AreElements, AddsFunctions, element_at, is_turn}
use Rattle.smv_encode.specs.declared.elements.Turn.{Turn}
use Rattle.smv_encode.specs.declared.elements.Turn.TheVariants as turn
use Rattle.smv_encode.proofs.Choices.{defines_written, held_written}

-- ---- lists of functions

pub adds_none : (d : Diagram) (rs : List Ref) → AddsFunctions d d rs rs []
adds_none d rs = sym (append-nil (map (table d) rs))

pub adds_one : (d e : Diagram) (rs more : List Ref) (r : Ref) (f : Function) → Keeps d e → AreLive d rs → more ≡ rs ++ r ∷ [] → table e r ≡ f → AddsFunctions d e rs more (f ∷ [])
adds_one d e rs more r f k live pushed is =
    ap (λ (xs : List Ref). map (table e) xs) pushed
    ∙ map-append (table e) rs (r ∷ [])
    ∙ ap (λ (fs : List Function). fs ++ table e r ∷ []) (functions_kept d e rs k live)
    ∙ ap (λ (g : Function). map (table d) rs ++ g ∷ []) is

pub adds_then : (d e f : Diagram) (rs ss ts : List Ref) (fs gs : List Function) → AddsFunctions d e rs ss fs → AddsFunctions e f ss ts gs → AddsFunctions d f rs ts (fs ++ gs)
adds_then d e f rs ss ts fs gs one two = two ∙ ap (λ (xs : List Function). xs ++ gs) one ∙ append_assoc (map (table d) rs) fs gs

-- what stays live, and one more that is
pub live_pushed : (d e : Diagram) (rs more : List Ref) (r : Ref) → Keeps d e → AreLive d rs → more ≡ rs ++ r ∷ [] → IsLive e r → AreLive e more
live_pushed d e rs more r k live pushed is i lt =
    let none : Ref = record { place = 0 } in
    let long : length more ≡ length rs + 1 = ap (λ (xs : List Ref). length xs) pushed ∙ length-append rs (r ∷ []) in
    elim (cases_lt i (length rs)) [
      | inl early ↦ subst (IsLive e) (sym (get_or_append_left rs (r ∷ []) none i early) ∙ sym (ap (λ (xs : List Ref). get_or xs i none) pushed)) (k.live (ref_at rs i) (live i early))
      | inr late ↦
          let at : i ≡ length rs = omega (arith, long, late) in
          subst (λ (j : ℕ). IsLive e (ref_at more j)) (sym at) (subst (IsLive e) (sym (get_or-append_seam rs r [] none) ∙ sym (ap (λ (xs : List Ref). get_or xs (length rs) none) pushed)) is)
    ]

-- ---- one demand after the other

-- the demand at a place
record IsNext (c : PosedCase) (ds : List Demanded) (i : ℕ) (demand : Demand) : Type 0 where
  x : Demanded
  taken : take (i + 1) ds ≡ take i ds ++ x ∷ []
  one : AreDemands c (x ∷ []) (demand ∷ [])

next_demand : (c : PosedCase) (ds : List Demanded) (demands : List Demand) (i : ℕ) (demand : Demand) → i < length demands → demand ≡ get_or demands i demand → AreDemands c ds demands → IsNext c ds i demand
next_demand c [] [] i demand lt at h = absurd (omega arith)
next_demand c [] (g ∷ gs) i demand lt at h = absurd (let f = h.written in cc)
next_demand c (d ∷ ds) [] i demand lt at h = absurd (omega arith)
next_demand c (d ∷ ds) (g ∷ gs) zero demand lt at h =
    record { x = d; taken = refl; one = record { written = ap (λ (y : Demand). y ∷ []) (at ∙ heads h.written); fit = λ y m. h.fit y (only m); kept = λ y m. h.kept y (only m) } }
  where
    heads : {x y : Demand} {xs ys : List Demand} → x ∷ xs ≡ y ∷ ys → x ≡ y
    heads e = cc

    only : {y : Demanded} → Has (d ∷ []) y → Has (d ∷ ds) y
    only first = first
    only (later m) = elim m [ ]
next_demand c (d ∷ ds) (g ∷ gs) (suc i) demand lt at h =
    let more : AreDemands c ds gs = record { written = tails h.written; fit = λ y m. h.fit y (later m); kept = λ y m. h.kept y (later m) } in
    let r = next_demand c ds gs i demand (omega arith) at more in
    let one : suc i + 1 ≡ suc (i + 1) = omega arith in
    record { x = r.x; taken = ap (λ (k : ℕ). take k (d ∷ ds)) one ∙ ap (λ (xs : List Demanded). d ∷ xs) r.taken; one = r.one }
  where
    tails : {x y : Demand} {xs ys : List Demand} → x ∷ xs ≡ y ∷ ys → xs ≡ ys
    tails e = cc

all_taken : (c : PosedCase) (ds : List Demanded) (demands : List Demand) (i : ℕ) → length demands ≤ i → AreDemands c ds demands → take i ds ≡ ds
all_taken c ds demands i le h =
    let long : length demands ≡ length ds = ap (λ (gs : List Demand). length gs) h.written ∙ length_map (written_demand c.problem.world.classes) ds in
    take_past ds i (omega (arith, long, le))

module _ (c : PosedCase) (d e f : Diagram) (ds : List Demanded) (demands : List Demand) (i : ℕ) (rs ss ts : List Ref) (g : List Demanded → List Function) where
  pub demand_adds : (h : Demanded → List Function) → ((xs : List Demanded) (x : Demanded) → g (xs ++ x ∷ []) ≡ g xs ++ h x) → (demand : Demand) → i < length demands → demand ≡ get_or demands i demand → AreDemands c ds demands
      → AddsFunctions d e rs ss (g (take i ds)) → ((x : Demanded) → AreDemands c (x ∷ []) (demand ∷ []) → AddsFunctions e f ss ts (h x)) → AddsFunctions d f rs ts (g (take (i + 1) ds))
  demand_adds h snoc demand lt at are before one =
      let r = next_demand c ds demands i demand lt at are in
      subst (AddsFunctions d f rs ts) (sym (ap g r.taken ∙ snoc (take i ds) r.x)) (adds_then d e f rs ss ts (g (take i ds)) (h r.x) before (one r.x r.one))

  pub all_added : length demands ≤ i → AreDemands c ds demands → AddsFunctions d e rs ss (g (take i ds)) → AddsFunctions d e rs ss (g ds)
  all_added le are before = subst (λ (xs : List Demanded). AddsFunctions d e rs ss (g xs)) (all_taken c ds demands i le are) before

pub map_snoc : (m : Demanded → Function) (xs : List Demanded) (x : Demanded) → map m (xs ++ x ∷ []) ≡ map m xs ++ m x ∷ []
map_snoc m xs x = map-append m xs (x ∷ [])

pub filter_snoc : (m : Demanded → Function) (p : Demanded → Bool) (xs : List Demanded) (x : Demanded) → map m (filter p (xs ++ x ∷ [])) ≡ map m (filter p xs) ++ (if p x then m x ∷ [] else [])
filter_snoc m p [] x = by (p x)
  where
    by : (b : Bool) → map m (if b then x ∷ [] else []) ≡ (if b then m x ∷ [] else [])
    by true = refl
    by false = refl
filter_snoc m p (y ∷ xs) x = by (p y) (filter_snoc m p xs x)
  where
    by : (b : Bool) → map m (filter p (xs ++ x ∷ [])) ≡ map m (filter p xs) ++ (if p x then m x ∷ [] else []) → map m (if b then y ∷ filter p (xs ++ x ∷ []) else filter p (xs ++ x ∷ [])) ≡ map m (if b then y ∷ filter p xs else filter p xs) ++ (if p x then m x ∷ [] else [])
    by true e = ap (λ (fs : List Function). m y ∷ fs) e
    by false e = e

-- what is taken by a test that is told
pub told_adds : (c : PosedCase) (e f : Diagram) (ss ts : List Ref) (demand : Demand) (m : Demanded → Function) (p : Demanded → Bool) (b : Bool) → ((x : Demanded) → AreDemands c (x ∷ []) (demand ∷ []) → b ≡ p x)
    → ((x : Demanded) → AreDemands c (x ∷ []) (demand ∷ []) → AddsFunctions e f ss ts (if b then m x ∷ [] else [])) → (x : Demanded) → AreDemands c (x ∷ []) (demand ∷ []) → AddsFunctions e f ss ts (if p x then m x ∷ [] else [])
told_adds c e f ss ts demand m p b tells adds x h = subst (λ (t : Bool). AddsFunctions e f ss ts (if t then m x ∷ [] else [])) (tells x h) (adds x h)

-- ---- where all demands of an element are met

all_snoc : (m p : Demanded → Bool) (xs : List Demanded) (x : Demanded) → list_all m (filter p (xs ++ x ∷ [])) ≡ (list_all m (filter p xs) && (if p x then m x else true))
all_snoc m p [] x = by (p x)
  where
    one : (y : Bool) → (y && true) ≡ y
    one true = refl
    one false = refl

    by : (b : Bool) → list_all m (if b then x ∷ [] else []) ≡ (if b then m x else true)
    by true = one (m x)
    by false = refl
all_snoc m p (y ∷ xs) x = by (p y) (all_snoc m p xs x)
  where
    both : (u v w : Bool) → (u && (v && w)) ≡ ((u && v) && w)
    both true v w = refl
    both false v w = refl

    by : (b : Bool) → list_all m (filter p (xs ++ x ∷ [])) ≡ (list_all m (filter p xs) && (if p x then m x else true)) → list_all m (if b then y ∷ filter p (xs ++ x ∷ []) else filter p (xs ++ x ∷ [])) ≡ (list_all m (if b then y ∷ filter p xs else filter p xs) && (if p x then m x else true))
    by true e = ap (λ (t : Bool). m y && t) e ∙ both (m y) (list_all m (filter p xs)) (if p x then m x else true)
    by false e = e

pub own_next : (c : PosedCase) (ds : List Demanded) (demands : List Demand) (i : ℕ) (x : AbsElement) (m : Demanded → Bool) (demand : Demand) (b u z : Bool) → i < length demands → demand ≡ get_or demands i demand → AreDemands c ds demands → ((y : Demanded) → AreDemands c (y ∷ []) (demand ∷ []) → b ≡ defines x y)
    → u ≡ list_all m (those_of (take i ds) x) → ((y : Demanded) → AreDemands c (y ∷ []) (demand ∷ []) → z ≡ (u && (if b then m y else true))) → z ≡ list_all m (those_of (take (i + 1) ds) x)
own_next c ds demands i x m demand b u z lt at are tells before one =
    let r = next_demand c ds demands i demand lt at are in
    one r.x r.one
    ∙ ap (λ (t : Bool). t && (if b then m r.x else true)) before
    ∙ ap (λ (t : Bool). list_all m (those_of (take i ds) x) && (if t then m r.x else true)) (tells r.x r.one)
    ∙ sym (all_snoc m (defines x) (take i ds) r.x)
    ∙ sym (ap (λ (ys : List Demanded). list_all m (those_of ys x)) r.taken)

pub own_end : (c : PosedCase) (ds : List Demanded) (demands : List Demand) (i : ℕ) (x : AbsElement) (m : Demanded → Bool) (u : Bool) → length demands ≤ i → AreDemands c ds demands → u ≡ list_all m (those_of (take i ds) x) → u ≡ list_all m (those_of ds x)
own_end c ds demands i x m u le are before = before ∙ ap (λ (ys : List Demanded). list_all m (those_of ys x)) (all_taken c ds demands i le are)

pub too_taken : (b o u z w : Bool) → b ≡ true → z ≡ (o && w) → w ≡ u → z ≡ (o && (if b then u else true))
too_taken b o u z w on is same = is ∙ ap (λ (t : Bool). o && t) same ∙ sym (ap (λ (t : Bool). o && (if t then u else true)) on)

-- what a call tells of an element and a demand
pub own_tells : (c : PosedCase) → IsWellFormed c → (x : AbsElement) (x' : Element) → AreElements c (x ∷ []) (x' ∷ []) → (demand : Demand) (b : Bool) → b ≡ is_of x' demand → (y : Demanded) → AreDemands c (y ∷ []) (demand ∷ []) → b ≡ defines x y
own_tells c well x x' h demand b is y k =
    is
    ∙ ap (λ (z : Element). is_of z demand) (one_element h.written)
    ∙ ap (λ (g : Demand). is_of (written_element x) g) (one_demand k.written)
    ∙ defines_written c well x y (h.among x first) (k.kept y first)
  where
    one_element : {u v : Element} → u ∷ [] ≡ v ∷ [] → u ≡ v
    one_element e = cc

    one_demand : {u v : Demand} → u ∷ [] ≡ v ∷ [] → u ≡ v
    one_demand e = cc

pub claim_tells : (c : PosedCase) (demand : Demand) (b : Bool) → b ≡ is_held demand → (y : Demanded) → AreDemands c (y ∷ []) (demand ∷ []) → b ≡ is_claim y
claim_tells c demand b is y k = is ∙ ap is_held (one_demand k.written) ∙ held_written c.problem.world.classes y
  where
    one_demand : {u v : Demand} → u ∷ [] ≡ v ∷ [] → u ≡ v
    one_demand e = cc

-- ---- the first element and the others

record AreMoreElements (c : PosedCase) (xs : List AbsElement) (x' : Element) (others : List Element) : Type 0 where
  x : AbsElement
  rest : List AbsElement
  are : xs ≡ x ∷ rest
  one : AreElements c (x ∷ []) (x' ∷ [])
  more : AreElements c rest others

elements_more : (c : PosedCase) (xs : List AbsElement) (elements : List Element) (x' : Element) (others : List Element) → elements ≡ x' ∷ others → AreElements c xs elements → AreMoreElements c xs x' others
elements_more c [] elements x' others e h = absurd (let f = sym h.written ∙ e in cc)
elements_more c (x ∷ xs) elements x' others e h =
    let f : written_element x ∷ map written_element xs ≡ x' ∷ others = sym h.written ∙ e in
    record {
      x = x;
      rest = xs;
      are = refl;
      one = record { written = ap (λ (y : Element). y ∷ []) (heads f); among = λ y m. h.among y (only m) };
      more = record { written = tails f; among = λ y m. h.among y (later m) };
    }
  where
    heads : {x y : Element} {xs ys : List Element} → x ∷ xs ≡ y ∷ ys → y ≡ x
    heads e = cc

    tails : {x y : Element} {xs ys : List Element} → x ∷ xs ≡ y ∷ ys → ys ≡ xs
    tails e = cc

    only : {y : AbsElement} → Has (x ∷ []) y → Has (x ∷ xs) y
    only first = first
    only (later m) = elim m [ ]

no_elements : (c : PosedCase) (xs : List AbsElement) (elements : List Element) → elements ≡ [] → AreElements c xs elements → xs ≡ []
no_elements c [] elements e h = refl
no_elements c (x ∷ xs) elements e h = absurd (let f = sym h.written ∙ e in cc)

module _ (c : PosedCase) (d e f : Diagram) (xs : List AbsElement) (elements : List Element) (rs ss ts : List Ref) (t : Slot → Bool) where
  pub no_element : elements ≡ [] → AreElements c xs elements → (bit : ℕ) (g : List Slot → List Function) → g [] ≡ [] → AddsFunctions d d rs rs (g (filter t (slots_from c.problem.world bit xs)))
  no_element none h bit g empty = subst (AddsFunctions d d rs rs) (sym (ap (λ (ys : List AbsElement). g (filter t (slots_from c.problem.world bit ys))) (no_elements c xs elements none h) ∙ empty)) (adds_none d rs)

  module _ (x' : Element) (others : List Element) (is : elements ≡ x' ∷ others) (h : AreElements c xs elements) (bit : ℕ) (b : Bool) (tells : (x : AbsElement) → AreElements c (x ∷ []) (x' ∷ []) → b ≡ t (record { element = x; bit = bit })) where
    pub some_element : (m : Slot → Function) → ((x : AbsElement) → AreElements c (x ∷ []) (x' ∷ []) → AddsFunctions d e rs ss (if b then m (record { element = x; bit = bit }) ∷ [] else []))
        → (width : ℕ) → ((x : AbsElement) → AreElements c (x ∷ []) (x' ∷ []) → width ≡ bits_of c.problem.world x) → ((ys : List AbsElement) → AreElements c ys others → AddsFunctions e f ss ts (map m (filter t (slots_from c.problem.world (bit + width) ys))))
        → AddsFunctions d f rs ts (map m (filter t (slots_from c.problem.world bit xs)))
    some_element m one width wide more =
        let r = elements_more c xs elements x' others is h in
        let slot : Slot = record { element = r.x; bit = bit } in
        subst (λ (ys : List AbsElement). AddsFunctions d f rs ts (map m (filter t (slots_from c.problem.world bit ys)))) (sym r.are)
        (subst (AddsFunctions d f rs ts) (sym (taken_first slot (slots_from c.problem.world (bit + bits_of c.problem.world r.x) r.rest) (tells r.x r.one)))
        (adds_then d e f rs ss ts (if b then m slot ∷ [] else []) (map m (filter t (slots_from c.problem.world (bit + bits_of c.problem.world r.x) r.rest))) (one r.x r.one)
        (subst (λ (n : ℕ). AddsFunctions e f ss ts (map m (filter t (slots_from c.problem.world (bit + n) r.rest)))) (wide r.x r.one) (more r.rest r.more))))
      where
        taken_first : (slot : Slot) (slots : List Slot) → b ≡ t slot → map m (filter t (slot ∷ slots)) ≡ (if b then m slot ∷ [] else []) ++ map m (filter t slots)
        taken_first slot slots e = by (t slot) refl ∙ ap (λ (u : Bool). (if u then m slot ∷ [] else []) ++ map m (filter t slots)) (sym e)
          where
            by : (u : Bool) → t slot ≡ u → map m (if u then slot ∷ filter t slots else filter t slots) ≡ (if u then m slot ∷ [] else []) ++ map m (filter t slots)
            by true g = refl
            by false g = refl

    pub some_before : (m : Demanded → Function) (own : AbsElement → List Demanded) → ((x : AbsElement) → AreElements c (x ∷ []) (x' ∷ []) → AddsFunctions d e rs ss (map m (if b then own x else [])))
        → ((ys : List AbsElement) → AreElements c ys others → (bit : ℕ) → AddsFunctions e f ss ts (map m (flat_map (λ (slot : Slot). own slot.element) (filter t (slots_from c.problem.world bit ys)))))
        → AddsFunctions d f rs ts (map m (flat_map (λ (slot : Slot). own slot.element) (filter t (slots_from c.problem.world bit xs))))
    some_before m own one more =
        let r = elements_more c xs elements x' others is h in
        let slot : Slot = record { element = r.x; bit = bit } in
        subst (λ (ys : List AbsElement). AddsFunctions d f rs ts (map m (flat_map (λ (slot : Slot). own slot.element) (filter t (slots_from c.problem.world bit ys))))) (sym r.are)
        (subst (AddsFunctions d f rs ts) (sym (taken_first slot (slots_from c.problem.world (bit + bits_of c.problem.world r.x) r.rest) (tells r.x r.one)))
        (adds_then d e f rs ss ts (map m (if b then own r.x else [])) (map m (flat_map (λ (slot : Slot). own slot.element) (filter t (slots_from c.problem.world (bit + bits_of c.problem.world r.x) r.rest)))) (one r.x r.one)
        (more r.rest r.more (bit + bits_of c.problem.world r.x))))
      where
        taken_first : (slot : Slot) (slots : List Slot) → b ≡ t slot →
            map m (flat_map (λ (s : Slot). own s.element) (filter t (slot ∷ slots))) ≡ map m (if b then own slot.element else []) ++ map m (flat_map (λ (s : Slot). own s.element) (filter t slots))
        taken_first slot slots e = by (t slot) refl ∙ ap (λ (u : Bool). map m (if u then own slot.element else []) ++ map m (flat_map (λ (s : Slot). own s.element) (filter t slots))) (sym e)
          where
            by : (u : Bool) → t slot ≡ u → map m (flat_map (λ (s : Slot). own s.element) (if u then slot ∷ filter t slots else filter t slots)) ≡ map m (if u then own slot.element else []) ++ map m (flat_map (λ (s : Slot). own s.element) (filter t slots))
            by true g = map-append m (own slot.element) (flat_map (λ (s : Slot). own s.element) (filter t slots))
            by false g = refl

-- ---- small steps

pub adds_taken : (d e : Diagram) (rs ss : List Ref) (fs : List Function) (b : Bool) → b ≡ true → AddsFunctions d e rs ss fs → AddsFunctions d e rs ss (if b then fs else [])
adds_taken d e rs ss fs b is_on h = subst (λ (t : Bool). AddsFunctions d e rs ss (if t then fs else [])) (sym is_on) h

pub adds_skipped : (d : Diagram) (rs : List Ref) (fs : List Function) (b : Bool) → b ≡ false → AddsFunctions d d rs rs (if b then fs else [])
adds_skipped d rs fs b is_off = subst (λ (t : Bool). AddsFunctions d d rs rs (if t then fs else [])) (sym is_off) (adds_none d rs)

pub before_taken : (d e : Diagram) (rs ss : List Ref) (m : Demanded → Function) (ds : List Demanded) (b : Bool) → b ≡ true → AddsFunctions d e rs ss (map m ds) → AddsFunctions d e rs ss (map m (if b then ds else []))
before_taken d e rs ss m ds b is_on h = subst (λ (t : Bool). AddsFunctions d e rs ss (map m (if t then ds else []))) (sym is_on) h

pub before_skipped : (d : Diagram) (rs : List Ref) (m : Demanded → Function) (ds : List Demanded) (b : Bool) → b ≡ false → AddsFunctions d d rs rs (map m (if b then ds else []))
before_skipped d rs m ds b is_off = subst (λ (t : Bool). AddsFunctions d d rs rs (map m (if t then ds else []))) (sym is_off) (adds_none d rs)

pub one_demand : (c : PosedCase) (x : Demanded) (demand : Demand) → AreDemands c (x ∷ []) (demand ∷ []) → demand ≡ written_demand c.problem.world.classes x
one_demand c x demand h = inner h.written
  where
    inner : {u v : Demand} → u ∷ [] ≡ v ∷ [] → u ≡ v
    inner e = cc

pub one_element : (c : PosedCase) (x : AbsElement) (x' : Element) → AreElements c (x ∷ []) (x' ∷ []) → x' ≡ written_element x
one_element c x x' h = inner h.written
  where
    inner : {u v : Element} → u ∷ [] ≡ v ∷ [] → u ≡ v
    inner e = cc

pub demands_shown : (c : PosedCase) (ds : List Demanded) (demands shown : List Demand) → shown ≡ demands → AreDemands c ds demands → AreDemands c ds shown
demands_shown c ds demands shown e h = subst (AreDemands c ds) (sym e) h

-- ---- the function of an element

pub element_is : (c : PosedCase) (o : Arrangement) (step : Bool) (slot : Slot) (f v m : Function) → ((a : ℕ → Bool) → f a ≡ (v a && m a)) → ((a : ℕ → Bool) → v a ≡ is_value c.problem.world (spread o.order (bits_at step a)) slot)
    → ((a : ℕ → Bool) → m a ≡ list_all (λ d. met_at c o step d a) (those_of c.problem.now slot.element)) → f ≡ element_at c o step slot
element_is c o false slot f v m is ev em = λ i a. (is a ∙ ap (λ (b : Bool). b && m a) (ev a) ∙ ap (λ (b : Bool). is_value c.problem.world (spread o.order (bits_at false a)) slot && b) (em a)) i
element_is c o true slot f v m is ev em = λ i a. (is a ∙ ap (λ (b : Bool). b && m a) (ev a) ∙ ap (λ (b : Bool). is_value c.problem.world (spread o.order (bits_at true a)) slot && b) (em a)) i

-- ---- turns

pub turn_all : (ds : List Demanded) (t : Turn) (slot : Slot) → t ≡ turn.All → true ≡ is_turn ds t slot
turn_all ds t slot e = sym (ap (λ (u : Turn). is_turn ds u slot) e)

pub turn_moving : (ds : List Demanded) (t : Turn) (slot : Slot) (b : Bool) → t ≡ turn.Moving → b ≡ list_any is_by_next (those_of ds slot.element) → b ≡ is_turn ds t slot
turn_moving ds t slot b e is = is ∙ sym (ap (λ (u : Turn). is_turn ds u slot) e)

pub turn_others : (ds : List Demanded) (t : Turn) (slot : Slot) (b : Bool) → t ≡ turn.Others → b ≡ list_any is_by_next (those_of ds slot.element) → not b ≡ is_turn ds t slot
turn_others ds t slot b e is = ap (λ (u : Bool). not u) is ∙ sym (ap (λ (u : Turn). is_turn ds u slot) e)
