-- Demands that are ready are of the state now alone and read none of the elements that have no cell.
use Rattle.std.proofs.Common.{◌≡◌, ℕ, ◌+◌, ◌<◌, ◌≤◌, List, [], ◌∷◌, map, length, get_or, drop, Bool, true, false, not, ◌&&◌, ◌||◌, if◌then◌else◌, refl, sym, ap, subst, ◌∙◌}
use Rattle.std.proofs.lemmas.List.{drop_more, drop_all}
use Rattle.std.specs.List.{list_all}
use Rattle.law_lists.proofs.Booleans.{clash, left_of, right_of}
use Rattle.smv_core.specs.declared.flat.Class.{Class}
use Rattle.smv_core.specs.declared.flat.DefBody.{DefBody}
use Rattle.smv_core.specs.declared.flat.Element.{Element}
use Rattle.law_obligations.specs.Sets.{Has}
use Rattle.law_obligations.specs.Places.{Place}
use Rattle.law_obligations.specs.Demands.{concerns_place}
use Rattle.law_obligations.specs.Obligations.{Demanded, defined, holds}
use Rattle.law_obligations.specs.Cones.{AbsElement, element}
use Rattle.law_obligations.specs.Readings.{PosedCase}
use Rattle.law_obligations.proofs.ConeFacts.{same_element-indexes}
use Rattle.law_obligations.proofs.Lookups.{Has-from_filter}
use Rattle.law_obligations.proofs.Members.{Has-map, all-each}
use Rattle.law_reports.specs.CaseLists.{defines, those_of}
use Rattle.law_reads.specs.Reading.{read_of, read_now, is_at_once}
use Rattle.law_wires.specs.Idle.{AreOthers}
use Rattle.law_wires.specs.Tries.{ReadsDone}
use Rattle.smv_elements.specs.Elements as listed
use Rattle.smv_problem.specs.declared.problem.Demand.{Demand}
use Rattle.smv_problem.specs.declared.problem.Demand.TheVariants.{Defined}
use Rattle.smv_problem.specs.declared.problem.Problem.{Problem}
use Rattle.smv_problem.specs.Written.{written, written_class, written_element, written_demand}
use Rattle.smv_problem.specs.WellFormed.{IsWellFormed}
use Rattle.smv_may_read.specs.Mentions.{mentions_inside}
use Rattle.smv_may_read.specs.Laws.{OthersAreReadFor}
use Rattle.smv_encode.proofs.Choices.{defines_written}
use Rattle.smv_encode.proofs.Whole.{now_are}
use Rattle.smv_wires.specs.Ready.{is_ready_by, is_ready_for}

-- what two calls say of a definition
pub ready_then : (tried : List Element) (x : Element) (ps : List Place) (comb : DefBody) (concerned reads : Bool) (own : List Class) → own ≡ x.indexes → concerned ≡ concerns_place comb ps → concerned ≡ true → reads ≡ mentions_inside tried own false comb → not reads ≡ is_ready_by tried x ps comb
ready_then tried x ps comb concerned reads own same is on of =
    ap not (of ∙ ap (λ (o : List Class). mentions_inside tried o false comb) same) ∙ sym (ap (λ (b : Bool). b && not (mentions_inside tried x.indexes false comb)) (sym is ∙ on))

pub ready_else : (tried : List Element) (x : Element) (ps : List Place) (comb : DefBody) (concerned : Bool) → concerned ≡ concerns_place comb ps → concerned ≡ false → concerned ≡ is_ready_by tried x ps comb
ready_else tried x ps comb concerned is off = off ∙ sym (ap (λ (b : Bool). b && not (mentions_inside tried x.indexes false comb)) (sym is ∙ off))

-- and of a demand
pub ready_defined : (tried : List Element) (x own : Element) (ps : List Place) (init next comb : DefBody) (demand : Demand) (same by : Bool) → demand ≡ Defined own init next comb → same ≡ listed.same_element x own → same ≡ true → by ≡ is_ready_by tried x ps comb → by ≡ is_ready_for tried x ps demand
ready_defined tried x own ps init next comb demand same by is tells on of =
    of ∙ sym (ap (is_ready_for tried x ps) is ∙ ap (λ (b : Bool). not b || is_ready_by tried x ps comb) (sym tells ∙ on))

-- one demand more, and the last
pub all_more : (f : Demand → Bool) (ds : List Demand) (i : ℕ) (d : Demand) → i < length ds → d ≡ get_or ds i d → f d ≡ true → list_all f (drop i ds) ≡ list_all f ds → list_all f (drop (i + 1) ds) ≡ list_all f ds
all_more f ds i d lt at is before = sym (ap (list_all f) (drop_more ds i d lt) ∙ ap (λ (b : Bool). b && list_all f (drop (i + 1) ds)) (ap f (sym at) ∙ is)) ∙ before

pub all_through : (f : Demand → Bool) (ds : List Demand) (i : ℕ) → length ds ≤ i → list_all f (drop i ds) ≡ list_all f ds → true ≡ list_all f ds
all_through f ds i le before = sym (ap (list_all f) (drop_all i ds le)) ∙ before

not_false : (b : Bool) → not b ≡ true → b ≡ false
not_false true e = absurd (cc)
not_false false e = refl

second_of : (a b : Bool) → not a || b ≡ true → a ≡ true → b ≡ true
second_of true b e f = e
second_of false b e f = absurd (cc)

pub one_element : {x y : Element} → x ∷ [] ≡ y ∷ [] → x ≡ y
one_element e = cc

module _ (others : OthersAreReadFor) (p : Problem) (c : PosedCase) (is : p ≡ written c) (well : IsWellFormed c) (x : AbsElement) (left : List AbsElement) (among : Has c.elements x) where
  abbrev tried : List Element
  tried = map written_element (x ∷ left)

  -- of a definition of the element
  ready_by : (demand : Demanded) → Has c.problem.now demand → defines x demand ≡ true → is_ready_for tried (written_element x) x.indexes (written_demand c.problem.world.classes demand) ≡ true →
      (is_at_once demand ≡ true) × AreOthers (x ∷ left) (read_now c.problem.world demand)
  ready_by (holds body b) h own e = absurd (clash own refl)
  ready_by (defined def indexes) h own e =
      let by : is_ready_by tried (written_element x) x.indexes def.comb ≡ true = second_of _ _ e (defines_written c well x (defined def indexes) among ((now_are p c is well).kept (defined def indexes) h) ∙ own) in
      let same : x.indexes ≡ indexes = same_element-indexes x (element def.family indexes) own in
      let once : concerns_place def.comb indexes ≡ true = ap (concerns_place def.comb) (sym same) ∙ left_of (concerns_place def.comb x.indexes) (not (mentions_inside tried (map written_class x.indexes) false def.comb)) by in
      let none : mentions_inside tried (map written_class indexes) false def.comb ≡ false =
      ap (λ (qs : List Place). mentions_inside tried (map written_class qs) false def.comb) (sym same)
      ∙ not_false (mentions_inside tried (map written_class x.indexes) false def.comb) (right_of (concerns_place def.comb x.indexes) (not (mentions_inside tried (map written_class x.indexes) false def.comb)) by) in
      let read : read_now c.problem.world (defined def indexes) ≡ read_of c.problem.world indexes def.comb [] = ap (λ (t : Bool). read_of c.problem.world indexes (if t then def.comb else def.init) []) once in
      (once, λ y k. others c.problem.world (x ∷ left) indexes def.comb none [] y (subst (λ (ys : List AbsElement). Has ys y) read k))

  pub ready_done : (x' : Element) → x' ≡ written_element x → (given : List Element) → given ≡ tried → (places : List Place) → places ≡ x.indexes → list_all (is_ready_for given x' places) p.now ≡ true → ReadsDone c x left
  ready_done x' ex given eg places ep all =
      let each : list_all (is_ready_for tried (written_element x) x.indexes) (map (written_demand c.problem.world.classes) c.problem.now) ≡ true =
      sym (ap (λ (g : List Element). list_all (is_ready_for g x' places) p.now) eg
      ∙ ap (λ (y : Element). list_all (is_ready_for tried y places) p.now) ex
      ∙ ap (λ (qs : List Place). list_all (is_ready_for tried (written_element x) qs) p.now) ep
      ∙ ap (list_all (is_ready_for tried (written_element x) x.indexes)) (now_are p c is well).written)
      ∙ all in
      let of : (demand : Demanded) → Has (those_of c.problem.now x) demand → (is_at_once demand ≡ true) × AreOthers (x ∷ left) (read_now c.problem.world demand) = λ demand h.
      let r = Has-from_filter (defines x) c.problem.now h in
      ready_by demand r.0 r.1 (all-each (is_ready_for tried (written_element x) x.indexes) each (Has-map (written_demand c.problem.world.classes) r.0)) in
      record { are_at_once = λ demand h. (of demand h).0; are_read = λ demand h. (of demand h).1 }
