-- The problem of a case, as it is written.
use Rattle.std.proofs.Common.{◌≡◌, ℕ, ◌≤◌, List, map, take, length, Some, None, Bool, true, false, if◌then◌else◌, nat_lt, refl, sym, ap, ◌∙◌, arith}
use Rattle.std.proofs.lemmas.Bool.Decides.{nat_tests}
use Rattle.smv_core.specs.declared.flat.Timed.{Timed}
use Rattle.smv_core.specs.declared.flat.Timing.TheVariants.{Now, Before}
use Rattle.smv_core.specs.declared.flat.Element.{Element}
use Rattle.smv_core.specs.declared.flat.Family.{Family}
use Rattle.smv_core.specs.declared.abstract_type.AbsType.{AbsType}
use Rattle.law_obligations.specs.Places.{Place, World}
use Rattle.law_obligations.specs.Soundness as sound
use Rattle.law_obligations.specs.Soundness.{said_at}
use Rattle.law_obligations.specs.Outlines.{Entry, Outline, names_of, unit_in}
use Rattle.law_obligations.specs.Cones.{cone, kept}
use Rattle.law_obligations.specs.Problems.{demands}
use Rattle.law_obligations.specs.Readings.{PosedCase}
use Rattle.law_problems.specs.Parts.{case_with, bits_with, fault_at_unit, width_fault}
use Rattle.law_problems.proofs.Forms.{is_well_formed}
use Rattle.smv_problem.specs.WellFormed.{IsWellFormed}
use Rattle.smv_problem.specs.Written.{written, written_element, name_number, set_numbers_of, orders_of}
use Rattle.smv_problem.specs.declared.problem.Problem.{Problem}
use Rattle.smv_problem.specs.declared.problem.Demand.{Demand}
use Rattle.smv_spots.specs.declared.spots.Spot.{Spot}
use Rattle.smv_reads.specs.Views.{world_of}
use Rattle.smv_cone.specs.declared.parts.Part.{Part}
use Rattle.smv_cone.specs.Parts.{outline_of, entry_of, params_of, cone_of, IsPartOf}
use Rattle.smv_cone.proofs.Ends.{forms-written}
use Rattle.smv_cone.proofs.Views.{part-view, carried}
use Rattle.smv_obligations.specs.declared.shared.Shared.{Shared}
use Rattle.smv_obligations.specs.Shared.{IsShared}
use Rattle.smv_obligations.specs.Demands.{said, target_in, demands_in, problem_in}
use Rattle.smv_obligations.proofs.DemandLaws.{bindings-are, target-is, demands-are}

-- the case of these parts
abbrev case_by : Timed → World → Outline → Entry → List Place → PosedCase
case_by times w o entry params =
    let own = take (length (sound.params_of (names_of o.design) (unit_in o.design entry.unit))) params in
    let elements = cone w o entry params in
    record {
      problem = record {
        world = w;
        kept = kept elements;
        now = demands o entry times w own elements Now;
        before = demands o entry times w own elements Before;
        target = said_at (unit_in o.design entry.unit) own;
        guards = entry.leaf.guards;
        params = params;
      };
      elements = elements;
    }

module _ (p : Part) (h : IsPartOf p) (times : Timed) where
  abbrev the_case : PosedCase
  the_case = case_with p.view.design.now p.leaf.now p.choice.now times p.classes.now

  case-is : the_case ≡ case_by times (world_of p.view) (outline_of p) (entry_of p) (params_of p)
  case-is = carried p h (λ w o e ps. the_case ≡ case_by times w o e ps) refl

  abbrev all : List Element
  all = map written_element (cone_of p)

  abbrev made : List AbsType → List Demand → List Demand → Demand → List Spot → Problem
  made types now before target bindings = record {
    elements = all;
    families = p.view.design.now.families;
    lists = map length p.view.design.now.enums;
    names = map (map (name_number p.view.design.now.enums)) p.view.design.now.enums;
    set_names = set_numbers_of p.view.design.now.sets;
    ordered = orders_of p.view.design.now.sets;
    types = types;
    now = now;
    before = before;
    target = target;
    guards = p.leaf.now.guards;
    bindings = bindings;
  }

  written-by : written (case_by times (world_of p.view) (outline_of p) (entry_of p) (params_of p)) ≡ made p.view.types.now (demands_in p times Now all) (demands_in p times Before all) (target_in p (said p)) p.params.now
  unfolding written
  written-by =
      let c = written (case_by times (world_of p.view) (outline_of p) (entry_of p) (params_of p)) in
      ap (λ (ts : List AbsType). made ts c.now c.before c.target c.bindings) (sym (forms-written (world_of p.view) p.view.design.now.sets p.view.types.now (part-view p h).is_view.is_world.forms))
      ∙ (ap (λ (l : List Demand). made p.view.types.now l c.before c.target c.bindings) (demands-are p h times Now)
      ∙ (ap (λ (l : List Demand). made p.view.types.now (demands_in p times Now all) l c.target c.bindings) (demands-are p h times Before)
      ∙ (ap (λ (t : Demand). made p.view.types.now (demands_in p times Now all) (demands_in p times Before all) t c.bindings) (target-is p h)
      ∙ ap (λ (ss : List Spot). made p.view.types.now (demands_in p times Now all) (demands_in p times Before all) (target_in p (said p)) ss) (bindings-are p h))))

  pub problem-is : (s : Shared) (elements : List Element) → IsShared p.view.design.now s → elements ≡ map written_element (cone_of p) → problem_in p times s elements ≡ written the_case
  problem-is s elements h g =
      let made-of : List (List ℕ) → List ℕ → List Family → List ℕ → List Bool → Shared = λ ns ss fs ls os. record { families = fs; lists = ls; names = ns; set_names = ss; ordered = os } in
      ap (λ (fs : List Family). problem_in p times (made-of s.names s.set_names fs s.lists s.ordered) elements) h.families
      ∙ (ap (λ (ls : List ℕ). problem_in p times (made-of s.names s.set_names p.view.design.now.families ls s.ordered) elements) h.lists
      ∙ (ap (λ (ns : List (List ℕ)). problem_in p times (made-of ns s.set_names p.view.design.now.families (map length p.view.design.now.enums) s.ordered) elements) h.names
      ∙ (ap (λ (ss : List ℕ). problem_in p times (made-of (map (map (name_number p.view.design.now.enums)) p.view.design.now.enums) ss p.view.design.now.families (map length p.view.design.now.enums) s.ordered) elements) h.set_names
      ∙ (ap (λ (os : List Bool). problem_in p times (made-of (map (map (name_number p.view.design.now.enums)) p.view.design.now.enums) (set_numbers_of p.view.design.now.sets) p.view.design.now.families (map length p.view.design.now.enums) os) elements) h.ordered
      ∙ (ap
      (λ (xs : List Element). problem_in p times (made-of (map (map (name_number p.view.design.now.enums)) p.view.design.now.enums) (set_numbers_of p.view.design.now.sets) p.view.design.now.families (map length p.view.design.now.enums) (orders_of p.view.design.now.sets)) xs) g
      ∙ (sym written-by ∙ ap written (sym case-is)))))))

  -- without the fault the bits are few
  few : width_fault p.view.design.now p.leaf.now p.choice.now p.classes.now ≡ None → bits_with p.view.design.now p.leaf.now p.choice.now p.classes.now ≤ 1024
  few e = by (nat_lt 1024 (bits_with p.view.design.now p.leaf.now p.choice.now p.classes.now)) refl e
    where
      by : (b : Bool) → nat_lt 1024 (bits_with p.view.design.now p.leaf.now p.choice.now p.classes.now) ≡ b → (if b then Some (fault_at_unit 30 p.view.design.now p.leaf.now) else None) ≡ None → bits_with p.view.design.now p.leaf.now p.choice.now p.classes.now ≤ 1024
      by true t e = absurd (cc)
      by false t e = grind (arith, nat_tests)

  pub well-formed : width_fault p.view.design.now p.leaf.now p.choice.now p.classes.now ≡ None → IsWellFormed the_case
  well-formed e = is_well_formed p.view.design.now p.leaf.now p.choice.now h.is_part times p.classes.now h.is_case (few e)
