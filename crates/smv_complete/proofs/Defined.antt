-- Those of some demands that define an element, one after the other.
use Rattle.std.proofs.Common.{◌≡◌, List, [], ◌∷◌, map, Bool, true, false, ◌&&◌, if◌then◌else◌, refl, sym, ap, subst, ◌∙◌, inl, inr, Option, None}
use Rattle.std.specs.List.{list_all}
use Rattle.std.proofs.lemmas.Bool.{cases_Bool}
use Rattle.law_lists.proofs.Booleans.{clash}
use Rattle.law_lists.proofs.Lists.{head_is, tail_is}
use Rattle.smv_core.specs.declared.flat.Element.{Element}
use Rattle.law_obligations.specs.Sets.{Has, first, later}
use Rattle.law_obligations.specs.May.{AbsState}
use Rattle.law_obligations.specs.Obligations.{AbstractProblem as Case, Demanded, defined, holds, is_met}
use Rattle.law_obligations.specs.Cones.{AbsElement, element, same_element}
use Rattle.law_obligations.specs.Readings.{PosedCase}
use Rattle.law_obligations.proofs.ConeFacts.{same_element-itself}
use Rattle.law_obligations.proofs.LeastCones.{same_element-is}
use Rattle.law_reports.specs.CaseLists.{defines, those_of}
use Rattle.smv_problem.specs.declared.problem.Demand.{Demand}
use Rattle.smv_problem.specs.declared.problem.Problem.{Problem}
use Rattle.smv_problem.specs.Written.{written, written_element, written_demand}
use Rattle.smv_problem.specs.WellFormed.{IsWellFormed, OfCases}
use Rattle.smv_elements.specs.Elements as listed
use Rattle.smv_elements.proofs.Keys.{same-is, same-itself}
use Rattle.smv_cells.specs.declared.cells.Cell.{Cell}
use Rattle.smv_walks.specs.Demands.{IsDemand}
use Rattle.smv_eval.specs.Held.{AreReadBy}
use Rattle.smv_eval.proofs.HeldLaws.{now_demands, now_written}
use Rattle.smv_complete.specs.Defining.{is_of, AreOfNow}
use Rattle.smv_complete.proofs.States.{written_once}

module _ (c : PosedCase) (well : IsWellFormed c) where
  -- the same element is written the same
  same_written : (x y : AbsElement) → Has c.elements x → Has c.elements y → listed.same_element (written_element x) (written_element y) ≡ same_element x y
  same_written x y hx hy = elim (cases_Bool (listed.same_element (written_element x) (written_element y))) [
    | inl e ↦
        let is : x ≡ y = written_once c well x y hx hy (same-is (written_element x) (written_element y) e) in
        e ∙ sym (subst (λ (z : AbsElement). same_element x z ≡ true) is (same_element-itself x))
    | inr e ↦ elim (cases_Bool (same_element x y)) [
      | inl f ↦
          absurd (clash (subst (λ (z : AbsElement). listed.same_element (written_element x) (written_element z) ≡ true) (same_element-is x y f) (same-itself (written_element x))) e)
      | inr f ↦ e ∙ sym f
    ]
  ]

  defines_written : (x : AbsElement) (d : Demanded) → Has c.elements x → Has c.problem.now d → is_of (written_element x) (written_demand c.problem.world.classes d) ≡ defines x d
  defines_written x (defined def indexes) h k = same_written x (element def.family indexes) h (well.is_case.now_is_kept def indexes k)
  defines_written x (holds body b) h k = refl

-- those of these demands that define the element are met, or not
abbrev pub AreMetFor : Problem → List (Cell Bool) → Element → List Demand → Bool → Type 0
AreMetFor problem cells own demands met = OfCases problem (λ c. (x : AbsElement) → Has c.elements x → own ≡ written_element x → (a : AbsState) → AreReadBy problem None cells c.problem None a →
    (ds : List Demanded) → AreOfNow c ds → demands ≡ map (written_demand c.problem.world.classes) ds → met ≡ list_all (is_met c.problem None a) (those_of ds x))

abbrev IsMetBy : Problem → List (Cell Bool) → Demand → Bool → Type 0
IsMetBy problem cells demand met = (p : Case) (before : Option AbsState) (now : AbsState) → AreReadBy problem None cells p before now → (d : Demanded) → IsDemand p d → demand ≡ written_demand p.world.classes d → met ≡ is_met p before now d

no_head : {X : Type 0} {x : X} {xs : List X} → x ∷ xs ≡ [] → ⊥
no_head e = cc

pub none_met : (problem : Problem) (cells : List (Cell Bool)) (own : Element) (all : List Demand) → all ≡ [] → AreMetFor problem cells own all true
none_met problem cells own all e c is well x h same a read [] each f = refl
none_met problem cells own all e c is well x h same a read (d ∷ ds) each f = absurd (no_head (sym f ∙ e))

module _ (problem : Problem) (cells : List (Cell Bool)) (own : Element) (all others : List Demand) (demand : Demand) (split : all ≡ demand ∷ others) where
  module _ (c : PosedCase) (well : IsWellFormed c) (x : AbsElement) (h : Has c.elements x) (same : own ≡ written_element x) where
    -- whether the first of them defines the element
    first_defines : (d : Demanded) → Has c.problem.now d → demand ≡ written_demand c.problem.world.classes d → is_of own demand ≡ defines x d
    first_defines d k e = ap (λ (z : Element). is_of z demand) same ∙ ap (is_of (written_element x)) e ∙ defines_written c well x d h k

    with_first : (a : AbsState) (d : Demanded) (ds : List Demanded) → defines x d ≡ true → list_all (is_met c.problem None a) (those_of (d ∷ ds) x) ≡ (is_met c.problem None a d && list_all (is_met c.problem None a) (those_of ds x))
    with_first a d ds e = ap (λ b. list_all (is_met c.problem None a) (if b then d ∷ those_of ds x else those_of ds x)) e

    without_first : (a : AbsState) (d : Demanded) (ds : List Demanded) → defines x d ≡ false → list_all (is_met c.problem None a) (those_of (d ∷ ds) x) ≡ list_all (is_met c.problem None a) (those_of ds x)
    without_first a d ds e = ap (λ b. list_all (is_met c.problem None a) (if b then d ∷ those_of ds x else those_of ds x)) e

  pub passed_over : is_of own demand ≡ false → (more : Bool) → AreMetFor problem cells own others more → AreMetFor problem cells own all more
  passed_over f more rest c is well x h same a read [] each e = absurd (no_head (sym split ∙ e))
  passed_over f more rest c is well x h same a read (d ∷ ds) each e =
      rest c is well x h same a read ds (λ y k. each y (later k)) (tail_is (sym split ∙ e)) ∙ sym (without_first c well x h same a d ds (sym (first_defines c well x h same d (each d first) (head_is (sym split ∙ e))) ∙ f))

  module _ (t : is_of own demand ≡ true) (met : Bool) (by : IsMetBy problem cells demand met) where
    first_is : (c : PosedCase) (is : problem ≡ written c) (well : IsWellFormed c) (a : AbsState) → AreReadBy problem None cells c.problem None a → (d : Demanded) → Has c.problem.now d → demand ≡ written_demand c.problem.world.classes d → met ≡ is_met c.problem None a d
    first_is c is well a read d k e = by c.problem None a read d (now_demands c well d k) e

    pub unmet : met ≡ false → AreMetFor problem cells own all false
    unmet f c is well x h same a read [] each e = absurd (no_head (sym split ∙ e))
    unmet f c is well x h same a read (d ∷ ds) each e =
        let k = each d first in
        let g = head_is (sym split ∙ e) in
        ap (λ b. b && list_all (is_met c.problem None a) (those_of ds x)) (sym f ∙ first_is c is well a read d k g) ∙ sym (with_first c well x h same a d ds (sym (first_defines c well x h same d k g) ∙ t))

    pub met_too : met ≡ true → (more : Bool) → AreMetFor problem cells own others more → AreMetFor problem cells own all more
    met_too s more rest c is well x h same a read [] each e = absurd (no_head (sym split ∙ e))
    met_too s more rest c is well x h same a read (d ∷ ds) each e =
        let k = each d first in
        let g = head_is (sym split ∙ e) in
        rest c is well x h same a read ds (λ y j. each y (later j)) (tail_is (sym split ∙ e))
        ∙ ap (λ b. b && list_all (is_met c.problem None a) (those_of ds x)) (sym s ∙ first_is c is well a read d k g) ∙ sym (with_first c well x h same a d ds (sym (first_defines c well x h same d k g) ∙ t))

-- all demands of now are the problem's
pub of_now : (problem : Problem) (cells : List (Cell Bool)) (own : Element) (demands : List Demand) → demands ≡ problem.now → (met : Bool) → AreMetFor problem cells own demands met →
    OfCases problem (λ c. (x : AbsElement) → Has c.elements x → own ≡ written_element x → (a : AbsState) → AreReadBy problem None cells c.problem None a → met ≡ list_all (is_met c.problem None a) (those_of c.problem.now x))
of_now problem cells own demands e met are c is well x h same a read = are c is well x h same a read c.problem.now (λ d k. k) (e ∙ now_written c well problem is)
