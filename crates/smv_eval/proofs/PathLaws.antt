-- One time of a path after the other.
use Rattle.std.proofs.Common.{◌≡◌, List, [], ◌∷◌, map, length, arith, Bool, true, false, ◌&&◌, refl, sym, ap, subst, ◌∙◌, Option, Some, None}
use Rattle.std.specs.Prelude.{◌↔◌, IsTrue}
use Rattle.std.specs.List.{list_all}
use Rattle.law_lists.proofs.Lists.{head_is, tail_is}
use Rattle.law_obligations.specs.Sets.{Has, first, later}
use Rattle.law_obligations.specs.May.{AbsState}
use Rattle.law_obligations.specs.Pictures.{IsAbsState}
use Rattle.law_obligations.specs.Circular.{is_violating_after}
use Rattle.law_obligations.specs.Obligations.{Demanded, is_met, obligation}
use Rattle.law_obligations.specs.Obligations as oblig
use Rattle.law_obligations.specs.Readings.{PosedCase}
use Rattle.law_obligations.specs.CasePaths.{AreAbsStates, IsViolatingPath}
use Rattle.smv_problem.specs.declared.problem.AbsState.{AbsState as StateData}
use Rattle.smv_problem.specs.declared.problem.Problem.{Problem}
use Rattle.smv_problem.specs.declared.problem.Demand.{Demand}
use Rattle.smv_problem.specs.Written.{written, written_state, written_demand}
use Rattle.smv_problem.specs.WellFormed.{IsWellFormed, OfCases, OfStates}
use Rattle.smv_conditions.specs.declared.stores.Plain.{Plain}
use Rattle.smv_cells.specs.declared.cells.Cell.{Cell}
use Rattle.smv_cells.specs.Seen.{IsSeen}
use Rattle.smv_walks.specs.Demands.{IsDemand}
use Rattle.smv_eval.specs.States.{plainly, view_of}
use Rattle.smv_eval.specs.Held.{IsBeforeBy, AreReadBy}
use Rattle.smv_eval.proofs.HeldLaws.{now_demands, before_demands, now_written, before_written, are_read, is_before_by}
use Rattle.smv_eval.specs.Violations.{AreStates, Violates}

-- what the callees say
abbrev IsStateOf : Problem → StateData → Bool → Type 0
IsStateOf p state b = OfCases p (λ c. IsTrue b ↔ ((a : AbsState) × IsAbsState c.problem.world c.problem.kept a × (state ≡ written_state c a)))

abbrev AreCellsOf : Problem → StateData → List (Cell Bool) → Type 0
AreCellsOf p state cells = OfStates p state (λ c a. (s : Plain) → IsSeen plainly s p cells (view_of c a))

abbrev AreMet : Problem → Option (List (Cell Bool)) → List (Cell Bool) → List Demand → Bool → Type 0
AreMet p old cells demands met = (q : oblig.AbstractProblem) (before : Option AbsState) (now : AbsState) → AreReadBy p old cells q before now → (ds : List Demanded) → ((d : Demanded) → Has ds d → IsDemand q d) → demands ≡ map (written_demand q.world.classes) ds → met ≡ list_all (is_met q before now) ds

abbrev IsBroken : Problem → Option (List (Cell Bool)) → List (Cell Bool) → Bool → Type 0
IsBroken p old cells broken = OfCases p (λ c. (before : Option AbsState) (now : AbsState) → AreReadBy p old cells c.problem before now → broken ≡ (obligation c.problem).broken before now)

-- cells that are sliced are those cells
pub met_by : (p : Problem) (old : Option (List (Cell Bool))) (cells sliced : List (Cell Bool)) (demands all : List Demand) (met : Bool) → sliced ≡ cells → demands ≡ all → AreMet p old sliced demands met → AreMet p old cells all met
met_by p old cells sliced demands all met slice same is = subst (λ all. AreMet p old cells all met) same (subst (λ cells. AreMet p old cells demands met) slice is)

pub broken_by : (p : Problem) (old : Option (List (Cell Bool))) (cells sliced : List (Cell Bool)) (broken : Bool) → sliced ≡ cells → IsBroken p old sliced broken → IsBroken p old cells broken
broken_by p old cells sliced broken slice is = subst (λ cells. IsBroken p old cells broken) slice is

pub violates_by : (p : Problem) (cells sliced : List (Cell Bool)) (states : List StateData) (violates : Bool) → sliced ≡ cells → Violates p (Some sliced) states violates → Violates p (Some cells) states violates
violates_by p cells sliced states violates slice is = subst (λ cells. Violates p (Some cells) states violates) slice is

-- no state is left
pub nothing_left : (xs : List StateData) → length xs ≡ 0 → xs ≡ []
nothing_left [] e = refl
nothing_left (x ∷ xs) e = absurd (omega arith)

-- no states
pub nothing_violates : (p : Problem) (old : Option (List (Cell Bool))) (states : List StateData) → states ≡ [] → Violates p old states false
nothing_violates p old states e c is well before read [] all same = refl
nothing_violates p old states e c is well before read (a ∷ path) all same = absurd (clash (sym e ∙ same))
  where
    clash : {s : StateData} {ss : List StateData} → [] ≡ s ∷ ss → ⊥
    clash e = cc

module _ (p : Problem) (old : Option (List (Cell Bool))) (states : List StateData) (state : StateData) (others : List StateData) (split : states ≡ state ∷ others) where
  -- what is so of a path that begins at a state
  by_first : (violates : Bool) →
      ((c : PosedCase) → p ≡ written c → IsWellFormed c → (before : Option AbsState) → IsBeforeBy p old c.problem before → (a : AbsState) (path : List AbsState) → IsAbsState c.problem.world c.problem.kept a → AreAbsStates c.problem path → state ≡ written_state c a → others ≡ map (written_state c) path → violates ≡ is_violating_after (obligation c.problem) before (a ∷ path)) →
      Violates p old states violates
  by_first violates says c is well before read [] all same = absurd (clash (sym split ∙ same))
    where
      clash : {s : StateData} {ss : List StateData} → s ∷ ss ≡ [] → ⊥
      clash e = cc
  by_first violates says c is well before read (a ∷ path) all same = let e = sym split ∙ same in says c is well before read a path (all a first) (λ b h. all b (later h)) (head_is e) (tail_is e)

  -- the first is no state
  pub no_state : (b : Bool) → IsStateOf p state b → b ≡ false → Violates p old states false
  no_state b is_state f = by_first false (λ c is well before read a path abs all same rest. absurd (clash (sym f ∙ (is_state c is well).1 (a, abs, same))))
    where
      clash : false ≡ true → ⊥
      clash e = cc

  module _ (cells : List (Cell Bool)) (seen : AreCellsOf p state cells) (met : Bool) (are_met : AreMet p old cells p.now met) where
    read_by : (c : PosedCase) → p ≡ written c → IsWellFormed c → (before : Option AbsState) → IsBeforeBy p old c.problem before → (a : AbsState) → IsAbsState c.problem.world c.problem.kept a → state ≡ written_state c a → AreReadBy p old cells c.problem before a
    read_by c is well before read a abs same = are_read c well p old cells before a read abs (seen c is well a abs same)

    now_is : (c : PosedCase) → p ≡ written c → IsWellFormed c → (before : Option AbsState) → IsBeforeBy p old c.problem before → (a : AbsState) → IsAbsState c.problem.world c.problem.kept a → state ≡ written_state c a → met ≡ (obligation c.problem).now before a
    now_is c is well before read a abs same = are_met c.problem before a (read_by c is well before read a abs same) c.problem.now (now_demands c well) (now_written c well p is)

    -- a demand of now is not met
    pub not_now : met ≡ false → Violates p old states false
    not_now f = by_first false (λ c is well before read a path abs all same rest. at c before a path (sym f ∙ now_is c is well before read a abs same))
      where
        at : (c : PosedCase) (before : Option AbsState) (a : AbsState) (path : List AbsState) → false ≡ (obligation c.problem).now before a → false ≡ is_violating_after (obligation c.problem) before (a ∷ path)
        at c before a [] e = ap (λ b. b && (obligation c.problem).broken before a) e
        at c before a (t ∷ path) e = ap (λ b. b && ((obligation c.problem).before before a && is_violating_after (obligation c.problem) (Some a) (t ∷ path))) e

    -- the last state
    pub last_broken : met ≡ true → others ≡ [] → (broken : Bool) → IsBroken p old cells broken → Violates p old states broken
    last_broken m none broken is_broken = by_first broken (λ c is well before read a path abs all same rest.
        at c before a path (sym none ∙ rest) (is_broken c is well before a (read_by c is well before read a abs same)) (sym m ∙ now_is c is well before read a abs same))
      where
        at : (c : PosedCase) (before : Option AbsState) (a : AbsState) (path : List AbsState) → [] ≡ map (written_state c) path → broken ≡ (obligation c.problem).broken before a → true ≡ (obligation c.problem).now before a → broken ≡ is_violating_after (obligation c.problem) before (a ∷ path)
        at c before a [] n e t = e ∙ ap (λ b. b && (obligation c.problem).broken before a) t
        at c before a (x ∷ path) n e t = absurd (clash n)
          where
            clash : {s : StateData} {ss : List StateData} → [] ≡ s ∷ ss → ⊥
            clash e = cc

    module _ (m : met ≡ true) (some : others ≡ [] → ⊥) (before_met : Bool) (are_before : AreMet p old cells p.before before_met) where
      before_is : (c : PosedCase) → p ≡ written c → IsWellFormed c → (before : Option AbsState) → IsBeforeBy p old c.problem before → (a : AbsState) → IsAbsState c.problem.world c.problem.kept a → state ≡ written_state c a → before_met ≡ (obligation c.problem).before before a
      before_is c is well before read a abs same = are_before c.problem before a (read_by c is well before read a abs same) c.problem.before (before_demands c well) (before_written c well p is)

      after : (c : PosedCase) (before : Option AbsState) (a : AbsState) (path : List AbsState) → others ≡ map (written_state c) path → true ≡ (obligation c.problem).now before a →
          ((obligation c.problem).before before a && is_violating_after (obligation c.problem) (Some a) path) ≡ is_violating_after (obligation c.problem) before (a ∷ path)
      after c before a [] rest t = absurd (some rest)
      after c before a (x ∷ path) rest t = ap (λ b. b && ((obligation c.problem).before before a && is_violating_after (obligation c.problem) (Some a) (x ∷ path))) t

      -- a demand of before is not met
      pub not_before : before_met ≡ false → Violates p old states false
      not_before f = by_first false (λ c is well before read a path abs all same rest.
          ap (λ b. b && is_violating_after (obligation c.problem) (Some a) path) (sym f ∙ before_is c is well before read a abs same)
          ∙ after c before a path rest (sym m ∙ now_is c is well before read a abs same))

      -- the rest of the path
      pub rest_violates : before_met ≡ true → (violates : Bool) → Violates p (Some cells) others violates → Violates p old states violates
      rest_violates t violates goes = by_first violates (λ c is well before read a path abs all same rest.
          goes c is well (Some a) (is_before_by c well p cells a abs (seen c is well a abs same)) path all rest
          ∙ (ap (λ b. b && is_violating_after (obligation c.problem) (Some a) path) (sym t ∙ before_is c is well before read a abs same)
          ∙ after c before a path rest (sym m ∙ now_is c is well before read a abs same)))

  -- ---- states

  -- a state and those behind it
  pub more_states : (b : Bool) → IsStateOf p state b → b ≡ true → AreStates p others → AreStates p states
  more_states b is_state t rest c is well =
      let a = (is_state c is well).0 t in
      let r = rest c is well in
      (a.0 ∷ r.0, all a.0 r.0 a.1 r.1, split ∙ (ap (λ s. s ∷ others) a.2 ∙ ap (λ ss. written_state c a.0 ∷ ss) r.2))
    where
      all : (a : AbsState) (path : List AbsState) → IsAbsState c.problem.world c.problem.kept a → AreAbsStates c.problem path → AreAbsStates c.problem (a ∷ path)
      all a path abs rest _ first = abs
      all a path abs rest b (later h) = rest b h

  -- one state alone
  pub one_state : (b : Bool) → IsStateOf p state b → b ≡ true → others ≡ [] → AreStates p states
  one_state b is_state t none = more_states b is_state t (λ c is well. ([], (λ a h. elim h [ ]), none))

-- the whole path
pub violating_there : (p : Problem) (states : List StateData) (violates : Bool) → (IsTrue violates → AreStates p states) → Violates p None states violates →
    OfCases p (λ c. IsTrue violates ↔ ((path : List AbsState) × IsViolatingPath c.problem path × (states ≡ map (written_state c) path)))
violating_there p states violates are says c is well = (
  λ t.
      let r = are t c is well in
      (r.0, record { are_states = r.1; is_violating = sym (says c is well None (λ s. tt) r.0 r.1 r.2) ∙ t }, r.2),
  λ r. says c is well None (λ s. tt) r.0 r.1.are_states r.2 ∙ r.1.is_violating,
)
