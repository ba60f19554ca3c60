-- What a call of a demand, the target or a guard at a store says of a case.
use Rattle.std.proofs.Common.{◌≡◌, ℕ, ◌+◌, ◌*◌, ◌≤◌, List, [], ◌∷◌, ◌++◌, Bool, true, false, ◌&&◌, sym, ap, subst, ◌∙◌, Option, Some, None, Result, Ok, Err, IfOk}
use Rattle.std.specs.List.{list_all}
use Rattle.smv_core.specs.declared.flat.Guard.{Guard}
use Rattle.law_obligations.specs.Sets.{Has, first, later}
use Rattle.law_obligations.specs.May.{AbsState}
use Rattle.law_obligations.specs.Obligations.{AbstractProblem as Obligations, Demanded, is_met, is_broken, may_hold}
use Rattle.law_obligations.proofs.Members.{Has-left, Has-right}
use Rattle.law_obligations.specs.Readings.{PosedCase, state_bits}
use Rattle.law_arrangements.specs.Orders.{arranged}
use Rattle.law_arrangements.specs.ArrangedLists.{met_first, met_step}
use Rattle.smv_problem.specs.declared.problem.Problem.{Problem}
use Rattle.smv_problem.specs.declared.problem.Demand.{Demand}
use Rattle.smv_problem.specs.Written.{written, written_demand}
use Rattle.smv_problem.specs.WellFormed.{IsFit, OfCases}
use Rattle.bdd_store.specs.declared.Ref.{Ref}
use Rattle.bdd_store.specs.Diagram.{Diagram, IsLive, IsReduced, table, Keeps}
use Rattle.bdd_ops.specs.Functions.{Function}
use Rattle.bdd_codes.specs.Codes.{AreWithin}
use Rattle.smv_encode.specs.Laws.{KeepsTables}
use Rattle.smv_encode.proofs.Kept.{keeps}
use Rattle.smv_conditions.specs.Keep.{KeepsConditions}
use Rattle.smv_cells.specs.declared.cells.Cell.{Cell}
use Rattle.smv_cells.specs.Cells.{AreCellsMade}
use Rattle.smv_cells.specs.Seen.{View, IsSeen}
use Rattle.smv_cells.proofs.SeenLaws.{cells_kept, seen_on}
use Rattle.law_arrangements.specs.Arrangements.{Arrangement}
use Rattle.smv_encode.specs.Coded.{AreStates, state_at, view_at}
use Rattle.smv_orders.specs.Places.{ArePlaces}
use Rattle.smv_encode.proofs.CodedCells.{kept_conditions}
use Rattle.smv_walks.specs.Demands.{view_of, AreRead, IsDemand, IsTargetOf, IsGuard, IsDemanded}
use Rattle.smv_encode.specs.declared.cells.Cells.{Cells}
use Rattle.smv_encode.specs.Encoded.{IsKept, AreLiveCells, AreCellsOf}
use Rattle.smv_encode.proofs.ReadCases.{arranged_states, read_first, read_step, seen_state, is_demand, target_demand, is_guard}

-- ---- what calls keep

-- what conditions keep, the store keeps
pub store_keeps : (d e : Diagram) → IsReduced d → IsReduced e → KeepsConditions IsLive table (λ (s : Diagram). s.vars) d e → Keeps d e
store_keeps d e old new k = let tables : KeepsTables d e = record { vars = k.stays; live = k.made; tables = k.same } in keeps d e old new tables

pub list_kept : (d e : Diagram) (cells : List (Cell Ref)) → Keeps d e → AreCellsMade (IsLive d) cells → AreCellsMade (IsLive e) cells
list_kept d e cells k live = cells_kept IsLive table (λ (s : Diagram). s.vars) d e cells (kept_conditions d e k) live

pub list_seen : (d e : Diagram) (p : Problem) (cells : List (Cell Ref)) (v : View) → Keeps d e → AreCellsMade (IsLive d) cells → IsSeen table d p cells v → IsSeen table e p cells v
list_seen d e p cells v k live seen = seen_on IsLive table (λ (s : Diagram). s.vars) d e p cells v (kept_conditions d e k) live seen

pub live_on : (d e : Diagram) (cells : Cells) → Keeps d e → AreLiveCells d cells → AreLiveCells e cells
live_on d e cells k live = record { current = list_kept d e cells.current.items k live.current; next = list_kept d e cells.next.items k live.next }

pub cells_on : (c : PosedCase) (o : Arrangement) (d e : Diagram) (p : Problem) (cells : Cells) → Keeps d e → AreLiveCells d cells → AreCellsOf c o d p cells → AreCellsOf c o e p cells
cells_on c o d e p cells k live are = record {
  states = are.states;
  current = list_seen d e p cells.current.items (view_at c o false) k live.current are.current;
  next = list_seen d e p cells.next.items (view_at c o true) k live.next are.next;
}

-- ---- demands

same_function : (f g : Function) → ((a : ℕ → Bool) → f a ≡ g a) → f ≡ g
same_function f g same i a = same a i

module _ {E : Type 0} (d e : Diagram) (p : Problem) (demand : Demand) where
  pub first_means : (cells now : List (Cell Ref)) (old : Option (List (Cell Ref))) → now ≡ cells → old ≡ None → (r : Result Ref E) → IfOk r (λ r. IsDemanded IsDemand table d e p old now demand (λ p before now d. is_met p before now d) r)
      → IfOk r (λ r. OfCases p (λ c. (o : Arrangement) → AreStates c o → IsSeen table d p cells (view_at c o false) → (x : Demanded) → demand ≡ written_demand c.problem.world.classes x → IsFit c x → IsKept c x → table e r ≡ met_first c o x))
  unfolding IsDemanded
  first_means cells now old same none (Ok r) says = λ c is well o states seen x e_x fit kept.
      same_function (table e r) (met_first c o x) (λ a.
      says c.problem None (state_at c o false) (subst (λ (before : Option (List (Cell Ref))). AreRead table d p before now c.problem None (state_at c o false)) (sym none) (subst (λ (cs : List (Cell Ref)). AreRead table d p None cs c.problem None (state_at c o false)) (sym same) (read_first c well o states d p cells seen)))
      x (is_demand c well x fit kept) e_x a)
  first_means cells now old same none (Err x) says = tt

  pub step_means : (current next before now : List (Cell Ref)) (old : Option (List (Cell Ref))) → before ≡ current → now ≡ next → old ≡ Some before → (r : Result Ref E) → IfOk r (λ r. IsDemanded IsDemand table d e p old now demand (λ p before now d. is_met p before now d) r)
      → IfOk r (λ r. OfCases p (λ c. (o : Arrangement) → AreStates c o → IsSeen table d p current (view_at c o false) → IsSeen table d p next (view_at c o true) → (x : Demanded) → demand ≡ written_demand c.problem.world.classes x → IsFit c x → IsKept c x → table e r ≡ met_step c o x))
  unfolding IsDemanded
  step_means current next before now old e1 e2 e3 (Ok r) says = λ c is well o states seen_old seen x e_x fit kept.
      same_function (table e r) (met_step c o x) (λ a.
      says c.problem (Some (state_at c o false)) (state_at c o true) (subst (λ (before : Option (List (Cell Ref))). AreRead table d p before now c.problem (Some (state_at c o false)) (state_at c o true)) (sym (e3 ∙ ap (λ (cs : List (Cell Ref)). Some cs) e1))
      (subst (λ (cs : List (Cell Ref)). AreRead table d p (Some current) cs c.problem (Some (state_at c o false)) (state_at c o true)) (sym e2) (read_step c well o states d p current next seen_old seen)))
      x (is_demand c well x fit kept) e_x a)
  step_means current next before now old e1 e2 e3 (Err x) says = tt

-- ---- the target

target_is : (p : Problem) (c : PosedCase) → p ≡ written c → p.target ≡ written_demand c.problem.world.classes c.problem.target
unfolding written
target_is p c is = ap (λ (q : Problem). q.target) is

module _ {E : Type 0} (d e : Diagram) (p : Problem) where
  pub target_first_means : (cells now : List (Cell Ref)) (old : Option (List (Cell Ref))) → now ≡ cells → old ≡ None → (r : Result Ref E) → IfOk r (λ r. IsDemanded IsTargetOf table d e p old now p.target (λ p before now d. is_broken p before now d) r)
      → IfOk r (λ r. OfCases p (λ c. (o : Arrangement) → AreStates c o → IsSeen table d p cells (view_at c o false) → (a : ℕ → Bool) → table e r a ≡ is_broken c.problem None (state_at c o false a) c.problem.target))
  unfolding IsDemanded
  target_first_means cells now old same none (Ok r) says = λ c is well o states seen a.
      says c.problem None (state_at c o false) (subst (λ (before : Option (List (Cell Ref))). AreRead table d p before now c.problem None (state_at c o false)) (sym none) (subst (λ (cs : List (Cell Ref)). AreRead table d p None cs c.problem None (state_at c o false)) (sym same) (read_first c well o states d p cells seen)))
      c.problem.target (target_demand c well) (target_is p c is) a
  target_first_means cells now old same none (Err x) says = tt

  pub target_step_means : (current next before now : List (Cell Ref)) (old : Option (List (Cell Ref))) → before ≡ current → now ≡ next → old ≡ Some before → (r : Result Ref E) → IfOk r (λ r. IsDemanded IsTargetOf table d e p old now p.target (λ p before now d. is_broken p before now d) r)
      → IfOk r (λ r. OfCases p (λ c. (o : Arrangement) → AreStates c o → IsSeen table d p current (view_at c o false) → IsSeen table d p next (view_at c o true) → (a : ℕ → Bool) → table e r a ≡ is_broken c.problem (Some (state_at c o false a)) (state_at c o true a) c.problem.target))
  unfolding IsDemanded
  target_step_means current next before now old e1 e2 e3 (Ok r) says = λ c is well o states seen_old seen a.
      says c.problem (Some (state_at c o false)) (state_at c o true) (subst (λ (before : Option (List (Cell Ref))). AreRead table d p before now c.problem (Some (state_at c o false)) (state_at c o true)) (sym (e3 ∙ ap (λ (cs : List (Cell Ref)). Some cs) e1))
      (subst (λ (cs : List (Cell Ref)). AreRead table d p (Some current) cs c.problem (Some (state_at c o false)) (state_at c o true)) (sym e2) (read_step c well o states d p current next seen_old seen)))
      c.problem.target (target_demand c well) (target_is p c is) a
  target_step_means current next before now old e1 e2 e3 (Err x) says = tt

-- ---- guards

pub guard_means : {E : Type 0} (d e : Diagram) (p : Problem) (cells : List (Cell Ref)) (g : Guard) (r : Result Ref E)
    → IfOk r (λ r. (q : Obligations) (now : (ℕ → Bool) → AbsState) → IsSeen table d p cells (view_of q now) → IsGuard q p.bindings g → (a : ℕ → Bool) → table e r a ≡ may_hold q (now a) g)
    → IfOk r (λ r. OfCases p (λ c. (o : Arrangement) (next : Bool) → AreStates c o → IsSeen table d p cells (view_at c o next) → Has c.problem.guards g → (a : ℕ → Bool) → table e r a ≡ may_hold c.problem (state_at c o next a) g))
guard_means d e p cells g (Ok r) says = λ c is well o next states seen h a. says c.problem (state_at c o next) (seen_state c well o states d p next cells seen) (is_guard c well p is g h) a
guard_means d e p cells g (Err x) says = tt

pub no_guards : (c : PosedCase) (s : AbsState) (gs : List Guard) (z : Bool) → gs ≡ [] → z ≡ true → z ≡ list_all (may_hold c.problem s) gs
no_guards c s gs z none is = is ∙ sym (ap (λ (hs : List Guard). list_all (may_hold c.problem s) hs) none)

pub one_guard : (c : PosedCase) (s : AbsState) (gs others : List Guard) (g : Guard) (x y z : Bool) → gs ≡ g ∷ others → x ≡ may_hold c.problem s g → y ≡ list_all (may_hold c.problem s) others → z ≡ (x && y) → z ≡ list_all (may_hold c.problem s) gs
one_guard c s gs others g x y z e ex ey ez = ez ∙ ap (λ (b : Bool). b && y) ex ∙ ap (λ (b : Bool). may_hold c.problem s g && b) ey ∙ sym (ap (λ (hs : List Guard). list_all (may_hold c.problem s) hs) e)

pub guards_are : (p : Problem) (c : PosedCase) → p ≡ written c → p.guards ≡ c.problem.guards
unfolding written
guards_are p c is = ap (λ (q : Problem). q.guards) is

pub has_all : (gs hs : List Guard) → gs ≡ hs → (g : Guard) → Has gs g → Has hs g
has_all gs hs e g h = subst (λ (xs : List Guard). Has xs g) e h

-- both of guards and a target
pub both_function : (f g h : Function) (r : Function) → ((a : ℕ → Bool) → f a ≡ g a) → ((a : ℕ → Bool) → r a ≡ (f a && h a)) → (k : Function) → ((a : ℕ → Bool) → h a ≡ k a) → r ≡ (λ a. g a && k a)
both_function f g h r e is k l = same_function r (λ a. g a && k a) (λ a. is a ∙ ap (λ (b : Bool). b && h a) (e a) ∙ ap (λ (b : Bool). g a && b) (l a))

-- ---- the cells of both times

-- places that have variables have them later
pub within_on : (d e : Diagram) (places : List ℕ) → Keeps d e → AreWithin d places → AreWithin e places
within_on d e places k within p h = subst (λ (n : ℕ). 2 * (p + 1) ≤ n) (sym k.vars) (within p h)

-- and so have some of them
pub own_within : (d : Diagram) (places own behind : List ℕ) → places ≡ own ++ behind → AreWithin d places → AreWithin d own
own_within d places own behind e within p h = within p (subst (λ (ps : List ℕ). Has ps p) (sym e) (Has-left behind h))

pub behind_within : (d : Diagram) (places own behind : List ℕ) → places ≡ own ++ behind → AreWithin d places → AreWithin d behind
behind_within d places own behind e within p h = within p (subst (λ (ps : List ℕ). Has ps p) (sym e) (Has-right own h))

pub vars_on : (p : Problem) (d e : Diagram) → Keeps d e → OfCases p (λ c. d.vars ≡ 2 * state_bits c) → OfCases p (λ c. e.vars ≡ 2 * state_bits c)
vars_on p d e k vars c is well = k.vars ∙ vars c is well

pub both_seen : (p : Problem) (d e : Diagram) (current next : List (Cell Ref)) → Keeps d e → AreCellsMade (IsLive d) current → (places : List ℕ) → OfCases p (λ c. (order : List ℕ) → ArePlaces order 0 places → IsSeen table d p current (view_at c (arranged order) false)) → OfCases p (λ c. (order : List ℕ) → ArePlaces order 0 places → IsSeen table e p next (view_at c (arranged order) true))
    → (cells : Cells) → cells.current.items ≡ current → cells.next.items ≡ next → OfCases p (λ c. (order : List ℕ) → ArePlaces order 0 places → AreCellsOf c (arranged order) e p cells)
both_seen p d e current next k live places seen_current seen_next cells ec en c is well order placed = record {
  states = arranged_states c well order;
  current = subst (λ (cs : List (Cell Ref)). IsSeen table e p cs (view_at c (arranged order) false)) (sym ec) (list_seen d e p current (view_at c (arranged order) false) k live (seen_current c is well order placed));
  next = subst (λ (cs : List (Cell Ref)). IsSeen table e p cs (view_at c (arranged order) true)) (sym en) (seen_next c is well order placed);
}

-- ---- by both cells at once

pub step_says : {E : Type 0} (d e : Diagram) (p : Problem) (demand : Demand) (cells : Cells) (r : Result Ref E)
    → IfOk r (λ r. OfCases p (λ c. (o : Arrangement) → AreStates c o → IsSeen table d p cells.current.items (view_at c o false) → IsSeen table d p cells.next.items (view_at c o true) → (x : Demanded) → demand ≡ written_demand c.problem.world.classes x → IsFit c x → IsKept c x → table e r ≡ met_step c o x))
    → IfOk r (λ r. OfCases p (λ c. (o : Arrangement) → AreCellsOf c o d p cells → (x : Demanded) → demand ≡ written_demand c.problem.world.classes x → IsFit c x → IsKept c x → table e r ≡ met_step c o x))
step_says d e p demand cells (Ok r) says = λ c is well o are x e_x fit kept. says c is well o are.states are.current are.next x e_x fit kept
step_says d e p demand cells (Err x) says = tt

pub target_says : {E : Type 0} (d e : Diagram) (p : Problem) (cells : Cells) (r : Result Ref E)
    → IfOk r (λ r. OfCases p (λ c. (o : Arrangement) → AreStates c o → IsSeen table d p cells.current.items (view_at c o false) → IsSeen table d p cells.next.items (view_at c o true) → (a : ℕ → Bool) → table e r a ≡ is_broken c.problem (Some (state_at c o false a)) (state_at c o true a) c.problem.target))
    → IfOk r (λ r. OfCases p (λ c. (o : Arrangement) → AreCellsOf c o d p cells → (a : ℕ → Bool) → table e r a ≡ is_broken c.problem (Some (state_at c o false a)) (state_at c o true a) c.problem.target))
target_says d e p cells (Ok r) says = λ c is well o are a. says c is well o are.states are.current are.next a
target_says d e p cells (Err x) says = tt

pub first_guard : (c : PosedCase) (gs others : List Guard) (g : Guard) → gs ≡ g ∷ others → ((h : Guard) → Has gs h → Has c.problem.guards h) → Has c.problem.guards g
first_guard c gs others g e among = among g (subst (λ (hs : List Guard). Has hs g) (sym e) first)

pub later_guard : (c : PosedCase) (gs others : List Guard) (g : Guard) → gs ≡ g ∷ others → ((h : Guard) → Has gs h → Has c.problem.guards h) → (h : Guard) → Has others h → Has c.problem.guards h
later_guard c gs others g e among h m = among h (subst (λ (hs : List Guard). Has hs h) (sym e) (later m))
