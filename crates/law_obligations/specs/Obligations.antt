-- The obligation of a case: the demands, the target and the guards over one abstract state after another.
use Rattle.std.specs.Prelude.{List, get_or, Option, Bool, ◌&&◌}
use Rattle.std.specs.List.{list_all}
use Rattle.smv_core.specs.Values.{number}
use Rattle.smv_core.specs.declared.flat.Def.{Def}
use Rattle.smv_core.specs.declared.flat.FlatExpr.{FlatExpr}
use Rattle.smv_core.specs.declared.flat.Guard.{Guard}
use Rattle.law_obligations.specs.Circular.{Obligation}
use Rattle.law_obligations.specs.Places.{Place, named, World}
use Rattle.law_obligations.specs.May.{AbsState, Kept}
use Rattle.law_obligations.specs.Demands.{is_defined, is_assumed, is_broken_map, is_broken_claim, may_guard}

-- the definition of the element of these indexes, or the body of a claim at these parameters
pub data Demanded : Type 0 where
  defined : Def → List Place → Demanded
  holds : FlatExpr → List Place → Demanded

-- a case of a leaf: what it sees, the elements it keeps, what is demanded at each time and at each time but the last, the target, and the
-- guards with the places of the leaf's parameters
pub record AbstractProblem : Type 0 where
  pub world : World
  pub kept : Kept
  pub now : List Demanded
  pub before : List Demanded
  pub target : Demanded
  pub guards : List Guard
  pub params : List Place

module _ (p : AbstractProblem) where
  -- a demand is met
  abbrev pub is_met : Option AbsState → AbsState → Demanded → Bool
  is_met old now (defined def indexes) = is_defined p.world p.kept def indexes old now
  is_met old now (holds body b) = is_assumed p.world p.kept body b now

  -- a target is broken
  abbrev pub is_broken : Option AbsState → AbsState → Demanded → Bool
  is_broken old now (defined def indexes) = is_broken_map p.world p.kept def indexes old now
  is_broken old now (holds body b) = is_broken_claim p.world p.kept body b now

  -- a guard may hold
  abbrev pub may_hold : AbsState → Guard → Bool
  may_hold now g = may_guard p.world p.kept g.over g.expr p.params (get_or p.params g.var (named (number 0))) now

  -- a violating path keeps to the demands of now at each time and to those of before at each but the last, where each guard may hold and the target is broken
  abbrev pub obligation : Obligation AbsState
  obligation = record {
    now = λ old now. list_all (is_met old now) p.now;
    before = λ old now. list_all (is_met old now) p.before;
    broken = λ old now. list_all (may_hold now) p.guards && is_broken old now p.target;
  }
