-- What is not read does not matter: where two states keep only elements at numbers and classes, and tell the same of all that is read, outcomes, results, demands and targets are the same.
use Rattle.std.specs.Prelude.{◌≡◌, List, Option, false}
use Rattle.std.specs.List.{list_any}
use Rattle.smv_core.specs.declared.flat.DefBody.{DefBody}
use Rattle.smv_core.specs.declared.flat.FlatExpr.{FlatExpr}
use Rattle.law_obligations.specs.Places.{Place, World}
use Rattle.law_obligations.specs.May.{AbsState, Kept, may}
use Rattle.law_obligations.specs.Pictures.{KeepsNamed}
use Rattle.law_obligations.specs.Right.{may_allow, must_allow}
use Rattle.law_obligations.specs.Results.{results}
use Rattle.law_obligations.specs.Obligations.{Demanded, AbstractProblem, is_met, obligation}
use Rattle.law_reads.specs.Reading.{TellSame, HaveValues, read_in, read_of, read_by_guards, is_at_once, NowSame, BeforeSame}

-- what an expression may be
abbrev pub OutcomesAreSame : Type 0
OutcomesAreSame = (w : World) (kept other : Kept) (a d : AbsState) → KeepsNamed w kept → KeepsNamed w other →
    (e : FlatExpr) (b : List Place) → TellSame kept a other d (read_in w e b) → may w kept a e b ≡ may w other d e b

-- what a right side may allow, and what it allows for certain
abbrev pub AllowedMayBeSame : Type 0
AllowedMayBeSame = (w : World) (kept other : Kept) (a d : AbsState) → KeepsNamed w kept → KeepsNamed w other →
    (every : List Place) (e : FlatExpr) (b : List Place) → TellSame kept a other d (read_in w e b) → may_allow w kept a every e b ≡ may_allow w other d every e b

abbrev pub AllowedMustBeSame : Type 0
AllowedMustBeSame = (w : World) (kept other : Kept) (a d : AbsState) → KeepsNamed w kept → KeepsNamed w other →
    (every : List Place) (e : FlatExpr) (b : List Place) → TellSame kept a other d (read_in w e b) → must_allow w kept a every e b ≡ must_allow w other d every e b

-- each test that a member of one list passes is passed by a member of the other
abbrev pub PassSame : {X : Type 0} → List X → List X → Type 0
PassSame xs ys = (test : _) → list_any test xs ≡ list_any test ys

-- the possible results of a part of a definition, where right sides that read the same give the same
abbrev pub ResultsAreSame : Type 0 → Type 0
ResultsAreSame X = (w : World) (kept other : Kept) (a d : AbsState) → HaveValues w → KeepsNamed w kept → KeepsNamed w other →
    (everything : X) (right others : FlatExpr → List Place → X) → ((e : FlatExpr) (b : List Place) → TellSame kept a other d (read_in w e b) → right e b ≡ others e b) →
    (indexes : List Place) (part : DefBody) (b : List Place) → TellSame kept a other d (read_of w indexes part b) →
    PassSame (results w kept a indexes everything right part b) (results w other d indexes everything others part b)

-- a demand is met; the states before may be any where it is of the state now alone
abbrev pub DemandsAreSame : Type 0
DemandsAreSame = (p : AbstractProblem) (other : Kept) → HaveValues p.world → KeepsNamed p.world p.kept → KeepsNamed p.world other →
    (old before : Option AbsState) (a d : AbsState) (demand : Demanded) → NowSame p.world p.kept a other d demand → (is_at_once demand ≡ false → BeforeSame p.world p.kept old other before demand) →
    is_met p old a demand ≡ is_met (record p { kept = other }) before d demand

-- the guards may hold and the target is broken
abbrev pub TargetsAreSame : Type 0
TargetsAreSame = (p : AbstractProblem) (other : Kept) → HaveValues p.world → KeepsNamed p.world p.kept → KeepsNamed p.world other →
    (old before : Option AbsState) (a d : AbsState) → TellSame p.kept a other d (read_by_guards p.world p) → NowSame p.world p.kept a other d p.target →
    (is_at_once p.target ≡ false → BeforeSame p.world p.kept old other before p.target) →
    (obligation p).broken old a ≡ (obligation (record p { kept = other })).broken before d
