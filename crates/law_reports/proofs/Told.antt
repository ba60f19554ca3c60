-- What right reports tell.
use Rattle.std.proofs.Common.{◌≡◌, ℕ, suc, ◌-◌, List, [], ◌∷◌, length, ap, subst, ◌∙◌, arith}
use Rattle.std.proofs.lemmas.List.{length-map}
use Rattle.smv_bits.specs.declared.Bits.{Bits}
use Rattle.law_obligations.specs.Sets.{first, later}
use Rattle.law_obligations.specs.Outlines.{Entry, Script}
use Rattle.law_events.specs.Events.Event.{Reached}
use Rattle.law_obligations.specs.Scripts.{case_at}
use Rattle.smv_problem.specs.declared.problem.AbsState.{AbsState as StateData}
use Rattle.smv_problem.specs.declared.report.Verdict.{Verdict}
use Rattle.smv_problem.specs.declared.report.Verdict.TheVariants.{True, False, UnknownNodes, UnknownSteps}
use Rattle.smv_problem.specs.declared.report.UnitResult.{UnitResult}
use Rattle.smv_problem.specs.Written.{written_state}
use Rattle.law_reports.specs.Verdicts.{fails, IsUnitVerdict, AreVerdictsFrom, AllTrue}
use Rattle.law_reports.specs.Reports.{IsToldOf, AreResultsFrom, told, told_of, AllTrueUnits}

module _ (s : Script) (bits : Bits) (nodes images : ℕ) where
  pub is_told : (u : ℕ) (entry : Entry) (v : Verdict) → IsToldOf s bits nodes images u entry v → IsUnitVerdict s bits nodes images u entry (told v)
  is_told u entry True h = h
  is_told u entry (False case elements path) (k, verdict, shown) =
      let long = shown.is_shortest.is_so_long in
      let written = ap (λ (xs : List StateData). length xs) shown.path_is ∙ length-map shown.states (written_state (case_at s u entry case.classes)) in
      let same : k ≡ length path - 1 = omega arith in
      subst (λ (n : ℕ). IsUnitVerdict s bits nodes images u entry (fails case.classes (Reached n))) same verdict
  is_told u entry (UnknownNodes case count) h = h
  is_told u entry (UnknownSteps case) h = h

  pub are_told : (u : ℕ) (entries : List Entry) (results : List UnitResult) → AreResultsFrom s bits nodes images u entries results → AreVerdictsFrom s bits nodes images u entries (told_of results)
  are_told u [] [] h = tt
  are_told u [] (r ∷ results) h = elim h [ ]
  are_told u (entry ∷ entries) [] h = elim h [ ]
  are_told u (entry ∷ entries) (r ∷ results) h = (is_told u entry r.verdict h.0.verdict, are_told (suc u) entries results h.1)

pub all_told : (results : List UnitResult) → AllTrueUnits results → AllTrue (told_of results)
all_told [] all v h = elim h [ ]
all_told (r ∷ results) all _ first = ap told (all r first)
all_told (r ∷ results) all v (later h) = all_told results (λ q k. all q (later k)) v h
