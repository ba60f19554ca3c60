-- What searches over arrangements find.
use Rattle.std.proofs.Common.{ℕ, ◌*◌, ◌<◌, List}
use Rattle.smv_rings.specs.Lists.{Lists, State, IsLists}
use Rattle.smv_rings.specs.Paths.{IsViolating}
use Rattle.smv_rings.proofs.PathLaws.{violating_of, violates_of}
use Rattle.law_events.specs.Events.{Budget, Event, IsFirstEvent}
use Rattle.law_events.specs.Events.Event.{Counted, Reached, Shut, Images}
use Rattle.law_events.proofs.Meaning.{true_means, false_means}
use Rattle.law_obligations.specs.May.{AbsState}
use Rattle.law_obligations.specs.Readings.{PosedCase, IsCase}
use Rattle.law_obligations.specs.CasePaths.{HasNone, IsShortest}
use Rattle.law_reports.specs.CaseLists.{case_lists}
use Rattle.law_reports.specs.ListLaws.{readings}
use Rattle.law_reports.proofs.Below.{are_lists as case_lists_ok}
use Rattle.law_reports.proofs.Shortest.{same_steps, not_both}
use Rattle.law_reports.proofs.Paths.{none_is_none as declared_none, least_is_least as declared_least}
use Rattle.law_arrangements.specs.Arrangements.{Arrangement, IsArrangement}
use Rattle.law_arrangements.specs.ArrangedLists.{lists_over}
use Rattle.law_arrangements.specs.Laws.{shown, DecideAlike}
use Rattle.law_arrangements.proofs.Below.{are_lists}
use Rattle.law_arrangements.proofs.Paths.{none_is_none, least_is_least}

abbrev budget : Lists → ℕ → ℕ → Budget
budget l nodes images = record { vars = 2 * l.bits; nodes = nodes; images = images }

-- where a search finds no path there is none, and where it finds one there is none shorter
shut_none : (l : Lists) → IsLists l → (nodes steps k : ℕ) → IsFirstEvent l nodes steps (Shut k) → (j : ℕ) (path : ℕ → State) → IsViolating l j path → ⊥
shut_none l ok nodes steps k v j path violating = (true_means l (budget l nodes steps) ok steps k v).1 j (path j) (violates_of l j path violating)

reached_least : (l : Lists) → IsLists l → (nodes steps k : ℕ) → IsFirstEvent l nodes steps (Reached k) →
    (path : ℕ → State) × IsViolating l k path × ((j : ℕ) → j < k → (other : ℕ → State) → IsViolating l j other → ⊥)
reached_least l ok nodes steps k v =
    let means = false_means l (budget l nodes steps) ok steps k v in
    let path = violating_of l k means.0.0 means.0.1 in
    (path.0, path.1, λ j lt other w. means.1 j lt (other j) (violates_of l j other w))

module _ (c : PosedCase) (is : IsCase c) where
  pub shut_is_none : (o : Arrangement) → IsArrangement c o → (nodes steps k : ℕ) → IsFirstEvent (lists_over c o) nodes steps (Shut k) → HasNone c.problem
  shut_is_none o ok nodes steps k v = none_is_none c is o ok (shut_none (lists_over c o) (are_lists c o) nodes steps k v)

  pub reached_is_shortest : (o : Arrangement) → IsArrangement c o → (nodes steps k : ℕ) → IsFirstEvent (lists_over c o) nodes steps (Reached k) → (path : List AbsState) × IsShortest c.problem k path
  reached_is_shortest o ok nodes steps k v =
      let r = reached_least (lists_over c o) (are_lists c o) nodes steps k v in
      (shown c o r.0 k, least_is_least c is o ok k r.0 r.1 r.2)

  declared_shut : (nodes steps k : ℕ) → IsFirstEvent (case_lists c) nodes steps (Shut k) → HasNone c.problem
  declared_shut nodes steps k v = declared_none c is (shut_none (case_lists c) (case_lists_ok c) nodes steps k v)

  declared_reached : (nodes steps k : ℕ) → IsFirstEvent (case_lists c) nodes steps (Reached k) → (path : List AbsState) × IsShortest c.problem k path
  declared_reached nodes steps k v =
      let r = reached_least (case_lists c) (case_lists_ok c) nodes steps k v in
      (readings c r.0 k, declared_least c is k r.0 r.1 r.2)

  pub decisions_agree : (o : Arrangement) → IsArrangement c o → (nodes steps others images : ℕ) (v w : Event) → IsFirstEvent (lists_over c o) nodes steps v → IsFirstEvent (case_lists c) others images w → DecideAlike v w
  decisions_agree o ok nodes steps others images (Reached j) (Reached k) p q =
      let a = reached_is_shortest o ok nodes steps j p in
      let b = declared_reached others images k q in
      same_steps c j k a.0 b.0 a.1 b.1
  decisions_agree o ok nodes steps others images (Reached j) (Shut k) p q = let a = reached_is_shortest o ok nodes steps j p in not_both c j a.0 (declared_shut others images k q) a.1
  decisions_agree o ok nodes steps others images (Shut j) (Reached k) p q = let b = declared_reached others images k q in not_both c k b.0 (shut_is_none o ok nodes steps j p) b.1
  decisions_agree o ok nodes steps others images (Shut j) (Shut k) p q = tt
  decisions_agree o ok nodes steps others images (Counted n) w p q = tt
  decisions_agree o ok nodes steps others images Images w p q = tt
  decisions_agree o ok nodes steps others images (Reached j) (Counted n) p q = tt
  decisions_agree o ok nodes steps others images (Reached j) Images p q = tt
  decisions_agree o ok nodes steps others images (Shut j) (Counted n) p q = tt
  decisions_agree o ok nodes steps others images (Shut j) Images p q = tt
