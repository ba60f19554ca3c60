use Rattle.std.proofs.Common.{◌≤◌, sym, subst, length}
use Rattle.law_designs.specs.Flattening.{flatten}
use Rattle.law_designs.specs.Definitions.{design_of_flat_text}
use Rattle.law_obligations.specs.Sets.{Has, first}
use Rattle.law_obligations.proofs.Members.{Has-right}
use Rattle.law_concrete.specs.Concrete.{concrete_cases}
use Rattle.law_concrete.specs.Laws.{IsViolatingCase}
use Rattle.law_confirmed.proofs.confirmed.false_is_real.Goals as goal

pub returns : goal.returns
returns c = λ text right u unit same sizes are bits nodes steps case elements path told.
    let d = design_of_flat_text (flatten text) in
    let fails = told.1 in
    let is_case : Has (concrete_cases d sizes unit) case.classes = subst (λ cs. Has cs case.classes) (sym fails.stands) (Has-right fails.before first) in
    let shown = told.2 in
    let v : IsViolatingCase d sizes unit case.classes shown.states = record { are_states = shown.is_shortest.is_path.are_states; is_violating = shown.is_shortest.is_path.is_violating } in
    record {
      is_case = is_case;
      states = shown.states;
      elements_are = shown.elements_are;
      path_is = shown.path_is;
      is_real = c.shortest_paths_are_real_in_text.ensures text right u unit same sizes are case.classes is_case shown.states v
          (λ other w. subst (λ k. k ≤ length other) (sym shown.is_shortest.is_so_long) (shown.is_shortest.is_least other (record { are_states = w.are_states; is_violating = w.is_violating })));
    }
