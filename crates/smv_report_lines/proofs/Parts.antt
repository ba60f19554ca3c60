-- Parts behind a separator: what is left to write of parts with commas between them.
use Rattle.std.proofs.Common.{◌≡◌, ◌<◌, ℕ, List, [], ◌∷◌, ◌++◌, ap, append-nil, append_assoc, arith, codes, length, refl, sym}
use Rattle.smv_core.specs.declared.flat.Param.{Param}
use Rattle.smv_core.specs.declared.flat.Class.{Class}
use Rattle.smv_core.specs.declared.flat.Simple.{Simple}
use Rattle.smv_core.specs.declared.flat.Design.{Design}
use Rattle.smv_core.specs.declared.flat.Element.{Element}
use Rattle.smv_problem.specs.declared.problem.AbsValue.{AbsValue}
use Rattle.smv_core.specs.Values.{Name}
use Rattle.smv_problem.specs.declared.report.Verdict.{Verdict}
use Rattle.smv_problem.specs.declared.report.Verdict.TheVariants.{True, False, UnknownNodes, UnknownSteps}
use Rattle.smv_report_lines.specs.Parts.{details, heading}
use Rattle.law_reports.specs.Lines.{case_line, time_lines, verdict_lines, classes_text, indexes_text, state_text, values_text, with_commas}

abbrev pub behind : List ℕ → List (List ℕ) → List ℕ
behind separator [] = []
behind separator (part ∷ parts) = separator ++ with_commas (part ∷ parts)

pub one_more : (separator part : List ℕ) (parts : List (List ℕ)) → behind separator (part ∷ parts) ≡ separator ++ (part ++ behind (codes ", ") parts)
one_more separator part [] = ap (λ k. separator ++ k) (sym (append-nil part))
one_more separator part (other ∷ parts) = ap (λ k. separator ++ k) (append_assoc part (codes ", ") (with_commas (other ∷ parts)))

pub without : (parts : List (List ℕ)) → behind [] parts ≡ with_commas parts
without [] = refl
without (part ∷ parts) = refl

pub of_state : (d : Design) (parts : List (List ℕ)) → behind (codes " ") parts ≡ state_text d parts
of_state d [] = refl
of_state d (part ∷ parts) = refl

pub no_classes : (d : Design) (params : List Param) (classes : List Class) → length classes < 1 → classes_text d params classes ≡ []
no_classes d [] [] few = refl
no_classes d (p ∷ params) [] few = refl
no_classes d params (c ∷ classes) few = absurd (omega arith)

pub no_values : (d : Design) (elements : List Element) (values : List AbsValue) → length values < 1 → values_text d elements values ≡ []
no_values d [] [] few = refl
no_values d (x ∷ elements) [] few = refl
no_values d elements (v ∷ values) few = absurd (omega arith)

pub no_indexes : (d : Design) (types : List Simple) (indexes : List Class) → length indexes < 1 → indexes_text d types indexes ≡ []
no_indexes d [] [] few = refl
no_indexes d (t ∷ types) [] few = refl
no_indexes d types (c ∷ indexes) few = absurd (omega arith)

-- the lines of a unit are the one that says what is decided, and those below it
pub heading_and_details : (d : Design) (name : Name) (params : List Param) (verdict : Verdict) → verdict_lines d name params verdict ≡ heading name verdict ++ details d params verdict
heading_and_details d name params True = sym (append-nil (heading name True))
heading_and_details d name params (False case elements path) = append_assoc (heading name (False case elements path)) (case_line d params case) (time_lines d elements 0 path)
heading_and_details d name params (UnknownNodes case count) = refl
heading_and_details d name params (UnknownSteps case) = refl
