-- Reading line by line: what is read of the lines of a path, of a unit, and of all units.
use Rattle.std.proofs.Common.{◌≡◌, ◌≢◌, ◌∙◌, ◌+◌, ◌-◌, ◌^◌, ◌<◌, ℕ, Bool, true, false, ◌||◌, List, [], ◌∷◌, ◌++◌, ap, append-nil, append_assoc, arith, codes, count_by, decimal, flat_map, fold, length, map, refl, sym, true≢false, cond}
use Rattle.std.specs.Prelude.{Option, Some, Result, Ok, ◌==◌, if◌then◌else◌}
use Rattle.std.specs.Cmp.Derive.{both_true}
use Rattle.std.specs.Cmp.Lexicographic.{pointwise}
use Rattle.std.specs.Str.{bytes_eq}
use Rattle.std.proofs.Math.Bool.{or-true}
use Rattle.std.proofs.lemmas.Fmt.{decimal_injective}
use Rattle.std.proofs.lemmas.List.{length-append, length-map}
use Rattle.std.proofs.lemmas.Slice.Eq.{bytes_eq-Decides}
use Rattle.smv_core.specs.declared.flat.Design.{Design}
use Rattle.smv_core.specs.declared.flat.Param.{Param}
use Rattle.smv_core.specs.declared.flat.Class.{Class}
use Rattle.smv_core.specs.declared.flat.Element.{Element}
use Rattle.smv_problem.specs.declared.problem.AbsValue.{AbsValue}
use Rattle.smv_problem.specs.declared.problem.AbsState.{AbsState}
use Rattle.smv_problem.specs.declared.report.Verdict.{Verdict}
use Rattle.smv_problem.specs.declared.report.Verdict.TheVariants as verdict
use Rattle.smv_problem.specs.declared.report.UnitResult.{UnitResult}
use Rattle.law_reports.specs.Lines.{case_line, class_text, classes_text, is_true, line, state_text, time_lines, values_text, verdict_lines, with_commas}
use Rattle.smv_read_report.specs.declared.line.Cells.{Cells}
use Rattle.smv_read_report.specs.declared.line.Line.{Line}
use Rattle.smv_read_report.specs.declared.line.Line.TheVariants.{True, Unknown, False, Case, Time, Proved, Other}
use Rattle.smv_read_report.specs.declared.reading.FalseUnit.{FalseUnit}
use Rattle.smv_read_report.specs.declared.reading.Due.{Due}
use Rattle.smv_read_report.specs.declared.reading.Due.TheVariants as due
use Rattle.smv_read_report.specs.declared.reading.Reading.{Reading}
use Rattle.smv_read_report.specs.declared.reading.ReportFault.{ReportFault}
use Rattle.smv_read_report.specs.Pieces.{is_word, led, pieces}
use Rattle.smv_read_report.specs.Lines.{line_of}
use Rattle.smv_read_report.specs.Reports.{after_state, at_unit, begun, followed, is_count, is_next, line_fault, read_from, with_line}
use Rattle.law_read_reports.specs.Shown.{AreReadable, AreSpelled, AreWords, IsSpelled, IsVerdict, element_name, shown, value_name, value_names}
use Rattle.law_read_reports.proofs.Bytes.{cut, lacks, same_bytes, same_names}
use Rattle.law_read_reports.proofs.Lines.{case_line_lacks, case_line_read, cell_texts, false_line, nodes_line, number_line_lacks, proved_line, proved_line_lacks, state_cells, steps_line, time_line_lacks, time_line_read, true_line, unit_line_lacks}

abbrev pub Read : Type 0
Read = Result (List FalseUnit) ReportFault

four : (a b c d : List ℕ) → ((a ++ b) ++ c) ++ d ≡ a ++ (b ++ (c ++ d))
four a b c d = simp append_assoc

-- ---- one line

more : (at : ℕ) (bytes : List ℕ) → (first : List ℕ) × (others : List (List ℕ)) × (pieces at bytes ≡ first ∷ others)
more at [] = ([], [], refl)
more at (b ∷ bytes) = of (b == at) (more at bytes)
  where
    of : (t : Bool) → (first : List ℕ) × (others : List (List ℕ)) × (pieces at bytes ≡ first ∷ others) → (first : List ℕ) × (others : List (List ℕ)) × ((if t then [] ∷ pieces at bytes else led (b ∷ []) (pieces at bytes)) ≡ first ∷ others)
    of true some = ([], pieces at bytes, refl)
    of false some = (b ∷ some.0, some.1, ap (led (b ∷ [])) some.2)

onward : (n : ℕ) (reading next : Reading) (l : List ℕ) (ps : List (List ℕ)) (first : List ℕ) (others : List (List ℕ)) → ps ≡ first ∷ others → with_line reading (line_of (pieces 32 l)) ≡ Some next → read_from n reading (l ∷ ps) ≡ read_from (n + 1) next ps
onward n reading next l ps first others is said =
    rw is (ap (λ (o : Option Reading). followed o (λ other. read_from (n + 1) other (first ∷ others)) (record { number = line_fault (line_of (pieces 32 l)); line = n })) said)

pub step : (n : ℕ) (reading next : Reading) (l rest : List ℕ) (result : Read) → lacks 10 l ≡ true → with_line reading (line_of (pieces 32 l)) ≡ Some next → ((m : ℕ) → read_from m next (pieces 10 rest) ≡ result) →
    read_from n reading (pieces 10 (line l ++ rest)) ≡ result
step n reading next l rest result none said later =
    let parted : pieces 10 (line l ++ rest) ≡ l ∷ pieces 10 rest = ap (pieces 10) (append_assoc l (10 ∷ []) rest) ∙ cut 10 l rest none in
    let some = more 10 rest in
    ap (read_from n reading) parted ∙ onward n reading next l (pieces 10 rest) some.0 some.1 some.2 said ∙ later (n + 1)

-- ---- a path

decimals_differ : (t last : ℕ) → t < 2 ^ 64 → last < 2 ^ 64 → t ≢ last → bytes_eq (decimal t) (decimal last) ≡ false
decimals_differ t last small few other = of (bytes_eq (decimal t) (decimal last)) refl
  where
    of : (b : Bool) → bytes_eq (decimal t) (decimal last) ≡ b → b ≡ false
    of false _ = refl
    of true same = let decides = bytes_eq-Decides (decimal t) (decimal last) in absurd (other (decimal_injective t last small few (decides.0 same)))

module _ (d : Design) where
  abbrev names_of : List Element → List (List ℕ)
  names_of elements = map (element_name d) elements

  texts_are : (elements : List Element) (values : List AbsValue) → values_text d elements values ≡ cell_texts (map (element_name d) elements) (value_names d elements values)
  texts_are [] values = refl
  texts_are (x ∷ elements) [] = refl
  texts_are (x ∷ elements) (v ∷ values) = ap (λ (texts : List (List ℕ)). (element_name d x ++ codes " = " ++ value_name d x v) ∷ texts) (texts_are elements values)

  state_is : (parts : List (List ℕ)) → state_text d parts ≡ state_cells parts
  state_is [] = refl
  state_is (part ∷ parts) = refl

  values_even : (elements : List Element) (values : List AbsValue) → length values ≡ length elements → length (value_names d elements values) ≡ length elements
  values_even [] values even = refl
  values_even (x ∷ elements) [] even = absurd (omega arith)
  values_even (x ∷ elements) (v ∷ values) even = let later : length (value_names d elements values) ≡ length elements = values_even elements values (omega arith) in omega arith

  abbrev time_text : List Element → ℕ → AbsState → List ℕ
  time_text elements t a = codes " time " ++ decimal t ++ codes ":" ++ state_text d (values_text d elements a.values)

  abbrev cells_in : List Element → AbsState → Cells
  cells_in elements a = record { elements = map (element_name d) elements; values = value_names d elements a.values }

  text_is : (elements : List Element) (t : ℕ) (a : AbsState) → time_text elements t a ≡ codes " time " ++ decimal t ++ codes ":" ++ state_cells (cell_texts (map (element_name d) elements) (value_names d elements a.values))
  text_is elements t a = ap (λ (cells : List ℕ). codes " time " ++ decimal t ++ codes ":" ++ cells) (ap (state_text d) (texts_are elements a.values) ∙ state_is (cell_texts (map (element_name d) elements) (value_names d elements a.values)))

  even : (elements : List Element) (a : AbsState) → IsSpelled d elements a → length (map (element_name d) elements) ≡ length (value_names d elements a.values)
  even elements a is = length-map elements (element_name d) ∙ sym (values_even elements a.values is.values)

  time_read : (elements : List Element) (t : ℕ) (a : AbsState) → AreWords (map (element_name d) elements) → IsSpelled d elements a → line_of (pieces 32 (time_text elements t a)) ≡ Time (decimal t) (cells_in elements a)
  time_read elements t a names is =
      ap (λ (text : List ℕ). line_of (pieces 32 text)) (text_is elements t a) ∙ time_line_read t (map (element_name d) elements) (value_names d elements a.values) (even elements a is) names is.words

  time_lacks : (elements : List Element) (t : ℕ) (a : AbsState) → AreWords (map (element_name d) elements) → IsSpelled d elements a → lacks 10 (time_text elements t a) ≡ true
  time_lacks elements t a names is = ap (lacks 10) (text_is elements t a) ∙ time_line_lacks t (map (element_name d) elements) (value_names d elements a.values) names is.words

  -- a unit whose path is read so far
  abbrev part : List ℕ → List (List ℕ) → List (List ℕ) → List (List (List ℕ)) → FalseUnit
  part name case elements states = record { name = name; case = case; elements = elements; states = states }

  abbrev states_of : List Element → List AbsState → List (List (List ℕ))
  states_of elements path = map (λ (a : AbsState). value_names d elements a.values) path

  abbrev at_due : List FalseUnit → List Bool → Due → Reading
  at_due found told due = record { found = found; told = told; due = due }

  time_said : (found : List FalseUnit) (told : List Bool) (name : List ℕ) (case before : List (List ℕ)) (elements : List Element) (last t : ℕ) (done : List (List (List ℕ))) (a : AbsState) →
      AreWords (map (element_name d) elements) → IsSpelled d elements a → length done ≡ t → (length done == 0 || pointwise bytes_eq before (map (element_name d) elements)) ≡ true →
      with_line (at_due found told (due.State (part name case before done) (decimal last))) (line_of (pieces 32 (time_text elements t a)))
      ≡ Some (after_state found told (part name case (map (element_name d) elements) (done ++ value_names d elements a.values ∷ [])) (bytes_eq (decimal t) (decimal last)) (decimal last))
  time_said found told name case before elements last t done a names is count same =
      let fits : is_next (part name case before done) (decimal t) (cells_in elements a) ≡ true = both_true (ap (λ (k : ℕ). bytes_eq (decimal t) (decimal k)) count ∙ same_bytes (decimal t)) same in
      ap (with_line (at_due found told (due.State (part name case before done) (decimal last)))) (time_read elements t a names is) ∙ rw fits refl

  path_read : (n : ℕ) (found : List FalseUnit) (told : List Bool) (name : List ℕ) (case before : List (List ℕ)) (elements : List Element) (last t : ℕ) (done : List (List (List ℕ))) (path : List AbsState) (rest : List ℕ) (result : Read) →
      AreWords (map (element_name d) elements) → AreSpelled d elements path → length done ≡ t → t + length path ≡ last + 1 → last < 2 ^ 64 → 0 < length path → (length done == 0 || pointwise bytes_eq before (map (element_name d) elements)) ≡ true →
      ((m : ℕ) → read_from m (at_due (found ++ part name case (map (element_name d) elements) (done ++ states_of elements path) ∷ []) told due.Unit) (pieces 10 rest) ≡ result) →
      read_from n (at_due found told (due.State (part name case before done) (decimal last))) (pieces 10 (time_lines d elements t path ++ rest)) ≡ result
  path_read n found told name case before elements last t done [] rest result names are count length_is few some same later = absurd (omega arith)
  path_read n found told name case before elements last t done (a ∷ []) rest result names are count length_is few some same later =
      let ends : t ≡ last = omega arith in
      let unit = part name case (map (element_name d) elements) (done ++ value_names d elements a.values ∷ []) in
      let last_time : bytes_eq (decimal t) (decimal last) ≡ true = ap (λ (k : ℕ). bytes_eq (decimal t) (decimal k)) (sym ends) ∙ same_bytes (decimal t) in
      ap (λ (text : List ℕ). read_from n (at_due found told (due.State (part name case before done) (decimal last))) (pieces 10 (text ++ rest))) (append-nil (line (time_text elements t a)))
      ∙ step n (at_due found told (due.State (part name case before done) (decimal last))) (at_due (found ++ unit ∷ []) told due.Unit) (time_text elements t a) rest result (time_lacks elements t a names are.0)
      (time_said found told name case before elements last t done a names are.0 count same ∙ ap (λ (b : Bool). Some (after_state found told unit b (decimal last))) last_time) later
  path_read n found told name case before elements last t done (a ∷ next ∷ path) rest result names are count length_is few some same later =
      let values = value_names d elements a.values in
      let unit = part name case (map (element_name d) elements) (done ++ values ∷ []) in
      let not_last : bytes_eq (decimal t) (decimal last) ≡ false = decimals_differ t last (omega arith) few (omega arith) in
      let longer : length (done ++ values ∷ []) ≡ t + 1 = length-append done (values ∷ []) ∙ ap (λ (k : ℕ). k + 1) count in
      let own : (length (done ++ values ∷ []) == 0 || pointwise bytes_eq (map (element_name d) elements) (map (element_name d) elements)) ≡ true
      = ap (λ (b : Bool). length (done ++ values ∷ []) == 0 || b) (same_names (map (element_name d) elements)) ∙ or-true (length (done ++ values ∷ []) == 0) in
      ap (λ (text : List ℕ). read_from n (at_due found told (due.State (part name case before done) (decimal last))) (pieces 10 text)) (append_assoc (line (time_text elements t a)) (time_lines d elements (t + 1) (next ∷ path)) rest)
      ∙ step n (at_due found told (due.State (part name case before done) (decimal last))) (at_due found told (due.State unit (decimal last))) (time_text elements t a) (time_lines d elements (t + 1) (next ∷ path) ++ rest) result (time_lacks elements t a names are.0)
      (time_said found told name case before elements last t done a names are.0 count same ∙ ap (λ (b : Bool). Some (after_state found told unit b (decimal last))) not_last)
      (λ m. path_read m found told name case (map (element_name d) elements) elements last (t + 1) (done ++ values ∷ []) (next ∷ path) rest result names are.1 longer (omega arith) few (omega arith) own
      (λ k. ap (λ (states : List (List (List ℕ))). read_from k (at_due (found ++ part name case (map (element_name d) elements) states ∷ []) told due.Unit) (pieces 10 rest)) (append_assoc done (values ∷ []) (states_of elements (next ∷ path))) ∙ later k))

  -- ---- a unit

  -- the line of a unit is due, or else the case of the unit before
  abbrev pub due_of : Bool → Due
  due_of true = due.Unit
  due_of false = due.Case

  abbrev not_case : Line → Bool
  not_case (Case classes) = false
  not_case _ = true

  as_unit : (b : Bool) (found : List FalseUnit) (told : List Bool) (l : Line) → not_case l ≡ true → with_line (at_due found told (due_of b)) l ≡ at_unit found told l
  as_unit true found told l is = refl
  as_unit false found told True is = refl
  as_unit false found told Unknown is = refl
  as_unit false found told (False name last) is = refl
  as_unit false found told (Case classes) is = absurd (true≢false (sym is))
  as_unit false found told (Time time cells) is = refl
  as_unit false found told (Proved proved units) is = refl
  as_unit false found told Other is = refl

  -- the case of an unknown unit
  case_read : (n : ℕ) (found : List FalseUnit) (told : List Bool) (params : List Param) (classes : List Class) (rest : List ℕ) (result : Read) → length classes ≡ length params → AreWords (classes_text d params classes) →
      ((m : ℕ) (b : Bool) → read_from m (at_due found told (due_of b)) (pieces 10 rest) ≡ result) → read_from n (at_due found told due.Case) (pieces 10 (case_line d params (record { classes = classes }) ++ rest)) ≡ result
  case_read n found told [] classes rest result fits words later = later n false
  case_read n found told (p ∷ params) [] rest result fits words later = absurd (omega arith)
  case_read n found told (p ∷ params) (c ∷ classes) rest result fits words later =
      let first = class_text d p.over c in
      let others = classes_text d params classes in
      step n (at_due found told due.Case) (at_due found told due.Unit) (codes " case " ++ with_commas (first ∷ others)) rest result (case_line_lacks (first ∷ others) words)
      (ap (with_line (at_due found told due.Case)) (case_line_read first others words)) (λ m. later m true)

  -- that of a false unit
  own_case : (n : ℕ) (found : List FalseUnit) (told : List Bool) (name last : List ℕ) (params : List Param) (classes : List Class) (rest : List ℕ) (result : Read) → length classes ≡ length params → AreWords (classes_text d params classes) →
      ((m : ℕ) → read_from m (at_due found told (due.State (part name (classes_text d params classes) [] []) last)) (pieces 10 rest) ≡ result) →
      read_from n (at_due found told (due.State (begun name) last)) (pieces 10 (case_line d params (record { classes = classes }) ++ rest)) ≡ result
  own_case n found told name last [] classes rest result fits words later = later n
  own_case n found told name last (p ∷ params) [] rest result fits words later = absurd (omega arith)
  own_case n found told name last (p ∷ params) (c ∷ classes) rest result fits words later =
      let first = class_text d p.over c in
      let others = classes_text d params classes in
      step n (at_due found told (due.State (begun name) last)) (at_due found told (due.State (part name (first ∷ others) [] []) last)) (codes " case " ++ with_commas (first ∷ others)) rest result (case_line_lacks (first ∷ others) words)
      (ap (with_line (at_due found told (due.State (begun name) last))) (case_line_read first others words)) later

  -- a unit whose line is this, and of which nothing is shown
  told_read : (n : ℕ) (found : List FalseUnit) (told : List Bool) (b : Bool) (is_so : Bool) (next : Due) (l back rest : List ℕ) (said : Line) (result : Read) → lacks 10 l ≡ true → line_of (pieces 32 l) ≡ said → not_case said ≡ true →
      at_unit found told said ≡ Some (at_due found (told ++ is_so ∷ []) next) →
      ((m : ℕ) → read_from m (at_due (found ++ []) (told ++ is_so ∷ []) next) (pieces 10 (back ++ rest)) ≡ result) → read_from n (at_due found told (due_of b)) (pieces 10 ((line l ++ back) ++ rest)) ≡ result
  told_read n found told b is_so next l back rest said result none says plain is later =
      ap (λ (text : List ℕ). read_from n (at_due found told (due_of b)) (pieces 10 text)) (append_assoc (line l) back rest)
      ∙ step n (at_due found told (due_of b)) (at_due (found ++ []) (told ++ is_so ∷ []) next) l (back ++ rest) result none
      (ap (with_line (at_due found told (due_of b))) says ∙ as_unit b found told said plain ∙ is ∙ ap (λ (f : List FalseUnit). Some (at_due f (told ++ is_so ∷ []) next)) (sym (append-nil found))) later

  unit_read : (n : ℕ) (found : List FalseUnit) (told : List Bool) (b : Bool) (name : List ℕ) (params : List Param) (v : Verdict) (rest : List ℕ) (result : Read) → is_word name ≡ true → IsVerdict d params v →
      ((m : ℕ) (other : Bool) → read_from m (at_due (found ++ shown d name params v) (told ++ is_true v ∷ []) (due_of other)) (pieces 10 rest) ≡ result) →
      read_from n (at_due found told (due_of b)) (pieces 10 (verdict_lines d name params v ++ rest)) ≡ result
  unit_read n found told b name params verdict.True rest result is fine later =
      step n (at_due found told (due_of b)) (at_due (found ++ []) (told ++ true ∷ []) due.Unit) (name ++ codes ": true") rest result (unit_line_lacks name (codes ": true") is refl)
      (ap (with_line (at_due found told (due_of b))) (true_line name is) ∙ as_unit b found told True refl ∙ ap (λ (f : List FalseUnit). Some (at_due f (told ++ true ∷ []) due.Unit)) (sym (append-nil found))) (λ m. later m true)
  unit_read n found told b name params (verdict.UnknownNodes case count) rest result is fine later =
      told_read n found told b false due.Case (name ++ codes ": unknown nodes " ++ decimal count) (case_line d params case) rest Unknown result (number_line_lacks name (codes ": unknown nodes ") count is refl)
      (nodes_line name count is) refl refl (λ m. case_read m (found ++ []) (told ++ false ∷ []) params case.classes rest result fine.classes fine.words later)
  unit_read n found told b name params (verdict.UnknownSteps case) rest result is fine later =
      told_read n found told b false due.Case (name ++ codes ": unknown steps") (case_line d params case) rest Unknown result (unit_line_lacks name (codes ": unknown steps") is refl)
      (steps_line name is) refl refl (λ m. case_read m (found ++ []) (told ++ false ∷ []) params case.classes rest result fine.classes fine.words later)
  unit_read n found told b name params (verdict.False case elements path) rest result is fine later =
      let last = length path - 1 in
      let l = name ++ codes ": false at " ++ decimal last in
      let times = time_lines d elements 0 path in
      let own = fine.0 in
      let way = fine.1 in
      let some : 0 < length path = way.some in
      let few : length path < 2 ^ 64 = way.few in
      ap (λ (text : List ℕ). read_from n (at_due found told (due_of b)) (pieces 10 text)) (four (line l) (case_line d params case) times rest)
      ∙ step n (at_due found told (due_of b)) (at_due found (told ++ false ∷ []) (due.State (begun name) (decimal last))) l (case_line d params case ++ (times ++ rest)) result (number_line_lacks name (codes ": false at ") last is refl)
      (ap (with_line (at_due found told (due_of b))) (false_line name last is) ∙ as_unit b found told (False name (decimal last)) refl)
      (λ m. own_case m found (told ++ false ∷ []) name (decimal last) params case.classes (times ++ rest) result own.classes own.words
      (λ k. path_read k found (told ++ false ∷ []) name (classes_text d params case.classes) [] elements last 0 [] path rest result way.names way.states refl (omega arith) (omega arith) some refl (λ j. later j true)))

  -- ---- all units

  units_read : (n : ℕ) (found : List FalseUnit) (told : List Bool) (b : Bool) (units : List UnitResult) (rest : List ℕ) (result : Read) → AreReadable d units →
      ((m : ℕ) (other : Bool) → read_from m (at_due (found ++ flat_map (λ u. shown d u.name u.params u.verdict) units) (told ++ map (λ u. is_true u.verdict) units) (due_of other)) (pieces 10 rest) ≡ result) →
      read_from n (at_due found told (due_of b)) (pieces 10 (flat_map (λ u. verdict_lines d u.name u.params u.verdict) units ++ rest)) ≡ result
  units_read n found told b [] rest result fine later =
      ap (λ (f : List FalseUnit). read_from n (at_due f told (due_of b)) (pieces 10 rest)) (sym (append-nil found)) ∙ ap (λ (t : List Bool). read_from n (at_due (found ++ []) t (due_of b)) (pieces 10 rest)) (sym (append-nil told)) ∙ later n b
  units_read n found told b (u ∷ units) rest result fine later =
      let others = flat_map (λ (u : UnitResult). verdict_lines d u.name u.params u.verdict) units in
      let more_found = flat_map (λ (u : UnitResult). shown d u.name u.params u.verdict) units in
      let more_told = map (λ (u : UnitResult). is_true u.verdict) units in
      let own = shown d u.name u.params u.verdict in
      let so = is_true u.verdict in
      ap (λ (text : List ℕ). read_from n (at_due found told (due_of b)) (pieces 10 text)) (append_assoc (verdict_lines d u.name u.params u.verdict) others rest)
      ∙ unit_read n found told b u.name u.params u.verdict (others ++ rest) result fine.0 fine.1
      (λ m other. units_read m (found ++ own) (told ++ so ∷ []) other units rest result fine.2
      (λ k third.
      ap (λ (f : List FalseUnit). read_from k (at_due f ((told ++ so ∷ []) ++ more_told) (due_of third)) (pieces 10 rest)) (append_assoc found own more_found)
      ∙ ap (λ (t : List Bool). read_from k (at_due (found ++ (own ++ more_found)) t (due_of third)) (pieces 10 rest)) (append_assoc told (so ∷ []) more_told) ∙ later k third))

  counted_from : (k : ℕ) (units : List UnitResult) →
      fold (λ (count : ℕ) (b : Bool). count + cond b 1 0) k (map (λ (u : UnitResult). is_true u.verdict) units) ≡ fold (λ (count : ℕ) (u : UnitResult). count + cond (is_true u.verdict) 1 0) k units
  counted_from k [] = refl
  counted_from k (u ∷ units) = counted_from (k + cond (is_true u.verdict) 1 0) units

  counted : (units : List UnitResult) → count_by (λ b. b) (map (λ (u : UnitResult). is_true u.verdict) units) ≡ count_by (λ (u : UnitResult). is_true u.verdict) units
  counted units = counted_from 0 units

  pub all_read : (units : List UnitResult) → AreReadable d units →
      read_from 1 (at_due [] [] due.Unit) (pieces 10 (flat_map (λ u. verdict_lines d u.name u.params u.verdict) units ++ line (codes "proved " ++ decimal (count_by (λ (u : UnitResult). is_true u.verdict) units) ++ codes " of " ++ decimal (length units))))
      ≡ Ok (flat_map (λ u. shown d u.name u.params u.verdict) units)
  all_read units fine =
      let k = count_by (λ (u : UnitResult). is_true u.verdict) units in
      let l = codes "proved " ++ decimal k ++ codes " of " ++ decimal (length units) in
      let found = flat_map (λ (u : UnitResult). shown d u.name u.params u.verdict) units in
      let told = map (λ (u : UnitResult). is_true u.verdict) units in
      let count : is_count told (decimal k) (decimal (length units)) ≡ true
      = both_true (ap (λ (j : ℕ). bytes_eq (decimal k) (decimal j)) (counted units) ∙ same_bytes (decimal k)) (ap (λ (j : ℕ). bytes_eq (decimal (length units)) (decimal j)) (length-map units (λ (u : UnitResult). is_true u.verdict)) ∙ same_bytes (decimal (length units))) in
      units_read 1 [] [] true units (line l) (Ok found) fine
      (λ m other. ap (λ (text : List ℕ). read_from m (at_due found told (due_of other)) (pieces 10 text)) (sym (append-nil (line l)))
      ∙ step m (at_due found told (due_of other)) (at_due found told due.Nothing) l [] (Ok found) (proved_line_lacks k (length units))
      (ap (with_line (at_due found told (due_of other))) (proved_line k (length units)) ∙ as_unit other found told (Proved (decimal k) (decimal (length units))) refl ∙ rw count refl) (λ j. refl))
