-- What the lines of a report say, read back.
use Rattle.std.proofs.Common.{◌≡◌, ◌∙◌, ℕ, Bool, true, false, List, [], ◌∷◌, ◌++◌, ap, append_assoc, arith, codes, decimal, length, refl, sym}
use Rattle.std.specs.Prelude.{Some, None, ◌==◌}
use Rattle.std.specs.List.{list_all}
use Rattle.std.specs.Cmp.Derive.{both_true}
use Rattle.std.specs.Str.{bytes_eq}
use Rattle.std.proofs.lemmas.Slice.Eq.{bytes_eq-Decides}
use Rattle.std.proofs.Math.Dec.{eqb-suc-zero}
use Rattle.law_lists.proofs.Booleans.{left_of, right_of}
use Rattle.law_reports.specs.Lines.{with_commas}
use Rattle.smv_read_report.specs.declared.line.Line.TheVariants.{True, Unknown, False, Case, Time, Proved}
use Rattle.smv_read_report.specs.Pieces.{is_word, pieces, without_last}
use Rattle.smv_read_report.specs.Lines.{before, case_of, case_with, cells_of, line_of, verdict_of, words_of}
use Rattle.law_read_reports.proofs.Bytes.{cut, cut_behind, decimal_lacks, lacks, lacks_both, numeral, whole, with_last, word_lacks}

-- ---- lines of units

no_length : (name : List ℕ) → (length (name ++ 58 ∷ []) == 0) ≡ false
no_length [] = refl
no_length (b ∷ name) = eqb-suc-zero (length (name ++ 58 ∷ []))

none_some : {A : Type 0} {a : A} → None ≡ Some a → ⊥
none_some same = cc

not_proved : (name : List ℕ) → bytes_eq (name ++ 58 ∷ []) (codes "proved") ≡ false
not_proved name = of (bytes_eq (name ++ 58 ∷ []) (codes "proved")) refl
  where
    of : (t : Bool) → bytes_eq (name ++ 58 ∷ []) (codes "proved") ≡ t → t ≡ false
    of false _ = refl
    of true same =
        let decides = bytes_eq-Decides (name ++ 58 ∷ []) (codes "proved") in
        absurd (none_some (ap (without_last 58) (sym (decides.0 same)) ∙ with_last 58 name))

-- `NAME:` before other pieces
headed : (name : List ℕ) (rest : List (List ℕ)) → is_word name ≡ true → line_of ((name ++ 58 ∷ []) ∷ rest) ≡ verdict_of name rest
headed name rest is = rw (no_length name) (rw (not_proved name) (rw (with_last 58 name) (rw is refl)))

in_pieces : (name rest : List ℕ) → is_word name ≡ true → pieces 32 (name ++ 58 ∷ 32 ∷ rest) ≡ (name ++ 58 ∷ []) ∷ pieces 32 rest
in_pieces name rest is = cut_behind 32 name 58 rest (lacks_both 32 name (58 ∷ []) (word_lacks 32 refl name is) refl)

unit_line : (name rest : List ℕ) → is_word name ≡ true → line_of (pieces 32 (name ++ 58 ∷ 32 ∷ rest)) ≡ verdict_of name (pieces 32 rest)
unit_line name rest is = ap line_of (in_pieces name rest is) ∙ headed name (pieces 32 rest) is

number_whole : (n : ℕ) → pieces 32 (decimal n) ≡ decimal n ∷ []
number_whole n = whole 32 (decimal n) (decimal_lacks 32 refl n)

pub true_line : (name : List ℕ) → is_word name ≡ true → line_of (pieces 32 (name ++ codes ": true")) ≡ True
true_line name is = unit_line name (codes "true") is

pub steps_line : (name : List ℕ) → is_word name ≡ true → line_of (pieces 32 (name ++ codes ": unknown steps")) ≡ Unknown
steps_line name is = unit_line name (codes "unknown steps") is

pub nodes_line : (name : List ℕ) (count : ℕ) → is_word name ≡ true → line_of (pieces 32 (name ++ codes ": unknown nodes " ++ decimal count)) ≡ Unknown
nodes_line name count is =
    ap (λ (text : List ℕ). line_of (pieces 32 text)) (append_assoc name (codes ": unknown nodes ") (decimal count)) ∙ unit_line name (codes "unknown nodes " ++ decimal count) is ∙ rw (number_whole count) (rw (numeral count) refl)

pub false_line : (name : List ℕ) (last : ℕ) → is_word name ≡ true → line_of (pieces 32 (name ++ codes ": false at " ++ decimal last)) ≡ False name (decimal last)
false_line name last is =
    ap (λ (text : List ℕ). line_of (pieces 32 text)) (append_assoc name (codes ": false at ") (decimal last)) ∙ unit_line name (codes "false at " ++ decimal last) is ∙ rw (number_whole last) (rw (numeral last) refl)

-- `proved K of M`
pub proved_line : (k m : ℕ) → line_of (pieces 32 (codes "proved " ++ decimal k ++ codes " of " ++ decimal m)) ≡ Proved (decimal k) (decimal m)
proved_line k m =
    let apart : (decimal k ++ codes " of ") ++ decimal m ≡ decimal k ++ (codes " of " ++ decimal m) = append_assoc (decimal k) (codes " of ") (decimal m) in
    rw apart (rw (cut 32 (decimal k) (codes "of " ++ decimal m) (decimal_lacks 32 refl k)) (rw (number_whole m) refl))

-- ---- cases

-- words as pieces: each but the last ends with a comma
abbrev pub apart : List (List ℕ) → List (List ℕ)
apart [] = []
apart (word ∷ []) = word ∷ []
apart (word ∷ other ∷ words) = (word ++ 44 ∷ []) ∷ apart (other ∷ words)

with_comma : (word : List ℕ) → is_word word ≡ true → lacks 32 (word ++ 44 ∷ []) ≡ true
with_comma word is = lacks_both 32 word (44 ∷ []) (word_lacks 32 refl word is) refl

words_apart : (word : List ℕ) (words : List (List ℕ)) → list_all is_word (word ∷ words) ≡ true → pieces 32 (with_commas (word ∷ words)) ≡ apart (word ∷ words)
words_apart word [] are = whole 32 word (word_lacks 32 refl word (left_of (is_word word) true are))
words_apart word (other ∷ words) are =
    let is : is_word word ≡ true = left_of (is_word word) (list_all is_word (other ∷ words)) are in
    let later : pieces 32 (with_commas (other ∷ words)) ≡ apart (other ∷ words) = words_apart other words (right_of (is_word word) (list_all is_word (other ∷ words)) are) in
    ap (pieces 32) (append_assoc word (codes ", ") (with_commas (other ∷ words))) ∙ cut_behind 32 word 44 (with_commas (other ∷ words)) (with_comma word is) ∙ ap (λ (rest : List (List ℕ)). (word ++ 44 ∷ []) ∷ rest) later

before_apart : (other : List ℕ) (words : List (List ℕ)) (piece : List ℕ) → before (apart (other ∷ words)) piece ≡ without_last 44 piece
before_apart other [] piece = refl
before_apart other (word ∷ words) piece = refl

words_read : (words : List (List ℕ)) → list_all is_word words ≡ true → words_of (apart words) ≡ Some words
words_read [] are = refl
words_read (word ∷ []) are = rw (left_of (is_word word) true are) refl
words_read (word ∷ other ∷ words) are =
    let is : is_word word ≡ true = left_of (is_word word) (list_all is_word (other ∷ words)) are in
    let later : words_of (apart (other ∷ words)) ≡ Some (other ∷ words) = words_read (other ∷ words) (right_of (is_word word) (list_all is_word (other ∷ words)) are) in
    rw (before_apart other words (word ++ 44 ∷ [])) (rw (with_last 44 word) (rw is (rw later refl)))

case_apart : (word : List ℕ) (words : List (List ℕ)) → case_of (apart (word ∷ words)) ≡ case_with (words_of (apart (word ∷ words)))
case_apart word [] = refl
case_apart word (other ∷ words) = refl

-- ` case v1, v2`
pub case_line_read : (word : List ℕ) (words : List (List ℕ)) → list_all is_word (word ∷ words) ≡ true → line_of (pieces 32 (codes " case " ++ with_commas (word ∷ words))) ≡ Case (word ∷ words)
case_line_read word words are = rw (words_apart word words are) (case_apart word words ∙ ap case_with (words_read (word ∷ words) are))

-- ---- states

-- a value before others
abbrev pub followed_by : List (List ℕ) → List ℕ → List ℕ
followed_by [] value = value
followed_by (_ ∷ _) value = value ++ 44 ∷ []

abbrev pub cells_apart : List (List ℕ) → List (List ℕ) → List (List ℕ)
cells_apart (element ∷ elements) (value ∷ values) = element ∷ codes "=" ∷ followed_by values value ∷ cells_apart elements values
cells_apart _ _ = []

abbrev pub cell_texts : List (List ℕ) → List (List ℕ) → List (List ℕ)
cell_texts (element ∷ elements) (value ∷ values) = (element ++ codes " = " ++ value) ∷ cell_texts elements values
cell_texts _ _ = []

one_cell : (element rest : List ℕ) → is_word element ≡ true → pieces 32 (element ++ (codes " = " ++ rest)) ≡ element ∷ codes "=" ∷ pieces 32 rest
one_cell element rest is = cut 32 element (codes "= " ++ rest) (word_lacks 32 refl element is)

five : (a b c d e : List ℕ) → (((a ++ b) ++ c) ++ d) ++ e ≡ a ++ (b ++ (c ++ (d ++ e)))
five a b c d e = simp append_assoc

pub cells_cut : (element : List ℕ) (elements : List (List ℕ)) (value : List ℕ) (values : List (List ℕ)) → length elements ≡ length values → list_all is_word (element ∷ elements) ≡ true → list_all is_word (value ∷ values) ≡ true →
    pieces 32 (with_commas (cell_texts (element ∷ elements) (value ∷ values))) ≡ cells_apart (element ∷ elements) (value ∷ values)
cells_cut element [] value [] even names words =
    ap (pieces 32) (append_assoc element (codes " = ") value) ∙ one_cell element value (left_of (is_word element) true names)
    ∙ ap (λ (rest : List (List ℕ)). element ∷ codes "=" ∷ rest) (whole 32 value (word_lacks 32 refl value (left_of (is_word value) true words)))
cells_cut element [] value (other ∷ values) even names words = absurd (omega arith)
cells_cut element (other ∷ elements) value [] even names words = absurd (omega arith)
cells_cut element (next ∷ elements) value (other ∷ values) even names words =
    let rest = with_commas (cell_texts (next ∷ elements) (other ∷ values)) in
    let later : pieces 32 rest ≡ cells_apart (next ∷ elements) (other ∷ values)
    = cells_cut next elements other values (omega arith) (right_of (is_word element) (list_all is_word (next ∷ elements)) names) (right_of (is_word value) (list_all is_word (other ∷ values)) words) in
    let is : is_word value ≡ true = left_of (is_word value) (list_all is_word (other ∷ values)) words in
    let joined : ((((element ++ codes " = ") ++ value) ++ codes ", ") ++ rest) ≡ element ++ (codes " = " ++ (value ++ (codes ", " ++ rest))) = five element (codes " = ") value (codes ", ") rest in
    ap (pieces 32) joined
    ∙ one_cell element (value ++ (codes ", " ++ rest)) (left_of (is_word element) (list_all is_word (next ∷ elements)) names)
    ∙ ap (λ (more : List (List ℕ)). element ∷ codes "=" ∷ more) (cut_behind 32 value 44 rest (with_comma value is))
    ∙ ap (λ (more : List (List ℕ)). element ∷ codes "=" ∷ (value ++ 44 ∷ []) ∷ more) later

before_cells : (elements : List (List ℕ)) (value : List ℕ) (values : List (List ℕ)) → length elements ≡ length values → before (cells_apart elements values) (followed_by values value) ≡ Some value
before_cells [] value [] even = refl
before_cells [] value (other ∷ values) even = absurd (omega arith)
before_cells (element ∷ elements) value [] even = absurd (omega arith)
before_cells (element ∷ elements) value (other ∷ values) even = with_last 44 value

pub cells_read : (elements values : List (List ℕ)) → length elements ≡ length values → list_all is_word elements ≡ true → list_all is_word values ≡ true → cells_of (cells_apart elements values) ≡ Some (record { elements = elements; values = values })
cells_read [] [] even names words = refl
cells_read [] (value ∷ values) even names words = absurd (omega arith)
cells_read (element ∷ elements) [] even names words = absurd (omega arith)
cells_read (element ∷ elements) (value ∷ values) even names words =
    let later : cells_of (cells_apart elements values) ≡ Some (record { elements = elements; values = values })
    = cells_read elements values (omega arith) (right_of (is_word element) (list_all is_word elements) names) (right_of (is_word value) (list_all is_word values) words) in
    rw (before_cells elements value values (omega arith))
    (rw (left_of (is_word element) (list_all is_word elements) names) (rw (left_of (is_word value) (list_all is_word values) words) (rw later refl)))

-- ` time t: e1 = v1, e2 = v2`, behind ` time`
abbrev pub state_cells : List (List ℕ) → List ℕ
state_cells [] = []
state_cells (part ∷ parts) = codes " " ++ with_commas (part ∷ parts)

time_cells : (t : ℕ) (elements values : List (List ℕ)) → length elements ≡ length values → list_all is_word elements ≡ true → list_all is_word values ≡ true →
    pieces 32 (decimal t ++ 58 ∷ state_cells (cell_texts elements values)) ≡ (decimal t ++ 58 ∷ []) ∷ cells_apart elements values
time_cells t [] [] even names words = whole 32 (decimal t ++ 58 ∷ []) (lacks_both 32 (decimal t) (58 ∷ []) (decimal_lacks 32 refl t) refl)
time_cells t [] (value ∷ values) even names words = absurd (omega arith)
time_cells t (element ∷ elements) [] even names words = absurd (omega arith)
time_cells t (element ∷ elements) (value ∷ values) even names words =
    cut_behind 32 (decimal t) 58 (with_commas (cell_texts (element ∷ elements) (value ∷ values))) (lacks_both 32 (decimal t) (58 ∷ []) (decimal_lacks 32 refl t) refl)
    ∙ ap (λ (more : List (List ℕ)). (decimal t ++ 58 ∷ []) ∷ more) (cells_cut element elements value values (omega arith) names words)

pub time_line_read : (t : ℕ) (elements values : List (List ℕ)) → length elements ≡ length values → list_all is_word elements ≡ true → list_all is_word values ≡ true →
    line_of (pieces 32 (codes " time " ++ decimal t ++ codes ":" ++ state_cells (cell_texts elements values))) ≡ Time (decimal t) (record { elements = elements; values = values })
time_line_read t elements values even names words =
    let apart : (decimal t ++ codes ":") ++ state_cells (cell_texts elements values) ≡ decimal t ++ (codes ":" ++ state_cells (cell_texts elements values)) = append_assoc (decimal t) (codes ":") (state_cells (cell_texts elements values)) in
    rw apart (rw (time_cells t elements values even names words) (rw (with_last 58 (decimal t)) (rw (cells_read elements values even names words) refl)))

-- ---- no line feed within a line

word_line : (word : List ℕ) → is_word word ≡ true → lacks 10 word ≡ true
word_line word is = word_lacks 10 refl word is

words_line : (words : List (List ℕ)) → list_all is_word words ≡ true → list_all (lacks 10) words ≡ true
words_line [] are = refl
words_line (word ∷ words) are = both_true (word_line word (left_of (is_word word) (list_all is_word words) are)) (words_line words (right_of (is_word word) (list_all is_word words) are))

commas_line : (parts : List (List ℕ)) → list_all (lacks 10) parts ≡ true → lacks 10 (with_commas parts) ≡ true
commas_line [] none = refl
commas_line (part ∷ []) none = left_of (lacks 10 part) true none
commas_line (part ∷ other ∷ parts) none =
    lacks_both 10 (part ++ codes ", ") (with_commas (other ∷ parts)) (lacks_both 10 part (codes ", ") (left_of (lacks 10 part) (list_all (lacks 10) (other ∷ parts)) none) refl) (commas_line (other ∷ parts) (right_of (lacks 10 part) (list_all (lacks 10) (other ∷ parts)) none))

cells_line : (elements values : List (List ℕ)) → list_all is_word elements ≡ true → list_all is_word values ≡ true → list_all (lacks 10) (cell_texts elements values) ≡ true
cells_line [] values names words = refl
cells_line (element ∷ elements) [] names words = refl
cells_line (element ∷ elements) (value ∷ values) names words =
    both_true (lacks_both 10 (element ++ codes " = ") value (lacks_both 10 element (codes " = ") (word_line element (left_of (is_word element) (list_all is_word elements) names)) refl) (word_line value (left_of (is_word value) (list_all is_word values) words)))
    (cells_line elements values (right_of (is_word element) (list_all is_word elements) names) (right_of (is_word value) (list_all is_word values) words))

state_line : (parts : List (List ℕ)) → list_all (lacks 10) parts ≡ true → lacks 10 (state_cells parts) ≡ true
state_line [] none = refl
state_line (part ∷ parts) none = commas_line (part ∷ parts) none

pub case_line_lacks : (words : List (List ℕ)) → list_all is_word words ≡ true → lacks 10 (codes " case " ++ with_commas words) ≡ true
case_line_lacks words are = commas_line words (words_line words are)

pub time_line_lacks : (t : ℕ) (elements values : List (List ℕ)) → list_all is_word elements ≡ true → list_all is_word values ≡ true → lacks 10 (codes " time " ++ decimal t ++ codes ":" ++ state_cells (cell_texts elements values)) ≡ true
time_line_lacks t elements values names words =
    lacks_both 10 (decimal t ++ codes ":") (state_cells (cell_texts elements values)) (lacks_both 10 (decimal t) (codes ":") (decimal_lacks 10 refl t) refl) (state_line (cell_texts elements values) (cells_line elements values names words))

pub unit_line_lacks : (name rest : List ℕ) → is_word name ≡ true → lacks 10 rest ≡ true → lacks 10 (name ++ rest) ≡ true
unit_line_lacks name rest is none = lacks_both 10 name rest (word_line name is) none

pub number_line_lacks : (name rest : List ℕ) (n : ℕ) → is_word name ≡ true → lacks 10 rest ≡ true → lacks 10 ((name ++ rest) ++ decimal n) ≡ true
number_line_lacks name rest n is none = lacks_both 10 (name ++ rest) (decimal n) (unit_line_lacks name rest is none) (decimal_lacks 10 refl n)

pub proved_line_lacks : (k m : ℕ) → lacks 10 (codes "proved " ++ decimal k ++ codes " of " ++ decimal m) ≡ true
proved_line_lacks k m = lacks_both 10 (decimal k ++ codes " of ") (decimal m) (lacks_both 10 (decimal k) (codes " of ") (decimal_lacks 10 refl k) refl) (decimal_lacks 10 refl m)
