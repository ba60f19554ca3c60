-- Parts behind a separator: what is left to write of parts with commas between them. And lists that end before others.
use Rattle.std.proofs.Common.{◌≡◌, ◌∙◌, ◌<◌, ℕ, List, [], ◌∷◌, ◌++◌, ap, append-nil, append_assoc, arith, codes, drop, get_or, length, refl, sym}
use Rattle.smv_waveforms.specs.declared.values.Kind.{Kind}
use Rattle.smv_waveforms.specs.Values.{kinds_with}
use Rattle.std.specs.Prelude.{◌&&◌}
use Rattle.std.specs.List.{list_all}
use Rattle.smv_waveforms.specs.Vcd.{case_lines, change_lines, comment_line, is_letter, is_name_byte, is_simple, line, state_lines, var_lines, with_commas}

abbrev pub behind : List ℕ → List (List ℕ) → List ℕ
behind separator [] = []
behind separator (part ∷ parts) = separator ++ with_commas (part ∷ parts)

pub one_more : (separator part : List ℕ) (parts : List (List ℕ)) → behind separator (part ∷ parts) ≡ separator ++ (part ++ behind (codes ", ") parts)
one_more separator part [] = ap (λ k. separator ++ k) (sym (append-nil part))
one_more separator part (other ∷ parts) = ap (λ k. separator ++ k) (append_assoc part (codes ", ") (with_commas (other ∷ parts)))

pub without : (parts : List (List ℕ)) → behind [] parts ≡ with_commas parts
without [] = refl
without (part ∷ parts) = refl

pub no_kinds : (kinds : List Kind) (values : List (List ℕ)) → length values < 1 → kinds_with kinds values ≡ []
no_kinds [] [] few = refl
no_kinds (kind ∷ kinds) [] few = refl
no_kinds kinds (value ∷ values) few = absurd (omega arith)

pub no_vars : (n : ℕ) (kinds : List Kind) (elements : List (List ℕ)) → length elements < 1 → var_lines n kinds elements ≡ []
no_vars n [] [] few = refl
no_vars n (kind ∷ kinds) [] few = refl
no_vars n kinds (element ∷ elements) few = absurd (omega arith)

pub no_values : (n : ℕ) (kinds : List Kind) (values : List (List ℕ)) → length values < 1 → state_lines n kinds values ≡ []
no_values n [] [] few = refl
no_values n (kind ∷ kinds) [] few = refl
no_values n kinds (value ∷ values) few = absurd (omega arith)

pub no_olds : (n : ℕ) (kinds : List Kind) (olds news : List (List ℕ)) → length olds < 1 → change_lines n kinds olds news ≡ []
no_olds n [] [] news few = refl
no_olds n (kind ∷ kinds) [] news few = refl
no_olds n kinds (old ∷ olds) news few = absurd (omega arith)

pub no_news : (n : ℕ) (kinds : List Kind) (olds news : List (List ℕ)) → length news < 1 → change_lines n kinds olds news ≡ []
no_news n [] olds [] few = refl
no_news n (kind ∷ kinds) [] [] few = refl
no_news n (kind ∷ kinds) (old ∷ olds) [] few = refl
no_news n kinds olds (new ∷ news) few = absurd (omega arith)

-- ---- the first list ends

pub empty_kinds : (kinds : List Kind) (values : List (List ℕ)) → length kinds < 1 → kinds_with kinds values ≡ []
empty_kinds [] values few = refl
empty_kinds (kind ∷ kinds) values few = absurd (omega arith)

pub empty_vars : (n : ℕ) (kinds : List Kind) (elements : List (List ℕ)) → length kinds < 1 → var_lines n kinds elements ≡ []
empty_vars n [] elements few = refl
empty_vars n (kind ∷ kinds) elements few = absurd (omega arith)

pub empty_values : (n : ℕ) (kinds : List Kind) (values : List (List ℕ)) → length kinds < 1 → state_lines n kinds values ≡ []
empty_values n [] values few = refl
empty_values n (kind ∷ kinds) values few = absurd (omega arith)

pub empty_changes : (n : ℕ) (kinds : List Kind) (olds news : List (List ℕ)) → length kinds < 1 → change_lines n kinds olds news ≡ []
empty_changes n [] olds news few = refl
empty_changes n (kind ∷ kinds) olds news few = absurd (omega arith)

-- what is written is all, where nothing is left
pub all_written : {A : Type 0} (out rest whole : List A) → rest ≡ [] → out ++ rest ≡ whole → out ≡ whole
all_written out rest whole none same = sym (append-nil out) ∙ ap (λ back. out ++ back) (sym none) ∙ same

-- ---- names and cases

pub simple_step : (name : List ℕ) → 0 < length name → is_simple name ≡ (is_letter (get_or name 0 0) && list_all is_name_byte (drop 1 name))
simple_step [] some = absurd (omega arith)
simple_step (b ∷ name) some = refl

pub case_some : (classes : List (List ℕ)) → 0 < length classes → case_lines classes ≡ comment_line classes
case_some [] some = absurd (omega arith)
case_some (part ∷ parts) some = refl

-- ---- texts written part by part

three : (out a b c d : List ℕ) → (((out ++ a) ++ b) ++ c) ++ d ≡ out ++ (((a ++ b) ++ c) ++ d)
three out a b c d = simp append_assoc

pub line_written : (out one two third whole a b c : List ℕ) → one ≡ out ++ a → two ≡ one ++ b → third ≡ two ++ c → whole ≡ third ++ 10 ∷ [] → whole ≡ out ++ line ((a ++ b) ++ c)
line_written out one two third whole a b c first second next last = rw (last, next, second, first) (three out a b c (10 ∷ []))

pub scope_written : (out one two third whole a b c d : List ℕ) → one ≡ out ++ a → two ≡ one ++ b → third ≡ two ++ c → whole ≡ third ++ d → whole ≡ out ++ (((a ++ b) ++ c) ++ d)
scope_written out one two third whole a b c d first second next last = rw (last, next, second, first) (three out a b c d)
