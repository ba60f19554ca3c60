-- How the values of an element are dumped: as numbers or as texts, under a code of its own.
use Rattle.std.specs.Prelude.{ℕ, zero, suc, ◌+◌, ◌-◌, ◌*◌, ◌/◌, ◌%◌, ◌==◌, ◌&&◌, max, nat_le, List, [], ◌∷◌, ◌++◌, map, fold, length, codes, Option, Some, None, Bool, true, false, if◌then◌else◌}
use Rattle.std.specs.Fmt.{digits}
use Rattle.smv_read_report.specs.Pieces.{is_numeral}
use Rattle.smv_read_report.specs.declared.reading.FalseUnit.{FalseUnit}
use Rattle.smv_waveforms.specs.declared.values.Kind.{Kind}
use Rattle.smv_waveforms.specs.declared.values.Kind.TheVariants.{Bits, Text}

-- the number that digits spell
abbrev pub number_of : List ℕ → ℕ
number_of value = fold (λ number digit. 10 * number + (digit - 48)) 0 value

-- a numeral of sixteen bits at most, as all numbers of a report are
abbrev pub number_in : List ℕ → Option ℕ
number_in value = if is_numeral value && nat_le (number_of value) 65535 then Some (number_of value) else None

-- a number in base 2
abbrev pub bits : ℕ → List ℕ
bits number = digits 2 false number

-- so many bits as one more value needs too, or a text where that value is no number
abbrev pub widened : ℕ → Option ℕ → Kind
widened width (Some number) = Bits (max width (length (bits number)))
widened width None = Text

abbrev pub kind_with : Kind → List ℕ → Kind
kind_with (Bits width) value = widened width (number_in value)
kind_with Text value = Text

abbrev pub kinds_with : List Kind → List (List ℕ) → List Kind
kinds_with (kind ∷ kinds) (value ∷ values) = kind_with kind value ∷ kinds_with kinds values
kinds_with _ _ = []

-- the kinds of the elements of a unit: bits, as many as the greatest value on the path needs, where all values are numbers, and texts otherwise
abbrev pub kinds_of : FalseUnit → List Kind
kinds_of unit = fold kinds_with (map (λ _. Bits 1) unit.elements) unit.states

-- the digits of a number in base 94, the least first, as the printable bytes from 33 to 126
abbrev pub code_digits : ℕ → ℕ → List ℕ
code_digits zero number = []
code_digits (suc places) number = (33 + number % 94) ∷ (if number / 94 == 0 then [] else code_digits places (number / 94))

-- the code of the element of this number, which is below 94 ^ 10
unfoldable pub code_of : ℕ → List ℕ
code_of number = code_digits 10 number

abbrev pub number_text : Bool → List ℕ → List ℕ → List ℕ
number_text true digits code = digits ++ code
number_text false digits code = codes "b" ++ digits ++ codes " " ++ code

abbrev pub text_text : List ℕ → List ℕ → List ℕ
text_text value code = codes "s" ++ value ++ codes " " ++ code

abbrev pub number_or_text : ℕ → Option ℕ → List ℕ → List ℕ → List ℕ
number_or_text width (Some number) value code = number_text (width == 1) (bits number) code
number_or_text width None value code = text_text value code

-- a value of an element: one bit, bits behind `b`, or a text behind `s`
abbrev pub value_text : Kind → List ℕ → List ℕ → List ℕ
value_text (Bits width) value code = number_or_text width (number_in value) value code
value_text Text value code = text_text value code
