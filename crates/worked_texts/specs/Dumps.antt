-- Worked dumps.
use Rattle.std.specs.Prelude.{◌≡◌, ℕ, List, [], ◌∷◌, ◌++◌, codes}
use Rattle.std.specs.List.{flat_map}
use Rattle.smv_read_report.specs.Reports.{report_of}
use Rattle.smv_waveforms.specs.Values.{code_of}
use Rattle.smv_waveforms.specs.Vcd.{line}
use Rattle.smv_wave_run.specs.Dues.{answer_for}

-- a text by its lines
abbrev pub written : List (List ℕ) → List ℕ
written lines = flat_map line lines

-- the answer to a report of these lines
abbrev pub answer : List (List ℕ) → List ℕ
answer lines = answer_for (report_of (written lines))

-- one false unit: a bit, a number of three bits, which is dumped only where it changes, and what is no number
abbrev pub OneUnit : Type 0
OneUnit =
    answer (codes "bus//lem: false at 2" ∷ codes " case #0, *" ∷ codes " time 0: go = 0, st.tag[#0] = #0, n = 0" ∷ codes " time 1: go = 1, st.tag[#0] = *, n = 5" ∷ codes " time 2: go = 1, st.tag[#0] = *, n = 4" ∷ codes "proved 0 of 1" ∷ [])
    ≡ written (codes "$version smv_wave $end" ∷ codes "$timescale 1 ns $end" ∷ codes "$scope module \\bus//lem $end" ∷ codes "$comment case #0, * $end" ∷ codes "$var wire 1 ! go $end"
    ∷ codes "$var string 1 \" \\st.tag[#0] $end" ∷ codes "$var wire 3 # n $end" ∷ codes "$upscope $end" ∷ codes "$enddefinitions $end"
    ∷ codes "#0" ∷ codes "$dumpvars" ∷ codes "0!" ∷ codes "s#0 \"" ∷ codes "b0 #" ∷ codes "$end" ∷ codes "#1" ∷ codes "1!" ∷ codes "s* \"" ∷ codes "b101 #" ∷ codes "#2" ∷ codes "b100 #" ∷ codes "#3" ∷ [])

-- several units: those that are false stand side by side from time 0 on, and codes go on from one to the next
abbrev pub Several : Type 0
Several =
    answer (codes "a: unknown nodes 1001" ∷ codes " case 3" ∷ codes "p: false at 0" ∷ codes " time 0: x = 1" ∷ codes "b: true" ∷ codes "q: false at 1" ∷ codes " time 0: x = 1, y = 0" ∷ codes " time 1: x = 0, y = 0"
    ∷ codes "c: unknown steps" ∷ codes "proved 1 of 5" ∷ [])
    ≡ written (codes "$version smv_wave $end" ∷ codes "$timescale 1 ns $end" ∷ codes "$scope module p $end" ∷ codes "$var wire 1 ! x $end" ∷ codes "$upscope $end"
    ∷ codes "$scope module q $end" ∷ codes "$var wire 1 \" x $end" ∷ codes "$var wire 1 # y $end" ∷ codes "$upscope $end" ∷ codes "$enddefinitions $end"
    ∷ codes "#0" ∷ codes "$dumpvars" ∷ codes "1!" ∷ codes "1\"" ∷ codes "0#" ∷ codes "$end" ∷ codes "#1" ∷ codes "0\"" ∷ codes "#2" ∷ [])

-- an element is a text where one of its values is no number of sixteen bits at most
abbrev pub Texts : Type 0
Texts =
    answer (codes "p: false at 1" ∷ codes " time 0: c = red, g = *0, n = 65536" ∷ codes " time 1: c = red, g = 7, n = 1" ∷ codes "proved 0 of 1" ∷ [])
    ≡ written (codes "$version smv_wave $end" ∷ codes "$timescale 1 ns $end" ∷ codes "$scope module p $end" ∷ codes "$var string 1 ! c $end" ∷ codes "$var string 1 \" g $end" ∷ codes "$var string 1 # n $end" ∷ codes "$upscope $end"
    ∷ codes "$enddefinitions $end" ∷ codes "#0" ∷ codes "$dumpvars" ∷ codes "sred !" ∷ codes "s*0 \"" ∷ codes "s65536 #" ∷ codes "$end" ∷ codes "#1" ∷ codes "s7 \"" ∷ codes "s1 #" ∷ codes "#2" ∷ [])

-- a path without elements
abbrev pub Empty : Type 0
Empty =
    answer (codes "p: false at 1" ∷ codes " time 0:" ∷ codes " time 1:" ∷ codes "proved 0 of 1" ∷ [])
    ≡ written (codes "$version smv_wave $end" ∷ codes "$timescale 1 ns $end" ∷ codes "$scope module p $end" ∷ codes "$upscope $end" ∷ codes "$enddefinitions $end" ∷ codes "#0" ∷ codes "$dumpvars" ∷ codes "$end" ∷ codes "#1" ∷ codes "#2" ∷ [])

-- reports without false units
abbrev pub None : Type 0
None =
    (answer (codes "proved 0 of 0" ∷ []) ≡ codes "no false unit" ++ 10 ∷ [])
    × (answer (codes "dout//arch: true" ∷ codes "bw//lem: unknown nodes 1001" ∷ codes " case #0, 12" ∷ codes "proved 1 of 2" ∷ []) ≡ codes "no false unit" ++ 10 ∷ [])

-- codes of one byte, of two and of three
abbrev pub Codes : Type 0
Codes = (code_of 0 ≡ codes "!") × (code_of 93 ≡ codes "~") × (code_of 94 ≡ codes "!\"") × (code_of 8835 ≡ codes "~~") × (code_of 8836 ≡ codes "!!\"")
