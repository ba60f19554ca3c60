-- Worked texts. Each is written out as one string, in which a bar stands for the end of a line.
use Rattle.std.specs.Prelude.{◌≡◌, ℕ, List, map, codes, ◌==◌, if◌then◌else◌}
use Rattle.smv_gen.specs.Generated.{copy_of, generated_text}

-- the text whose lines end with bars
abbrev pub barred : List ℕ → List ℕ
barred text = map (λ byte. if byte == 124 then 10 else byte) text

abbrev pub NoCopy : Type 0
NoCopy = generated_text 0 ≡ barred (codes "module main() {|s0 : 0..7; init(s0) := 0; next(s0) := (s0 + 1) mod 4; p0 : assert G (s0 <= 3);|}|")

abbrev pub OneCopy : Type 0
OneCopy = generated_text 1 ≡ barred (codes "module main() {|s0 : 0..7; init(s0) := 0; next(s0) := (s0 + 1) mod 4; p0 : assert G (s0 <= 3);|s1 : 0..7; init(s1) := 0; next(s1) := s0; p1 : assert G (s1 <= 3); using s0//free, p0 prove p1;|}|")

abbrev pub TwoCopies : Type 0
TwoCopies = generated_text 2 ≡ barred (codes "module main() {|s0 : 0..7; init(s0) := 0; next(s0) := (s0 + 1) mod 4; p0 : assert G (s0 <= 3);|s1 : 0..7; init(s1) := 0; next(s1) := s0; p1 : assert G (s1 <= 3); using s0//free, p0 prove p1;|s2 : 0..7; init(s2) := 0; next(s2) := s1; p2 : assert G (s2 <= 3); using s1//free, p1 prove p2;|}|")

-- the copies of counters 9 and 199
pub record FurtherLines : Type 0 where
  pub tenth : copy_of 9 ≡ codes "s10 : 0..7; init(s10) := 0; next(s10) := s9; p10 : assert G (s10 <= 3); using s9//free, p9 prove p10;"
  pub last : copy_of 199 ≡ codes "s200 : 0..7; init(s200) := 0; next(s200) := s199; p200 : assert G (s200 <= 3); using s199//free, p199 prove p200;"
