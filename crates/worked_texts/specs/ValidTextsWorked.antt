-- How a worked text is stated: its bytes, and its first fault of all passes; and the texts.
use Rattle.std.specs.Prelude.{ℕ, List, [], ◌∷◌, ◌≡◌, map, codes, Result, Ok, Err}
use Rattle.smv_core.specs.declared.tree.Text.{Text}
use Rattle.smv_lex.specs.Lexing.{Lexed, lexed}
use Rattle.law_grammar.specs.Parsing.{Halt}
use Rattle.law_grammar.specs.Items.{read_text}
use Rattle.worked_texts.specs.Worked.{Answer, answer_of, fault, unread, valid}
use Rattle.smv_gen.specs.Generated.{generated_text}
use Rattle.law_valid_texts.specs.Faults.{pass_fault}

abbrev pub of_tree : Result Text Halt → Answer
of_tree (Ok tree) = answer_of (pass_fault tree)
of_tree (Err halt) = unread

abbrev pub of_tokens : Lexed → Answer
of_tokens (Ok tokens) = of_tree (read_text 64 tokens)
of_tokens (Err f) = unread

-- the first fault of all passes in these bytes
abbrev pub found_in : List ℕ → Answer
found_in text = of_tokens (lexed text)

-- each text has the answer that was worked out for it
abbrev pub AreFound : List (List ℕ × Answer) → Type 0
AreFound rows = map (λ (text, answer). found_in text) rows ≡ map (λ (text, answer). answer) rows

-- each text is valid
abbrev pub AreValid : List (List ℕ) → Type 0
AreValid texts = map found_in texts ≡ map (λ text. valid) texts

-- names, size and kinds
abbrev pub names_and_kinds : List (List ℕ × Answer)
names_and_kinds =
    (codes "module main() { x : boolean; x := y; }", fault 7 34)
    ∷ (codes "module main() { x : boolean; x : boolean; }", fault 8 29)
    ∷ ([], fault 9 0)
    ∷ (codes "module main() { a : main(); }", fault 10 20)
    ∷ (codes "module m(a) { input a : boolean; } module main() { x : m(); }", fault 11 55)
    ∷ (codes "module main() { x : boolean; c : {red}; p : assert G (x = red); }", fault 12 58)
    ∷ (codes "module main() { x : 3..2; }", fault 13 20)
    ∷ (codes "module main() { x : boolean; p : assert G (x = {0, 1}); }", fault 14 47)
    ∷ (codes "module main() { x : array 0..1 of array 0..1 of array 0..1 of array 0..1 of array 0..1 of boolean; }", fault 25 7)
    ∷ []

-- single assignment, loops and layers
abbrev pub assignments : List (List ℕ × Answer)
assignments =
    (codes "module main() { x : boolean; x := 0; x := 1; }", fault 15 37)
    ∷ (codes "module main() { x : boolean; x := 0; init(x) := 0; }", fault 16 37)
    ∷ (codes "module main() { x : boolean; forall (i in 0..1) x := 0; }", fault 17 48)
    ∷ (codes "module main() { a, b : boolean; a := b; b := a; }", fault 18 40)
    ∷ (codes "module main() { abstract s : boolean; x : boolean; layer L : { s := 0; } x := s; }", fault 19 78)
    ∷ (codes "module main() { abstract s : boolean; s := 0; }", fault 20 38)
    ∷ []

-- set types, splits and uses
abbrev pub rules_of_proof : List (List ℕ × Answer)
rules_of_proof =
    (codes "scalarset P undefined; module main() { a : P; p : assert G (a = 0); }", fault 21 64)
    ∷ (codes "scalarset P undefined; module main() { x : array P of boolean; for (n = 0; n < 2; n = n + 1) x[n] := 0; }", fault 22 95)
    ∷ (codes "module main() { x : boolean; forall (i in 0..1) subcase s[i] of q for x = i; }", fault 23 64)
    ∷ (codes "module main() { x : {red}; p : assert G 1; forall (i in 0..1) subcase s[i] of p for x = i; }", fault 24 88)
    ∷ (codes "module main() { p : assert G 1; using q prove p; }", fault 26 38)
    ∷ (codes "module main() { p : assert G 1; using p prove p; using p prove p; }", fault 27 63)
    ∷ (codes "scalarset P undefined; module main() { p : assert G 1; using P->{i} prove p; }", fault 28 65)
    ∷ []

-- nine parameters, and 1,040 state bits
abbrev pub widths : List (List ℕ × Answer)
widths =
    (codes "module main() { forall (a in 0..0) forall (b in 0..0) forall (c in 0..0) forall (d in 0..0) forall (e in 0..0) forall (f in 0..0) forall (g in 0..0) forall (h in 0..0) forall (i in 0..0) p[a][b][c][d][e][f][g][h][i] : assert G 1; }", fault 29 187)
    ∷ (codes "module main() { x : array 0..128 of 0..255; n : 0..128; p : assert G (x[n] = 0); }", fault 30 56)
    ∷ []

-- designs without a fault
abbrev pub designs : List (List ℕ)
designs =
    codes "module main() { }"
    ∷ codes "module main() { x : boolean; init(x) := 0; next(x) := ~x; p : assert G (x | ~x); }"
    ∷ codes "module main() { x : 0..7; init(x) := 0; next(x) := (x + 1) mod 8; p : assert G (x <= 7); }"
    ∷ codes "module main() { a, b : boolean; init(a) := 0; init(b) := 0; next(a) := b; next(b) := a; layer spec : { a := 0; b := 0; } using b//spec prove a//spec; using a//spec prove b//spec; }"
    ∷ codes "module main() { x : boolean; p : assert G x; q : assert G x; using q prove p; using p prove q; }"
    ∷ codes "scalarset P undefined; module main() { tok : P; crit : array P of boolean; forall (i in P) crit[i] := tok = i; forall (i in P) forall (j in P) mutex[i][j] : assert G (crit[i] & crit[j] -> i = j); }"
    ∷ codes "scalarset P undefined; module main() { a, b : P; p : assert G (a = b -> a = b); forall (i in P) subcase s[i] of p for a = i; }"
    ∷ codes "ordset I undefined; module main() { forall (i in I) forall (j in I) p[i][j] : assert G (i < j | i = j | j < i); }"
    ∷ []

-- generated designs
abbrev pub generated : List (List ℕ)
generated = generated_text 1 ∷ generated_text 2 ∷ generated_text 3 ∷ []
