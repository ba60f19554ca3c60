-- The loop of a reference's names, and a reference by its names.
use Rattle.std.proofs.Common.{◌≡◌, ◌<◌, ℕ, Bool, true, false, List, [], ◌∷◌, ◌++◌, length, Option, None, Ok, Err, refl, sym, ◌∙◌, ap, append_assoc, append-nil}
use Rattle.smv_core.specs.declared.tree.Word.{Word}
use Rattle.smv_core.specs.declared.tree.Ref.{Ref}
use Rattle.smv_core.specs.Signs.{dot, open_bracket, slashes}
use Rattle.smv_core.specs.Notation.{Tokens}
use Rattle.smv_core.specs.Grammar.{RefPart, Dotted, Bracketed, dotted, bracketed}
use Rattle.law_grammar.specs.Parsing.{Halt, Halts, Outcome, Parser, and_then, bind, pure, take, starts, loop}
use Rattle.law_grammar.specs.Marks.{exactly, begins}
use Rattle.law_grammar.specs.Readers.{a_token, a_name, maybe}
use Rattle.law_grammar.specs.References.{read_ref_part, read_in_brackets, read_ref_by, read_ref, read_used, read_layer_name, read_layer_or_free}
use Rattle.law_grammar.proofs.Forms.{name-lawful}
use Rattle.law_grammar.proofs.Taken.{led_takes, in_brackets_takes, ref_part_takes}
use Rattle.law_grammar.proofs.Steps.{resumed, loop_ends, loop_halts, loop_goes_on}
use Rattle.smv_parse_expressions.specs.declared.stop.Stop.{Stop}
use Rattle.smv_parse_expressions.specs.declared.stop.Stop.TheVariants.{Unexpected, TooDeep, OutOfMemory}
use Rattle.smv_parse_expressions.specs.Answers.{StopsAs}
use Rattle.smv_parse_items.specs.Pieces.{read_names, gathered}

-- a loop that has read nothing yet
pub resumed-none : {A : Type 0} (o : Outcome (List A)) → resumed [] o ≡ o
resumed-none (Ok (more, rest)) = refl
resumed-none (Err h) = refl

abbrev pub more_parts : ℕ → Parser (List RefPart)
more_parts n = loop (begins (exactly dot ∷ exactly open_bracket ∷ [])) (read_ref_part n)

abbrev pub dot_name : Parser Word
dot_name = bind (take (a_token dot)) (λ _. take a_name)

by-dot : (n : ℕ) (ts : Tokens) → starts (begins (exactly dot ∷ [])) ts ≡ true → read_ref_part n ts ≡ and_then (dot_name ts) (λ x rest. Ok (Dotted x, rest))
unfolding read_ref_part
by-dot n ts e = rw e (go (take (a_token dot) ts))
  where
    go : (o : Outcome ℕ) → and_then o (λ _. bind (take a_name) (λ x. pure (Dotted x))) ≡ and_then (and_then o (λ _. take a_name)) (λ x rest. Ok (Dotted x, rest))
    go (Ok (at, rest)) = refl
    go (Err h) = refl

by-bracket : (n : ℕ) (ts : Tokens) → starts (begins (exactly dot ∷ [])) ts ≡ false → read_ref_part n ts ≡ and_then (read_in_brackets n ts) (λ x rest. Ok (Bracketed x, rest))
unfolding read_ref_part
by-bracket n ts e = rw e refl

-- ---- one step

loop-of : (n : ℕ) (ts : Tokens) (part : RefPart) (rest : Tokens) → starts (begins (exactly dot ∷ exactly open_bracket ∷ [])) ts ≡ true → read_ref_part n ts ≡ Ok (part, rest)
    → more_parts n ts ≡ resumed (part ∷ []) (more_parts n rest)
loop-of n ts part rest e k = sym (resumed-none (more_parts n ts)) ∙ loop_goes_on (begins (exactly dot ∷ exactly open_bracket ∷ [])) (read_ref_part n) (ref_part_takes n) [] ts part rest e k

stuck : (n : ℕ) (ts : Tokens) (h : Halt) → starts (begins (exactly dot ∷ exactly open_bracket ∷ [])) ts ≡ true → read_ref_part n ts ≡ Err h → more_parts n ts ≡ Err h
stuck n ts h e k = sym (resumed-none (more_parts n ts)) ∙ loop_halts (begins (exactly dot ∷ exactly open_bracket ∷ [])) (read_ref_part n) (ref_part_takes n) [] ts h e k

pub names_end : (n : ℕ) (path names : List Word) (ts : Tokens) (b : Bool) → b ≡ starts (begins (exactly dot ∷ exactly open_bracket ∷ [])) ts → b ≡ false → gathered path names (more_parts n ts) ≡ Ok ((path, names), ts)
names_end n path names ts b e q =
    let k : more_parts n ts ≡ Ok ([], ts) = sym (resumed-none (more_parts n ts)) ∙ loop_ends (begins (exactly dot ∷ exactly open_bracket ∷ [])) (read_ref_part n) (ref_part_takes n) [] ts (sym e ∙ q) in
    rw k (rw append-nil (rw append-nil refl))

pub dotted_halts : (n : ℕ) (path names : List Word) (ts : Tokens) (h : Halt) (b c : Bool) → b ≡ starts (begins (exactly dot ∷ exactly open_bracket ∷ [])) ts → b ≡ true
    → c ≡ starts (begins (exactly dot ∷ [])) ts → c ≡ true → dot_name ts ≡ Err h → gathered path names (more_parts n ts) ≡ Err h
dotted_halts n path names ts h b c e q e' q' k = rw (stuck n ts h (sym e ∙ q) (by-dot n ts (sym e' ∙ q') ∙ rw k refl)) refl

pub dotted_stops : (n : ℕ) (path names : List Word) (ts : Tokens) (b c : Bool) → b ≡ starts (begins (exactly dot ∷ exactly open_bracket ∷ [])) ts → b ≡ true
    → c ≡ starts (begins (exactly dot ∷ [])) ts → c ≡ true → (stop : Stop) → StopsAs stop (dot_name ts) → StopsAs stop (gathered path names (more_parts n ts))
dotted_stops n path names ts b c e q e' q' (Unexpected left) h = (h.0, dotted_halts n path names ts (Halts false h.0) b c e q e' q' h.1, h.2)
dotted_stops n path names ts b c e q e' q' (TooDeep left) h = (h.0, dotted_halts n path names ts (Halts true h.0) b c e q e' q' h.1, h.2)
dotted_stops n path names ts b c e q e' q' OutOfMemory h = tt

pub bracketed_halts : (n : ℕ) (path names : List Word) (ts : Tokens) (h : Halt) (b c : Bool) → b ≡ starts (begins (exactly dot ∷ exactly open_bracket ∷ [])) ts → b ≡ true
    → c ≡ starts (begins (exactly dot ∷ [])) ts → c ≡ false → read_in_brackets n ts ≡ Err h → gathered path names (more_parts n ts) ≡ Err h
bracketed_halts n path names ts h b c e q e' q' k = rw (stuck n ts h (sym e ∙ q) (by-bracket n ts (sym e' ∙ q') ∙ rw k refl)) refl

pub dotted_goes_on : (n : ℕ) (path names : List Word) (ts : Tokens) (x : Word) (rest : Tokens) (b c : Bool) → b ≡ starts (begins (exactly dot ∷ exactly open_bracket ∷ [])) ts → b ≡ true
    → c ≡ starts (begins (exactly dot ∷ [])) ts → c ≡ true → dot_name ts ≡ Ok (x, rest) → gathered path names (more_parts n ts) ≡ gathered (path ++ x ∷ []) names (more_parts n rest)
dotted_goes_on n path names ts x rest b c e q e' q' k = rw (loop-of n ts (Dotted x) rest (sym e ∙ q) (by-dot n ts (sym e' ∙ q') ∙ rw k refl)) (go (more_parts n rest))
  where
    go : (o : Outcome (List RefPart)) → gathered path names (resumed (Dotted x ∷ []) o) ≡ gathered (path ++ x ∷ []) names o
    go (Err h) = refl
    go (Ok (parts, end)) = ap (λ (z : List Word). Ok ((z, names ++ bracketed parts), end)) (sym (append_assoc path (x ∷ []) (dotted parts)))

pub bracketed_goes_on : (n : ℕ) (path names : List Word) (ts : Tokens) (x : Word) (rest : Tokens) (b c : Bool) → b ≡ starts (begins (exactly dot ∷ exactly open_bracket ∷ [])) ts → b ≡ true
    → c ≡ starts (begins (exactly dot ∷ [])) ts → c ≡ false → read_in_brackets n ts ≡ Ok (x, rest) → gathered path names (more_parts n ts) ≡ gathered path (names ++ x ∷ []) (more_parts n rest)
bracketed_goes_on n path names ts x rest b c e q e' q' k = rw (loop-of n ts (Bracketed x) rest (sym e ∙ q) (by-bracket n ts (sym e' ∙ q') ∙ rw k refl)) (go (more_parts n rest))
  where
    go : (o : Outcome (List RefPart)) → gathered path names (resumed (Bracketed x ∷ []) o) ≡ gathered path (names ++ x ∷ []) o
    go (Err h) = refl
    go (Ok (parts, end)) = ap (λ (z : List Word). Ok ((path ++ dotted parts, z), end)) (sym (append_assoc names (x ∷ []) (bracketed parts)))

pub dotted_shrinks : (ts : Tokens) (x : Word) (rest : Tokens) → dot_name ts ≡ Ok (x, rest) → length rest < length ts
dotted_shrinks ts x rest k = led_takes dot refl tt (name-lawful {C = Unit {0}} {n = 0} {st = λ a t. true}) ts x rest k

pub bracketed_shrinks : (n : ℕ) (ts : Tokens) (x : Word) (rest : Tokens) → read_in_brackets n ts ≡ Ok (x, rest) → length rest < length ts
bracketed_shrinks n ts x rest k = in_brackets_takes n ts x rest k

-- ---- a reference

abbrev layered : Parser (Option Word × Bool) → Parser (Option Word × Bool)
layered layer = maybe (exactly slashes ∷ []) (bind (take (a_token slashes)) (λ _. layer)) (None, false)

abbrev by_names : ℕ → Parser (Option Word × Bool) → Parser Ref
by_names n layer = bind (take a_name) (λ x. bind (read_names n x) (λ v. bind (layered layer) (λ l. pure (record { path = v.0; names = v.1; layer = l.0; free = l.1; at = x.at }))))

read-by : (n : ℕ) (layer : Parser (Option Word × Bool)) (ts : Tokens) → read_ref_by n layer ts ≡ by_names n layer ts
unfolding read_ref_by
read-by n layer ts = go (take a_name ts)
  where
    parts : (x : Word) (o : Outcome (List RefPart)) → and_then {B = Ref} o (λ parts. bind (layered layer) (λ l. pure (record { path = x ∷ dotted parts; names = bracketed parts; layer = l.0; free = l.1; at = x.at })))
        ≡ and_then {A = List Word × List Word} {B = Ref} (and_then {A = List RefPart} {B = List Word × List Word} o (λ parts. pure (x ∷ dotted parts, bracketed parts))) (λ v. bind (layered layer) (λ l. pure (record { path = v.0; names = v.1; layer = l.0; free = l.1; at = x.at })))
    parts x (Err h) = refl
    parts x (Ok (ps, rest)) = refl

    go : (o : Outcome Word) → and_then {B = Ref} o (λ x. bind (more_parts n) (λ parts. bind (layered layer) (λ l. pure (record { path = x ∷ dotted parts; names = bracketed parts; layer = l.0; free = l.1; at = x.at }))))
        ≡ and_then {B = Ref} o (λ x. bind (read_names n x) (λ v. bind (layered layer) (λ l. pure (record { path = v.0; names = v.1; layer = l.0; free = l.1; at = x.at }))))
    go (Err h) = refl
    go (Ok (x, rest)) = parts x (more_parts n rest)

pub ref_by : (n : ℕ) (ts : Tokens) → read_ref n ts ≡ by_names n read_layer_name ts
unfolding read_ref
ref_by n ts = read-by n read_layer_name ts

pub used_by : (n : ℕ) (ts : Tokens) → read_used n ts ≡ by_names n read_layer_or_free ts
unfolding read_used
used_by n ts = read-by n read_layer_or_free ts
