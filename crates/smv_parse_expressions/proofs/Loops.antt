-- The loops of the code: where they end, where they halt, how they go on.
use Rattle.std.proofs.Common.{◌≡◌, ◌<◌, ℕ, zero, suc, Bool, true, false, List, [], ◌∷◌, ◌++◌, length, Ok, Err, refl, sym, ◌∙◌, arith}
use Rattle.smv_core.specs.declared.tree.Word.{Word}
use Rattle.smv_core.specs.Signs.{open_bracket, comma, dot, plus, minus, ampersand, bar, arrow}
use Rattle.smv_core.specs.Notation.{Tokens, token, name, ◌>>◌}
use Rattle.law_grammar.specs.Parsing.{Halt, Outcome, Parser, and_then, bind, take, starts, loop}
use Rattle.law_grammar.specs.Marks.{any_name, exactly, begins, stops_by}
use Rattle.law_grammar.specs.Lawful.{Lawful}
use Rattle.smv_core.specs.declared.tree.Field.{Field}
use Rattle.smv_core.specs.declared.tree.Expr.{Expr}
use Rattle.smv_core.specs.declared.tree.Part.{Part}
use Rattle.smv_core.specs.declared.tree.Signed.{Signed}
use Rattle.smv_core.specs.declared.tree.Member.{Member}
use Rattle.law_grammar.specs.Expressions.{no_level, read_part, read_signed, read_negation, read_conjunction, read_disjunction, expr_readers}
use Rattle.law_grammar.proofs.Expressions.{inner-laws, negation-lawful, conjunction-lawful, disjunction-lawful}
use Rattle.law_grammar.specs.Types.{read_field, type_readers}
use Rattle.law_grammar.proofs.Taken.{led_takes, field_takes, part_takes, signed_takes}
use Rattle.law_grammar.specs.Readers.{a_token, a_name}
use Rattle.law_grammar.proofs.Many.{Takes}
use Rattle.law_grammar.proofs.Forms.{begins-then, token-begins, token-lawful, next, closed, name-lawful}
use Rattle.law_grammar.proofs.Steps.{takes, resumed, loop_ends, loop_halts, loop_goes_on}

-- before the first turn
pub not_begun : {A : Type 0} (o : Outcome (List A)) → resumed [] o ≡ o
not_begun (Ok p) = refl
not_begun (Err h) = refl

-- ---- names with commas

abbrev pub comma_name : Parser Word
comma_name = bind (take (a_token comma)) (λ _. take a_name)

abbrev pub more_names : Parser (List Word)
more_names = loop (begins (exactly comma ∷ [])) comma_name

comma-lawful : Lawful (Unit {0}) (λ floor m. token comma >> name) 0 comma_name (stops_by closed)
comma-lawful = next (token-lawful comma refl) (λ _. name-lawful)

names_take : Takes comma_name
names_take = takes {F = λ floor m. token comma >> name} (exactly comma ∷ []) (comma-lawful.law tt) (begins-then (token-begins comma))

pub names_end : (items : List Word) (ts : Tokens) (b : Bool) → b ≡ starts (begins (exactly comma ∷ [])) ts → b ≡ false → resumed items (more_names ts) ≡ Ok (items, ts)
names_end items ts b e q = loop_ends (begins (exactly comma ∷ [])) comma_name names_take items ts (sym e ∙ q)

pub names_halt : (items : List Word) (ts : Tokens) (h : Halt) (b : Bool) → b ≡ starts (begins (exactly comma ∷ [])) ts → b ≡ true → comma_name ts ≡ Err h → resumed items (more_names ts) ≡ Err h
names_halt items ts h b e q k = loop_halts (begins (exactly comma ∷ [])) comma_name names_take items ts h (sym e ∙ q) k

pub names_go_on : (items : List Word) (ts : Tokens) (a : Word) (rest : Tokens) (b : Bool) → b ≡ starts (begins (exactly comma ∷ [])) ts → b ≡ true → comma_name ts ≡ Ok (a, rest) → resumed items (more_names ts) ≡ resumed (items ++ a ∷ []) (more_names rest)
names_go_on items ts a rest b e q k = loop_goes_on (begins (exactly comma ∷ [])) comma_name names_take items ts a rest (sym e ∙ q) k

pub names_shrink : (ts : Tokens) (a : Word) (rest : Tokens) → comma_name ts ≡ Ok (a, rest) → length rest < length ts
names_shrink ts a rest k = names_take ts a rest k

-- ---- fields

abbrev pub more_fields : ℕ → Parser (List Field)
more_fields n = loop (begins (any_name ∷ [])) (read_field n (type_readers n))

pub fields_end : (n : ℕ) (items : List Field) (ts : Tokens) (b : Bool) → b ≡ starts (begins (any_name ∷ [])) ts → b ≡ false → resumed items (more_fields n ts) ≡ Ok (items, ts)
fields_end n items ts b e q = loop_ends (begins (any_name ∷ [])) (read_field n (type_readers n)) (field_takes n) items ts (sym e ∙ q)

pub fields_halt : (n : ℕ) (items : List Field) (ts : Tokens) (h : Halt) (b : Bool) → b ≡ starts (begins (any_name ∷ [])) ts → b ≡ true → read_field n (type_readers n) ts ≡ Err h → resumed items (more_fields n ts) ≡ Err h
fields_halt n items ts h b e q k = loop_halts (begins (any_name ∷ [])) (read_field n (type_readers n)) (field_takes n) items ts h (sym e ∙ q) k

pub fields_go_on : (n : ℕ) (items : List Field) (ts : Tokens) (a : Field) (rest : Tokens) (b : Bool) → b ≡ starts (begins (any_name ∷ [])) ts → b ≡ true → read_field n (type_readers n) ts ≡ Ok (a, rest) → resumed items (more_fields n ts) ≡ resumed (items ++ a ∷ []) (more_fields n rest)
fields_go_on n items ts a rest b e q k = loop_goes_on (begins (any_name ∷ [])) (read_field n (type_readers n)) (field_takes n) items ts a rest (sym e ∙ q) k

pub fields_shrink : (n : ℕ) (ts : Tokens) (a : Field) (rest : Tokens) → read_field n (type_readers n) ts ≡ Ok (a, rest) → length rest < length ts
fields_shrink n ts a rest k = field_takes n ts a rest k

-- ---- parts of a path

abbrev pub next_parts : ℕ → Parser Part
next_parts n = read_part n (expr_readers n)

abbrev pub more_parts : ℕ → Parser (List Part)
more_parts n = loop (begins (exactly dot ∷ exactly open_bracket ∷ [])) (next_parts n)

pub parts_end : (n : ℕ) (items : List Part) (ts : Tokens) (b : Bool) → b ≡ starts (begins (exactly dot ∷ exactly open_bracket ∷ [])) ts → b ≡ false → resumed items (more_parts n ts) ≡ Ok (items, ts)
parts_end n items ts b e q = loop_ends (begins (exactly dot ∷ exactly open_bracket ∷ [])) (next_parts n) (part_takes n) items ts (sym e ∙ q)

pub parts_halt : (n : ℕ) (items : List Part) (ts : Tokens) (h : Halt) (b : Bool) → b ≡ starts (begins (exactly dot ∷ exactly open_bracket ∷ [])) ts → b ≡ true → next_parts n ts ≡ Err h → resumed items (more_parts n ts) ≡ Err h
parts_halt n items ts h b e q k = loop_halts (begins (exactly dot ∷ exactly open_bracket ∷ [])) (next_parts n) (part_takes n) items ts h (sym e ∙ q) k

pub parts_go_on : (n : ℕ) (items : List Part) (ts : Tokens) (a : Part) (rest : Tokens) (b : Bool) → b ≡ starts (begins (exactly dot ∷ exactly open_bracket ∷ [])) ts → b ≡ true → next_parts n ts ≡ Ok (a, rest) → resumed items (more_parts n ts) ≡ resumed (items ++ a ∷ []) (more_parts n rest)
parts_go_on n items ts a rest b e q k = loop_goes_on (begins (exactly dot ∷ exactly open_bracket ∷ [])) (next_parts n) (part_takes n) items ts a rest (sym e ∙ q) k

pub parts_shrink : (n : ℕ) (ts : Tokens) (a : Part) (rest : Tokens) → next_parts n ts ≡ Ok (a, rest) → length rest < length ts
parts_shrink n ts a rest k = part_takes n ts a rest k

-- ---- what a sum adds

abbrev pub next_signed : ℕ → Parser Signed
next_signed n = read_signed n (expr_readers n)

abbrev pub more_signed : ℕ → Parser (List Signed)
more_signed n = loop (begins (exactly plus ∷ exactly minus ∷ [])) (next_signed n)

pub signed_end : (n : ℕ) (items : List Signed) (ts : Tokens) (b : Bool) → b ≡ starts (begins (exactly plus ∷ exactly minus ∷ [])) ts → b ≡ false → resumed items (more_signed n ts) ≡ Ok (items, ts)
signed_end n items ts b e q = loop_ends (begins (exactly plus ∷ exactly minus ∷ [])) (next_signed n) (signed_takes n) items ts (sym e ∙ q)

pub signed_halt : (n : ℕ) (items : List Signed) (ts : Tokens) (h : Halt) (b : Bool) → b ≡ starts (begins (exactly plus ∷ exactly minus ∷ [])) ts → b ≡ true → next_signed n ts ≡ Err h → resumed items (more_signed n ts) ≡ Err h
signed_halt n items ts h b e q k = loop_halts (begins (exactly plus ∷ exactly minus ∷ [])) (next_signed n) (signed_takes n) items ts h (sym e ∙ q) k

pub signed_go_on : (n : ℕ) (items : List Signed) (ts : Tokens) (a : Signed) (rest : Tokens) (b : Bool) → b ≡ starts (begins (exactly plus ∷ exactly minus ∷ [])) ts → b ≡ true → next_signed n ts ≡ Ok (a, rest) → resumed items (more_signed n ts) ≡ resumed (items ++ a ∷ []) (more_signed n rest)
signed_go_on n items ts a rest b e q k = loop_goes_on (begins (exactly plus ∷ exactly minus ∷ [])) (next_signed n) (signed_takes n) items ts a rest (sym e ∙ q) k

pub signed_shrink : (n : ℕ) (ts : Tokens) (a : Signed) (rest : Tokens) → next_signed n ts ≡ Ok (a, rest) → length rest < length ts
signed_shrink n ts a rest k = signed_takes n ts a rest k

-- ---- conjuncts

abbrev pub next_ands : ℕ → Parser Expr
next_ands n = bind (take (a_token ampersand)) (λ _. read_negation n (expr_readers n))

abbrev pub more_ands : ℕ → Parser (List Expr)
more_ands n = loop (begins (exactly ampersand ∷ [])) (next_ands n)

ands_take : (n : ℕ) → Takes (next_ands n)
ands_take n = led_takes ampersand refl tt (negation-lawful (Unit {0}) n (expr_readers n) (inner-laws n))

pub ands_end : (n : ℕ) (items : List Expr) (ts : Tokens) (b : Bool) → b ≡ starts (begins (exactly ampersand ∷ [])) ts → b ≡ false → resumed items (more_ands n ts) ≡ Ok (items, ts)
ands_end n items ts b e q = loop_ends (begins (exactly ampersand ∷ [])) (next_ands n) (ands_take n) items ts (sym e ∙ q)

pub ands_halt : (n : ℕ) (items : List Expr) (ts : Tokens) (h : Halt) (b : Bool) → b ≡ starts (begins (exactly ampersand ∷ [])) ts → b ≡ true → next_ands n ts ≡ Err h → resumed items (more_ands n ts) ≡ Err h
ands_halt n items ts h b e q k = loop_halts (begins (exactly ampersand ∷ [])) (next_ands n) (ands_take n) items ts h (sym e ∙ q) k

pub ands_go_on : (n : ℕ) (items : List Expr) (ts : Tokens) (a : Expr) (rest : Tokens) (b : Bool) → b ≡ starts (begins (exactly ampersand ∷ [])) ts → b ≡ true → next_ands n ts ≡ Ok (a, rest) → resumed items (more_ands n ts) ≡ resumed (items ++ a ∷ []) (more_ands n rest)
ands_go_on n items ts a rest b e q k = loop_goes_on (begins (exactly ampersand ∷ [])) (next_ands n) (ands_take n) items ts a rest (sym e ∙ q) k

pub ands_shrink : (n : ℕ) (ts : Tokens) (a : Expr) (rest : Tokens) → next_ands n ts ≡ Ok (a, rest) → length rest < length ts
ands_shrink n ts a rest k = ands_take n ts a rest k

-- ---- disjuncts

abbrev pub next_ors : ℕ → Parser Expr
next_ors n = bind (take (a_token bar)) (λ _. read_conjunction n (expr_readers n))

abbrev pub more_ors : ℕ → Parser (List Expr)
more_ors n = loop (begins (exactly bar ∷ [])) (next_ors n)

ors_take : (n : ℕ) → Takes (next_ors n)
ors_take n = led_takes bar refl tt (conjunction-lawful (Unit {0}) n (expr_readers n) (inner-laws n))

pub ors_end : (n : ℕ) (items : List Expr) (ts : Tokens) (b : Bool) → b ≡ starts (begins (exactly bar ∷ [])) ts → b ≡ false → resumed items (more_ors n ts) ≡ Ok (items, ts)
ors_end n items ts b e q = loop_ends (begins (exactly bar ∷ [])) (next_ors n) (ors_take n) items ts (sym e ∙ q)

pub ors_halt : (n : ℕ) (items : List Expr) (ts : Tokens) (h : Halt) (b : Bool) → b ≡ starts (begins (exactly bar ∷ [])) ts → b ≡ true → next_ors n ts ≡ Err h → resumed items (more_ors n ts) ≡ Err h
ors_halt n items ts h b e q k = loop_halts (begins (exactly bar ∷ [])) (next_ors n) (ors_take n) items ts h (sym e ∙ q) k

pub ors_go_on : (n : ℕ) (items : List Expr) (ts : Tokens) (a : Expr) (rest : Tokens) (b : Bool) → b ≡ starts (begins (exactly bar ∷ [])) ts → b ≡ true → next_ors n ts ≡ Ok (a, rest) → resumed items (more_ors n ts) ≡ resumed (items ++ a ∷ []) (more_ors n rest)
ors_go_on n items ts a rest b e q k = loop_goes_on (begins (exactly bar ∷ [])) (next_ors n) (ors_take n) items ts a rest (sym e ∙ q) k

pub ors_shrink : (n : ℕ) (ts : Tokens) (a : Expr) (rest : Tokens) → next_ors n ts ≡ Ok (a, rest) → length rest < length ts
ors_shrink n ts a rest k = ors_take n ts a rest k

-- ---- what is implied

abbrev pub next_implied : ℕ → Parser Expr
next_implied n = bind (take (a_token arrow)) (λ _. read_disjunction n (expr_readers n))

abbrev pub more_implied : ℕ → Parser (List Expr)
more_implied n = loop (begins (exactly arrow ∷ [])) (next_implied n)

implied_take : (n : ℕ) → Takes (next_implied n)
implied_take n = led_takes arrow refl tt (disjunction-lawful (Unit {0}) n (expr_readers n) (inner-laws n))

pub implied_end : (n : ℕ) (items : List Expr) (ts : Tokens) (b : Bool) → b ≡ starts (begins (exactly arrow ∷ [])) ts → b ≡ false → resumed items (more_implied n ts) ≡ Ok (items, ts)
implied_end n items ts b e q = loop_ends (begins (exactly arrow ∷ [])) (next_implied n) (implied_take n) items ts (sym e ∙ q)

pub implied_halt : (n : ℕ) (items : List Expr) (ts : Tokens) (h : Halt) (b : Bool) → b ≡ starts (begins (exactly arrow ∷ [])) ts → b ≡ true → next_implied n ts ≡ Err h → resumed items (more_implied n ts) ≡ Err h
implied_halt n items ts h b e q k = loop_halts (begins (exactly arrow ∷ [])) (next_implied n) (implied_take n) items ts h (sym e ∙ q) k

pub implied_go_on : (n : ℕ) (items : List Expr) (ts : Tokens) (a : Expr) (rest : Tokens) (b : Bool) → b ≡ starts (begins (exactly arrow ∷ [])) ts → b ≡ true → next_implied n ts ≡ Ok (a, rest) → resumed items (more_implied n ts) ≡ resumed (items ++ a ∷ []) (more_implied n rest)
implied_go_on n items ts a rest b e q k = loop_goes_on (begins (exactly arrow ∷ [])) (next_implied n) (implied_take n) items ts a rest (sym e ∙ q) k

pub implied_shrink : (n : ℕ) (ts : Tokens) (a : Expr) (rest : Tokens) → next_implied n ts ≡ Ok (a, rest) → length rest < length ts
implied_shrink n ts a rest k = implied_take n ts a rest k

-- ---- members of a set

abbrev pub next_members : ℕ → Parser Member
next_members n = bind (take (a_token comma)) (λ _. (expr_readers n).member)

abbrev pub more_members : ℕ → Parser (List Member)
more_members n = loop (begins (exactly comma ∷ [])) (next_members n)

members_take : (n : ℕ) → Takes (next_members n)
members_take zero = λ ts a rest e. go ts a rest (take (a_token comma) ts) e
  where
    go : (ts : Tokens) (a : Member) (rest : Tokens) (o : Outcome ℕ) → and_then o (λ at. no_level) ≡ Ok (a, rest) → length rest < length ts
    go ts a rest (Ok p) e = absurd cc
    go ts a rest (Err h) e = absurd cc
members_take (suc n) = led_takes comma refl (omega arith) ((inner-laws (suc n)).member)

pub members_end : (n : ℕ) (items : List Member) (ts : Tokens) (b : Bool) → b ≡ starts (begins (exactly comma ∷ [])) ts → b ≡ false → resumed items (more_members n ts) ≡ Ok (items, ts)
members_end n items ts b e q = loop_ends (begins (exactly comma ∷ [])) (next_members n) (members_take n) items ts (sym e ∙ q)

pub members_halt : (n : ℕ) (items : List Member) (ts : Tokens) (h : Halt) (b : Bool) → b ≡ starts (begins (exactly comma ∷ [])) ts → b ≡ true → next_members n ts ≡ Err h → resumed items (more_members n ts) ≡ Err h
members_halt n items ts h b e q k = loop_halts (begins (exactly comma ∷ [])) (next_members n) (members_take n) items ts h (sym e ∙ q) k

pub members_go_on : (n : ℕ) (items : List Member) (ts : Tokens) (a : Member) (rest : Tokens) (b : Bool) → b ≡ starts (begins (exactly comma ∷ [])) ts → b ≡ true → next_members n ts ≡ Ok (a, rest) → resumed items (more_members n ts) ≡ resumed (items ++ a ∷ []) (more_members n rest)
members_go_on n items ts a rest b e q k = loop_goes_on (begins (exactly comma ∷ [])) (next_members n) (members_take n) items ts a rest (sym e ∙ q) k

pub members_shrink : (n : ℕ) (ts : Tokens) (a : Member) (rest : Tokens) → next_members n ts ≡ Ok (a, rest) → length rest < length ts
members_shrink n ts a rest k = members_take n ts a rest k
