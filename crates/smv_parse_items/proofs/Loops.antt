-- The loops of the parser: where each ends, halts and goes on.
use Rattle.std.proofs.Common.{◌≡◌, ◌<◌, ℕ, Bool, true, false, List, [], ◌∷◌, ◌++◌, length, Ok, Err, refl, sym, ◌∙◌}
use Rattle.smv_core.specs.declared.tree.Word.{Word}
use Rattle.smv_core.specs.declared.tree.Expr.{Expr}
use Rattle.smv_core.specs.declared.tree.Item.{Item}
use Rattle.smv_core.specs.declared.tree.Ref.{Ref}
use Rattle.smv_core.specs.declared.tree.Use.{Use}
use Rattle.smv_core.specs.declared.tree.Pair.{Pair}
use Rattle.smv_core.specs.declared.tree.Top.{Top}
use Rattle.smv_core.specs.Signs.{comma, open_bracket}
use Rattle.smv_core.specs.Notation.{Tokens}
use Rattle.law_grammar.specs.Parsing.{Halt, Parser, bind, take, starts, loop}
use Rattle.law_grammar.specs.Marks.{exactly, begins}
use Rattle.law_grammar.specs.Readers.{a_token, a_name}
use Rattle.law_grammar.specs.Expressions.{read_expr, expr_readers}
use Rattle.law_grammar.specs.References.{read_in_brackets, read_ref, read_use, read_pair}
use Rattle.law_grammar.specs.Items.{item_marks, body_marks, top_marks, read_item, read_body, read_top, item_readers}
use Rattle.law_grammar.proofs.Many.{Takes}
use Rattle.law_grammar.proofs.Forms.{name-lawful}
use Rattle.law_grammar.proofs.Expressions.{expressions}
use Rattle.law_grammar.proofs.References.{ref-lawful, use-lawful, pair-lawful}
use Rattle.law_grammar.proofs.Bodies.{item-laws}
use Rattle.law_grammar.proofs.Taken.{led_takes, in_brackets_takes, item_takes, body_takes, top_takes}
use Rattle.law_grammar.proofs.Steps.{resumed, loop_ends, loop_halts, loop_goes_on}

-- ---- names with commas

abbrev pub one_of_names : Parser Word
one_of_names = bind (take (a_token comma)) (λ _. take a_name)

abbrev pub more_names : Parser (List Word)
more_names = loop (begins (exactly comma ∷ [])) one_of_names

names_take : Takes one_of_names
names_take = led_takes comma refl tt (name-lawful {C = Unit {0}} {n = 0} {st = λ a t. true})

pub names_end : (items : List Word) (ts : Tokens) (b : Bool) → b ≡ starts (begins (exactly comma ∷ [])) ts → b ≡ false → resumed items (more_names ts) ≡ Ok (items, ts)
names_end items ts b e q = loop_ends (begins (exactly comma ∷ [])) one_of_names (names_take) items ts (sym e ∙ q)

pub names_halt : (items : List Word) (ts : Tokens) (h : Halt) (b : Bool) → b ≡ starts (begins (exactly comma ∷ [])) ts → b ≡ true → one_of_names ts ≡ Err h → resumed items (more_names ts) ≡ Err h
names_halt items ts h b e q k = loop_halts (begins (exactly comma ∷ [])) one_of_names (names_take) items ts h (sym e ∙ q) k

pub names_go_on : (items : List Word) (ts : Tokens) (a : Word) (rest : Tokens) (b : Bool) → b ≡ starts (begins (exactly comma ∷ [])) ts → b ≡ true → one_of_names ts ≡ Ok (a, rest)
    → resumed items (more_names ts) ≡ resumed (items ++ a ∷ []) (more_names rest)
names_go_on items ts a rest b e q k = loop_goes_on (begins (exactly comma ∷ [])) one_of_names (names_take) items ts a rest (sym e ∙ q) k

pub names_shrink : (ts : Tokens) (a : Word) (rest : Tokens) → one_of_names ts ≡ Ok (a, rest) → length rest < length ts
names_shrink ts a rest k = names_take ts a rest k

-- ---- names in brackets

abbrev pub one_of_brackets : ℕ → Parser Word
one_of_brackets n = read_in_brackets n

abbrev pub more_brackets : ℕ → Parser (List Word)
more_brackets n = loop (begins (exactly open_bracket ∷ [])) (one_of_brackets n)

brackets_take : (n : ℕ) → Takes (one_of_brackets n)
brackets_take n = in_brackets_takes n

pub brackets_end : (n : ℕ) (items : List Word) (ts : Tokens) (b : Bool) → b ≡ starts (begins (exactly open_bracket ∷ [])) ts → b ≡ false → resumed items (more_brackets n ts) ≡ Ok (items, ts)
brackets_end n items ts b e q = loop_ends (begins (exactly open_bracket ∷ [])) (one_of_brackets n) (brackets_take n) items ts (sym e ∙ q)

pub brackets_halt : (n : ℕ) (items : List Word) (ts : Tokens) (h : Halt) (b : Bool) → b ≡ starts (begins (exactly open_bracket ∷ [])) ts → b ≡ true → one_of_brackets n ts ≡ Err h → resumed items (more_brackets n ts) ≡ Err h
brackets_halt n items ts h b e q k = loop_halts (begins (exactly open_bracket ∷ [])) (one_of_brackets n) (brackets_take n) items ts h (sym e ∙ q) k

pub brackets_go_on : (n : ℕ) (items : List Word) (ts : Tokens) (a : Word) (rest : Tokens) (b : Bool) → b ≡ starts (begins (exactly open_bracket ∷ [])) ts → b ≡ true → one_of_brackets n ts ≡ Ok (a, rest)
    → resumed items (more_brackets n ts) ≡ resumed (items ++ a ∷ []) (more_brackets n rest)
brackets_go_on n items ts a rest b e q k = loop_goes_on (begins (exactly open_bracket ∷ [])) (one_of_brackets n) (brackets_take n) items ts a rest (sym e ∙ q) k

pub brackets_shrink : (n : ℕ) (ts : Tokens) (a : Word) (rest : Tokens) → one_of_brackets n ts ≡ Ok (a, rest) → length rest < length ts
brackets_shrink n ts a rest k = brackets_take n ts a rest k

-- ---- uses with commas

abbrev pub one_of_uses : ℕ → Parser Use
one_of_uses n = bind (take (a_token comma)) (λ _. read_use n (item_readers n).ref)

abbrev pub more_uses : ℕ → Parser (List Use)
more_uses n = loop (begins (exactly comma ∷ [])) (one_of_uses n)

uses_take : (n : ℕ) → Takes (one_of_uses n)
uses_take n = led_takes comma refl tt (use-lawful (Unit {0}) n (item_readers n).ref (item-laws n).ref)

pub uses_end : (n : ℕ) (items : List Use) (ts : Tokens) (b : Bool) → b ≡ starts (begins (exactly comma ∷ [])) ts → b ≡ false → resumed items (more_uses n ts) ≡ Ok (items, ts)
uses_end n items ts b e q = loop_ends (begins (exactly comma ∷ [])) (one_of_uses n) (uses_take n) items ts (sym e ∙ q)

pub uses_halt : (n : ℕ) (items : List Use) (ts : Tokens) (h : Halt) (b : Bool) → b ≡ starts (begins (exactly comma ∷ [])) ts → b ≡ true → one_of_uses n ts ≡ Err h → resumed items (more_uses n ts) ≡ Err h
uses_halt n items ts h b e q k = loop_halts (begins (exactly comma ∷ [])) (one_of_uses n) (uses_take n) items ts h (sym e ∙ q) k

pub uses_go_on : (n : ℕ) (items : List Use) (ts : Tokens) (a : Use) (rest : Tokens) (b : Bool) → b ≡ starts (begins (exactly comma ∷ [])) ts → b ≡ true → one_of_uses n ts ≡ Ok (a, rest)
    → resumed items (more_uses n ts) ≡ resumed (items ++ a ∷ []) (more_uses n rest)
uses_go_on n items ts a rest b e q k = loop_goes_on (begins (exactly comma ∷ [])) (one_of_uses n) (uses_take n) items ts a rest (sym e ∙ q) k

pub uses_shrink : (n : ℕ) (ts : Tokens) (a : Use) (rest : Tokens) → one_of_uses n ts ≡ Ok (a, rest) → length rest < length ts
uses_shrink n ts a rest k = uses_take n ts a rest k

-- ---- references with commas

abbrev pub one_of_refs : ℕ → Parser Ref
one_of_refs n = bind (take (a_token comma)) (λ _. read_ref n)

abbrev pub more_refs : ℕ → Parser (List Ref)
more_refs n = loop (begins (exactly comma ∷ [])) (one_of_refs n)

refs_take : (n : ℕ) → Takes (one_of_refs n)
refs_take n = led_takes comma refl tt (ref-lawful {C = Unit {0}} n)

pub refs_end : (n : ℕ) (items : List Ref) (ts : Tokens) (b : Bool) → b ≡ starts (begins (exactly comma ∷ [])) ts → b ≡ false → resumed items (more_refs n ts) ≡ Ok (items, ts)
refs_end n items ts b e q = loop_ends (begins (exactly comma ∷ [])) (one_of_refs n) (refs_take n) items ts (sym e ∙ q)

pub refs_halt : (n : ℕ) (items : List Ref) (ts : Tokens) (h : Halt) (b : Bool) → b ≡ starts (begins (exactly comma ∷ [])) ts → b ≡ true → one_of_refs n ts ≡ Err h → resumed items (more_refs n ts) ≡ Err h
refs_halt n items ts h b e q k = loop_halts (begins (exactly comma ∷ [])) (one_of_refs n) (refs_take n) items ts h (sym e ∙ q) k

pub refs_go_on : (n : ℕ) (items : List Ref) (ts : Tokens) (a : Ref) (rest : Tokens) (b : Bool) → b ≡ starts (begins (exactly comma ∷ [])) ts → b ≡ true → one_of_refs n ts ≡ Ok (a, rest)
    → resumed items (more_refs n ts) ≡ resumed (items ++ a ∷ []) (more_refs n rest)
refs_go_on n items ts a rest b e q k = loop_goes_on (begins (exactly comma ∷ [])) (one_of_refs n) (refs_take n) items ts a rest (sym e ∙ q) k

pub refs_shrink : (n : ℕ) (ts : Tokens) (a : Ref) (rest : Tokens) → one_of_refs n ts ≡ Ok (a, rest) → length rest < length ts
refs_shrink n ts a rest k = refs_take n ts a rest k

-- ---- equations with commas

abbrev pub one_of_pairs : ℕ → Parser Pair
one_of_pairs n = bind (take (a_token comma)) (λ _. read_pair n)

abbrev pub more_pairs : ℕ → Parser (List Pair)
more_pairs n = loop (begins (exactly comma ∷ [])) (one_of_pairs n)

pairs_take : (n : ℕ) → Takes (one_of_pairs n)
pairs_take n = led_takes comma refl tt (pair-lawful {C = Unit {0}} n)

pub pairs_end : (n : ℕ) (items : List Pair) (ts : Tokens) (b : Bool) → b ≡ starts (begins (exactly comma ∷ [])) ts → b ≡ false → resumed items (more_pairs n ts) ≡ Ok (items, ts)
pairs_end n items ts b e q = loop_ends (begins (exactly comma ∷ [])) (one_of_pairs n) (pairs_take n) items ts (sym e ∙ q)

pub pairs_halt : (n : ℕ) (items : List Pair) (ts : Tokens) (h : Halt) (b : Bool) → b ≡ starts (begins (exactly comma ∷ [])) ts → b ≡ true → one_of_pairs n ts ≡ Err h → resumed items (more_pairs n ts) ≡ Err h
pairs_halt n items ts h b e q k = loop_halts (begins (exactly comma ∷ [])) (one_of_pairs n) (pairs_take n) items ts h (sym e ∙ q) k

pub pairs_go_on : (n : ℕ) (items : List Pair) (ts : Tokens) (a : Pair) (rest : Tokens) (b : Bool) → b ≡ starts (begins (exactly comma ∷ [])) ts → b ≡ true → one_of_pairs n ts ≡ Ok (a, rest)
    → resumed items (more_pairs n ts) ≡ resumed (items ++ a ∷ []) (more_pairs n rest)
pairs_go_on n items ts a rest b e q k = loop_goes_on (begins (exactly comma ∷ [])) (one_of_pairs n) (pairs_take n) items ts a rest (sym e ∙ q) k

pub pairs_shrink : (n : ℕ) (ts : Tokens) (a : Pair) (rest : Tokens) → one_of_pairs n ts ≡ Ok (a, rest) → length rest < length ts
pairs_shrink n ts a rest k = pairs_take n ts a rest k

-- ---- expressions with commas

abbrev pub one_of_args : ℕ → Parser Expr
one_of_args n = bind (take (a_token comma)) (λ _. read_expr n (expr_readers n))

abbrev pub more_args : ℕ → Parser (List Expr)
more_args n = loop (begins (exactly comma ∷ [])) (one_of_args n)

args_take : (n : ℕ) → Takes (one_of_args n)
args_take n = led_takes comma refl tt (expressions n)

pub args_end : (n : ℕ) (items : List Expr) (ts : Tokens) (b : Bool) → b ≡ starts (begins (exactly comma ∷ [])) ts → b ≡ false → resumed items (more_args n ts) ≡ Ok (items, ts)
args_end n items ts b e q = loop_ends (begins (exactly comma ∷ [])) (one_of_args n) (args_take n) items ts (sym e ∙ q)

pub args_halt : (n : ℕ) (items : List Expr) (ts : Tokens) (h : Halt) (b : Bool) → b ≡ starts (begins (exactly comma ∷ [])) ts → b ≡ true → one_of_args n ts ≡ Err h → resumed items (more_args n ts) ≡ Err h
args_halt n items ts h b e q k = loop_halts (begins (exactly comma ∷ [])) (one_of_args n) (args_take n) items ts h (sym e ∙ q) k

pub args_go_on : (n : ℕ) (items : List Expr) (ts : Tokens) (a : Expr) (rest : Tokens) (b : Bool) → b ≡ starts (begins (exactly comma ∷ [])) ts → b ≡ true → one_of_args n ts ≡ Ok (a, rest)
    → resumed items (more_args n ts) ≡ resumed (items ++ a ∷ []) (more_args n rest)
args_go_on n items ts a rest b e q k = loop_goes_on (begins (exactly comma ∷ [])) (one_of_args n) (args_take n) items ts a rest (sym e ∙ q) k

pub args_shrink : (n : ℕ) (ts : Tokens) (a : Expr) (rest : Tokens) → one_of_args n ts ≡ Ok (a, rest) → length rest < length ts
args_shrink n ts a rest k = args_take n ts a rest k

-- ---- items

abbrev pub one_of_items : ℕ → Parser Item
one_of_items n = read_item n (item_readers n)

abbrev pub more_items : ℕ → Parser (List Item)
more_items n = loop (begins item_marks) (one_of_items n)

items_take : (n : ℕ) → Takes (one_of_items n)
items_take n = item_takes n

pub items_end : (n : ℕ) (items : List Item) (ts : Tokens) (b : Bool) → b ≡ starts (begins item_marks) ts → b ≡ false → resumed items (more_items n ts) ≡ Ok (items, ts)
items_end n items ts b e q = loop_ends (begins item_marks) (one_of_items n) (items_take n) items ts (sym e ∙ q)

pub items_halt : (n : ℕ) (items : List Item) (ts : Tokens) (h : Halt) (b : Bool) → b ≡ starts (begins item_marks) ts → b ≡ true → one_of_items n ts ≡ Err h → resumed items (more_items n ts) ≡ Err h
items_halt n items ts h b e q k = loop_halts (begins item_marks) (one_of_items n) (items_take n) items ts h (sym e ∙ q) k

pub items_go_on : (n : ℕ) (items : List Item) (ts : Tokens) (a : Item) (rest : Tokens) (b : Bool) → b ≡ starts (begins item_marks) ts → b ≡ true → one_of_items n ts ≡ Ok (a, rest)
    → resumed items (more_items n ts) ≡ resumed (items ++ a ∷ []) (more_items n rest)
items_go_on n items ts a rest b e q k = loop_goes_on (begins item_marks) (one_of_items n) (items_take n) items ts a rest (sym e ∙ q) k

pub items_shrink : (n : ℕ) (ts : Tokens) (a : Item) (rest : Tokens) → one_of_items n ts ≡ Ok (a, rest) → length rest < length ts
items_shrink n ts a rest k = items_take n ts a rest k

-- ---- what stands in a body

abbrev pub one_of_bodies : ℕ → Parser Item
one_of_bodies n = read_body n (item_readers n)

abbrev pub more_bodies : ℕ → Parser (List Item)
more_bodies n = loop (begins body_marks) (one_of_bodies n)

bodies_take : (n : ℕ) → Takes (one_of_bodies n)
bodies_take n = body_takes n

pub bodies_end : (n : ℕ) (items : List Item) (ts : Tokens) (b : Bool) → b ≡ starts (begins body_marks) ts → b ≡ false → resumed items (more_bodies n ts) ≡ Ok (items, ts)
bodies_end n items ts b e q = loop_ends (begins body_marks) (one_of_bodies n) (bodies_take n) items ts (sym e ∙ q)

pub bodies_halt : (n : ℕ) (items : List Item) (ts : Tokens) (h : Halt) (b : Bool) → b ≡ starts (begins body_marks) ts → b ≡ true → one_of_bodies n ts ≡ Err h → resumed items (more_bodies n ts) ≡ Err h
bodies_halt n items ts h b e q k = loop_halts (begins body_marks) (one_of_bodies n) (bodies_take n) items ts h (sym e ∙ q) k

pub bodies_go_on : (n : ℕ) (items : List Item) (ts : Tokens) (a : Item) (rest : Tokens) (b : Bool) → b ≡ starts (begins body_marks) ts → b ≡ true → one_of_bodies n ts ≡ Ok (a, rest)
    → resumed items (more_bodies n ts) ≡ resumed (items ++ a ∷ []) (more_bodies n rest)
bodies_go_on n items ts a rest b e q k = loop_goes_on (begins body_marks) (one_of_bodies n) (bodies_take n) items ts a rest (sym e ∙ q) k

pub bodies_shrink : (n : ℕ) (ts : Tokens) (a : Item) (rest : Tokens) → one_of_bodies n ts ≡ Ok (a, rest) → length rest < length ts
bodies_shrink n ts a rest k = bodies_take n ts a rest k

-- ---- tops

abbrev pub one_of_tops : ℕ → Parser Top
one_of_tops n = read_top n (item_readers n)

abbrev pub more_tops : ℕ → Parser (List Top)
more_tops n = loop (begins top_marks) (one_of_tops n)

tops_take : (n : ℕ) → Takes (one_of_tops n)
tops_take n = top_takes n

pub tops_end : (n : ℕ) (items : List Top) (ts : Tokens) (b : Bool) → b ≡ starts (begins top_marks) ts → b ≡ false → resumed items (more_tops n ts) ≡ Ok (items, ts)
tops_end n items ts b e q = loop_ends (begins top_marks) (one_of_tops n) (tops_take n) items ts (sym e ∙ q)

pub tops_halt : (n : ℕ) (items : List Top) (ts : Tokens) (h : Halt) (b : Bool) → b ≡ starts (begins top_marks) ts → b ≡ true → one_of_tops n ts ≡ Err h → resumed items (more_tops n ts) ≡ Err h
tops_halt n items ts h b e q k = loop_halts (begins top_marks) (one_of_tops n) (tops_take n) items ts h (sym e ∙ q) k

pub tops_go_on : (n : ℕ) (items : List Top) (ts : Tokens) (a : Top) (rest : Tokens) (b : Bool) → b ≡ starts (begins top_marks) ts → b ≡ true → one_of_tops n ts ≡ Ok (a, rest)
    → resumed items (more_tops n ts) ≡ resumed (items ++ a ∷ []) (more_tops n rest)
tops_go_on n items ts a rest b e q k = loop_goes_on (begins top_marks) (one_of_tops n) (tops_take n) items ts a rest (sym e ∙ q) k

pub tops_shrink : (n : ℕ) (ts : Tokens) (a : Top) (rest : Tokens) → one_of_tops n ts ≡ Ok (a, rest) → length rest < length ts
tops_shrink n ts a rest k = tops_take n ts a rest k
