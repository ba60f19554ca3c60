-- The loops of statements: where each ends, halts and goes on.
use Rattle.std.proofs.Common.{◌≡◌, ◌<◌, ℕ, Bool, true, false, List, [], ◌∷◌, ◌++◌, length, Ok, Err, refl, sym, ◌∙◌}
use Rattle.smv_core.specs.declared.tree.Expr.{Expr}
use Rattle.smv_core.specs.declared.tree.Stmt.{Stmt}
use Rattle.smv_core.specs.declared.tree.Arm.{Arm}
use Rattle.smv_core.specs.Signs.{comma}
use Rattle.smv_core.specs.Notation.{Tokens}
use Rattle.law_grammar.specs.Parsing.{Halt, Parser, bind, take, starts, loop}
use Rattle.law_grammar.specs.Marks.{any_name, any_number, exactly, begins}
use Rattle.law_grammar.specs.Readers.{a_token}
use Rattle.law_grammar.specs.Statements.{stmt_marks, read_label, read_stmt, read_arm, stmt_readers}
use Rattle.law_grammar.proofs.Many.{Takes}
use Rattle.law_grammar.proofs.Statements.{label-lawful}
use Rattle.law_grammar.proofs.Taken.{led_takes, stmt_takes, arm_takes}
use Rattle.law_grammar.proofs.Steps.{resumed, loop_ends, loop_halts, loop_goes_on}

-- ---- labels with commas

abbrev pub one_of_labels : Parser Expr
one_of_labels = bind (take (a_token comma)) (λ _. read_label)

abbrev pub more_labels : Parser (List Expr)
more_labels = loop (begins (exactly comma ∷ [])) one_of_labels

labels_take : Takes one_of_labels
labels_take = led_takes comma refl tt (label-lawful {C = Unit {0}} {n = 0})

pub labels_end : (items : List Expr) (ts : Tokens) (b : Bool) → b ≡ starts (begins (exactly comma ∷ [])) ts → b ≡ false → resumed items (more_labels ts) ≡ Ok (items, ts)
labels_end items ts b e q = loop_ends (begins (exactly comma ∷ [])) one_of_labels (labels_take) items ts (sym e ∙ q)

pub labels_halt : (items : List Expr) (ts : Tokens) (h : Halt) (b : Bool) → b ≡ starts (begins (exactly comma ∷ [])) ts → b ≡ true → one_of_labels ts ≡ Err h → resumed items (more_labels ts) ≡ Err h
labels_halt items ts h b e q k = loop_halts (begins (exactly comma ∷ [])) one_of_labels (labels_take) items ts h (sym e ∙ q) k

pub labels_go_on : (items : List Expr) (ts : Tokens) (a : Expr) (rest : Tokens) (b : Bool) → b ≡ starts (begins (exactly comma ∷ [])) ts → b ≡ true → one_of_labels ts ≡ Ok (a, rest)
    → resumed items (more_labels ts) ≡ resumed (items ++ a ∷ []) (more_labels rest)
labels_go_on items ts a rest b e q k = loop_goes_on (begins (exactly comma ∷ [])) one_of_labels (labels_take) items ts a rest (sym e ∙ q) k

pub labels_shrink : (ts : Tokens) (a : Expr) (rest : Tokens) → one_of_labels ts ≡ Ok (a, rest) → length rest < length ts
labels_shrink ts a rest k = labels_take ts a rest k

-- ---- statements

abbrev pub one_of_stmts : ℕ → Parser Stmt
one_of_stmts n = read_stmt n (stmt_readers n)

abbrev pub more_stmts : ℕ → Parser (List Stmt)
more_stmts n = loop (begins stmt_marks) (one_of_stmts n)

stmts_take : (n : ℕ) → Takes (one_of_stmts n)
stmts_take n = stmt_takes n

pub stmts_end : (n : ℕ) (items : List Stmt) (ts : Tokens) (b : Bool) → b ≡ starts (begins stmt_marks) ts → b ≡ false → resumed items (more_stmts n ts) ≡ Ok (items, ts)
stmts_end n items ts b e q = loop_ends (begins stmt_marks) (one_of_stmts n) (stmts_take n) items ts (sym e ∙ q)

pub stmts_halt : (n : ℕ) (items : List Stmt) (ts : Tokens) (h : Halt) (b : Bool) → b ≡ starts (begins stmt_marks) ts → b ≡ true → one_of_stmts n ts ≡ Err h → resumed items (more_stmts n ts) ≡ Err h
stmts_halt n items ts h b e q k = loop_halts (begins stmt_marks) (one_of_stmts n) (stmts_take n) items ts h (sym e ∙ q) k

pub stmts_go_on : (n : ℕ) (items : List Stmt) (ts : Tokens) (a : Stmt) (rest : Tokens) (b : Bool) → b ≡ starts (begins stmt_marks) ts → b ≡ true → one_of_stmts n ts ≡ Ok (a, rest)
    → resumed items (more_stmts n ts) ≡ resumed (items ++ a ∷ []) (more_stmts n rest)
stmts_go_on n items ts a rest b e q k = loop_goes_on (begins stmt_marks) (one_of_stmts n) (stmts_take n) items ts a rest (sym e ∙ q) k

pub stmts_shrink : (n : ℕ) (ts : Tokens) (a : Stmt) (rest : Tokens) → one_of_stmts n ts ≡ Ok (a, rest) → length rest < length ts
stmts_shrink n ts a rest k = stmts_take n ts a rest k

-- ---- arms

abbrev pub one_of_arms : ℕ → Parser Arm
one_of_arms n = read_arm n (stmt_readers n)

abbrev pub more_arms : ℕ → Parser (List Arm)
more_arms n = loop (begins (any_number ∷ any_name ∷ [])) (one_of_arms n)

arms_take : (n : ℕ) → 0 < n → Takes (one_of_arms n)
arms_take n l = arm_takes n l

pub arms_end : (n : ℕ) (items : List Arm) (ts : Tokens) (b : Bool) → 0 < n → b ≡ starts (begins (any_number ∷ any_name ∷ [])) ts → b ≡ false → resumed items (more_arms n ts) ≡ Ok (items, ts)
arms_end n items ts b l e q = loop_ends (begins (any_number ∷ any_name ∷ [])) (one_of_arms n) (arms_take n l) items ts (sym e ∙ q)

pub arms_halt : (n : ℕ) (items : List Arm) (ts : Tokens) (h : Halt) (b : Bool) → 0 < n → b ≡ starts (begins (any_number ∷ any_name ∷ [])) ts → b ≡ true → one_of_arms n ts ≡ Err h → resumed items (more_arms n ts) ≡ Err h
arms_halt n items ts h b l e q k = loop_halts (begins (any_number ∷ any_name ∷ [])) (one_of_arms n) (arms_take n l) items ts h (sym e ∙ q) k

pub arms_go_on : (n : ℕ) (items : List Arm) (ts : Tokens) (a : Arm) (rest : Tokens) (b : Bool) → 0 < n → b ≡ starts (begins (any_number ∷ any_name ∷ [])) ts → b ≡ true → one_of_arms n ts ≡ Ok (a, rest)
    → resumed items (more_arms n ts) ≡ resumed (items ++ a ∷ []) (more_arms n rest)
arms_go_on n items ts a rest b l e q k = loop_goes_on (begins (any_number ∷ any_name ∷ [])) (one_of_arms n) (arms_take n l) items ts a rest (sym e ∙ q) k

pub arms_shrink : (n : ℕ) (ts : Tokens) (a : Arm) (rest : Tokens) → 0 < n → one_of_arms n ts ≡ Ok (a, rest) → length rest < length ts
arms_shrink n ts a rest l k = arms_take n l ts a rest k
