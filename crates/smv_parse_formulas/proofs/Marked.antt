-- What the names before a colon are, where claims are formulas.
use Rattle.std.proofs.Common.{◌≡◌, ◌<◌, ◌≤◌, ℕ, Bool, true, false, ◌||◌, List, [], ◌∷◌, length, Option, Some, None, Ok, Err, refl, sym, ◌∙◌, arith}
use Rattle.smv_core.specs.declared.tree.Word.{Word}
use Rattle.smv_core.specs.Signs.{dot, open_bracket, comma, colon}
use Rattle.smv_core.specs.Signs as w
use Rattle.smv_core.specs.Notation.{Tokens, same_kind}
use Rattle.law_grammar.specs.Parsing.{Outcome, and_then, bind, starts}
use Rattle.law_grammar.specs.Marks.{exactly, begins}
use Rattle.law_grammar.specs.Items.{MarkedPart, parts_of, vars_of, vars_of_some, read_marked, read_of_names}
use Rattle.law_grammar.proofs.Taken.{marked_takes}
use Rattle.law_grammar.proofs.Steps.{resumed, loop_ends, loop_halts, loop_goes_on}
use Rattle.law_formula_grammar.specs.Readers.{read_without, read_claimed, read_claim_or_assignment, read_behind, read_behind_colon}
use Rattle.smv_parse_expressions.proofs.Loops.{not_begun}
use Rattle.smv_parse_items.specs.Pieces.{joined, divided, read_parts}
use Rattle.smv_parse_items.proofs.Marked.{more_marked}
use Rattle.smv_parse_formulas.specs.Pieces.{read_chosen, read_named_behind}

-- ---- a claim or an assignment

pub behind_by : (n : ℕ) (x : Word) (ts : Tokens) → read_behind n vars_of x ts ≡ bind (read_parts n) (λ v. read_chosen n x v.0 v.1) ts
unfolding read_behind read_claim_or_assignment
behind_by n x ts = go (more_marked n ts)
  where
    by : (ms : List MarkedPart) (vars : Option (List Word)) (rest : Tokens) → read_claim_or_assignment n x ms vars rest ≡ read_chosen n x (parts_of ms) (joined (Some []) vars) rest
    by ms None rest = refl
    by ms (Some vars) rest = refl

    go : (o : Outcome (List MarkedPart)) → and_then o (λ ms. read_claim_or_assignment n x ms (vars_of ms)) ≡ and_then (divided [] (Some []) o) (λ v. read_chosen n x v.0 v.1)
    go (Err h) = refl
    go (Ok (ms, rest)) = by ms (vars_of ms) rest

not-colon : (ts : Tokens) → starts (begins (exactly comma ∷ exactly colon ∷ [])) ts ≡ false → starts (begins (exactly colon ∷ [])) ts ≡ false
not-colon [] e = refl
not-colon (t ∷ ts) e = second (same_kind t.kind comma) (same_kind t.kind colon) e
  where
    second : (c d : Bool) → (c || (d || false)) ≡ false → (d || false) ≡ false
    second true d e = absurd cc
    second false d e = e

-- where no colon follows at once, the names of a claim in a body are those of any claim
behind_some : (n : ℕ) (x : Word) (ts : Tokens) (b : Bool) → b ≡ starts (begins (exactly comma ∷ exactly colon ∷ [])) ts → b ≡ false → read_behind n vars_of_some x ts ≡ read_behind n vars_of x ts
unfolding read_behind read_claim_or_assignment
behind_some n x ts b e q = go (starts (begins (exactly dot ∷ exactly open_bracket ∷ [])) ts) refl
  where
    none : starts (begins (exactly colon ∷ [])) ts ≡ false → read_claim_or_assignment n x [] None ts ≡ read_claim_or_assignment n x [] (Some []) ts
    none d = rw d refl

    some : (m : MarkedPart) (o : Outcome (List MarkedPart)) → and_then (resumed (m ∷ []) o) (λ ms. read_claim_or_assignment n x ms (vars_of_some ms)) ≡ and_then (resumed (m ∷ []) o) (λ ms. read_claim_or_assignment n x ms (vars_of ms))
    some m (Err h) = refl
    some m (Ok (ms, rest)) = refl

    item : (o : Outcome MarkedPart) → read_marked n ts ≡ o → starts (begins (exactly dot ∷ exactly open_bracket ∷ [])) ts ≡ true
        → and_then (more_marked n ts) (λ ms. read_claim_or_assignment n x ms (vars_of_some ms)) ≡ and_then (more_marked n ts) (λ ms. read_claim_or_assignment n x ms (vars_of ms))
    item (Err h) k s = let e : more_marked n ts ≡ Err h = sym (not_begun (more_marked n ts)) ∙ loop_halts (begins (exactly dot ∷ exactly open_bracket ∷ [])) (read_marked n) (marked_takes n) [] ts h s k in rw e refl
    item (Ok (m, rest)) k s =
        let e : more_marked n ts ≡ resumed (m ∷ []) (more_marked n rest) = sym (not_begun (more_marked n ts)) ∙ loop_goes_on (begins (exactly dot ∷ exactly open_bracket ∷ [])) (read_marked n) (marked_takes n) [] ts m rest s k in
        rw e (some m (more_marked n rest))

    go : (c : Bool) → starts (begins (exactly dot ∷ exactly open_bracket ∷ [])) ts ≡ c → and_then (more_marked n ts) (λ ms. read_claim_or_assignment n x ms (vars_of_some ms)) ≡ and_then (more_marked n ts) (λ ms. read_claim_or_assignment n x ms (vars_of ms))
    go true s = item (read_marked n ts) refl s
    go false s =
        let d : more_marked n ts ≡ Ok ([], ts) = sym (not_begun (more_marked n ts)) ∙ loop_ends (begins (exactly dot ∷ exactly open_bracket ∷ [])) (read_marked n) (marked_takes n) [] ts s in
        rw d (none (not-colon ts (sym e ∙ q)))

pub named_behind : (n : ℕ) (x : Word) (ts : Tokens) (b : Bool) → b ≡ starts (begins (exactly comma ∷ exactly colon ∷ [])) ts → b ≡ false → read_named_behind n x ts ≡ read_behind n vars_of x ts
named_behind n x ts b e q = rw (sym e ∙ q) (behind_some n x ts b e q)

-- ---- what stands behind a colon

pub colon_other : (n : ℕ) (x : Word) (more : List Word) (ts : Tokens) (b : Bool) → b ≡ starts (begins (exactly w.word_assert ∷ [])) ts → b ≡ false → read_behind_colon n x more ts ≡ read_without (read_of_names n (x ∷ more)) ts
unfolding read_behind_colon
colon_other n x [] ts b e q = rw (sym e ∙ q) refl
colon_other n x (y ∷ more) ts b e q = refl

pub colon_several : (n : ℕ) (x : Word) (more : List Word) (ts : Tokens) → 0 < length more → read_behind_colon n x more ts ≡ read_without (read_of_names n (x ∷ more)) ts
unfolding read_behind_colon
colon_several n x [] ts l = absurd (omega arith)
colon_several n x (y ∷ more) ts l = refl

pub colon_claim : (n : ℕ) (x : Word) (more : List Word) (ts : Tokens) (b : Bool) → length more ≤ 0 → b ≡ starts (begins (exactly w.word_assert ∷ [])) ts → b ≡ true → read_behind_colon n x more ts ≡ read_claimed n x more ts
unfolding read_behind_colon
colon_claim n x [] ts b l e q = rw (sym e ∙ q) refl
colon_claim n x (y ∷ more) ts b l e q = absurd (omega arith)
