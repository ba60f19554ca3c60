-- The loop of the parts behind a name, and what the names before a colon are.
use Rattle.std.proofs.Common.{◌≡◌, ◌<◌, ◌≤◌, ℕ, Bool, true, false, ◌||◌, List, [], ◌∷◌, ◌++◌, length, Option, Some, None, Ok, Err, refl, sym, ◌∙◌, ap, append_assoc, append-nil, arith}
use Rattle.smv_core.specs.declared.tree.Word.{Word}
use Rattle.smv_core.specs.declared.tree.Part.{Part}
use Rattle.smv_core.specs.Signs.{dot, open_bracket, comma, colon}
use Rattle.smv_core.specs.Signs as w
use Rattle.smv_core.specs.Notation.{Tokens, same_kind}
use Rattle.law_grammar.specs.Parsing.{Halt, Outcome, Parser, and_then, bind, starts, loop}
use Rattle.law_grammar.specs.Marks.{exactly, begins}
use Rattle.law_grammar.specs.Items.{MarkedPart, parts_of, put_before, vars_of, vars_of_some, read_marked, read_claimed, read_claim_or_assignment, read_behind, read_of_names, read_behind_colon}
use Rattle.law_grammar.proofs.Taken.{marked_takes}
use Rattle.law_grammar.proofs.Steps.{resumed, loop_ends, loop_halts, loop_goes_on}
use Rattle.smv_parse_expressions.proofs.Loops.{not_begun}
use Rattle.smv_parse_items.specs.Pieces.{put_after, joined, divided, read_parts, read_chosen, read_named_behind}

abbrev pub more_marked : ℕ → Parser (List MarkedPart)
more_marked n = loop (begins (exactly dot ∷ exactly open_bracket ∷ [])) (read_marked n)

ended : (n : ℕ) (ts : Tokens) → starts (begins (exactly dot ∷ exactly open_bracket ∷ [])) ts ≡ false → more_marked n ts ≡ Ok ([], ts)
ended n ts e = sym (not_begun (more_marked n ts)) ∙ loop_ends (begins (exactly dot ∷ exactly open_bracket ∷ [])) (read_marked n) (marked_takes n) [] ts e

one : (n : ℕ) (ts : Tokens) (m : MarkedPart) (rest : Tokens) → starts (begins (exactly dot ∷ exactly open_bracket ∷ [])) ts ≡ true → read_marked n ts ≡ Ok (m, rest)
    → more_marked n ts ≡ resumed (m ∷ []) (more_marked n rest)
one n ts m rest e k = sym (not_begun (more_marked n ts)) ∙ loop_goes_on (begins (exactly dot ∷ exactly open_bracket ∷ [])) (read_marked n) (marked_takes n) [] ts m rest e k

joined-none : (vars : Option (List Word)) → joined vars (Some []) ≡ vars
joined-none None = refl
joined-none (Some xs) = ap (λ (z : List Word). Some z) (append-nil xs)

joined-next : (vars : Option (List Word)) (x : Option Word) (ys : Option (List Word)) → joined vars (put_before x ys) ≡ joined (put_after vars x) ys
joined-next None x ys = refl
joined-next (Some xs) None ys = refl
joined-next (Some xs) (Some x) None = refl
joined-next (Some xs) (Some x) (Some ys) = ap (λ (z : List Word). Some z) (sym (append_assoc xs (x ∷ []) ys))

pub marked_end : (n : ℕ) (parts : List Part) (vars : Option (List Word)) (ts : Tokens) (b : Bool) → b ≡ starts (begins (exactly dot ∷ exactly open_bracket ∷ [])) ts → b ≡ false
    → divided parts vars (more_marked n ts) ≡ Ok ((parts, vars), ts)
marked_end n parts vars ts b e q = rw (ended n ts (sym e ∙ q)) (rw append-nil (rw (joined-none vars) refl))

pub marked_halt : (n : ℕ) (parts : List Part) (vars : Option (List Word)) (ts : Tokens) (h : Halt) (b : Bool) → b ≡ starts (begins (exactly dot ∷ exactly open_bracket ∷ [])) ts → b ≡ true → read_marked n ts ≡ Err h
    → divided parts vars (more_marked n ts) ≡ Err h
marked_halt n parts vars ts h b e q k = rw (sym (not_begun (more_marked n ts)) ∙ loop_halts (begins (exactly dot ∷ exactly open_bracket ∷ [])) (read_marked n) (marked_takes n) [] ts h (sym e ∙ q) k) refl

pub marked_go_on : (n : ℕ) (parts : List Part) (vars : Option (List Word)) (ts : Tokens) (m : MarkedPart) (rest : Tokens) (b : Bool) → b ≡ starts (begins (exactly dot ∷ exactly open_bracket ∷ [])) ts → b ≡ true
    → read_marked n ts ≡ Ok (m, rest) → divided parts vars (more_marked n ts) ≡ divided (parts ++ m.0 ∷ []) (put_after vars m.1) (more_marked n rest)
marked_go_on n parts vars ts m rest b e q k = rw (one n ts m rest (sym e ∙ q) k) (go (more_marked n rest))
  where
    go : (o : Outcome (List MarkedPart)) → divided parts vars (resumed (m ∷ []) o) ≡ divided (parts ++ m.0 ∷ []) (put_after vars m.1) o
    go (Err h) = refl
    go (Ok (ms, end)) = rw (append_assoc parts (m.0 ∷ []) (parts_of ms)) (rw (joined-next vars m.1 (vars_of ms)) refl)

pub marked_shrink : (n : ℕ) (ts : Tokens) (m : MarkedPart) (rest : Tokens) → read_marked n ts ≡ Ok (m, rest) → length rest < length ts
marked_shrink n ts m rest k = marked_takes n ts m rest k

-- ---- a claim or an assignment

same-vars : (vars : Option (List Word)) → joined (Some []) vars ≡ vars
same-vars None = refl
same-vars (Some xs) = refl

pub behind_by : (n : ℕ) (x : Word) (ts : Tokens) → read_behind n vars_of x ts ≡ bind (read_parts n) (λ v. read_chosen n x v.0 v.1) ts
unfolding read_behind read_claim_or_assignment
behind_by n x ts = go (more_marked n ts)
  where
    by : (ms : List MarkedPart) (vars : Option (List Word)) (rest : Tokens) → read_claim_or_assignment n x ms vars rest ≡ read_chosen n x (parts_of ms) (joined (Some []) vars) rest
    by ms None rest = refl
    by ms (Some vars) rest = refl

    go : (o : Outcome (List MarkedPart)) → and_then o (λ ms. read_claim_or_assignment n x ms (vars_of ms)) ≡ and_then (divided [] (Some []) o) (λ v. read_chosen n x v.0 v.1)
    go (Err h) = refl
    go (Ok (ms, rest)) = by ms (vars_of ms) rest

not-colon : (ts : Tokens) → starts (begins (exactly comma ∷ exactly colon ∷ [])) ts ≡ false → starts (begins (exactly colon ∷ [])) ts ≡ false
not-colon [] e = refl
not-colon (t ∷ ts) e = second (same_kind t.kind comma) (same_kind t.kind colon) e
  where
    second : (c d : Bool) → (c || (d || false)) ≡ false → (d || false) ≡ false
    second true d e = absurd cc
    second false d e = e

-- where no colon follows at once, the names of a claim in a body are those of any claim
pub behind_some : (n : ℕ) (x : Word) (ts : Tokens) (b : Bool) → b ≡ starts (begins (exactly comma ∷ exactly colon ∷ [])) ts → b ≡ false → read_behind n vars_of_some x ts ≡ read_behind n vars_of x ts
unfolding read_behind read_claim_or_assignment
behind_some n x ts b e q = go (starts (begins (exactly dot ∷ exactly open_bracket ∷ [])) ts) refl
  where
    none : starts (begins (exactly colon ∷ [])) ts ≡ false → read_claim_or_assignment n x [] None ts ≡ read_claim_or_assignment n x [] (Some []) ts
    none d = rw d refl

    some : (m : MarkedPart) (o : Outcome (List MarkedPart)) → and_then (resumed (m ∷ []) o) (λ ms. read_claim_or_assignment n x ms (vars_of_some ms)) ≡ and_then (resumed (m ∷ []) o) (λ ms. read_claim_or_assignment n x ms (vars_of ms))
    some m (Err h) = refl
    some m (Ok (ms, rest)) = refl

    item : (o : Outcome MarkedPart) → read_marked n ts ≡ o → starts (begins (exactly dot ∷ exactly open_bracket ∷ [])) ts ≡ true
        → and_then (more_marked n ts) (λ ms. read_claim_or_assignment n x ms (vars_of_some ms)) ≡ and_then (more_marked n ts) (λ ms. read_claim_or_assignment n x ms (vars_of ms))
    item (Err h) k s = let e : more_marked n ts ≡ Err h = sym (not_begun (more_marked n ts)) ∙ loop_halts (begins (exactly dot ∷ exactly open_bracket ∷ [])) (read_marked n) (marked_takes n) [] ts h s k in rw e refl
    item (Ok (m, rest)) k s = rw (one n ts m rest s k) (some m (more_marked n rest))

    go : (c : Bool) → starts (begins (exactly dot ∷ exactly open_bracket ∷ [])) ts ≡ c → and_then (more_marked n ts) (λ ms. read_claim_or_assignment n x ms (vars_of_some ms)) ≡ and_then (more_marked n ts) (λ ms. read_claim_or_assignment n x ms (vars_of ms))
    go true s = item (read_marked n ts) refl s
    go false s = rw (ended n ts s) (none (not-colon ts (sym e ∙ q)))

pub named_behind : (n : ℕ) (x : Word) (ts : Tokens) (b : Bool) → b ≡ starts (begins (exactly comma ∷ exactly colon ∷ [])) ts → b ≡ false → read_named_behind n x ts ≡ read_behind n vars_of x ts
named_behind n x ts b e q = rw (sym e ∙ q) (behind_some n x ts b e q)

-- ---- what stands behind a colon

pub colon_other : (n : ℕ) (x : Word) (more : List Word) (ts : Tokens) (b : Bool) → b ≡ starts (begins (exactly w.word_assert ∷ [])) ts → b ≡ false → read_behind_colon n x more ts ≡ read_of_names n (x ∷ more) ts
unfolding read_behind_colon
colon_other n x [] ts b e q = rw (sym e ∙ q) refl
colon_other n x (y ∷ more) ts b e q = refl

pub colon_several : (n : ℕ) (x : Word) (more : List Word) (ts : Tokens) → 0 < length more → read_behind_colon n x more ts ≡ read_of_names n (x ∷ more) ts
unfolding read_behind_colon
colon_several n x [] ts l = absurd (omega arith)
colon_several n x (y ∷ more) ts l = refl

pub colon_claim : (n : ℕ) (x : Word) (more : List Word) (ts : Tokens) (b : Bool) → length more ≤ 0 → b ≡ starts (begins (exactly w.word_assert ∷ [])) ts → b ≡ true → read_behind_colon n x more ts ≡ read_claimed n x more ts
unfolding read_behind_colon
colon_claim n x [] ts b l e q = rw (sym e ∙ q) refl
colon_claim n x (y ∷ more) ts b l e q = absurd (omega arith)
