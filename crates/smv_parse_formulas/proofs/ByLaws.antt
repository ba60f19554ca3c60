-- The answers of the parser of tokens are those of the laws.
use Rattle.std.proofs.Common.{◌≡◌, ◌≤◌, ◌+◌, ◌-◌, ℕ, Bool, true, false, length, length-append, drop, Result, Ok, Err, IfOk, IfErr, ◌⊎◌, inl, inr, refl, sym, ◌∙◌, ap, subst, arith}
use Rattle.std.proofs.Math.Seq.{drop-append_seam}
use Rattle.smv_core.specs.declared.fault.Refusal.{Refusal}
use Rattle.smv_core.specs.declared.fault.Refusal.TheVariants.{Fault, OutOfMemory}
use Rattle.smv_core.specs.Notation.{Tokens}
use Rattle.smv_core.specs.Spelling.{place_of_rest}
use Rattle.law_grammar.specs.Parsing.{Halt, Halts}
use Rattle.law_grammar.specs.Laws.{Rise}
use Rattle.law_grammar.specs.Items.{top_marks}
use Rattle.law_grammar.specs.Marks.{stops_by}
use Rattle.law_formulas.specs.Formulas.{FormulaText}
use Rattle.law_formula_grammar.specs.Grammar.{text_rule}
use Rattle.law_formula_grammar.specs.Spelling.{SpellsBy, IsUnexpectedBy, IsTooDeepBy}
use Rattle.law_formula_grammar.specs.Readers.{read_tops, read_text}
use Rattle.law_formula_grammar.specs.Laws.{IsRightBy}
use Rattle.law_formula_grammar.proofs.Whole as whole
use Rattle.law_formula_grammar.proofs.Answers.{law, answered, only-text, only-unexpected, only-too-deep}
use Rattle.smv_parse_items.specs.Answer.{fault, number_of_halt}
use Rattle.smv_parse_formulas.specs.declared.tree.FormulaTree.{FormulaTree}
use Rattle.smv_parse_formulas.specs.Trees.{shown}
use Rattle.smv_parse_formulas.specs.Answer.{HaltsText, IsFault, UnlessMemory, RefusedAs}

-- the tokens where the reader halts are the last ones, as many as are left
halts_at_last : (n : ℕ) (ts : Tokens) (deep : Bool) (bad : Tokens) → read_text n ts ≡ Err (Halts deep bad) → (length bad ≤ length ts) × (drop (length ts - length bad) ts ≡ bad)
halts_at_last n ts deep bad e = go (whole.refusal text_rule read_tops (stops_by (λ ft. top_marks)) law (λ a. refl) n ts deep bad e)
  where
    go : whole.Refusal text_rule read_tops (stops_by (λ ft. top_marks)) law (λ a. refl) n ts deep bad → (length bad ≤ length ts) × (drop (length ts - length bad) ts ≡ bad)
    go u =
        let s : length ts ≡ length u.front + length bad = ap length u.split ∙ length-append u.front bad in
        let k : length ts - length bad ≡ length u.front = omega arith in
        (omega arith, rw k (rw u.split (drop-append_seam u.front bad)))

-- where the reader of texts halts so, the fault is at the last tokens, as many as are left
pub stopped : (n end : ℕ) (ts : Tokens) (deep : Bool) (left : ℕ) → HaltsText deep left (read_text n ts)
    → (left ≤ length ts) × RefusedAs end (fault (number_of_halt deep) (place_of_rest end (drop (length ts - left) ts))) (read_text n ts)
stopped n end ts deep left h =
    let u = halts_at_last n ts deep h.0 h.1 in
    let P : ℕ → Type 0 = λ k. (k ≤ length ts) × RefusedAs end (fault (number_of_halt deep) (place_of_rest end (drop (length ts - k) ts))) (read_text n ts) in
    subst P h.2 (u.0, (deep, h.0, h.1, rw u.1 refl))

abbrev number_of : Refusal → ℕ
number_of (Fault f) = f.number
number_of OutOfMemory = 0

abbrev place_of : Refusal → ℕ
place_of (Fault f) = f.at
place_of OutOfMemory = 0

module _ (end : ℕ) (ts : Tokens) where
  right : (o : Result FormulaText Halt) → read_text 64 ts ≡ o → IsRightBy text_rule 64 end ts o
  right o e = let P : Result FormulaText Halt → Type 0 = λ o. IsRightBy text_rule 64 end ts o in subst P e (answered 64 end ts)

  pub is_text : (result : Result FormulaTree Refusal) → IfOk result (λ tree. read_text 64 ts ≡ Ok (shown tree)) → IfOk result (λ tree. SpellsBy text_rule 64 ts (shown tree))
  is_text (Ok x) e = right (Ok (shown x)) e
  is_text (Err r) e = tt

  pub is_only_text : (result : Result FormulaTree Refusal) → IfOk result (λ tree. read_text 64 ts ≡ Ok (shown tree)) → IfErr result (λ refusal. RefusedAs end refusal (read_text 64 ts))
      → (x : FormulaText) → SpellsBy text_rule 64 ts x → UnlessMemory result (Ok x)
  is_only_text (Ok y) e _ x h = let e' = only-text 64 ts x h in let q : shown y ≡ x = cc in ap (λ (z : FormulaText). Ok z) q
  is_only_text (Err (Fault f)) _ u x h = let e = u.2 in let e' = only-text 64 ts x h in absurd cc
  is_only_text (Err OutOfMemory) _ _ x h = tt

  pub is_numbered : (result : Result FormulaTree Refusal) → IfErr result (λ refusal. RefusedAs end refusal (read_text 64 ts)) → (number at : ℕ) → IsFault number at result → (number ≡ 5) ⊎ (number ≡ 6)
  is_numbered (Ok x) _ number at e = absurd cc
  is_numbered (Err (Fault f)) u number at e = by u.0 (ap number_of (let e' = u.3 in let q : fault number at ≡ fault (number_of_halt u.0) (place_of_rest end u.1) = cc in q))
    where
      by : (deep : Bool) → number ≡ number_of_halt deep → (number ≡ 5) ⊎ (number ≡ 6)
      by false q = inl q
      by true q = inr q
  is_numbered (Err OutOfMemory) _ number at e = absurd cc

  by-halt : (number at : ℕ) (deep : Bool) (bad : Tokens) (f : Refusal) → f ≡ fault number at → f ≡ fault (number_of_halt deep) (place_of_rest end bad) → (number ≡ number_of_halt deep) × (at ≡ place_of_rest end bad)
  by-halt number at deep bad f e q = (ap number_of (sym e ∙ q), ap place_of (sym e ∙ q))

  pub is_unexpected : (result : Result FormulaTree Refusal) → IfErr result (λ refusal. RefusedAs end refusal (read_text 64 ts)) → (at : ℕ) → IsFault 5 at result → IsUnexpectedBy text_rule 64 end ts at
  is_unexpected (Ok x) _ at e = absurd cc
  is_unexpected (Err OutOfMemory) _ at e = absurd cc
  is_unexpected (Err (Fault f)) u at e = go u.0 u.1 u.2 (by-halt 5 at u.0 u.1 (Fault f) (cc) u.3)
    where
      go : (deep : Bool) (bad : Tokens) → read_text 64 ts ≡ Err (Halts deep bad) → (5 ≡ number_of_halt deep) × (at ≡ place_of_rest end bad) → IsUnexpectedBy text_rule 64 end ts at
      go true bad k q = absurd (omega (arith, q.0))
      go false bad k q = let P : ℕ → Type 0 = λ z. IsUnexpectedBy text_rule 64 end ts z in subst P (sym q.1) (right (Err (Halts false bad)) k)

  pub is_too_deep : (result : Result FormulaTree Refusal) → IfErr result (λ refusal. RefusedAs end refusal (read_text 64 ts)) → (at : ℕ) → IsFault 6 at result → IsTooDeepBy text_rule 64 ts at
  is_too_deep (Ok x) _ at e = absurd cc
  is_too_deep (Err OutOfMemory) _ at e = absurd cc
  is_too_deep (Err (Fault f)) u at e = go u.0 u.1 u.2 (by-halt 6 at u.0 u.1 (Fault f) (cc) u.3)
    where
      go : (deep : Bool) (bad : Tokens) → read_text 64 ts ≡ Err (Halts deep bad) → (6 ≡ number_of_halt deep) × (at ≡ place_of_rest end bad) → IsTooDeepBy text_rule 64 ts at
      go false bad k q = absurd (omega (arith, q.0))
      go true bad k q = let P : ℕ → Type 0 = λ z. IsTooDeepBy text_rule 64 ts z in subst P (sym q.1) (right (Err (Halts true bad)) k)

  halted : (result : Result FormulaTree Refusal) → IfOk result (λ tree. read_text 64 ts ≡ Ok (shown tree)) → IfErr result (λ refusal. RefusedAs end refusal (read_text 64 ts))
      → (deep : Bool) (bad : Tokens) → read_text 64 ts ≡ Err (Halts deep bad) → UnlessMemory result (Err (fault (number_of_halt deep) (place_of_rest end bad)))
  halted (Ok y) e _ deep bad k = absurd cc
  halted (Err OutOfMemory) _ _ deep bad k = tt
  halted (Err (Fault f)) _ u deep bad k =
      let e = u.2 in
      let q : Halts u.0 u.1 ≡ Halts deep bad = cc in
      let d : u.0 ≡ deep = cc in
      let b : u.1 ≡ bad = cc in
      let P : Bool → Type 0 = λ z. Fault f ≡ fault (number_of_halt z) (place_of_rest end bad) in
      let Q : Tokens → Type 0 = λ z. Fault f ≡ fault (number_of_halt u.0) (place_of_rest end z) in
      ap (λ (z : Refusal). Err z) (subst P d (subst Q b u.3))

  pub is_only_unexpected : (result : Result FormulaTree Refusal) → IfOk result (λ tree. read_text 64 ts ≡ Ok (shown tree)) → IfErr result (λ refusal. RefusedAs end refusal (read_text 64 ts))
      → (at : ℕ) → Rise end ts → IsUnexpectedBy text_rule 64 end ts at → UnlessMemory result (Err (fault 5 at))
  is_only_unexpected result e u at rise x =
      let h = only-unexpected 64 end ts at rise x in
      let P : ℕ → Type 0 = λ z. UnlessMemory result (Err (fault 5 z)) in
      subst P (sym h.2) (halted result e u false h.0 h.1)

  pub is_only_too_deep : (result : Result FormulaTree Refusal) → IfOk result (λ tree. read_text 64 ts ≡ Ok (shown tree)) → IfErr result (λ refusal. RefusedAs end refusal (read_text 64 ts))
      → (at : ℕ) → Rise end ts → IsTooDeepBy text_rule 64 ts at → UnlessMemory result (Err (fault 6 at))
  is_only_too_deep result e u at rise x =
      let h = only-too-deep 64 end ts at rise x in
      let P : ℕ → Type 0 = λ z. UnlessMemory result (Err (fault 6 z)) in
      subst P (sym h.2) (halted result e u true h.0 h.1)
