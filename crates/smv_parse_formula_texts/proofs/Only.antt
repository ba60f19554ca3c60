-- What the pieces answer is what the bytes call for, and nothing else is.
use Rattle.std.proofs.Common.{◌≡◌, ℕ, ◌⊎◌, inl, inr, List, length, Result, Ok, Err, IfOk, sym, ◌∙◌, ap, subst}
use Rattle.smv_core.specs.declared.fault.Refusal.{Refusal}
use Rattle.smv_core.specs.declared.fault.Refusal.TheVariants.{Fault, OutOfMemory}
use Rattle.smv_core.specs.Notation.{Tokens}
use Rattle.smv_lex.specs.Lexing.{lexed}
use Rattle.smv_lex.specs.Answers.{IfFault}
use Rattle.law_formulas.specs.Formulas.{FormulaText}
use Rattle.law_formula_grammar.specs.Grammar.{text_rule}
use Rattle.law_formula_grammar.specs.Spelling.{SpellsBy, IsUnexpectedBy, IsTooDeepBy}
use Rattle.smv_parse_items.specs.Answer.{fault}
use Rattle.smv_parse_formulas.specs.declared.tree.FormulaTree.{FormulaTree}
use Rattle.smv_parse_formulas.specs.Trees.{shown}
use Rattle.smv_parse_formulas.specs.Answer.{IsFault}
use Rattle.smv_parse_formula_texts.specs.declared.ReadText.{ReadText}
use Rattle.smv_parse_formula_texts.specs.Answers.{UnlessMemory}
use Rattle.smv_parse_formula_texts.specs.Spelling.{SpellsText, HasFault, of_bytes, unexpected, too_deep}
use Rattle.smv_parse_formula_texts.specs.Laws.{IsOneText, IsOneFault, IsNotBoth}
use Rattle.smv_parse_formula_texts.proofs.Answers.{spelled}

-- a fault of the bytes
pub of_lexer : {X : Type 0} (text : List ℕ) (r : Refusal) (result : Result X Refusal) → result ≡ Err r → IfFault result (λ f. lexed text ≡ Err f) → IfFault {X = ReadText} (Err r) (λ f. HasFault text f.number f.at)
of_lexer {X} text r result is bad = by r (subst (λ (z : Result X Refusal). IfFault z (λ f. lexed text ≡ Err f)) is bad)
  where
    by : (r : Refusal) → IfFault {X = X} (Err r) (λ f. lexed text ≡ Err f) → IfFault {X = ReadText} (Err r) (λ f. HasFault text f.number f.at)
    by (Fault f) bad = of_bytes bad
    by OutOfMemory bad = tt

-- what the tokens spell
pub of_tree : (text : List ℕ) (read tokens : Tokens) (tree : FormulaTree) (result : Result FormulaTree Refusal) → read ≡ tokens → lexed text ≡ Ok tokens → result ≡ Ok tree
    → IfOk result (λ t. SpellsBy text_rule 64 read (shown t)) → SpellsText text tokens (shown tree)
of_tree text read tokens tree result same is found h =
    let k = subst (λ (z : Result FormulaTree Refusal). IfOk z (λ t. SpellsBy text_rule 64 read (shown t))) found h in
    (is, spelled text tokens (shown tree) is (subst (λ (ts : Tokens). SpellsBy text_rule 64 ts (shown tree)) same k))

-- a fault of the tokens
pub of_tokens : (text : List ℕ) (read tokens : Tokens) (r : Refusal) (result : Result FormulaTree Refusal) → read ≡ tokens → lexed text ≡ Ok tokens → result ≡ Err r
    → ((number at : ℕ) → IsFault number at result → (number ≡ 5) ⊎ (number ≡ 6))
    → ((at : ℕ) → IsFault 5 at result → IsUnexpectedBy text_rule 64 (length text) read at)
    → ((at : ℕ) → IsFault 6 at result → IsTooDeepBy text_rule 64 read at)
    → IfFault {X = ReadText} (Err r) (λ f. HasFault text f.number f.at)
of_tokens text read tokens OutOfMemory result same is refused five six deep = tt
of_tokens text read tokens (Fault f) result same is refused numbered bad deep = by (numbered f.number f.at refused)
  where
    by : (f.number ≡ 5) ⊎ (f.number ≡ 6) → HasFault text f.number f.at
    by (inl e) = subst (λ (n : ℕ). HasFault text n f.at) (sym e) (unexpected is (subst (λ (ts : Tokens). IsUnexpectedBy text_rule 64 (length text) ts f.at) same (bad f.at (refused ∙ ap (λ (n : ℕ). Err (fault n f.at)) e))))
    by (inr e) = subst (λ (n : ℕ). HasFault text n f.at) (sym e) (too_deep is (subst (λ (ts : Tokens). IsTooDeepBy text_rule 64 ts f.at) same (deep f.at (refused ∙ ap (λ (n : ℕ). Err (fault n f.at)) e))))

pub only_text : IsOneText → IsNotBoth → (text : List ℕ) (result : Result ReadText Refusal) → IfOk result (λ read. SpellsText text read.tokens (shown read.tree)) → IfFault result (λ f. HasFault text f.number f.at)
    → (ts : Tokens) (tree : FormulaText) → SpellsText text ts tree → UnlessMemory result (Ok (ts, tree))
only_text one both text (Ok other) is bad ts tree h =
    let e = one text other.tokens ts (shown other.tree) tree is h in
    ap (λ (z : Tokens). Ok (z, shown other.tree)) e.0 ∙ ap (λ (z : FormulaText). Ok (ts, z)) e.1
only_text one both text (Err OutOfMemory) is bad ts tree h = tt
only_text one both text (Err (Fault f)) is bad ts tree h = absurd (both text ts tree f.number f.at h bad)

pub only_fault : IsOneFault → IsNotBoth → (text : List ℕ) (result : Result ReadText Refusal) → IfOk result (λ read. SpellsText text read.tokens (shown read.tree)) → IfFault result (λ f. HasFault text f.number f.at)
    → (number at : ℕ) → HasFault text number at → UnlessMemory result (Err (fault number at))
only_fault one both text (Ok read) is bad number at h = absurd (both text read.tokens (shown read.tree) number at is h)
only_fault one both text (Err OutOfMemory) is bad number at h = tt
only_fault one both text (Err (Fault f)) is bad number at h =
    let same = one text f.number number f.at at bad h in
    let n : f.number ≡ number = same.0 in
    let a : f.at ≡ at = same.1 in
    ap (λ (n : ℕ). Err (fault n f.at)) n ∙ ap (λ (a : ℕ). Err (fault number a)) a
