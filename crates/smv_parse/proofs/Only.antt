-- What the pieces answer is what the text calls for, and nothing else is.
use Rattle.std.proofs.Common.{◌≡◌, ℕ, ◌⊎◌, inl, inr, List, length, Result, Ok, Err, IfOk, refl, sym, ◌∙◌, ap, subst}
use Rattle.smv_core.specs.declared.fault.Refusal.{Refusal}
use Rattle.smv_core.specs.declared.fault.Refusal.TheVariants.{Fault, OutOfMemory}
use Rattle.smv_core.specs.declared.tree.Text.{Text}
use Rattle.smv_core.specs.Notation.{Tokens}
use Rattle.smv_core.specs.Spelling.{IsUnexpected, IsTooDeep}
use Rattle.smv_lex.specs.Lexing.{lexed}
use Rattle.smv_lex.specs.Answers.{IfFault}
use Rattle.smv_parse_items.specs.Answer.{fault, IsFault}
use Rattle.smv_parse.specs.Answers.{UnlessMemory}
use Rattle.smv_parse.specs.Spelling.{SpellsText, HasFault, of_bytes, unexpected, too_deep}
use Rattle.smv_parse.specs.Laws.{IsOneTree, IsOneFault, IsNotBoth}

-- a fault of the bytes is the text's
pub of_lexer : {X : Type 0} (text : List ℕ) (r : Refusal) (result : Result X Refusal) → result ≡ Err r → IfFault result (λ f. lexed text ≡ Err f) → IfFault {X = Text} (Err r) (λ f. HasFault text f.number f.at)
of_lexer {X} text r result is bad = by r (subst (λ (z : Result X Refusal). IfFault z (λ f. lexed text ≡ Err f)) is bad)
  where
    by : (r : Refusal) → IfFault {X = X} (Err r) (λ f. lexed text ≡ Err f) → IfFault {X = Text} (Err r) (λ f. HasFault text f.number f.at)
    by (Fault f) bad = of_bytes bad
    by OutOfMemory bad = tt

-- a fault of the tokens is the text's
pub of_tokens : (text : List ℕ) (read tokens : Tokens) (result : Result Text Refusal) → read ≡ tokens → lexed text ≡ Ok tokens
    → ((number at : ℕ) → IsFault number at result → (number ≡ 5) ⊎ (number ≡ 6))
    → ((at : ℕ) → IsFault 5 at result → IsUnexpected 64 (length text) read at)
    → ((at : ℕ) → IsFault 6 at result → IsTooDeep 64 read at)
    → IfFault result (λ f. HasFault text f.number f.at)
of_tokens text read tokens (Ok tree) same is five six deep = tt
of_tokens text read tokens (Err OutOfMemory) same is five six deep = tt
of_tokens text read tokens (Err (Fault f)) same is numbered bad deep = by (numbered f.number f.at refl)
  where
    by : (f.number ≡ 5) ⊎ (f.number ≡ 6) → HasFault text f.number f.at
    by (inl e) = subst (λ (n : ℕ). HasFault text n f.at) (sym e) (unexpected is (subst (λ (ts : Tokens). IsUnexpected 64 (length text) ts f.at) same (bad f.at (ap (λ (n : ℕ). Err (fault n f.at)) e))))
    by (inr e) = subst (λ (n : ℕ). HasFault text n f.at) (sym e) (too_deep is (subst (λ (ts : Tokens). IsTooDeep 64 ts f.at) same (deep f.at (ap (λ (n : ℕ). Err (fault n f.at)) e))))

pub only_tree : IsOneTree → IsNotBoth → (text : List ℕ) (result : Result Text Refusal) → IfOk result (λ tree. SpellsText text tree) → IfFault result (λ f. HasFault text f.number f.at)
    → (tree : Text) → SpellsText text tree → UnlessMemory result (Ok tree)
only_tree one both text (Ok other) is bad tree h = ap Ok (one text other tree is h)
only_tree one both text (Err OutOfMemory) is bad tree h = tt
only_tree one both text (Err (Fault f)) is bad tree h = absurd (both text tree f.number f.at h bad)

pub only_fault : IsOneFault → IsNotBoth → (text : List ℕ) (result : Result Text Refusal) → IfOk result (λ tree. SpellsText text tree) → IfFault result (λ f. HasFault text f.number f.at)
    → (number at : ℕ) → HasFault text number at → UnlessMemory result (Err (fault number at))
only_fault one both text (Ok tree) is bad number at h = absurd (both text tree number at is h)
only_fault one both text (Err OutOfMemory) is bad number at h = tt
only_fault one both text (Err (Fault f)) is bad number at h =
    let same = one text f.number number f.at at bad h in
    let n : f.number ≡ number = same.0 in
    let a : f.at ≡ at = same.1 in
    ap (λ (n : ℕ). Err (fault n f.at)) n ∙ ap (λ (a : ℕ). Err (fault number a)) a
