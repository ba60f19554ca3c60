-- What is read is no less than the canonical tokens.
use Rattle.std.proofs.Common.{◌≡◌, ℕ, ◌≤◌, [], length, ap, sym, ◌∙◌, arith}
use Rattle.smv_core.specs.declared.tree.Text.{Text}
use Rattle.smv_core.specs.Notation.{Tokens}
use Rattle.smv_core.specs.Spelling.{Spells}
use Rattle.smv_print.specs.Written.{Kinds, joined}
use Rattle.smv_print.specs.Canonical.{text_kinds, canonical}
use Rattle.law_print_and_parse.specs.Aside.{text_aside}
use Rattle.law_print_and_parse.proofs.FrugalTexts.{saves-text}
use Rattle.law_print_and_parse.proofs.Pairs.{too-few}
use Rattle.law_print_and_parse.proofs.spelling.fewest_tokens_of_text.Goals as goal

one-spelling : (n m : ℕ) (ts us : Tokens) (x y : Text) → Spells n ts x → Spells m us y → text_aside y ≡ text_aside x → text_kinds y ≡ text_kinds x
unfolding Spells
one-spelling n m ts us x y h k e =
    let a = saves-text n ts x.tops [] h in
    let b = saves-text m us y.tops [] k in
    sym b.alike ∙ ap text_kinds e ∙ a.alike

shortest : (n m : ℕ) (ts us : Tokens) (x y : Text) → Spells n ts x → Spells m us y → text_aside y ≡ text_aside x → length (text_kinds x) ≤ length us
unfolding Spells
shortest n m ts us x y h k e =
    let b = saves-text m us y.tops [] k in
    let l = b.short.least in
    let d : length (text_kinds y) ≡ length (text_kinds x) = ap (λ (ks : Kinds). length ks) (one-spelling n m ts us x y h k e) in
    omega arith

pub returns-clause-one : goal.returns-clause-one
returns-clause-one c n m ts us x y h k e = one-spelling n m ts us x y h k e

pub returns-clause-printed : goal.returns-clause-printed
unfolding canonical
returns-clause-printed c n m ts us x y h k e = ap joined (one-spelling n m ts us x y h k e)

pub returns-clause-shortest : goal.returns-clause-shortest
returns-clause-shortest c n m ts us x y h k e = shortest n m ts us x y h k e

pub returns-clause-needed : goal.returns-clause-needed
returns-clause-needed c n m ts us x y h out k e = too-few (text_kinds x) us (shortest n m ts us x y h k e) out
