-- A text has one strengthened text, or none.
use Rattle.std.proofs.Common.{◌≡◌, ℕ, List, Option, Some, None, Ok, sym, ap, ◌∙◌, subst}
use Rattle.smv_core.specs.Values.{Name}
use Rattle.smv_core.specs.declared.tree.Text.{Text}
use Rattle.smv_core.specs.Notation.{Tokens}
use Rattle.smv_core.specs.Spelling.{Spells}
use Rattle.smv_lex.specs.Lexing.{lexed}
use Rattle.law_grammar.proofs.Only.{one-text}
use Rattle.law_strengthened_texts.specs.Stronger.{Found, induction, strengthened, levels}
use Rattle.law_strengthened_texts.proofs.Lengths.{one-lexed}
use Rattle.law_inductive_texts.specs.Laws.{OneStronger, NotBothStronger}

-- a text has one list of tokens, and these one tree
one-tree : (text : List ℕ) (ts us : Tokens) (x y : Text) → lexed text ≡ Ok ts → lexed text ≡ Ok us → Spells levels ts x → Spells levels us y → (ts ≡ us) × (x ≡ y)
one-tree text ts us x y l m h k = let tokens = one-lexed (lexed text) ts us l m in (tokens, one-text levels levels us x y (subst (λ z. Spells levels z x) tokens h) k)

one-found : (p q : Found × Name) (o : Option (Found × Name)) → o ≡ Some p → o ≡ Some q → p ≡ q
one-found p q o a b = cc (a, b)

none-found : (p : Found × Name) (o : Option (Found × Name)) → o ≡ None → o ≡ Some p → ⊥
none-found p o a b = absurd (cc (a, b))

pub one-stronger : OneStronger
one-stronger text name var s t h k =
    let same = one-tree text h.0 k.0 h.1 k.1 h.4 k.4 h.5 k.5 in
    let found = one-found (h.2, h.3) (k.2, k.3) (induction h.1.tops name var) h.6 (ap (λ (x : Text). induction x.tops name var) same.1 ∙ k.6) in
    h.7 ∙ ap (λ ts. strengthened text ts var h.3 h.2.word.at) same.0 ∙ ap (λ (p : Found × Name). strengthened text k.0 var p.1 p.0.word.at) found ∙ sym k.7

pub not-both : NotBothStronger
not-both text name var s h none =
    let same = one-tree text none.0 h.0 none.1 h.1 none.2 h.4 none.3 h.5 in
    none-found (h.2, h.3) (induction h.1.tops name var) (ap (λ (x : Text). induction x.tops name var) (sym same.1) ∙ none.4) h.6
