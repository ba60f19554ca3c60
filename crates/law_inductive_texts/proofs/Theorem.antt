-- A text is sound where its strengthened text is, and neither has a fault of names.
use Rattle.std.proofs.Common.{◌≡◌, ◌≤◌, ◌<◌, ◌+◌, ◌^◌, ℕ, List, [], ◌∷◌, length, Ok, sym, ap, ◌∙◌, subst, arith}
use Rattle.smv_core.specs.Values.{Name}
use Rattle.smv_core.specs.Sound.{IsSound}
use Rattle.smv_core.specs.Notation.{Tokens}
use Rattle.smv_core.specs.Spelling.{Spells}
use Rattle.smv_lex.specs.Lexing.{lexed}
use Rattle.law_grammar.proofs.Only.{one-text}
use Rattle.law_lexed_parts.proofs.Parted.{From, Under, Rising, within-text, rising}
use Rattle.law_places.specs.Placeless.{placeless_text}
use Rattle.law_strengthened_texts.specs.Stronger.{fresh_name, levels}
use Rattle.law_strengthened_texts.proofs.Placing.{stronger-text-sound}
use Rattle.law_strengthened_texts.proofs.Fresh.{fresh-name, fresh-free}
use Rattle.law_text_names.proofs.Tops.{other-names}
use Rattle.law_text_names.proofs.Read.{names-read}
use Rattle.law_inductive_texts.specs.Laws.{InductionIsSound}
use Rattle.law_inductive_texts.proofs.Whole.{faultless-inductive}

-- offsets that rise below a number are no more than it
few-tokens : (k n : ℕ) (ts : Tokens) → k ≤ n → From k ts → Rising ts → Under n ts → k + length ts ≤ n
few-tokens k n [] le f r u = omega (arith, le)
few-tokens k n (t ∷ ts) le f r u = let above = f.0 in let under = u.0 in let rest = few-tokens (t.at + 1) n ts (omega (arith, under)) r.0 r.1 u.1 in omega (arith, above, rest)

from-zero : (ts : Tokens) → From 0 ts
from-zero [] = tt
from-zero (t ∷ ts) = (omega arith, from-zero ts)

few : (text : List ℕ) (ts : Tokens) → lexed text ≡ Ok ts → length ts ≤ length text
few text ts l = let h = few-tokens 0 (0 + length text) ts (omega arith) (from-zero ts) (rising 0 0 text ts l) (within-text 0 0 text ts l) in omega (arith, h)

pub induction-sound : InductionIsSound
induction-sound text name var ts x c set short l h p found us new m k q s =
    let fresh : Name = fresh_name ts in
    let small : length ts < 2 ^ 32 = let le = few text ts l in omega (arith, le, short) in
    let names = names-read levels text ts x name var c set l h found in
    let r = stronger-text-sound text name var ts x c set l h found names.0 (fresh-name ts small) names.1 in
    let tokens : r.0 ≡ us = let a = r.2 in cc (a, m) in
    let same : r.1 ≡ new = one-text (levels + 2) levels us r.1 new (subst (λ z. Spells (levels + 2) z r.1) tokens r.3) k in
    let inductive = faultless-inductive x new name var fresh c set p q found (r.4 ∙ ap placeless_text same) (other-names levels ts x fresh h (fresh-free ts small)) in
    r.5 inductive (subst IsSound (sym same) s)
