-- How long a strengthened text is: what is put in stands within it, and the text grows by what is new less what is old.
use Rattle.std.proofs.Common.{◌≡◌, ◌≤◌, ◌+◌, ◌-◌, ℕ, List, ◌++◌, length, take, drop, false, Ok, sym, ap, subst, ◌∙◌, arith}
use Rattle.std.proofs.lemmas.List.{length-append, length-take-le, length-drop}
use Rattle.smv_core.specs.Values.{Name}
use Rattle.smv_core.specs.Notation.{Tokens}
use Rattle.smv_lex.specs.Lexing.{Lexed, lexed}
use Rattle.law_lexed_parts.specs.Parts.{begin_of, end_of_all}
use Rattle.law_exchanged.specs.Claims.{body_tokens}
use Rattle.law_strengthened_claims.specs.Renaming.{between, renamed_bytes}
use Rattle.law_strengthened_claims.specs.Replacement.{replacement}
use Rattle.law_strengthened_texts.specs.Stronger.{Stronger, IsStrengthened, fresh_name, put}
use Rattle.law_strengthened_texts.specs.Laws.{StrongerIsPlaced}

-- a text is read as one list of tokens
pub one-lexed : (l : Lexed) (ts us : Tokens) → l ≡ Ok ts → l ≡ Ok us → ts ≡ us
one-lexed l ts us a b = cc (a, b)

put-lengths : (text before bytes after new : List ℕ) (from to at : ℕ) → text ≡ before ++ (bytes ++ after) → from ≡ length before → to ≡ length before + length bytes →
    (from + length new ≤ length (put text from to new at).text) × (length (put text from to new at).text + (to - from) ≡ length text + length new)
put-lengths text before bytes after new from to at split e k =
    let whole : length text ≡ length before + (length bytes + length after) = ap length split ∙ length-append before (bytes ++ after) ∙ ap (λ n. length before + n) (length-append bytes after) in
    let front : length (take from text) ≡ from = length-take-le from text (omega (arith, whole, e)) in
    let back : length (drop to text) ≡ length text - to = length-drop to text in
    let all : length (take from text ++ (new ++ drop to text)) ≡ length (take from text) + (length new + length (drop to text)) =
    length-append (take from text) (new ++ drop to text) ∙ ap (λ n. length (take from text) + n) (length-append new (drop to text)) in
    (omega (arith, all, front), omega (arith, all, front, back, whole, e, k))

pub lengths : StrongerIsPlaced → (text : List ℕ) (name var : Name) (s : Stronger) → IsStrengthened text name var s → (s.from + s.new ≤ length s.text) × (length s.text + s.old ≡ length text + s.new)
lengths law text name var s h =
    let ts = h.0 in
    let at = h.2.word.at in
    let w = law text name var ts h.1 h.2 h.3 h.4 h.5 h.6 in
    let p = w.0 in
    let tokens : p.all ≡ ts = one-lexed (lexed text) p.all ts p.all_read h.4 in
    let body : body_tokens p.word.at p.all ≡ body_tokens at ts = ap (λ k. body_tokens k p.all) w.1 ∙ ap (body_tokens at) tokens in
    let starts : begin_of (body_tokens at ts) ≡ length p.before = ap begin_of (sym body) ∙ p.starts in
    let ends : end_of_all text (body_tokens at ts) ≡ length p.before + length p.bytes = ap (end_of_all text) (sym body) ∙ p.ends in
    let from = begin_of (body_tokens at ts) in
    let to = end_of_all text (body_tokens at ts) in
    let new = replacement var (fresh_name ts) h.3 (renamed_bytes text var (fresh_name ts) from to false (body_tokens at ts)) (between text from to) in
    subst (λ (z : Stronger). (z.from + z.new ≤ length z.text) × (length z.text + z.old ≡ length text + z.new)) (sym h.7) (put-lengths text p.before p.bytes p.after new from to at p.split starts ends)
