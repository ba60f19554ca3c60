-- What is left of a text, read place by place.
use Rattle.std.proofs.Common.{◌≡◌, ℕ, zero, suc, ◌+◌, ◌-◌, ◌<◌, ◌≤◌, List, [], ◌∷◌, ◌++◌, drop, length, Ok, Err, refl, ap, sym, ◌∙◌, arith, append_assoc, append-nil, drop-cons, drop-drop}
use Rattle.std.proofs.lemmas.List.{drop_all}
use Rattle.smv_core.specs.declared.token.Token.{Token}
use Rattle.smv_core.specs.declared.token.TokenKind.{TokenKind}
use Rattle.smv_lex.specs.declared.front.Front.{Front}
use Rattle.smv_lex.specs.declared.front.Front.TheVariants.{Passed, Whole, Broken}
use Rattle.smv_lex.specs.Lexing.{Lexed, with_token, then_more, front_of, lexed_from, lexed}

-- some tokens, and then what follows
abbrev pub with_front : List Token → Lexed → Lexed
with_front front (Ok tokens) = Ok (front ++ tokens)
with_front front (Err fault) = Err fault

with_front-append : (front : List Token) (token : Token) (more : Lexed) → with_front (front ++ token ∷ []) more ≡ with_front front (with_token token more)
with_front-append front token (Ok tokens) = ap Ok (append_assoc front (token ∷ []) tokens)
with_front-append front token (Err fault) = refl

-- the bytes of what stands before are passed
lexed_from-skip : (n at : ℕ) (bytes : List ℕ) → lexed_from at n bytes ≡ lexed_from (at + n) 0 (drop n bytes)
unfolding lexed_from
lexed_from-skip zero at bytes = ap (λ k. lexed_from k 0 bytes) (omega arith)
lexed_from-skip (suc n) at [] = refl
lexed_from-skip (suc n) at (b ∷ bytes) = lexed_from-skip n (at + 1) bytes ∙ ap (λ k. lexed_from k 0 (drop n bytes)) (omega arith)

behind : (text : List ℕ) (at n : ℕ) → 0 < n → lexed_from (at + 1) (n - 1) (drop (suc at) text) ≡ lexed_from (at + n) 0 (drop (at + n) text)
behind text at n some =
    lexed_from-skip (n - 1) (at + 1) (drop (suc at) text)
    ∙ ap (λ l. lexed_from (at + 1 + (n - 1)) 0 l) (drop-drop (n - 1) (suc at) text) ∙ same (at + 1 + (n - 1)) (suc at + (n - 1)) (at + n) (omega arith) (omega arith)
  where
    same : (a b k : ℕ) → a ≡ k → b ≡ k → lexed_from a 0 (drop b text) ≡ lexed_from k 0 (drop k text)
    same a b k p q = rw (p, q) refl

-- what stands at a place, and then more
place : (text : List ℕ) (at : ℕ) (front : Front) → at < length text → front_of (drop at text) ≡ front →
    lexed_from at 0 (drop at text) ≡ then_more at front (λ n. lexed_from (at + 1) (n - 1) (drop (suc at) text))
unfolding lexed_from
place text at front inside is = let here = drop-cons text at 0 inside in rw (here, ← here, is) refl

pub after-passed : (text : List ℕ) (at n : ℕ) (front : List Token) → at < length text → front_of (drop at text) ≡ Passed n → 0 < n →
    with_front front (lexed_from at 0 (drop at text)) ≡ lexed text → with_front front (lexed_from (at + n) 0 (drop (at + n) text)) ≡ lexed text
after-passed text at n front inside is some read = ap (with_front front) (sym (place text at (Passed n) inside is ∙ behind text at n some)) ∙ read

pub after-token : (text : List ℕ) (at n : ℕ) (kind : TokenKind) (front all : List Token) → at < length text → front_of (drop at text) ≡ Whole kind n → 0 < n →
    all ≡ front ++ record { kind = kind; at = at } ∷ [] → with_front front (lexed_from at 0 (drop at text)) ≡ lexed text →
    with_front all (lexed_from (at + n) 0 (drop (at + n) text)) ≡ lexed text
after-token text at n kind front all inside is some pushed read =
    let token : Token = record { kind = kind; at = at } in
    let rest = lexed_from (at + n) 0 (drop (at + n) text) in
    ap (λ l. with_front l rest) pushed ∙ with_front-append front token rest
    ∙ ap (with_front front) (sym (place text at (Whole kind n) inside is ∙ ap (with_token token) (behind text at n some))) ∙ read

pub at-fault : (text : List ℕ) (at number : ℕ) (front : List Token) → at < length text → front_of (drop at text) ≡ Broken number →
    with_front front (lexed_from at 0 (drop at text)) ≡ lexed text → lexed text ≡ Err (record { number = number; at = at })
at-fault text at number front inside is read = sym read ∙ ap (with_front front) (place text at (Broken number) inside is)

pub at-end : (text : List ℕ) (at : ℕ) (front : List Token) → length text ≤ at → with_front front (lexed_from at 0 (drop at text)) ≡ lexed text → lexed text ≡ Ok front
unfolding lexed_from
at-end text at front past read = sym read ∙ ap (λ l. with_front front (lexed_from at 0 l)) (drop_all at text past) ∙ ap Ok (append-nil front)

-- ---- place by place, from any offset

next : (b : ℕ) (bytes : List ℕ) (at n : ℕ) → 0 < n → lexed_from (at + 1) (n - 1) bytes ≡ lexed_from (at + n) 0 (drop n (b ∷ bytes))
next b bytes at zero some = absurd (omega (arith, some))
next b bytes at (suc n) some =
    let one : suc n - 1 ≡ n = omega arith in
    rw one (lexed_from-skip n (at + 1) bytes ∙ ap (λ k. lexed_from k 0 (drop n bytes)) (omega arith))

from-front : (b : ℕ) (bytes : List ℕ) (at : ℕ) (front : Front) → front_of (b ∷ bytes) ≡ front →
    lexed_from at 0 (b ∷ bytes) ≡ then_more at front (λ n. lexed_from (at + 1) (n - 1) bytes)
unfolding lexed_from
from-front b bytes at front is = ap (λ front. then_more at front (λ n. lexed_from (at + 1) (n - 1) bytes)) is

pub from-end : (at : ℕ) → lexed_from at 0 [] ≡ Ok []
unfolding lexed_from
from-end at = refl

pub from-passed : (b : ℕ) (bytes : List ℕ) (at n : ℕ) → front_of (b ∷ bytes) ≡ Passed n → 0 < n → lexed_from at 0 (b ∷ bytes) ≡ lexed_from (at + n) 0 (drop n (b ∷ bytes))
from-passed b bytes at n is some = from-front b bytes at (Passed n) is ∙ next b bytes at n some

pub from-token : (b : ℕ) (bytes : List ℕ) (at n : ℕ) (kind : TokenKind) → front_of (b ∷ bytes) ≡ Whole kind n → 0 < n →
    lexed_from at 0 (b ∷ bytes) ≡ with_token (record { kind = kind; at = at }) (lexed_from (at + n) 0 (drop n (b ∷ bytes)))
from-token b bytes at n kind is some = from-front b bytes at (Whole kind n) is ∙ ap (with_token (record { kind = kind; at = at })) (next b bytes at n some)

pub from-fault : (b : ℕ) (bytes : List ℕ) (at number : ℕ) → front_of (b ∷ bytes) ≡ Broken number → lexed_from at 0 (b ∷ bytes) ≡ Err (record { number = number; at = at })
from-fault b bytes at number is = from-front b bytes at (Broken number) is
