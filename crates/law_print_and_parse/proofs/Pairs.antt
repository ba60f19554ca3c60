-- Tokens without a pair of parentheses are too few.
use Rattle.std.proofs.Common.{◌≡◌, ◌+◌, ◌≤◌, ◌∷◌, ◌++◌, length, ap, arith}
use Rattle.std.proofs.lemmas.List.{length-append, length-map}
use Rattle.smv_core.specs.declared.token.Token.{Token}
use Rattle.smv_core.specs.Signs.{open_paren, close_paren}
use Rattle.smv_core.specs.Notation.{Tokens}
use Rattle.smv_print.specs.Written.{Kinds}
use Rattle.law_print_and_parse.specs.SpellingLaws.{kinds_of, LeavesOut}

-- two tokens more
pair-length : (front inside behind : Kinds) → length (front ++ open_paren ∷ inside ++ close_paren ∷ behind) ≡ length (front ++ inside ++ behind) + 2
pair-length front inside behind =
    let a = length-append (front ++ open_paren ∷ inside) (close_paren ∷ behind) in
    let b = length-append front (open_paren ∷ inside) in
    let c = length-append (front ++ inside) behind in
    let d = length-append front inside in
    omega arith

pub too-few : (ks : Kinds) (us : Tokens) → length ks ≤ length us → LeavesOut ks us → ⊥
too-few ks us l (front, inside, behind, split, left) =
    let a : length ks ≡ length (front ++ open_paren ∷ inside ++ close_paren ∷ behind) = ap (λ (z : Kinds). length z) split in
    let b : length (kinds_of us) ≡ length (front ++ inside ++ behind) = ap (λ (z : Kinds). length z) left in
    let d : length (kinds_of us) ≡ length us = length-map us (λ (t : Token). t.kind) in
    let p = pair-length front inside behind in
    absurd (omega arith)
