-- The first free names are names.
use Rattle.std.proofs.Common.{◌≡◌, ◌≤◌, ◌<◌, ◌+◌, ◌^◌, ℕ, zero, suc, List, [], ◌∷◌, ◌++◌, length, map, take_while, codes, None, Bool, true, false, not, ◌||◌, cond, refl, ap, ◌∙◌, arith}
use Rattle.std.specs.List.{AllByRecursion, list_any}
use Rattle.std.specs.Fmt.{decimal}
use Rattle.std.specs.Str.{bytes_eq}
use Rattle.std.specs.Str.Parse.{AllDigits}
use Rattle.std.proofs.lemmas.Bool.{le-leb, le-ltb}
use Rattle.std.proofs.lemmas.Fmt.{decimal_is_IsNumeral, length-decimal-le}
use Rattle.std.proofs.lemmas.List.Sums.{take_while-cons}
use Rattle.std.proofs.lemmas.Str.Parse.{digit_from_value}
use Rattle.law_lists.proofs.Each.{each_filter}
use Rattle.law_lists.proofs.Numbers.{nat_eq-above}
use Rattle.smv_core.specs.Values.{numbers_from}
use Rattle.smv_core.specs.declared.token.TokenKind.TheVariants.{Ident}
use Rattle.smv_core.specs.Spellings.{reserved_words, spelled_in}
use Rattle.smv_lex.specs.declared.front.Front.TheVariants.{Whole}
use Rattle.smv_lex.specs.Lexing.{is_letter, is_digit, is_name_byte, word_kind, word_front, front_of}
use Rattle.law_lexed_parts.proofs.Seams.{front-is}
use Rattle.law_lexed_parts.proofs.Parted.{whole-cut, whole-tokens}
use Rattle.law_strengthened_claims.specs.Renaming.{IsName}
use Rattle.law_formulas.specs.Monitors.{numbered}
use Rattle.law_fresh_monitors.proofs.FreeNames.{each-taken}
use Rattle.law_written_monitors.specs.Laws.{NamesAreNames}

-- ---- bytes of names

abbrev PassNames : List ℕ → Type 0
PassNames bytes = AllByRecursion (λ c. is_name_byte c ≡ true) bytes

digit-byte : (c : ℕ) → 48 ≤ c → c ≤ 57 → is_name_byte c ≡ true
digit-byte c low high = either (is_letter c) (is_digit c) (rw (le-leb 48 c low, le-leb c 57 high) refl)
  where
    either : (a b : Bool) → b ≡ true → (a || b) ≡ true
    either true b e = refl
    either false b e = e

digits-pass : (ds : List ℕ) → AllDigits 10 ds → PassNames ds
digits-pass [] h = tt
digits-pass (c ∷ cs) h = let r = digit_from_value c h.0 in (digit-byte c r.0 r.1, digits-pass cs h.1)

all-taken : (ds : List ℕ) → PassNames ds → take_while is_name_byte (ds ++ codes " ") ≡ ds
all-taken [] h = refl
all-taken (c ∷ cs) h = take_while-cons is_name_byte c (cs ++ codes " ") ∙ ap (λ t. cond t (c ∷ take_while is_name_byte (cs ++ codes " ")) []) h.0 ∙ ap (λ l. c ∷ l) (all-taken cs h.1)

name-kind : (bytes : List ℕ) → length bytes ≤ 64 → spelled_in reserved_words bytes ≡ None → word_front bytes ≡ Whole (Ident bytes) (length bytes)
unfolding word_front word_kind
name-kind bytes short free = let few = le-ltb 64 (length bytes) short in rw (few, free) refl

-- no reserved word has a digit
numbered-free : (ds : List ℕ) → AllDigits 10 ds → spelled_in reserved_words (109 ∷ ds) ≡ None
numbered-free [] h = refl
numbered-free (c ∷ cs) h = let r = digit_from_value c h.0 in let high = r.1 in let other = nat_eq-above 111 c (omega (arith, high)) in rw (other) refl

numbered-name : (k : ℕ) → k < 2 ^ 32 → IsName (numbered k)
numbered-name k small =
    let d : List ℕ = decimal k in
    let digits = decimal_is_IsNumeral k (omega (arith, small)) in
    let pass : PassNames (numbered k) = (refl, digits-pass d digits.0.1) in
    let long : length d ≤ 10 = length-decimal-le 10 k (omega arith) (omega (arith, small)) (omega (arith, small)) in
    let front : front_of (numbered k ++ codes " ") ≡ Whole (Ident (numbered k)) (length (numbered k)) =
    front-is 109 (d ++ codes " ") ∙ ap word_front (all-taken (numbered k) pass) ∙ name-kind (numbered k) (omega (arith, long)) (numbered-free d digits.0.1) in
    (whole-cut (Ident (numbered k)) (numbered k) (codes " ") front (omega arith), whole-tokens 0 (Ident (numbered k)) (numbered k) (codes " ") front (omega arith))

all-numbered : (from count : ℕ) → from + count < 2 ^ 32 → AllByRecursion IsName (map numbered (numbers_from from count))
all-numbered from zero small = tt
all-numbered from (suc count) small = (numbered-name from (omega (arith, small)), all-numbered (from + 1) count (omega (arith, small)))

pub names-are : NamesAreNames
names-are used count small = each-taken IsName count _ (each_filter IsName (λ name. not (list_any (bytes_eq name) used)) (map numbered (numbers_from 0 (count + length used))) (all-numbered 0 (count + length used) (omega (arith, small))))
