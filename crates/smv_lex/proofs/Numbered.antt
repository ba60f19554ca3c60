-- A list of spellings whose kinds are numbered from the first on.
use Rattle.std.proofs.Common.{◌≡◌, ℕ, ◌+◌, List, [], ◌∷◌, Some, refl, ap, sym, ◌∙◌, Bool, true, false, cond, map, position}
use Rattle.std.specs.Option.{option_map}
use Rattle.std.specs.List.{position_from}
use Rattle.std.specs.Str.{bytes_eq}
use Rattle.std.proofs.lemmas.Iterator.Adapters.{position_from-zero}
use Rattle.smv_core.specs.declared.token.TokenKind.{TokenKind}
use Rattle.smv_core.specs.declared.token.TokenKind.TheVariants.{Sign, Reserved}
use Rattle.smv_core.specs.Spellings.{signs, reserved_words, spelled_in}

-- the spellings with these kinds, from a number on
abbrev pub numbered : (ℕ → TokenKind) → ℕ → List (List ℕ) → List (TokenKind × List ℕ)
numbered kind from [] = []
numbered kind from (word ∷ words) = (kind from, word) ∷ numbered kind (from + 1) words

pub by_place : (kind : ℕ → TokenKind) (bytes : List ℕ) (from : ℕ) (words : List (List ℕ)) →
    spelled_in (numbered kind from words) bytes ≡ option_map kind (position_from (λ word. bytes_eq word bytes) from words)
by_place kind bytes from [] = refl
by_place kind bytes from (word ∷ words) = step (bytes_eq word bytes) (by_place kind bytes (from + 1) words)
  where
    step : (same : Bool) → spelled_in (numbered kind (from + 1) words) bytes ≡ option_map kind (position_from (λ word. bytes_eq word bytes) (from + 1) words) →
        cond same (Some (kind from)) (spelled_in (numbered kind (from + 1) words) bytes) ≡ option_map kind (cond same (Some from) (position_from (λ word. bytes_eq word bytes) (from + 1) words))
    step true more = refl
    step false more = more

pub signs_by_place : (bytes : List ℕ) → spelled_in signs bytes ≡ option_map Sign (position (λ word. bytes_eq word bytes) (map (λ entry. entry.1) signs))
signs_by_place bytes =
    by_place Sign bytes 0 (map (λ entry. entry.1) signs) ∙ ap (option_map Sign) (sym (position_from-zero (λ word. bytes_eq word bytes) (map (λ entry. entry.1) signs)))

pub words_by_place : (bytes : List ℕ) → spelled_in reserved_words bytes ≡ option_map Reserved (position (λ word. bytes_eq word bytes) (map (λ entry. entry.1) reserved_words))
words_by_place bytes =
    by_place Reserved bytes 0 (map (λ entry. entry.1) reserved_words)
    ∙ ap (option_map Reserved) (sym (position_from-zero (λ word. bytes_eq word bytes) (map (λ entry. entry.1) reserved_words)))
