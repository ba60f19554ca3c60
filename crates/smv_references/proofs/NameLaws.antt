-- Names with dots between them.
use Rattle.std.proofs.Common.{◌≡◌, ℕ, ◌+◌, List, [], ◌∷◌, ◌++◌, map, ap, refl, true, nat_lt, arith}
use Rattle.std.specs.List.{join_with_byte}
use Rattle.std.proofs.lemmas.Bool.Decides.{nat_tests}
use Rattle.std.proofs.lemmas.List.{append-nil}
use Rattle.smv_core.specs.declared.tree.Word.{Word}
use Rattle.smv_references.specs.Dots.{dotted_from}

-- behind the first name each has a dot, and so between each two
pub dotted-first : (k : ℕ) (word : Word) (words : List Word) → word.name ++ dotted_from (k + 1) words ≡ join_with_byte 46 (map (λ (word : Word). word.name) (word ∷ words))
dotted-first k word [] = append-nil word.name
dotted-first k word (other ∷ words) = let e : nat_lt 0 (k + 1) ≡ true = grind (arith, nat_tests) in rw e (ap (λ l. word.name ++ 46 ∷ l) (dotted-first (k + 1) other words))

pub dotted-path : (words : List Word) → dotted_from 0 words ≡ join_with_byte 46 (map (λ (word : Word). word.name) words)
dotted-path [] = refl
dotted-path (word ∷ words) = dotted-first 0 word words

pub ruleset dots = (dotted-path)
