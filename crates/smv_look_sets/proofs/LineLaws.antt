-- The lines of sets, behind the front of a document of an empty text.
use Rattle.std.proofs.Common.{◌≡◌, ◌∙◌, ◌≤◌, ℕ, List, [], ◌∷◌, ◌++◌, codes, drop, length, refl, ap, arith}
use Rattle.std.specs.Fmt.{digits}
use Rattle.std.specs.List.{flat_map}
use Rattle.std.proofs.lemmas.List.{length-append}
use Rattle.smv_proof.specs.declared.proof.KeptSet.{KeptSet}
use Rattle.smv_proof.specs.Documents.{document, set_lines}

abbrev empty_front : List ℕ
empty_front = codes "smv proof 1" ++ 10 ∷ codes "design 0" ++ 10 ∷ 10 ∷ []

front_is : (sets : List KeptSet) → document (record { design = []; sets = sets }) ≡ empty_front ++ flat_map set_lines sets
unfolding digits
front_is sets = refl

behind_front : (rest : List ℕ) → drop 22 (empty_front ++ rest) ≡ rest
behind_front rest = refl

pub is_long : (sets : List KeptSet) (whole : List ℕ) → whole ≡ document (record { design = []; sets = sets }) → 22 ≤ length whole
is_long sets whole is =
    let long = ap (λ (xs : List ℕ). length xs) (is ∙ front_is sets) in
    let parts = length-append empty_front (flat_map set_lines sets) in
    let front : length empty_front ≡ 22 = refl in
    omega (arith, long, parts, front)

pub lines_behind : (sets : List KeptSet) (whole : List ℕ) → whole ≡ document (record { design = []; sets = sets }) → drop 22 whole ≡ flat_map set_lines sets
lines_behind sets whole is = ap (drop 22) (is ∙ front_is sets) ∙ behind_front (flat_map set_lines sets)
