-- Bytes hold one old document and one new design.
use Rattle.std.proofs.Common.{◌≡◌, ◌∙◌, ℕ, List, [], ◌∷◌, ◌++◌, length, Some, refl, sym, ap, arith, codes, append_assoc}
use Rattle.std.specs.Fmt.{decimal}
use Rattle.std.proofs.lemmas.Fmt.{decimal_injective}
use Rattle.law_lists.proofs.Lists.{tail_is}
use Rattle.law_lists.proofs.Options.{some_is}
use Rattle.smv_proof.specs.Documents.{line}
use Rattle.smv_proof.specs.Readings.{cut}
use Rattle.smv_proof.proofs.Pieces.{cut_front, decimal_lacks}
use Rattle.law_document_answers.specs.Dues.{IsOld}

-- two lists in two parts are one where their first parts are as long
same_parts : (xs ys a b : List ℕ) → length xs ≡ length ys → xs ++ a ≡ ys ++ b → (xs ≡ ys) × (a ≡ b)
same_parts [] [] a b n e = (refl, e)
same_parts [] (y ∷ ys) a b n e = absurd (omega (arith, n))
same_parts (x ∷ xs) [] a b n e = absurd (omega (arith, n))
same_parts (x ∷ xs) (y ∷ ys) a b n e =
    let heads : x ≡ y = cc (e) in
    let more = same_parts xs ys a b (omega (arith, n)) (tail_is e) in
    (λ i. heads i ∷ more.0 i, more.1)

abbrev after : ℕ → List ℕ → List ℕ
after n rest = decimal n ++ (10 ∷ rest)

line_is : (n : ℕ) (rest : List ℕ) → line (codes "old" ∷ decimal n ∷ []) ++ rest ≡ 111 ∷ 108 ∷ 100 ∷ 32 ∷ after n rest
line_is n rest = ap (λ (xs : List ℕ). 111 ∷ 108 ∷ 100 ∷ 32 ∷ xs) (append_assoc (decimal n) (10 ∷ []) rest)

pub one_old : (bytes old text other another : List ℕ) → IsOld bytes old text → IsOld bytes other another → (old ≡ other) × (text ≡ another)
one_old bytes old text other another is is_too =
    let few = is.few in
    let few_too = is_too.few in
    let lines : after (length old) (old ++ 10 ∷ text) ≡ after (length other) (other ++ 10 ∷ another) =
    tail_is (tail_is (tail_is (tail_is (sym (line_is (length old) (old ++ 10 ∷ text)) ∙ (sym is.spelled ∙ (is_too.spelled ∙ line_is (length other) (other ++ 10 ∷ another))))))) in
    let cuts : Some (decimal (length old), old ++ 10 ∷ text) ≡ Some (decimal (length other), other ++ 10 ∷ another) =
    sym (cut_front 10 (decimal (length old)) (old ++ 10 ∷ text) (decimal_lacks 10 (length old) (omega arith) few)) ∙ (ap (cut 10) lines
    ∙ cut_front 10 (decimal (length other)) (other ++ 10 ∷ another) (decimal_lacks 10 (length other) (omega arith) few_too)) in
    let pairs : (decimal (length old), old ++ 10 ∷ text) ≡ (decimal (length other), other ++ 10 ∷ another) = some_is cuts in
    let numbers : decimal (length old) ≡ decimal (length other) = ap (λ (p : List ℕ × List ℕ). p.0) pairs in
    let rests : old ++ 10 ∷ text ≡ other ++ 10 ∷ another = ap (λ (p : List ℕ × List ℕ). p.1) pairs in
    let lengths = decimal_injective (length old) (length other) (omega (arith, few)) (omega (arith, few_too)) numbers in
    let parts = same_parts old other (10 ∷ text) (10 ∷ another) lengths rests in
    (parts.0, tail_is parts.1)
