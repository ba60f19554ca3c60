-- A line of a chain is written, and those behind it are left.
use Rattle.std.proofs.Common.{◌≡◌, ◌∙◌, ◌<◌, ◌+◌, ◌-◌, ℕ, suc, List, [], ◌∷◌, ◌++◌, map, ap, arith, append_assoc, refl, sym}
use Rattle.std.specs.List.{flat_map, range_with_len}

abbrev pub lines_from : (ℕ → List ℕ) → List ℕ → ℕ → ℕ → List ℕ
lines_from f last j n = flat_map (λ line. line ++ 10 ∷ []) (map f (range_with_len j n) ++ last ∷ [])

first_of_chain : (f : ℕ → List ℕ) (last : List ℕ) (j n : ℕ) → lines_from f last j (suc n) ≡ (f j ++ 10 ∷ []) ++ lines_from f last (j + 1) n
first_of_chain f last j n = refl

pub one_written : (f : ℕ → List ℕ) (last done : List ℕ) (j end : ℕ) → j < end → ((done ++ f j) ++ 10 ∷ []) ++ lines_from f last (j + 1) (end - (j + 1)) ≡ done ++ lines_from f last j (end - j)
one_written f last done j end low =
    let later = lines_from f last (j + 1) (end - (j + 1)) in
    let count : end - j ≡ suc (end - (j + 1)) = omega arith in
    append_assoc (done ++ f j) (10 ∷ []) later ∙ append_assoc done (f j) (10 ∷ later) ∙ ap (λ k. done ++ k) (sym (append_assoc (f j) (10 ∷ []) later))
    ∙ ap (λ k. done ++ lines_from f last j k) (sym count)
