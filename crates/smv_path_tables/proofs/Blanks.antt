-- One blank more is written.
use Rattle.std.proofs.Common.{◌≡◌, ◌∙◌, ℕ, suc, ◌+◌, ◌-◌, ◌<◌, List, [], ◌∷◌, ◌++◌, ap, append_assoc, arith, sym}
use Rattle.smv_path_tables.specs.Tables.{blanks}

next_blank : (n i : ℕ) → i < n → blanks (n - i) ≡ 32 ∷ blanks (n - (i + 1))
next_blank n i h =
    let e : n - i ≡ suc (n - (i + 1)) = omega arith in
    ap blanks e

pub one_more : (out new whole : List ℕ) (n i : ℕ) → i < n → new ≡ out ++ 32 ∷ [] → out ++ blanks (n - i) ≡ whole → new ++ blanks (n - (i + 1)) ≡ whole
one_more out new whole n i h written before = rw written (append_assoc out (32 ∷ []) (blanks (n - (i + 1))) ∙ (ap (λ (b : List ℕ). out ++ b) (sym (next_blank n i h)) ∙ before))
