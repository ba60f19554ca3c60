-- From what is shown of values they are told again.
use Rattle.std.proofs.Common.{◌≡◌, ◌∙◌, ℕ, Bool, true, false, List, [], ◌∷◌, ap, ap₂, codes, refl, sym}
use Rattle.std.specs.Prelude.{if◌then◌else◌}
use Rattle.std.specs.Str.{bytes_eq}
use Rattle.std.proofs.lemmas.Slice.Eq.{bytes_eq-Decides}
use Rattle.smv_path_tables.specs.Tables.{change, shown, shown_after}
use Rattle.smv_path_tables.specs.Truth.{AreNoDots, told, told_after, values_told}

told_change : (old new : List ℕ) → bytes_eq new (codes ".") ≡ false → told old (change old new) ≡ new
told_change old new bare = go (bytes_eq old new) refl
  where
    go : (b : Bool) → bytes_eq old new ≡ b → told old (if b then codes "." else new) ≡ new
    go true same = (bytes_eq-Decides old new).0 same
    go false other = ap (λ (b : Bool). if b then old else new) bare

told_shown : (old : List ℕ) (values : List (List ℕ)) → AreNoDots values → told_after old (shown_after old values) ≡ values
told_shown old [] bare = refl
told_shown old (new ∷ values) bare =
    let here = told_change old new bare.0 in
    ap₂ (λ (v : List ℕ) (vs : List (List ℕ)). v ∷ vs) here (ap (λ (v : List ℕ). told_after v (shown_after new values)) here ∙ told_shown new values bare.1)

pub told_again : (values : List (List ℕ)) → AreNoDots values → values_told (shown values) ≡ values
told_again [] bare = refl
told_again (first ∷ values) bare = ap (λ (vs : List (List ℕ)). first ∷ vs) (told_shown first values bare.1)
