-- One function more at the end of a list.
use Rattle.std.proofs.Common.{◌≡◌, ℕ, ◌<◌, sym, ap, subst, ◌∙◌, List, [], ◌∷◌, ◌++◌, length, get_or, inl, inr, arith}
use Rattle.std.proofs.lemmas.Bool.{cases_lt}
use Rattle.std.proofs.lemmas.List.{length-append, get_or_append_left}
use Rattle.std.proofs.Math.Seq.{get_or-append_seam}
use Rattle.bdd_store.specs.declared.Ref.{Ref}
use Rattle.bdd_store.specs.Diagram.{ref_at}

module _ (P : Ref → Type 0) (rs more : List Ref) (r : Ref) (is : more ≡ rs ++ r ∷ []) where
  -- what holds of an item holds of it in the longer list
  pub one_pushed : (i : ℕ) → i < length rs → P (ref_at rs i) → P (ref_at more i)
  one_pushed i early holds =
      let none : Ref = record { place = 0 } in
      subst P (sym (get_or_append_left rs (r ∷ []) none i early) ∙ sym (ap (λ (xs : List Ref). get_or xs i none) is)) holds

  -- what holds of each of a list and of one more holds of each
  pub each_pushed : ((i : ℕ) → i < length rs → P (ref_at rs i)) → P r → (i : ℕ) → i < length more → P (ref_at more i)
  each_pushed each last i lt =
      let long = ap (λ (xs : List Ref). length xs) is ∙ length-append rs (r ∷ []) in
      let none : Ref = record { place = 0 } in
      elim (cases_lt i (length rs)) [
        | inl early ↦ one_pushed i early (each i early)
        | inr late ↦
            let at : i ≡ length rs = omega (arith, long, late) in
            subst (λ (j : ℕ). P (ref_at more j)) (sym at) (subst P (sym (get_or-append_seam rs r [] none) ∙ sym (ap (λ (xs : List Ref). get_or xs (length rs) none) is)) last)
      ]
