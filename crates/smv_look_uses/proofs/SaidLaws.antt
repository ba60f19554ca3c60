-- What stands before in lists of keys, one key after the other, and in a `using`, one part after the other.
use Rattle.std.proofs.Common.{◌≡◌, ◌∙◌, ℕ, ◌+◌, ◌<◌, List, [], ◌∷◌, ◌++◌, map, drop, length, get_or, sym, ap, Bool}
use Rattle.std.specs.Prelude.{if◌then◌else◌, nat_eq}
use Rattle.std.specs.List.{flat_map}
use Rattle.std.specs.Str.{bytes_eq}
use Rattle.std.proofs.lemmas.List.{append_assoc, map-append}
use Rattle.law_lists.proofs.Places.{drop_read_one, get_or-own}
use Rattle.smv_core.specs.declared.tree.Ref.{Ref}
use Rattle.smv_core.specs.declared.tree.Use.{Use}
use Rattle.smv_core.specs.declared.flat.Design.{Design}
use Rattle.smv_core.specs.declared.flat.Unit.{Unit as FlatUnit}
use Rattle.smv_core.specs.declared.flat.Leaf.{Leaf}
use Rattle.smv_core.specs.declared.flat.Pick.{Pick}
use Rattle.smv_core.specs.declared.flat.Assumed.{Assumed}
use Rattle.smv_mentions.specs.NameFaults.{place_if}
use Rattle.law_uses.specs.Choices.{own_map}
use Rattle.smv_references.specs.Again.{same_key}
use Rattle.smv_choices.specs.Parts.{map_keys, family_keys, claim_keys, set_keys, sets_of}
use Rattle.smv_choices.specs.Readings.{Said}
use Rattle.smv_look_uses.specs.Chosen.{said_before, same_before}

module _ (at : ℕ) {K : Type 0} (same : K → K → Bool) where
  -- what one key adds
  abbrev pub added : List (ℕ × K) → ℕ × K → List ℕ
  added before x = if nat_eq x.0 at then flat_map (λ y. place_if (same y.1 x.1) y.0) before else []

  one_key : (x : ℕ × K) (rest before later : List (ℕ × K)) (before' : List (ℕ × K)) (old new : List ℕ) → before' ≡ before → later ≡ before ++ x ∷ [] → new ≡ old ++ added before' x →
      new ++ same_before at same later rest ≡ old ++ same_before at same before (x ∷ rest)
  one_key x rest before later before' old new is more told =
      ap (λ l. l ++ same_before at same later rest) (told ∙ ap (λ b. old ++ added b x) is) ∙ ap (λ b. old ++ added before x ++ same_before at same b rest) more
      ∙ append_assoc old (added before x) (same_before at same (before ++ x ∷ []) rest)

  pub key_step : (keys : List (ℕ × K)) (i : ℕ) (d x : ℕ × K) (before later before' : List (ℕ × K)) (old new whole : List ℕ) → i < length keys → x ≡ get_or keys i d → before' ≡ before → later ≡ before ++ x ∷ [] →
      new ≡ old ++ added before' x → old ++ same_before at same before (drop i keys) ≡ whole → new ++ same_before at same later (drop (i + 1) keys) ≡ whole
  key_step keys i d x before later before' old new whole below here is more told known =
      one_key x (drop (i + 1) keys) before later before' old new is more told
      ∙ ap (λ l. old ++ same_before at same before l) (sym (drop_read_one keys i x below (here ∙ get_or-own keys i d below ∙ ap (get_or keys i) (sym here)))) ∙ known

  pub mapped_step : {A : Type 0} (t : A → ℕ × K) (xs : List A) (i : ℕ) (x : A) (before later before' : List A) (old new whole : List ℕ) → i < length xs → x ≡ get_or xs i x → before' ≡ before → later ≡ before ++ x ∷ [] →
      new ≡ old ++ added (map t before') (t x) → old ++ same_before at same (map t before) (map t (drop i xs)) ≡ whole → new ++ same_before at same (map t later) (map t (drop (i + 1) xs)) ≡ whole
  mapped_step t xs i x before later before' old new whole below here is more told known =
      one_key (t x) (map t (drop (i + 1) xs)) (map t before) (map t later) (map t before') old new (ap (map t) is) (ap (map t) more ∙ map-append t before (x ∷ [])) told
      ∙ ap (λ l. old ++ same_before at same (map t before) (map t l)) (sym (drop_read_one xs i x below here)) ∙ known

four : (old a b c e a' b' c' e' one two three new : List ℕ) → a ≡ a' → b ≡ b' → c ≡ c' → e ≡ e' → one ≡ old ++ a → two ≡ one ++ b → three ≡ two ++ c → new ≡ three ++ e → new ≡ old ++ (a' ++ b' ++ c' ++ e')
four old a b c e a' b' c' e' one two three new p q r s first second third fourth =
    fourth ∙ ap (λ l. l ++ e) (third ∙ ap (λ l. l ++ c) (second ∙ ap (λ l. l ++ b) first))
    ∙ ap (λ l. l ++ c ++ e) (append_assoc old a b) ∙ ap (λ l. l ++ e) (append_assoc old (a ++ b) c) ∙ append_assoc old (a ++ b ++ c) e
    ∙ ap (λ l. old ++ (l ++ b ++ c ++ e)) p ∙ ap (λ l. old ++ (a' ++ l ++ c ++ e)) q ∙ ap (λ l. old ++ (a' ++ b' ++ l ++ e)) r ∙ ap (λ l. old ++ (a' ++ b' ++ c' ++ l)) s

module _ (at : ℕ) (d : Design) (units : List FlatUnit) where
  -- two choices of one family, for the leaves that are proved
  abbrev families_before : List (ℕ × Pick) → List (Ref × Leaf) → List ℕ
  families_before picks proved = flat_map (λ (of, leaf). same_before at same_key [] (family_keys (own_map d units leaf) picks)) proved

  pub all_said : (x : Said) (picks : List (ℕ × Pick)) (proved : List (Ref × Leaf)) (claims : List (ℕ × Assumed)) (uses : List Use) (old one two three new : List ℕ) →
      picks ≡ x.picks → proved ≡ x.proved → claims ≡ x.claims → uses ≡ x.using.uses →
      one ≡ old ++ same_before at same_key [] (map_keys picks) → two ≡ one ++ families_before picks proved → three ≡ two ++ same_before at same_key [] (claim_keys claims) →
      new ≡ three ++ same_before at bytes_eq [] (set_keys (sets_of d) uses) → new ≡ old ++ said_before at d units x
  all_said x picks proved claims uses old one two three new p q r s first second third fourth =
      four old (same_before at same_key [] (map_keys picks)) (families_before picks proved) (same_before at same_key [] (claim_keys claims)) (same_before at bytes_eq [] (set_keys (sets_of d) uses))
      (same_before at same_key [] (map_keys x.picks)) (families_before x.picks x.proved) (same_before at same_key [] (claim_keys x.claims)) (same_before at bytes_eq [] (set_keys (sets_of d) x.using.uses))
      one two three new (ap (λ l. same_before at same_key [] (map_keys l)) p) (ap (λ l. families_before l proved) p ∙ ap (families_before x.picks) q)
      (ap (λ l. same_before at same_key [] (claim_keys l)) r) (ap (λ l. same_before at bytes_eq [] (set_keys (sets_of d) l)) s) first second third fourth
