-- The tokens of a type, one by one.
use Rattle.std.proofs.Common.{◌≡◌, ◌<◌, ◌+◌, ℕ, List, [], ◌∷◌, ◌++◌, zero, suc, length, drop, take_while, codes, false, not, cond, get_or, sym, ap, ◌∙◌, subst, append_assoc, arith}
use Rattle.std.specs.List.{flat_map, AllByRecursion}
use Rattle.std.proofs.lemmas.List.{at_drop_more}
use Rattle.std.proofs.lemmas.List.Sums.{take_while-cons}
use Rattle.smv_core.specs.Values.{Name}
use Rattle.smv_core.specs.declared.token.Token.{Token}
use Rattle.smv_core.specs.Signs.{close_paren}
use Rattle.smv_core.specs.Notation.{Tokens, same_kind}
use Rattle.law_translated_texts.specs.Parts.{spelled}
use Rattle.law_translated_texts.specs.Translation.{spaced}
use Rattle.law_translated_texts.specs.Phrases.{Pieces, in_parens}
use Rattle.smv_phrases.specs.Seen.{binder_of, binders_of}
use Rattle.smv_phrases.specs.Defined.{binding}
use Rattle.smv_phrases.specs.declared.monitors.Binder.{Binder}
use Rattle.smv_phrases.proofs.StageLaws.{spaced_append}

-- those before a `)`
abbrev front : Tokens → Tokens
front ts = take_while (λ (t : Token). not (same_kind t.kind close_paren)) ts

module _ (text : List ℕ) where
  abbrev told : Tokens → List ℕ
  told ts = spaced (spelled text (front ts))

  told-cons : (t : Token) (ts : Tokens) → same_kind t.kind close_paren ≡ false → told (t ∷ ts) ≡ spaced (spelled text (t ∷ [])) ++ told ts
  told-cons t ts e =
      ap (λ (us : Tokens). spaced (spelled text us)) (take_while-cons (λ (u : Token). not (same_kind u.kind close_paren)) t ts ∙ ap (λ b. cond (not b) (t ∷ front ts) []) e)
      ∙ spaced_append (spelled text (t ∷ [])) (spelled text (front ts))

  -- a token that is written, and what is still to be
  pub told-more : (out new : List ℕ) (types : Tokens) (i : ℕ) (t : Token) → i < length types → t ≡ get_or types i t → same_kind t.kind close_paren ≡ false → new ≡ out ++ spaced (spelled text (t ∷ [])) →
      new ++ told (drop (i + 1) types) ≡ out ++ told (drop i types)
  told-more out new types i t lt is e n =
      ap (λ l. l ++ told (drop (i + 1) types)) n ∙ append_assoc out (spaced (spelled text (t ∷ []))) (told (drop (i + 1) types))
      ∙ ap (λ l. out ++ l) (sym (at_drop_more told types i t lt ∙ ap (λ (x : Token). told (x ∷ drop (i + 1) types)) (sym is) ∙ told-cons t (drop (i + 1) types) e))

-- ---- what holds of each of the rest

each-suc : {X : Type 0} (P : X → Type 0) (i : ℕ) (xs : List X) → AllByRecursion P (drop i xs) → AllByRecursion P (drop (suc i) xs)
each-suc P zero [] h = tt
each-suc P zero (x ∷ xs) h = h.1
each-suc P (suc i) [] h = tt
each-suc P (suc i) (x ∷ xs) h = each-suc P i xs h

pub each-more : {X : Type 0} (P : X → Type 0) (i : ℕ) (xs : List X) → AllByRecursion P (drop i xs) → AllByRecursion P (drop (i + 1) xs)
each-more P i xs h = let e : suc i ≡ i + 1 = omega arith in subst (λ (k : ℕ). AllByRecursion P (drop k xs)) e (each-suc P i xs h)

-- ---- binders

module _ (text : List ℕ) where
  abbrev array : Name × Pieces → Pieces
  array b = codes "array" ∷ b.1 ++ codes "of" ∷ []

  abbrev arrays : List Binder → List ℕ
  arrays bs = spaced (flat_map array (binders_of text bs))

  array-is : (b : Name × Pieces) → spaced (array b) ≡ codes " array" ++ (spaced b.1 ++ codes " of")
  array-is b = ap (λ l. codes " array" ++ l) (spaced_append b.1 (codes "of" ∷ []))

  regroup : (out a b c rest : List ℕ) → (((out ++ a) ++ b) ++ c) ++ rest ≡ out ++ ((a ++ (b ++ c)) ++ rest)
  regroup out a b c rest = simp append_assoc

  -- one binder more
  pub arrays-more : (out first second new : List ℕ) (bs : List Binder) (i : ℕ) (b : Binder) → i < length bs → b ≡ get_or bs i b → first ≡ out ++ codes " array" → second ≡ first ++ spaced (binder_of text b).1 → new ≡ second ++ codes " of" →
      new ++ arrays (drop (i + 1) bs) ≡ out ++ arrays (drop i bs)
  arrays-more out first second new bs i b lt is e k n =
      let rest = arrays (drop (i + 1) bs) in
      ap (λ l. l ++ rest) (n ∙ ap (λ l. l ++ codes " of") (k ∙ ap (λ l. l ++ spaced (binder_of text b).1) e)) ∙ regroup out (codes " array") (spaced (binder_of text b).1) (codes " of") rest
      ∙ ap (λ l. out ++ (l ++ rest)) (sym (array-is (binder_of text b))) ∙ ap (λ l. out ++ l) (sym (spaced_append (array (binder_of text b)) (flat_map array (binders_of text (drop (i + 1) bs)))))
      ∙ ap (λ l. out ++ l) (sym (at_drop_more arrays bs i b lt ∙ ap (λ (x : Binder). arrays (x ∷ drop (i + 1) bs)) (sym is)))

  abbrev foralls : List Binder → List ℕ
  foralls bs = spaced (binding (binders_of text bs))

  abbrev forall_one : Name × Pieces → Pieces
  forall_one b = codes "forall" ∷ in_parens (b.0 ∷ codes "in" ∷ b.1)

  forall-is : (n : Name) (ts : Pieces) → spaced (forall_one (n, ts)) ≡ codes " forall (" ++ ((codes " " ++ n) ++ (codes " in" ++ (spaced ts ++ codes " )")))
  forall-is n ts = ap (λ l. codes " forall (" ++ ((codes " " ++ n) ++ (codes " in" ++ l))) (spaced_append ts (codes ")" ∷ []))

  regroup_more : (out a b c d e rest : List ℕ) → (((((out ++ a) ++ b) ++ c) ++ d) ++ e) ++ rest ≡ out ++ ((a ++ (b ++ (c ++ (d ++ e)))) ++ rest)
  regroup_more out a b c d e rest = simp append_assoc

  foralls-cons : (b : Binder) (bs : List Binder) → foralls (b ∷ bs) ≡ spaced (forall_one (binder_of text b)) ++ foralls bs
  foralls-cons b bs = spaced_append (forall_one (binder_of text b)) (binding (binders_of text bs))

  pub foralls-more : (out first second third fourth new : List ℕ) (bs : List Binder) (i : ℕ) (b : Binder) → i < length bs → b ≡ get_or bs i b →
      first ≡ out ++ codes " forall (" → second ≡ first ++ (codes " " ++ b.name.now) → third ≡ second ++ codes " in" → fourth ≡ third ++ spaced (binder_of text b).1 → new ≡ fourth ++ codes " )" →
      new ++ foralls (drop (i + 1) bs) ≡ out ++ foralls (drop i bs)
  foralls-more out first second third fourth new bs i b lt is e k h p n =
      let rest = foralls (drop (i + 1) bs) in
      let types = spaced (binder_of text b).1 in
      let name : List ℕ = codes " " ++ b.name.now in
      ap (λ l. l ++ rest) (n ∙ ap (λ l. l ++ codes " )") (p ∙ ap (λ l. l ++ types) (h ∙ ap (λ l. l ++ codes " in") (k ∙ ap (λ l. l ++ name) e))))
      ∙ regroup_more out (codes " forall (") name (codes " in") types (codes " )") rest
      ∙ ap (λ l. out ++ (l ++ rest)) (sym (forall-is b.name.now (binder_of text b).1)) ∙ ap (λ l. out ++ l) (sym (foralls-cons b (drop (i + 1) bs)))
      ∙ ap (λ l. out ++ l) (sym (at_drop_more foralls bs i b lt ∙ ap (λ (x : Binder). foralls (x ∷ drop (i + 1) bs)) (sym is)))
