-- A name that is no token of a text is that of no top.
use Rattle.std.proofs.Common.{◌≡◌, ◌≤◌, ℕ, List, [], ◌∷◌, ◌++◌, inl, inr, Option, Some, None, Bool, true, false, ◌||◌, if◌then◌else◌, refl, sym, ap, ◌∙◌, subst, arith}
use Rattle.std.specs.List.{list_any}
use Rattle.std.specs.Str.{bytes_eq}
use Rattle.smv_core.specs.Values.{Name}
use Rattle.smv_core.specs.declared.token.Token.{Token}
use Rattle.smv_core.specs.declared.token.TokenKind.{TokenKind}
use Rattle.smv_core.specs.declared.token.TokenKind.TheVariants.{Ident, Number, Sign, Reserved}
use Rattle.smv_core.specs.declared.tree.Word.{Word}
use Rattle.smv_core.specs.declared.tree.Top.{Top}
use Rattle.smv_core.specs.Notation.{Tokens, many, token, name, name_of}
use Rattle.smv_core.specs.Grammar as g
use Rattle.smv_core.specs.Spelling.{Spells}
use Rattle.law_texts_spelled_alike.proofs.Texts as texts
use Rattle.law_strengthened_claims.specs.Renaming.{is_name}
use Rattle.law_text_names.specs.Laws.{word_of_top, NamesNoTop, OtherNamesNoTop}

abbrev z : ℕ → ℕ
z at = 0

module _ (fresh : Name) where
  -- no token is this name
  abbrev IsFree : Tokens → Type 0
  IsFree ts = list_any (λ (t : Token). is_name fresh t.kind) ts ≡ false

  none-left : (a b : Bool) → (a || b) ≡ false → (a ≡ false) × (b ≡ false)
  none-left false b e = (refl, e)
  none-left true b e = absurd (cc (e))

  behind-free : (xs ys : Tokens) → IsFree (xs ++ ys) → IsFree ys
  behind-free [] ys h = h
  behind-free (x ∷ xs) ys h = behind-free xs ys (none-left (is_name fresh x.kind) (list_any (λ (t : Token). is_name fresh t.kind) (xs ++ ys)) h).1

  other-kind : (at : ℕ) (k : TokenKind) (x : Word) → name_of at k ≡ Some x → is_name fresh k ≡ false → bytes_eq x.name fresh ≡ false
  other-kind at (Ident bytes) x e h = ap (λ (o : Option Word). same o) (sym e) ∙ h
    where
      same : Option Word → Bool
      same None = bytes_eq bytes fresh
      same (Some word) = bytes_eq word.name fresh
  other-kind at (Number n) x e h = absurd (cc (e))
  other-kind at (Sign i) x e h = absurd (cc (e))
  other-kind at (Reserved i) x e h = absurd (cc (e))

  -- a word behind a first token
  second : (k : TokenKind) (ts : Tokens) (at : ℕ) (m0 : Tokens) (x : Word) (m1 : Tokens) → token k ts at m0 → name m0 x m1 → IsFree ts → bytes_eq x.name fresh ≡ false
  second k [] at m0 x m1 p q h = absurd p
  second k (t0 ∷ ts) at [] x m1 p q h = absurd q
  second k (t0 ∷ ts) at (t1 ∷ m0) x m1 p q h =
      let rest : IsFree (t1 ∷ m0) = subst IsFree p.1 (none-left (is_name fresh t0.kind) (list_any (λ (t : Token). is_name fresh t.kind) ts) h).1 in
      other-kind t1.at t1.kind x q.0 (none-left (is_name fresh t1.kind) (list_any (λ (t : Token). is_name fresh t.kind) m0) rest).0

  module _ (n : ℕ) where
    top-other : (ts : Tokens) (a : Top) (rest : Tokens) → g.top_rule z n (g.below z n) ts a rest → IsFree ts → bytes_eq (word_of_top a).name fresh ≡ false
    top-other ts a rest (inl (s, m0, p0, (x, m1, p1, (o, m2, p2, (k, m3, p3, (eq, r)))))) h = subst (λ c. bytes_eq (word_of_top c).name fresh ≡ false) eq (second _ ts s m0 x m1 p0 p1 h)
    top-other ts a rest (inr (inl (s, m0, p0, (x, m1, p1, (o, m2, p2, (k, m3, p3, (eq, r))))))) h = subst (λ c. bytes_eq (word_of_top c).name fresh ≡ false) eq (second _ ts s m0 x m1 p0 p1 h)
    top-other ts a rest (inr (inr (inl (s, m0, p0, (x, m1, p1, (o, m2, p2, (k, m3, p3, (eq, r)))))))) h = subst (λ c. bytes_eq (word_of_top c).name fresh ≡ false) eq (second _ ts s m0 x m1 p0 p1 h)
    top-other ts a rest (inr (inr (inr (s, m0, p0, (x, m1, p1, (o, m2, p2, (xs, m3, p3, (c, m4, p4, (b, m5, p5, (is, m6, p6, (k, m7, p7, (eq, r)))))))))))) h = subst (λ c. bytes_eq (word_of_top c).name fresh ≡ false) eq (second _ ts s m0 x m1 p0 p1 h)

    le : n ≤ n
    le = omega arith

    tops-other : (ts : Tokens) (tops : List Top) (rest : Tokens) → many (g.top_rule z n (g.below z n)) ts tops rest → IsFree ts → NamesNoTop fresh tops
    tops-other ts [] rest p h = tt
    tops-other ts (a ∷ tops) rest (middle, p, q) h =
        let u = texts.local-top n n le (g.below z n) (g.below z n) (texts.inner-rules n n le) ts a middle p in
        (top-other ts a middle p h, tops-other middle tops rest q (behind-free u.front middle (subst IsFree u.split h)))

pub other-names : OtherNamesNoTop
unfolding Spells
other-names n ts x fresh h free = tops-other fresh n ts x.tops [] h free
