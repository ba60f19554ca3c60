-- A binder of a claim, as it is written.
use Rattle.std.proofs.Common.{◌≡◌, ℕ, List, [], ◌∷◌, ◌++◌, drop, take_while, Option, Some, None, Ok, Bool, false, not, cond, inl, inr, refl, sym, ap, ◌∙◌, subst}
use Rattle.std.specs.List.{AllByRecursion}
use Rattle.std.proofs.lemmas.List.{append_cancel_right}
use Rattle.std.proofs.lemmas.List.Sums.{take_while-cons}
use Rattle.smv_core.specs.Values.{Name}
use Rattle.smv_core.specs.declared.token.Token.{Token}
use Rattle.smv_core.specs.declared.token.TokenKind.{TokenKind}
use Rattle.smv_core.specs.declared.token.TokenKind.TheVariants.{Ident, Number, Sign, Reserved}
use Rattle.smv_core.specs.declared.tree.Word.{Word}
use Rattle.smv_core.specs.declared.tree.TypeExpr.{TypeExpr}
use Rattle.smv_core.specs.Signs.{open_paren, close_paren, dots}
use Rattle.smv_core.specs.Signs as w
use Rattle.smv_core.specs.Notation.{Tokens, name, name_of, number, number_of, with_place, same_kind}
use Rattle.smv_core.specs.Grammar as g
use Rattle.smv_core.specs.Grammar.{Rules}
use Rattle.smv_lex.specs.Lexing.{lexed}
use Rattle.law_spelled_alike.specs.Local.{kinds_of}
use Rattle.law_spelled_alike.proofs.PlacelessForms.{placeless_forms}
use Rattle.law_spelled_alike.proofs.Expressions as e
use Rattle.law_texts_spelled_alike.proofs.Texts.{all, unmarked, behind_dot}
use Rattle.law_translated_texts.specs.Parts.{from_place, spelled, type_at}
use Rattle.law_translated_texts.specs.Phrases.{Pieces}
use Rattle.law_translated_texts.proofs.Spelled.{token-is, opener-is}
use Rattle.law_written_formulas.specs.Laws.{IsWhole, IsBinder, Writes, IsAlikeType}
use Rattle.law_translated_items.proofs.Standing.{Stands, further, found, spelled-read, named, is-named, is-whole}

-- ---- single tokens

pub name-is : (ts : Tokens) (x : Word) (rest : Tokens) → name ts x rest → (t : Token) × (ts ≡ t ∷ rest) × (t.at ≡ x.at) × (t.kind ≡ Ident x.name)
name-is [] x rest h = absurd h
name-is (t ∷ ts) x rest h = (t, ap (λ l. t ∷ l) h.1, by_kind t.kind h.0, of_kind t.kind h.0)
  where
    by_kind : (k : TokenKind) → name_of t.at k ≡ Some x → t.at ≡ x.at
    by_kind (Ident bytes) e = ap (λ (o : Option Word). place o) e
      where
        place : Option Word → ℕ
        place None = t.at
        place (Some word) = word.at
    by_kind (Number n) e = absurd (cc (e))
    by_kind (Sign i) e = absurd (cc (e))
    by_kind (Reserved i) e = absurd (cc (e))

    of_kind : (k : TokenKind) → name_of t.at k ≡ Some x → k ≡ Ident x.name
    of_kind (Ident bytes) e = ap (λ (o : Option Word). Ident (bytes_in o)) e
      where
        bytes_in : Option Word → List ℕ
        bytes_in None = bytes
        bytes_in (Some word) = word.name
    of_kind (Number n) e = absurd (cc (e))
    of_kind (Sign i) e = absurd (cc (e))
    of_kind (Reserved i) e = absurd (cc (e))

-- ---- an index has no closing parenthesis

abbrev StaysOpen : Token → Type 0
StaysOpen t = same_kind t.kind close_paren ≡ false

number-is : (ts : Tokens) (k : ℕ × ℕ) (rest : Tokens) → number ts k rest → (t : Token) × (ts ≡ t ∷ rest) × StaysOpen t
number-is [] k rest h = absurd h
number-is (t ∷ ts) k rest h = (t, ap (λ l. t ∷ l) h.1, by_kind t.kind h.0)
  where
    by_kind : (j : TokenKind) → with_place t.at (number_of j) ≡ Some k → same_kind j close_paren ≡ false
    by_kind (Ident bytes) e = absurd (cc (e))
    by_kind (Number n) e = refl
    by_kind (Sign i) e = absurd (cc (e))
    by_kind (Reserved i) e = absurd (cc (e))

index-open : (ts : Tokens) (over : TypeExpr) (rest : Tokens) → g.index ts over rest → (es : Tokens) × (ts ≡ es ++ rest) × AllByRecursion StaysOpen es
index-open ts over rest (inl (at, m, p, (eq, r))) =
    let t = token-is w.word_boolean ts at m p in
    (t.0 ∷ [], t.1 ∙ ap (λ l. t.0 ∷ l) r, (ap (λ j. same_kind j close_paren) t.2, tt))
index-open ts over rest (inr (inl (s, m, (low, m0, p0, (d, m1, p1, (high, m2, p2, (eq0, r0)))), (eq, r)))) =
    let a = number-is ts low m0 p0 in
    let b = token-is dots m0 d m1 p1 in
    let c = number-is m1 high m2 p2 in
    (a.0 ∷ b.0 ∷ c.0 ∷ [], a.1 ∙ ap (λ l. a.0 ∷ l) (b.1 ∙ ap (λ l. b.0 ∷ l) (c.1 ∙ ap (λ l. c.0 ∷ l) (r0 ∙ r))), (a.2, (ap (λ j. same_kind j close_paren) b.2, (c.2, tt))))
index-open ts over rest (inr (inr (x, m, p, (eq, r)))) =
    let t = name-is ts x m p in
    (t.0 ∷ [], t.1 ∙ ap (λ l. t.0 ∷ l) r, (ap (λ j. same_kind j close_paren) t.3, tt))

abbrev goes_on : Token → Bool
goes_on t = not (same_kind t.kind close_paren)

taken-before : (es : Tokens) (c : Token) (rest : Tokens) → AllByRecursion StaysOpen es → c.kind ≡ close_paren → take_while goes_on (es ++ (c ∷ rest)) ≡ es
taken-before [] c rest h k = take_while-cons goes_on c rest ∙ ap (λ j. cond (not (same_kind j close_paren)) (c ∷ take_while goes_on rest) []) k
taken-before (t ∷ es) c rest h k =
    take_while-cons goes_on t (es ++ (c ∷ rest)) ∙ ap (λ (b : Bool). cond (not b) (t ∷ take_while goes_on (es ++ (c ∷ rest))) []) h.0 ∙ ap (λ l. t ∷ l) (taken-before es c rest h.1 k)

-- ---- the binder

module _ (text : List ℕ) (whole : Tokens) (read : lexed text ≡ Ok whole) where
  abbrev pub as_written : Word × TypeExpr → Name × Pieces
  as_written b = (b.0.name, type_at text whole b.0.at)

  abbrev pub BoundAlone : Name × Pieces → Type 0
  BoundAlone b = IsWhole b.0 × AllByRecursion IsWhole b.1

  type-written : (es rest : Tokens) (over : TypeExpr) → Stands text whole read (es ++ rest) → g.index (es ++ rest) over rest → Writes IsAlikeType g.index (spelled text es) over × AllByRecursion IsWhole (spelled text es)
  type-written es rest over s h =
      let u = e.local-index all unmarked placeless_forms behind_dot (es ++ rest) over rest h in
      let same : es ≡ u.front = append_cancel_right es u.front rest u.split in
      let r = spelled-read text whole read es rest s in
      (λ us more ts k eq. let x = u.again us more (k ∙ r.1 ∙ ap kinds_of same) in (x.0, subst (λ l. g.index l x.0 more) (sym eq) x.1, x.2), r.0)

  pub binder-read : (n : ℕ) (inner : Rules) (ts : Tokens) (b : Word × TypeExpr) (rest : Tokens) → g.binder_rule (λ at. 0) n inner ts b rest → Stands text whole read ts → IsBinder (as_written b) b × BoundAlone (as_written b)
  binder-read n inner ts b rest (o, m0, p0, (x, m1, p1, (i, m2, p2, (over, m3, p3, (c, m4, p4, (eq, r)))))) s =
      let to = opener-is n open_paren ts o m0 p0 in
      let tx = name-is m0 x m1 p1 in
      let ti = token-is w.word_in m1 i m2 p2 in
      let es = index-open m2 over m3 p3 in
      let tc = token-is close_paren m3 c m4 p4 in
      let s0 : Stands text whole read (tx.0 ∷ m1) = subst (Stands text whole read) tx.1 (further text whole read ts (to.0 ∷ []) m0 s to.1) in
      let s2 : Stands text whole read (es.0 ++ m3) = subst (Stands text whole read) es.1 (further text whole read (tx.0 ∷ m1) (tx.0 ∷ ti.0 ∷ []) m2 s0 (ap (λ l. tx.0 ∷ l) ti.1)) in
      let at : from_place x.at whole ≡ tx.0 ∷ ti.0 ∷ m2 = ap (λ k. from_place k whole) (sym tx.2) ∙ found text whole read tx.0 m1 s0 ∙ ap (λ l. tx.0 ∷ l) ti.1 in
      let typed : type_at text whole x.at ≡ spelled text es.0 = ap (λ l. spelled text (take_while goes_on (drop 2 l))) at ∙ ap (λ l. spelled text (take_while goes_on l)) (es.1 ∙ ap (λ l. es.0 ++ l) tc.1) ∙ ap (spelled text) (taken-before es.0 tc.0 m4 es.2 tc.2) in
      let written = type-written es.0 m3 over s2 (subst (λ l. g.index l over m3) es.1 p3) in
      let is_name = named text whole read tx.0 m1 x.name s0 tx.3 in
      subst (λ (a : Word × TypeExpr). IsBinder (as_written a) a × BoundAlone (as_written a)) eq
      ((refl, is-named x.name is_name, subst (λ ps. Writes IsAlikeType g.index ps over) (sym typed) written.0), (is-whole x.name is_name, subst (AllByRecursion IsWhole) (sym typed) written.1))
