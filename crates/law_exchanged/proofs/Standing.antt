-- The tokens of a claim's expression are those behind its `G`, before the next `;`.
use Rattle.std.proofs.Common.{◌≡◌, ◌<◌, ◌+◌, ◌==◌, ℕ, [], ◌∷◌, ◌++◌, drop, take_while, Bool, true, false, not, cond, if◌then◌else◌, refl, ap, ◌∙◌, subst, append_assoc, arith}
use Rattle.std.specs.List.{AllByRecursion}
use Rattle.std.proofs.lemmas.Bool.{eqb-true, eq-eqb}
use Rattle.std.proofs.lemmas.List.Sums.{take_while-cons}
use Rattle.smv_core.specs.declared.token.Token.{Token}
use Rattle.smv_core.specs.declared.token.TokenKind.{TokenKind}
use Rattle.smv_core.specs.declared.tree.Word.{Word}
use Rattle.smv_core.specs.Signs.{semicolon, word_G}
use Rattle.smv_core.specs.Notation.{Tokens, same_kind}
use Rattle.law_lists.proofs.Each.{each_weaker}
use Rattle.law_lexed_parts.proofs.Parted.{Rising, rising-split}
use Rattle.law_spelled_alike.specs.Local.{AllKinds}
use Rattle.law_exchanged.specs.Claims.{from_first, body_tokens, IsHeaded, IsClosed}

abbrev stands_at : ℕ → Token → Bool
stands_at at t = t.at == at

abbrev is_G : Token → Bool
is_G t = same_kind t.kind word_G

abbrev no_semicolon : Token → Bool
no_semicolon t = not (same_kind t.kind semicolon)

-- the test fails before the first that passes
found-behind : (test : Token → Bool) (xs : Tokens) (t : Token) (rest : Tokens) → AllByRecursion (λ x. test x ≡ false) xs → test t ≡ true → from_first test (xs ++ (t ∷ rest)) ≡ t ∷ rest
found-behind test [] t rest h e = ap (λ (b : Bool). if b then t ∷ rest else from_first test rest) e
found-behind test (x ∷ xs) t rest h e = ap (λ (b : Bool). if b then x ∷ xs ++ (t ∷ rest) else from_first test (xs ++ (t ∷ rest))) h.0 ∙ found-behind test xs t rest h.1 e

unlike : (i j : ℕ) → i < j → (i == j) ≡ false
unlike i j lt = by_test (i == j) refl
  where
    by_test : (b : Bool) → (i == j) ≡ b → (i == j) ≡ false
    by_test false e = e
    by_test true e = absurd (let same : i ≡ j = eqb-true i j e in omega (arith, lt, same))

each-kind : (P : TokenKind → Type 0) (ts : Tokens) → AllKinds P ts → AllByRecursion (λ (t : Token). P t.kind) ts
each-kind P [] h = tt
each-kind P (t ∷ ts) h = (h.0, each-kind P ts h.1)

taken-before : (middle : Tokens) (s : Token) (more : Tokens) → AllKinds (λ k. same_kind k semicolon ≡ false) middle → same_kind s.kind semicolon ≡ true → take_while no_semicolon (middle ++ (s ∷ more)) ≡ middle
taken-before [] s more h e = take_while-cons no_semicolon s more ∙ ap (λ (b : Bool). cond (not b) (s ∷ take_while no_semicolon more) []) e
taken-before (t ∷ middle) s more h e =
    take_while-cons no_semicolon t (middle ++ (s ∷ more)) ∙ ap (λ (b : Bool). cond (not b) (t ∷ take_while no_semicolon (middle ++ (s ∷ more))) []) h.0
    ∙ ap (λ l. t ∷ l) (taken-before middle s more h.1 e)

pub standing : (word : Word) (front middle behind : Tokens) → Rising (front ++ (middle ++ behind)) → IsHeaded word front → AllKinds (λ k. same_kind k semicolon ≡ false) middle → IsClosed behind → body_tokens word.at (front ++ (middle ++ behind)) ≡ middle
standing word front middle behind rise h free (s, more, closed, is_s) =
    let rest : Tokens = middle ++ behind in
    let whole : front ++ rest ≡ h.lead ++ (h.name ∷ h.head ++ (h.last ∷ rest)) =
    ap (λ l. l ++ rest) h.split ∙ append_assoc h.lead (h.name ∷ h.head ++ (h.last ∷ [])) rest ∙ ap (λ l. h.lead ++ (h.name ∷ l)) (append_assoc h.head (h.last ∷ []) rest) in
    let under = (rising-split h.lead h.name (h.head ++ (h.last ∷ rest)) (subst Rising whole rise)).0 in
    let before : AllByRecursion (λ (t : Token). (t.at == word.at) ≡ false) h.lead =
    each_weaker (λ (t : Token). t.at < h.name.at) (λ (t : Token). (t.at == word.at) ≡ false) (λ t lt. unlike t.at word.at (subst (λ k. t.at < k) h.place lt)) h.lead under in
    let here : (h.name.at == word.at) ≡ true = eq-eqb h.name.at word.at h.place in
    let from_name : from_first (stands_at word.at) (front ++ rest) ≡ h.name ∷ h.head ++ (h.last ∷ rest) = ap (from_first (stands_at word.at)) whole ∙ found-behind (stands_at word.at) h.lead h.name (h.head ++ (h.last ∷ rest)) before here in
    let from_G : from_first is_G (h.name ∷ h.head ++ (h.last ∷ rest)) ≡ h.last ∷ rest = found-behind is_G (h.name ∷ h.head) h.last rest (each-kind (λ k. same_kind k word_G ≡ false) (h.name ∷ h.head) h.no_G) h.is_G in
    ap (λ l. take_while no_semicolon (drop 1 (from_first is_G l))) from_name ∙ ap (λ l. take_while no_semicolon (drop 1 l)) from_G
    ∙ ap (λ l. take_while no_semicolon (middle ++ l)) closed ∙ taken-before middle s more free is_s
