-- Where tokens stand among those of a text: the list is found by its offset, and its bytes are read as itself.
use Rattle.std.proofs.Common.{◌≡◌, ◌<◌, ◌+◌, ◌-◌, ◌==◌, ℕ, List, [], ◌∷◌, ◌++◌, length, take, drop, take_while, codes, Ok, Bool, true, false, cond, if◌then◌else◌, refl, sym, ap, ◌∙◌, subst, append_assoc, arith}
use Rattle.std.specs.List.{AllByRecursion}
use Rattle.std.proofs.Math.Seq.{take-append_seam, drop-append_seam}
use Rattle.std.proofs.lemmas.Bool.{eqb-true, eq-eqb}
use Rattle.std.proofs.lemmas.List.{append-nil, take-append-drop, length-take-le}
use Rattle.std.proofs.lemmas.List.Sums.{take_while-cons}
use Rattle.law_lists.proofs.Each.{each_weaker}
use Rattle.law_lists.proofs.Lists.{head_is, map-map}
use Rattle.smv_core.specs.Values.{Name}
use Rattle.smv_core.specs.declared.token.Token.{Token}
use Rattle.smv_core.specs.declared.token.TokenKind.{TokenKind}
use Rattle.smv_core.specs.declared.token.TokenKind.TheVariants.{Ident}
use Rattle.smv_core.specs.Notation.{Tokens}
use Rattle.smv_lex.specs.declared.front.Front.TheVariants.{Whole}
use Rattle.smv_lex.specs.Lexing as l
use Rattle.smv_lex.specs.Lexing.{is_name_byte, front_of, lexed_from, lexed, then_more}
use Rattle.law_lexed_parts.specs.Parts.{moved_token, moved_tokens, moved, behind, IsCut, IsReadAs, AreApart, end_of, end_of_all}
use Rattle.law_lexed_parts.proofs.Seams.{cut-kept}
use Rattle.law_lexed_parts.proofs.Parts.{tokens-kept, read-before, apart-blank}
use Rattle.law_lexed_parts.proofs.Parted.{Rising, rising, rising-split, with-ok, within-text, under-there, whole-cut, whole-tokens, split-at, parted}
use Rattle.law_lexed_parts.proofs.Letters.{letter-name, name-read}
use Rattle.law_spelled_alike.specs.Local.{kinds_of}
use Rattle.law_exchanged.specs.Claims.{from_first}
use Rattle.law_strengthened_claims.specs.Renaming.{between, IsName}
use Rattle.law_translated_texts.specs.Parts.{from_place, bytes_of, spelled}
use Rattle.law_written_formulas.specs.Kinds.{kinds_in, kinds_read, kinds_of_pieces}
use Rattle.law_written_formulas.specs.Laws.{IsNamed, IsWhole}
use Rattle.law_written_formulas.proofs.Pieces.{k-cons}

-- ---- bytes that are read as tokens of their own

apart-none : (p : List ℕ) → AreApart p []
apart-none [] = tt
apart-none (a ∷ []) = tt
apart-none (a ∷ c ∷ p) = apart-none (c ∷ p)

nothing-lexed : lexed [] ≡ Ok []
unfolding l.lexed_from
nothing-lexed = refl

pub kinds-moved : (d : ℕ) (ts : Tokens) → kinds_of (moved_tokens d ts) ≡ kinds_of ts
kinds-moved d ts = map-map (λ (t : Token). t.kind) (moved_token d) ts

pub read-alone : (p : List ℕ) (ts : Tokens) → IsReadAs p ts → lexed p ≡ Ok ts
read-alone p ts h = ap lexed (sym (append-nil p)) ∙ read-before p [] ts h (apart-none p) ∙ ap (λ o. behind ts (moved (length p) o)) nothing-lexed ∙ ap Ok (append-nil ts)

pub own-kinds : (p : List ℕ) (ts : Tokens) → IsReadAs p ts → kinds_in p ≡ kinds_of ts
own-kinds p ts h = ap kinds_read (read-alone p ts h)

pub is-named : (n : Name) → IsName n → IsNamed n
is-named n h = own-kinds n _ h

pub is-whole : (n : Name) → IsName n → IsWhole n
is-whole n h = (_, h)

-- ---- a token that is a name

first-token : (at : ℕ) (xs : List ℕ) (kind : TokenKind) (n : ℕ) (t : Token) (rest : Tokens) → front_of xs ≡ Whole kind n → lexed_from at 0 xs ≡ Ok (t ∷ rest) → kind ≡ t.kind
unfolding lexed_from
first-token at [] kind n t rest is e = absurd (cc (e))
first-token at (m ∷ ms) kind n t rest is e =
    let w = with-ok (record { kind = kind; at = at }) (lexed_from (at + 1) (n - 1) ms) (t ∷ rest) (ap (λ f. then_more at f (λ k. lexed_from (at + 1) (k - 1) ms)) (sym is) ∙ e) in
    sym (ap (λ (z : Token). z.kind) (head_is w.2))

take-run : (f : ℕ → Bool) (xs : List ℕ) → take (length (take_while f xs)) xs ≡ take_while f xs
take-run f [] = refl
take-run f (x ∷ xs) = subst (λ l. take (length l) (x ∷ xs) ≡ l) (sym (take_while-cons f x xs)) (by_test (f x) (take-run f xs))
  where
    by_test : (b : Bool) → take (length (take_while f xs)) xs ≡ take_while f xs → take (length (cond b (x ∷ take_while f xs) [])) (x ∷ xs) ≡ cond b (x ∷ take_while f xs) []
    by_test true h = ap (λ l. x ∷ l) h
    by_test false h = refl

token-name : (text : List ℕ) (front : Tokens) (t : Token) (rest : Tokens) (name : Name) → lexed text ≡ Ok (front ++ (t ∷ rest)) → t.kind ≡ Ident name → IsName name
token-name text front t rest name e k =
    let p : List ℕ = take t.at text in
    let m : List ℕ = drop t.at text in
    let under = under-there (0 + length text) front t rest (within-text 0 0 text (front ++ (t ∷ rest)) e) in
    let long : length p ≡ t.at = length-take-le t.at text (omega (arith, under)) in
    let s = split-at p m front rest t (ap lexed (take-append-drop t.at text) ∙ e) (sym long) in
    let is : front_of m ≡ Whole (Ident name) s.1.1 = s.1.2 ∙ ap (λ z. Whole z s.1.1) (first-token (length p) m s.1.0 s.1.1 t rest s.1.2 s.3 ∙ k) in
    let r = name-read m name s.1.1 is in
    let q : List ℕ = drop (length name) m in
    let own : take (length name) m ≡ name = ap (λ w. take (length w) m) (sym r.4) ∙ take-run is_name_byte m ∙ r.4 in
    let whole : name ++ q ≡ m = ap (λ w. w ++ q) (sym own) ∙ take-append-drop (length name) m in
    let there : front_of (name ++ q) ≡ Whole (Ident name) (length name) = ap front_of whole ∙ is ∙ ap (Whole (Ident name)) r.5 in
    let begins : name ≡ r.0 ∷ take_while is_name_byte r.1 =
    sym r.4 ∙ ap (take_while is_name_byte) r.2 ∙ take_while-cons is_name_byte r.0 r.1 ∙ ap (λ b. cond b (r.0 ∷ take_while is_name_byte r.1) []) (letter-name r.0 r.3) in
    let some : 0 < length name = subst (λ w. 0 < length w) (sym begins) (omega arith) in
    let cut : IsCut 0 name q = whole-cut (Ident name) name q there some in (
      cut-kept 0 name q (codes " ") cut (apart-blank name []),
      tokens-kept 0 0 name q (codes " ") cut (apart-blank name []) ∙ whole-tokens 0 (Ident name) name q there some,
    )

-- ---- the list from an offset on

found-behind : (test : Token → Bool) (xs : Tokens) (t : Token) (rest : Tokens) → AllByRecursion (λ x. test x ≡ false) xs → test t ≡ true → from_first test (xs ++ (t ∷ rest)) ≡ t ∷ rest
found-behind test [] t rest h e = ap (λ (b : Bool). if b then t ∷ rest else from_first test rest) e
found-behind test (x ∷ xs) t rest h e = ap (λ (b : Bool). if b then x ∷ xs ++ (t ∷ rest) else from_first test (xs ++ (t ∷ rest))) h.0 ∙ found-behind test xs t rest h.1 e

unlike : (i j : ℕ) → i < j → (i == j) ≡ false
unlike i j lt = by_test (i == j) refl
  where
    by_test : (b : Bool) → (i == j) ≡ b → (i == j) ≡ false
    by_test false e = e
    by_test true e = absurd (let same : i ≡ j = eqb-true i j e in omega (arith, lt, same))

between-is : (p q r : List ℕ) → between (p ++ (q ++ r)) (length p) (length p + length q) ≡ q
between-is p q r =
    let e : length p + length q - length p ≡ length q = omega arith in
    ap (λ xs. take (length p + length q - length p) xs) (drop-append_seam p (q ++ r)) ∙ ap (λ k. take k (q ++ r)) e ∙ take-append_seam q r

-- ---- in a text

module _ (text : List ℕ) (whole : Tokens) (read : lexed text ≡ Ok whole) where
  -- the tokens are the last of the text's
  abbrev pub Stands : Tokens → Type 0
  Stands ts = (front : Tokens) × (whole ≡ front ++ ts)

  pub further : (ts xs ys : Tokens) → Stands ts → ts ≡ xs ++ ys → Stands ys
  further ts xs ys s e = (s.0 ++ xs, s.1 ∙ ap (λ l. s.0 ++ l) e ∙ sym (append_assoc s.0 xs ys))

  pub dropped : (k : ℕ) (ts : Tokens) → Stands ts → Stands (drop k ts)
  dropped k ts s = further ts (take k ts) (drop k ts) s (sym (take-append-drop k ts))

  pub rises : (ts : Tokens) (s : Stands ts) → Rising (s.0 ++ ts)
  rises ts s = subst Rising s.1 (rising 0 0 text whole read)

  pub found : (t : Token) (ts : Tokens) → Stands (t ∷ ts) → from_place t.at whole ≡ t ∷ ts
  found t ts s =
      let under = (rising-split s.0 t ts (rises (t ∷ ts) s)).0 in
      let before : AllByRecursion (λ (u : Token). (u.at == t.at) ≡ false) s.0 = each_weaker (λ (u : Token). u.at < t.at) (λ (u : Token). (u.at == t.at) ≡ false) (λ u lt. unlike u.at t.at lt) s.0 under in
      ap (from_place t.at) s.1 ∙ found-behind (λ (u : Token). u.at == t.at) s.0 t ts before (eq-eqb t.at t.at refl)

  pub bytes-read : (t : Token) (es rest : Tokens) → Stands (t ∷ es ++ rest) → IsWhole (bytes_of text (t ∷ es)) × (kinds_in (bytes_of text (t ∷ es)) ≡ kinds_of (t ∷ es))
  bytes-read t es rest s =
      let p = parted text s.0 t es rest (read ∙ ap Ok s.1) in
      let same : bytes_of text (t ∷ es) ≡ p.bytes = ap (λ k. between text k (end_of_all text (t ∷ es))) p.starts ∙ ap (λ k. between text (length p.before) k) p.ends ∙ ap (λ x. between x (length p.before) (length p.before + length p.bytes)) p.split ∙ between-is p.before p.bytes p.after in (
        (p.own, subst (λ b. IsReadAs b p.own) (sym same) p.read),
        ap kinds_in same ∙ own-kinds p.bytes p.own p.read ∙ sym (ap kinds_of p.moved_own ∙ kinds-moved (length p.before) p.own),
      )

  pub spelled-read : (es rest : Tokens) → Stands (es ++ rest) → AllByRecursion IsWhole (spelled text es) × (kinds_of_pieces (spelled text es) ≡ kinds_of es)
  spelled-read [] rest s = (tt, refl)
  spelled-read (t ∷ es) rest s =
      let one = bytes-read t [] (es ++ rest) s in
      let more = spelled-read es rest (further (t ∷ es ++ rest) (t ∷ []) (es ++ rest) s refl) in
      ((one.0, more.0), k-cons (between text t.at (end_of text t)) (spelled text es) (t.kind ∷ []) one.1 ∙ ap (λ j. t.kind ∷ j) more.1)

  pub named : (t : Token) (rest : Tokens) (n : Name) → Stands (t ∷ rest) → t.kind ≡ Ident n → IsName n
  named t rest n s k = token-name text s.0 t rest n (read ∙ ap Ok s.1) k
