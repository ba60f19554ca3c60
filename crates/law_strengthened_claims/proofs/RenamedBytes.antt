-- Bytes with a new name are read as the tokens with the new name.
use Rattle.std.proofs.Common.{◌≡◌, ◌≤◌, ◌<◌, ◌+◌, ◌-◌, ℕ, zero, suc, List, [], ◌∷◌, ◌++◌, length, take, drop, take_while, codes, Bool, true, false, not, ◌&&◌, ◌⊎◌, ⊎_elim, inl, inr, cond, if◌then◌else◌, Ok, refl, sym, ap, ◌∙◌, subst, append_assoc, arith}
use Rattle.std.specs.Str.{bytes_eq}
use Rattle.std.proofs.lemmas.Slice.Eq.{bytes_eq-Decides}
use Rattle.std.proofs.lemmas.List.{append-nil, take-append-drop, length-take-le, length-append}
use Rattle.std.proofs.lemmas.List.Sums.{take_while-cons}
use Rattle.smv_core.specs.Values.{Name}
use Rattle.smv_core.specs.declared.token.Token.{Token}
use Rattle.smv_core.specs.declared.token.TokenKind.{TokenKind}
use Rattle.smv_core.specs.declared.token.TokenKind.TheVariants.{Ident, Number, Sign, Reserved}
use Rattle.smv_core.specs.Signs.{dot}
use Rattle.smv_core.specs.Notation.{Tokens, same_kind}
use Rattle.smv_lex.specs.declared.front.Front.TheVariants.{Whole}
use Rattle.smv_lex.specs.Lexing.{is_letter, is_name_byte, front_of, lexed_from, lexed, then_more}
use Rattle.law_lists.proofs.Lists.{head_is, tail_is}
use Rattle.law_lexed_parts.specs.Parts.{moved_tokens, IsCut, tokens_before, IsReadAs, AreApart}
use Rattle.law_lexed_parts.proofs.Signs.{name-apart}
use Rattle.law_lexed_parts.proofs.Parts.{in-parts, lexed-moved, tokens-moved, cut-append, tokens-append, read-before, parts-read}
use Rattle.law_lexed_parts.proofs.Seams.{cut-kept}
use Rattle.law_lexed_parts.proofs.Parted.{IsToken, with-ok, within-text, under-there, whole-cut, whole-tokens, cut-second, split-at, behind-ok, moved-ok}
use Rattle.law_lexed_parts.proofs.Letters.{letter-name, cut-before-name, tokens-before-name, name-read}
use Rattle.law_spelled_alike.specs.Local.{kind_by}
use Rattle.law_induction.specs.Renamed.{new_name}
use Rattle.law_induction.proofs.RenamedOutcomes.{bytes-refl}
use Rattle.law_strengthened_claims.specs.Renaming.{Renames, is_name, between, renamed_bytes, IsName, RenamedBytesAreRead}
use Rattle.law_strengthened_claims.proofs.RenamedTokens.{follows_dot}

-- ---- runs of bytes

-- the next byte does not pass
abbrev pub StopsAt : (ℕ → Bool) → List ℕ → Type 0
StopsAt f [] = Unit {0}
StopsAt f (b ∷ bytes) = f b ≡ false

-- each byte passes
abbrev pub AllPass : (ℕ → Bool) → List ℕ → Type 0
AllPass f [] = Unit {0}
AllPass f (b ∷ bytes) = (f b ≡ true) × AllPass f bytes

-- what stands behind a run
run-split : (f : ℕ → Bool) (xs : List ℕ) → (rest : List ℕ) × (xs ≡ take_while f xs ++ rest) × StopsAt f rest × AllPass f (take_while f xs)
run-split f [] = ([], refl, tt, tt)
run-split f (x ∷ xs) = by_test (f x) refl (run-split f xs)
  where
    by_test : (t : Bool) → f x ≡ t → (rest : List ℕ) × (xs ≡ take_while f xs ++ rest) × StopsAt f rest × AllPass f (take_while f xs) →
        (rest : List ℕ) × (x ∷ xs ≡ take_while f (x ∷ xs) ++ rest) × StopsAt f rest × AllPass f (take_while f (x ∷ xs))
    by_test true e r =
        let one : take_while f (x ∷ xs) ≡ x ∷ take_while f xs = take_while-cons f x xs ∙ ap (λ t. cond t (x ∷ take_while f xs) []) e in
        (r.0, ap (λ l. x ∷ l) r.1 ∙ ap (λ l. l ++ r.0) (sym one), r.2, subst (AllPass f) (sym one) (e, r.3))
    by_test false e r =
        let none : take_while f (x ∷ xs) ≡ [] = take_while-cons f x xs ∙ ap (λ t. cond t (x ∷ take_while f xs) []) e in
        (x ∷ xs, ap (λ l. l ++ (x ∷ xs)) (sym none), e, subst (AllPass f) (sym none) tt)

-- a name stands apart from what does not go on with it
apart-behind-name : (name rest : List ℕ) → AllPass is_name_byte name → StopsAt is_name_byte rest → AreApart name rest
apart-behind-name [] rest p q = tt
apart-behind-name (a ∷ []) [] p q = tt
apart-behind-name (a ∷ []) (b ∷ rest) p q = name-apart a b p.0 q
apart-behind-name (a ∷ c ∷ name) rest p q = apart-behind-name (c ∷ name) rest p.1 q

stops-before : (rest more : List ℕ) → StopsAt is_name_byte rest → StopsAt is_name_byte more → StopsAt is_name_byte (rest ++ more)
stops-before [] more p q = q
stops-before (b ∷ rest) more p q = p

nothing-apart : (bytes : List ℕ) → AreApart bytes []
nothing-apart [] = tt
nothing-apart (a ∷ []) = tt
nothing-apart (a ∷ c ∷ bytes) = nothing-apart (c ∷ bytes)

pub lexed-alone : (bytes : List ℕ) (ts : Tokens) → IsReadAs bytes ts → lexed bytes ≡ Ok ts
unfolding lexed_from
lexed-alone bytes ts h = ap lexed (sym (append-nil bytes)) ∙ read-before bytes [] ts h (nothing-apart bytes) ∙ ap Ok (append-nil ts)

zero-plus : (n : ℕ) → 0 + n ≡ n
zero-plus n = omega arith

-- ---- a name that stands at the front

record Named (xs : List ℕ) (name : Name) : Type 0 where
  b : ℕ
  ys : List ℕ
  is : xs ≡ b ∷ ys
  letter : is_letter b ≡ true
  more : List ℕ
  begins : name ≡ b ∷ more
  rest : List ℕ
  split : xs ≡ name ++ rest
  stops : StopsAt is_name_byte rest
  each : AllPass is_name_byte name
  front : front_of (name ++ rest) ≡ Whole (Ident name) (length name)
  some : 0 < length name

named-at : (xs : List ℕ) (name : Name) (n : ℕ) → front_of xs ≡ Whole (Ident name) n → Named xs name
named-at xs name n e =
    let r = name-read xs name n e in
    let s = run-split is_name_byte xs in
    let split : xs ≡ name ++ s.0 = s.1 ∙ ap (λ w. w ++ s.0) r.4 in
    let begins : name ≡ r.0 ∷ take_while is_name_byte r.1 =
    sym r.4 ∙ ap (take_while is_name_byte) r.2 ∙ take_while-cons is_name_byte r.0 r.1 ∙ ap (λ t. cond t (r.0 ∷ take_while is_name_byte r.1) []) (letter-name r.0 r.3) in
    record {
      b = r.0;
      ys = r.1;
      is = r.2;
      letter = r.3;
      more = take_while is_name_byte r.1;
      begins = begins;
      rest = s.0;
      split = split;
      stops = s.2;
      each = subst (AllPass is_name_byte) r.4 s.3;
      front = ap front_of (sym split) ∙ e ∙ ap (Whole (Ident name)) r.5;
      some = subst (λ l. 0 < length l) (sym begins) (omega arith);
    }

-- the token that is read first
first-token : (at : ℕ) (xs : List ℕ) (kind : TokenKind) (n : ℕ) (t : Token) (rest : Tokens) → front_of xs ≡ Whole kind n → lexed_from at 0 xs ≡ Ok (t ∷ rest) → kind ≡ t.kind
unfolding lexed_from
first-token at [] kind n t rest is e = absurd (cc (e))
first-token at (m ∷ ms) kind n t rest is e =
    let w = with-ok (record { kind = kind; at = at }) (lexed_from (at + 1) (n - 1) ms) (t ∷ rest) (ap (λ f. then_more at f (λ k. lexed_from (at + 1) (k - 1) ms)) (sym is) ∙ e) in
    sym (ap (λ (z : Token). z.kind) (head_is w.2))

name-itself : (name : Name) → IsName name → Named name name
name-itself name h =
    let t : Token = record { kind = Ident name; at = 0 } in
    let s = split-at [] name [] [] t (lexed-alone name (t ∷ []) h) refl in
    named-at name name s.1.1 (s.1.2 ∙ ap (λ k. Whole k s.1.1) (first-token 0 name s.1.0 s.1.1 t [] s.1.2 s.3))

-- ---- bytes further on

pub drop-behind : (ps qs : List ℕ) (i : ℕ) → drop (length ps + i) (ps ++ qs) ≡ drop i qs
drop-behind [] qs i = ap (λ k. drop k qs) (zero-plus i)
drop-behind (p ∷ ps) qs i = let e : suc (length ps) + i ≡ suc (length ps + i) = omega arith in ap (λ k. drop k (p ∷ ps ++ qs)) e ∙ drop-behind ps qs i

pub between-behind : (ps qs : List ℕ) (i j : ℕ) → between (ps ++ qs) (length ps + i) (length ps + j) ≡ between qs i j
between-behind ps qs i j = let e : length ps + j - (length ps + i) ≡ j - i = omega arith in ap (λ k. take k (drop (length ps + i) (ps ++ qs))) e ∙ ap (take (j - i)) (drop-behind ps qs i)

take-all : (xs : List ℕ) → take (length xs) xs ≡ xs
take-all [] = refl
take-all (x ∷ xs) = ap (λ l. x ∷ l) (take-all xs)

moved-length : (d : ℕ) (ts : Tokens) → length (moved_tokens d ts) ≡ length ts
moved-length d [] = refl
moved-length d (t ∷ ts) = ap suc (moved-length d ts)

module _ (var fresh : Name) where
  abbrev new : Name → Name
  new = new_name var fresh

  pub shifted : (ps qs : List ℕ) (i j : ℕ) (b : Bool) (ts : Tokens) → renamed_bytes (ps ++ qs) var fresh (length ps + i) (length ps + j) b (moved_tokens (length ps) ts) ≡ renamed_bytes qs var fresh i j b ts
  shifted ps qs i j b [] = between-behind ps qs i j
  shifted ps qs i j b (t ∷ ts) = by_test (is_name var t.kind && not b) (shifted ps qs (t.at + length var) j false ts) (shifted ps qs i j (same_kind t.kind dot) ts)
    where
      swap : t.at + length ps ≡ length ps + t.at
      swap = omega arith

      further : t.at + length ps + length var ≡ length ps + (t.at + length var)
      further = omega arith

      by_test : (x : Bool) → renamed_bytes (ps ++ qs) var fresh (length ps + (t.at + length var)) (length ps + j) false (moved_tokens (length ps) ts) ≡ renamed_bytes qs var fresh (t.at + length var) j false ts →
          renamed_bytes (ps ++ qs) var fresh (length ps + i) (length ps + j) (same_kind t.kind dot) (moved_tokens (length ps) ts) ≡ renamed_bytes qs var fresh i j (same_kind t.kind dot) ts →
          (if x then between (ps ++ qs) (length ps + i) (t.at + length ps) ++ (fresh ++ renamed_bytes (ps ++ qs) var fresh (t.at + length ps + length var) (length ps + j) false (moved_tokens (length ps) ts)) else renamed_bytes (ps ++ qs) var fresh (length ps + i) (length ps + j) (same_kind t.kind dot) (moved_tokens (length ps) ts))
          ≡ (if x then between qs i t.at ++ (fresh ++ renamed_bytes qs var fresh (t.at + length var) j false ts) else renamed_bytes qs var fresh i j (same_kind t.kind dot) ts)
      by_test true p q =
          ap (λ l. l ++ (fresh ++ renamed_bytes (ps ++ qs) var fresh (t.at + length ps + length var) (length ps + j) false (moved_tokens (length ps) ts))) (ap (between (ps ++ qs) (length ps + i)) swap ∙ between-behind ps qs i t.at)
          ∙ ap (λ l. between qs i t.at ++ (fresh ++ l)) (ap (λ k. renamed_bytes (ps ++ qs) var fresh k (length ps + j) false (moved_tokens (length ps) ts)) further ∙ p)
      by_test false p q = q

  -- ---- where the next token is that gets the new name

  abbrev AreKept : Bool → Tokens → Type 0
  AreKept b [] = Unit {0}
  AreKept b (t ∷ ts) = ((is_name var t.kind && not b) ≡ false) × AreKept (same_kind t.kind dot) ts

  record Found (b : Bool) (ts : Tokens) : Type 0 where
    front : Tokens
    t : Token
    rest : Tokens
    split : ts ≡ front ++ (t ∷ rest)
    kept : AreKept b front
    is : t.kind ≡ Ident var
    behind : follows_dot b front ≡ false

  is-var : (k : TokenKind) → is_name var k ≡ true → k ≡ Ident var
  is-var (Ident bytes) e = ap (λ w. Ident w) ((bytes_eq-Decides bytes var).0 e)
  is-var (Number n) e = absurd (cc (e))
  is-var (Sign i) e = absurd (cc (e))
  is-var (Reserved i) e = absurd (cc (e))

  both-parts : (x y : Bool) → (x && not y) ≡ true → (x ≡ true) × (y ≡ false)
  both-parts true false e = (refl, refl)
  both-parts true true e = absurd (cc (e))
  both-parts false y e = absurd (cc (e))

  find : (b : Bool) (ts : Tokens) → AreKept b ts ⊎ Found b ts
  find b [] = inl tt
  find b (t ∷ ts) = by_test (is_name var t.kind && not b) refl (find (same_kind t.kind dot) ts)
    where
      by_test : (x : Bool) → (is_name var t.kind && not b) ≡ x → AreKept (same_kind t.kind dot) ts ⊎ Found (same_kind t.kind dot) ts → AreKept b (t ∷ ts) ⊎ Found b (t ∷ ts)
      by_test true e r = let p = both-parts (is_name var t.kind) b e in inr (record { front = []; t = t; rest = ts; split = refl; kept = tt; is = is-var t.kind p.0; behind = p.1 })
      by_test false e (inl k) = inl (e, k)
      by_test false e (inr f) = inr (record { front = t ∷ f.front; t = f.t; rest = f.rest; split = ap (λ l. t ∷ l) f.split; kept = (e, f.kept); is = f.is; behind = f.behind })

  kept-bytes : (text : List ℕ) (from to : ℕ) (b : Bool) (front ts : Tokens) → AreKept b front → renamed_bytes text var fresh from to b (front ++ ts) ≡ renamed_bytes text var fresh from to (follows_dot b front) ts
  kept-bytes text from to b [] ts k = refl
  kept-bytes text from to b (t ∷ front) ts k =
      ap (λ (x : Bool). if x then between text from t.at ++ (fresh ++ renamed_bytes text var fresh (t.at + length var) to false (front ++ ts)) else renamed_bytes text var fresh from to (same_kind t.kind dot) (front ++ ts)) k.0
      ∙ kept-bytes text from to (same_kind t.kind dot) front ts k.1

  all-kept : (bytes : List ℕ) (b : Bool) (ts : Tokens) → AreKept b ts → renamed_bytes bytes var fresh 0 (length bytes) b ts ≡ bytes
  all-kept bytes b ts k =
      let e : length bytes - 0 ≡ length bytes = omega arith in
      ap (renamed_bytes bytes var fresh 0 (length bytes) b) (sym (append-nil ts)) ∙ kept-bytes bytes 0 (length bytes) b ts [] k ∙ ap (λ i. take i bytes) e ∙ take-all bytes

  kept-kind : (b : Bool) (k : TokenKind) → (is_name var k && not b) ≡ false → k ≡ (if b then k else kind_by new k)
  kept-kind true k e = refl
  kept-kind false (Ident bytes) e = by_test (bytes_eq bytes var) e
    where
      by_test : (x : Bool) → (x && true) ≡ false → Ident bytes ≡ Ident (if x then fresh else bytes)
      by_test true q = absurd (cc (q))
      by_test false q = refl
  kept-kind false (Number n) e = refl
  kept-kind false (Sign i) e = refl
  kept-kind false (Reserved i) e = refl

  kept-renames : (b : Bool) (ts : Tokens) → AreKept b ts → Renames var fresh b ts ts
  kept-renames b [] k = tt
  kept-renames b (t ∷ ts) k = (kept-kind b t.kind k.0, kept-renames (same_kind t.kind dot) ts k.1)

  renames-append : (b : Bool) (xs ys us vs : Tokens) → Renames var fresh b xs us → Renames var fresh (follows_dot b xs) ys vs → Renames var fresh b (xs ++ ys) (us ++ vs)
  renames-append b [] ys [] vs p q = q
  renames-append b (x ∷ xs) ys (u ∷ us) vs p q = (p.0, renames-append (same_kind x.kind dot) xs ys us vs p.1 q)
  renames-append b [] ys (u ∷ us) vs p q = absurd p
  renames-append b (x ∷ xs) ys [] vs p q = absurd p

  moved-to : (d : ℕ) (b : Bool) (ts us : Tokens) → Renames var fresh b ts us → Renames var fresh b ts (moved_tokens d us)
  moved-to d b [] [] p = tt
  moved-to d b (t ∷ ts) (u ∷ us) p = (p.0, moved-to d (same_kind t.kind dot) ts us p.1)
  moved-to d b [] (u ∷ us) p = absurd p
  moved-to d b (t ∷ ts) [] p = absurd p

  moved-of : (d : ℕ) (b : Bool) (ts us : Tokens) → Renames var fresh b ts us → Renames var fresh b (moved_tokens d ts) us
  moved-of d b [] [] p = tt
  moved-of d b (t ∷ ts) (u ∷ us) p = (p.0, moved-of d (same_kind t.kind dot) ts us p.1)
  moved-of d b [] (u ∷ us) p = absurd p
  moved-of d b (t ∷ ts) [] p = absurd p

  -- ---- the bytes

  -- the bytes with the new name are read as such tokens, and go on with a name only where the bytes do
  abbrev IsRead : List ℕ → Bool → Tokens → Type 0
  IsRead bytes b ts = (us : Tokens) × IsReadAs (renamed_bytes bytes var fresh 0 (length bytes) b ts) us × Renames var fresh b ts us ×
      (StopsAt is_name_byte bytes → StopsAt is_name_byte (renamed_bytes bytes var fresh 0 (length bytes) b ts))

  module _ (is_fresh : IsName fresh) (bytes : List ℕ) (b : Bool) (ts : Tokens) (h : IsReadAs bytes ts) (f : Found b ts) (others : (cs : List ℕ) (us : Tokens) → length us < length ts → IsReadAs cs us → IsRead cs false us) where
    e : lexed bytes ≡ Ok (f.front ++ (f.t ∷ f.rest))
    e = lexed-alone bytes ts h ∙ ap Ok f.split

    abbrev p : List ℕ
    p = take f.t.at bytes

    abbrev m : List ℕ
    m = drop f.t.at bytes

    p-long : length p ≡ f.t.at
    p-long = let under = under-there (0 + length bytes) f.front f.t f.rest (within-text 0 0 bytes (f.front ++ (f.t ∷ f.rest)) e) in length-take-le f.t.at bytes (omega (arith, under))

    s : IsCut 0 p m × IsToken m × (tokens_before 0 0 p m ≡ f.front) × (lexed_from (length p) 0 m ≡ Ok (f.t ∷ f.rest))
    s = split-at p m f.front f.rest f.t (ap lexed (take-append-drop f.t.at bytes) ∙ e) (sym p-long)

    v : Named m var
    v = named-at m var s.1.1 (s.1.2 ∙ ap (λ k. Whole k s.1.1) (first-token (length p) m s.1.0 s.1.1 f.t f.rest s.1.2 s.3 ∙ f.is))

    abbrev q : List ℕ
    q = v.rest

    var-cut : IsCut 0 var q
    var-cut = whole-cut (Ident var) var q v.front v.some

    abbrev d : ℕ
    d = length p + length var

    o : (us : Tokens) × (lexed_from d 0 q ≡ Ok us) × (tokens_before (length p) 0 var q ++ us ≡ f.t ∷ f.rest)
    o = behind-ok (tokens_before (length p) 0 var q) (lexed_from d 0 q) (f.t ∷ f.rest) (sym (in-parts (length p) 0 var q var-cut) ∙ ap (lexed_from (length p) 0) (sym v.split) ∙ s.3)

    rest-is : o.0 ≡ f.rest
    rest-is = let same : record { kind = Ident var; at = length p } ∷ o.0 ≡ f.t ∷ f.rest = ap (λ k. k ++ o.0) (sym (whole-tokens (length p) (Ident var) var q v.front v.some)) ∙ o.2 in tail_is same

    others-read : (us : Tokens) × (lexed q ≡ Ok us) × (f.rest ≡ moved_tokens d us)
    others-read = moved-ok d (lexed q) f.rest (sym (lexed-moved d 0 0 q) ∙ ap (λ k. lexed_from k 0 q) (zero-plus d) ∙ o.1 ∙ ap Ok rest-is)

    abbrev us : Tokens
    us = others-read.0

    whole : bytes ≡ (p ++ var) ++ q
    whole = sym (take-append-drop f.t.at bytes) ∙ ap (λ l. p ++ l) v.split ∙ sym (append_assoc p var q)

    before-letter : IsCut 0 p (v.b ∷ v.ys)
    before-letter = subst (IsCut 0 p) v.is s.0

    var-before : IsCut 0 (p ++ var) (q ++ codes " ")
    var-before = cut-append 0 p var (q ++ codes " ")
        (subst (λ w. IsCut 0 p (w ++ (q ++ codes " "))) (sym v.begins) (cut-before-name v.b v.b v.ys (v.more ++ (q ++ codes " ")) v.letter v.letter 0 p before-letter))
        (cut-kept 0 var q (q ++ codes " ") var-cut (apart-behind-name var (q ++ codes " ") v.each (stops-before q (codes " ") v.stops refl)))

    q-cut : IsCut 0 q (codes " ")
    q-cut = cut-second 0 (p ++ var) q (codes " ") (subst (λ l. IsCut 0 l (codes " ")) whole h.0) var-before

    q-read : IsReadAs q us
    q-read = (q-cut, let own = lexed-alone q (tokens_before 0 0 q (codes " ")) (q-cut, refl) in let is = others-read.1 in cc (own, is))

    fewer : length us < length ts
    fewer =
        let all : length ts ≡ length f.front + length (f.t ∷ f.rest) = ap length f.split ∙ length-append f.front (f.t ∷ f.rest) in
        let same : length f.rest ≡ length us = ap length others-read.2 ∙ moved-length d us in
        omega (arith, all, same)

    r : IsRead q false us
    r = others q us fewer q-read

    abbrev q' : List ℕ
    q' = renamed_bytes q var fresh 0 (length q) false us

    w : Named fresh fresh
    w = name-itself fresh is_fresh

    abbrev x : List ℕ
    x = fresh ++ q'

    abbrev own : Tokens
    own = record { kind = Ident fresh; at = 0 } ∷ moved_tokens (length fresh) r.0

    x-read : IsReadAs x own
    x-read = parts-read fresh q' (record { kind = Ident fresh; at = 0 } ∷ []) r.0 is_fresh r.1 (apart-behind-name fresh q' w.each (r.3 v.stops))

    x-begins : x ≡ w.b ∷ (w.more ++ q')
    x-begins = ap (λ l. l ++ q') w.begins

    x-cut : IsCut 0 p (x ++ codes " ")
    x-cut = subst (λ l. IsCut 0 p (l ++ codes " ")) (sym x-begins) (cut-before-name v.b w.b v.ys ((w.more ++ q') ++ codes " ") v.letter w.letter 0 p before-letter)

    x-tokens : tokens_before 0 0 p (x ++ codes " ") ≡ f.front
    x-tokens = subst (λ l. tokens_before 0 0 p (l ++ codes " ") ≡ f.front) (sym x-begins)
        (tokens-before-name v.b w.b v.ys ((w.more ++ q') ++ codes " ") v.letter w.letter 0 0 p before-letter ∙ ap (tokens_before 0 0 p) (sym v.is) ∙ s.2)

    new-read : IsReadAs (p ++ x) (f.front ++ moved_tokens (length p) own)
    new-read = (
      cut-append 0 p x (codes " ") x-cut x-read.0,
      tokens-append 0 0 p x (codes " ") x-cut ∙ ap (λ l. l ++ tokens_before (0 + length p) 0 x (codes " ")) x-tokens
          ∙ ap (λ l. f.front ++ l) (tokens-moved (length p) 0 0 x (codes " ") ∙ ap (moved_tokens (length p)) x-read.1),
    )

    behind-var : renamed_bytes bytes var fresh (f.t.at + length var) (length bytes) false f.rest ≡ q'
    behind-var =
        let long : length (p ++ var) ≡ d = length-append p var in
        let from : f.t.at + length var ≡ length (p ++ var) + 0 = let a = p-long in omega (arith, a, long) in
        let to : length bytes ≡ length (p ++ var) + length q = ap length whole ∙ length-append (p ++ var) q in
        ap (λ l. renamed_bytes l var fresh (f.t.at + length var) (length bytes) false f.rest) whole
        ∙ ap (λ k. renamed_bytes ((p ++ var) ++ q) var fresh k (length bytes) false f.rest) from
        ∙ ap (λ k. renamed_bytes ((p ++ var) ++ q) var fresh (length (p ++ var) + 0) k false f.rest) to
        ∙ ap (renamed_bytes ((p ++ var) ++ q) var fresh (length (p ++ var) + 0) (length (p ++ var) + length q) false) (others-read.2 ∙ ap (λ k. moved_tokens k us) (sym long))
        ∙ shifted (p ++ var) q 0 (length q) false us

    is_var : (is_name var f.t.kind && not false) ≡ true
    is_var = ap (λ k. is_name var k && true) f.is ∙ ap (λ z. z && true) (bytes-refl var)

    bytes-are : renamed_bytes bytes var fresh 0 (length bytes) b ts ≡ p ++ x
    bytes-are =
        let none : f.t.at - 0 ≡ f.t.at = omega arith in
        ap (renamed_bytes bytes var fresh 0 (length bytes) b) f.split ∙ kept-bytes bytes 0 (length bytes) b f.front (f.t ∷ f.rest) f.kept ∙ ap (λ c. renamed_bytes bytes var fresh 0 (length bytes) c (f.t ∷ f.rest)) f.behind
        ∙ ap (λ (z : Bool). if z then between bytes 0 f.t.at ++ (fresh ++ renamed_bytes bytes var fresh (f.t.at + length var) (length bytes) false f.rest) else renamed_bytes bytes var fresh 0 (length bytes) (same_kind f.t.kind dot) f.rest) is_var
        ∙ ap (λ k. take k bytes ++ (fresh ++ renamed_bytes bytes var fresh (f.t.at + length var) (length bytes) false f.rest)) none
        ∙ ap (λ l. p ++ (fresh ++ l)) behind-var

    renames : Renames var fresh b ts (f.front ++ moved_tokens (length p) own)
    renames =
        let kind : Ident fresh ≡ kind_by new f.t.kind = sym (ap (kind_by new) f.is ∙ ap (λ (z : Bool). Ident (if z then fresh else var)) (bytes-refl var)) in
        let inner : Renames var fresh false f.rest (moved_tokens (length p) (moved_tokens (length fresh) r.0)) =
        subst (λ l. Renames var fresh false l (moved_tokens (length p) (moved_tokens (length fresh) r.0))) (sym others-read.2)
        (moved-of d false us (moved_tokens (length p) (moved_tokens (length fresh) r.0)) (moved-to (length p) false us (moved_tokens (length fresh) r.0) (moved-to (length fresh) false us r.0 r.2))) in
        let behind_t : Renames var fresh (same_kind f.t.kind dot) f.rest (moved_tokens (length p) (moved_tokens (length fresh) r.0)) =
        subst (λ c. Renames var fresh c f.rest (moved_tokens (length p) (moved_tokens (length fresh) r.0))) (sym (ap (λ k. same_kind k dot) f.is)) inner in
        subst (λ l. Renames var fresh b l (f.front ++ moved_tokens (length p) own)) (sym f.split)
        (renames-append b f.front (f.t ∷ f.rest) f.front (moved_tokens (length p) own) (kept-renames b f.front f.kept) (subst (λ c. Renames var fresh c (f.t ∷ f.rest) (moved_tokens (length p) own)) (sym f.behind) (kind, behind_t)))

    stop : (z : List ℕ) → StopsAt is_name_byte (z ++ (v.b ∷ v.ys)) → StopsAt is_name_byte (z ++ x)
    stop [] k = absurd (let name = letter-name v.b v.letter in cc (k, name))
    stop (c ∷ z) k = k

    found-read : IsRead bytes b ts
    found-read = (
      f.front ++ moved_tokens (length p) own,
      subst (λ l. IsReadAs l (f.front ++ moved_tokens (length p) own)) (sym bytes-are) new-read,
      renames,
      λ k. subst (StopsAt is_name_byte) (sym bytes-are) (stop p (subst (StopsAt is_name_byte) (sym (take-append-drop f.t.at bytes) ∙ ap (λ l. p ++ l) v.is) k)),
    )

  finish : IsName fresh → (bytes : List ℕ) (b : Bool) (ts : Tokens) → IsReadAs bytes ts → ((cs : List ℕ) (us : Tokens) → length us < length ts → IsReadAs cs us → IsRead cs false us) → IsRead bytes b ts
  finish is_fresh bytes b ts h others = ⊎_elim kept-read (λ f. found-read is_fresh bytes b ts h f others) (find b ts)
    where
      kept-read : AreKept b ts → IsRead bytes b ts
      kept-read a = let same = all-kept bytes b ts a in (ts, subst (λ l. IsReadAs l ts) (sym same) h, kept-renames b ts a, λ z. subst (StopsAt is_name_byte) (sym same) z)

  renamed-within : (k : ℕ) → IsName fresh → (bytes : List ℕ) (b : Bool) (ts : Tokens) → length ts ≤ k → IsReadAs bytes ts → IsRead bytes b ts
  renamed-within zero is_fresh bytes b ts le h = finish is_fresh bytes b ts h (λ cs us fewer g. absurd (omega (arith, le, fewer)))
  renamed-within (suc k) is_fresh bytes b ts le h = finish is_fresh bytes b ts h (λ cs us fewer g. renamed-within k is_fresh cs false us (omega (arith, le, fewer)) g)

pub renamed-read : RenamedBytesAreRead
renamed-read bytes var fresh ts h is_fresh = let r = renamed-within var fresh (length ts) is_fresh bytes false ts (omega arith) h in (r.0, r.1, r.2)
