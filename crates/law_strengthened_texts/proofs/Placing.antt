-- Where the replacement stands in the strengthened text, and that it is sound.
use Rattle.std.proofs.Common.{◌≡◌, ◌≤◌, ◌+◌, ◌-◌, ◌==◌, ℕ, zero, suc, List, [], ◌∷◌, ◌++◌, length, take, drop, Some, Ok, Bool, true, false, not, ◌&&◌, if◌then◌else◌, refl, sym, ap, ◌∙◌, subst, arith}
use Rattle.std.proofs.lemmas.Bool.{eqb-true}
use Rattle.smv_core.specs.Values.{Name}
use Rattle.smv_core.specs.declared.tree.Expr.{Expr}
use Rattle.smv_core.specs.declared.tree.Text.{Text}
use Rattle.smv_core.specs.Signs.{dot}
use Rattle.smv_core.specs.Notation.{Tokens, same_kind}
use Rattle.smv_core.specs.Spelling.{Spells}
use Rattle.smv_lex.specs.Lexing.{lexed}
use Rattle.law_places.specs.Placeless.{placeless_text}
use Rattle.law_lexed_parts.specs.Parts.{begin_of, end_of_all}
use Rattle.law_lexed_parts.proofs.Parted.{Under, within-text}
use Rattle.law_exchanged.specs.Claims.{body_tokens}
use Rattle.law_exchanged.specs.Laws.{IsWith, IsPlacedInBytes}
use Rattle.law_exchanged.proofs.Bytes.{bytes-exchanged}
use Rattle.law_induction.specs.Strengthened.{is_main, is_named}
use Rattle.law_strengthened_claims.specs.Renaming.{is_name, between, renamed_bytes}
use Rattle.law_strengthened_claims.specs.Replacement.{replacement}
use Rattle.law_strengthened_claims.proofs.RenamedTokens.{renamed-spelled}
use Rattle.law_strengthened_claims.proofs.RenamedBytes.{lexed-alone, drop-behind, between-behind, shifted, renamed-read}
use Rattle.law_strengthened_claims.proofs.Replacing.{replaced}
use Rattle.law_strengthened_texts.specs.Stronger.{Found, induction, fresh_name, Stronger, strengthened, levels}
use Rattle.law_strengthened_texts.specs.Laws.{IsPlacedStronger, StrongerIsPlaced, StrongerTextIsSound}
use Rattle.law_strengthened_texts.proofs.Counting.{this_claim, one-claim, alike, same-text}

-- ---- bytes at the front of others

take-front : (xs ys : List ℕ) (k : ℕ) → k ≤ length xs → take k (xs ++ ys) ≡ take k xs
take-front xs ys zero le = refl
take-front [] ys (suc k) le = absurd (omega (arith, le))
take-front (x ∷ xs) ys (suc k) le = ap (λ l. x ∷ l) (take-front xs ys k (omega (arith, le)))

take-whole : (xs ys : List ℕ) → take (length xs) (xs ++ ys) ≡ xs
take-whole [] ys = refl
take-whole (x ∷ xs) ys = ap (λ l. x ∷ l) (take-whole xs ys)

between-front : (xs ys : List ℕ) (i j : ℕ) → j ≤ length xs → between (xs ++ ys) i j ≡ between xs i j
between-front xs ys zero j le = take-front xs ys (j - 0) (omega (arith, le))
between-front [] ys (suc i) j le = let none : j - suc i ≡ 0 = omega (arith, le) in ap (λ k. take k (drop (suc i) ys)) none ∙ sym (ap (λ k. take k (drop (suc i) [])) none)
between-front (x ∷ xs) ys (suc i) zero le = let none : 0 - suc i ≡ 0 = omega arith in ap (λ k. take k (drop i (xs ++ ys))) none ∙ sym (ap (λ k. take k (drop i xs)) none)
between-front (x ∷ xs) ys (suc i) (suc j) le =
    let same : suc j - suc i ≡ j - i = omega arith in
    ap (λ k. take k (drop i (xs ++ ys))) same ∙ between-front xs ys i j (omega (arith, le)) ∙ sym (ap (λ k. take k (drop i xs)) same)

module _ (var fresh : Name) where
  -- what stands behind the bytes does not count
  renamed-front : (xs ys : List ℕ) (from to : ℕ) (b : Bool) (ts : Tokens) → to ≤ length xs → Under (length xs) ts → renamed_bytes (xs ++ ys) var fresh from to b ts ≡ renamed_bytes xs var fresh from to b ts
  renamed-front xs ys from to b [] le u = between-front xs ys from to le
  renamed-front xs ys from to b (t ∷ ts) le u = by_test (is_name var t.kind && not b) (renamed-front xs ys (t.at + length var) to false ts le u.1) (renamed-front xs ys from to (same_kind t.kind dot) ts le u.1)
    where
      by_test : (x : Bool) → renamed_bytes (xs ++ ys) var fresh (t.at + length var) to false ts ≡ renamed_bytes xs var fresh (t.at + length var) to false ts →
          renamed_bytes (xs ++ ys) var fresh from to (same_kind t.kind dot) ts ≡ renamed_bytes xs var fresh from to (same_kind t.kind dot) ts →
          (if x then between (xs ++ ys) from t.at ++ (fresh ++ renamed_bytes (xs ++ ys) var fresh (t.at + length var) to false ts) else renamed_bytes (xs ++ ys) var fresh from to (same_kind t.kind dot) ts)
          ≡ (if x then between xs from t.at ++ (fresh ++ renamed_bytes xs var fresh (t.at + length var) to false ts) else renamed_bytes xs var fresh from to (same_kind t.kind dot) ts)
      by_test true p q =
          let under = u.0 in
          ap (λ l. l ++ (fresh ++ renamed_bytes (xs ++ ys) var fresh (t.at + length var) to false ts)) (between-front xs ys from t.at (omega (arith, under))) ∙ ap (λ l. between xs from t.at ++ (fresh ++ l)) p
      by_test false p q = q

and-parts : (a b : Bool) → (a && b) ≡ true → (a ≡ true) × (b ≡ true)
and-parts true true e = (refl, refl)
and-parts true false e = absurd (cc (e))
and-parts false b e = absurd (cc (e))

module _ (text : List ℕ) (name var : Name) (ts : Tokens) (x : Text) (c : Found) (set : Name) (l : lexed text ≡ Ok ts) (h : Spells levels ts x) (found : induction x.tops name var ≡ Some (c, set)) where
  with-named : (y : Expr) (new : Text) → IsWith is_main (this_claim x name var c set found) x y new → IsWith is_main (is_named name) x y new
  with-named y new e = ap placeless_text (sym (same-text (this_claim x name var c set found) (is_named name) y x (alike x name var c set found))) ∙ e

  abbrev p0 : IsPlacedInBytes levels 2 is_main (this_claim x name var c set found) text x
  p0 = bytes-exchanged levels 2 is_main (this_claim x name var c set found) text ts x l h (one-claim x name var c set found)

  parts : (is_named name p0.word ≡ true) × ((p0.word.at == c.word.at) ≡ true)
  parts = and-parts (is_named name p0.word) (p0.word.at == c.word.at) p0.chosen

  abbrev p : IsPlacedInBytes levels 2 is_main (is_named name) text x
  p = record {
    before = p0.before;
    bytes = p0.bytes;
    after = p0.after;
    split = p0.split;
    tokens = p0.tokens;
    read = p0.read;
    word = p0.word;
    chosen = parts.0;
    all = p0.all;
    all_read = p0.all_read;
    own_tokens = p0.own_tokens;
    starts = p0.starts;
    ends = p0.ends;
    levels = p0.levels;
    body = p0.body;
    spelled = p0.spelled;
    own = with-named p0.body x p0.own;
    exchanged = λ bytes us y a b d e. let r = p0.exchanged bytes us y a b d e in (r.0, r.1, r.2, r.3, with-named y r.1 r.4);
  }

  place : p0.word.at ≡ c.word.at
  place = eqb-true p0.word.at c.word.at parts.1

  all-is : p0.all ≡ ts
  all-is = let a = p0.all_read in cc (a, l)

  abbrev es : Tokens
  es = body_tokens c.word.at ts

  es-is : body_tokens p0.word.at p0.all ≡ es
  es-is = ap (λ at. body_tokens at p0.all) place ∙ ap (body_tokens c.word.at) all-is

  from-is : begin_of es ≡ length p0.before
  from-is = ap begin_of (sym es-is) ∙ p0.starts

  to-is : end_of_all text es ≡ length p0.before + length p0.bytes
  to-is = ap (end_of_all text) (sym es-is) ∙ p0.ends

  abbrev rest : List ℕ
  rest = p0.bytes ++ p0.after

  abbrev fresh : Name
  fresh = fresh_name ts

  plain : length p0.before ≡ length p0.before + 0
  plain = omega arith

  front-is : take (length p0.before) text ≡ p0.before
  front-is = ap (take (length p0.before)) p0.split ∙ take-whole p0.before rest

  own-is : between text (length p0.before) (length p0.before + length p0.bytes) ≡ p0.bytes
  own-is =
      let whole : length p0.bytes - 0 ≡ length p0.bytes = omega arith in
      ap (λ t. between t (length p0.before) (length p0.before + length p0.bytes)) p0.split ∙ ap (λ k. between (p0.before ++ rest) k (length p0.before + length p0.bytes)) plain ∙ between-behind p0.before rest 0 (length p0.bytes)
      ∙ ap (λ k. take k rest) whole ∙ take-whole p0.bytes p0.after

  end-is : drop (length p0.before + length p0.bytes) text ≡ p0.after
  end-is =
      let whole : length p0.bytes ≡ length p0.bytes + 0 = omega arith in
      ap (drop (length p0.before + length p0.bytes)) p0.split ∙ drop-behind p0.before rest (length p0.bytes) ∙ ap (λ k. drop k rest) whole ∙ drop-behind p0.bytes p0.after 0

  abbrev smaller : List ℕ
  smaller = renamed_bytes p0.bytes var fresh 0 (length p0.bytes) false p0.tokens

  smaller-is : renamed_bytes text var fresh (length p0.before) (length p0.before + length p0.bytes) false es ≡ smaller
  smaller-is =
      let inside : Under (length p0.bytes) p0.tokens = subst (λ k. Under k p0.tokens) zero_plus (within-text 0 0 p0.bytes p0.tokens (lexed-alone p0.bytes p0.tokens p0.read)) in
      ap (λ t. renamed_bytes t var fresh (length p0.before) (length p0.before + length p0.bytes) false es) p0.split
      ∙ ap (λ k. renamed_bytes (p0.before ++ rest) var fresh k (length p0.before + length p0.bytes) false es) plain
      ∙ ap (renamed_bytes (p0.before ++ rest) var fresh (length p0.before + 0) (length p0.before + length p0.bytes) false) (sym es-is ∙ p0.own_tokens)
      ∙ shifted var fresh p0.before rest 0 (length p0.bytes) false p0.tokens ∙ renamed-front var fresh p0.bytes p0.after 0 (length p0.bytes) false p0.tokens (omega arith) inside
    where
      zero_plus : 0 + length p0.bytes ≡ length p0.bytes
      zero_plus = omega arith

  abbrev s : Stronger
  s = strengthened text ts var set c.word.at

  -- the text between two offsets, with the replacement in place of what stands there
  abbrev text_by : ℕ → ℕ → List ℕ
  text_by from to = take from text ++ (replacement var fresh set (renamed_bytes text var fresh from to false es) (between text from to) ++ drop to text)

  text-is : s.text ≡ p0.before ++ (replacement var fresh set smaller p0.bytes ++ p0.after)
  text-is =
      ap (λ from. text_by from (end_of_all text es)) from-is ∙ ap (text_by (length p0.before)) to-is
      ∙ ap (λ b. b ++ (replacement var fresh set (renamed_bytes text var fresh (length p0.before) (length p0.before + length p0.bytes) false es) (between text (length p0.before) (length p0.before + length p0.bytes)) ++ drop (length p0.before + length p0.bytes) text)) front-is
      ∙ ap (λ e. p0.before ++ (replacement var fresh set e (between text (length p0.before) (length p0.before + length p0.bytes)) ++ drop (length p0.before + length p0.bytes) text)) smaller-is
      ∙ ap (λ e. p0.before ++ (replacement var fresh set smaller e ++ drop (length p0.before + length p0.bytes) text)) own-is
      ∙ ap (λ e. p0.before ++ (replacement var fresh set smaller p0.bytes ++ e)) end-is

  old-is : s.old ≡ length p0.bytes
  old-is =
      let rest_is : length p0.before + length p0.bytes - length p0.before ≡ length p0.bytes = omega arith in
      ap (λ to. to - begin_of es) to-is ∙ ap (λ from. length p0.before + length p0.bytes - from) from-is ∙ rest_is

  pub placed-stronger : IsPlacedStronger text name var ts x c set
  placed-stronger = (p, place, (text-is, from-is, old-is))

pub stronger-placed : StrongerIsPlaced
stronger-placed text name var ts x c set l h found = placed-stronger text name var ts x c set l h found

pub stronger-text-sound : StrongerTextIsSound
stronger-text-sound text name var ts x c set l h found is_var is_fresh is_set =
    let placed = placed-stronger text name var ts x c set l h found in
    let p = placed.0 in
    let fresh = fresh_name ts in
    let r = renamed-read p.bytes var fresh p.tokens p.read is_fresh in
    let d = renamed-spelled p.levels var fresh p.tokens r.0 p.body p.spelled r.2 in
    let new = replaced levels name var fresh set text x p is_var is_fresh is_set (renamed_bytes p.bytes var fresh 0 (length p.bytes) false p.tokens) r.0 d.0 r.1 d.1 d.2 in
    (new.0, new.1, ap lexed placed.2.0 ∙ new.2, new.3, new.4, new.5)
