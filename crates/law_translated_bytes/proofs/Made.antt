-- A text with other bytes in some places is read as the tokens that stay, and those of the other bytes.
use Rattle.std.proofs.Common.{◌≡◌, ◌+◌, ◌-◌, ℕ, List, [], ◌∷◌, ◌++◌, length, take, drop, codes, Ok, refl, sym, ap, ◌∙◌, subst, append_assoc, arith}
use Rattle.std.proofs.Math.Seq.{take-append_seam, drop-append_seam}
use Rattle.std.proofs.lemmas.List.{drop-drop}
use Rattle.std.proofs.lemmas.List.Concat.{flat_map-cons}
use Rattle.std.specs.List.{AllByRecursion}
use Rattle.law_lists.proofs.Lists.{head_is, tail_is}
use Rattle.smv_core.specs.declared.token.Token.{Token}
use Rattle.smv_core.specs.declared.token.TokenKind.{TokenKind}
use Rattle.smv_core.specs.Notation.{Tokens}
use Rattle.smv_lex.specs.Lexing as l
use Rattle.smv_lex.specs.Lexing.{lexed, lexed_from, front_of}
use Rattle.law_lexed_parts.specs.Parts.{moved_token, moved_tokens, moved, behind, IsReadAs, AreApart, end_of_all, size_of}
use Rattle.law_lexed_parts.proofs.Parts.{read-before, apart-blank, lexed-moved}
use Rattle.law_lexed_parts.proofs.Parted.{split-at, parted, moved-ok}
use Rattle.law_spelled_alike.specs.Local.{kinds_of}
use Rattle.law_spelled_alike.proofs.Combining.{kinds-append}
use Rattle.law_strengthened_claims.specs.Renaming.{between}
use Rattle.law_translated_texts.specs.Phrases.{Pieces}
use Rattle.law_translated_texts.specs.Translation.{spaced}
use Rattle.law_written_formulas.specs.Kinds.{kinds_of_pieces}
use Rattle.law_written_formulas.specs.Laws.{IsWhole}
use Rattle.law_written_formulas.proofs.Reading.{pieces-read}
use Rattle.law_translated_items.proofs.Standing.{kinds-moved}
use Rattle.law_translated_bytes.proofs.Cuts.{Cut, Same, Other, Before, tokens, new_kinds, IsFine, blanked, made}

-- ---- offsets

moved-twice : (a b : ℕ) (ts : Tokens) → moved_tokens a (moved_tokens b ts) ≡ moved_tokens (b + a) ts
moved-twice a b [] = refl
moved-twice a b (t ∷ ts) = let e : t.at + b + a ≡ t.at + (b + a) = omega arith in ap (λ k. record { kind = t.kind; at = k } ∷ moved_tokens a (moved_tokens b ts)) e ∙ ap (λ l. moved_token (b + a) t ∷ l) (moved-twice a b ts)

-- tokens in two lists were there before
record Unmoved (d : ℕ) (xs ys us : Tokens) : Type 0 where
  left : Tokens
  right : Tokens
  split : us ≡ left ++ right
  first : xs ≡ moved_tokens d left
  second : ys ≡ moved_tokens d right

unmoved : (d : ℕ) (xs ys us : Tokens) → xs ++ ys ≡ moved_tokens d us → Unmoved d xs ys us
unmoved d [] ys us e = record { left = []; right = us; split = refl; first = refl; second = e }
unmoved d (x ∷ xs) ys [] e = absurd (cc (e))
unmoved d (x ∷ xs) ys (u ∷ us) e =
    let i = unmoved d xs ys us (tail_is e) in
    record {
      left = u ∷ i.left;
      right = i.right;
      split = ap (λ l. u ∷ l) i.split;
      first = ap (λ y. y ∷ xs) (head_is e) ∙ ap (λ l. moved_token d u ∷ l) i.first;
      second = i.second;
    }

-- where tokens end, in a text from an offset on
ends-moved : (text : List ℕ) (d : ℕ) (t : Token) (ts : Tokens) → end_of_all text (moved_tokens d (t ∷ ts)) ≡ end_of_all (drop d text) (t ∷ ts) + d
ends-moved text d t [] =
    let there : drop t.at (drop d text) ≡ drop (t.at + d) text = drop-drop t.at d text ∙ ap (λ k. drop k text) (plus d t.at) in
    let e : t.at + d + size_of (front_of (drop t.at (drop d text))) ≡ t.at + size_of (front_of (drop t.at (drop d text))) + d = omega arith in
    ap (λ x. t.at + d + size_of (front_of x)) (sym there) ∙ e
  where
    plus : (a b : ℕ) → a + b ≡ b + a
    plus a b = omega arith
ends-moved text d t (u ∷ ts) = ends-moved text d u ts

-- from an offset on the text is read as these tokens
pub record Reads (text : List ℕ) (from : ℕ) (ts : Tokens) : Type 0 where
  pub own : Tokens
  pub read : lexed (drop from text) ≡ Ok own
  pub own_moved : ts ≡ moved_tokens from own

-- ---- what is written

blank-read : IsReadAs (codes " ") []
unfolding l.word_kind l.word_front l.number_front l.sign_front l.front_of
blank-read = ((λ e. absurd (cc (e)), tt), refl)

blank-apart : (q : List ℕ) → AreApart (codes " ") q
blank-apart [] = tt
blank-apart (b ∷ q) = refl

blanked-apart : (p : List ℕ) (ps : Pieces) (more : List ℕ) → AreApart p (blanked ps more)
blanked-apart p [] more = apart-blank p more
blanked-apart p (q ∷ ps) more = subst (λ b. AreApart p (b ++ (codes " " ++ more))) (sym (flat_map-cons (λ (r : List ℕ). codes " " ++ r) q ps)) (apart-blank p ((q ++ spaced ps) ++ (codes " " ++ more)))

-- bytes that are read as such kinds
abbrev ReadAsKinds : List ℕ → List TokenKind → Type 0
ReadAsKinds bytes ks = (us : Tokens) × (lexed bytes ≡ Ok us) × (kinds_of us ≡ ks)

in-front : (p q : List ℕ) (ts : Tokens) (ks : List TokenKind) → IsReadAs p ts → AreApart p q → ReadAsKinds q ks → ReadAsKinds (p ++ q) (kinds_of ts ++ ks)
in-front p q ts ks h apart (us, e, k) = (
  ts ++ moved_tokens (length p) us,
  read-before p q ts h apart ∙ ap (λ o. behind ts (moved (length p) o)) e,
  kinds-append ts (moved_tokens (length p) us) ∙ ap (λ j. kinds_of ts ++ j) (kinds-moved (length p) us ∙ k),
)

written : (p : List ℕ) (ts : Tokens) (ps : Pieces) (more : List ℕ) (ks : List TokenKind) → IsReadAs p ts → AllByRecursion IsWhole ps → ReadAsKinds more ks → ReadAsKinds (p ++ blanked ps more) (kinds_of ts ++ (kinds_of_pieces ps ++ ks))
written p ts ps more ks h whole r =
    let w = pieces-read ps whole in
    let tail = in-front (codes " ") more [] ks blank-read (blank-apart more) r in
    let middle = in-front (spaced ps) (codes " " ++ more) w.0 ks w.1 (apart-blank (spaced ps) more) tail in
    in-front p (blanked ps more) ts (kinds_of_pieces ps ++ ks) h (blanked-apart p ps more) (middle.0, middle.1, middle.2 ∙ ap (λ j. j ++ ks) w.2)

-- ---- one cut

take-there : (p q : List ℕ) → take (length p) (p ++ q) ≡ p
take-there p q = take-append_seam p q

module _ (text : List ℕ) where
  -- the bytes before a token of those from an offset on
  before-is : (from : ℕ) (t' : Token) (before other : List ℕ) → drop from text ≡ before ++ other → t'.at ≡ length before → between text from (t'.at + from) ≡ before
  before-is from t' before other e at =
      let gap : t'.at + from - from ≡ length before = omega (arith, at) in
      ap (λ k. take k (drop from text)) gap ∙ ap (take (length before)) e ∙ take-there before other

  read-other : (from : ℕ) (front : Tokens) (t : Token) (fs rest : Tokens) (ps : Pieces) (ks : List TokenKind) (more : List ℕ) → Reads text from (front ++ ((t ∷ fs) ++ rest)) → AllByRecursion IsWhole ps →
      (Reads text (end_of_all text (t ∷ fs)) rest → ReadAsKinds more ks) → ReadAsKinds (between text from t.at ++ blanked ps more) (kinds_of front ++ (kinds_of_pieces ps ++ ks))
  read-other from front t fs rest ps ks more r whole next =
      let a = unmoved from front ((t ∷ fs) ++ rest) r.own r.own_moved in
      let b = unmoved from (t ∷ fs) rest a.right a.second in
      by_left a b b.left refl
    where
      by_left : (a : Unmoved from front ((t ∷ fs) ++ rest) r.own) (b : Unmoved from (t ∷ fs) rest a.right) (xs : Tokens) → b.left ≡ xs → ReadAsKinds (between text from t.at ++ blanked ps more) (kinds_of front ++ (kinds_of_pieces ps ++ ks))
      by_left a b [] same = absurd (let none : t ∷ fs ≡ [] = b.first ∙ ap (moved_tokens from) same in cc (none))
      by_left a b (t' ∷ fs') same =
          let first : t ∷ fs ≡ moved_tokens from (t' ∷ fs') = b.first ∙ ap (moved_tokens from) same in
          let own : r.own ≡ a.left ++ (t' ∷ fs' ++ b.right) = a.split ∙ ap (λ l. a.left ++ l) (b.split ∙ ap (λ l. l ++ b.right) same) in
          let p = parted (drop from text) a.left t' fs' b.right (r.read ∙ ap Ok own) in
          let at : t.at ≡ t'.at + from = ap (λ (z : Token). z.at) (head_is first) in
          let before : between text from t.at ≡ p.before = ap (between text from) at ∙ before-is from t' p.before (p.bytes ++ p.after) p.split p.starts in
          let ends : end_of_all text (t ∷ fs) ≡ length p.before + length p.bytes + from = ap (end_of_all text) first ∙ ends-moved text from t' fs' ∙ ap (λ k. k + from) p.ends in
          let turn : length p.before + length p.bytes + from ≡ from + (length p.before + length p.bytes) = omega arith in
          let behind_it : drop (length p.before + length p.bytes) (p.before ++ (p.bytes ++ p.after)) ≡ p.after = drop-two p.before p.bytes p.after in
          let after : drop (end_of_all text (t ∷ fs)) text ≡ p.after = ap (λ k. drop k text) (ends ∙ turn) ∙ sym (drop-drop (length p.before + length p.bytes) from text) ∙ ap (drop (length p.before + length p.bytes)) p.split ∙ behind_it in
          let rest_is : rest ≡ moved_tokens (end_of_all text (t ∷ fs)) p.others = b.second ∙ ap (moved_tokens from) p.moved_others ∙ moved-twice from (length p.before + length p.bytes) p.others ∙ ap (λ k. moved_tokens k p.others) (sym ends) in
          let o = written p.before a.left ps more ks p.first whole (next (record { own = p.others; read = ap lexed after ∙ p.last; own_moved = rest_is })) in
          (o.0, ap (λ x. lexed (x ++ blanked ps more)) before ∙ o.1, o.2 ∙ ap (λ j. j ++ (kinds_of_pieces ps ++ ks)) (sym (ap kinds_of a.first ∙ kinds-moved from a.left)))
        where
          drop-two : (x y w : List ℕ) → drop (length x + length y) (x ++ (y ++ w)) ≡ w
          drop-two x y w = sym (drop-drop (length y) (length x) (x ++ (y ++ w))) ∙ ap (drop (length y)) (drop-append_seam x (y ++ w)) ∙ drop-append_seam y w

  read-before-token : (from : ℕ) (front : Tokens) (t : Token) (rest : Tokens) (ps : Pieces) (ks : List TokenKind) (more : List ℕ) → Reads text from (front ++ (t ∷ rest)) → AllByRecursion IsWhole ps →
      (Reads text t.at (t ∷ rest) → ReadAsKinds more ks) → ReadAsKinds (between text from t.at ++ blanked ps more) (kinds_of front ++ (kinds_of_pieces ps ++ ks))
  read-before-token from front t rest ps ks more r whole next =
      let a = unmoved from front (t ∷ rest) r.own r.own_moved in
      by_right a a.right refl
    where
      by_right : (a : Unmoved from front (t ∷ rest) r.own) (xs : Tokens) → a.right ≡ xs → ReadAsKinds (between text from t.at ++ blanked ps more) (kinds_of front ++ (kinds_of_pieces ps ++ ks))
      by_right a [] same = absurd (let none : t ∷ rest ≡ [] = a.second ∙ ap (moved_tokens from) same in cc (none))
      by_right a (t' ∷ rest') same =
          let first : t ∷ rest ≡ moved_tokens from (t' ∷ rest') = a.second ∙ ap (moved_tokens from) same in
          let own : r.own ≡ a.left ++ (t' ∷ [] ++ rest') = a.split ∙ ap (λ l. a.left ++ l) same in
          let p = parted (drop from text) a.left t' [] rest' (r.read ∙ ap Ok own) in
          let x : List ℕ = p.bytes ++ p.after in
          let at : t.at ≡ t'.at + from = ap (λ (z : Token). z.at) (head_is first) in
          let before : between text from t.at ≡ p.before = ap (between text from) at ∙ before-is from t' p.before x p.split p.starts in
          let s = split-at p.before x a.left rest' t' (sym (ap lexed p.split) ∙ r.read ∙ ap Ok own) p.starts in
          let zero_plus : 0 + length p.before ≡ length p.before = omega arith in
          let o = moved-ok (length p.before) (lexed x) (t' ∷ rest') (sym (lexed-moved (length p.before) 0 0 x) ∙ ap (λ k. lexed_from k 0 x) zero_plus ∙ s.3) in
          let place : t.at ≡ length p.before + from = at ∙ ap (λ k. k + from) p.starts in
          let turn : length p.before + from ≡ from + length p.before = omega arith in
          let after : drop t.at text ≡ x = ap (λ k. drop k text) (place ∙ turn) ∙ sym (drop-drop (length p.before) from text) ∙ ap (drop (length p.before)) p.split ∙ drop-append_seam p.before x in
          let rest_is : t ∷ rest ≡ moved_tokens t.at o.0 = first ∙ ap (moved_tokens from) o.2 ∙ moved-twice from (length p.before) o.0 ∙ ap (λ k. moved_tokens k o.0) (sym place) in
          let w = written p.before a.left ps more ks p.first whole (next (record { own = o.0; read = ap lexed after ∙ o.1; own_moved = rest_is })) in
          (w.0, ap (λ y. lexed (y ++ blanked ps more)) before ∙ w.1, w.2 ∙ ap (λ j. j ++ (kinds_of_pieces ps ++ ks)) (sym (ap kinds_of a.first ∙ kinds-moved from a.left)))

  -- ---- all cuts

  pub made-read : (cs : List Cut) → AllByRecursion IsFine cs → (from : ℕ) (front : Tokens) → Reads text from (front ++ tokens cs) → ReadAsKinds (made text from cs) (kinds_of front ++ new_kinds cs)
  made-read [] fine from front r = (r.own, r.read, sym (kinds-moved from r.own) ∙ ap kinds_of (sym r.own_moved) ∙ kinds-append front [])
  made-read (Same us ∷ cs) fine from front r =
      let o = made-read cs fine.1 from (front ++ us) (subst (Reads text from) (sym (append_assoc front us (tokens cs))) r) in
      (o.0, o.1, o.2 ∙ ap (λ j. j ++ new_kinds cs) (kinds-append front us) ∙ append_assoc (kinds_of front) (kinds_of us) (new_kinds cs))
  made-read (Other t fs ps ∷ cs) fine from front r = read-other from front t fs (tokens cs) ps (new_kinds cs) (made text (end_of_all text (t ∷ fs)) cs) r fine.0 (λ next. made-read cs fine.1 (end_of_all text (t ∷ fs)) [] next)
  made-read (Before ps t ∷ cs) fine from front r =
      let o = read-before-token from front t (tokens cs) ps (t.kind ∷ new_kinds cs) (made text t.at cs) r fine.0 (λ next. made-read cs fine.1 t.at (t ∷ []) next) in
      (o.0, o.1, o.2 ∙ ap (λ j. kinds_of front ++ j) (sym (append_assoc (kinds_of_pieces ps) (t.kind ∷ []) (new_kinds cs))))
