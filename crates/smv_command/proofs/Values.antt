-- What the definitions of values say of matches.
use Rattle.std.proofs.Common.{◌≡◌, ◌∙◌, ◌≤◌, ◌==◌, ◌<◌, ◌+◌, ◌++◌, ℕ, suc, Bool, true, false, List, [], ◌∷◌, append_assoc, drop, drop-cons, get_or, length, Option, Some, None, ap, arith, cond, is_some, pos, refl, subst, sym, true≢false}
use Rattle.std.specs.Prelude.{if◌then◌else◌, option_map, option_and_then, unwrap_or}
use Rattle.std.specs.Str.Parse.{digits_value, starts_with_minus, without_leading_plus}
use Rattle.std.specs.Borrow.{Bor}
use Rattle.std.proofs.lemmas.Int.{ints}
use Rattle.std.proofs.lemmas.List.{append-nil, drop_all}
use Rattle.clap.specs.Lexer.{without_minus}
use Rattle.clap.specs.Values.{IsSignedIn, IsUnsignedIn}
use Rattle.clap.specs.ValueTests.{is_unsigned_in}
use Rattle.clap.specs.Walk.{Row, Text, one_of, texts}
use Rattle.clap.specs.declared.builder.value_parser.ValueParser.TheVariants.{Unsigned}
use Rattle.clap.proofs.ValueTestLemmas.{Accepts-accepts, accepts-Accepts}
use Rattle.smv_command.specs.Commands.{both, number, number_in, numbers}

-- ---- options

pub map_some : {A B : Type 0} (f : A → B) (o : Option A) → is_some (option_map f o) ≡ true → is_some o ≡ true
map_some f None e = e
map_some f (Some x) e = refl

pub both_some : {A B : Type 0} (x : Option A) (y : Option B) → is_some (both x y) ≡ true → (is_some x ≡ true) × (is_some y ≡ true)
both_some None y e = absurd (true≢false (sym e))
both_some (Some a) None e = absurd (true≢false (sym e))
both_some (Some a) (Some b) e = (refl, refl)

pub both_given : {A B C : Type 0} (f : A × B → C) (x : Option A) (y : Option B) → is_some x ≡ true → is_some y ≡ true → is_some (option_map f (both x y)) ≡ true
both_given f None y p q = p
both_given f (Some a) None p q = q
both_given f (Some a) (Some b) p q = refl

pub both_there : {A B : Type 0} (x : Option A) (y : Option B) → is_some x ≡ true → is_some y ≡ true → is_some (both x y) ≡ true
both_there None y p q = p
both_there (Some a) None p q = q
both_there (Some a) (Some b) p q = refl

pub map_given : {A B : Type 0} (f : A → B) (o : Option A) → is_some o ≡ true → is_some (option_map f o) ≡ true
map_given f None e = e
map_given f (Some x) e = refl

-- ---- numbers

without_minus_is : (t : List ℕ) → starts_with_minus t ≡ false → without_minus t ≡ t
without_minus_is [] e = refl
without_minus_is (x ∷ xs) e = go (x == 45) e
  where
    go : (b : Bool) → b ≡ false → unwrap_or (cond b (Some xs) None) (x ∷ xs) ≡ x ∷ xs
    go true e = absurd (true≢false e)
    go false e = refl

-- a word in a range from 1 on has no minus, and is in the range as a natural number
unsigned_reads : (most : ℕ) (t : List ℕ) → most ≤ 4294967295 → IsSignedIn (pos 1) (pos most) t → IsUnsignedIn 1 most (without_minus t)
unsigned_reads most t small p = go (starts_with_minus t) refl
  where
    go : (b : Bool) → starts_with_minus t ≡ b → IsUnsignedIn 1 most (without_minus t)
    go true minus =
        let low = rw minus at p.2 in
        absurd (omega (arith, ints))
    go false minus =
        let numeral = rw minus at p.0 in
        let low = rw minus at p.2 in
        let high = rw minus at p.3 in
        let same = without_minus_is t minus in
        subst (IsUnsignedIn 1 most) (sym same) (numeral, omega (arith, ints), omega (arith, ints), omega (arith, ints))

pub number_given : (most : ℕ) (id : Text) (rows : List Row) (w : Text) → most ≤ 4294967295 → one_of id rows ≡ Some (without_minus w) → IsSignedIn (pos 1) (pos most) w
    → is_some (number_in most id rows) ≡ true
number_given most id rows w small one p =
    let t : is_unsigned_in 1 most (without_minus w) ≡ true = Accepts-accepts false (Unsigned 1 most) (without_minus w) (unsigned_reads most w small p) in
    rw (one, t) refl

-- a word in a range from 1 on is in it as a natural number
word_reads : (most : ℕ) (t : List ℕ) → most ≤ 4294967295 → IsSignedIn (pos 1) (pos most) t → IsUnsignedIn 1 most t
word_reads most t small p = go (starts_with_minus t) refl
  where
    go : (b : Bool) → starts_with_minus t ≡ b → IsUnsignedIn 1 most t
    go true minus =
        let low = rw minus at p.2 in
        absurd (omega (arith, ints))
    go false minus = subst (IsUnsignedIn 1 most) (without_minus_is t minus) (unsigned_reads most t small p)

pub word_given : (most : ℕ) (w : Text) → most ≤ 4294967295 → IsSignedIn (pos 1) (pos most) w → is_some (number most w) ≡ true
word_given most w small p =
    let t : is_unsigned_in 1 most w ≡ true = Accepts-accepts false (Unsigned 1 most) w (word_reads most w small p) in
    rw t refl

-- a text with a number spells it
pub record IsSpelled (most : ℕ) (text : Text) : Type 0 where
  pub spells : IsUnsignedIn 1 most text
  pub is : number most text ≡ Some (digits_value 10 (without_leading_plus text))

pub spelled : (most : ℕ) (text : Text) → is_some (number most text) ≡ true → IsSpelled most text
spelled most text e = go (is_unsigned_in 1 most text) refl e
  where
    go : (b : Bool) → is_unsigned_in 1 most text ≡ b → is_some (if b then Some (digits_value 10 (without_leading_plus text)) else None) ≡ true → IsSpelled most text
    go true t e = record { spells = accepts-Accepts false (Unsigned 1 most) text t; is = rw t refl }
    go false t e = absurd (true≢false (sym e))

-- an argument with a number has a text that spells it
pub record IsNumber (most : ℕ) (id : Text) (rows : List Row) : Type 0 where
  pub text : Text
  pub one : one_of id rows ≡ Some text
  pub spells : IsUnsignedIn 1 most text
  pub is : number_in most id rows ≡ Some (digits_value 10 (without_leading_plus text))

pub number_is : (most : ℕ) (id : Text) (rows : List Row) → is_some (number_in most id rows) ≡ true → IsNumber most id rows
number_is most id rows e = go (one_of id rows) refl e
  where
    test : (text : Text) → one_of id rows ≡ Some text → (b : Bool) → is_unsigned_in 1 most text ≡ b
        → is_some (if b then Some (digits_value 10 (without_leading_plus text)) else None) ≡ true → IsNumber most id rows
    test text one true t e = record { text = text; one = one; spells = accepts-Accepts false (Unsigned 1 most) text t; is = rw (one, t) refl }
    test text one false t e = absurd (true≢false (sym e))

    go : (o : Option Text) → one_of id rows ≡ o → is_some (option_and_then (number most) o) ≡ true → IsNumber most id rows
    go None one e = absurd (true≢false (sym e))
    go (Some text) one e = test text one (is_unsigned_in 1 most text) refl e

-- a number that a text spells is in its range
pub spelled_ranged : (most : ℕ) (text : Text) (n : ℕ) → number most text ≡ Some n → (1 ≤ n) × (n ≤ most)
spelled_ranged most text n e =
    let is_text = spelled most text (ap is_some e) in
    let same : Some n ≡ Some (digits_value 10 (without_leading_plus text)) = sym e ∙ is_text.is in
    let is : n ≡ digits_value 10 (without_leading_plus text) = cc in
    (omega (arith, is, is_text.spells.2), omega (arith, is, is_text.spells.3))

-- a number that is given is in its range
pub number_ranged : (most : ℕ) (id : Text) (rows : List Row) (n : ℕ) → number_in most id rows ≡ Some n → (1 ≤ n) × (n ≤ most)
number_ranged most id rows n e =
    let number = number_is most id rows (ap is_some e) in
    let same : Some n ≡ Some (digits_value 10 (without_leading_plus number.text)) = sym e ∙ number.is in
    let is : n ≡ digits_value 10 (without_leading_plus number.text) = cc in
    (omega (arith, is, number.spells.2), omega (arith, is, number.spells.3))

-- ---- numbers of several words, of which some are read

-- the numbers that were found, and behind them those of the words that are left
abbrev pub Reads : ℕ → List (Bor Text) → List ℕ → ℕ → Type 0
Reads most words found i = option_map (λ rest. found ++ rest) (numbers most (texts (drop i words))) ≡ numbers most (texts words)

none_read : (most : ℕ) (words : List (Bor Text)) (o : Option (List ℕ)) → option_map (λ rest. [] ++ rest) o ≡ o
none_read most words None = refl
none_read most words (Some ns) = refl

pub reads_none : (most : ℕ) (words : List (Bor Text)) → Reads most words [] 0
reads_none most words = none_read most words (numbers most (texts words))

module _ (most : ℕ) (words : List (Bor Text)) (i : ℕ) (word : Bor Text) (found : List ℕ) (short : i < length words) (is : word ≡ get_or words i word) (so_far : Reads most words found i) where
  here : drop i words ≡ word ∷ drop (i + 1) words
  here =
      let next : suc i ≡ i + 1 = omega arith in
      drop-cons words i word short ∙ ap (λ y. y ∷ drop (suc i) words) (sym is) ∙ ap (λ j. word ∷ drop j words) next

  pub reads_number : is_some (numbers most (texts words)) ≡ true → is_some (number most word.now) ≡ true
  reads_number all =
      let left = map_some (λ rest. found ++ rest) (numbers most (texts (drop i words))) (ap is_some so_far ∙ all) in
      let these = subst (λ (ws : List (Bor Text)). is_some (numbers most (texts ws)) ≡ true) here left in
      (both_some (number most word.now) (numbers most (texts (drop (i + 1) words))) (map_some (λ p. p.0 ∷ p.1) (both (number most word.now) (numbers most (texts (drop (i + 1) words)))) these)).0

  pub reads_more : (n : ℕ) → number most word.now ≡ Some n → Reads most words (found ++ n ∷ []) (i + 1)
  reads_more n one =
      let left = numbers most (texts (drop (i + 1) words)) in
      behind left ∙ ap (λ (x : Option ℕ). option_map (λ rest. found ++ rest) (option_map (λ p. p.0 ∷ p.1) (both x left))) (sym one)
      ∙ ap (λ (ws : List (Bor Text)). option_map (λ rest. found ++ rest) (numbers most (texts ws))) (sym here) ∙ so_far
    where
      behind : (o : Option (List ℕ)) → option_map (λ rest. (found ++ n ∷ []) ++ rest) o ≡ option_map (λ rest. found ++ rest) (option_map (λ p. p.0 ∷ p.1) (both (Some n) o))
      behind None = refl
      behind (Some ns) = ap Some (append_assoc found (n ∷ []) ns)

pub reads_all : (most : ℕ) (words : List (Bor Text)) (i : ℕ) (found : List ℕ) → length words ≤ i → Reads most words found i → numbers most (texts words) ≡ Some found
reads_all most words i found past so_far =
    sym so_far ∙ ap (λ (ws : List (Bor Text)). option_map (λ rest. found ++ rest) (numbers most (texts ws))) (drop_all i words past) ∙ ap Some (append-nil found)
