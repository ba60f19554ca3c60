-- Pieces between bytes, lines of parts, and numerals.
use Rattle.std.proofs.Common.{◌≡◌, ◌∙◌, ℕ, ◌+◌, ◌-◌, ◌*◌, ◌<◌, ◌≤◌, List, [], ◌∷◌, ◌++◌, decimal, Some, None, Option, Bool, true, false, ◌&&◌, not, if◌then◌else◌, nat_eq, nat_le, refl, sym, ap, subst, arith, append_assoc, bytes_eq}
use Rattle.std.specs.List.{list_all}
use Rattle.std.specs.Str.Parse.{AllDigits, digits_value_after}
use Rattle.std.specs.Char.{digit_value}
use Rattle.std.proofs.lemmas.Fmt.{decimal_is_IsNumeral}
use Rattle.std.proofs.lemmas.Str.{digit_value_digit}
use Rattle.std.proofs.lemmas.Str.Parse.{digit_from_value}
use Rattle.std.proofs.lemmas.Slice.Eq.{bytes_eq-Decides}
use Rattle.law_lists.proofs.Booleans.{and_both, left_of, right_of}
use Rattle.law_lists.proofs.Numbers.{nat_eq-is, nat_le-true, nat_le-is, nat_eq-same}
use Rattle.law_lists.proofs.Options.{some_is}
use Rattle.smv_proof.specs.Documents.{most, line}
use Rattle.smv_proof.specs.Readings.{led, pieces, with_front, cut, value_from, in_range, number_of}
use Rattle.smv_proof.proofs.Lists.{none_some}

-- pieces with a byte between them
abbrev pub joined_by : ℕ → List (List ℕ) → List ℕ
joined_by at [] = []
joined_by at (piece ∷ []) = piece
joined_by at (piece ∷ other ∷ more) = piece ++ at ∷ joined_by at (other ∷ more)

pub some_pieces : (at : ℕ) (bytes : List ℕ) → (piece : List ℕ) × (more : List (List ℕ)) × (pieces at bytes ≡ piece ∷ more)
some_pieces at [] = ([], [], refl)
some_pieces at (b ∷ bytes) = by_test (nat_eq b at) (pieces at bytes)
  where
    by_test : (t : Bool) (ps : List (List ℕ)) → (piece : List ℕ) × (more : List (List ℕ)) × ((if t then [] ∷ ps else led b ps) ≡ piece ∷ more)
    by_test true ps = ([], ps, refl)
    by_test false [] = (b ∷ [], [], refl)
    by_test false (p ∷ ps) = (b ∷ p, ps, refl)

joined_led : (at b : ℕ) (ps : List (List ℕ)) → joined_by at (led b ps) ≡ b ∷ joined_by at ps
joined_led at b [] = refl
joined_led at b (p ∷ []) = refl
joined_led at b (p ∷ q ∷ ps) = refl

pub pieces_back : (at : ℕ) (bytes : List ℕ) → joined_by at (pieces at bytes) ≡ bytes
pieces_back at [] = refl
pieces_back at (b ∷ bytes) = by_test (nat_eq b at) refl (pieces at bytes) (some_pieces at bytes) (pieces_back at bytes)
  where
    by_test : (t : Bool) → nat_eq b at ≡ t → (ps : List (List ℕ)) → (piece : List ℕ) × (more : List (List ℕ)) × (ps ≡ piece ∷ more) → joined_by at ps ≡ bytes → joined_by at (if t then [] ∷ ps else led b ps) ≡ b ∷ bytes
    by_test true e [] some back = let bad : ⊥ = cc (some.2) in absurd bad
    by_test true e (p ∷ ps) some back = let same : at ≡ b = sym (nat_eq-is b at e) in λ i. same i ∷ back i
    by_test false e ps some back = joined_led at b ps ∙ ap (λ (xs : List ℕ). b ∷ xs) back

-- bytes that are not there
abbrev pub lacks : ℕ → List ℕ → Bool
lacks at bytes = list_all (λ b. not (nat_eq b at)) bytes

not_true : (t : Bool) → not t ≡ true → t ≡ false
not_true true e = sym e
not_true false e = refl

pub pieces_whole : (at : ℕ) (bytes : List ℕ) → lacks at bytes ≡ true → pieces at bytes ≡ bytes ∷ []
pieces_whole at [] e = refl
pieces_whole at (b ∷ bytes) e =
    let other = not_true (nat_eq b at) (left_of (not (nat_eq b at)) _ e) in
    let rest = pieces_whole at bytes (right_of (not (nat_eq b at)) _ e) in
    rw other (rw rest refl)

pub pieces_cut : (at : ℕ) (front rest : List ℕ) → lacks at front ≡ true → pieces at (front ++ at ∷ rest) ≡ front ∷ pieces at rest
pieces_cut at [] rest e = rw (nat_eq-same at at refl) refl
pieces_cut at (b ∷ front) rest e =
    let other = not_true (nat_eq b at) (left_of (not (nat_eq b at)) _ e) in
    let more = pieces_cut at front rest (right_of (not (nat_eq b at)) _ e) in
    rw other (rw more refl)

pub lacks_more : (at : ℕ) (xs ys : List ℕ) → lacks at xs ≡ true → lacks at ys ≡ true → lacks at (xs ++ ys) ≡ true
lacks_more at [] ys e f = f
lacks_more at (x ∷ xs) ys e f = and_both (left_of (not (nat_eq x at)) _ e) (lacks_more at xs ys (right_of (not (nat_eq x at)) _ e) f)

-- ---- what stands before a byte, and behind it

pub cut_is : (at : ℕ) (bytes front rest : List ℕ) → cut at bytes ≡ Some (front, rest) → bytes ≡ front ++ at ∷ rest
cut_is at [] front rest e = none_some e
cut_is at (b ∷ bytes) front rest e = by_test (nat_eq b at) refl e (λ f r g. cut_is at bytes f r g)
  where
    pair_is : (p q : List ℕ × List ℕ) → Some p ≡ Some q → p ≡ q
    pair_is p q e = some_is e

    by_rest : (o : Option (List ℕ × List ℕ)) → cut at bytes ≡ o → with_front b o ≡ Some (front, rest) → ((f r : List ℕ) → cut at bytes ≡ Some (f, r) → bytes ≡ f ++ at ∷ r) → b ∷ bytes ≡ front ++ at ∷ rest
    by_rest None g e goes = none_some e
    by_rest (Some (f, r)) g e goes =
        let same = pair_is (b ∷ f, r) (front, rest) e in
        let fronts : b ∷ f ≡ front = ap (λ (p : List ℕ × List ℕ). p.0) same in
        let rests : r ≡ rest = ap (λ (p : List ℕ × List ℕ). p.1) same in
        ap (λ (xs : List ℕ). b ∷ xs) (goes f r g) ∙ λ i. fronts i ++ at ∷ rests i

    by_test : (t : Bool) → nat_eq b at ≡ t → (if t then Some ([], bytes) else with_front b (cut at bytes)) ≡ Some (front, rest) → ((f r : List ℕ) → cut at bytes ≡ Some (f, r) → bytes ≡ f ++ at ∷ r) → b ∷ bytes ≡ front ++ at ∷ rest
    by_test true is e goes =
        let same = pair_is ([], bytes) (front, rest) e in
        let fronts : [] ≡ front = ap (λ (p : List ℕ × List ℕ). p.0) same in
        let rests : bytes ≡ rest = ap (λ (p : List ℕ × List ℕ). p.1) same in
        let feed : b ≡ at = nat_eq-is b at is in
        λ i. fronts i ++ feed i ∷ rests i
    by_test false is e goes = by_rest (cut at bytes) refl e goes

pub cut_front : (at : ℕ) (front rest : List ℕ) → lacks at front ≡ true → cut at (front ++ at ∷ rest) ≡ Some (front, rest)
cut_front at [] rest e = rw (nat_eq-same at at refl) refl
cut_front at (b ∷ front) rest e = by_test (nat_eq b at) refl (cut_front at front rest (right_of (not (nat_eq b at)) _ e))
  where
    by_test : (t : Bool) → nat_eq b at ≡ t → cut at (front ++ at ∷ rest) ≡ Some (front, rest) → (if t then Some ([], front ++ at ∷ rest) else with_front b (cut at (front ++ at ∷ rest))) ≡ Some (b ∷ front, rest)
    by_test true is more =
        let there : not true ≡ true = subst (λ (t : Bool). not t ≡ true) is (left_of (not (nat_eq b at)) _ e) in
        let bad : ⊥ = cc (there) in
        absurd bad
    by_test false is more = ap (with_front b) more

-- the pieces, by the first cut
pub pieces_behind : (at : ℕ) (bytes front rest : List ℕ) → cut at bytes ≡ Some (front, rest) → pieces at bytes ≡ front ∷ pieces at rest
pieces_behind at [] front rest e = none_some e
pieces_behind at (b ∷ bytes) front rest e = by_test (nat_eq b at) e (λ f r g. pieces_behind at bytes f r g)
  where
    pair_is : (p q : List ℕ × List ℕ) → Some p ≡ Some q → p ≡ q
    pair_is p q e = some_is e

    by_rest : (o : Option (List ℕ × List ℕ)) → cut at bytes ≡ o → with_front b o ≡ Some (front, rest) → ((f r : List ℕ) → cut at bytes ≡ Some (f, r) → pieces at bytes ≡ f ∷ pieces at r) → led b (pieces at bytes) ≡ front ∷ pieces at rest
    by_rest None g e goes = none_some e
    by_rest (Some (f, r)) g e goes =
        let same = pair_is (b ∷ f, r) (front, rest) e in
        ap (led b) (goes f r g) ∙ λ i. (same i).0 ∷ pieces at (same i).1

    by_test : (t : Bool) → (if t then Some ([], bytes) else with_front b (cut at bytes)) ≡ Some (front, rest) → ((f r : List ℕ) → cut at bytes ≡ Some (f, r) → pieces at bytes ≡ f ∷ pieces at r) →
        (if t then [] ∷ pieces at bytes else led b (pieces at bytes)) ≡ front ∷ pieces at rest
    by_test true e goes = let same = pair_is ([], bytes) (front, rest) e in λ i. (same i).0 ∷ pieces at (same i).1
    by_test false e goes = by_rest (cut at bytes) refl e goes

pub pieces_uncut : (at : ℕ) (bytes : List ℕ) → cut at bytes ≡ None → pieces at bytes ≡ bytes ∷ []
pieces_uncut at [] e = refl
pieces_uncut at (b ∷ bytes) e = by_test (nat_eq b at) e (λ g. pieces_uncut at bytes g)
  where
    by_rest : (o : Option (List ℕ × List ℕ)) → cut at bytes ≡ o → with_front b o ≡ None → (cut at bytes ≡ None → pieces at bytes ≡ bytes ∷ []) → led b (pieces at bytes) ≡ (b ∷ bytes) ∷ []
    by_rest None g e goes = ap (led b) (goes g)
    by_rest (Some (f, r)) g e goes = none_some (sym e)

    by_test : (t : Bool) → (if t then Some ([], bytes) else with_front b (cut at bytes)) ≡ None → (cut at bytes ≡ None → pieces at bytes ≡ bytes ∷ []) → (if t then [] ∷ pieces at bytes else led b (pieces at bytes)) ≡ (b ∷ bytes) ∷ []
    by_test true e goes = none_some (sym e)
    by_test false e goes = by_rest (cut at bytes) refl e goes

-- where the byte is not there, there is no cut
pub cut_none : (at : ℕ) (bytes : List ℕ) → lacks at bytes ≡ true → cut at bytes ≡ None
cut_none at [] e = refl
cut_none at (b ∷ bytes) e = rw (not_true (nat_eq b at) (left_of (not (nat_eq b at)) _ e), cut_none at bytes (right_of (not (nat_eq b at)) _ e)) refl

-- parts of a line have neither blanks nor line feeds
abbrev pub AreParts : List (List ℕ) → Type 0
AreParts [] = Unit {0}
AreParts (part ∷ parts) = (lacks 32 part ≡ true) × (lacks 10 part ≡ true) × AreParts parts

pub line_is : (parts : List (List ℕ)) → line parts ≡ joined_by 32 parts ++ 10 ∷ []
line_is [] = refl
line_is (part ∷ []) = refl
line_is (part ∷ other ∷ parts) = ap (λ (xs : List ℕ). part ++ 32 ∷ xs) (line_is (other ∷ parts)) ∙ sym (append_assoc part (32 ∷ joined_by 32 (other ∷ parts)) (10 ∷ []))

pub line_on : (parts : List (List ℕ)) (rest : List ℕ) → line parts ++ rest ≡ joined_by 32 parts ++ 10 ∷ rest
line_on parts rest = ap (λ (xs : List ℕ). xs ++ rest) (line_is parts) ∙ append_assoc (joined_by 32 parts) (10 ∷ []) rest

pub parts_lack : (parts : List (List ℕ)) → AreParts parts → lacks 10 (joined_by 32 parts) ≡ true
parts_lack [] are = refl
parts_lack (part ∷ []) are = are.1
parts_lack (part ∷ other ∷ parts) are = lacks_more 10 part (32 ∷ joined_by 32 (other ∷ parts)) are.1 (parts_lack (other ∷ parts) are.2)

pub parts_cut : (part : List ℕ) (parts : List (List ℕ)) → AreParts (part ∷ parts) → pieces 32 (joined_by 32 (part ∷ parts)) ≡ part ∷ parts
parts_cut part [] are = pieces_whole 32 part are.0
parts_cut part (other ∷ parts) are = pieces_cut 32 part (joined_by 32 (other ∷ parts)) are.0 ∙ ap (λ (ps : List (List ℕ)). part ∷ ps) (parts_cut other parts are.2)

-- ---- numerals

digit_lacks : (at : ℕ) (d : ℕ) → (digit_value d < 10) → at < 48 → not (nat_eq d at) ≡ true
digit_lacks at d lt small =
    let range = digit_from_value d lt in
    let ne : nat_eq d at ≡ false = grind (arith, range, small) in
    rw ne refl

digits_lack : (at : ℕ) (ds : List ℕ) → at < 48 → AllDigits 10 ds → lacks at ds ≡ true
digits_lack at [] small are = refl
digits_lack at (d ∷ ds) small are = and_both (digit_lacks at d are.0 small) (digits_lack at ds small are.1)

pub decimal_lacks : (at n : ℕ) → at < 48 → n ≤ most → lacks at (decimal n) ≡ true
decimal_lacks at n small le = digits_lack at (decimal n) small (decimal_is_IsNumeral n (omega (arith, le))).0.1

value_of_digits : (m : ℕ) (ds : List ℕ) → AllDigits 10 ds → value_from m ds ≡ Some (digits_value_after 10 m ds)
value_of_digits m [] are = refl
value_of_digits m (d ∷ ds) are =
    let range = digit_from_value d are.0 in
    let value = digit_value_digit d range in
    let low : nat_le 48 d ≡ true = nat_le-true 48 d (omega (arith, range)) in
    let high : nat_le d 57 ≡ true = nat_le-true d 57 (omega (arith, range)) in
    let same : m * 10 + (d - 48) ≡ m * 10 + digit_value d = omega (arith, value) in
    rw low (rw high (ap (λ (k : ℕ). value_from k ds) same ∙ value_of_digits (m * 10 + digit_value d) ds are.1))

pub number_back : (n : ℕ) → n ≤ most → number_of (decimal n) ≡ Some n
number_back n le =
    let numeral = decimal_is_IsNumeral n (omega (arith, le)) in
    let value : value_from 0 (decimal n) ≡ Some n = value_of_digits 0 (decimal n) numeral.0.1 ∙ ap Some numeral.1 in
    ap (in_range (decimal n)) value ∙ rw (nat_le-true n most le) (rw ((bytes_eq-Decides (decimal n) (decimal n)).1 refl) refl)

pub number_is : (piece : List ℕ) (n : ℕ) → number_of piece ≡ Some n → (piece ≡ decimal n) × (n ≤ most)
number_is piece n e = by_value (value_from 0 piece) e
  where
    by_test : (k : ℕ) (t : Bool) → (nat_le k most && bytes_eq (decimal k) piece) ≡ t → (if t then Some k else None) ≡ Some n → (piece ≡ decimal n) × (n ≤ most)
    by_test k true t e =
        let same : k ≡ n = some_is e in
        subst (λ (m : ℕ). (piece ≡ decimal m) × (m ≤ most)) same (sym ((bytes_eq-Decides (decimal k) piece).0 (right_of (nat_le k most) _ t)), nat_le-is k most (left_of (nat_le k most) _ t))
    by_test k false t e = none_some e

    by_value : (o : Option ℕ) → in_range piece o ≡ Some n → (piece ≡ decimal n) × (n ≤ most)
    by_value None e = none_some e
    by_value (Some k) e = by_test k (nat_le k most && bytes_eq (decimal k) piece) refl e
