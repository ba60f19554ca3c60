-- What is read of bytes is the old document and the design that they hold.
use Rattle.std.proofs.Common.{◌≡◌, ◌∙◌, ℕ, zero, suc, ◌≤◌, List, [], ◌∷◌, ◌++◌, length, decimal, codes, take, drop, Some, None, Option, Bool, true, false, if◌then◌else◌, nat_eq, refl, sym, ap, subst, arith, bytes_eq, option_map, MatchOption, Bor}
use Rattle.std.proofs.lemmas.Slice.Eq.{bytes_eq-Decides}
use Rattle.std.proofs.Math.Seq.{take-append_seam, drop-append_seam}
use Rattle.std.proofs.lemmas.List.{take-append-drop}
use Rattle.law_lists.proofs.Numbers.{nat_eq-is}
use Rattle.law_lists.proofs.Options.{some_is}
use Rattle.smv_proof.specs.Documents.{most, line}
use Rattle.smv_proof.specs.Olds.{IsOld}
use Rattle.smv_proof.specs.Readings.{cut, number_of, pieces}
use Rattle.smv_proof.proofs.Lists.{none_some}
use Rattle.smv_proof.proofs.Pieces.{joined_by, pieces_back, decimal_lacks, cut_is, cut_front, line_on, parts_cut, AreParts, parts_lack, number_is, number_back, pieces_behind, pieces_uncut, some_pieces}
use Rattle.smv_proof_read.proofs.Parts.{blank_no_number}
use Rattle.smv_proof_read.specs.Olds.{parted, parted_at, old_length, behind_old, old_in}

-- where something is left, so many were taken
taken : (n : ℕ) (xs : List ℕ) (y : ℕ) (ys : List ℕ) → drop n xs ≡ y ∷ ys → length (take n xs) ≡ n
taken zero xs y ys e = refl
taken (suc n) [] y ys e = let bad : ⊥ = cc (e) in absurd bad
taken (suc n) (x ∷ xs) y ys e = ap suc (taken n xs y ys e)

-- ---- what is read is held

module _ (old text : List ℕ) where
  -- bytes behind a line of so many bytes
  abbrev Holds : ℕ → List ℕ → Type 0
  Holds n rest = (n ≡ length old) × (rest ≡ old ++ 10 ∷ text)

  by_feed : (n : ℕ) (front : List ℕ) (b : ℕ) (behind : List ℕ) (t : Bool) → length front ≡ n → nat_eq b 10 ≡ t → if◌then◌else◌ {A = Option (List ℕ × List ℕ)} t (Some (front, behind)) None ≡ Some (old, text) → Holds n (front ++ b ∷ behind)
  by_feed n front b behind true len is e =
      let same : (front, behind) ≡ (old, text) = some_is e in
      let fronts : front ≡ old = ap (λ (p : List ℕ × List ℕ). p.0) same in
      let texts : behind ≡ text = ap (λ (p : List ℕ × List ℕ). p.1) same in
      let feed : b ≡ 10 = nat_eq-is b 10 is in
      (sym len ∙ ap (λ (xs : List ℕ). length xs) fronts, λ i. fronts i ++ feed i ∷ texts i)
  by_feed n front b behind false len is e = none_some e

  by_rest : (n : ℕ) (rest left : List ℕ) → drop n rest ≡ left → parted (take n rest) left ≡ Some (old, text) → Holds n rest
  by_rest n rest [] d e = none_some e
  by_rest n rest (b ∷ behind) d e =
      let r = by_feed n (take n rest) b behind (nat_eq b 10) (taken n rest b behind d) refl e in
      let whole : rest ≡ take n rest ++ b ∷ behind = sym (take-append-drop n rest) ∙ ap (λ (xs : List ℕ). take n rest ++ xs) d in
      (r.0, whole ∙ r.1)

  abbrev Spelled : List ℕ → Type 0
  Spelled bytes = (length old ≤ most) × (bytes ≡ line (codes "old" ∷ decimal (length old) ∷ []) ++ (old ++ 10 ∷ text))

  by_number : (word number rest : List ℕ) (o : Option ℕ) → word ≡ codes "old" → number_of number ≡ o → parted_at o rest ≡ Some (old, text) → Spelled (joined_by 32 (word ∷ number ∷ []) ++ 10 ∷ rest)
  by_number word number rest None w f e = none_some e
  by_number word number rest (Some n) w f e =
      let is = number_is number n f in
      let le = is.1 in
      let r = by_rest n rest (drop n rest) refl e in
      let few : length old ≤ most = subst (λ (k : ℕ). k ≤ most) r.0 le in
      (few, (λ i. joined_by 32 (w i ∷ is.0 i ∷ []) ++ 10 ∷ r.1 i) ∙ (sym (line_on (codes "old" ∷ decimal n ∷ []) (old ++ 10 ∷ text)) ∙ ap (λ (k : ℕ). line (codes "old" ∷ decimal k ∷ []) ++ (old ++ 10 ∷ text)) r.0))

  by_word : (word number rest : List ℕ) (t : Bool) → bytes_eq word (codes "old") ≡ t → parted_at (if t then number_of number else None) rest ≡ Some (old, text) → Spelled (joined_by 32 (word ∷ number ∷ []) ++ 10 ∷ rest)
  by_word word number rest true w e = by_number word number rest (number_of number) ((bytes_eq-Decides word (codes "old")).0 w) refl e
  by_word word number rest false w e = none_some e

  by_parts : (parts : List (List ℕ)) (rest : List ℕ) → parted_at (old_length parts) rest ≡ Some (old, text) → Spelled (joined_by 32 parts ++ 10 ∷ rest)
  by_parts (word ∷ number ∷ []) rest e = by_word word number rest (bytes_eq word (codes "old")) refl e
  by_parts [] rest e = none_some e
  by_parts (a ∷ []) rest e = none_some e
  by_parts (a ∷ b ∷ c ∷ parts) rest e = none_some e

  by_cut : (bytes : List ℕ) (o : Option (List ℕ × List ℕ)) → cut 10 bytes ≡ o → behind_old o ≡ Some (old, text) → Spelled bytes
  by_cut bytes None f e = none_some e
  by_cut bytes (Some (front, rest)) f e =
      let r = by_parts (pieces 32 front) rest e in
      (r.0, cut_is 10 bytes front rest f ∙ (ap (λ (xs : List ℕ). xs ++ 10 ∷ rest) (sym (pieces_back 32 front)) ∙ r.1))

pub old_is : (bytes old text : List ℕ) → old_in bytes ≡ Some (old, text) → IsOld bytes old text
unfolding old_in
old_is bytes old text e = let r = by_cut old text bytes (cut 10 bytes) refl e in record { few = r.0; spelled = r.1 }

-- ---- what is held is read

pub old_back : (bytes old text : List ℕ) → IsOld bytes old text → old_in bytes ≡ Some (old, text)
unfolding old_in
old_back bytes old text is =
    ap (λ (xs : List ℕ). behind_old (cut 10 xs)) is.spelled
    ∙ (ap behind_old first_cut
    ∙ (ap (λ (parts : List (List ℕ)). parted_at (old_length parts) rest) (parts_cut (codes "old") (decimal n ∷ []) are)
    ∙ (ap (λ (o : Option ℕ). parted_at o rest) (number_back n few)
    ∙ (λ i. parted (take-append_seam old (10 ∷ text) i) (drop-append_seam old (10 ∷ text) i)))))
  where
    n : ℕ
    n = length old

    rest : List ℕ
    rest = old ++ 10 ∷ text

    few : n ≤ most
    few = is.few

    are : AreParts (codes "old" ∷ decimal n ∷ [])
    are = (refl, refl, (decimal_lacks 32 n (omega arith) few, decimal_lacks 10 n (omega arith) few, tt))

    first_cut : cut 10 (line (codes "old" ∷ decimal n ∷ []) ++ rest) ≡ Some (joined_by 32 (codes "old" ∷ decimal n ∷ []), rest)
    first_cut = ap (cut 10) (line_on (codes "old" ∷ decimal n ∷ []) rest) ∙ cut_front 10 (joined_by 32 (codes "old" ∷ decimal n ∷ [])) rest (parts_lack (codes "old" ∷ decimal n ∷ []) are)

-- ---- the line of the old document's length

pub old_length_one : (line : List ℕ) → cut 32 line ≡ None → old_length (pieces 32 line) ≡ None
old_length_one line e = ap old_length (pieces_uncut 32 line e)

old_length_is : (line word number : List ℕ) → cut 32 line ≡ Some (word, number) → old_length (pieces 32 line) ≡ (if bytes_eq word (codes "old") then number_of number else None)
old_length_is line word number e = ap old_length (pieces_behind 32 line word number e) ∙ by_cut (cut 32 number) refl
  where
    by_more : (front : List ℕ) (more : List (List ℕ)) → (p : List ℕ) × (ps : List (List ℕ)) × (more ≡ p ∷ ps) → old_length (word ∷ front ∷ more) ≡ None
    by_more front [] some = let bad : ⊥ = cc (some.2) in absurd bad
    by_more front (p ∷ ps) some = refl

    neither : (t : Bool) → number_of number ≡ None → None ≡ (if t then number_of number else None)
    neither true f = sym f
    neither false f = refl

    by_cut : (o : Option (List ℕ × List ℕ)) → cut 32 number ≡ o → old_length (word ∷ pieces 32 number) ≡ (if bytes_eq word (codes "old") then number_of number else None)
    by_cut None g = ap (λ (ps : List (List ℕ)). old_length (word ∷ ps)) (pieces_uncut 32 number g)
    by_cut (Some (front, more)) g =
        ap (λ (ps : List (List ℕ)). old_length (word ∷ ps)) (pieces_behind 32 number front more g)
        ∙ (by_more front (pieces 32 more) (some_pieces 32 more) ∙ neither (bytes_eq word (codes "old")) (blank_no_number number front more g))

pub old_length_other : (line word number : List ℕ) → cut 32 line ≡ Some (word, number) → bytes_eq word (codes "old") ≡ false → old_length (pieces 32 line) ≡ None
old_length_other line word number e f = old_length_is line word number e ∙ rw f refl

pub old_length_said : (line word number : List ℕ) → cut 32 line ≡ Some (word, number) → bytes_eq word (codes "old") ≡ true → old_length (pieces 32 line) ≡ number_of number
old_length_said line word number e f = old_length_is line word number e ∙ rw f refl

-- ---- the whole front

pub old_lacks : (bytes : List ℕ) → cut 10 bytes ≡ None → old_in bytes ≡ None
unfolding old_in
old_lacks bytes e = ap behind_old e

pub old_behind : (bytes line rest : List ℕ) (o : Option ℕ) → cut 10 bytes ≡ Some (line, rest) → old_length (pieces 32 line) ≡ o → old_in bytes ≡ parted_at o rest
unfolding old_in
old_behind bytes line rest o e f = ap behind_old e ∙ ap (λ (l : Option ℕ). parted_at l rest) f

pub old_answer : (bytes : List ℕ) (o : Option (Bor (List ℕ) × Bor (List ℕ))) → option_map (λ (parts : Bor (List ℕ) × Bor (List ℕ)). (parts.0.now, parts.1.now)) o ≡ old_in bytes
    → MatchOption o ((old : List ℕ) (text : List ℕ) → IsOld bytes old text → ⊥) (λ parts. IsOld bytes parts.0.now parts.1.now)
old_answer bytes None e = λ old text is. none_some (e ∙ old_back bytes old text is)
old_answer bytes (Some parts) e = old_is bytes parts.0.now parts.1.now (sym e)
