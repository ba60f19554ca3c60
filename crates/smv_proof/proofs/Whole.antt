-- What is read of bytes is the proof that they spell.
use Rattle.std.proofs.Common.{◌≡◌, ◌∙◌, ℕ, zero, suc, ◌≤◌, List, [], ◌∷◌, ◌++◌, length, decimal, codes, take, drop, Some, None, Option, Bool, true, false, if◌then◌else◌, nat_eq, nat_le, refl, sym, ap, subst, arith, bytes_eq}
use Rattle.std.specs.List.{flat_map}
use Rattle.std.proofs.lemmas.Slice.Eq.{bytes_eq-Decides}
use Rattle.law_lists.proofs.Booleans.{and_both, left_of, right_of}
use Rattle.law_lists.proofs.Numbers.{nat_eq-is, nat_le-true, nat_le-is}
use Rattle.law_lists.proofs.Options.{some_is}
use Rattle.std.proofs.Math.Seq.{take-append_seam, drop-append_seam}
use Rattle.std.proofs.lemmas.List.{take-append-drop}
use Rattle.smv_proof.specs.declared.proof.KeptSet.{KeptSet}
use Rattle.smv_proof.specs.declared.proof.Proof.{Proof}
use Rattle.smv_proof.specs.Documents.{most, is_proof, line, set_lines, document, Spells}
use Rattle.smv_proof.specs.Readings.{pieces, number_of, Reading, sets_of, cut, with_sets, behind, with_length, length_in, behind_first, behind_none, proof_of}
use Rattle.smv_proof.proofs.Lists.{none_some}
use Rattle.smv_proof.proofs.Pieces.{joined_by, pieces_back, decimal_lacks, cut_is, cut_front, line_on, parts_cut, AreParts, parts_lack, number_is, number_back}
use Rattle.smv_proof.proofs.FromLines.{read_sets}
use Rattle.smv_proof.proofs.ToLines.{sets_back}

-- where something is left, so many were taken
taken : (n : ℕ) (xs : List ℕ) (y : ℕ) (ys : List ℕ) → drop n xs ≡ y ∷ ys → length (take n xs) ≡ n
taken zero xs y ys e = refl
taken (suc n) [] y ys e = let bad : ⊥ = cc (e) in absurd bad
taken (suc n) (x ∷ xs) y ys e = ap suc (taken n xs y ys e)

-- ---- what is read is spelled

nothing_read : Reading
nothing_read = record { sets = []; begun = None }

pub proof_is : (bytes : List ℕ) (proof : Proof) → proof_of bytes ≡ Some proof → Spells bytes proof
unfolding proof_of
proof_is bytes proof e = by_cut (cut 10 bytes) refl e
  where
    head : List ℕ
    head = codes "smv proof 1"

    by_sets : (n : ℕ) (rest design text : List ℕ) (o : Option (List KeptSet)) → n ≤ most → length design ≡ n → sets_of text ≡ o → with_sets design o ≡ Some proof →
        (is_proof proof ≡ true) × (line (codes "design" ∷ decimal n ∷ []) ++ (design ++ 10 ∷ text) ≡ line (codes "design" ∷ decimal (length proof.design) ∷ []) ++ (proof.design ++ 10 ∷ flat_map set_lines proof.sets))
    by_sets n rest design text None le len f e = none_some e
    by_sets n rest design text (Some sets) le len f e =
        let same : record { design = design; sets = sets } ≡ proof = some_is e in
        let read = read_sets (pieces 10 text) (record { sets = []; begun = None }) [] sets (record { sets = refl; is_open = tt; text_is = refl }) f in
        let back : n ≡ length design = sym len in
        let text_is : text ≡ flat_map set_lines sets = sym (pieces_back 10 text) ∙ sym read.1 in
        subst (λ (p : Proof). (is_proof p ≡ true) × (line (codes "design" ∷ decimal n ∷ []) ++ (design ++ 10 ∷ text) ≡ line (codes "design" ∷ decimal (length p.design) ∷ []) ++ (p.design ++ 10 ∷ flat_map set_lines p.sets))) same
        (and_both (nat_le-true (length design) most (omega (arith, len, le))) read.0, λ i. line (codes "design" ∷ decimal (back i) ∷ []) ++ (design ++ 10 ∷ text_is i))

    by_feed : (n : ℕ) (rest design : List ℕ) (b : ℕ) (text : List ℕ) (t : Bool) → n ≤ most → length design ≡ n → nat_eq b 10 ≡ t → (if t then with_sets design (sets_of text) else None) ≡ Some proof →
        (is_proof proof ≡ true) × (line (codes "design" ∷ decimal n ∷ []) ++ (design ++ b ∷ text) ≡ line (codes "design" ∷ decimal (length proof.design) ∷ []) ++ (proof.design ++ 10 ∷ flat_map set_lines proof.sets))
    by_feed n rest design b text true le len is e =
        let feed : 10 ≡ b = sym (nat_eq-is b 10 is) in
        subst (λ (c : ℕ). (is_proof proof ≡ true) × (line (codes "design" ∷ decimal n ∷ []) ++ (design ++ c ∷ text) ≡ line (codes "design" ∷ decimal (length proof.design) ∷ []) ++ (proof.design ++ 10 ∷ flat_map set_lines proof.sets))) feed
        (by_sets n rest design text (sets_of text) le len refl e)
    by_feed n rest design b text false le len is e = none_some e

    by_rest : (n : ℕ) (rest left : List ℕ) → n ≤ most → drop n rest ≡ left → behind (take n rest) left ≡ Some proof →
        (is_proof proof ≡ true) × (line (codes "design" ∷ decimal n ∷ []) ++ rest ≡ line (codes "design" ∷ decimal (length proof.design) ∷ []) ++ (proof.design ++ 10 ∷ flat_map set_lines proof.sets))
    by_rest n rest [] le d e = none_some e
    by_rest n rest (b ∷ text) le d e =
        let r = by_feed n rest (take n rest) b text (nat_eq b 10) le (taken n rest b text d) refl e in
        let whole : rest ≡ take n rest ++ b ∷ text = sym (take-append-drop n rest) ∙ ap (λ (xs : List ℕ). take n rest ++ xs) d in
        (r.0, ap (λ (xs : List ℕ). line (codes "design" ∷ decimal n ∷ []) ++ xs) whole ∙ r.1)

    -- the line of the design's length
    by_number : (word number rest : List ℕ) (o : Option ℕ) → word ≡ codes "design" → number_of number ≡ o → with_length o rest ≡ Some proof →
        (is_proof proof ≡ true) × (joined_by 32 (word ∷ number ∷ []) ++ 10 ∷ rest ≡ line (codes "design" ∷ decimal (length proof.design) ∷ []) ++ (proof.design ++ 10 ∷ flat_map set_lines proof.sets))
    by_number word number rest None w f e = none_some e
    by_number word number rest (Some n) w f e =
        let is = number_is number n f in
        let r = by_rest n rest (drop n rest) is.1 refl e in
        (r.0, (λ i. joined_by 32 (w i ∷ is.0 i ∷ []) ++ 10 ∷ rest) ∙ (sym (line_on (codes "design" ∷ decimal n ∷ []) rest) ∙ r.1))

    by_word : (word number rest : List ℕ) (t : Bool) → bytes_eq word (codes "design") ≡ t → with_length (if t then number_of number else None) rest ≡ Some proof →
        (is_proof proof ≡ true) × (joined_by 32 (word ∷ number ∷ []) ++ 10 ∷ rest ≡ line (codes "design" ∷ decimal (length proof.design) ∷ []) ++ (proof.design ++ 10 ∷ flat_map set_lines proof.sets))
    by_word word number rest true w e = by_number word number rest (number_of number) ((bytes_eq-Decides word (codes "design")).0 w) refl e
    by_word word number rest false w e = none_some e

    by_parts : (parts : List (List ℕ)) (rest : List ℕ) → with_length (length_in parts) rest ≡ Some proof →
        (is_proof proof ≡ true) × (joined_by 32 parts ++ 10 ∷ rest ≡ line (codes "design" ∷ decimal (length proof.design) ∷ []) ++ (proof.design ++ 10 ∷ flat_map set_lines proof.sets))
    by_parts (word ∷ number ∷ []) rest e = by_word word number rest (bytes_eq word (codes "design")) refl e
    by_parts [] rest e = none_some e
    by_parts (a ∷ []) rest e = none_some e
    by_parts (a ∷ b ∷ c ∷ parts) rest e = none_some e

    by_second : (rest : List ℕ) (o : Option (List ℕ × List ℕ)) → cut 10 rest ≡ o → behind_first o ≡ Some proof →
        (is_proof proof ≡ true) × (rest ≡ line (codes "design" ∷ decimal (length proof.design) ∷ []) ++ (proof.design ++ 10 ∷ flat_map set_lines proof.sets))
    by_second rest None f e = none_some e
    by_second rest (Some (second, more)) f e =
        let r = by_parts (pieces 32 second) more e in
        (r.0, cut_is 10 rest second more f ∙ (ap (λ (xs : List ℕ). xs ++ 10 ∷ more) (sym (pieces_back 32 second)) ∙ r.1))

    by_head : (first rest : List ℕ) (t : Bool) → cut 10 bytes ≡ Some (first, rest) → bytes_eq first (codes "smv proof 1") ≡ t → (if t then behind_first (cut 10 rest) else None) ≡ Some proof → Spells bytes proof
    by_head first rest true f is e =
        let r = by_second rest (cut 10 rest) refl e in
        let same : first ≡ codes "smv proof 1" = (bytes_eq-Decides first (codes "smv proof 1")).0 is in
        (r.0, cut_is 10 bytes first rest f ∙ ((λ i. same i ++ 10 ∷ r.1 i)))
    by_head first rest false f is e = none_some e

    by_cut : (o : Option (List ℕ × List ℕ)) → cut 10 bytes ≡ o → behind_none o ≡ Some proof → Spells bytes proof
    by_cut None f e = none_some e
    by_cut (Some (first, rest)) f e = by_head first rest (bytes_eq first (codes "smv proof 1")) f refl e

-- ---- what is spelled is read

pub proof_back : (proof : Proof) → is_proof proof ≡ true → proof_of (document proof) ≡ Some proof
unfolding proof_of
proof_back proof e =
    ap behind_none first_cut
    ∙ (ap behind_first second_cut
    ∙ (ap (λ (parts : List (List ℕ)). with_length (length_in parts) third) (parts_cut (codes "design") (decimal n ∷ []) second_are)
    ∙ (ap (λ (o : Option ℕ). with_length o third) (number_back n few)
    ∙ ((λ i. behind (take-append_seam proof.design (10 ∷ text) i) (drop-append_seam proof.design (10 ∷ text) i))
    ∙ ap (with_sets proof.design) (sets_back proof.sets [] (right_of (nat_le n most) _ e))))))
  where
    n : ℕ
    n = length proof.design

    text : List ℕ
    text = flat_map set_lines proof.sets

    third : List ℕ
    third = proof.design ++ 10 ∷ text

    second : List ℕ
    second = line (codes "design" ∷ decimal n ∷ []) ++ third

    few : n ≤ most
    few = nat_le-is n most (left_of (nat_le n most) _ e)

    first_cut : cut 10 (document proof) ≡ Some (joined_by 32 (codes "smv" ∷ codes "proof" ∷ codes "1" ∷ []), second)
    first_cut = ap (cut 10) (line_on (codes "smv" ∷ codes "proof" ∷ codes "1" ∷ []) second) ∙ cut_front 10 (joined_by 32 (codes "smv" ∷ codes "proof" ∷ codes "1" ∷ [])) second refl

    second_are : AreParts (codes "design" ∷ decimal n ∷ [])
    second_are = (refl, refl, (decimal_lacks 32 n (omega arith) few, decimal_lacks 10 n (omega arith) few, tt))

    second_cut : cut 10 second ≡ Some (joined_by 32 (codes "design" ∷ decimal n ∷ []), third)
    second_cut = ap (cut 10) (line_on (codes "design" ∷ decimal n ∷ []) third) ∙ cut_front 10 (joined_by 32 (codes "design" ∷ decimal n ∷ [])) third (parts_lack (codes "design" ∷ decimal n ∷ []) second_are)
