-- What stands before the sets of a document.
use Rattle.std.proofs.Common.{◌≡◌, ◌∙◌, ℕ, List, [], ◌∷◌, codes, Option, Some, None, Bool, true, false, if◌then◌else◌, refl, sym, ap, bytes_eq}
use Rattle.smv_proof.specs.declared.proof.KeptSet.{KeptSet}
use Rattle.smv_proof.specs.Documents.{Spells, SpellsNone}
use Rattle.smv_proof.specs.Readings.{pieces, cut, number_of, with_sets, with_length, length_in, behind_first, behind_none, proof_of}
use Rattle.smv_proof.proofs.Pieces.{pieces_behind, pieces_uncut, some_pieces}
use Rattle.smv_proof.proofs.Whole.{proof_is, proof_back}
use Rattle.smv_proof_read.proofs.Parts.{blank_no_number}

-- ---- the line of the design's length

pub length_one : (line : List ℕ) → cut 32 line ≡ None → length_in (pieces 32 line) ≡ None
length_one line e = ap length_in (pieces_uncut 32 line e)

pub length_is : (line word number : List ℕ) → cut 32 line ≡ Some (word, number) → length_in (pieces 32 line) ≡ (if bytes_eq word (codes "design") then number_of number else None)
length_is line word number e = ap length_in (pieces_behind 32 line word number e) ∙ by_cut (cut 32 number) refl
  where
    by_more : (front : List ℕ) (more : List (List ℕ)) → (p : List ℕ) × (ps : List (List ℕ)) × (more ≡ p ∷ ps) → length_in (word ∷ front ∷ more) ≡ None
    by_more front [] some = let bad : ⊥ = cc (some.2) in absurd bad
    by_more front (p ∷ ps) some = refl

    neither : (t : Bool) → number_of number ≡ None → None ≡ (if t then number_of number else None)
    neither true f = sym f
    neither false f = refl

    by_cut : (o : Option (List ℕ × List ℕ)) → cut 32 number ≡ o → length_in (word ∷ pieces 32 number) ≡ (if bytes_eq word (codes "design") then number_of number else None)
    by_cut None g = ap (λ (ps : List (List ℕ)). length_in (word ∷ ps)) (pieces_uncut 32 number g)
    by_cut (Some (front, more)) g =
        ap (λ (ps : List (List ℕ)). length_in (word ∷ ps)) (pieces_behind 32 number front more g)
        ∙ (by_more front (pieces 32 more) (some_pieces 32 more) ∙ neither (bytes_eq word (codes "design")) (blank_no_number number front more g))

pub length_other : (line word number : List ℕ) → cut 32 line ≡ Some (word, number) → bytes_eq word (codes "design") ≡ false → length_in (pieces 32 line) ≡ None
length_other line word number e f = length_is line word number e ∙ rw f refl

pub length_said : (line word number : List ℕ) → cut 32 line ≡ Some (word, number) → bytes_eq word (codes "design") ≡ true → length_in (pieces 32 line) ≡ number_of number
length_said line word number e f = length_is line word number e ∙ rw f refl

-- ---- the whole front

pub title_lacks : (bytes : List ℕ) → cut 10 bytes ≡ None → proof_of bytes ≡ None
unfolding proof_of
title_lacks bytes e = ap behind_none e

pub title_other : (bytes title rest : List ℕ) → cut 10 bytes ≡ Some (title, rest) → bytes_eq title (codes "smv proof 1") ≡ false → proof_of bytes ≡ None
unfolding proof_of
title_other bytes title rest e f = ap behind_none e ∙ rw f refl

pub title_is : (bytes title rest : List ℕ) → cut 10 bytes ≡ Some (title, rest) → bytes_eq title (codes "smv proof 1") ≡ true → proof_of bytes ≡ behind_first (cut 10 rest)
unfolding proof_of
title_is bytes title rest e f = ap behind_none e ∙ rw f refl

pub first_is : (rest line more : List ℕ) (o : Option ℕ) → cut 10 rest ≡ Some (line, more) → length_in (pieces 32 line) ≡ o → behind_first (cut 10 rest) ≡ with_length o more
first_is rest line more o e f = ap behind_first e ∙ ap (λ (l : Option ℕ). with_length l more) f

-- no second line, and no length in it
pub second_lacks : (rest : List ℕ) → cut 10 rest ≡ None → behind_first (cut 10 rest) ≡ None
second_lacks rest e = ap behind_first e

-- ---- what is read is spelled

pub none_spelled : (bytes : List ℕ) → proof_of bytes ≡ None → SpellsNone bytes
none_spelled bytes none proof (is, e) = let there : proof_of bytes ≡ Some proof = ap proof_of e ∙ proof_back proof is in cc (none, there)

pub spelled : (bytes design given : List ℕ) (sets put : List KeptSet) → proof_of bytes ≡ with_sets design (Some sets) → given ≡ design → put ≡ sets → Spells bytes (record { design = given; sets = put })
spelled bytes design given sets put e f g = proof_is bytes (record { design = given; sets = put }) (e ∙ λ i. with_sets (sym f i) (Some (sym g i)))
