-- Lines by their parts, cut one after another.
use Rattle.std.proofs.Common.{◌≡◌, ◌∙◌, ℕ, ◌+◌, ◌<◌, ◌%◌, List, [], ◌∷◌, codes, Option, Some, None, Bool, true, false, ◌&&◌, if◌then◌else◌, nat_le, nat_lt, nat_eq, refl, sym, ap, arith, bytes_eq}
use Rattle.smv_proof.specs.declared.proof.Node.{Node}
use Rattle.smv_proof.specs.Documents.{is_name}
use Rattle.smv_proof.specs.Readings.{pieces, cut, number_of, node_with, node_of, Begun, begun_with, begun_by}
use Rattle.smv_proof.proofs.Pieces.{pieces_behind, pieces_uncut, cut_none, some_pieces, number_is, decimal_lacks, lacks}

-- what has a blank is no number
pub blank_no_number : (piece front rest : List ℕ) → cut 32 piece ≡ Some (front, rest) → number_of piece ≡ None
blank_no_number piece front rest e = by_number (number_of piece) refl
  where
    by_number : (o : Option ℕ) → number_of piece ≡ o → number_of piece ≡ None
    by_number None f = f
    by_number (Some n) f =
        let is = number_is piece n f in
        let lacking : lacks 32 piece ≡ true = ap (lacks 32) is.0 ∙ decimal_lacks 32 n (omega arith) is.1 in
        let bad : ⊥ = cc (e, cut_none 32 piece lacking) in
        absurd bad

-- ---- a line of a set

no_high : (earlier : List Node) (v l : Option ℕ) → node_with earlier v l None ≡ None
no_high earlier (Some v) (Some l) = refl
no_high earlier (Some v) None = refl
no_high earlier None l = refl

pub node_is : (earlier : List Node) (line var rest low high : List ℕ) → cut 32 line ≡ Some (var, rest) → cut 32 rest ≡ Some (low, high) →
    node_of earlier (pieces 32 line) ≡ node_with earlier (number_of var) (number_of low) (number_of high)
node_is earlier line var rest low high e f =
    ap (node_of earlier) (pieces_behind 32 line var rest e ∙ ap (λ (ps : List (List ℕ)). var ∷ ps) (pieces_behind 32 rest low high f)) ∙ by_cut (cut 32 high) refl
  where
    by_more : (front : List ℕ) (more : List (List ℕ)) → (p : List ℕ) × (ps : List (List ℕ)) × (more ≡ p ∷ ps) → node_of earlier (var ∷ low ∷ front ∷ more) ≡ None
    by_more front [] some = let bad : ⊥ = cc (some.2) in absurd bad
    by_more front (p ∷ ps) some = refl

    by_cut : (o : Option (List ℕ × List ℕ)) → cut 32 high ≡ o → node_of earlier (var ∷ low ∷ pieces 32 high) ≡ node_with earlier (number_of var) (number_of low) (number_of high)
    by_cut None g = ap (λ (ps : List (List ℕ)). node_of earlier (var ∷ low ∷ ps)) (pieces_uncut 32 high g)
    by_cut (Some (front, more)) g =
        ap (λ (ps : List (List ℕ)). node_of earlier (var ∷ low ∷ ps)) (pieces_behind 32 high front more g)
        ∙ (by_more front (pieces 32 more) (some_pieces 32 more)
        ∙ sym (ap (node_with earlier (number_of var) (number_of low)) (blank_no_number high front more g) ∙ no_high earlier (number_of var) (number_of low)))

pub node_one : (earlier : List Node) (line : List ℕ) → cut 32 line ≡ None → node_of earlier (pieces 32 line) ≡ None
node_one earlier line e = ap (node_of earlier) (pieces_uncut 32 line e)

pub node_two : (earlier : List Node) (line var rest : List ℕ) → cut 32 line ≡ Some (var, rest) → cut 32 rest ≡ None → node_of earlier (pieces 32 line) ≡ None
node_two earlier line var rest e f = ap (node_of earlier) (pieces_behind 32 line var rest e ∙ ap (λ (ps : List (List ℕ)). var ∷ ps) (pieces_uncut 32 rest f))

-- where a part is no number
pub node_no_var : (earlier : List Node) (l h : Option ℕ) → node_with earlier None l h ≡ None
node_no_var earlier l h = refl

pub node_no_low : (earlier : List Node) (v h : Option ℕ) → node_with earlier v None h ≡ None
node_no_low earlier (Some v) h = refl
node_no_low earlier None h = refl

pub node_no_high : (earlier : List Node) (v l : Option ℕ) → node_with earlier v l None ≡ None
node_no_high earlier v l = no_high earlier v l

-- or the variable is too great
pub node_far : (earlier : List Node) (v l h : ℕ) → 65535 < v → node_with earlier (Some v) (Some l) (Some h) ≡ None
node_far earlier v l h lt = by_tests (nat_eq (v % 2) 0) (nat_le v 2046) far _
  where
    far : nat_le v 2046 ≡ false
    far = grind (arith, lt)

    by_tests : (s t : Bool) → t ≡ false → (u : Bool) → (let node : Node = record { var = v; low = l; high = h } in if s && (t && u) then Some node else None) ≡ None
    by_tests true true f u = absurd (cc (f))
    by_tests true false f u = refl
    by_tests false t f u = refl

-- where each is a number
pub node_all : (earlier : List Node) (var low high : List ℕ) (v l h : ℕ) → number_of var ≡ Some v → number_of low ≡ Some l → number_of high ≡ Some h →
    node_with earlier (number_of var) (number_of low) (number_of high) ≡ node_with earlier (Some v) (Some l) (Some h)
node_all earlier var low high v l h e f g = λ i. node_with earlier (e i) (f i) (g i)

-- ---- the first line of a set

abbrev pub head_with : List ℕ → List ℕ → List ℕ → List ℕ → List ℕ → Option Begun
head_with word unit number root count = if bytes_eq word (codes "set") then begun_with unit (number_of number) (number_of root) (number_of count) else None

no_count : (unit : List ℕ) (n r : Option ℕ) → begun_with unit n r None ≡ None
no_count unit (Some n) (Some r) = refl
no_count unit (Some n) None = refl
no_count unit None r = refl

neither : (t : Bool) (o : Option Begun) → o ≡ None → (if t then o else None) ≡ None
neither true o e = e
neither false o e = refl

-- four cuts
pub record AreCuts (line word rest1 unit rest2 number rest3 root count : List ℕ) : Type 0 where
  pub first : cut 32 line ≡ Some (word, rest1)
  pub second : cut 32 rest1 ≡ Some (unit, rest2)
  pub third : cut 32 rest2 ≡ Some (number, rest3)
  pub fourth : cut 32 rest3 ≡ Some (root, count)

pub head_is : (line word rest1 unit rest2 number rest3 root count : List ℕ) → AreCuts line word rest1 unit rest2 number rest3 root count → begun_by (pieces 32 line) ≡ head_with word unit number root count
head_is line word rest1 unit rest2 number rest3 root count are =
    ap begun_by (pieces_behind 32 line word rest1 are.first ∙ ap (λ (ps : List (List ℕ)). word ∷ ps) (pieces_behind 32 rest1 unit rest2 are.second
    ∙ ap (λ (ps : List (List ℕ)). unit ∷ ps) (pieces_behind 32 rest2 number rest3 are.third ∙ ap (λ (ps : List (List ℕ)). number ∷ ps) (pieces_behind 32 rest3 root count are.fourth))))
    ∙ by_cut (cut 32 count) refl
  where
    by_more : (front : List ℕ) (more : List (List ℕ)) → (p : List ℕ) × (ps : List (List ℕ)) × (more ≡ p ∷ ps) → begun_by (word ∷ unit ∷ number ∷ root ∷ front ∷ more) ≡ None
    by_more front [] some = let bad : ⊥ = cc (some.2) in absurd bad
    by_more front (p ∷ ps) some = refl

    by_cut : (o : Option (List ℕ × List ℕ)) → cut 32 count ≡ o → begun_by (word ∷ unit ∷ number ∷ root ∷ pieces 32 count) ≡ head_with word unit number root count
    by_cut None g = ap (λ (ps : List (List ℕ)). begun_by (word ∷ unit ∷ number ∷ root ∷ ps)) (pieces_uncut 32 count g)
    by_cut (Some (front, more)) g =
        ap (λ (ps : List (List ℕ)). begun_by (word ∷ unit ∷ number ∷ root ∷ ps)) (pieces_behind 32 count front more g)
        ∙ (by_more front (pieces 32 more) (some_pieces 32 more)
        ∙ sym (neither (bytes_eq word (codes "set")) (begun_with unit (number_of number) (number_of root) (number_of count))
        (ap (begun_with unit (number_of number) (number_of root)) (blank_no_number count front more g) ∙ no_count unit (number_of number) (number_of root))))

-- fewer cuts
pub head_one : (line : List ℕ) → cut 32 line ≡ None → begun_by (pieces 32 line) ≡ None
head_one line e = ap begun_by (pieces_uncut 32 line e)

pub head_two : (line word rest1 : List ℕ) → cut 32 line ≡ Some (word, rest1) → cut 32 rest1 ≡ None → begun_by (pieces 32 line) ≡ None
head_two line word rest1 e f = ap begun_by (pieces_behind 32 line word rest1 e ∙ ap (λ (ps : List (List ℕ)). word ∷ ps) (pieces_uncut 32 rest1 f))

pub head_three : (line word rest1 unit rest2 : List ℕ) → cut 32 line ≡ Some (word, rest1) → cut 32 rest1 ≡ Some (unit, rest2) → cut 32 rest2 ≡ None → begun_by (pieces 32 line) ≡ None
head_three line word rest1 unit rest2 e f g =
    ap begun_by (pieces_behind 32 line word rest1 e ∙ ap (λ (ps : List (List ℕ)). word ∷ ps) (pieces_behind 32 rest1 unit rest2 f ∙ ap (λ (ps : List (List ℕ)). unit ∷ ps) (pieces_uncut 32 rest2 g)))

pub head_four : (line word rest1 unit rest2 number rest3 : List ℕ) → cut 32 line ≡ Some (word, rest1) → cut 32 rest1 ≡ Some (unit, rest2) → cut 32 rest2 ≡ Some (number, rest3) → cut 32 rest3 ≡ None → begun_by (pieces 32 line) ≡ None
head_four line word rest1 unit rest2 number rest3 e f g h =
    ap begun_by (pieces_behind 32 line word rest1 e ∙ ap (λ (ps : List (List ℕ)). word ∷ ps) (pieces_behind 32 rest1 unit rest2 f
    ∙ ap (λ (ps : List (List ℕ)). unit ∷ ps) (pieces_behind 32 rest2 number rest3 g ∙ ap (λ (ps : List (List ℕ)). number ∷ ps) (pieces_uncut 32 rest3 h))))

-- the word, a part that is no number, and the rules of a name and a root
pub head_word : (word unit number root count : List ℕ) → bytes_eq word (codes "set") ≡ false → head_with word unit number root count ≡ None
head_word word unit number root count e = rw e refl

pub head_no_number : (word unit number root count : List ℕ) → number_of number ≡ None → head_with word unit number root count ≡ None
head_no_number word unit number root count e = neither (bytes_eq word (codes "set")) (begun_with unit (number_of number) (number_of root) (number_of count)) (ap (λ (n : Option ℕ). begun_with unit n (number_of root) (number_of count)) e)

pub head_no_root : (word unit number root count : List ℕ) → number_of root ≡ None → head_with word unit number root count ≡ None
head_no_root word unit number root count e =
    neither (bytes_eq word (codes "set")) (begun_with unit (number_of number) (number_of root) (number_of count)) (ap (λ (r : Option ℕ). begun_with unit (number_of number) r (number_of count)) e ∙ none (number_of number) (number_of count))
  where
    none : (n k : Option ℕ) → begun_with unit n None k ≡ None
    none (Some n) k = refl
    none None k = refl

pub head_no_count : (word unit number root count : List ℕ) → number_of count ≡ None → head_with word unit number root count ≡ None
head_no_count word unit number root count e =
    neither (bytes_eq word (codes "set")) (begun_with unit (number_of number) (number_of root) (number_of count)) (ap (begun_with unit (number_of number) (number_of root)) e ∙ no_count unit (number_of number) (number_of root))

pub head_whole : (word unit number root count : List ℕ) (n r k : ℕ) → bytes_eq word (codes "set") ≡ true → number_of number ≡ Some n → number_of root ≡ Some r → number_of count ≡ Some k →
    head_with word unit number root count ≡ begun_with unit (Some n) (Some r) (Some k)
head_whole word unit number root count n r k e f g h = rw e (rw (f, g, h) refl)

pub head_stands : (unit : List ℕ) (n r k : ℕ) → (is_name unit && nat_lt r (k + 2)) ≡ true → begun_with unit (Some n) (Some r) (Some k) ≡ Some (record { set = record { unit = unit; number = n; root = r; nodes = [] }; due = k })
head_stands unit n r k e = rw e refl

pub head_falls : (unit : List ℕ) (n r k : ℕ) → (is_name unit && nat_lt r (k + 2)) ≡ false → begun_with unit (Some n) (Some r) (Some k) ≡ None
head_falls unit n r k e = rw e refl
