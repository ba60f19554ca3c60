-- Texts side by side, one time after the other.
use Rattle.std.proofs.Common.{◌≡◌, ◌∙◌, ◌+◌, ◌<◌, ◌≤◌, ℕ, zero, suc, List, [], ◌∷◌, ◌++◌, add-one, ap, append_assoc, arith, drop, drop-cons, get_or, length, refl, sym}
use Rattle.std.proofs.Math.ListN.{set}
use Rattle.std.proofs.lemmas.List.{drop_all}
use Rattle.smv_waveforms.specs.Parts.{put_at}
use Rattle.smv_read_report.specs.declared.reading.FalseUnit.{FalseUnit}
use Rattle.smv_waveforms.specs.Values.{kinds_of}
use Rattle.smv_waveforms.specs.Vcd.{all_texts, side_by_side, time_texts}

-- texts beside others that begin at this time
abbrev pub beside_from : ℕ → List (List ℕ) → List (List ℕ) → List (List ℕ)
beside_from zero texts others = side_by_side texts others
beside_from (suc time) [] others = others
beside_from (suc time) (text ∷ texts) others = text ∷ beside_from time texts others

later : (time : ℕ) (texts : List (List ℕ)) (other : List ℕ) (others : List (List ℕ)) → beside_from (suc time) (put_at time texts other) others ≡ beside_from time texts (other ∷ others)
later zero [] other others = refl
later zero (text ∷ texts) other others = refl
later (suc time) [] other others = refl
later (suc time) (text ∷ texts) other others = ap (λ rest. text ∷ rest) (later time texts other others)

-- one more text is put
pub beside_step : (time : ℕ) (texts more others : List (List ℕ)) (item bytes : List ℕ) → time < length others → item ≡ get_or others time item → bytes ≡ item → more ≡ put_at time texts bytes →
    beside_from (time + 1) more (drop (time + 1) others) ≡ beside_from time texts (drop time others)
beside_step time texts more others item bytes within first one grown =
    let left : drop time others ≡ item ∷ drop (suc time) others = drop-cons others time item within ∙ ap (λ (next : List ℕ). next ∷ drop (suc time) others) (sym first) in
    rw (grown, one, left, add-one) (later time texts item (drop (suc time) others))

beside_nothing : (texts : List (List ℕ)) → side_by_side texts [] ≡ texts
beside_nothing [] = refl
beside_nothing (text ∷ texts) = refl

nothing_later : (time : ℕ) (texts : List (List ℕ)) → beside_from time texts [] ≡ texts
nothing_later zero texts = beside_nothing texts
nothing_later (suc time) [] = refl
nothing_later (suc time) (text ∷ texts) = ap (λ rest. text ∷ rest) (nothing_later time texts)

pub beside_end : (time : ℕ) (texts others : List (List ℕ)) → length others ≤ time → beside_from time texts (drop time others) ≡ texts
beside_end time texts others ended = let none : drop time others ≡ [] = drop_all time others ended in rw none (nothing_later time texts)

pub put_within : (time : ℕ) (texts : List (List ℕ)) (other : List ℕ) → time < length texts → put_at time texts other ≡ set texts time (get_or texts time [] ++ other)
put_within zero [] other within = absurd (omega arith)
put_within zero (text ∷ texts) other within = refl
put_within (suc time) [] other within = absurd (omega arith)
put_within (suc time) (text ∷ texts) other within = ap (λ rest. text ∷ rest) (put_within time texts other (omega arith))

pub put_behind : (time : ℕ) (texts : List (List ℕ)) (other : List ℕ) → length texts ≤ time → put_at time texts other ≡ texts ++ other ∷ []
put_behind zero [] other behind = refl
put_behind zero (text ∷ texts) other behind = absurd (omega arith)
put_behind (suc time) [] other behind = refl
put_behind (suc time) (text ∷ texts) other behind = ap (λ rest. text ∷ rest) (put_behind time texts other (omega arith))

together : (texts others more : List (List ℕ)) → side_by_side (side_by_side texts others) more ≡ side_by_side texts (side_by_side others more)
together [] others more = refl
together (text ∷ texts) [] [] = refl
together (text ∷ texts) [] (third ∷ more) = refl
together (text ∷ texts) (other ∷ others) [] = refl
together (text ∷ texts) (other ∷ others) (third ∷ more) =
    ap (λ (first : List ℕ). first ∷ side_by_side (side_by_side texts others) more) (append_assoc text other third)
    ∙ ap (λ rest. (text ++ (other ++ third)) ∷ rest) (together texts others more)

-- the texts of one more unit are put beside those of the units before
pub all_step : (i first next : ℕ) (units : List FalseUnit) (unit : FalseUnit) (texts more own : List (List ℕ)) → i < length units → unit ≡ get_or units i unit → own ≡ time_texts first (kinds_of unit) unit.states → more ≡ side_by_side texts own →
    next ≡ first + length unit.elements → side_by_side more (all_texts next (drop (i + 1) units)) ≡ side_by_side texts (all_texts first (drop i units))
all_step i first next units unit texts more own within is made beside count =
    let left : drop i units ≡ unit ∷ drop (suc i) units = drop-cons units i unit within ∙ ap (λ (x : FalseUnit). x ∷ drop (suc i) units) (sym is) in
    rw (beside, made, count, left, add-one) (together texts (time_texts first (kinds_of unit) unit.states) (all_texts (first + length unit.elements) (drop (suc i) units)))

pub all_end : (i first : ℕ) (units : List FalseUnit) (texts : List (List ℕ)) → length units ≤ i → side_by_side texts (all_texts first (drop i units)) ≡ texts
all_end i first units texts ended = let none : drop i units ≡ [] = drop_all i units ended in rw none (beside_nothing texts)
