-- Comments are passed as the rules say.
use Rattle.std.proofs.Common.{◌≡◌, ℕ, zero, suc, ◌+◌, ◌<◌, Bool, true, false, ◌&&◌, cond, nat_eq, List, [], ◌∷◌, length, take, drop, take_while, get_or, codes, Option, Some, None, refl, ap, sym, ◌∙◌, subst, arith}
use Rattle.std.specs.List.{list_all, prefix_len}
use Rattle.std.specs.Option.{option_map}
use Rattle.std.proofs.lemmas.Bool.{eqb-true}
use Rattle.std.proofs.lemmas.List.Sums.{prefix_len_stops}
use Rattle.std.proofs.lemmas.List.Folds.{length-prefix_len}
use Rattle.smv_lex.specs.declared.front.Front.TheVariants.{Passed}
use Rattle.smv_lex.specs.Lexing.{begins, closing, comment_front, is_in_line, front_of}
use Rattle.smv_lex.specs.Comments.{EndsFirstAt, PassesBlock, PassesLine}
use Rattle.smv_lex.proofs.Longest.{all-taken, taken}

-- bytes that begin with two are these two and more
begins-two : (x y : ℕ) (text : List ℕ) → begins text (x ∷ y ∷ []) ≡ true → text ≡ x ∷ y ∷ drop 2 text
begins-two x y [] e = absurd cc
begins-two x y (b ∷ []) e = absurd (short (nat_eq x b) e)
  where
    short : (r : Bool) → (r && false) ≡ true → ⊥
    short true e = absurd cc
    short false e = absurd cc
begins-two x y (b ∷ c ∷ bytes) e = by (nat_eq x b) (nat_eq y c) refl refl e
  where
    by : (r s : Bool) → nat_eq x b ≡ r → nat_eq y c ≡ s → (r && (s && true)) ≡ true → b ∷ c ∷ bytes ≡ x ∷ y ∷ bytes
    by true true f g h = rw (eqb-true x b f, eqb-true y c g) refl
    by true false f g h = absurd cc
    by false s f g h = absurd cc

ends-first : (bytes : List ℕ) (n : ℕ) → closing bytes ≡ Some n → (j : ℕ) × (n ≡ j + 2) × EndsFirstAt bytes j
ends-first [] n e = absurd cc
ends-first (b ∷ bytes) n e = by (begins (b ∷ bytes) (codes "*/")) refl (closing bytes) (ends-first bytes) e
  where
    before : (j : ℕ) → begins (b ∷ bytes) (codes "*/") ≡ false → ((k : ℕ) → k < j → begins (drop k bytes) (codes "*/") ≡ false) →
        (k : ℕ) → k < suc j → begins (drop k (b ∷ bytes)) (codes "*/") ≡ false
    before j is none zero less = is
    before j is none (suc k) less = none k (omega (arith, less))

    by : (r : Bool) → begins (b ∷ bytes) (codes "*/") ≡ r → (end : Option ℕ) → ((n : ℕ) → end ≡ Some n → (j : ℕ) × (n ≡ j + 2) × EndsFirstAt bytes j) →
        cond r (Some 2) (option_map suc end) ≡ Some n → (j : ℕ) × (n ≡ j + 2) × EndsFirstAt (b ∷ bytes) j
    by true is end more e = let two : 2 ≡ n = cc in (0, omega (arith, two), (is, λ k less. absurd (omega (arith, less))))
    by false is None more e = absurd cc
    by false is (Some m) more e =
        let one : suc m ≡ n = cc in
        let rest = more m refl in
        (suc rest.0, omega (arith, one, rest.1), (rest.2.0, before rest.0 is rest.2.1))

passed-is : (n m : ℕ) → Passed n ≡ Passed m → n ≡ m
passed-is n m e = cc

block : (rest : List ℕ) (n : ℕ) → front_of (47 ∷ 42 ∷ rest) ≡ Passed n → (j : ℕ) × (n ≡ 2 + j + 2) × EndsFirstAt rest j
unfolding front_of
block rest n e = by (closing rest) refl e
  where
    by : (end : Option ℕ) → closing rest ≡ end → comment_front end ≡ Passed n → (j : ℕ) × (n ≡ 2 + j + 2) × EndsFirstAt rest j
    by None is e = absurd cc
    by (Some m) is e = let first = ends-first rest m is in let all = passed-is (2 + m) n e in (first.0, omega (arith, all, first.1), first.2)

pub passes-block : (text : List ℕ) → PassesBlock text
passes-block text n opened e = block (drop 2 text) n (ap front_of (sym (begins-two 47 42 text opened)) ∙ e)

line : (rest : List ℕ) → front_of (45 ∷ 45 ∷ rest) ≡ Passed (length (take_while is_in_line (45 ∷ 45 ∷ rest)))
unfolding front_of
line rest = refl

pub passes-line : (text : List ℕ) → PassesLine text
passes-line text n opened e =
    let is : front_of text ≡ Passed (length (take_while is_in_line text)) =
    subst (λ l. front_of l ≡ Passed (length (take_while is_in_line l))) (sym (begins-two 45 45 text opened)) (line (drop 2 text)) in
    let same : n ≡ length (take_while is_in_line text) = passed-is n _ (sym e ∙ is) in
    let size : n ≡ prefix_len is_in_line text = same ∙ length-prefix_len is_in_line text in (
      ap (λ k. list_all is_in_line (take k text)) same ∙ ap (list_all is_in_line) (taken is_in_line text) ∙ all-taken is_in_line text,
      λ less. ap (λ k. is_in_line (get_or text k 0)) size ∙ prefix_len_stops is_in_line text 0 (omega (arith, size, less)),
    )
