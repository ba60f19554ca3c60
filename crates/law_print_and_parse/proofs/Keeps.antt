-- What a rule spells is spelled again by its canonical tokens.
use Rattle.std.proofs.Common.{◌≡◌, true, List, [], ◌∷◌, map, inl, inr, refl, ap, ◌∙◌, subst}
use Rattle.std.specs.List.{flat_map}
use Rattle.smv_core.specs.declared.token.TokenKind.{TokenKind}
use Rattle.smv_core.specs.Signs.{comma}
use Rattle.smv_core.specs.Notation.{Tokens, Rule, ◌>>◌, many, token, same_kind, separated, separated_or_none}
use Rattle.smv_print.specs.Written.{Kinds, preceded}
use Rattle.smv_print.specs.Written as s
use Rattle.law_print_and_parse.proofs.Again.{Places, Reads, anywhere, passed, Every, cut, next, made, ended, left, right, sign, many-again}

-- each value that the rule spells is read again, from its canonical tokens at such places, as one that is the same, places aside
abbrev pub KeepsAt : (places : Places) → {A : Type 0} → Rule A → (A → Kinds) → (A → A) → Type 0
KeepsAt places {A} r ks aside = (ts : Tokens) (x : A) (rest : Tokens) → r ts x rest → Reads places r (ks x) (λ y. aside y ≡ aside x)

-- wherever they stand
abbrev pub Keeps : {A : Type 0} → Rule A → (A → Kinds) → (A → A) → Type 0
Keeps r ks aside = KeepsAt anywhere r ks aside

-- what holds of each that a rule spells
pub every-many : {A : Type 0} {r : Rule A} (Q : A → Type 0) → ((ts : Tokens) (x : A) (rest : Tokens) → r ts x rest → Q x)
    → (xs : List A) (ts rest : Tokens) → many r ts xs rest → Every Q xs
every-many Q g [] ts rest h = tt
every-many {r = r} Q g (x ∷ xs) ts rest (mid, hr, hm) = (g ts x mid hr, every-many {r = r} Q g xs mid rest hm)

pub every-tail : {A : Type 0} {r : Rule A} (k : TokenKind) (Q : A → Type 0) → ((ts : Tokens) (x : A) (rest : Tokens) → r ts x rest → Q x)
    → (xs : List A) (ts rest : Tokens) → many (token k >> r) ts xs rest → Every Q xs
every-tail k Q g [] ts rest h = tt
every-tail {r = r} k Q g (x ∷ xs) ts rest (mid, (at, after, ht, hr), hm) = (g after x mid hr, every-tail {r = r} k Q g xs mid rest hm)

-- the parts of a chain behind the first
pub tail-again : {places : Places} {A : Type 0} {r : Rule A} (k : TokenKind) → same_kind k k ≡ true → (ks : A → Kinds) (aside : A → A) (xs : List A) → Every (λ x. Reads places r (ks x) (λ y. aside y ≡ aside x)) xs
    → Reads places (many (token k >> r)) (preceded k (map ks xs)) (λ ys. map aside ys ≡ map aside xs)
tail-again k same ks aside [] e = record { run = λ us rest w h. ([], h, refl) }
tail-again {places} {A} {r} k same ks aside (x ∷ xs) e =
    let f : Reads places (token k >> r) (k ∷ ks x) (λ y. aside y ≡ aside x) = sign same (λ at. e.0) in
    let g : Reads places (many (token k >> r)) (preceded k (map ks xs)) (λ ys. map aside ys ≡ map aside xs) = tail-again {places = places} {r = r} k same ks aside xs e.1 in
    record {
      run = λ us rest w h.
          let c = cut (k ∷ ks x) (preceded k (map ks xs)) us rest h in
          let y = f.run us c.0 w c.1 in
          let ys = g.run c.0 rest (passed places (k ∷ ks x) us c.0 c.1 w) c.2 in
          (y.0 ∷ ys.0, (c.0, y.1, ys.1), ap (λ (z : A). z ∷ map aside ys.0) y.2 ∙ ap (λ (zs : List A). aside x ∷ zs) ys.2);
    }

pub separated-again : {places : Places} {A : Type 0} {r : Rule A} (ks : A → Kinds) (aside : A → A) (x : A) (xs : List A) → Every (λ x. Reads places r (ks x) (λ y. aside y ≡ aside x)) (x ∷ xs)
    → Reads places (separated r) (s.separated comma (map ks (x ∷ xs))) (λ ys. map aside ys ≡ map aside (x ∷ xs))
separated-again {places} {A} {r} ks aside x xs e = next e.0 (λ y d. made (tail-again {places = places} {r = r} comma refl ks aside xs e.1) (λ ys h.
    ap (λ (z : A). z ∷ map aside ys) d ∙ ap (λ (zs : List A). aside x ∷ zs) h))

pub keeps-many : {places : Places} {A : Type 0} {r : Rule A} (ks : A → Kinds) (aside : A → A) → KeepsAt places r ks aside → KeepsAt places (many r) (flat_map ks) (map aside)
keeps-many {places} {A} {r} ks aside g ts xs rest h = many-again {places = places} {r = r} ks aside xs (every-many {r = r} (λ x. Reads places r (ks x) (λ y. aside y ≡ aside x)) g xs ts rest h)

pub keeps-separated : {places : Places} {A : Type 0} {r : Rule A} (ks : A → Kinds) (aside : A → A) → KeepsAt places r ks aside → KeepsAt places (separated r) (λ xs. s.separated comma (map ks xs)) (map aside)
keeps-separated {places} {A} {r} ks aside g ts xs rest (x, mid, hx, (more, after, hm, (e, d))) =
    let Q : A → Type 0 = λ x. Reads places r (ks x) (λ y. aside y ≡ aside x) in
    let P : List A → Type 0 = λ xs. Reads places (separated r) (s.separated comma (map ks xs)) (λ ys. map aside ys ≡ map aside xs) in
    subst P e (separated-again {places = places} {r = r} ks aside x more (g ts x mid hx, every-tail {r = r} comma Q g more mid after hm))

pub keeps-separated_or_none : {places : Places} {A : Type 0} {r : Rule A} (ks : A → Kinds) (aside : A → A) → KeepsAt places r ks aside → KeepsAt places (separated_or_none r) (λ xs. s.separated comma (map ks xs)) (map aside)
keeps-separated_or_none {places} {A} {r} ks aside g ts xs rest (inl h) = left (keeps-separated {places = places} {r = r} ks aside g ts xs rest h)
keeps-separated_or_none {places} {A} {r} ks aside g ts xs rest (inr (e, d)) =
    let P : List A → Type 0 = λ xs. Reads places (separated_or_none r) (s.separated comma (map ks xs)) (λ ys. map aside ys ≡ map aside xs) in
    subst P e (right (ended refl))
