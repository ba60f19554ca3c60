-- What a parser reads is stopped by what follows it.
use Rattle.std.proofs.Common.{◌≡◌, ℕ, zero, suc, Bool, true, false, cond, List, [], ◌∷◌, Option, Some, None, Ok, Err, refl, subst}
use Rattle.smv_core.specs.declared.token.Token.{Token}
use Rattle.smv_core.specs.Notation.{Tokens}
use Rattle.law_grammar.specs.Parsing.{Outcome, Parser, and_then, bind, pure, opened, take_open, starts, fork}
use Rattle.law_grammar.specs.Lawful.{first}
use Rattle.law_grammar.specs.Marks.{Mark, begins, stops_by}
use Rattle.law_grammar.specs.Readers.{maybe}
use Rattle.law_grammar.proofs.Lists.{same_ok}

pub record Greedy {A : Type 0} (p : Parser A) (ys : A → List Mark) : Type 0 where
  pub holds : (ts : Tokens) (a : A) (rest : Tokens) → p ts ≡ Ok (a, rest) → stops_by ys a (first rest) ≡ true

stops-none : {A : Type 0} (ys : A → List Mark) (a : A) (t : Option Token) → ys a ≡ [] → stops_by ys a t ≡ true
stops-none ys a None e = refl
stops-none ys a (Some t) e = rw e refl

pub greedy-pure : {A : Type 0} {ys : A → List Mark} (a : A) → ys a ≡ [] → Greedy (pure a) ys
greedy-pure {ys = ys} a e = record { holds = λ ts b rest h. let u = same_ok a b ts rest _ refl h in stops-none ys b (first rest) (rw (← u.0) e) }

pub greedy-then : {A B : Type 0} (p : Parser A) {q : A → Parser B} {ys : B → List Mark} → ((a : A) → Greedy (q a) ys) → Greedy (bind p q) ys
greedy-then {A = A} {B = B} p {q = q} {ys = ys} g = record { holds = λ ts b rest h. go (p ts) b rest h }
  where
    go : (o : Outcome A) (b : B) (rest : Tokens) → and_then o q ≡ Ok (b, rest) → stops_by ys b (first rest) ≡ true
    go (Err x) b rest h = absurd cc
    go (Ok (a, middle)) b rest h = (g a).holds middle b rest h

pub greedy-made : {A B : Type 0} {p : Parser A} {ys : A → List Mark} {zs : B → List Mark} (make : A → B) → ((a : A) → zs (make a) ≡ ys a) → Greedy p ys → Greedy (bind p (λ a. pure (make a))) zs
greedy-made {A = A} {B = B} {p = p} {ys = ys} {zs = zs} make e f = record { holds = λ ts b rest h. go (p ts) ts refl b rest h }
  where
    by : (a : A) (t : Option Token) → stops_by ys a t ≡ true → stops_by zs (make a) t ≡ true
    by a None s = refl
    by a (Some t) s = rw (e a) s

    go : (o : Outcome A) (ts : Tokens) → p ts ≡ o → (b : B) (rest : Tokens) → and_then o (λ a. pure (make a)) ≡ Ok (b, rest) → stops_by zs b (first rest) ≡ true
    go (Err x) ts q b rest h = absurd cc
    go (Ok (a, middle)) ts q b rest h =
        let u = same_ok (make a) b middle rest _ refl h in
        let s = by a (first middle) (f.holds ts a middle q) in
        let P : Tokens → Type 0 = λ z. stops_by zs (make a) (first z) ≡ true in
        let Q : B → Type 0 = λ z. stops_by zs z (first rest) ≡ true in
        subst Q u.0 (subst P u.1 s)

pub greedy-open : {X A : Type 0} (read : Token → Option X) (n : ℕ) {p : X → Parser A} {ys : A → List Mark} → ((x : X) → Greedy (p x) ys) → Greedy (take_open read n p) ys
greedy-open {X = X} {A = A} read n {p = p} {ys = ys} g = record { holds = by }
  where
    go : (n : ℕ) (o : Option X) (whole ts : Tokens) (a : A) (rest : Tokens) → opened o n whole p ts ≡ Ok (a, rest) → stops_by ys a (first rest) ≡ true
    go n None whole ts a rest h = absurd cc
    go zero (Some x) whole ts a rest h = absurd cc
    go (suc n) (Some x) whole ts a rest h = (g x).holds ts a rest h

    by : (ts : Tokens) (a : A) (rest : Tokens) → take_open read n p ts ≡ Ok (a, rest) → stops_by ys a (first rest) ≡ true
    by [] a rest h = absurd cc
    by (t ∷ ts) a rest h = go n (read t) (t ∷ ts) ts a rest h

pub greedy-fork : {A : Type 0} {test : Token → Bool} {p q : Parser A} {ys : A → List Mark} → Greedy p ys → Greedy q ys → Greedy (fork test p q) ys
greedy-fork {A = A} {test = test} {p = p} {q = q} {ys = ys} f g = record { holds = λ ts a rest h. go (starts test ts) ts a rest h }
  where
    go : (b : Bool) (ts : Tokens) (a : A) (rest : Tokens) → cond b (p ts) (q ts) ≡ Ok (a, rest) → stops_by ys a (first rest) ≡ true
    go true ts a rest h = f.holds ts a rest h
    go false ts a rest h = g.holds ts a rest h

-- where the parser is not tried, no mark follows
pub greedy-maybe : {A : Type 0} {xs : List Mark} {p : Parser A} {ys : A → List Mark} (a : A) → ys a ≡ xs → Greedy p ys → Greedy (maybe xs p a) ys
greedy-maybe {A = A} {xs = xs} {p = p} {ys = ys} a e f = record { holds = λ ts b rest h. go (starts (begins xs) ts) ts refl b rest h }
  where
    none : (ts : Tokens) → starts (begins xs) ts ≡ false → stops_by ys a (first ts) ≡ true
    none [] q = refl
    none (t ∷ ts) q = rw e (rw q refl)

    go : (c : Bool) (ts : Tokens) → starts (begins xs) ts ≡ c → (b : A) (rest : Tokens) → cond c (p ts) (Ok (a, ts)) ≡ Ok (b, rest) → stops_by ys b (first rest) ≡ true
    go true ts q b rest h = f.holds ts b rest h
    go false ts q b rest h =
        let u = same_ok a b ts rest _ refl h in
        let P : Tokens → Type 0 = λ z. stops_by ys a (first z) ≡ true in
        let Q : A → Type 0 = λ z. stops_by ys z (first rest) ≡ true in
        subst Q u.0 (subst P u.1 (none ts q))
