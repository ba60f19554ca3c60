-- What the rules of expressions spell fits where they stand.
use Rattle.std.proofs.Common.{◌≡◌, ℕ, zero, suc, ◌≤◌, false, List, [], ◌∷◌, ◌++◌, map, inl, inr, subst, arith}
use Rattle.std.specs.List.{flat_map}
use Rattle.smv_core.specs.declared.token.TokenKind.TheVariants.{Number}
use Rattle.smv_core.specs.declared.tree.Expr.{Expr}
use Rattle.smv_core.specs.declared.tree.Expr.TheVariants as expr
use Rattle.smv_core.specs.declared.tree.Member.{Member}
use Rattle.smv_core.specs.declared.tree.Part.{Part}
use Rattle.smv_core.specs.declared.tree.Path.{Path}
use Rattle.smv_core.specs.declared.tree.Signed.{Signed}
use Rattle.smv_core.specs.Signs as w
use Rattle.smv_core.specs.Notation.{Tokens, Rule, many}
use Rattle.smv_core.specs.Grammar as g
use Rattle.smv_print.specs.Written.{Kinds}
use Rattle.smv_print.specs.Expressions.{spelled, within, binary, choice, member_kinds, part_kinds, path_kinds, signed_kinds}
use Rattle.smv_print.specs.Expressions as p
use Rattle.smv_print.proofs.ExpressionLaws.{spelled-Not, spelled-And, spelled-Or, spelled-Implies, spelled-Iff, spelled-Modulo, spelled-Choose, spelled-Sum}
use Rattle.law_print_and_parse.specs.Aside.{member_aside, part_aside, path_aside, signed_aside}
use Rattle.law_print_and_parse.proofs.Again.{Again, Every, many-again}
use Rattle.law_print_and_parse.proofs.Keeps.{every-many, every-tail}
use Rattle.law_print_and_parse.proofs.Levels.{f, inner, rule_at, At, Bare, Good, Fits, fits-at, looser, fitting}
use Rattle.law_print_and_parse.proofs.Productions.{iff-bare, not-bare, and-bare, or-bare, implies-bare, choose-bare, modulo-bare, signed-again, sum-bare}
use Rattle.law_print_and_parse.proofs.Primaries.{SetAgain}

-- read again within n levels and within more
pub record Wide {A : Type 0} (R : ℕ → Rule A) (ks : A → Kinds) (aside : A → A) (n : ℕ) (x : A) : Type 0 where
  pub at : (m : ℕ) → n ≤ m → Again (R m) (ks x) (λ y. aside y ≡ aside x)

abbrev pub MemberFits : ℕ → Member → Type 0
MemberFits = Wide (λ m. g.member_rule f m (inner m)) member_kinds member_aside

abbrev pub PartFits : ℕ → Part → Type 0
PartFits = Wide (λ m. g.part_rule f m (inner m)) (λ q. part_kinds q false) part_aside

abbrev pub PathFits : ℕ → Path → Type 0
PathFits = Wide (λ m. g.path_rule f m (inner m)) path_kinds path_aside

abbrev pub SignedFits : ℕ → Signed → Type 0
SignedFits = Wide (λ m. g.signed f m (inner m)) signed_kinds signed_aside

-- a set within n levels and within more
pub record SetFits (n : ℕ) (x : Expr) : Type 0 where
  pub at : (m : ℕ) → n ≤ m → SetAgain m x

-- within a level less
abbrev pub Below : {A : Type 0} → (ℕ → A → Type 0) → ℕ → A → Type 0
Below P n x = (k : ℕ) × (suc k ≡ n) × P k x

-- what stands inside an opened level fits there
pub record Inside (n : ℕ) : Type 0 where
  pub expr : (ts : Tokens) (x : Expr) (rest : Tokens) → (inner n).expr ts x rest → Below (λ k x. Fits k 0 x) n x
  pub negation : (ts : Tokens) (x : Expr) (rest : Tokens) → (inner n).negation ts x rest → Below (λ k x. Fits k 5 x) n x
  pub member : (ts : Tokens) (x : Member) (rest : Tokens) → (inner n).member ts x rest → Below MemberFits n x

pub every-map : {A : Type 0} (P Q : A → Type 0) → ((x : A) → P x → Q x) → (xs : List A) → Every P xs → Every Q xs
every-map P Q g [] e = tt
every-map P Q g (x ∷ xs) e = (g x e.0, every-map P Q g xs e.1)

pub many-wide : {A : Type 0} (R : ℕ → Rule A) (ks : A → Kinds) (aside : A → A) (n : ℕ) (xs : List A) → Every (Wide R ks aside n) xs → (m : ℕ) → n ≤ m
    → Again (many (R m)) (flat_map ks xs) (λ ys. map aside ys ≡ map aside xs)
many-wide R ks aside n xs e m l = many-again {r = R m} ks aside xs (every-map (Wide R ks aside n) (λ x. Again (R m) (ks x) (λ y. aside y ≡ aside x)) (λ x w. w.at m l) xs e)

-- every expression that the rule spells fits where that rule stands
abbrev pub AllFit : ℕ → ℕ → Type 0
AllFit n wanted = (ts : Tokens) (x : Expr) (rest : Tokens) → rule_at wanted n ts x rest → Fits n wanted x

every-at : (n wanted m : ℕ) → n ≤ m → (xs : List Expr) → Every (Fits n wanted) xs → Every (At wanted m) xs
every-at n wanted m l xs e = every-map (Fits n wanted) (At wanted m) (λ x q. fits-at n wanted x q m l) xs e

-- ---- chains and pairs

pub conjunctions-fit : (n : ℕ) → AllFit n 5 → AllFit n 4
conjunctions-fit n h ts z rest (x, mid, hx, (more, after, hm, (e, r))) = subst (Fits n 4) e (go more (every-tail {r = rule_at 5 n} w.ampersand (Fits n 5) h more mid after hm))
  where
    go : (more : List Expr) → Every (Fits n 5) more → Fits n 4 (g.chain expr.And x more)
    go [] every = looser n 4 5 x (omega arith) (h ts x mid hx)
    go (y ∷ more) every = fitting n 4 (expr.And (x ∷ y ∷ more)) (p.chain 4 w.ampersand 5 (map spelled (x ∷ y ∷ more))) (spelled-And (x ∷ y ∷ more)) (omega arith)
        (record { again = λ m l. and-bare m x y more (every-at n 5 m l (x ∷ y ∷ more) (h ts x mid hx, every)) })

pub disjunctions-fit : (n : ℕ) → AllFit n 4 → AllFit n 3
disjunctions-fit n h ts z rest (x, mid, hx, (more, after, hm, (e, r))) = subst (Fits n 3) e (go more (every-tail {r = rule_at 4 n} w.bar (Fits n 4) h more mid after hm))
  where
    go : (more : List Expr) → Every (Fits n 4) more → Fits n 3 (g.chain expr.Or x more)
    go [] every = looser n 3 4 x (omega arith) (h ts x mid hx)
    go (y ∷ more) every = fitting n 3 (expr.Or (x ∷ y ∷ more)) (p.chain 3 w.bar 4 (map spelled (x ∷ y ∷ more))) (spelled-Or (x ∷ y ∷ more)) (omega arith)
        (record { again = λ m l. or-bare m x y more (every-at n 4 m l (x ∷ y ∷ more) (h ts x mid hx, every)) })

pub implications-fit : (n : ℕ) → AllFit n 3 → AllFit n 2
implications-fit n h ts z rest (x, mid, hx, (more, after, hm, (e, r))) = subst (Fits n 2) e (go more (every-tail {r = rule_at 3 n} w.arrow (Fits n 3) h more mid after hm))
  where
    go : (more : List Expr) → Every (Fits n 3) more → Fits n 2 (g.chain expr.Implies x more)
    go [] every = looser n 2 3 x (omega arith) (h ts x mid hx)
    go (y ∷ more) every = fitting n 2 (expr.Implies (x ∷ y ∷ more)) (p.chain 2 w.arrow 3 (map spelled (x ∷ y ∷ more))) (spelled-Implies (x ∷ y ∷ more)) (omega arith)
        (record { again = λ m l. implies-bare m x y more (every-at n 3 m l (x ∷ y ∷ more) (h ts x mid hx, every)) })

pub equivalences-fit : (n : ℕ) → AllFit n 2 → AllFit n 1
equivalences-fit n h ts z rest (x, mid, hx, inl (at, after, ht, (y, end, hy, (e, r)))) =
    subst (Fits n 1) e (fitting n 1 (expr.Iff x y) (binary 1 w.double_arrow 2 (spelled x) (spelled y)) (spelled-Iff x y) (omega arith)
    (record { again = λ m l. iff-bare m x y (fits-at n 2 x (h ts x mid hx) m l) (fits-at n 2 y (h after y end hy) m l) }))
equivalences-fit n h ts z rest (x, mid, hx, inr (e, r)) = subst (Fits n 1) e (looser n 1 2 x (omega arith) (h ts x mid hx))

choose-good : (n k j : ℕ) (c x y : Expr) → suc k ≡ n → suc j ≡ n → Fits n 1 c → Fits k 0 x → Fits j 0 y → Good n (expr.Choose c x y)
choose-good n k j c x y a b h q r = record { again = go }
  where
    go : (m : ℕ) → n ≤ m → Bare m (expr.Choose c x y)
    go zero l = absurd (omega arith)
    go (suc m) l = choose-bare m c x y (fits-at n 1 c h (suc m) l) (fits-at k 0 x q m (omega arith)) (fits-at j 0 y r m (omega arith))

pub expressions-fit : (n : ℕ) → Inside n → AllFit n 1 → AllFit n 0
expressions-fit n i h ts z rest (c, mid, hc, inl (at, after, ho, (x, end, hx, (at2, last, ht, (y, over, hy, (e, r)))))) =
    let q = i.expr after x end hx in
    let s = i.expr last y over hy in
    subst (Fits n 0) e (fitting n 0 (expr.Choose c x y) (record { binding = 0; bare = choice (spelled c) (spelled x) (spelled y) }) (spelled-Choose c x y) (omega arith)
    (choose-good n q.0 s.0 c x y q.1 s.1 (h ts c mid hc) q.2 s.2))
expressions-fit n i h ts z rest (c, mid, hc, inr (e, r)) = subst (Fits n 0) e (looser n 0 1 c (omega arith) (h ts c mid hc))

not-good : (n k : ℕ) (x : Expr) (at : ℕ) → suc k ≡ n → Fits k 5 x → Good n (expr.Not x at)
not-good n k x at a h = record { again = go }
  where
    go : (m : ℕ) → n ≤ m → Bare m (expr.Not x at)
    go zero l = absurd (omega arith)
    go (suc m) l = not-bare m x at (fits-at k 5 x h m (omega arith))

pub negations-fit : (n : ℕ) → Inside n → AllFit n 6 → AllFit n 5
negations-fit n i h ts z rest (inl (at, after, ho, (x, end, hx, (e, r)))) =
    let q = i.negation after x end hx in
    subst (Fits n 5) e (fitting n 5 (expr.Not x at) (record { binding = 5; bare = w.tilde ∷ within 5 (spelled x) }) (spelled-Not x at) (omega arith) (not-good n q.0 x at q.1 q.2))
negations-fit n i h ts z rest (inr k) = looser n 5 6 z (omega arith) (h ts z rest k)

pub remainders-fit : (n : ℕ) → AllFit n 8 → AllFit n 7
remainders-fit n h ts z rest (x, mid, hx, inl (at, after, hm, (by, end, hn, (e, r)))) =
    subst (Fits n 7) e (fitting n 7 (expr.Modulo x by.0 by.1) (record { binding = 7; bare = within 8 (spelled x) ++ w.word_mod ∷ Number by.0 ∷ [] }) (spelled-Modulo x by.0 by.1) (omega arith)
    (record { again = λ m l. modulo-bare m x by.0 by.1 (fits-at n 8 x (h ts x mid hx) m l) }))
remainders-fit n h ts z rest (x, mid, hx, inr (e, r)) = subst (Fits n 7) e (looser n 7 8 x (omega arith) (h ts x mid hx))

signs-fit : (n : ℕ) → AllFit n 9 → (ts : Tokens) (z : Signed) (rest : Tokens) → g.signed f n (inner n) ts z rest → SignedFits n z
signs-fit n h ts z rest (s, m0, hs, (x, m1, hx, (e, r))) = subst (SignedFits n) e (record { at = λ m l. signed-again m s.0 x (fits-at n 9 x (h m0 x m1 hx) m l) })

pub sums-fit : (n : ℕ) → AllFit n 9 → AllFit n 8
sums-fit n h ts z rest (x, mid, hx, (more, after, hm, (e, r))) = subst (Fits n 8) e (go more (every-many {r = g.signed f n (inner n)} (SignedFits n) (signs-fit n h) more mid after hm))
  where
    go : (more : List Signed) → Every (SignedFits n) more → Fits n 8 (g.sum_of x more)
    go [] every = looser n 8 9 x (omega arith) (h ts x mid hx)
    go (y ∷ more) every = fitting n 8 (expr.Sum x (y ∷ more)) (record { binding = 8; bare = within 9 (spelled x) ++ flat_map signed_kinds (y ∷ more) }) (spelled-Sum x (y ∷ more)) (omega arith)
        (record { again = λ m l. sum-bare m x y more (fits-at n 9 x (h ts x mid hx) m l) (many-wide (λ m. g.signed f m (inner m)) signed_kinds signed_aside n (y ∷ more) every m l) })
