-- What the rules of expressions spell within any number of levels fits there, and is spelled again.
use Rattle.std.proofs.Common.{◌≡◌, ℕ, zero, suc, ◌<◌, ◌≤◌, false, List, [], ◌∷◌, ◌++◌, Option, Some, None, inl, inr, refl, sym, subst, arith}
use Rattle.smv_core.specs.declared.token.TokenKind.TheVariants.{Number}
use Rattle.smv_core.specs.declared.tree.Word.{Word}
use Rattle.smv_core.specs.declared.tree.TypeExpr.{TypeExpr}
use Rattle.smv_core.specs.declared.tree.Expr.{Expr}
use Rattle.smv_core.specs.declared.tree.Expr.TheVariants as expr
use Rattle.smv_core.specs.declared.tree.Member.{Member}
use Rattle.smv_core.specs.declared.tree.Part.{Part}
use Rattle.smv_core.specs.declared.tree.Part.TheVariants as part
use Rattle.smv_core.specs.declared.tree.Path.{Path}
use Rattle.smv_core.specs.Signs.{comma, ampersand, bar}
use Rattle.smv_core.specs.Signs as w
use Rattle.smv_core.specs.Notation.{Tokens, optional, token, ◌>>◌}
use Rattle.smv_core.specs.Grammar as g
use Rattle.smv_print.specs.Types.{type_kinds}
use Rattle.smv_print.specs.Expressions.{spelled, within, alone, binary, operator, reduction, member_kinds, part_kinds, path_kinds}
use Rattle.smv_print.proofs.ExpressionLaws.{spelled-Number, spelled-Signal, spelled-Compare, spelled-Within, spelled-All, spelled-Any}
use Rattle.law_print_and_parse.specs.Aside.{member_aside, part_aside}
use Rattle.law_print_and_parse.proofs.Again.{Again, Every}
use Rattle.law_print_and_parse.proofs.Keeps.{every-many, every-tail, separated-again}
use Rattle.law_print_and_parse.proofs.Types.{SameType, keeps-index}
use Rattle.law_print_and_parse.proofs.Levels.{f, inner, At, Bare, Good, Fits, fits-at, looser, fitting, enclosed}
use Rattle.law_print_and_parse.proofs.Productions.{number-bare, compare-bare}
use Rattle.law_print_and_parse.proofs.Primaries.{SamePart, SamePath, SameMember, SetAgain, OptionAt, field-again, index-again, path-again, signal-bare, one-again, several-again, list-again, each-again, within-bare, set-bare, all-bare, any-bare}
use Rattle.law_print_and_parse.proofs.Entries.{AnyOf, an-entry-of}
use Rattle.law_print_and_parse.proofs.Expressions.{MemberFits, PartFits, PathFits, SetFits, Below, Inside, AllFit, every-map, many-wide, conjunctions-fit, disjunctions-fit, implications-fit, equivalences-fit, expressions-fit, negations-fit, remainders-fit, sums-fit}

-- ---- paths

at-good : (n k : ℕ) (x : Expr) → suc k ≡ n → Fits k 0 x → PartFits n (part.At x)
at-good n k x a h = record { at = go }
  where
    go : (m : ℕ) → n ≤ m → Again (g.part_rule f m (inner m)) (part_kinds (part.At x) false) (SamePart (part.At x))
    go zero l = absurd (omega arith)
    go (suc m) l = index-again m x (fits-at k 0 x h m (omega arith))

parts-fit : (n : ℕ) → Inside n → (ts : Tokens) (z : Part) (rest : Tokens) → g.part_rule f n (inner n) ts z rest → PartFits n z
parts-fit n i ts z rest (inl (at, m0, ht, (x, m1, hx, (e, r)))) = subst (PartFits n) e (record { at = λ m l. field-again m x })
parts-fit n i ts z rest (inr (at, m0, ho, (x, m1, hx, (a2, m2, hc, (e, r))))) = let q = i.expr m0 x m1 hx in subst (PartFits n) e (at-good n q.0 x q.1 q.2)

pub paths-fit : (n : ℕ) → Inside n → (ts : Tokens) (z : Path) (rest : Tokens) → g.path_rule f n (inner n) ts z rest → PathFits n z
paths-fit n i ts z rest (x, m0, hx, (more, m1, hm, (e, r))) =
    let every = every-many {r = g.part_rule f n (inner n)} (PartFits n) (parts-fit n i) more m0 m1 hm in
    subst (PathFits n) e (record { at = λ m l. path-again m x more (many-wide (λ m. g.part_rule f m (inner m)) (λ q. part_kinds q false) part_aside n more every m l) })

-- ---- sets

pub members-fit : (n : ℕ) → AllFit n 0 → (ts : Tokens) (z : Member) (rest : Tokens) → g.member_rule f n (inner n) ts z rest → MemberFits n z
members-fit n h ts z rest (inl (x, m0, hx, (e, r))) = subst (MemberFits n) e (record { at = λ m l. one-again m x (fits-at n 0 x (h ts x m0 hx) m l) })
members-fit n h ts z rest (inr (s, m0, hs, (e, r))) = subst (MemberFits n) e (record { at = λ m l. several-again m s.0 s.1 })

members-at : (n m : ℕ) → n ≤ suc m → (xs : List Member) → Every (Below MemberFits n) xs → Every (λ x. Again (g.member_rule f m (inner m)) (member_kinds x) (SameMember x)) xs
members-at n m l xs every = every-map (Below MemberFits n) (λ x. Again (g.member_rule f m (inner m)) (member_kinds x) (SameMember x)) (λ x w. let b = w.1 in w.2.at m (omega arith)) xs every

listed-fits : (n : ℕ) (x : Member) (more : List Member) (at : ℕ) → 0 < n → Every (Below MemberFits n) (x ∷ more) → SetFits n (expr.List (x ∷ more) at)
listed-fits n x more at some every = record { at = go }
  where
    go : (m : ℕ) → n ≤ m → SetAgain m (expr.List (x ∷ more) at)
    go zero l = absurd (omega arith)
    go (suc m) l = list-again m (x ∷ more) at (separated-again {r = g.member_rule f m (inner m)} member_kinds member_aside x more (members-at n m l (x ∷ more) every))

abbrev OptionFits : ℕ → Option Expr → Type 0
OptionFits n None = Unit {0}
OptionFits n (Some c) = Below (λ k x. Fits k 0 x) n c

option-fits : (n : ℕ) → Inside n → (ts : Tokens) (c : Option Expr) (rest : Tokens) → optional (token comma >> (inner n).expr) ts c rest → OptionFits n c
option-fits n i ts c rest (inl (x, mid, (at, after, ht, hx), (e, r))) = subst (OptionFits n) e (i.expr after x mid hx)
option-fits n i ts c rest (inr (e, r)) = subst (OptionFits n) e tt

option-at : (n m : ℕ) → n ≤ suc m → (c : Option Expr) → OptionFits n c → OptionAt m c
option-at n m l None h = tt
option-at n m l (Some c) h = let b = h.1 in fits-at h.0 0 c h.2 m (omega arith)

each-fits : (n : ℕ) (v : Word) (over : TypeExpr) (c : Option Expr) (at : ℕ) → 0 < n → Again g.index (type_kinds over) (SameType over) → OptionFits n c → SetFits n (expr.Each v over c at)
each-fits n v over c at some t h = record { at = go }
  where
    go : (m : ℕ) → n ≤ m → SetAgain m (expr.Each v over c at)
    go zero l = absurd (omega arith)
    go (suc m) l = each-again m v over c at t (option-at n m l c h)

sets-fit : (n : ℕ) → Inside n → (ts : Tokens) (z : Expr) (rest : Tokens) → g.set f n (inner n) ts z rest → SetFits n z
sets-fit n i ts z rest (inl (at, m0, (a1, m1, ht, (u, m2, (some, q), e0)), (members, m3, (x, m4, hx, (more, m5, hm, (d, r0))), (a6, m6, hc, (e, r))))) =
    let every : Every (Below MemberFits n) (x ∷ more) = (i.member m0 x m4 hx, every-tail {r = (inner n).member} comma (Below MemberFits n) i.member more m4 m5 hm) in
    let P : List Member → Type 0 = λ ys. SetFits n (expr.List ys at) in
    subst (SetFits n) e (subst P d (listed-fits n x more at some every))
sets-fit n i ts z rest (inr (at, m0, (a1, m1, ht, (u, m2, (some, q), e0)), (v, m3, hv, (a4, m4, h4, (v', m5, h5, (a6, m6, h6, (over, m7, h7, (c, m8, h8, (a9, m9, h9, (e, r)))))))))) =
    subst (SetFits n) e (each-fits n v over c at some (keeps-index m6 over m7 h7) (option-fits n i m7 c m8 h8))

set-good : (n : ℕ) (x : Expr) → SetFits n x → Good n x
set-good n x q = record { again = λ m l. set-bare m x (q.at m l) }

set-primary : (n : ℕ) (x : Expr) → SetFits n x → Fits n 9 x
set-primary n x q = let e = (q.at n (omega arith)).primary in record { good = set-good n x q; tight = inl (omega arith) }

-- ---- primaries

reduction-good : (n k : ℕ) (x : Expr) (v : Word) (over : TypeExpr) (at : ℕ) → suc k ≡ n → Fits k 0 x → Again g.index (type_kinds over) (SameType over)
    → Good n (expr.All x v over at) × Good n (expr.Any x v over at)
reduction-good n k x v over at a h t = (record { again = go }, record { again = run })
  where
    go : (m : ℕ) → n ≤ m → Bare m (expr.All x v over at)
    go zero l = absurd (omega arith)
    go (suc m) l = all-bare m x v over at (fits-at k 0 x h m (omega arith)) t

    run : (m : ℕ) → n ≤ m → Bare m (expr.Any x v over at)
    run zero l = absurd (omega arith)
    run (suc m) l = any-bare m x v over at (fits-at k 0 x h m (omega arith)) t

reduction-fits : (n : ℕ) (make : Expr → Word → TypeExpr → ℕ → Expr) (x : Expr) (v : Word) (over : TypeExpr) (at : ℕ) → AnyOf ((ampersand, expr.All) ∷ (bar, expr.Any) ∷ []) make
    → Good n (expr.All x v over at) × Good n (expr.Any x v over at) → Fits n 9 (make x v over at)
reduction-fits n make x v over at (inl e) h =
    let P : (Expr → Word → TypeExpr → ℕ → Expr) → Type 0 = λ mk. Fits n 9 (mk x v over at) in
    subst P (sym e) (fitting n 9 (expr.All x v over at) (alone (reduction w.ampersand (spelled x) v over)) (spelled-All x v over at) (omega arith) h.0)
reduction-fits n make x v over at (inr (inl e)) h =
    let P : (Expr → Word → TypeExpr → ℕ → Expr) → Type 0 = λ mk. Fits n 9 (mk x v over at) in
    subst P (sym e) (fitting n 9 (expr.Any x v over at) (alone (reduction w.bar (spelled x) v over)) (spelled-Any x v over at) (omega arith) h.1)
reduction-fits n make x v over at (inr (inr e)) h = absurd e

reductions-fit : (n : ℕ) → Inside n → (ts : Tokens) (z : Expr) (rest : Tokens) → g.reduction f n (inner n) ts z rest → Fits n 9 z
reductions-fit n i ts z rest (make, m0, hm, (at, m1, ho, (x, m2, hx, (a3, m3, h3, (v, m4, hv, (a5, m5, h5, (over, m6, h6, (a7, m7, h7, (e, r))))))))) =
    let q = i.expr m1 x m2 hx in
    subst (Fits n 9) e (reduction-fits n make.0 x v over make.1 (an-entry-of ((ampersand, expr.All) ∷ (bar, expr.Any) ∷ []) ts make m0 hm)
    (reduction-good n q.0 x v over make.1 q.1 q.2 (keeps-index m5 over m6 h6)))

primaries-fit : (n : ℕ) → Inside n → AllFit n 9
primaries-fit n i ts z rest (inl (k, m0, h0, (e, r))) =
    subst (Fits n 9) e (fitting n 9 (expr.Number k.0 k.1) (alone (Number k.0 ∷ [])) (spelled-Number k.0 k.1) (omega arith) (record { again = λ m l. number-bare m k.0 k.1 }))
primaries-fit n i ts z rest (inr (inl (q, m0, h0, (e, r)))) =
    let w = paths-fit n i ts q m0 h0 in
    subst (Fits n 9) e (fitting n 9 (expr.Signal q) (alone (path_kinds q)) (spelled-Signal q) (omega arith) (record { again = λ m l. signal-bare m q (w.at m l) }))
primaries-fit n i ts z rest (inr (inr (inl (at, m0, ho, (x, m1, hx, (a2, m2, h2, (e, r))))))) =
    let q = i.expr m0 x m1 hx in subst (Fits n 9) e (enclosed n q.0 x q.1 q.2)
primaries-fit n i ts z rest (inr (inr (inr (inl h)))) = set-primary n z (sets-fit n i ts z rest h)
primaries-fit n i ts z rest (inr (inr (inr (inr h)))) = reductions-fit n i ts z rest h

comparisons-fit : (n : ℕ) → Inside n → AllFit n 7 → AllFit n 6
comparisons-fit n i h ts z rest (x, mid, hx, inl (o, m1, ho, (y, m2, hy, (e, r)))) =
    subst (Fits n 6) e (fitting n 6 (expr.Compare o.0 x y) (binary 6 (operator o.0) 7 (spelled x) (spelled y)) (spelled-Compare o.0 x y) (omega arith)
    (record { again = λ m l. compare-bare m o.0 x y (fits-at n 7 x (h ts x mid hx) m l) (fits-at n 7 y (h m1 y m2 hy) m l) }))
comparisons-fit n i h ts z rest (x, mid, hx, inr (inl (at, m1, ht, (s, m2, hs, (e, r))))) =
    let q = sets-fit n i m1 s m2 hs in
    subst (Fits n 6) e (fitting n 6 (expr.Within x s) (record { binding = 6; bare = within 7 (spelled x) ++ w.word_in ∷ within 9 (spelled s) }) (spelled-Within x s) (omega arith)
    (record { again = λ m l. within-bare m x s (fits-at n 7 x (h ts x mid hx) m l) (q.at m l) }))
comparisons-fit n i h ts z rest (x, mid, hx, inr (inr (e, r))) = subst (Fits n 6) e (looser n 6 7 x (omega arith) (h ts x mid hx))

-- ---- within any number of levels

negations-within : (n : ℕ) → Inside n → AllFit n 5
negations-within n i = negations-fit n i (comparisons-fit n i (remainders-fit n (sums-fit n (primaries-fit n i))))

expressions-within : (n : ℕ) → Inside n → AllFit n 0
expressions-within n i = expressions-fit n i (equivalences-fit n (implications-fit n (disjunctions-fit n (conjunctions-fit n (negations-within n i)))))

pub insides : (n : ℕ) → Inside n
insides zero = record { expr = λ ts x rest h. absurd h; negation = λ ts x rest h. absurd h; member = λ ts x rest h. absurd h }
insides (suc n) =
    let i = insides n in
    record {
      expr = λ ts x rest h. (n, refl, expressions-within n i ts x rest h);
      negation = λ ts x rest h. (n, refl, negations-within n i ts x rest h);
      member = λ ts x rest h. (n, refl, members-fit n (expressions-within n i) ts x rest h);
    }

-- what the rule of expressions spells is read again
pub expression-again : (n : ℕ) (ts : Tokens) (x : Expr) (rest : Tokens) → g.expr_rule f n (inner n) ts x rest → At 0 n x
expression-again n ts x rest h = fits-at n 0 x (expressions-within n (insides n) ts x rest h) n (omega arith)

-- and what the rule of sums spells
pub sum-again : (n : ℕ) (ts : Tokens) (x : Expr) (rest : Tokens) → g.sum f n (inner n) ts x rest → At 8 n x
sum-again n ts x rest h = fits-at n 8 x (sums-fit n (primaries-fit n (insides n)) ts x rest h) n (omega arith)

pub path-kept : (n : ℕ) (ts : Tokens) (x : Path) (rest : Tokens) → g.path_rule f n (inner n) ts x rest → Again (g.path_rule f n (inner n)) (path_kinds x) (SamePath x)
path-kept n ts x rest h = (paths-fit n (insides n) ts x rest h).at n (omega arith)
