-- What the rules of items spell is spelled again, at tokens whose offsets rise.
use Rattle.std.proofs.Common.{◌≡◌, ℕ, List, [], ◌∷◌, ◌++◌, map, inl, inr, refl, ap, sym, ◌∙◌, subst, append_assoc}
use Rattle.smv_core.specs.declared.token.TokenKind.TheVariants.{Ident}
use Rattle.smv_core.specs.declared.tree.Word.{Word}
use Rattle.smv_core.specs.declared.tree.Expr.{Expr}
use Rattle.smv_core.specs.declared.tree.Stmt.{Stmt}
use Rattle.smv_core.specs.declared.tree.Pair.{Pair}
use Rattle.smv_core.specs.declared.tree.Ref.{Ref}
use Rattle.smv_core.specs.declared.tree.Use.{Use}
use Rattle.smv_core.specs.declared.tree.Item.{Item}
use Rattle.smv_core.specs.declared.tree.Item.TheVariants as item
use Rattle.smv_core.specs.Signs.{colon, semicolon, comma}
use Rattle.smv_core.specs.Signs as w
use Rattle.smv_core.specs.Notation.{Tokens, Rule, many, placed}
use Rattle.smv_core.specs.Grammar as g
use Rattle.smv_print.specs.Written.{Kinds}
use Rattle.smv_print.specs.Written as s
use Rattle.smv_print.specs.Expressions.{expr_kinds}
use Rattle.smv_print.specs.Items.{bracket, brackets, ref_kinds, use_kinds, pair_kinds, subcase, cases, split, item_kinds}
use Rattle.smv_print.proofs.ItemLaws as k
use Rattle.law_print_and_parse.specs.Aside.{word_aside, type_aside, expr_aside, ref_aside, use_aside, pair_aside, item_aside}
use Rattle.law_print_and_parse.proofs.AsideItems as a
use Rattle.law_print_and_parse.proofs.Again.{Places, Reads, Again, anyhow, next, made, ended, left, right, regroup, sign, level}
use Rattle.law_print_and_parse.proofs.Keeps.{KeepsAt, Keeps, keeps-many, keeps-separated}
use Rattle.law_print_and_parse.proofs.Types.{name-again}
use Rattle.law_print_and_parse.proofs.Levels.{f, inner, SameExpr}
use Rattle.law_print_and_parse.proofs.Within.{expression-again, sum-again}
use Rattle.law_print_and_parse.proofs.Statements.{Bound, binder_aside}
use Rattle.law_print_and_parse.proofs.Branches.{inner-binder}
use Rattle.law_print_and_parse.proofs.Blocks.{simples-kept}
use Rattle.law_print_and_parse.proofs.References.{rising, keeps-bracket, keeps-ref, keeps-use}

-- ---- claims, splits and uses

keeps-brackets : (n : ℕ) → Keeps (many (g.in_brackets f n (inner n))) brackets (map word_aside)
unfolding brackets
keeps-brackets n = keeps-many {r = g.in_brackets f n (inner n)} bracket word_aside (keeps-bracket n)

abbrev ClaimAgain : ℕ → Item → Type 0
ClaimAgain n z = Again (g.claim f n (inner n)) (item_kinds z) (λ y. item_aside y ≡ item_aside z)

claim-same : (x y : Word) (vars vs : List Word) (body b : Expr) (at at' : ℕ) → word_aside y ≡ word_aside x → map word_aside vs ≡ map word_aside vars → SameExpr body b
    → item_aside (item.Claim y vs b at') ≡ item_aside (item.Claim x vars body at)
claim-same x y vars vs body b at at' p q r =
    a.item-Claim y vs b at' ∙ ap (λ (z : Word). item.Claim z (map word_aside vs) (expr_aside b) 0) p ∙ ap (λ (z : List Word). item.Claim (word_aside x) z (expr_aside b) 0) q
    ∙ ap (λ (z : Expr). item.Claim (word_aside x) (map word_aside vars) z 0) r ∙ sym (a.item-Claim x vars body at)

claim-kept : (n : ℕ) → Keeps (g.claim f n (inner n)) item_kinds item_aside
claim-kept n ts z rest (x, m0, hx, (vars, m1, hv, (a2, m2, h2, (a3, m3, h3, (a4, m4, h4, (body, m5, hb, (a6, m6, h6, (e, r)))))))) =
    subst (ClaimAgain n) e (regroup (sym (k.item-Claim x vars body x.at ∙ append_assoc (Ident x.name ∷ brackets vars) (colon ∷ w.word_assert ∷ w.word_G ∷ expr_kinds body) (semicolon ∷ [])))
    (next (name-again x) (λ y p. next (keeps-brackets n m0 vars m1 hv) (λ vs q. sign refl (λ _. sign refl (λ _. sign refl (λ _. next (expression-again n m4 body m5 hb) (λ b t. sign refl (λ _. ended
    (claim-same x y vars vs body b x.at y.at p q t))))))))))

no-primary : (n : ℕ) (x : Expr) (rest : Tokens) → g.prim f n (inner n) [] x rest → ⊥
no-primary n x rest (inl (k, m0, h, q)) = h
no-primary n x rest (inr (inl (p, m0, (y, m1, h, t), q))) = h
no-primary n x rest (inr (inr (inl (at, m0, (a1, m1, h, t), q)))) = h
no-primary n x rest (inr (inr (inr (inl (inl (at, m0, (a1, m1, h, t), q)))))) = h
no-primary n x rest (inr (inr (inr (inl (inr (at, m0, (a1, m1, h, t), q)))))) = h
no-primary n x rest (inr (inr (inr (inr (k, m0, h, q))))) = h

no-sum : (n : ℕ) (x : Expr) (rest : Tokens) → g.sum f n (inner n) [] x rest → ⊥
no-sum n x rest (y, m0, h, q) = no-primary n y m0 h

placed-again : {places : Places} {A : Type 0} {r : Rule A} {ks : Kinds} {P : A → Type 0} → ((x : A) (rest : Tokens) → r [] x rest → ⊥) → Reads places r ks P → Reads places (placed r) ks (λ y. P y.0)
placed-again {places} {A} {r = r} {ks} {P} none h = record { run = λ us rest w k. let y = h.run us rest w k in go us rest y.0 y.1 y.2 }
  where
    go : (us rest : Tokens) (x : A) → r us x rest → P x → (y : A × ℕ) × placed r us y rest × P y.0
    go [] rest x k p = absurd (none x rest k)
    go (t ∷ us) rest x k p = ((x, t.at), (k, refl), p)

pair-same : (p : Pair) (x : Expr) (y : Word) (at : ℕ) → SameExpr p.left x → word_aside y ≡ word_aside p.right → pair_aside (record { left = x; right = y; at = at }) ≡ pair_aside p
pair-same p x y at d e =
    ap (λ (z : Expr). let q : Pair = record { left = z; right = word_aside y; at = 0 } in q) d ∙ ap (λ (z : Word). let q : Pair = record { left = expr_aside p.left; right = z; at = 0 } in q) e

keeps-pair : (n : ℕ) → Keeps (g.pair f n (inner n)) pair_kinds pair_aside
keeps-pair n [] z rest (x, m0, h, q) = absurd h
keeps-pair n (t ∷ ts) z rest (x, m0, (hs, place), (a1, m1, h1, (y, m2, hy, (e, r)))) =
    let P : Pair → Type 0 = λ z. Again (g.pair f n (inner n)) (pair_kinds z) (λ y. pair_aside y ≡ pair_aside z) in
    let p : Pair = record { left = x.0; right = y; at = x.1 } in
    subst P e (next (placed-again (no-sum n) (sum-again n (t ∷ ts) x.0 m0 hs)) (λ v d. sign refl (λ _. made (name-again y) (λ u c. pair-same p v.0 u v.1 d c))))

abbrev Placed : ℕ → ℕ → Rule Item → Item → Type 0
Placed length n r z = Reads (rising length) r (item_kinds z) (λ y. item_aside y ≡ item_aside z)

pub split-kinds : (x : Word) (vars : List Word) (of : Ref) (pairs : List Pair)
    → split x vars of pairs ≡ w.word_subcase ∷ Ident x.name ∷ (brackets vars ++ w.word_of ∷ (ref_kinds of ++ cases pairs))
split-kinds x vars of pairs = append_assoc (subcase x vars) (ref_kinds of) (cases pairs) ∙ append_assoc (w.word_subcase ∷ Ident x.name ∷ brackets vars) (w.word_of ∷ []) (ref_kinds of ++ cases pairs)

split-same : (x y : Word) (vars vs : List Word) (of o : Ref) (pairs ps : List Pair) (at at' : ℕ) → word_aside y ≡ word_aside x → map word_aside vs ≡ map word_aside vars → ref_aside o ≡ ref_aside of
    → map pair_aside ps ≡ map pair_aside pairs → item_aside (item.Split y vs o ps at') ≡ item_aside (item.Split x vars of pairs at)
split-same x y vars vs of o pairs ps at at' p q r s =
    a.item-Split y vs o ps at' ∙ ap (λ (z : Word). item.Split z (map word_aside vs) (ref_aside o) (map pair_aside ps) 0) p
    ∙ ap (λ (z : List Word). item.Split (word_aside x) z (ref_aside o) (map pair_aside ps) 0) q ∙ ap (λ (z : Ref). item.Split (word_aside x) (map word_aside vars) z (map pair_aside ps) 0) r
    ∙ ap (λ (z : List Pair). item.Split (word_aside x) (map word_aside vars) (ref_aside of) z 0) s ∙ sym (a.item-Split x vars of pairs at)

split-kept : (length n : ℕ) → KeepsAt (rising length) (g.split f n (inner n)) item_kinds item_aside
split-kept length n ts z rest (at, m0, h0, (x, m1, hx, (vars, m2, hv, (a3, m3, h3, (of, m4, ho, (a5, m5, h5, (pairs, m6, hp, (a7, m7, h7, (e, r))))))))) =
    subst (Placed length n (g.split f n (inner n))) e (regroup (sym (k.item-Split x vars of pairs at ∙ split-kinds x vars of pairs))
    (sign refl (λ at'. next (anyhow (name-again x)) (λ y p. next (anyhow (keeps-brackets n m1 vars m2 hv)) (λ vs q. sign refl (λ _. next (keeps-ref length n m3 of m4 ho) (λ o t. sign refl (λ _.
    next (anyhow (keeps-separated {r = g.pair f n (inner n)} pair_kinds pair_aside (keeps-pair n) m5 pairs m6 hp)) (λ ps u. sign refl (λ _. ended (split-same x y vars vs of o pairs ps at at' p q t u)))))))))))

using-same : (us vs : List Use) (proves ps : List Ref) (at at' : ℕ) → map use_aside vs ≡ map use_aside us → map ref_aside ps ≡ map ref_aside proves → item_aside (item.Using vs ps at') ≡ item_aside (item.Using us proves at)
using-same us vs proves ps at at' p q =
    a.item-Using vs ps at' ∙ ap (λ (z : List Use). item.Using z (map ref_aside ps) 0) p ∙ ap (λ (z : List Ref). item.Using (map use_aside us) z 0) q ∙ sym (a.item-Using us proves at)

using-kept : (length n : ℕ) → KeepsAt (rising length) (g.using f n (inner n)) item_kinds item_aside
using-kept length n ts z rest (at, m0, h0, (us, m1, hu, (a2, m2, h2, (proves, m3, hp, (a4, m4, h4, (e, r)))))) =
    subst (Placed length n (g.using f n (inner n))) e
    (regroup (sym (k.item-Using us proves at ∙ append_assoc (w.word_using ∷ s.separated comma (map use_kinds us)) (w.word_prove ∷ s.separated comma (map ref_kinds proves)) (semicolon ∷ [])))
    (sign refl (λ at'. next (keeps-separated {r = g.use_rule f n (inner n)} use_kinds use_aside (keeps-use length n) m0 us m1 hu) (λ vs p. sign refl (λ _.
    next (keeps-separated {r = g.ref f n (inner n)} ref_kinds ref_aside (keeps-ref length n) m2 proves m3 hp) (λ ps q. sign refl (λ _. ended (using-same us vs proves ps at at' p q))))))))

-- ---- items

forall-same : (b c : Bound) (x y : Item) (at at' : ℕ) → binder_aside c ≡ binder_aside b → item_aside y ≡ item_aside x → item_aside (item.Forall c.0 c.1 y at') ≡ item_aside (item.Forall b.0 b.1 x at)
forall-same b c x y at at' p q =
    a.item-Forall c.0 c.1 y at' ∙ ap (λ (z : Bound). item.Forall z.0 z.1 (item_aside y) 0) p ∙ ap (λ (z : Item). item.Forall (word_aside b.0) (type_aside b.1) z 0) q ∙ sym (a.item-Forall b.0 b.1 x at)

pub item-kept : (length n : ℕ) → KeepsAt (rising length) (inner n).item item_kinds item_aside → KeepsAt (rising length) (g.item_rule f n (inner n)) item_kinds item_aside
item-kept length n i ts z rest (inl (at, m0, (a1, m1, ht, (u, m2, (some, q), e0)), (b, m3, hb, (x, m4, hx, (e, r))))) =
    subst (Placed length n (g.item_rule f n (inner n))) e
    (regroup (sym (k.item-Forall b.0 b.1 x at)) (left (level some refl (λ at'. next (anyhow (inner-binder n m0 b m3 hb)) (λ c p. made (i m3 x m4 hx) (λ y q. forall-same b c x y at at' p q))))))
item-kept length n i ts z rest (inr (inl (at, m0, (a1, m1, ht, (u, m2, (some, q), e0)), (items, m3, hi, (a4, m4, h4, (e, r)))))) =
    subst (Placed length n (g.item_rule f n (inner n))) e
    (regroup (sym (k.item-Block items)) (right (left (level some refl (λ _. next (keeps-many {r = (inner n).item} item_kinds item_aside i m0 items m3 hi) (λ ys d. sign refl (λ _. ended
    (a.item-Block ys ∙ ap (λ (zs : List Item). item.Block zs) d ∙ sym (a.item-Block items)))))))))
item-kept length n i ts z rest (inr (inr (inl h))) = right (right (left (anyhow (claim-kept n ts z rest h))))
item-kept length n i ts z rest (inr (inr (inr (inl h)))) = right (right (right (left (split-kept length n ts z rest h))))
item-kept length n i ts z rest (inr (inr (inr (inr (inl h))))) = right (right (right (right (left (using-kept length n ts z rest h)))))
item-kept length n i ts z rest (inr (inr (inr (inr (inr (x, m0, hx, (e, r))))))) =
    subst (Placed length n (g.item_rule f n (inner n))) e (regroup (sym (k.item-Act x)) (right (right (right (right (right (anyhow (made (simples-kept n ts x m0 hx) (λ y d.
    a.item-Act y ∙ ap (λ (v : Stmt). item.Act v) d.0 ∙ sym (a.item-Act x))))))))))
