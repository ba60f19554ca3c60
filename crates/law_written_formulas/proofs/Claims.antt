-- What is written for a formula spells its claim and the definitions of its monitors.
use Rattle.std.proofs.Common.{◌≡◌, ◌≤◌, ◌+◌, ℕ, suc, List, [], ◌∷◌, ◌++◌, map, flat_map, codes, Option, Some, None, true, refl, sym, ap, ◌∙◌, subst, arith}
use Rattle.std.proofs.lemmas.List.{append-nil}
use Rattle.std.proofs.lemmas.List.Concat.{flat_map-cons}
use Rattle.std.specs.List.{AllByRecursion, AllZip}
use Rattle.smv_core.specs.Values.{Name}
use Rattle.smv_core.specs.declared.token.TokenKind.{TokenKind}
use Rattle.smv_core.specs.declared.token.TokenKind.TheVariants.{Ident, Number}
use Rattle.smv_core.specs.declared.tree.Word.{Word}
use Rattle.smv_core.specs.declared.tree.Expr.{Expr}
use Rattle.smv_core.specs.declared.tree.Expr.TheVariants as expr
use Rattle.smv_core.specs.declared.tree.Part.{Part}
use Rattle.smv_core.specs.declared.tree.Part.TheVariants as part
use Rattle.smv_core.specs.Signs.{open_bracket, close_bracket, tilde, ampersand, bar, arrow}
use Rattle.smv_core.specs.Notation.{Rule, nothing, ◌>>◌, many, token, name, same_kind}
use Rattle.smv_core.specs.Grammar as g
use Rattle.smv_core.specs.Grammar.{below, chain, named}
use Rattle.law_places.specs.Placeless.{placeless}
use Rattle.law_spelled_alike.specs.Local.{SameName}
use Rattle.law_spelled_alike.proofs.Alike.{spelled-alike}
use Rattle.law_spelled_alike.proofs.Combining.{same_kinds}
use Rattle.law_spelled_alike.proofs.Expressions.{PartBy, named-same}
use Rattle.law_spelled_alike.proofs.Plain.{SameExpr, SamePath, unmarked, field}
use Rattle.law_spelled_alike.proofs.PlacelessForms.{placeless_forms}
use Rattle.law_exchanged.proofs.Before.{more-levels, spelled-before}
use Rattle.law_formulas.specs.Formulas.{Formula, now, next, when, weak}
use Rattle.law_formulas.specs.Monitors as m
use Rattle.law_translated_texts.specs.Parts.{Phrase, Now, Next, When, Weak}
use Rattle.law_translated_texts.specs.Phrases.{Pieces, in_parens, whole, implied, lasting, Stage, outset, under, behind, monitor, started, reached, reached_or, front_of, claim_of, definitions}
use Rattle.law_written_formulas.specs.Kinds.{kinds_in}
use Rattle.law_written_formulas.specs.Laws.{ReadsAside, AreRead, IsNamed, WritesAside, IsDefined, ClaimsAreWritten, DefinitionsAreWritten}
use Rattle.law_written_formulas.proofs.Writing.{Sp, z, sp-kinds, sp-nothing, sp-seq, sp-end, sp-right, sp-name, sp-after, sp-open, sp-none, sp-more, sp-many_none}
use Rattle.law_written_formulas.proofs.WrittenExpressions.{Prim, Negation, Conjunction, Disjunction, Implication, Expression, Is, prim-parens, prim-number, prim-path, negation-prim, conjunction-prim, disjunction-one, disjunction-prim, implication-one, implication-all, expression-of, expression-prim, and-part, no-part, conjunction-all, disjunction-all, negation-not, negation-lasting}
use Rattle.law_written_formulas.proofs.Pieces.{K, k-one, k-parens, k-whole, k-lasting, k-sign, k-joined, k-more, bracketed, k-monitor, and-kind, or-kind, arrow-kind, not-kind, one-kind, k-cons}

-- ---- parts

-- within so many levels or more
abbrev pub IsPartAt : ℕ → List ℕ → Expr → Type 0
IsPartAt k bytes e = (j : ℕ) → k ≤ j → Is (Expression j) (kinds_in bytes) e

part-at : (k : ℕ) (bytes : List ℕ) (e : Expr) → ReadsAside k bytes e → IsPartAt k bytes e
part-at k bytes e (ts, kinds, (x, spelled, same)) j le us rest all q eq =
    let y = spelled-alike k j le ts us x spelled (q ∙ kinds) in
    (y.0, subst (λ l. Expression j l y.0 rest) (sym eq) (spelled-before j j (omega arith) us y.0 y.1 rest), same ∙ y.2)

-- ---- paths

path-same : (x y : Word) (xs ys : List Part) → x.name ≡ y.name → AllZip (PartBy placeless) xs ys → SamePath (named x xs) (named y ys)
path-same = named-same (same_kinds (λ k. Unit {0})) (unmarked (λ k. Unit {0}) (λ k q. tt)) placeless_forms (field (λ k. Unit {0}) (λ k q. tt))

path-alone : (n : ℕ) (x : Word) → Sp SamePath (g.path_rule z n (below z n)) (Ident x.name ∷ []) (named x [])
path-alone n x = sp-end SameName SamePath name _ (Ident x.name ∷ []) x (named x []) (sp-name x) (λ y p. sp-many_none SamePath (g.part_rule z n (below z n)) _ [] (named x []) (sp-nothing SamePath (named x []) (named y []) (path-same x y [] [] p tt)))

abbrev index_of : Name → Part
index_of var = part.At (expr.Signal (named (m.word_of var) []))

path-part : (n : ℕ) (var : Name) → Sp (PartBy placeless) (g.part_rule z (suc n) (below z (suc n))) (open_bracket ∷ Ident var ∷ close_bracket ∷ []) (index_of var)
path-part n var =
    let e = expr.Signal (named (m.word_of var) []) in
    sp-right (PartBy placeless) _ _ _ (index_of var) (sp-open (PartBy placeless) (suc n) (omega arith) open_bracket refl _ (Ident var ∷ close_bracket ∷ []) (index_of var)
    (sp-seq SameExpr (PartBy placeless) (Expression n) _ (Ident var ∷ []) (close_bracket ∷ []) e (index_of var) (expression-prim n _ e (prim-path n _ (named (m.word_of var) []) (path-alone n (m.word_of var))))
    (λ x p. sp-after (PartBy placeless) close_bracket refl (nothing (part.At x)) [] (index_of var) (sp-nothing (PartBy placeless) (index_of var) (part.At x) (ap part.At p)))))

path-parts : (n : ℕ) (vars : List Name) → Sp (AllZip (PartBy placeless)) (many (g.part_rule z (suc n) (below z (suc n)))) (bracketed vars) (map index_of vars)
path-parts n [] = sp-none (PartBy placeless) (g.part_rule z (suc n) (below z (suc n)))
path-parts n (var ∷ vars) = sp-kinds (AllZip (PartBy placeless)) _ _ (bracketed (var ∷ vars)) (index_of var ∷ map index_of vars) (sym (flat_map-cons (λ (v : Name). open_bracket ∷ Ident v ∷ close_bracket ∷ []) var vars)) (sp-more (PartBy placeless) _ (open_bracket ∷ Ident var ∷ close_bracket ∷ []) (bracketed vars) (index_of var) (map index_of vars) (path-part n var) (path-parts n vars))

pub monitor-path : (n : ℕ) (vars : List Name) (w : Name) → Sp SamePath (g.path_rule z (suc n) (below z (suc n))) (Ident w ∷ bracketed vars) (m.path_of vars w)
monitor-path n vars w = sp-seq SameName SamePath name _ (Ident w ∷ []) (bracketed vars) (m.word_of w) (m.path_of vars w) (sp-name (m.word_of w))
    (λ y p. sp-end (AllZip (PartBy placeless)) SamePath (many (g.part_rule z (suc n) (below z (suc n)))) _ (bracketed vars) (map index_of vars) (m.path_of vars w) (path-parts n vars) (λ ys q. sp-nothing SamePath (m.path_of vars w) (named y ys) (path-same (m.word_of w) y (map index_of vars) ys p q)))

-- ---- pieces

-- the pieces are written so that they spell the expression
abbrev pub Wr : Rule Expr → Pieces → Expr → Type 0
Wr r ps e = Is r (K ps) e

wr-parens : (n : ℕ) (ps : Pieces) (e : Expr) → Wr (Expression n) ps e → Wr (Prim (suc n)) (in_parens ps) e
wr-parens n ps e u = sp-kinds SameExpr (Prim (suc n)) _ (K (in_parens ps)) e (sym (k-parens ps)) (prim-parens n (K ps) e u)

wr-whole : (k n : ℕ) → k ≤ n → (bytes : List ℕ) (e : Expr) → IsPartAt k bytes e → Wr (Prim (suc n)) (whole bytes) e
wr-whole k n le bytes e u = sp-kinds SameExpr (Prim (suc n)) _ (K (whole bytes)) e (sym (k-whole bytes)) (prim-parens n (kinds_in bytes) e (u n le))

wr-lasting : (n : ℕ) (bytes : List ℕ) (c : Expr) → IsPartAt n bytes c → Wr (Negation (suc (suc (suc n)))) (lasting bytes) (m.lasting c)
wr-lasting n bytes c u = sp-kinds SameExpr (Negation (suc (suc (suc n)))) _ (K (lasting bytes)) (m.lasting c) (sym (k-lasting bytes)) (negation-lasting n (kinds_in bytes) c (u n (omega arith)))

wr-one : (n : ℕ) → Wr (Prim n) (codes "1" ∷ []) (expr.Number 1 0)
wr-one n = sp-kinds SameExpr (Prim n) (Number 1 ∷ []) (K (codes "1" ∷ [])) (expr.Number 1 0) (sym (k-one (codes "1") ∙ one-kind)) (prim-number n 1)

-- all of them, each behind a sign
wr-more : (sign : List ℕ) (s : TokenKind) → same_kind s s ≡ true → kinds_in sign ≡ s ∷ [] → (r : Rule Expr) (pss : List Pieces) (es : List Expr) → AllZip (Wr r) pss es → Sp (AllZip SameExpr) (many (token s >> r)) (K (flat_map (λ qs. sign ∷ qs) pss)) es
wr-more sign s same kind r [] [] h = no-part s r
wr-more sign s same kind r (ps ∷ pss) (e ∷ es) h = sp-kinds (AllZip SameExpr) (many (token s >> r)) _ _ (e ∷ es) (sym (k-more sign s ps pss kind)) (and-part s same r (K ps) _ e es h.0 (wr-more sign s same kind r pss es h.1))
wr-more sign s same kind r [] (e ∷ es) h = absurd h
wr-more sign s same kind r (ps ∷ pss) [] h = absurd h

implication-of : (n : ℕ) (ps : Pieces) (e : Expr) → Wr (Prim n) ps e → Wr (Expression n) ps e
implication-of n ps e u = expression-prim n (K ps) e u

wr-implied : (n : ℕ) (pss : List Pieces) (es : List Expr) → AllZip (Wr (Prim n)) pss es → Wr (Expression n) (implied pss) (m.implied es)
wr-implied n [] [] h = implication-of n (codes "1" ∷ []) (expr.Number 1 0) (wr-one n)
wr-implied n (ps ∷ pss) (e ∷ es) h = expression-of n _ _ (sp-kinds SameExpr (Implication n) _ _ (chain expr.Implies e es) (sym (k-joined (codes "->") ps pss))
    (implication-all n (K ps) _ e es (disjunction-prim n (K ps) e h.0) (wr-more (codes "->") arrow refl arrow-kind (Disjunction n) pss es (zip-weaker pss es h.1))))
  where
    zip-weaker : (pss : List Pieces) (es : List Expr) → AllZip (Wr (Prim n)) pss es → AllZip (Wr (Disjunction n)) pss es
    zip-weaker [] [] h = tt
    zip-weaker (ps ∷ pss) (e ∷ es) h = (disjunction-prim n (K ps) e h.0, zip-weaker pss es h.1)
    zip-weaker [] (e ∷ es) h = absurd h
    zip-weaker (ps ∷ pss) [] h = absurd h
wr-implied n [] (e ∷ es) h = absurd h
wr-implied n (ps ∷ pss) [] h = absurd h

-- what is spelled wherever it stands is spelled alone
alone : (n : ℕ) (ps : Pieces) (e : Expr) → Wr (Expression n) ps e → WritesAside n ps e
alone n ps e u us q = u us [] us q (sym (append-nil us))

more-aside : (n k : ℕ) → n ≤ k → (ps : Pieces) (e : Expr) → WritesAside n ps e → WritesAside k ps e
more-aside n k le ps e u us q = let x = u us q in (x.0, more-levels n k le us x.0 x.1, x.2)

-- ---- stages

module _ (k : ℕ) (vars : List Name) (vars_named : AllByRecursion IsNamed vars) where
  abbrev more : ℕ
  more = suc (suc (suc k))

  wr-monitor : (n : ℕ) (w : Name) → IsNamed w → Wr (Prim (suc n)) (monitor vars w) (m.monitor vars w)
  wr-monitor n w is = sp-kinds SameExpr (Prim (suc n)) _ (K (monitor vars w)) (m.monitor vars w) (sym (k-monitor vars vars_named w is)) (prim-path (suc n) _ (m.path_of vars w) (monitor-path n vars w))

  -- the monitor before a stage is a name
  abbrev StartNamed : Option Name → Type 0
  StartNamed None = Unit {0}
  StartNamed (Some w) = IsNamed w

  pub record IsStage (s : Stage) (t : m.Stage) : Type 0 where
    pub start : s.start ≡ t.start
    pub start_named : StartNamed t.start
    pub conditions : AllZip (IsPartAt k) s.conditions t.conditions

  wr-started : (n : ℕ) (o : Option Name) → StartNamed o → Wr (Prim (suc n)) (started vars o) (m.started vars o)
  wr-started n None is = wr-one (suc n)
  wr-started n (Some w) is = wr-monitor n w is

  wr-lastings : (bs : Pieces) (cs : List Expr) → AllZip (IsPartAt k) bs cs → AllZip (Wr (Negation more)) (map lasting bs) (map m.lasting cs)
  wr-lastings [] [] h = tt
  wr-lastings (b ∷ bs) (c ∷ cs) h = (wr-lasting k b c h.0, wr-lastings bs cs h.1)
  wr-lastings [] (c ∷ cs) h = absurd h
  wr-lastings (b ∷ bs) [] h = absurd h

  pub wr-reached : (s : Stage) (t : m.Stage) → IsStage s t → Wr (Conjunction more) (reached vars s) (m.reached vars t)
  wr-reached s t h = sp-kinds SameExpr (Conjunction more) _ (K (reached vars s)) (m.reached vars t) (sym (k-joined (codes "&") (started vars s.start) (map lasting s.conditions)))
      (conjunction-all more (K (started vars s.start)) _ (m.started vars t.start) (map m.lasting t.conditions)
      (negation-prim more _ _ (subst (λ o. Wr (Prim more) (started vars o) (m.started vars t.start)) (sym h.start) (wr-started (suc (suc k)) t.start h.start_named)))
      (wr-more (codes "&") ampersand refl and-kind (Negation more) (map lasting s.conditions) (map m.lasting t.conditions) (wr-lastings s.conditions t.conditions h.conditions)))

  -- `x | y`
  wr-or : (n : ℕ) (ps qs : Pieces) (e d : Expr) → Wr (Conjunction n) ps e → Wr (Conjunction n) qs d → Wr (Expression n) (ps ++ codes "|" ∷ qs) (expr.Or (e ∷ d ∷ []))
  wr-or n ps qs e d u v =
      let both : Is (Disjunction n) (K ps ++ bar ∷ (K qs ++ [])) (chain expr.Or e (d ∷ [])) = disjunction-all n (K ps) (bar ∷ (K qs ++ [])) e (d ∷ []) u (and-part bar refl (Conjunction n) (K qs) [] d [] v (no-part bar (Conjunction n))) in
      expression-of n _ _ (implication-one n _ _ (sp-kinds SameExpr (Disjunction n) _ (K (ps ++ codes "|" ∷ qs)) (expr.Or (e ∷ d ∷ [])) (ap (λ j. K ps ++ bar ∷ j) (append-nil (K qs)) ∙ sym (k-sign ps (codes "|") bar qs or-kind)) both))

  pub wr-reached_or : (w : Name) → IsNamed w → (s : Stage) (t : m.Stage) → IsStage s t → Wr (Prim (suc more)) (reached_or vars w s) (expr.Or (m.reached vars t ∷ m.monitor vars w ∷ []))
  wr-reached_or w is s t h = wr-parens more (reached vars s ++ codes "|" ∷ monitor vars w) (expr.Or (m.reached vars t ∷ m.monitor vars w ∷ [])) (wr-or more (reached vars s) (monitor vars w) (m.reached vars t) (m.monitor vars w) (wr-reached s t h) (conjunction-prim more _ _ (wr-monitor (suc (suc k)) w is)))

  -- ---- stages of a formula

  pub outset-is : IsStage outset m.outset
  outset-is = record { start = refl; start_named = tt; conditions = tt }

  zip-append : {A B : Type 0} (R : A → B → Type 0) (xs : List A) (ys : List B) (us : List A) (vs : List B) → AllZip R xs ys → AllZip R us vs → AllZip R (xs ++ us) (ys ++ vs)
  zip-append R [] [] us vs p q = q
  zip-append R (x ∷ xs) (y ∷ ys) us vs p q = (p.0, zip-append R xs ys us vs p.1 q)
  zip-append R [] (y ∷ ys) us vs p q = absurd p
  zip-append R (x ∷ xs) [] us vs p q = absurd p

  pub under-is : (s : Stage) (t : m.Stage) → IsStage s t → (b : List ℕ) (c : Expr) → IsPartAt k b c → IsStage (under s b) (m.under t c)
  under-is s t h b c u = record { start = h.start; start_named = h.start_named; conditions = zip-append (IsPartAt k) s.conditions t.conditions (b ∷ []) (c ∷ []) h.conditions (u, tt) }

  pub behind-is : (w : Name) → IsNamed w → IsStage (behind w) (m.behind w)
  behind-is w is = record { start = refl; start_named = is; conditions = tt }

  -- ---- the claim

  wr-front : (o : Option Name) → StartNamed o → AllZip (Wr (Prim (suc more))) (front_of vars o) (m.front_of vars o)
  wr-front None is = tt
  wr-front (Some w) is = (wr-monitor more w is, tt)

  wr-wholes : (bs : Pieces) (cs : List Expr) → AllZip (IsPartAt k) bs cs → AllZip (Wr (Prim (suc more))) (map whole bs) cs
  wr-wholes [] [] h = tt
  wr-wholes (b ∷ bs) (c ∷ cs) h = (wr-whole k more (omega arith) b c h.0, wr-wholes bs cs h.1)
  wr-wholes [] (c ∷ cs) h = absurd h
  wr-wholes (b ∷ bs) [] h = absurd h

  pub claim-written : (names : List Name) → AllByRecursion IsNamed names → (f : Formula) (p : Phrase (List ℕ)) → AreRead k f p → (s : Stage) (t : m.Stage) → IsStage s t → Wr (Expression (suc more)) (claim_of vars names s p) (m.claim_of vars names t f)
  claim-written names is (now e) (Now b) r s t h = wr-implied (suc more) _ _ (subst (λ o. AllZip (Wr (Prim (suc more))) (front_of vars o ++ map whole s.conditions ++ whole b ∷ []) (m.front_of vars t.start ++ t.conditions ++ e ∷ [])) (sym h.start)
      (zip-append (Wr (Prim (suc more))) (front_of vars t.start ++ map whole s.conditions) (m.front_of vars t.start ++ t.conditions) (whole b ∷ []) (e ∷ []) (zip-append (Wr (Prim (suc more))) (front_of vars t.start) (m.front_of vars t.start) (map whole s.conditions) t.conditions (wr-front t.start h.start_named) (wr-wholes s.conditions t.conditions h.conditions)) (wr-whole k more (omega arith) b e (part-at k b e r), tt)))
  claim-written [] is (next at f) (Next p) r s t h = implication-of (suc more) (codes "1" ∷ []) (expr.Number 1 0) (wr-one (suc more))
  claim-written (w ∷ names) is (next at f) (Next p) r s t h = claim-written names is.1 f p r (behind w) (m.behind w) (behind-is w is.0)
  claim-written names is (when c f) (When b p) r s t h = claim-written names is f p r.1 (under s b) (m.under t c) (under-is s t h b c (part-at k b c r.0))
  claim-written [] is (weak e d) (Weak a b) r s t h = implication-of (suc more) (codes "1" ∷ []) (expr.Number 1 0) (wr-one (suc more))
  claim-written (w ∷ names) is (weak e d) (Weak a b) r s t h =
      let held : Wr (Prim (suc more)) (in_parens (whole b ++ codes "|" ∷ whole a)) (expr.Or (d ∷ e ∷ [])) = wr-parens more (whole b ++ codes "|" ∷ whole a) (expr.Or (d ∷ e ∷ [])) (wr-or more (whole b) (whole a) d e (conjunction-prim more (K (whole b)) d (wr-whole k (suc (suc k)) (omega arith) b d (part-at k b d r.1))) (conjunction-prim more (K (whole a)) e (wr-whole k (suc (suc k)) (omega arith) a e (part-at k a e r.0)))) in
      let first = reached_or vars w s in
      let second = in_parens (whole b ++ codes "|" ∷ whole a) in
      let one = expr.Or (m.reached vars t ∷ m.monitor vars w ∷ []) in
      let two = expr.Or (d ∷ e ∷ []) in
      let both = implication-all (suc more) (K first) (arrow ∷ (K second ++ [])) one (two ∷ []) (disjunction-prim (suc more) (K first) one (wr-reached_or w is.0 s t h)) (and-part arrow refl (Disjunction (suc more)) (K second) [] two [] (disjunction-prim (suc more) (K second) two held) (no-part arrow (Disjunction (suc more)))) in
      expression-of (suc more) (K (first ++ codes "->" ∷ second)) (expr.Implies (one ∷ two ∷ [])) (sp-kinds SameExpr (Implication (suc more)) (K first ++ arrow ∷ (K second ++ [])) (K (first ++ codes "->" ∷ second)) (expr.Implies (one ∷ two ∷ [])) (ap (λ j. K first ++ arrow ∷ j) (append-nil (K second)) ∙ sym (k-sign first (codes "->") arrow second arrow-kind)) both)
  claim-written names is (now e) (Next p) r s t h = absurd r
  claim-written names is (now e) (When b p) r s t h = absurd r
  claim-written names is (now e) (Weak a b) r s t h = absurd r
  claim-written names is (next at f) (Now b) r s t h = absurd r
  claim-written names is (next at f) (When b p) r s t h = absurd r
  claim-written names is (next at f) (Weak a b) r s t h = absurd r
  claim-written names is (when c f) (Now b) r s t h = absurd r
  claim-written names is (when c f) (Next p) r s t h = absurd r
  claim-written names is (when c f) (Weak a b) r s t h = absurd r
  claim-written names is (weak e d) (Now b) r s t h = absurd r
  claim-written names is (weak e d) (Next p) r s t h = absurd r
  claim-written names is (weak e d) (When b p) r s t h = absurd r

  -- ---- the definitions

  wr-next : (w : Name) → IsNamed w → (b : List ℕ) (d : Expr) → IsPartAt k b d → (s : Stage) (t : m.Stage) → IsStage s t →
      Wr (Expression (suc more)) (reached_or vars w s ++ codes "&" ∷ codes "~" ∷ whole b) (expr.And (expr.Or (m.reached vars t ∷ m.monitor vars w ∷ []) ∷ expr.Not d 0 ∷ []))
  wr-next w is b d u s t h =
      let first = reached_or vars w s in
      let kinds : K (first ++ codes "&" ∷ codes "~" ∷ whole b) ≡ K first ++ ampersand ∷ tilde ∷ K (whole b) = k-sign first (codes "&") ampersand (codes "~" ∷ whole b) and-kind ∙ ap (λ j. K first ++ ampersand ∷ j) (k-cons (codes "~") (whole b) (tilde ∷ []) not-kind) in
      let last = negation-not more (K (whole b)) d (negation-prim more _ _ (wr-whole k (suc (suc k)) (omega arith) b d u)) in
      let both = conjunction-all (suc more) (K first) (ampersand ∷ ((tilde ∷ K (whole b)) ++ [])) _ (expr.Not d 0 ∷ []) (negation-prim (suc more) _ _ (wr-reached_or w is s t h)) (and-part ampersand refl (Negation (suc more)) (tilde ∷ K (whole b)) [] (expr.Not d 0) [] last (no-part ampersand (Negation (suc more)))) in
      expression-of (suc more) _ _ (implication-one (suc more) _ _ (disjunction-one (suc more) _ _ (sp-kinds SameExpr (Conjunction (suc more)) _ _ _ (ap (λ j. K first ++ ampersand ∷ j) (append-nil (tilde ∷ K (whole b))) ∙ sym kinds) both)))

  wr-first : (s : Stage) (t : m.Stage) → IsStage s t → WritesAside (suc more) (reached vars s) (m.reached vars t)
  wr-first s t h = more-aside more (suc more) (omega arith) (reached vars s) (m.reached vars t) (alone more (reached vars s) (m.reached vars t) (expression-of more _ _ (implication-one more _ _ (disjunction-one more _ _ (wr-reached s t h)))))

  pub definitions-of : (names : List Name) → AllByRecursion IsNamed names → (f : Formula) (p : Phrase (List ℕ)) → AreRead k f p → (s : Stage) (t : m.Stage) → IsStage s t → AllZip (IsDefined (suc more)) (definitions vars names s p) (m.definitions vars names t f)
  definitions-of names is (now e) (Now b) r s t h = tt
  definitions-of [] is (next at f) (Next p) r s t h = tt
  definitions-of (w ∷ names) is (next at f) (Next p) r s t h = ((refl, wr-first s t h), definitions-of names is.1 f p r (behind w) (m.behind w) (behind-is w is.0))
  definitions-of names is (when c f) (When b p) r s t h = definitions-of names is f p r.1 (under s b) (m.under t c) (under-is s t h b c (part-at k b c r.0))
  definitions-of [] is (weak e d) (Weak a b) r s t h = tt
  definitions-of (w ∷ names) is (weak e d) (Weak a b) r s t h = ((refl, alone (suc more) (reached_or vars w s ++ codes "&" ∷ codes "~" ∷ whole b) (expr.And (expr.Or (m.reached vars t ∷ m.monitor vars w ∷ []) ∷ expr.Not d 0 ∷ [])) (wr-next w is.0 b d (part-at k b d r.1) s t h)), tt)
  definitions-of names is (now e) (Next p) r s t h = absurd r
  definitions-of names is (now e) (When b p) r s t h = absurd r
  definitions-of names is (now e) (Weak a b) r s t h = absurd r
  definitions-of names is (next at f) (Now b) r s t h = absurd r
  definitions-of names is (next at f) (When b p) r s t h = absurd r
  definitions-of names is (next at f) (Weak a b) r s t h = absurd r
  definitions-of names is (when c f) (Now b) r s t h = absurd r
  definitions-of names is (when c f) (Next p) r s t h = absurd r
  definitions-of names is (when c f) (Weak a b) r s t h = absurd r
  definitions-of names is (weak e d) (Now b) r s t h = absurd r
  definitions-of names is (weak e d) (Next p) r s t h = absurd r
  definitions-of names is (weak e d) (When b p) r s t h = absurd r

four : (n : ℕ) → suc (suc (suc (suc n))) ≡ 4 + n
four n = omega arith

pub claims-written : ClaimsAreWritten
claims-written n vars names f p vars_named is r = subst (λ j. WritesAside j (claim_of vars names outset p) (m.claim_of vars names m.outset f)) (four n) (alone (suc (suc (suc (suc n)))) (claim_of vars names outset p) (m.claim_of vars names m.outset f) (claim-written n vars vars_named names is f p r outset m.outset (outset-is n vars vars_named)))

pub definitions-written : DefinitionsAreWritten
definitions-written n vars names f p vars_named is r = subst (λ j. AllZip (IsDefined j) (definitions vars names outset p) (m.definitions vars names m.outset f)) (four n) (definitions-of n vars vars_named names is f p r outset m.outset (outset-is n vars vars_named))
