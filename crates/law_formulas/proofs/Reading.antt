-- The claim and the definitions of a formula's monitors, read in a state.
use Rattle.std.proofs.Math.Bool.{and-true, or-false, not-not}
use Rattle.law_lists.proofs.Booleans.{left_of, right_of, impossible, and_assoc}
use Rattle.std.proofs.lemmas.Bool.{cases_Bool, or_left, or_right, or_cases, not-true, not_from_false}
use Rattle.std.proofs.Common.{◌≡◌, ◌⊎◌, inl, inr, ℕ, zero, suc, List, [], ◌∷◌, ◌++◌, map, Option, Some, None, Bool, true, false, not, ◌&&◌, ◌||◌, cond, Contains, ne_eqb, refl, sym, ap, ◌∙◌, subst, arith, true≢false}
use Rattle.std.specs.List.{AllByRecursion}
use Rattle.smv_core.specs.Values.{Name, number, constant, scalar, ordinal, Outcome, Truth, truth, bit, equal, not_of, and_of, or_of, implies_of, conjunction, disjunction, implication}
use Rattle.smv_core.specs.Outcome.{State, Scene, Bindings, outcome, truths, is_true, fit}
use Rattle.smv_core.specs.declared.tree.Expr.{Expr, Number, Signal, Signal', Not, And, And', Or, Or', Implies, Implies', Compare, Row_of-Expr, end_of-Expr, more_of-Expr, items-the_row-Expr, items_hidden-the_row-Expr-2}
use mathlib.Core.Former.{Count}
use Rattle.smv_core.specs.Grammar.{chain}
use Rattle.law_formulas.specs.Formulas.{Formula, now, next, when, weak, Is}
use Rattle.law_formulas.specs.Steps.{is_false, HasMarks, goes_on, is_met, Asked, stepped}
use Rattle.law_formulas.specs.Monitors.{Stage, outset, under, behind, implied, lasting, monitor, started, reached, front_of, definitions, claim_of}
use Rattle.law_formulas.specs.Laws.{Reads, may_be_one, bits_by, IsBit, ClaimIsWhatIsAsked, DefinitionsKeepInMind}
use Rattle.law_formulas.proofs.Watching.{is_one, one-is}

-- ---- truth values

truth-bit : (u : Truth) → truth (bit u) ≡ u
truth-bit None = refl
truth-bit (Some true) = refl
truth-bit (Some false) = refl

false-and : (u v : Truth) → is_false (and_of u v) ≡ is_false u || is_false v
false-and (Some false) v = refl
false-and (Some true) (Some false) = refl
false-and (Some true) (Some true) = refl
false-and (Some true) None = refl
false-and None (Some false) = refl
false-and None (Some true) = refl
false-and None None = refl

false-or : (u v : Truth) → is_false (or_of u v) ≡ is_false u && is_false v
false-or (Some true) v = refl
false-or (Some false) (Some false) = refl
false-or (Some false) (Some true) = refl
false-or (Some false) None = refl
false-or None (Some false) = refl
false-or None (Some true) = refl
false-or None None = refl

true-or : (u v : Truth) → is_true (or_of u v) ≡ is_true u || is_true v
true-or (Some true) v = refl
true-or (Some false) (Some false) = refl
true-or (Some false) (Some true) = refl
true-or (Some false) None = refl
true-or None (Some false) = refl
true-or None (Some true) = refl
true-or None None = refl

true-implies : (u v : Truth) → is_true (implies_of u v) ≡ is_false u || is_true v
true-implies (Some false) v = refl
true-implies (Some true) (Some true) = refl
true-implies (Some true) (Some false) = refl
true-implies (Some true) None = refl
true-implies None (Some true) = refl
true-implies None (Some false) = refl
true-implies None None = refl

false-not : (u : Truth) → is_false (not_of u) ≡ is_true u
false-not (Some true) = refl
false-not (Some false) = refl
false-not None = refl

-- `~ (c = 0)` is 0 exactly where c is 0
lasts : (u : Outcome) → is_false (truth (bit (not_of (truth (bit (equal u (Some (number 0)))))))) ≡ is_false (truth u)
lasts None = refl
lasts (Some (number zero)) = refl
lasts (Some (number (suc zero))) = refl
lasts (Some (number (suc (suc n)))) = ap (λ x. is_false (truth (bit (not_of (truth (bit (Some x))))))) (ne_eqb (suc (suc n)) 0 (λ e. omega (arith, e)))
lasts (Some (constant a)) = refl
lasts (Some (scalar t n)) = refl
lasts (Some (ordinal t n)) = refl

-- ---- truth values of two, by their cases

not-or : (a b : Bool) → not (a || b) ≡ not a && not b
not-or true b = refl
not-or false b = refl

one_more-out : (out goes met : Bool) → out || (not goes || met) ≡ not (not out && goes) || met
one_more-out true goes met = refl
one_more-out false goes met = refl

-- ---- outcomes

module _ (scene : Scene) (b : Bindings) (s : State) where
  abbrev t : Expr → Truth
  t e = truth (outcome scene s e b)

  abbrev exprs_in : Expr → (n : Count) × Row_of-Expr n
  exprs_in (And' shape row) = (_, row)
  exprs_in (Or' shape row) = (_, row)
  exprs_in (Implies' shape row) = (_, row)
  exprs_in _ = (_, end_of-Expr)

  truths-map : (n : _) (row : Row_of-Expr n) → truths scene s row b ≡ map t (items-the_row-Expr n row)
  truths-map n end_of-Expr = refl
  truths-map n (more_of-Expr e rest) = ap (λ l. t e ∷ l) (truths-map _ rest)

  t-And : (es : List Expr) → t (And es) ≡ conjunction (map t es)
  t-And es = truth-bit (conjunction (truths scene s (exprs_in (And es)).1 b)) ∙ ap conjunction (truths-map (exprs_in (And es)).0 (exprs_in (And es)).1 ∙ ap (map t) (items_hidden-the_row-Expr-2 es))

  t-Or : (es : List Expr) → t (Or es) ≡ disjunction (map t es)
  t-Or es = truth-bit (disjunction (truths scene s (exprs_in (Or es)).1 b)) ∙ ap disjunction (truths-map (exprs_in (Or es)).0 (exprs_in (Or es)).1 ∙ ap (map t) (items_hidden-the_row-Expr-2 es))

  t-Implies : (es : List Expr) → t (Implies es) ≡ implication (map t es)
  t-Implies es = truth-bit (implication (truths scene s (exprs_in (Implies es)).1 b)) ∙ ap implication (truths-map (exprs_in (Implies es)).0 (exprs_in (Implies es)).1 ∙ ap (map t) (items_hidden-the_row-Expr-2 es))

  t-Not : (e : Expr) (at : ℕ) → t (Not e at) ≡ not_of (t e)
  unfolding Rattle.smv_core.specs.declared.tree.Expr.TheBlock.hidden-the_row-Expr-1 Rattle.smv_core.specs.declared.tree.Expr.TheBlock.shape-the_row-Expr-1 denote.Hole.Carrier.hidden
  t-Not e at = truth-bit (not_of (t e))

  false-lasting : (c : Expr) → is_false (t (lasting c)) ≡ is_false (t c)
  unfolding Rattle.smv_core.specs.declared.tree.Expr.TheBlock.hidden-the_row-Expr-1 Rattle.smv_core.specs.declared.tree.Expr.TheBlock.shape-the_row-Expr-1 denote.Hole.Carrier.hidden
  false-lasting c = lasts (outcome scene s c b)

  -- none of the conditions is out
  abbrev goes : List Expr → Bool
  goes [] = true
  goes (c ∷ cs) = goes_on scene b c s && goes cs

  goes-more : (cs : List Expr) (c : Expr) → goes (cs ++ c ∷ []) ≡ goes cs && goes_on scene b c s
  goes-more [] c = and-true (goes_on scene b c s)
  goes-more (d ∷ cs) c = ap (λ x. goes_on scene b d s && x) (goes-more cs c) ∙ sym (and_assoc (goes_on scene b d s) (goes cs) (goes_on scene b c s))

  conjunction-goes : (es : List Expr) → not (is_false (conjunction (map t es))) ≡ goes es
  conjunction-goes [] = refl
  conjunction-goes (e ∷ es) = ap not (false-and (t e) (conjunction (map t es))) ∙ not-or (is_false (t e)) (is_false (conjunction (map t es))) ∙ ap (λ x. goes_on scene b e s && x) (conjunction-goes es)

  goes-lasting : (cs : List Expr) → goes (map lasting cs) ≡ goes cs
  goes-lasting [] = refl
  goes-lasting (c ∷ cs) = rw (false-lasting c, goes-lasting cs) refl

  module _ (vars : List Name) where
    -- the stage was reached and goes on
    abbrev here : Stage → Bool
    here stage = not (is_false (t (started vars stage.start))) && goes stage.conditions

    chain-goes : (e : Expr) (es : List Expr) → not (is_false (t (chain And e es))) ≡ goes (e ∷ es)
    chain-goes e [] = sym (and-true (goes_on scene b e s))
    chain-goes e (d ∷ es) = ap (λ u. not (is_false u)) (t-And (e ∷ d ∷ es)) ∙ conjunction-goes (e ∷ d ∷ es)

    reached-here : (stage : Stage) → not (is_false (t (reached vars stage))) ≡ here stage
    reached-here stage = chain-goes (started vars stage.start) (map lasting stage.conditions) ∙ ap (λ x. goes_on scene b (started vars stage.start) s && x) (goes-lasting stage.conditions)

    here-under : (stage : Stage) (c : Expr) → here (under stage c) ≡ here stage && goes_on scene b c s
    here-under stage c =
        ap (λ x. goes_on scene b (started vars stage.start) s && x) (goes-more stage.conditions c)
        ∙ sym (and_assoc (goes_on scene b (started vars stage.start) s) (goes stage.conditions) (goes_on scene b c s))

    -- ---- the claim

    t-implied : (es : List Expr) (e : Expr) → t (implied (es ++ e ∷ [])) ≡ implication (map t (es ++ e ∷ []))
    t-implied [] e = refl
    t-implied (c ∷ []) e = t-Implies (c ∷ e ∷ [])
    t-implied (c ∷ d ∷ es) e = t-Implies (c ∷ d ∷ (es ++ e ∷ []))

    implication-cons : (c : Expr) (es : List Expr) (e : Expr) → implication (map t (c ∷ es ++ e ∷ [])) ≡ implies_of (t c) (implication (map t (es ++ e ∷ [])))
    implication-cons c [] e = refl
    implication-cons c (d ∷ es) e = refl

    true-implication : (es : List Expr) (e : Expr) → is_true (implication (map t (es ++ e ∷ []))) ≡ not (goes es) || is_met scene b e s
    true-implication [] e = refl
    true-implication (c ∷ es) e =
        ap is_true (implication-cons c es e) ∙ true-implies (t c) (implication (map t (es ++ e ∷ [])))
        ∙ ap (λ x. is_false (t c) || x) (true-implication es e) ∙ one_more-out (is_false (t c)) (goes es) (is_met scene b e s)

    now-claim : (stage : Stage) (e : Expr) → is_true (t (implied (front_of vars stage.start ++ stage.conditions ++ e ∷ []))) ≡ not (here stage) || is_met scene b e s
    now-claim stage e = by_start stage.start
      where
        by_start : (start : Option Name) → is_true (t (implied (front_of vars start ++ stage.conditions ++ e ∷ []))) ≡ not (not (is_false (t (started vars start))) && goes stage.conditions) || is_met scene b e s
        by_start None = ap is_true (t-implied stage.conditions e) ∙ true-implication stage.conditions e
        by_start (Some m) = ap is_true (t-implied (monitor vars m ∷ stage.conditions) e) ∙ true-implication (monitor vars m ∷ stage.conditions) e

    lasting-mark : (mark : Bool) → not (is_false (Some mark)) ≡ mark
    lasting-mark true = refl
    lasting-mark false = refl

    mark-false : (mark : Bool) → is_false (Some mark) ≡ not mark
    mark-false true = refl
    mark-false false = refl

    t-monitor : (m : Name) (mark : Bool) → outcome scene s (monitor vars m) b ≡ bit (Some mark) → t (monitor vars m) ≡ Some mark
    t-monitor m mark h = ap truth h ∙ truth-bit (Some mark)

    here-behind : (m : Name) (mark : Bool) → outcome scene s (monitor vars m) b ≡ bit (Some mark) → here (behind m) ≡ mark
    here-behind m mark h = and-true (not (is_false (t (monitor vars m)))) ∙ ap (λ u. not (is_false u)) (t-monitor m mark h) ∙ lasting-mark mark

    -- the stage was reached and goes on, or W waits
    false-begun : (stage : Stage) (w : Name) (waits : Bool) → outcome scene s (monitor vars w) b ≡ bit (Some waits) →
        is_false (t (Or (reached vars stage ∷ monitor vars w ∷ []))) ≡ not (here stage) && (not waits && true)
    false-begun stage w waits h =
        ap is_false (t-Or (reached vars stage ∷ monitor vars w ∷ [])) ∙ false-or (t (reached vars stage)) (or_of (t (monitor vars w)) (Some false))
        ∙ ap (λ x. is_false (t (reached vars stage)) && x) (false-or (t (monitor vars w)) (Some false))
        ∙ two (is_false (t (reached vars stage))) (not (here stage)) (is_false (t (monitor vars w))) (not waits) (sym (not-not (is_false (t (reached vars stage)))) ∙ ap not (reached-here stage)) (ap is_false (t-monitor w waits h) ∙ mark-false waits)
      where
        two : (x y u v : Bool) → x ≡ y → u ≡ v → x && (u && true) ≡ y && (v && true)
        two x y u v e k = rw (e, k) refl

    true-either : (p q : Expr) → is_true (t (Or (q ∷ p ∷ []))) ≡ is_met scene b q s || (is_met scene b p s || false)
    true-either p q = ap is_true (t-Or (q ∷ p ∷ [])) ∙ true-or (t q) (or_of (t p) (Some false)) ∙ ap (λ x. is_true (t q) || x) (true-or (t p) (Some false))

    weak-claim : (stage : Stage) (w : Name) (waits : Bool) (p q : Expr) → outcome scene s (monitor vars w) b ≡ bit (Some waits) →
        is_true (t (Implies (Or (reached vars stage ∷ monitor vars w ∷ []) ∷ Or (q ∷ p ∷ []) ∷ []))) ≡ (not (here stage) && (not waits && true)) || (is_met scene b q s || (is_met scene b p s || false))
    weak-claim stage w waits p q h =
        ap is_true (t-Implies (Or (reached vars stage ∷ monitor vars w ∷ []) ∷ Or (q ∷ p ∷ []) ∷ [])) ∙ true-implies (t (Or (reached vars stage ∷ monitor vars w ∷ []))) (t (Or (q ∷ p ∷ [])))
        ∙ two _ _ _ _ (false-begun stage w waits h) (true-either p q)
      where
        two : (x y u v : Bool) → x ≡ y → u ≡ v → x || u ≡ y || v
        two x y u v e k = rw (e, k) refl

    -- what the claim says and what is asked, in the two directions
    abbrev Same : Expr → Formula → Bool → List Bool → Type 0
    Same e f front marks = (Is scene b e s → Asked scene b f front marks s) × (Asked scene b f front marks s → Is scene b e s)

    met : (e : Expr) → is_true (t e) ≡ true → Is scene b e s
    met e h = is_one (outcome scene s e b) h

    is-met : (e : Expr) → Is scene b e s → is_true (t e) ≡ true
    is-met e h = one-is (outcome scene s e b) h

    abbrev now_of : Stage → Expr → Expr
    now_of stage e = implied (front_of vars stage.start ++ stage.conditions ++ e ∷ [])

    abbrev begun_of : Stage → Name → Expr
    begun_of stage w = Or (reached vars stage ∷ monitor vars w ∷ [])

    abbrev weak_of : Stage → Name → Expr → Expr → Expr
    weak_of stage w p q = Implies (begun_of stage w ∷ Or (q ∷ p ∷ []) ∷ [])

    abbrev out_of : Stage → Bool → Bool
    out_of stage waits = not (here stage) && (not waits && true)

    abbrev either_of : Expr → Expr → Bool
    either_of p q = is_met scene b q s || (is_met scene b p s || false)

    say-now : (stage : Stage) (e : Expr) (marks : List Bool) → Same (implied (front_of vars stage.start ++ stage.conditions ++ e ∷ [])) (now e) (here stage) marks
    say-now stage e marks = (λ h k. there (or_cases (not (here stage)) (is_met scene b e s) (sym (now-claim stage e) ∙ is-met (now_of stage e) h)) k, λ asked. met (now_of stage e) (now-claim stage e ∙ back (cases_Bool (here stage)) asked))
      where
        there : (not (here stage) ≡ true) ⊎ (is_met scene b e s ≡ true) → here stage ≡ true → Is scene b e s
        there (inl stops) k = impossible (here stage) k (not-true (here stage) stops)
        there (inr y) k = met e y

        back : (here stage ≡ true) ⊎ (here stage ≡ false) → (here stage ≡ true → Is scene b e s) → not (here stage) || is_met scene b e s ≡ true
        back (inl k) asked = or_right (not (here stage)) (is_met scene b e s) (is-met e (asked k))
        back (inr stops) asked = or_left (not (here stage)) (is_met scene b e s) (not_from_false (here stage) stops)

    say-weak : (stage : Stage) (w : Name) (waits : Bool) (marks : List Bool) (p q : Expr) → outcome scene s (monitor vars w) b ≡ bit (Some waits) →
        Same (Implies (Or (reached vars stage ∷ monitor vars w ∷ []) ∷ Or (q ∷ p ∷ []) ∷ [])) (weak p q) (here stage) (waits ∷ marks)
    say-weak stage w waits marks p q h = (λ k e. there (or_cases (out_of stage waits) (either_of p q) (sym (weak-claim stage w waits p q h) ∙ is-met (weak_of stage w p q) k)) e, λ asked. met (weak_of stage w p q) (weak-claim stage w waits p q h ∙ back (cases_Bool (here stage || waits)) asked))
      where
        begun : (out_of stage waits) ≡ true → (here stage ≡ true) ⊎ (waits ≡ true) → Is scene b q s ⊎ Is scene b p s
        begun stops (inl k) = impossible (here stage) k (not-true (here stage) (left_of (not (here stage)) (not waits && true) stops))
        begun stops (inr k) = impossible waits k (not-true waits (left_of (not waits) true (right_of (not (here stage)) (not waits && true) stops)))

        one_of : (is_met scene b q s ≡ true) ⊎ (is_met scene b p s || false ≡ true) → Is scene b q s ⊎ Is scene b p s
        one_of (inl x) = inl (met q x)
        one_of (inr x) = inr (met p (sym (or-false (is_met scene b p s)) ∙ x))

        there : ((out_of stage waits) ≡ true) ⊎ ((either_of p q) ≡ true) → here stage || waits ≡ true → Is scene b q s ⊎ Is scene b p s
        there (inl stops) e = begun stops (or_cases (here stage) waits e)
        there (inr y) e = one_of (or_cases (is_met scene b q s) (is_met scene b p s || false) y)

        said : Is scene b q s ⊎ Is scene b p s → (either_of p q) ≡ true
        said (inl x) = or_left (is_met scene b q s) (is_met scene b p s || false) (is-met q x)
        said (inr x) = or_right (is_met scene b q s) (is_met scene b p s || false) (or_left (is_met scene b p s) false (is-met p x))

        none : (a c : Bool) → a || c ≡ false → not a && (not c && true) ≡ true
        none true c e = absurd (true≢false e)
        none false true e = absurd (true≢false e)
        none false false e = refl

        back : (here stage || waits ≡ true) ⊎ (here stage || waits ≡ false) → (here stage || waits ≡ true → Is scene b q s ⊎ Is scene b p s) → (out_of stage waits) || (either_of p q) ≡ true
        back (inl k) asked = or_right (out_of stage waits) (either_of p q) (said (asked k))
        back (inr stops) asked = or_left (out_of stage waits) (either_of p q) (none (here stage) waits stops)

    pub say : (f : Formula) (names : List Name) (marks : List Bool) (stage : Stage) → HasMarks f marks → Reads scene b s vars names marks → Same (claim_of vars names stage f) f (here stage) marks
    say (now e) names marks stage has reads = say-now stage e marks
    say (next at f) names [] stage has reads = absurd has
    say (next at f) [] (mark ∷ marks) stage has reads = absurd reads
    say (next at f) (m ∷ names) (mark ∷ marks) stage has reads = subst (λ h. Same (claim_of vars names (behind m) f) f h marks) (here-behind m mark reads.0) (say f names marks (behind m) has reads.1)
    say (when c f) names marks stage has reads = subst (λ h. Same (claim_of vars names (under stage c) f) f h marks) (here-under stage c) (say f names marks (under stage c) has reads)
    say (weak p q) names [] stage has reads = absurd has
    say (weak p q) [] (waits ∷ marks) stage has reads = absurd reads
    say (weak p q) (w ∷ names) (waits ∷ marks) stage has reads = say-weak stage w waits marks p q reads.0

    -- ---- the definitions

    waits-on : (h w q : Bool) → not ((not h && (not w && true)) || (q || false)) ≡ (h || w) && not q
    waits-on true w true = refl
    waits-on true w false = refl
    waits-on false true true = refl
    waits-on false true false = refl
    waits-on false false q = refl

    waiting : (stage : Stage) (w : Name) (waits : Bool) (q : Expr) → outcome scene s (monitor vars w) b ≡ bit (Some waits) →
        not (is_false (t (And (Or (reached vars stage ∷ monitor vars w ∷ []) ∷ Not q 0 ∷ [])))) ≡ (here stage || waits) && not (is_met scene b q s)
    waiting stage w waits q h =
        ap (λ u. not (is_false u)) (t-And ((begun_of stage w) ∷ Not q 0 ∷ [])) ∙ ap not (false-and (t (begun_of stage w)) (and_of (t (Not q 0)) (Some true)))
        ∙ ap not (two _ _ _ _ (false-begun stage w waits h) (false-and (t (Not q 0)) (Some true) ∙ ap (λ x. x || false) (ap is_false (t-Not q 0) ∙ false-not (t q))))
        ∙ waits-on (here stage) waits (is_met scene b q s)
      where
        two : (x y u v : Bool) → x ≡ y → u ≡ v → x || u ≡ y || v
        two x y u v e k = rw (e, k) refl

    pub kept : (f : Formula) (names : List Name) (marks : List Bool) (stage : Stage) → HasMarks f marks → Reads scene b s vars names marks →
        map (λ d. may_be_one scene b s vars d.1) (definitions vars names stage f) ≡ stepped scene b f (here stage) marks s
    kept (now e) names marks stage has reads = refl
    kept (next at f) names [] stage has reads = absurd has
    kept (next at f) [] (mark ∷ marks) stage has reads = absurd reads
    kept (next at f) (m ∷ names) (mark ∷ marks) stage has reads =
        both _ _ _ _ (reached-here stage) (kept f names marks (behind m) has reads.1 ∙ ap (λ h. stepped scene b f h marks s) (here-behind m mark reads.0))
      where
        both : (x y : Bool) (xs ys : List Bool) → x ≡ y → xs ≡ ys → x ∷ xs ≡ y ∷ ys
        both x y xs ys e k = rw (e, k) refl
    kept (when c f) names marks stage has reads = kept f names marks (under stage c) has reads ∙ ap (λ h. stepped scene b f h marks s) (here-under stage c)
    kept (weak p q) names [] stage has reads = absurd has
    kept (weak p q) [] (waits ∷ marks) stage has reads = absurd reads
    kept (weak p q) (w ∷ names) (waits ∷ marks) stage has reads = ap (λ x. x ∷ []) (waiting stage w waits q reads.0)

    -- neither a set nor a choice, and no other value than a bit
    abbrev IsPlain : Expr → Type 0
    IsPlain e = (bits_by scene b s vars e ≡ fit (number 0 ∷ number 1 ∷ []) (outcome scene s e b ∷ [])) × ((u : Truth) × (outcome scene s e b ≡ bit u))

    plain-bit : (m : Name) (e : Expr) → IsPlain e → IsBit scene b s vars (m, e)
    plain-bit m e (p, (u, h)) =
        let all : bits_by scene b s vars e ≡ fit (number 0 ∷ number 1 ∷ []) (bit u ∷ []) = p ∙ ap (λ o. fit (number 0 ∷ number 1 ∷ []) (o ∷ [])) h in
        let may : may_be_one scene b s vars e ≡ not (is_false u) = ap (λ o. not (is_false (truth o))) h ∙ ap (λ v. not (is_false v)) (truth-bit u) in
        (λ c. may ∙ only u (subst (λ l. Contains l (number 1)) all c), subst (λ l. Contains l (cond (may_be_one scene b s vars e) (number 1) (number 0))) (sym all) (subst (λ x. Contains (fit (number 0 ∷ number 1 ∷ []) (bit u ∷ [])) (cond x (number 1) (number 0))) (sym may) (some u)))
      where
        only : (v : Truth) → Contains (fit (number 0 ∷ number 1 ∷ []) (bit v ∷ [])) (number 1) → not (is_false v) ≡ true
        only None c = refl
        only (Some true) c = refl
        only (Some false) (zero, l, e) = cc
        only (Some false) (suc k, l, e) = absurd (omega (arith, l))

        some : (v : Truth) → Contains (fit (number 0 ∷ number 1 ∷ []) (bit v ∷ [])) (cond (not (is_false v)) (number 1) (number 0))
        some None = (1, omega arith, refl)
        some (Some true) = (0, omega arith, refl)
        some (Some false) = (0, omega arith, refl)

    plain-And : (es : List Expr) → IsPlain (And es)
    plain-And es = (refl, (conjunction (truths scene s (exprs_in (And es)).1 b), refl))

    plain-monitor : (m : Name) (mark : Bool) → outcome scene s (monitor vars m) b ≡ bit (Some mark) → IsPlain (monitor vars m)
    plain-monitor m mark h = (refl, (Some mark, h))

    plain-reached : (stage : Stage) → IsPlain (started vars stage.start) → IsPlain (reached vars stage)
    plain-reached stage h = by_conditions stage.conditions
      where
        by_conditions : (cs : List Expr) → IsPlain (chain And (started vars stage.start) (map lasting cs))
        by_conditions [] = h
        by_conditions (c ∷ cs) = plain-And (started vars stage.start ∷ lasting c ∷ map lasting cs)

    pub bits : (f : Formula) (names : List Name) (marks : List Bool) (stage : Stage) → IsPlain (started vars stage.start) → HasMarks f marks → Reads scene b s vars names marks →
        AllByRecursion (IsBit scene b s vars) (definitions vars names stage f)
    bits (now e) names marks stage plain has reads = tt
    bits (next at f) names [] stage plain has reads = absurd has
    bits (next at f) [] (mark ∷ marks) stage plain has reads = absurd reads
    bits (next at f) (m ∷ names) (mark ∷ marks) stage plain has reads = (plain-bit m (reached vars stage) (plain-reached stage plain), bits f names marks (behind m) (plain-monitor m mark reads.0) has reads.1)
    bits (when c f) names marks stage plain has reads = bits f names marks (under stage c) plain has reads
    bits (weak p q) names [] stage plain has reads = absurd has
    bits (weak p q) [] (waits ∷ marks) stage plain has reads = absurd reads
    bits (weak p q) (w ∷ names) (waits ∷ marks) stage plain has reads = (plain-bit w (And (Or (reached vars stage ∷ monitor vars w ∷ []) ∷ Not q 0 ∷ [])) (plain-And (Or (reached vars stage ∷ monitor vars w ∷ []) ∷ Not q 0 ∷ [])), tt)

pub claim : ClaimIsWhatIsAsked
claim scene b s vars names f marks has reads = say scene b s vars f names marks outset has reads

pub definitions-keep : DefinitionsKeepInMind
definitions-keep scene b s vars names f marks has reads = (kept scene b s vars f names marks outset has reads, bits scene b s vars f names marks outset (refl, (Some true, refl)) has reads)
