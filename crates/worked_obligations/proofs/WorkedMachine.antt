-- The Tomasulo machine passes every premise.
use Rattle.std.proofs.Common.{◌≡◌, ◌≢◌, codes, ℕ, zero, suc, ◌<◌, ◌≤◌, List, [], ◌∷◌, ◌++◌, map, length, get_or, true, refl, sym, ap, subst, inr, rules, Option, Some, None, arith}
use Rattle.std.specs.List.{slice_get, list_any, zip}
use Rattle.smv_core.specs.Assignments.{Index, bare}
use Rattle.smv_core.specs.Conflicts.{are_both}
use Rattle.smv_core.specs.declared.flat.Simple.{Simple}
use Rattle.smv_core.specs.declared.flat.Simple.TheVariants.{Set}
use Rattle.smv_core.specs.declared.flat.SetInfo.{SetInfo}
use Rattle.smv_core.specs.declared.flat.Family.{Family}
use Rattle.smv_core.specs.declared.flat.Def.{Def}
use Rattle.smv_core.specs.declared.flat.Guard.{Guard}
use Rattle.smv_core.specs.declared.flat.Param.{Param}
use Rattle.smv_core.specs.declared.flat.DefBody.{DefBody, Nothing, If, First, Forall}
use Rattle.smv_core.specs.declared.flat.FlatExpr.{FlatExpr, And, Or, Choose}
use Rattle.law_obligations.specs.Sets.{Has, first, later}
use Rattle.law_obligations.specs.Bound.{HasVariable}
use Rattle.law_obligations.specs.FlatConflicts.{AreExcused, HasNoConflict}
use Rattle.law_obligations.specs.Whole.{IsWhole, IsWholeFlat}
use Rattle.law_obligations.specs.Covers.{AreApart, IsIndexType}
use Rattle.law_obligations.specs.Scopes.{ReadsOnly, before}
use Rattle.law_obligations.specs.Guards.{AreGuards}
use Rattle.law_obligations.specs.Soundness.{params_of, IsDefinition}
use Rattle.law_obligations.proofs.Computing.{computing}
use Rattle.law_obligations.specs.Outlines.{Entry, names_of, unit_in}
use Rattle.law_obligations.specs.Problems.{plan_of}
use Rattle.law_obligations.specs.Checked.{IsFilled, IsSplit, IsChecked}
use Rattle.worked_obligations.specs.WorkedTomasulo.{word, reg, tag, issue, go, slot, bt, src, dst, rd, iss, bv, opa, res, bw, dout, ir_resvd, ir_tag, ir_val, st_valid, st_ga, st_ta, st_va, r, aux_a, aux_res, aux_src, f, signals, undeclared, one, at, equal, not', i, num, set, set_at, when, always, stepwise, issued, is_returned, is_caught, tomasulo, rd1, va1, bw1, val1, machine_script}
use Rattle.law_obligations.proofs.Members.{one_of_one}

-- one after the other
abbrev pub AllOf : {X : Type 0} → (X → Type 0) → List X → Type 0
AllOf P [] = Unit {0}
AllOf P (x ∷ xs) = P x × AllOf P xs

lookup : {X : Type 0} (P : X → Type 0) (xs : List X) {x : X} → AllOf P xs → Has xs x → P x
lookup P [] all h = elim h [ ]
lookup P (x ∷ xs) all first = all.0
lookup P (x ∷ xs) all (later h) = lookup P xs all.1 h

-- a part of a definition under so many variables, for so many indexes
record IsGood (around count : ℕ) (part : DefBody) : Type 0 where
  conflict : HasNoConflict around count part
  whole : IsWholeFlat signals part

good_nothing : (around count : ℕ) → IsGood around count Nothing
good_nothing around count = record { conflict = tt; whole = tt }

good_set : (count : ℕ) (e : FlatExpr) → IsWhole signals e → IsGood 0 count (set e)
good_set count e w = record { conflict = (omega arith, λ k l. absurd (omega arith)); whole = ((λ d h. elim h [ ]), w) }

good_set_by : (index e : FlatExpr) → IsWhole signals index → IsWhole signals e → IsGood 0 1 (set_at index e)
good_set_by index e v w = record { conflict = (omega arith, λ k l. absurd (omega arith)); whole = ((λ d h. subst (IsWhole signals) (sym (one_of_one h)) v), w) }

variable : (k : ℕ) (e : FlatExpr) → k < 1 → HasVariable k 1 (set_at i e)
variable zero e l = (0, omega arith, 0, refl)
variable (suc k) e l = absurd (omega arith)

good_set_at : (e : FlatExpr) → IsWhole signals e → IsGood 1 1 (set_at i e)
good_set_at e w = record { conflict = (omega arith, λ k l. variable k e l); whole = ((λ d h. subst (IsWhole signals) (sym (one_of_one h)) tt), w) }

good_if : (around count : ℕ) (c : FlatExpr) (part : DefBody) → IsWhole signals c → IsGood around count part → IsGood around count (If c part Nothing)
unfolding computing
good_if around count c part w g = record { conflict = (g.conflict, tt, λ is js h k. elim k [ ]); whole = (w, g.whole, tt) }

good_forall : (t : Simple) (part : DefBody) → IsGood 1 1 part → IsGood 0 1 (Forall 0 t part)
unfolding computing
good_forall t part g = record { conflict = (refl, g.conflict); whole = g.whole }

-- two assignments to the element of the variable share it
shared : (k : ℕ) → k < 1 → list_any (λ (i, j). are_both k i j) (zip (bare 0 ∷ []) (bare 0 ∷ [])) ≡ true
shared zero l = refl
shared (suc k) l = absurd (omega arith)

both : (is js : List Index) → Has ((bare 0 ∷ []) ∷ []) is → Has ((bare 0 ∷ []) ∷ []) js → AreExcused 1 is js
both is js h k = subst (λ is. AreExcused 1 is js) (sym (one_of_one h)) (subst (AreExcused 1 (bare 0 ∷ [])) (sym (one_of_one k)) (inr shared))

good_two : (c d : List FlatExpr) (e g : FlatExpr) → IsGood 1 1 (when c (set_at i e)) → IsGood 1 1 (when d (set_at i g)) → IsGood 1 1 (First (when c (set_at i e) ∷ when d (set_at i g) ∷ []))
unfolding computing
good_two c d e g p q = record { conflict = (p.conflict, (q.conflict, tt, λ is js h k. elim k [ ]), both); whole = (p.whole, (q.whole, tt)) }

definition : (def : Def) (family : Family) → slice_get signals def.family ≡ Some family → IsGood 0 (length family.over) def.init → IsGood 0 (length family.over) def.next → IsGood 0 (length family.over) def.comb →
    IsDefinition (plan_of machine_script) def
definition def family e init next comb = record {
  family = family;
  is_family = e;
  is_conflict_free = record { init = init.conflict; next = next.conflict; comb = comb.conflict };
  is_whole = record { init = init.whole; next = next.whole; comb = comb.whole };
}

-- `:=` of a signal, also under a condition; of each element; and `init` and `next` of each element
by_set : (family place : ℕ) (layer : Option ℕ) (e : FlatExpr) (f : Family) → slice_get signals family ≡ Some f → IsWhole signals e → IsDefinition (plan_of machine_script) (always family layer (set e) place)
by_set family place layer e f is w = definition (always family layer (set e) place) f is (good_nothing 0 _) (good_nothing 0 _) (good_set _ e w)

by_if : (family place : ℕ) (layer : Option ℕ) (c e : FlatExpr) (f : Family) → slice_get signals family ≡ Some f → IsWhole signals c → IsWhole signals e → IsDefinition (plan_of machine_script) (always family layer (If c (set e) Nothing) place)
by_if family place layer c e f is v w = definition (always family layer (If c (set e) Nothing) place) f is (good_nothing 0 _) (good_nothing 0 _) (good_if 0 _ c (set e) v (good_set _ e w))

good_when : (c : List FlatExpr) (e : FlatExpr) → IsWhole signals (And c) → IsWhole signals e → IsGood 1 1 (when c (set_at i e))
good_when c e v w = good_if 1 1 (And c) (set_at i e) v (good_set_at e w)

are_definitions : AllOf (IsDefinition (plan_of machine_script)) tomasulo.defs
unfolding computing
are_definitions = (
  by_set iss 0 None (And (one issue ∷ not' (at st_valid (one slot)) ∷ [])) _ refl (search rules),
  (
    by_set bv 1 None (And (one go ∷ at st_valid (one bt) ∷ at st_ga (one bt) ∷ [])) _ refl (search rules),
    (
      by_set bw 2 None (at f (at st_va (one bt))) _ refl (search rules),
      (
        by_set dout 3 None (at ir_val (one rd)) _ refl (search rules),
        (
          definition (stepwise f None Nothing (Forall 0 word (set_at i (at f i))) 4) _ refl (good_nothing 0 1) (good_forall word (set_at i (at f i)) (good_set_at (at f i) (search rules))) (good_nothing 0 1),
          (
            definition (stepwise ir_resvd None (Forall 0 reg (set_at i (num 0))) (Forall 0 reg (First (when (issued (one dst)) (set_at i (num 1)) ∷ when is_returned (set_at i (num 0)) ∷ []))) 5) _ refl
                (good_forall reg (set_at i (num 0)) (good_set_at (num 0) tt)) (good_forall reg _ (good_two (issued (one dst)) is_returned (num 1) (num 0) (good_when (issued (one dst)) (num 1) (search rules) tt) (good_when is_returned (num 0) (search rules) tt))) (good_nothing 0 1),
            (
              definition (stepwise ir_val None Nothing (Forall 0 reg (when is_returned (set_at i (one bw)))) 7) _ refl (good_nothing 0 1) (good_forall reg _ (good_when is_returned (one bw) (search rules) (search rules))) (good_nothing 0 1),
              (
                definition (stepwise ir_tag None Nothing (Forall 0 reg (when (issued (one dst)) (set_at i (one slot)))) 9) _ refl (good_nothing 0 1) (good_forall reg _ (good_when (issued (one dst)) (one slot) (search rules) (search rules))) (good_nothing 0 1),
                (
                  definition (stepwise st_valid None (Forall 0 tag (set_at i (num 0))) (Forall 0 tag (First (when (issued (one slot)) (set_at i (num 1)) ∷ when (one bv ∷ equal (one bt) i ∷ []) (set_at i (num 0)) ∷ []))) 10) _ refl
                      (good_forall tag (set_at i (num 0)) (good_set_at (num 0) tt))
                      (good_forall tag _ (good_two (issued (one slot)) (one bv ∷ equal (one bt) i ∷ []) (num 1) (num 0) (good_when (issued (one slot)) (num 1) (search rules) tt) (good_when (one bv ∷ equal (one bt) i ∷ []) (num 0) (search rules) tt))) (good_nothing 0 1),
                  (
                    definition (stepwise st_ga None Nothing (Forall 0 tag (First (when (issued (one slot)) (set_at i (Or (not' (at ir_resvd (one src)) ∷ And (one bv ∷ equal (at ir_tag (one src)) (one bt) ∷ []) ∷ []))) ∷ when is_caught (set_at i (num 1)) ∷ []))) 12) _ refl
                        (good_nothing 0 1) (good_forall tag _ (good_two (issued (one slot)) is_caught (Or (not' (at ir_resvd (one src)) ∷ And (one bv ∷ equal (at ir_tag (one src)) (one bt) ∷ []) ∷ [])) (num 1)
                        (good_when (issued (one slot)) (Or (not' (at ir_resvd (one src)) ∷ And (one bv ∷ equal (at ir_tag (one src)) (one bt) ∷ []) ∷ [])) (search rules) (search rules)) (good_when is_caught (num 1) (search rules) tt))) (good_nothing 0 1),
                    (
                      definition (stepwise st_va None Nothing (Forall 0 tag (First (when (issued (one slot)) (set_at i (Choose (at ir_resvd (one src)) (one bw) (at ir_val (one src)))) ∷ when is_caught (set_at i (one bw)) ∷ []))) 13) _ refl
                          (good_nothing 0 1) (good_forall tag _ (good_two (issued (one slot)) is_caught (Choose (at ir_resvd (one src)) (one bw) (at ir_val (one src))) (one bw)
                          (good_when (issued (one slot)) (Choose (at ir_resvd (one src)) (one bw) (at ir_val (one src))) (search rules) (search rules)) (good_when is_caught (one bw) (search rules) (search rules)))) (good_nothing 0 1),
                      (
                        definition (stepwise st_ta None Nothing (Forall 0 tag (when (issued (one slot)) (set_at i (at ir_tag (one src))))) 16) _ refl (good_nothing 0 1) (good_forall tag _ (good_when (issued (one slot)) (at ir_tag (one src)) (search rules) (search rules))) (good_nothing 0 1),
                        (
                          by_set opa 18 (Some 0) (at r (one src)) _ refl (search rules),
                          (
                            by_set res 19 (Some 0) (at f (one opa)) _ refl (search rules),
                            (
                              definition (stepwise r (Some 0) (Forall 0 reg (set_at i (at ir_val i))) (If (one iss) (set_at (one dst) (one res)) Nothing) 20) _ refl
                                  (good_forall reg (set_at i (at ir_val i)) (good_set_at (at ir_val i) (search rules))) (good_if 0 1 (one iss) (set_at (one dst) (one res)) (search rules) (good_set_by (one dst) (one res) (search rules) (search rules))) (good_nothing 0 1),
                              (
                                definition (stepwise aux_a (Some 0) Nothing (Forall 0 tag (when (issued (one slot)) (set_at i (one opa)))) 22) _ refl (good_nothing 0 1) (good_forall tag _ (good_when (issued (one slot)) (one opa) (search rules) (search rules))) (good_nothing 0 1),
                                (
                                  definition (stepwise aux_res (Some 0) Nothing (Forall 0 tag (when (issued (one slot)) (set_at i (one res)))) 23) _ refl (good_nothing 0 1) (good_forall tag _ (good_when (issued (one slot)) (one res) (search rules) (search rules))) (good_nothing 0 1),
                                  (
                                    definition (stepwise aux_src (Some 0) Nothing (Forall 0 tag (when (issued (one slot)) (set_at i (one src)))) 24) _ refl (good_nothing 0 1) (good_forall tag _ (good_when (issued (one slot)) (one src) (search rules) (search rules))) (good_nothing 0 1),
                                    (
                                      by_if dout 25 (Some 0) (not' (at ir_resvd (one rd))) (at r (one rd)) _ refl (search rules) (search rules),
                                      (
                                        definition (always st_va (Some 1) (Forall 0 tag (when (at st_valid i ∷ at st_ga i ∷ []) (set_at i (at aux_a i)))) 26) _ refl (good_nothing 0 1) (good_nothing 0 1) (good_forall tag _ (good_when (at st_valid i ∷ at st_ga i ∷ []) (at aux_a i) (search rules) (search rules))),
                                        (
                                          by_if bw 27 (Some 1) (one bv) (at aux_res (one bt)) _ refl (search rules) (search rules),
                                          (
                                            definition (always ir_val (Some 1) (Forall 0 reg (If (not' (at ir_resvd i)) (set_at i (at r i)) Nothing)) 28) _ refl (good_nothing 0 1) (good_nothing 0 1) (good_forall reg _ (good_if 1 1 (not' (at ir_resvd i)) (set_at i (at r i)) (search rules) (good_set_at (at r i) (search rules)))),
                                            tt,
                                          ),
                                        ),
                                      ),
                                    ),
                                  ),
                                ),
                              ),
                            ),
                          ),
                        ),
                      ),
                    ),
                  ),
                ),
              ),
            ),
          ),
        ),
      ),
    ),
  ),
)

are_filled : AllOf (λ (family : Family). IsFilled tomasulo family.value) signals
are_filled = (omega arith, (omega arith, ((_, refl), ((_, refl), ((_, refl), ((_, refl), ((_, refl), (omega arith, (omega arith, ((_, refl), ((_, refl), ((_, refl), ((_, refl), (omega arith, ((_, refl), ((_, refl), (omega arith, (omega arith, ((_, refl), ((_, refl), ((_, refl), ((_, refl), ((_, refl), ((_, refl), ((_, refl), tt)))))))))))))))))))))))))

-- guards whose parameters rise from a number on
abbrev AreRising : ℕ → List Guard → Type 0
AreRising k [] = Unit {0}
AreRising k (g ∷ guards) = (k ≤ g.var) × AreRising (suc g.var) guards

at_least : (k : ℕ) (guards : List Guard) → AreRising k guards → (g : Guard) → Has guards g → k ≤ g.var
at_least k [] h g m = elim m [ ]
at_least k (x ∷ guards) h _ first = h.0
at_least k (x ∷ guards) h g (later m) = let l = at_least (suc x.var) guards h.1 g m in let here = h.0 in omega (arith, l, here)

one_each : (k : ℕ) (guards : List Guard) → AreRising k guards → (g h : Guard) → Has guards g → Has guards h → g.var ≡ h.var → g ≡ h
one_each k [] rising g h m n e = elim m [ ]
one_each k (x ∷ guards) rising _ _ first first e = refl
one_each k (x ∷ guards) rising _ h first (later n) e = absurd (let l = at_least (suc x.var) guards rising.1 h n in omega (arith, l, e))
one_each k (x ∷ guards) rising g _ (later m) first e = absurd (let l = at_least (suc x.var) guards rising.1 g m in omega (arith, l, e))
one_each k (x ∷ guards) rising g h (later m) (later n) e = one_each (suc x.var) guards rising.1 g h m n e

pub guards_are : (count : ℕ) (types : List Simple) (guards : List Guard) → AreRising count guards → AllOf (λ (g : Guard). (slice_get types g.var ≡ Some g.over) × ReadsOnly (before g.var) g.expr) guards → AreGuards count types guards
guards_are count types guards rising all = record {
  is_added = at_least count guards rising;
  is_of_type = λ g h. (lookup (λ (g : Guard). (slice_get types g.var ≡ Some g.over) × ReadsOnly (before g.var) g.expr) guards all h).0;
  reads_before = λ g h. (lookup (λ (g : Guard). (slice_get types g.var ≡ Some g.over) × ReadsOnly (before g.var) g.expr) guards all h).1;
  one_each = one_each count guards rising;
}

-- parameters over set types of the machine
set_there : (p : Param) → (k : ℕ) × (p.over ≡ Set k) × (k < 3) → IsIndexType p.over × IsFilled tomasulo p.over
set_there p (k, e, l) = rw e (tt, there k l)
  where
    there : (k : ℕ) → k < 3 → IsFilled tomasulo (Set k)
    there zero l = (_, refl)
    there (suc zero) l = (_, refl)
    there (suc (suc zero)) l = (_, refl)
    there (suc (suc (suc k))) l = absurd (omega arith)

abbrev IsOfSet : Param → Type 0
IsOfSet p = (k : ℕ) × (p.over ≡ Set k) × (k < 3)

split_is : (entry : Entry) (added : List Simple) → map (λ p. p.over) entry.leaf.params ≡ params_of (names_of tomasulo) (unit_in tomasulo entry.unit) ++ added → AllOf IsOfSet entry.leaf.params →
    AreGuards (length (params_of (names_of tomasulo) (unit_in tomasulo entry.unit))) (map (λ p. p.over) entry.leaf.params) entry.leaf.guards → IsSplit machine_script entry
split_is entry added e sets guards = record {
  added = added;
  are_params = e;
  are_index_types = λ p h. (set_there p (lookup IsOfSet entry.leaf.params sets h)).0;
  are_filled = λ p h. (set_there p (lookup IsOfSet entry.leaf.params sets h)).1;
  are_guards = guards;
}

are_split : AllOf (IsSplit machine_script) machine_script.entries
unfolding computing
are_split = (
  split_is rd1 (reg ∷ word ∷ []) refl ((1, refl, omega arith), ((0, refl, omega arith), tt))
      (guards_are 0 (reg ∷ word ∷ []) rd1.leaf.guards (omega arith, (omega arith, tt)) ((refl, search rules), ((refl, search rules), tt))),
  (
    split_is va1 (tag ∷ reg ∷ word ∷ []) refl ((2, refl, omega arith), ((2, refl, omega arith), ((1, refl, omega arith), ((0, refl, omega arith), tt))))
        (guards_are 1 (tag ∷ tag ∷ reg ∷ word ∷ []) va1.leaf.guards (omega arith, (omega arith, (omega arith, tt))) ((refl, search rules), ((refl, search rules), ((refl, search rules), tt)))),
    (
      split_is bw1 (tag ∷ word ∷ word ∷ []) refl ((2, refl, omega arith), ((0, refl, omega arith), ((0, refl, omega arith), tt)))
          (guards_are 0 (tag ∷ word ∷ word ∷ []) bw1.leaf.guards (omega arith, (omega arith, (omega arith, tt))) ((refl, search rules), ((refl, search rules), ((refl, search rules), tt)))),
      (
        split_is val1 (tag ∷ word ∷ []) refl ((1, refl, omega arith), ((2, refl, omega arith), ((0, refl, omega arith), tt)))
            (guards_are 1 (reg ∷ tag ∷ word ∷ []) val1.leaf.guards (omega arith, (omega arith, tt)) ((refl, search rules), ((refl, search rules), tt))),
        tt,
      ),
    ),
  ),
)

-- WORD, REG and TAG are three names
apart : AreApart tomasulo.sets
apart = (word_apart, (reg_apart, ((λ other h. elim h [ ]), tt)))
  where
    word_apart : (other : SetInfo) → Has (undeclared (codes "REG") ∷ undeclared (codes "TAG") ∷ []) other → codes "WORD" ≢ other.name
    word_apart _ first e = cc
    word_apart _ (later first) e = cc
    word_apart other (later (later h)) e = elim h [ ]

    reg_apart : (other : SetInfo) → Has (undeclared (codes "TAG") ∷ []) other → codes "REG" ≢ other.name
    reg_apart _ first e = let k : ◌≡◌ {A = ℕ} 82 84 = ap (λ name. get_or name 0 0) e in omega arith
    reg_apart other (later h) e = elim h [ ]

pub checked : IsChecked machine_script
checked = record {
  are_apart = apart;
  are_filled = λ family h. lookup (λ (family : Family). IsFilled tomasulo family.value) signals are_filled h;
  are_whole = λ claim h. elim h [ ];
  are_definitions = λ def h. lookup (IsDefinition (plan_of machine_script)) tomasulo.defs are_definitions h;
  are_split = λ entry h. lookup (IsSplit machine_script) machine_script.entries are_split h;
}
