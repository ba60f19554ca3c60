-- What verdicts say, and that there is one.
use Rattle.std.proofs.Common.{◌≡◌, ℕ, zero, suc, ◌+◌, ◌*◌, List, [], ◌∷◌, ◌++◌, true, false, refl, sym, ap, subst, ◌∙◌, Some, None, arith}
use Rattle.std.specs.List.{slice_get, AllZip}
use Rattle.law_lists.proofs.Booleans.{clash as true_false}
use Rattle.smv_core.specs.declared.flat.Class.{Class}
use Rattle.smv_bits.specs.declared.Bits.{Bits}
use Rattle.smv_bits.specs.declared.Bits.TheVariants.{Near, Declared}
use Rattle.law_obligations.specs.Sets.{Has, first, later}
use Rattle.law_obligations.specs.May.{AbsState}
use Rattle.law_obligations.specs.Outlines.{Entry, Script, outline_of}
use Rattle.law_obligations.specs.Times.{graph, timed}
use Rattle.law_obligations.specs.Checked.{IsChecked, IsProved}
use Rattle.smv_rings.specs.Lists.{Lists}
use Rattle.smv_rings.proofs.PathLaws.{violating_of, violates_of}
use Rattle.law_events.specs.Events.{Budget, Event, IsFirstEvent}
use Rattle.law_events.specs.Events.Event.{Counted, Reached, Shut, Images}
use Rattle.law_events.proofs.Unique.{first_once}
use Rattle.smv_rings.specs.Schedule.{schedule}
use Rattle.law_events.proofs.Meaning.{true_means, false_means}
use Rattle.law_obligations.specs.Readings.{PosedCase, IsCase}
use Rattle.law_obligations.specs.CasePaths.{HasNone, IsShortest}
use Rattle.law_reports.specs.CaseLists.{case_lists}
use Rattle.law_reports.specs.ListLaws.{readings}
use Rattle.law_reports.proofs.Below.{are_lists}
use Rattle.law_reports.proofs.Paths.{none_is_none, least_is_least}
use Rattle.law_reports.proofs.Shortest.{same_steps, not_both}
use Rattle.law_obligations.specs.Scripts.{case_at, classes_of, HaveValues}
use Rattle.law_obligations.proofs.ScriptCases.{is_case}
use Rattle.law_reports.specs.Verdicts.{LeafVerdict, all_true, fails, is_shut, MayBeTold, IsCaseVerdict, IsTrueCase, AreTrueCases, IsLeafVerdict, IsVerdictFor, IsUnitVerdict, AreVerdictsFrom, AreVerdicts, AllTrue, is_undecided, is_unknown, AreOne, AreOneEach}

-- ---- one verdict

abbrev budget : Lists → ℕ → ℕ → Budget
budget l nodes images = record { vars = 2 * l.bits; nodes = nodes; images = images }

one : (l : Lists) (nodes images : ℕ) (v w : Event) → IsFirstEvent l nodes images v → IsFirstEvent l nodes images w → v ≡ w
one l nodes images v w a b = first_once (budget l nodes images) (schedule l images) v w a b

-- a verdict of a leaf counts where that of its case does
abbrev LeafCounts : (Event → Type 0) → LeafVerdict → Type 0
LeafCounts Counts all_true = Unit {0}
LeafCounts Counts (fails c v) = Counts v

-- where each case has one verdict among those that count, so has a leaf
module _ (verdict : List Class → Event → Type 0) (Counts : Event → Type 0)
    (clash : (classes : List Class) (v : Event) → IsTrueCase verdict classes → verdict classes v → is_shut v ≡ false → Counts v → ⊥)
    (same : (classes : List Class) (v w : Event) → verdict classes v → verdict classes w → is_shut v ≡ false → is_shut w ≡ false → Counts v → Counts w → v ≡ w) where
  head_is : {X : Type 0} {x y : X} {xs ys : List X} → x ∷ xs ≡ y ∷ ys → x ≡ y
  head_is e = cc

  tail_is : {X : Type 0} {x y : X} {xs ys : List X} → x ∷ xs ≡ y ∷ ys → xs ≡ ys
  tail_is e = cc

  -- a verdict of a case that is not true
  record Fails (c : List Class) (v : Event) : Type 0 where
    is_verdict : verdict c v
    is_not : is_shut v ≡ false
    counts : Counts v

  same_first : (before others : List (List Class)) (c d : List Class) (behind more : List (List Class)) (v w : Event) → before ++ (c ∷ behind) ≡ others ++ (d ∷ more) →
      AreTrueCases verdict before → AreTrueCases verdict others → Fails c v → Fails d w → fails c v ≡ fails d w
  same_first [] [] c d behind more v w e tb to f g =
      let classes : c ≡ d = head_is e in
      let found : v ≡ w = same d v w (subst (λ (x : List Class). verdict x v) classes f.is_verdict) g.is_verdict f.is_not g.is_not f.counts g.counts in
      ap (λ (x : List Class). fails x v) classes ∙ ap (fails d) found
  same_first [] (x ∷ others) c d behind more v w e tb to f g =
      absurd (clash c v (subst (IsTrueCase verdict) (sym (head_is e)) (to x first)) f.is_verdict f.is_not f.counts)
  same_first (x ∷ before) [] c d behind more v w e tb to f g =
      absurd (clash d w (subst (IsTrueCase verdict) (head_is e) (tb x first)) g.is_verdict g.is_not g.counts)
  same_first (x ∷ before) (y ∷ others) c d behind more v w e tb to f g =
      same_first before others c d behind more v w (tail_is e) (λ z h. tb z (later h)) (λ z h. to z (later h)) f g

  in_middle : (before behind : List (List Class)) (c : List Class) → Has (before ++ (c ∷ behind)) c
  in_middle [] behind c = first
  in_middle (x ∷ before) behind c = later (in_middle before behind c)

  one_leaf : (cases : List (List Class)) (v w : LeafVerdict) → IsLeafVerdict verdict cases v → IsLeafVerdict verdict cases w → LeafCounts Counts v → LeafCounts Counts w → v ≡ w
  one_leaf cases all_true all_true a b p q = refl
  one_leaf cases all_true (fails c v) a b p q = absurd (clash c v (a c (subst (λ (xs : List (List Class)). Has xs c) (sym b.stands) (in_middle b.before b.behind c))) b.is_verdict b.is_not q)
  one_leaf cases (fails c v) all_true a b p q = absurd (clash c v (b c (subst (λ (xs : List (List Class)). Has xs c) (sym a.stands) (in_middle a.before a.behind c))) a.is_verdict a.is_not p)
  one_leaf cases (fails c v) (fails d w) a b p q =
      same_first a.before b.before c d a.behind b.behind v w (sym a.stands ∙ b.stands) a.are_true b.are_true
      (record { is_verdict = a.is_verdict; is_not = a.is_not; counts = p }) (record { is_verdict = b.is_verdict; is_not = b.is_not; counts = q })

-- over declared bits each verdict counts
abbrev Any : Event → Type 0
Any v = Unit {0}

any_counts : (v : LeafVerdict) → LeafCounts Any v
any_counts all_true = tt
any_counts (fails c v) = tt

-- over near bits those that are not unknown
abbrev IsKnown : Event → Type 0
IsKnown v = is_undecided v ≡ false

known_clash : (nodes steps : ℕ) (c : PosedCase) (k : ℕ) (v : Event) → MayBeTold nodes steps c (Shut k) → MayBeTold nodes steps c v → is_shut v ≡ false → IsKnown v → ⊥
known_clash nodes steps c k (Shut j) none is not known = cc (not)
known_clash nodes steps c k (Reached j) none is not known = not_both c j is.0 none is.1
known_clash nodes steps c k (Counted n) none is not known = cc (known)
known_clash nodes steps c k Images none is not known = cc (known)

known_same : (nodes steps : ℕ) (c : PosedCase) (v w : Event) → MayBeTold nodes steps c v → MayBeTold nodes steps c w → is_shut v ≡ false → is_shut w ≡ false → IsKnown v → IsKnown w → v ≡ w
known_same nodes steps c (Reached j) (Reached k) a b e g p q = ap Reached (same_steps c j k a.0 b.0 a.1 b.1)
known_same nodes steps c (Shut j) w a b e g p q = absurd (cc (e))
known_same nodes steps c (Counted n) w a b e g p q = absurd (cc (p))
known_same nodes steps c Images w a b e g p q = absurd (cc (p))
known_same nodes steps c (Reached j) (Shut k) a b e g p q = absurd (cc (g))
known_same nodes steps c (Reached j) (Counted n) a b e g p q = absurd (cc (q))
known_same nodes steps c (Reached j) Images a b e g p q = absurd (cc (q))

known_counts : (v : LeafVerdict) → is_unknown v ≡ false → LeafCounts IsKnown v
known_counts all_true e = tt
known_counts (fails c v) e = e

-- two verdicts of a leaf
module _ (case_for : List Class → PosedCase) (nodes steps : ℕ) where
  pub one_of_leaf : (bits : Bits) (cases : List (List Class)) (v w : LeafVerdict) → IsLeafVerdict (IsVerdictFor case_for bits nodes steps) cases v → IsLeafVerdict (IsVerdictFor case_for bits nodes steps) cases w → AreOne bits v w
  one_of_leaf Declared cases v w a b =
      let verdict = IsVerdictFor case_for Declared nodes steps in
      one_leaf verdict Any
      (λ classes x t is not counts. true_false (ap is_shut (one (case_lists (case_for classes)) nodes steps x (Shut t.0) is t.1)) not)
      (λ classes x y is is_too not not_too counts counts_too. one (case_lists (case_for classes)) nodes steps x y is is_too)
      cases v w a b (any_counts v) (any_counts w)
  one_of_leaf Near cases v w a b = λ known known_too.
      let verdict = IsVerdictFor case_for Near nodes steps in
      one_leaf verdict IsKnown
      (λ classes x t is not counts. known_clash nodes steps (case_for classes) t.0 x t.1 is not counts)
      (λ classes x y is is_too not not_too counts counts_too. known_same nodes steps (case_for classes) x y is is_too not not_too counts counts_too)
      cases v w a b (known_counts v known) (known_counts w known_too)

module _ (s : Script) (nodes steps : ℕ) where
  pub one_unit : (bits : Bits) (u : ℕ) (entry : Entry) (v w : LeafVerdict) → IsUnitVerdict s bits nodes steps u entry v → IsUnitVerdict s bits nodes steps u entry w → AreOne bits v w
  one_unit bits u entry v w a b = one_of_leaf (case_at s u entry) nodes steps bits (classes_of s entry) v w a b

  declared_each : (u : ℕ) (entries : List Entry) (vs ws : List LeafVerdict) → AreVerdictsFrom s Declared nodes steps u entries vs → AreVerdictsFrom s Declared nodes steps u entries ws → vs ≡ ws
  declared_each u [] [] [] a b = refl
  declared_each u [] [] (w ∷ ws) a b = elim b [ ]
  declared_each u [] (v ∷ vs) ws a b = elim a [ ]
  declared_each u (entry ∷ entries) [] ws a b = elim a [ ]
  declared_each u (entry ∷ entries) (v ∷ vs) [] a b = elim b [ ]
  declared_each u (entry ∷ entries) (v ∷ vs) (w ∷ ws) a b =
      ap (λ (x : LeafVerdict). x ∷ vs) (one_unit Declared u entry v w a.0 b.0) ∙ ap (λ (xs : List LeafVerdict). w ∷ xs) (declared_each (suc u) entries vs ws a.1 b.1)

  near_each : (u : ℕ) (entries : List Entry) (vs ws : List LeafVerdict) → AreVerdictsFrom s Near nodes steps u entries vs → AreVerdictsFrom s Near nodes steps u entries ws → AllZip (AreOne Near) vs ws
  near_each u [] [] [] a b = tt
  near_each u [] [] (w ∷ ws) a b = elim b [ ]
  near_each u [] (v ∷ vs) ws a b = elim a [ ]
  near_each u (entry ∷ entries) [] ws a b = elim a [ ]
  near_each u (entry ∷ entries) (v ∷ vs) [] a b = elim b [ ]
  near_each u (entry ∷ entries) (v ∷ vs) (w ∷ ws) a b = (one_unit Near u entry v w a.0 b.0, near_each (suc u) entries vs ws a.1 b.1)

  pub one_each : (bits : Bits) (vs ws : List LeafVerdict) → AreVerdicts s bits nodes steps vs → AreVerdicts s bits nodes steps ws → AreOneEach bits vs ws
  one_each Declared vs ws a b = declared_each 0 s.entries vs ws a b
  one_each Near vs ws a b = near_each 0 s.entries vs ws a b

-- ---- what verdicts say

module _ (c : PosedCase) (is : IsCase c) (nodes images : ℕ) where
  pub shut_none : (k : ℕ) → IsFirstEvent (case_lists c) nodes images (Shut k) → HasNone c.problem
  shut_none k v =
      let means = true_means (case_lists c) (budget (case_lists c) nodes images) (are_lists c) images k v in
      none_is_none c is (λ j path p. means.1 j (path j) (violates_of (case_lists c) j path p))

  pub reached_shortest : (k : ℕ) → IsFirstEvent (case_lists c) nodes images (Reached k) → (path : List AbsState) × IsShortest c.problem k path
  reached_shortest k v =
      let means = false_means (case_lists c) (budget (case_lists c) nodes images) (are_lists c) images k v in
      let path = violating_of (case_lists c) k means.0.0 means.0.1 in
      (readings c path.0 k, least_is_least c is k path.0 path.1 (λ j lt other p. means.1 j lt (other j) (violates_of (case_lists c) j other p)))

  pub true_none : (bits : Bits) (k : ℕ) → IsCaseVerdict bits nodes images c (Shut k) → HasNone c.problem
  true_none Declared k v = shut_none k v
  true_none Near k none = none

  pub false_shortest : (bits : Bits) (k : ℕ) → IsCaseVerdict bits nodes images c (Reached k) → (path : List AbsState) × IsShortest c.problem k path
  false_shortest Declared k v = reached_shortest k v
  false_shortest Near k path = path

-- ---- all true

module _ (s : Script) (checked : IsChecked s) (have : HaveValues s.design) (bits : Bits) (nodes images : ℕ) where
  true_at : (j u v : ℕ) (entries : List Entry) (verdicts : List LeafVerdict) → v ≡ j + u → AreVerdictsFrom s bits nodes images j entries verdicts → AllTrue verdicts → (entry : Entry) → slice_get entries u ≡ Some entry →
      AreTrueCases (IsVerdictFor (case_at s v entry) bits nodes images) (classes_of s entry)
  true_at j u v [] verdicts e a all entry g = absurd (none_some g)
    where
      none_some : {X : Type 0} {x : X} → None ≡ Some x → ⊥
      none_some e = cc
  true_at j u v (x ∷ entries) [] e a all entry g = elim a [ ]
  true_at j zero v (x ∷ entries) (w ∷ verdicts) e a all entry g =
      let same : j ≡ v = omega arith in
      subst (λ (y : Entry). AreTrueCases (IsVerdictFor (case_at s v y) bits nodes images) (classes_of s y)) (inner g)
      (subst (λ (i : ℕ). AreTrueCases (IsVerdictFor (case_at s i x) bits nodes images) (classes_of s x)) same
      (subst (IsUnitVerdict s bits nodes images j x) (all w first) a.0))
    where
      inner : {X : Type 0} {y z : X} → Some y ≡ Some z → y ≡ z
      inner e = cc
  true_at j (suc u) v (x ∷ entries) (w ∷ verdicts) e a all entry g = true_at (suc j) u v entries verdicts (omega arith) a.1 (λ z h. all z (later h)) entry g

  pub true_is_proved : (verdicts : List LeafVerdict) → AreVerdicts s bits nodes images verdicts → AllTrue verdicts → IsProved s
  true_is_proved verdicts are all u entry e classes h =
      let t = true_at 0 u u s.entries verdicts (omega arith) are all entry e classes h in
      true_none (case_at s u entry classes) (is_case s checked have entry classes (timed (outline_of s) (graph s) u entry)) nodes images bits t.0 t.1
