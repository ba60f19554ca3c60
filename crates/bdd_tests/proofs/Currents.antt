-- Functions of current variables, found by what they read.
use Rattle.std.proofs.Common.{◌≡◌, ℕ, zero, suc, ◌+◌, ◌*◌, ◌<◌, ◌≤◌, Bool, true, false, IsTrue, List, [], ◌∷◌, ◌++◌, map, length, take, get_or, inl, inr, refl, sym, ◌∙◌, ap, subst, arith}
use Rattle.std.proofs.lemmas.Bool.{cases_lt}
use Rattle.std.proofs.Math.Seq.{take-suc}
use Rattle.bdd_store.specs.declared.Ref.{Ref}
use Rattle.bdd_store.specs.Graph.{with_at}
use Rattle.bdd_store.specs.Diagram.{Diagram, IsLive, AreLive, table}
use Rattle.bdd_store.proofs.Walks.{with_other}
use Rattle.bdd_ops.specs.Functions.{Function, depends, bit_at}
use Rattle.smv_rings.specs.declared.Rel.{Rel}
use Rattle.smv_rings.specs.Lists.{IsCurrent, AllCurrent, refs_of}
use Rattle.smv_rings.proofs.Tables.{table_below, free_of}
use Rattle.smv_rings.proofs.Refs.{one_append, each_live, live_each}
use Rattle.smv_rings.proofs.Whole.{map_append}

pub current_if : (d : Diagram) (r : Ref) (m : ℕ) (reads : List Bool) → d.vars ≡ 2 * m → ((v : ℕ) → v < d.vars → bit_at reads v ≡ depends d.vars (table d r) v) → ((j : ℕ) → j < m → bit_at reads (2 * j + 1) ≡ false) → IsCurrent (table d r)
current_if d r m reads vars is none b = elim (cases_lt b m) [
  | inl lt ↦ let within : 2 * b + 1 < d.vars = omega arith in free_of d.vars (2 * b + 1) (table d r) (table_below d r) (sym (is (2 * b + 1) within) ∙ none b lt)
  | inr past ↦ λ a. table_below d r (with_at a (2 * b + 1) false) (with_at a (2 * b + 1) true) (λ v lt. with_other a (2 * b + 1) false v (λ e. omega arith) ∙ sym (with_other a (2 * b + 1) true v (λ e. omega arith)))
]

all_then : (fs : List Function) (f : Function) → AllCurrent fs → IsCurrent f → AllCurrent (fs ++ (f ∷ []))
all_then [] f all is = (is, tt)
all_then (g ∷ fs) f all is = (all.0, all_then fs f all.1 is)

pub all_on : (d : Diagram) (rs : List Ref) (i : ℕ) (o : Ref) → i < length rs → AllCurrent (map (table d) (take i rs)) → IsCurrent (table d (get_or rs i o)) → AllCurrent (map (table d) (take (i + 1) rs))
all_on d rs i o lt all is =
    let e : suc i ≡ i + 1 = omega arith in
    subst (λ (j : ℕ). AllCurrent (map (table d) (take j rs))) e
    (subst AllCurrent (sym (ap (map (table d)) (take-suc rs i o lt) ∙ map_append (table d) (take i rs) (get_or rs i o ∷ []))) (all_then (map (table d) (take i rs)) (table d (get_or rs i o)) all is))

take_all : {A : Type 0} → (xs : List A) (i : ℕ) → length xs ≤ i → take i xs ≡ xs
take_all [] zero le = refl
take_all [] (suc i) le = refl
take_all (x ∷ xs) zero le = absurd (omega arith)
take_all (x ∷ xs) (suc i) le = ap (λ ys. x ∷ ys) (take_all xs i (omega arith))

pub all_end : (d : Diagram) (rs : List Ref) (i : ℕ) → length rs ≤ i → AllCurrent (map (table d) (take i rs)) → AllCurrent (map (table d) rs)
all_end d rs i le all = subst (λ (xs : List Ref). AllCurrent (map (table d) xs)) (take_all rs i le) all

pub rel_live : (d : Diagram) (rel : Rel) → AreLive d rel.now_first.items → AreLive d rel.before_first.items → IsLive d rel.broken_first → AreLive d rel.now_step.items → AreLive d rel.before_step.items → IsLive d rel.broken_step → AreLive d (refs_of rel)
unfolding refs_of
rel_live d rel nf bf brf ns bs brs = live_each d (refs_of rel) (λ r one. elim (one_append r rel.now_first.items _ one) [
  | inl here ↦ each_live d rel.now_first.items nf r here
  | inr one ↦ elim (one_append r rel.before_first.items _ one) [
    | inl here ↦ each_live d rel.before_first.items bf r here
    | inr one ↦ elim one [
      | inl e ↦ subst (IsLive d) (sym e) brf
      | inr one ↦ elim (one_append r rel.now_step.items _ one) [
        | inl here ↦ each_live d rel.now_step.items ns r here
        | inr one ↦ elim (one_append r rel.before_step.items _ one) [
          | inl here ↦ each_live d rel.before_step.items bs r here
          | inr one ↦ elim one [ inl e ↦ subst (IsLive d) (sym e) brs | inr none ↦ absurd none ]
        ]
      ]
    ]
  ]
])

pub true_of : (x : Bool) → x ≡ true → IsTrue x
true_of x e = e
