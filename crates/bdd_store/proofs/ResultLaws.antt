-- Results that are known stay right where tables stay.
use Rattle.std.proofs.Common.{◌≡◌, ◌≢◌, ℕ, ◌-◌, ◌<◌, Bool, true, false, ◌&&◌, ◌||◌, not, List, length, get_or, set, take, ◌++◌, ◌+◌, refl, sym, ◌∙◌, ap, subst, arith, inl, inr, get_or-set_other, get_or-set_same}
use Rattle.std.proofs.Math.Seq.{take-append_seam}
use Rattle.std.proofs.lemmas.Bool.{cases_lt}
use Rattle.std.proofs.lemmas.List.{length-set}
use Rattle.bdd_store.specs.declared.Ref.{Ref}
use Rattle.bdd_store.specs.declared.Operation.{Operation}
use Rattle.bdd_store.specs.declared.Operation.TheVariants.{And, Or, Not, Rename, Exists}
use Rattle.bdd_store.specs.declared.results.Entry.{Entry}
use Rattle.bdd_store.specs.declared.chains.Node.{Node}
use Rattle.bdd_store.specs.Graph.{Reduced, with_at}
use Rattle.bdd_store.specs.Diagram.{Diagram, table, IsReduced, Keeps}
use Rattle.bdd_store.specs.Results.{AreOperands, made, IsResult, entry_at, no_entry, AreResults, diagram_of}
use Rattle.bdd_store.proofs.Laws.{zero_constant}
use Rattle.bdd_store.proofs.NodeLaws.{Extends, extends_keeps, same_keeps}

pub operands_kept : (d e : Diagram) → Keeps d e → (o : Operation) → AreOperands d o → AreOperands e o
operands_kept d e keeps (And f g) live = (keeps.live f live.0, keeps.live g live.1)
operands_kept d e keeps (Or f g) live = (keeps.live f live.0, keeps.live g live.1)
operands_kept d e keeps (Not f) live = keeps.live f live
operands_kept d e keeps (Rename f) live = keeps.live f live
operands_kept d e keeps (Exists f v) live = keeps.live f live

pub made_kept : (d e : Diagram) → Keeps d e → (o : Operation) → AreOperands d o → (a : ℕ → Bool) → made e o a ≡ made d o a
made_kept d e keeps (And f g) live a = ap (λ x. x && table e g a) (keeps.tables f live.0 a) ∙ ap (λ x. table d f a && x) (keeps.tables g live.1 a)
made_kept d e keeps (Or f g) live a = ap (λ x. x || table e g a) (keeps.tables f live.0 a) ∙ ap (λ x. table d f a || x) (keeps.tables g live.1 a)
made_kept d e keeps (Not f) live a = ap not (keeps.tables f live a)
made_kept d e keeps (Rename f) live a = keeps.tables f live (λ v. a (v - 1))
made_kept d e keeps (Exists f v) live a = ap (λ x. x || table e f (with_at a v true)) (keeps.tables f live (with_at a v false)) ∙ ap (λ x. table d f (with_at a v false) || x) (keeps.tables f live (with_at a v true))

pub result_kept : (d e : Diagram) → Keeps d e → (o : Operation) (r : Ref) → IsResult d o r → IsResult e o r
result_kept d e keeps o r is = record {
  operands = operands_kept d e keeps o is.operands;
  live = keeps.live r is.live;
  table = λ a. keeps.tables r is.live a ∙ is.table a ∙ sym (made_kept d e keeps o is.operands a);
}

pub results_kept : (d e : Diagram) → Keeps d e → (es : List Entry) → AreResults d es → AreResults e es
results_kept d e keeps es all i lt = result_kept d e keeps _ _ (all i lt)

-- where nodes stay
pub known_extends : (n : ℕ) (ns ms : List Node) (es : List Entry) → Reduced n ns → Extends n ns ms → AreResults (diagram_of n ns) es → AreResults (diagram_of n ms) es
unfolding IsReduced
known_extends n ns ms es ok more = results_kept (diagram_of n ns) (diagram_of n ms) (extends_keeps (diagram_of n ns) (diagram_of n ms) ok refl more) es

-- in a Store's own diagram
pub known_here : (n : ℕ) (ns : List Node) (d : Diagram) (es : List Entry) → Reduced n ns → d.vars ≡ n → d.nodes ≡ ns → AreResults (diagram_of n ns) es → AreResults d es
unfolding IsReduced
known_here n ns d es ok vars nodes = results_kept (diagram_of n ns) d (same_keeps (diagram_of n ns) d ok vars nodes) es

pub result_there : (n : ℕ) (ns : List Node) (d : Diagram) (o : Operation) (r : Ref) → IsReduced d → n ≡ d.vars → ns ≡ d.nodes → IsResult d o r → IsResult (diagram_of n ns) o r
result_there n ns d o r ok vars nodes = result_kept d (diagram_of n ns) (same_keeps d (diagram_of n ns) ok vars nodes) o r

pub known_there : (n : ℕ) (ns : List Node) (d : Diagram) (es : List Entry) → IsReduced d → n ≡ d.vars → ns ≡ d.nodes → AreResults d es → AreResults (diagram_of n ns) es
known_there n ns d es ok vars nodes all i lt = result_there n ns d _ _ ok vars nodes (all i lt)

-- the conjunction of the constant 0 with itself
pub never_result : (d : Diagram) → IsReduced d → (z : Ref) → z.place ≡ 0 → IsResult d (And z z) z
never_result d ok z e =
    let zero = zero_constant d ok z e in
    record {
      operands = (zero.0, zero.0);
      live = zero.0;
      table = λ a. zero.1 a ∙ sym (ap (λ x. x && table d z a) (zero.1 a));
    }

-- the first entries are right, and one more
pub one_more : (d : Diagram) (es : List Entry) (i : ℕ) (x : Entry) → i < length es → ((k : ℕ) → k < i → IsResult d (entry_at es k).operation (entry_at es k).answer) → IsResult d x.operation x.answer → (k : ℕ) → k < i + 1 → IsResult d (entry_at (set es i x) k).operation (entry_at (set es i x) k).answer
one_more d es i x lt before here k at = elim (cases_lt k i) [
  | inl less ↦ subst (λ (y : Entry). IsResult d y.operation y.answer) (sym (get_or-set_other es i k x no_entry (omega (arith, less)))) (before k less)
  | inr more ↦ let e : k ≡ i = omega (arith, at, more) in subst (λ (y : Entry). IsResult d y.operation y.answer) (sym (ap (λ j. get_or (set es i x) j no_entry) e ∙ get_or-set_same es i x no_entry lt)) here
]

-- an entry that is right is put among such
pub set_right : (d : Diagram) (es : List Entry) (i : ℕ) (x : Entry) → i < length es → AreResults d es → IsResult d x.operation x.answer → AreResults d (set es i x)
set_right d es i x lt all here k at = elim (cases_lt k i) [
  | inl less ↦ other (omega (arith, less))
  | inr le ↦ elim (cases_lt i k) [
    | inl more ↦ other (omega (arith, more))
    | inr ge ↦ let e : k ≡ i = omega (arith, le, ge) in subst (λ (y : Entry). IsResult d y.operation y.answer) (sym (ap (λ j. get_or (set es i x) j no_entry) e ∙ get_or-set_same es i x no_entry lt)) here
  ]
]
  where
    other : k ≢ i → IsResult d (entry_at (set es i x) k).operation (entry_at (set es i x) k).answer
    other ne = subst (λ (y : Entry). IsResult d y.operation y.answer) (sym (get_or-set_other es i k x no_entry ne)) (all k (omega (arith, at, length-set es i x)))

pub all_right : (d : Diagram) (xs ys : List Entry) (n : ℕ) → n ≡ length xs → ((k : ℕ) → k < length xs → IsResult d (entry_at xs k).operation (entry_at xs k).answer) → AreResults d (take n (xs ++ ys))
all_right d xs ys n len right = subst (AreResults d) (sym (ap (λ k. take k (xs ++ ys)) len ∙ take-append_seam xs ys)) right
