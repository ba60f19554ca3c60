-- The number of a function, from those of its branches.
use Rattle.std.proofs.Common.{◌≡◌, ◌≢◌, ◌∙◌, ℕ, suc, ◌+◌, ◌-◌, ◌<◌, ◌≤◌, List, [], Bool, true, false, cond, Some, if◌then◌else◌, refl, sym, ap, subst, arith}
use Rattle.std.specs.HashMap.{HashMap, get, Updates}
use Rattle.law_lists.proofs.Options.{some_is}
use Rattle.bdd_store.specs.declared.Ref.{Ref}
use Rattle.bdd_store.specs.Graph.{with_at}
use Rattle.bdd_store.specs.Diagram.{Diagram, IsConstant, DependsFrom, table, first_var}
use Rattle.bdd_store.proofs.Walks.{with_other}
use Rattle.bdd_ops.specs.Functions.{Function, FreeOf}
use Rattle.bdd_ops.specs.Memo.{same_one}
use Rattle.bdd_ops.proofs.MemoLaws.{one_test}
use Rattle.smv_proof.specs.declared.proof.Node.{Node}
use Rattle.smv_proof.specs.declared.proof.KeptSet.{KeptSet}
use Rattle.smv_proof.specs.Kept.{Rooted, lines_from, joined, kept_set}
use Rattle.smv_proof.proofs.Numbers.{joined_grows}
use Rattle.smv_proof.proofs.Lists.{Grows, grows_self}
use Rattle.smv_proof.proofs.Lines.{lines_grow, lines_again}
use Rattle.smv_proof.proofs.Steps.{lines_skip_all, lines_constant, known_stays}
use Rattle.smv_proof_take.specs.Numbering.{IsNumbered, AreKnown, rooted}

pub constant_numbered : (d : Diagram) (f : Ref) (x : Bool) (nodes : List Node) → IsConstant d f x → IsNumbered d f nodes (if x then 1 else 0) nodes
constant_numbered d f x nodes is b v all le = lines_constant b v x (table d f) nodes is

-- ---- a function by its branches

-- variables before the first one are not read
free_before : (d : Diagram) (f : Ref) (w u : ℕ) → DependsFrom d f w → u < w → FreeOf u (table d f)
free_before d f w u from lt a = from (with_at a u false) (with_at a u true) (λ v le. let ne : v ≢ u = λ e. absurd (omega (arith, le, lt, e)) in with_other a u false v ne ∙ sym (with_other a u true v ne))

-- f reads variable w, and its branches only later ones
pub record IsSplit (d : Diagram) (f low high : Ref) (w : ℕ) : Type 0 where
  pub first : w ≡ first_var d f
  pub within : w < d.vars
  pub from : DependsFrom d f w
  pub low_table : (a : ℕ → Bool) → table d low a ≡ table d f (with_at a (first_var d f) false)
  pub high_table : (a : ℕ → Bool) → table d high a ≡ table d f (with_at a (first_var d f) true)
  pub low_later : first_var d f < first_var d low
  pub high_later : first_var d f < first_var d high

pub node_numbered : (d : Diagram) (f low high : Ref) (w : ℕ) (n0 n1 n2 n3 : List Node) (kl kh k : ℕ) → IsSplit d f low high w → IsNumbered d low n0 kl n1 → IsNumbered d high n1 kh n2 → joined w kl (rooted kh n2) ≡ rooted k n3 →
    IsNumbered d f n0 k n3
unfolding lines_from
node_numbered d f low high w n0 n1 n2 n3 kl kh k s of_low of_high join b v all le =
    ap (λ (m : ℕ). lines_from m v (table d f) n0) count
    ∙ (lines_skip_all (w - v) (suc left) v (table d f) n0 (λ u from lt. free_before d f w u s.from (omega (arith, lt, le_w)))
    ∙ (ap (λ (u : ℕ). lines_from (suc left) u (table d f) n0) place
    ∙ (by_low ∙ (by_high ∙ join))))
  where
    first : w ≡ first_var d f
    first = s.first

    le_w : v ≤ w
    le_w = omega (arith, le, first)

    left : ℕ
    left = d.vars - suc w

    within : w < d.vars
    within = s.within

    count : b ≡ (w - v) + suc left
    count = omega (arith, all, le_w, within)

    place : (w - v) + v ≡ w
    place = omega (arith, le_w)

    rest : left + suc w ≡ d.vars
    rest = omega (arith, within)

    branch : (x : Bool) (g : Ref) → ((a : ℕ → Bool) → table d g a ≡ table d f (with_at a (first_var d f) x)) → (λ a. table d f (with_at a w x)) ≡ table d g
    branch x g is = λ i a. (ap (λ (u : ℕ). table d f (with_at a u x)) first ∙ sym (is a)) i

    low_is : lines_from left (suc w) (λ a. table d f (with_at a w false)) n0 ≡ rooted kl n1
    low_is = ap (λ (g : Function). lines_from left (suc w) g n0) (branch false low s.low_table) ∙ of_low left (suc w) rest (let later = s.low_later in omega (arith, later, first))

    high_is : lines_from left (suc w) (λ a. table d f (with_at a w true)) n1 ≡ rooted kh n2
    high_is = ap (λ (g : Function). lines_from left (suc w) g n1) (branch true high s.high_table) ∙ of_high left (suc w) rest (let later = s.high_later in omega (arith, later, first))

    by_low : joined w (lines_from left (suc w) (λ a. table d f (with_at a w false)) n0).root (lines_from left (suc w) (λ a. table d f (with_at a w true)) (lines_from left (suc w) (λ a. table d f (with_at a w false)) n0).nodes)
        ≡ joined w kl (lines_from left (suc w) (λ a. table d f (with_at a w true)) n1)
    by_low = ap (λ (r : Rooted). joined w r.root (lines_from left (suc w) (λ a. table d f (with_at a w true)) r.nodes)) low_is

    by_high : joined w kl (lines_from left (suc w) (λ a. table d f (with_at a w true)) n1) ≡ joined w kl (rooted kh n2)
    by_high = ap (joined w kl) high_is

-- ---- what is known stays

pub numbered_grows : (d : Diagram) (f : Ref) (old new : List Node) (k : ℕ) → IsNumbered d f old k new → Grows old new
numbered_grows d f old new k is = subst (λ (r : Rooted). Grows old r.nodes) (is d.vars 0 (omega arith) (omega arith)) (lines_grow d.vars 0 (table d f) old)

pub numbered_again : (d : Diagram) (f : Ref) (old new : List Node) (k : ℕ) → IsNumbered d f old k new → IsNumbered d f new k new
numbered_again d f old new k is b v all le =
    lines_again b v (table d f) old new (subst (λ (r : Rooted). Grows r.nodes new) (sym (is b v all le)) (grows_self new)) ∙ ap (λ (r : Rooted). rooted r.root new) (is b v all le)

pub known_on : {S : Type 0} (d : Diagram) (roots : HashMap Ref ℕ S) (old new : List Node) → Grows old new → AreKnown d roots old → AreKnown d roots new
known_on d roots old new grows known f k e b v all le = known_stays b v (table d f) old new k (known f k e b v all le) grows

pub known_more : {S : Type 0} (d : Diagram) (old new : HashMap Ref ℕ S) (f : Ref) (k : ℕ) (nodes : List Node) → AreKnown d old nodes → Updates same_one old new f (Some k) → IsNumbered d f nodes k nodes → AreKnown d new nodes
known_more d old new f k nodes known updates is q j e = by_test (same_one f q) refl (sym (updates.0 q) ∙ e)
  where
    by_test : (t : Bool) → same_one f q ≡ t → cond t (Some k) (get same_one old q) ≡ Some j → IsNumbered d q nodes j nodes
    by_test true s e =
        let one : f ≡ q = one_test.is f q s in
        let same : k ≡ j = some_is e in
        subst (λ (m : ℕ). IsNumbered d q nodes m nodes) same (subst (λ (r : Ref). IsNumbered d r nodes k nodes) one is)
    by_test false s e = known q j e

pub join_grows : (var low high number : ℕ) (old new : List Node) → joined var low (rooted high old) ≡ rooted number new → Grows old new
join_grows var low high number old new e = subst (λ (r : Rooted). Grows old r.nodes) e (joined_grows var low (rooted high old))

-- the set of a function whose lines are the first ones
pub kept_is : (d : Diagram) (f : Ref) (unit : List ℕ) (number root : ℕ) (nodes : List Node) → IsNumbered d f [] root nodes → (kept : KeptSet) → kept ≡ record { unit = unit; number = number; root = root; nodes = nodes } → kept ≡ kept_set d.vars unit number (table d f)
unfolding kept_set
kept_is d f unit number root nodes is kept e = e ∙ λ i. record { unit = unit; number = number; root = (lines (i)).root; nodes = (lines (i)).nodes }
  where
    lines : rooted root nodes ≡ lines_from d.vars 0 (table d f) []
    lines = sym (is d.vars 0 (omega arith) (omega arith))
