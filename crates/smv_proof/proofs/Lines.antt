-- The lines of a function are those of a document.
use Rattle.std.proofs.Common.{◌≡◌, ◌≢◌, ◌∙◌, ◌⊎◌, inl, inr, ℕ, zero, suc, ◌+◌, ◌-◌, ◌*◌, ◌/◌, ◌%◌, ◌<◌, ◌≤◌, List, [], ◌∷◌, ◌++◌, length, slice_get, Some, None, Bool, true, false, if◌then◌else◌, nat_lt, refl, sym, ap, subst, arith, append-nil}
use Rattle.std.specs.List.{list_all}
use Rattle.law_lists.proofs.Booleans.{and_both, left_of, right_of, either_right}
use Rattle.law_lists.proofs.Lists.{append_again}
use Rattle.law_lists.proofs.Numbers.{nat_eq-apart, nat_lt-true, nat_le-true, nat_eq-same}
use Rattle.bdd_store.specs.Graph.{with_at}
use Rattle.bdd_ops.specs.Functions.{Function, FreeOf}
use Rattle.bdd_ops.proofs.Depends.{with_swap}
use Rattle.smv_proof.specs.declared.proof.Node.{Node}
use Rattle.smv_proof.specs.Documents.{most, last_var, is_above, is_branch, is_line, are_lines, is_name, is_set}
use Rattle.smv_proof.specs.Meanings.{is_below}
use Rattle.smv_proof.specs.Kept.{Rooted, number_from, lines_from, joined, kept_set}
use Rattle.smv_proof.specs.Laws.{FreeOfOdd}
use Rattle.smv_proof.proofs.Lists.{Grows, grows_self, grows_on, get_grown, get_last}
use Rattle.smv_proof.proofs.Numbers.{rooted, node_at, found_at, not_found, joined_same, joined_by, joined_grows, joined_again}
use Rattle.smv_proof.proofs.Values.{kept_root}

-- ---- lines stay

pub lines_grow : (b v : ℕ) (f : Function) (nodes : List Node) → Grows nodes (lines_from b v f nodes).nodes
unfolding lines_from
lines_grow zero v f nodes = grows_self nodes
lines_grow (suc b) v f nodes =
    let low = lines_from b (suc v) (λ c. f (with_at c v false)) nodes in
    let high = lines_from b (suc v) (λ c. f (with_at c v true)) low.nodes in
    grows_on nodes low.nodes (joined v low.root high).nodes (lines_grow b (suc v) (λ c. f (with_at c v false)) nodes)
    (grows_on low.nodes high.nodes (joined v low.root high).nodes (lines_grow b (suc v) (λ c. f (with_at c v true)) low.nodes) (joined_grows v low.root high))

-- where the lines of a function stand already, it gets no more
pub lines_again : (b v : ℕ) (f : Function) (nodes all : List Node) → Grows (lines_from b v f nodes).nodes all → lines_from b v f all ≡ rooted (lines_from b v f nodes).root all
unfolding lines_from
lines_again zero v f nodes all grows = refl
lines_again (suc b) v f nodes all grows =
    let low = lines_from b (suc v) (λ c. f (with_at c v false)) nodes in
    let high = lines_from b (suc v) (λ c. f (with_at c v true)) low.nodes in
    let of_high = grows_on high.nodes (joined v low.root high).nodes all (joined_grows v low.root high) grows in
    let of_low = grows_on low.nodes high.nodes all (lines_grow b (suc v) (λ c. f (with_at c v true)) low.nodes) of_high in
    ap (λ (k : Rooted). joined v k.root (lines_from b (suc v) (λ c. f (with_at c v true)) k.nodes)) (lines_again b (suc v) (λ c. f (with_at c v false)) nodes all of_low)
    ∙ (ap (joined v low.root) (lines_again b (suc v) (λ c. f (with_at c v true)) low.nodes all of_high) ∙ joined_again v low.root high all grows)

-- ---- a root has no variable below v

abbrev pub IsFrom : ℕ → List Node → ℕ → Type 0
IsFrom v nodes k = (k < 2) ⊎ ((i : ℕ) × (node : Node) × (k ≡ 2 + i) × (slice_get nodes i ≡ Some node) × (v ≤ node.var))

from_grown : (v : ℕ) (nodes all : List Node) (k : ℕ) → Grows nodes all → IsFrom v nodes k → IsFrom v all k
from_grown v nodes all k grows (inl lt) = inl lt
from_grown v nodes all k grows (inr (i, node, e, g, le)) = inr (i, node, e, get_grown nodes all grows i node g, le)

from_lower : (v : ℕ) (nodes : List Node) (k : ℕ) → IsFrom (suc v) nodes k → IsFrom v nodes k
from_lower v nodes k (inl lt) = inl lt
from_lower v nodes k (inr (i, node, e, g, le)) = inr (i, node, e, g, omega (arith, le))

pub root_from : (b v : ℕ) (f : Function) (nodes : List Node) → IsFrom v (lines_from b v f nodes).nodes (lines_from b v f nodes).root
unfolding lines_from
root_from zero v f nodes = inl (at (f (λ _. false)))
  where
    at : (t : Bool) → (if t then 1 else 0) < 2
    at true = omega arith
    at false = omega arith
root_from (suc b) v f nodes =
    let low = lines_from b (suc v) (λ c. f (with_at c v false)) nodes in
    let high = lines_from b (suc v) (λ c. f (with_at c v true)) low.nodes in
    joined_by v low.root high (λ (r : Rooted). IsFrom v r.nodes r.root)
    (λ e. from_lower v high.nodes high.root (root_from b (suc v) (λ c. f (with_at c v true)) low.nodes))
    (λ ne k e. let r = found_at 2 (node_at v low.root high.root) high.nodes k e in inr (r.0, node_at v low.root high.root, r.1, r.2, omega arith))
    (λ ne e. inr (length high.nodes, node_at v low.root high.root, omega arith, get_last high.nodes (node_at v low.root high.root) [], omega arith))

branch_true : (v : ℕ) (nodes : List Node) (k : ℕ) → IsFrom (suc v) nodes k → is_branch nodes v k ≡ true
branch_true v nodes k (inl lt) = rw (nat_lt-true k 2 lt) refl
branch_true v nodes k (inr (i, node, e, g, le)) =
    let place : k - 2 ≡ i = omega (arith, e) in
    let above : is_above v (slice_get nodes (k - 2)) ≡ true = rw place (rw g (nat_lt-true v node.var le)) in
    either_right (nat_lt k 2) above

-- ---- one line more

pub lines_more : (earlier nodes : List Node) (node : Node) → are_lines earlier nodes ≡ true → is_line (earlier ++ nodes) node ≡ true → are_lines earlier (nodes ++ node ∷ []) ≡ true
lines_more earlier [] node e is = and_both (subst (λ (ns : List Node). is_line ns node ≡ true) (append-nil earlier) is) refl
lines_more earlier (x ∷ nodes) node e is =
    and_both (left_of (is_line earlier x) _ e)
    (lines_more (earlier ++ x ∷ []) nodes node (right_of (is_line earlier x) _ e) (subst (λ (ns : List Node). is_line ns node ≡ true) (sym (append_again earlier nodes x)) is))

-- from a variable on, no odd one is read
abbrev pub FreeFrom : ℕ → Function → Type 0
FreeFrom v f = (b : ℕ) → v ≤ 2 * b + 1 → FreeOf (2 * b + 1) f

free_on : (v : ℕ) (f : Function) (x : Bool) → FreeFrom v f → FreeFrom (suc v) (λ c. f (with_at c v x))
free_on v f x free b le a =
    let ne : 2 * b + 1 ≢ v = λ e. absurd (omega (arith, le, e)) in
    ap f (with_swap a (2 * b + 1) v false x ne) ∙ (free b (omega (arith, le)) (with_at a v x) ∙ sym (ap f (with_swap a (2 * b + 1) v true x ne)))

even_or_odd : (v : ℕ) → (v % 2 ≡ 0) ⊎ ((b : ℕ) × (v ≡ 2 * b + 1))
even_or_odd v = at (v % 2) refl
  where
    at : (r : ℕ) → v % 2 ≡ r → (v % 2 ≡ 0) ⊎ ((b : ℕ) × (v ≡ 2 * b + 1))
    at zero e = inl e
    at (suc r) e = inr (v / 2, omega (arith, e))

pub lines_are : (b v : ℕ) (f : Function) (nodes : List Node) → b + v ≤ last_var + 2 → FreeFrom v f → are_lines [] nodes ≡ true → are_lines [] (lines_from b v f nodes).nodes ≡ true
unfolding lines_from
lines_are zero v f nodes le free e = e
lines_are (suc b) v f nodes le free e =
    let low = lines_from b (suc v) (λ c. f (with_at c v false)) nodes in
    let high = lines_from b (suc v) (λ c. f (with_at c v true)) low.nodes in
    let lows = lines_are b (suc v) (λ c. f (with_at c v false)) nodes (omega (arith, le)) (free_on v f false free) e in
    let highs = lines_are b (suc v) (λ c. f (with_at c v true)) low.nodes (omega (arith, le)) (free_on v f true free) lows in
    elim (even_or_odd v) [
      | inl even ↦ joined_by v low.root high (λ (r : Rooted). are_lines [] r.nodes ≡ true) (λ same. highs) (λ ne k found. highs)
          (λ ne new. lines_more [] high.nodes (node_at v low.root high.root) highs (is_new low high even ne new
          (from_grown (suc v) low.nodes high.nodes low.root (lines_grow b (suc v) (λ c. f (with_at c v true)) low.nodes) (root_from b (suc v) (λ c. f (with_at c v false)) nodes))
          (root_from b (suc v) (λ c. f (with_at c v true)) low.nodes)))
      | inr (k, odd) ↦
          let alike : (λ c. f (with_at c v true)) ≡ (λ c. f (with_at c v false)) = λ i c. subst (λ (w : ℕ). f (with_at c w true) ≡ f (with_at c w false)) (sym odd) (sym (free k (omega (arith, odd)) c)) i in
          let again : high ≡ rooted low.root low.nodes =
          ap (λ (g : Function). lines_from b (suc v) g low.nodes) alike ∙ lines_again b (suc v) (λ c. f (with_at c v false)) nodes low.nodes (grows_self low.nodes) in
          subst (λ (r : Rooted). are_lines [] r.nodes ≡ true) (sym (joined_same v low.root high (sym (ap (λ (r : Rooted). r.root) again)))) highs
    ]
  where
    is_new : (low high : Rooted) → v % 2 ≡ 0 → (low.root ≡ high.root → ⊥) → number_from 2 (node_at v low.root high.root) high.nodes ≡ None → IsFrom (suc v) high.nodes low.root → IsFrom (suc v) high.nodes high.root →
        is_line high.nodes (node_at v low.root high.root) ≡ true
    is_new low high even ne new of_low of_high =
        and_both (nat_eq-same (v % 2) 0 (sym even))
        (and_both (nat_le-true v last_var (omega (arith, le, even)))
        (and_both (rw (nat_eq-apart low.root high.root ne) refl)
        (and_both (branch_true v high.nodes low.root of_low)
        (and_both (branch_true v high.nodes high.root of_high)
        (rw (not_found 2 (node_at v low.root high.root) high.nodes new) refl)))))

-- ---- variables

all_more : (n : ℕ) (nodes : List Node) (node : Node) → list_all (λ (x : Node). nat_lt x.var n) nodes ≡ true → node.var < n → list_all (λ (x : Node). nat_lt x.var n) (nodes ++ node ∷ []) ≡ true
all_more n [] node e lt = and_both (nat_lt-true node.var n lt) refl
all_more n (x ∷ nodes) node e lt = and_both (left_of (nat_lt x.var n) _ e) (all_more n nodes node (right_of (nat_lt x.var n) _ e) lt)

lines_below : (n b v : ℕ) (f : Function) (nodes : List Node) → b + v ≤ n → list_all (λ (x : Node). nat_lt x.var n) nodes ≡ true → list_all (λ (x : Node). nat_lt x.var n) (lines_from b v f nodes).nodes ≡ true
unfolding lines_from
lines_below n zero v f nodes le e = e
lines_below n (suc b) v f nodes le e =
    let low = lines_from b (suc v) (λ c. f (with_at c v false)) nodes in
    let high = lines_from b (suc v) (λ c. f (with_at c v true)) low.nodes in
    let highs = lines_below n b (suc v) (λ c. f (with_at c v true)) low.nodes (omega (arith, le)) (lines_below n b (suc v) (λ c. f (with_at c v false)) nodes (omega (arith, le)) e) in
    joined_by v low.root high (λ (r : Rooted). list_all (λ (x : Node). nat_lt x.var n) r.nodes ≡ true) (λ same. highs) (λ ne k found. highs)
    (λ ne new. all_more n high.nodes (node_at v low.root high.root) highs (omega (arith, le)))

-- ---- the set

pub kept_below : (n : ℕ) (f : Function) (unit : List ℕ) (number : ℕ) → is_below n (kept_set n unit number f) ≡ true
unfolding kept_set
kept_below n f unit number = lines_below n n 0 f [] (omega arith) refl

pub kept_is : (n : ℕ) (f : Function) → n ≤ last_var + 2 → FreeOfOdd f → (unit : List ℕ) → is_name unit ≡ true → (number : ℕ) → number ≤ most →
    length (kept_set n unit number f).nodes < most → is_set (kept_set n unit number f) ≡ true
unfolding kept_set
kept_is n f few free unit name number small short =
    let set = kept_set n unit number f in
    let root = kept_root n f unit number in
    and_both name
    (and_both (nat_le-true number most small)
    (and_both (nat_le-true set.root most (omega (arith, root, short)))
    (and_both (nat_le-true (length set.nodes) most (omega (arith, short)))
    (and_both (nat_lt-true set.root (length set.nodes + 2) root)
    (lines_are n 0 f [] (omega (arith, few)) (λ b le. free b) refl)))))
