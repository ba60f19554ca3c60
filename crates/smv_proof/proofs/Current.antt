-- A set reads no odd variable.
use Rattle.std.proofs.Common.{◌≡◌, ◌≢◌, ◌∙◌, ℕ, ◌+◌, ◌*◌, ◌%◌, List, [], ◌∷◌, ◌++◌, length, slice_index_or, Bool, true, false, if◌then◌else◌, nat_eq, nat_le, nat_lt, refl, sym, ap, arith}
use Rattle.law_lists.proofs.Booleans.{left_of, right_of}
use Rattle.law_lists.proofs.Numbers.{nat_eq-is}
use Rattle.bdd_store.specs.Graph.{with_at}
use Rattle.bdd_store.proofs.Walks.{with_other}
use Rattle.smv_proof.specs.declared.proof.Node.{Node}
use Rattle.smv_proof.specs.declared.proof.KeptSet.{KeptSet}
use Rattle.smv_proof.specs.Documents.{most, is_name, is_line, are_lines, is_set}
use Rattle.smv_proof.specs.Meanings.{value_of, values_behind, meaning}
use Rattle.smv_proof.specs.Laws.{FreeOfOdd}

same_values : (a c : ℕ → Bool) → ((v : ℕ) → v % 2 ≡ 0 → a v ≡ c v) → (earlier nodes : List Node) → are_lines earlier nodes ≡ true → (known : List Bool) → values_behind a known nodes ≡ values_behind c known nodes
same_values a c same earlier [] e known = refl
same_values a c same earlier (node ∷ nodes) e known =
    let even = nat_eq-is (node.var % 2) 0 (left_of (nat_eq (node.var % 2) 0) _ (left_of (is_line earlier node) _ e)) in
    let value : value_of a known node ≡ value_of c known node = ap (λ (t : Bool). slice_index_or known (if t then node.high else node.low) false) (same node.var even) in
    ap (λ (x : Bool). values_behind a (known ++ x ∷ []) nodes) value
    ∙ same_values a c same (earlier ++ node ∷ []) nodes (right_of (is_line earlier node) _ e) (known ++ value_of c known node ∷ [])

pub set_is_current : (set : KeptSet) → is_set set ≡ true → FreeOfOdd (meaning set)
unfolding meaning
set_is_current set is b a =
    let p = right_of (is_name set.unit) _ is in
    let q = right_of (nat_le set.number most) _ p in
    let r = right_of (nat_le set.root most) _ q in
    let s = right_of (nat_le (length set.nodes) most) _ r in
    let lines = right_of (nat_lt set.root (length set.nodes + 2)) _ s in
    ap (λ (bs : List Bool). slice_index_or bs set.root false) (same_values (with_at a (2 * b + 1) false) (with_at a (2 * b + 1) true) both [] set.nodes lines (false ∷ true ∷ []))
  where
    both : (v : ℕ) → v % 2 ≡ 0 → with_at a (2 * b + 1) false v ≡ with_at a (2 * b + 1) true v
    both v even =
        let ne : v ≢ 2 * b + 1 = λ e. absurd (omega (arith, even, e)) in
        with_other a (2 * b + 1) false v ne ∙ sym (with_other a (2 * b + 1) true v ne)
