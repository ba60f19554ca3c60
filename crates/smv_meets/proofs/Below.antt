-- A set says the same of assignments that agree in the variables that it speaks of.
use Rattle.std.proofs.Common.{◌≡◌, ◌∙◌, ℕ, ◌<◌, List, [], ◌∷◌, ◌++◌, Bool, true, false, if◌then◌else◌, slice_index_or, nat_lt, refl, ap}
use Rattle.std.specs.List.{list_all}
use Rattle.law_lists.proofs.Booleans.{left_of, right_of}
use Rattle.law_lists.proofs.Numbers.{nat_lt-is}
use Rattle.smv_rings.specs.Functions.{DependsBelow}
use Rattle.smv_proof.specs.declared.proof.Node.{Node}
use Rattle.smv_proof.specs.declared.proof.KeptSet.{KeptSet}
use Rattle.smv_proof.specs.Meanings.{value_of, values_behind, meaning, is_below}

same_values : (n : ℕ) (a e : ℕ → Bool) → ((v : ℕ) → v < n → a v ≡ e v) → (known : List Bool) (nodes : List Node) → list_all (λ (x : Node). nat_lt x.var n) nodes ≡ true → values_behind a known nodes ≡ values_behind e known nodes
same_values n a e same known [] all = refl
same_values n a e same known (node ∷ nodes) all =
    let lt = nat_lt-is node.var n (left_of (nat_lt node.var n) (list_all (λ (x : Node). nat_lt x.var n) nodes) all) in
    let value : value_of a known node ≡ value_of e known node = ap (λ (t : Bool). slice_index_or known (if t then node.high else node.low) false) (same node.var lt) in
    ap (λ (b : Bool). values_behind a (known ++ b ∷ []) nodes) value
    ∙ same_values n a e same (known ++ value_of e known node ∷ []) nodes (right_of (nat_lt node.var n) (list_all (λ (x : Node). nat_lt x.var n) nodes) all)

pub meaning_below : (n : ℕ) (set : KeptSet) → is_below n set ≡ true → DependsBelow n (meaning set)
unfolding meaning
meaning_below n set below a e same = ap (λ (bs : List Bool). slice_index_or bs set.root false) (same_values n a e same (false ∷ true ∷ []) set.nodes below)
