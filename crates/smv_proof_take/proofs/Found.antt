-- One line more among numbered ones.
use Rattle.std.proofs.Common.{◌≡◌, ◌∙◌, ℕ, suc, ◌+◌, List, [], ◌∷◌, ◌++◌, length, cond, Option, Some, None, Bool, true, false, if◌then◌else◌, nat_eq, refl, sym, ap, subst}
use Rattle.std.specs.HashMap.{HashMap, get, Updates}
use Rattle.smv_proof.specs.declared.proof.Node.{Node}
use Rattle.smv_proof.specs.Documents.{same_node}
use Rattle.smv_proof.specs.Kept.{number_from, numbered, joined}
use Rattle.smv_proof.proofs.Numbers.{same_is, found_last}
use Rattle.smv_proof_take.specs.Numbering.{HasNumbers, rooted}

-- another line is found where it was
other_number : (n : ℕ) (q node : Node) (nodes : List Node) → same_node q node ≡ false → number_from n q (nodes ++ node ∷ []) ≡ number_from n q nodes
other_number n q node [] other = rw other refl
other_number n q node (x ∷ nodes) other = ap (λ (o : Option ℕ). if same_node q x then Some n else o) (other_number (suc n) q node nodes other)

turned : (a b : Node) → same_node a b ≡ false → same_node b a ≡ false
turned a b e = by_test (same_node b a) refl
  where
    by_test : (t : Bool) → same_node b a ≡ t → same_node b a ≡ false
    by_test true is = let same : b ≡ a = same_is b a is in subst (λ (x : Node). same_node b x ≡ false) same (subst (λ (x : Node). same_node x b ≡ false) (sym same) e)
    by_test false is = is

-- a new line has its number behind the others
pub numbers_more : {S : Type 0} (old new : HashMap Node ℕ S) (nodes all : List Node) (node : Node) (number : ℕ) → HasNumbers old nodes → get same_node old node ≡ None → number ≡ length nodes + 2 → all ≡ nodes ++ node ∷ [] →
    Updates same_node old new node (Some number) → HasNumbers new all
numbers_more old new nodes all node number has none is put updates q = updates.0 q ∙ (by_test (same_node node q) refl ∙ ap (number_from 2 q) (sym put))
  where
    new_line : number_from 2 node nodes ≡ None
    new_line = sym (has node) ∙ none

    by_test : (t : Bool) → same_node node q ≡ t → cond t (Some number) (get same_node old q) ≡ number_from 2 q (nodes ++ node ∷ [])
    by_test true e =
        let same : node ≡ q = same_is node q e in
        subst (λ (x : Node). Some number ≡ number_from 2 x (nodes ++ node ∷ [])) same (ap Some is ∙ sym (found_last 2 node nodes [] new_line))
    by_test false e = has q ∙ sym (other_number 2 q node nodes (turned node q e))

pub found_numbered : (node : Node) (nodes : List Node) (k : ℕ) → number_from 2 node nodes ≡ Some k → numbered (number_from 2 node nodes) node nodes ≡ rooted k nodes
found_numbered node nodes k e = ap (λ (o : Option ℕ). numbered o node nodes) e

pub new_numbered : (node : Node) (nodes : List Node) → number_from 2 node nodes ≡ None → numbered (number_from 2 node nodes) node nodes ≡ rooted (length nodes + 2) (nodes ++ node ∷ [])
new_numbered node nodes e = ap (λ (o : Option ℕ). numbered o node nodes) e

pub joined_apart : (node : Node) (nodes : List Node) → nat_eq node.low node.high ≡ false → joined node.var node.low (rooted node.high nodes) ≡ numbered (number_from 2 node nodes) node nodes
joined_apart node nodes e = rw e refl

pub joined_alike : (node : Node) (nodes : List Node) → nat_eq node.low node.high ≡ true → joined node.var node.low (rooted node.high nodes) ≡ rooted node.high nodes
joined_alike node nodes e = rw e refl
