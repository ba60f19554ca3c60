-- A diagram of the two constants alone.
use Rattle.std.proofs.Common.{◌≡◌, ℕ, zero, suc, ◌^◌, ◌<◌, false, [], ◌∷◌, length, get_or, refl, sym, ◌∙◌, ap, subst, arith}
use Rattle.bdd_store.specs.declared.Ref.{Ref}
use Rattle.bdd_store.specs.declared.chains.Node.{Node}
use Rattle.bdd_store.specs.Graph.{var_at, Live, Reduced}
use Rattle.bdd_store.specs.Chains.{Stored, node_count}
use Rattle.bdd_store.specs.Diagram.{Diagram, IsLive, IsReduced, IsProper, first_var, held, HasMarks}
use Rattle.bdd_store.specs.Seen.{flag}
use Rattle.bdd_store.proofs.Puts.{count_cons, node_none}
use Rattle.bdd_store.proofs.NodeLaws.{held_is}
use Rattle.bdd_store.proofs.Links.{none_linked}

module _ (n : ℕ) (nd : Node) (is_last : nd.var ≡ n) (ends : nd.next ≡ 0) where
  no_node : (r : ℕ) → Live n (nd ∷ nd ∷ []) r → var_at (nd ∷ nd ∷ []) r < n → ⊥
  no_node zero live lt = omega arith
  no_node (suc zero) live lt = omega arith
  no_node (suc (suc r)) live lt = let within = live.0 in omega arith

  pub new_reduced : Reduced n (nd ∷ nd ∷ [])
  new_reduced = record {
    constants = omega arith;
    zero_last = is_last;
    one_last = is_last;
    low_live = λ r live lt. absurd (no_node r live lt);
    high_live = λ r live lt. absurd (no_node r live lt);
    low_later = λ r live lt. absurd (no_node r live lt);
    high_later = λ r live lt. absurd (no_node r live lt);
    differ = λ r live lt e. no_node r live lt;
    unique = λ r q live_r live_q lt same_var same_low same_high. absurd (no_node r live_r lt);
  }

  pub new_counted : 0 ≡ node_count n (nd ∷ nd ∷ [])
  new_counted = omega (arith, count_cons n nd (nd ∷ []), count_cons n nd [], node_none n nd (omega arith), none)
    where
      none : node_count n [] ≡ 0
      none = unfold node_count in refl

  pub new_stored : Stored n (nd ∷ nd ∷ []) (0 ∷ []) 0 0 (false ∷ false ∷ []) 0 []
  new_stored = record {
    reduced = new_reduced;
    chained = none_linked n (nd ∷ nd ∷ []) (0 ∷ []) (0, one) ends first;
    few = omega arith;
    held_counted = new_counted;
    flags = refl;
    marks_counted = refl;
    known = λ i lt. absurd (omega arith);
  }
    where
      one : length {A = ℕ} (0 ∷ []) ≡ 2 ^ 0
      one = refl

      first : (k : ℕ) → k < 1 → get_or {A = ℕ} (0 ∷ []) k 0 ≡ 0
      first zero lt = refl
      first (suc k) lt = absurd (omega arith)

clear_flag : (q : ℕ) → flag (false ∷ false ∷ []) q ≡ false
unfolding flag
clear_flag zero = refl
clear_flag (suc zero) = refl
clear_flag (suc (suc q)) = refl

-- what its contract says
module _ (d : Diagram) (nd : Node) (is_last : nd.var ≡ d.vars) (ends : nd.next ≡ 0) (nodes : d.nodes ≡ nd ∷ nd ∷ []) where
  pub new_sound : IsReduced d
  unfolding IsReduced
  new_sound = subst (Reduced d.vars) (sym nodes) (new_reduced d.vars nd is_last ends)

  pub new_empty : (r : Ref) → IsLive d r → IsProper d r → ⊥
  unfolding IsLive first_var
  new_empty r live lt = no_node d.vars nd is_last ends r.place (subst (λ ns. Live d.vars ns r.place) nodes live) (subst (λ ns. var_at ns r.place < d.vars) nodes lt)

  pub new_held : held d ≡ 0
  new_held = held_is d ∙ ap (node_count d.vars) nodes ∙ sym (new_counted d.vars nd is_last ends)

  pub new_marks : d.marks ≡ false ∷ false ∷ [] → HasMarks d []
  unfolding HasMarks
  new_marks e q = ap (λ l. flag l q) e ∙ clear_flag q
