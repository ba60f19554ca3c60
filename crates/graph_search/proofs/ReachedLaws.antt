-- A search from one node, and each of some nodes once.
use Rattle.std.proofs.Common.{◌≡◌, ℕ, ◌↔◌, inl, inr, Bool, false, List, [], ◌∷◌, get_or, replicate, sym, subst, ◌∙◌, arith}
use Rattle.std.specs.List.{Contains}
use Rattle.std.proofs.lemmas.Grind.{common_steps}
use Rattle.std.proofs.lemmas.Bool.{false≢true}
use Rattle.graph_search.specs.Walks.{Walk, here, step}
use Rattle.graph_search.specs.Searches.{IsSeen, IsQueue, IsExplored, Saw}

pub none_seen : {P : Type 0} (n x : ℕ) → IsSeen (replicate n false) x → P
none_seen n x e = absurd (false≢true (sym (unseen n x) ∙ e))
  where
    unseen : (n x : ℕ) → get_or (replicate n false) x false ≡ false
    unseen n x = grind (arith, common_steps)

none_in : {P : Type 0} (x : ℕ) → Contains [] x → P
none_in x c = let l = c.1 in absurd (omega (arith, l))

only : (x y : ℕ) → Contains (x ∷ []) y → y ≡ x
only x y h = let first : h.0 ≡ 0 = (let l = h.1 in omega (arith, l)) in sym h.2 ∙ at h.0 first
  where
    at : (k : ℕ) → k ≡ 0 → get_or (x ∷ []) k y ≡ x
    at k e = grind (arith, common_steps)

-- what was seen from nothing is what came
module _ (n : ℕ) (nodes : List ℕ) (marks : List Bool) (queue : List ℕ) (saw : Saw nodes (replicate n false) marks [] queue) where
  pub came : (x : ℕ) → Contains queue x ↔ Contains nodes x
  came x = (
    λ c. elim (saw.fresh x c) [ inl old ↦ none_in x old | inr r ↦ r.0 ],
    λ c. elim (saw.told x (saw.each x c)) [ inl old ↦ none_seen n x old | inr there ↦ there ],
  )

  pub queued : IsQueue marks queue
  queued = record {
    few = saw.few (omega arith);
    marked = λ x c. elim (saw.fresh x c) [ inl old ↦ none_in x old | inr r ↦ r.2 ];
  }

  pub marked_queue : (x : ℕ) → IsSeen marks x → Contains queue x
  marked_queue x m = elim (saw.told x m) [ inl old ↦ none_seen n x old | inr there ↦ there ]

-- nothing was seen before
pub from_none : (n : ℕ) (nodes : List ℕ) (begun marks : List Bool) (none queue : List ℕ) → begun ≡ replicate n false → none ≡ [] → Saw nodes begun marks none queue → Saw nodes (replicate n false) marks [] queue
from_none n nodes begun marks none queue e f saw = subst (λ b. Saw nodes b marks [] queue) e (subst (λ q. Saw nodes begun marks q queue) f saw)

-- from one node
pub reached_by : (after : ℕ → List ℕ) (n start : ℕ) (seen marks : List Bool) (queue longer : List ℕ) → Saw (start ∷ []) (replicate n false) seen [] queue → IsExplored after seen marks queue longer →
    (x : ℕ) → IsSeen marks x ↔ Walk after start x
reached_by after n start seen marks queue longer saw all x = (
  λ m. led (elim (all.told x m) [ inl old ↦ all.front x (marked_queue n (start ∷ []) seen queue saw x old) | inr there ↦ there ]),
  λ w. on w (all.kept start (saw.each start (0, omega arith, first))),
)
  where
    first : get_or (start ∷ []) 0 start ≡ start
    first = grind (arith, common_steps)

    led : Contains longer x → Walk after start x
    led c = let r = all.reached x c in subst (λ s. Walk after s x) (only start r.0 ((came n (start ∷ []) seen queue saw r.0).0 r.1)) r.2

    found : (y : ℕ) → IsSeen marks y → Contains longer y
    found y m = elim (all.told y m) [ inl old ↦ all.front y (marked_queue n (start ∷ []) seen queue saw y old) | inr there ↦ there ]

    on : {y z : ℕ} → Walk after y z → IsSeen marks y → IsSeen marks z
    on here m = m
    on (step {y = y} c w) m = on w (all.closed _ y (found _ m) c)
