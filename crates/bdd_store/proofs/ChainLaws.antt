-- Steps along a chain.
use Rattle.std.proofs.Common.{◌≡◌, ◌≢◌, ℕ, zero, suc, ◌<◌, ◌≤◌, ◌⊎◌, true, false, cond, List, length, refl, sym, ◌∙◌, ap, arith, inl, inr}
use Rattle.std.proofs.lemmas.Bool.{cases_lt}
use Rattle.std.proofs.lemmas.Bool.Decides.{nat_tests}
use Rattle.std.proofs.lemmas.Nat.{and_le_r, pow_pos}
use Rattle.std.specs.Prelude.{nat_lt, ◌+◌, ◌*◌, ◌-◌}
use Rattle.bdd_store.specs.declared.chains.Node.{Node}
use Rattle.bdd_store.specs.Graph.{var_at, low_at, high_at, next_at}
use Rattle.bdd_store.specs.Chains.{bucket_of, home, start, after, InChain, IsFalling, IsPower, Chained}

pub cases_eq : (k b : ℕ) → (k ≡ b) ⊎ (k ≢ b)
cases_eq k b = elim (cases_lt k b) [ inl below ↦ inr (λ e. omega arith) | inr above ↦ elim (cases_lt b k) [ inl over ↦ inr (λ e. omega arith) | inr le ↦ inl (omega arith) ] ]

pub at_start : (ns : List Node) (x r : ℕ) → x ≡ r → InChain ns x r
unfolding after
at_start ns x r e = (0, e)

-- a chain from its second place on
pub longer : (ns : List Node) (x second r : ℕ) → next_at ns x ≡ second → InChain ns second r → InChain ns x r
unfolding after
longer ns x second r e chain = (suc chain.0, ap (after ns chain.0) e ∙ chain.1)

-- what a chain leads to is its first place, or lies behind the first link
pub ahead : (ns : List Node) (x r : ℕ) → InChain ns x r → (x ≡ r) ⊎ InChain ns (next_at ns x) r
unfolding after
ahead ns x r (zero, e) = inl e
ahead ns x r (suc n, e) = inr (n, e)

pub next_ahead : (ns : List Node) (x r : ℕ) → InChain ns x r → x ≢ r → InChain ns (next_at ns x) r
next_ahead ns x r chain ne = elim (ahead ns x r chain) [ inl e ↦ absurd (ne e) | inr later ↦ later ]

after_next : (ns : List Node) (n x : ℕ) → after ns n (next_at ns x) ≡ next_at ns (after ns n x)
unfolding after
after_next ns zero x = refl
after_next ns (suc n) x = after_next ns n (next_at ns x)

-- a chain goes on
pub one_more : (ns : List Node) (x r : ℕ) → InChain ns x r → InChain ns x (next_at ns r)
unfolding after
one_more ns x r chain = (suc chain.0, after_next ns chain.0 x ∙ ap (next_at ns) chain.1)

-- past its end a chain stays there
after_end : (ns : List Node) (n : ℕ) → next_at ns 0 ≡ 0 → after ns n 0 ≡ 0
unfolding after
after_end ns zero e = refl
after_end ns (suc n) e = ap (after ns n) e ∙ after_end ns n e

pub none_at_end : (ns : List Node) (r : ℕ) → next_at ns 0 ≡ 0 → InChain ns 0 r → 0 < r → ⊥
none_at_end ns r ends (n, e) lt = let stays = after_end ns n ends in omega arith

-- a chain whose links stay
pub after_kept : (ns ms : List Node) (k x : ℕ) → ((r : ℕ) → InChain ns x r → next_at ms r ≡ next_at ns r) → after ms k x ≡ after ns k x
unfolding after
after_kept ns ms zero x same = refl
after_kept ns ms (suc k) x same = ap (after ms k) (same x (at_start ns x x refl)) ∙ after_kept ns ms k (next_at ns x) (λ r chain. same r (longer ns x (next_at ns x) r refl chain))

pub chain_kept : (ns ms : List Node) (x : ℕ) → ((r : ℕ) → InChain ns x r → next_at ms r ≡ next_at ns r) → (r : ℕ) → InChain ns x r → InChain ms x r
chain_kept ns ms x same r chain = (chain.0, after_kept ns ms chain.0 x same ∙ chain.1)

pub chain_back : (ns ms : List Node) (x : ℕ) → ((r : ℕ) → InChain ns x r → next_at ms r ≡ next_at ns r) → (r : ℕ) → InChain ms x r → InChain ns x r
chain_back ns ms x same r chain = (chain.0, sym (after_kept ns ms chain.0 x same) ∙ chain.1)

-- along a falling chain places are no higher than the first
falling_after : (ns : List Node) (k x : ℕ) → next_at ns 0 ≡ 0 → IsFalling ns x → after ns k x ≤ x
unfolding after
falling_after ns zero x ends falls = omega arith
falling_after ns (suc k) x ends falls =
    let rest = falling_after ns k (next_at ns x) ends (λ r pos chain. falls r pos (longer ns x (next_at ns x) r refl chain)) in
    elim (cases_eq x 0) [
      | inl e ↦ omega (arith, rest, ap (next_at ns) e, ends)
      | inr ne ↦ omega (arith, rest, (falls x (omega arith) (at_start ns x x refl)).1)
    ]

pub falling_le : (ns : List Node) (x r : ℕ) → next_at ns 0 ≡ 0 → IsFalling ns x → InChain ns x r → r ≤ x
falling_le ns x r ends falls chain = omega (arith, falling_after ns chain.0 x ends falls, chain.1)

-- a place stands at most once in a falling chain
pub once : (ns : List Node) (x r i j : ℕ) → next_at ns 0 ≡ 0 → IsFalling ns x → 0 < r → after ns i x ≡ r → after ns j x ≡ r → i ≡ j
unfolding after
once ns x r zero zero ends falls pos at_i at_j = refl
once ns x r zero (suc j) ends falls pos at_i at_j =
    absurd (omega (arith, falling_after ns j (next_at ns x) ends (λ q q_pos chain. falls q q_pos (longer ns x (next_at ns x) q refl chain)), (falls x (omega arith) (at_start ns x x refl)).1))
once ns x r (suc i) zero ends falls pos at_i at_j =
    absurd (omega (arith, falling_after ns i (next_at ns x) ends (λ q q_pos chain. falls q q_pos (longer ns x (next_at ns x) q refl chain)), (falls x (omega arith) (at_start ns x x refl)).1))
once ns x r (suc i) (suc j) ends falls pos at_i at_j = ap suc (once ns (next_at ns x) r i j ends (λ q q_pos chain. falls q q_pos (longer ns x (next_at ns x) q refl chain)) pos at_i at_j)

-- a power of two is positive
pub power_pos : (m : ℕ) → IsPower m → 0 < m
power_pos m power = omega (arith, power.1, pow_pos power.0)

pub bucket_lt : (var low high len : ℕ) → 0 < len → bucket_of var low high len < len
unfolding bucket_of
bucket_lt var low high len pos = omega (arith, and_le_r (low + 37 * high + 0x1E37_79B1 * var) (len - 1))

-- the home of a node, and of a place that was given back
pub home_node : (n : ℕ) (ns : List Node) (len r : ℕ) → var_at ns r < n → home n ns len r ≡ bucket_of (var_at ns r) (low_at ns r) (high_at ns r) len
unfolding home
home_node n ns len r lt = let test : nat_lt (var_at ns r) n ≡ true = grind (arith, nat_tests) in ap (λ t. cond t (bucket_of (var_at ns r) (low_at ns r) (high_at ns r) len) len) test

pub home_free : (n : ℕ) (ns : List Node) (len r : ℕ) → n ≤ var_at ns r → home n ns len r ≡ len
unfolding home
home_free n ns len r le = let test : nat_lt (var_at ns r) n ≡ false = grind (arith, nat_tests) in ap (λ t. cond t (bucket_of (var_at ns r) (low_at ns r) (high_at ns r) len) len) test

-- the home of a place is its free list alone where it was given back
pub free_home : (n : ℕ) (ns : List Node) (len r : ℕ) → 0 < len → home n ns len r ≡ len → n ≤ var_at ns r
free_home n ns len r pos e = elim (cases_lt (var_at ns r) n) [
  | inl lt ↦ absurd (omega (arith, home_node n ns len r lt, bucket_lt (var_at ns r) (low_at ns r) (high_at ns r) len pos))
  | inr le ↦ le
]

pub home_le : (n : ℕ) (ns : List Node) (len r : ℕ) → 0 < len → home n ns len r ≤ len
home_le n ns len r pos = elim (cases_lt (var_at ns r) n) [
  | inl lt ↦ omega (arith, home_node n ns len r lt, bucket_lt (var_at ns r) (low_at ns r) (high_at ns r) len pos)
  | inr le ↦ omega (arith, home_free n ns len r le)
]

-- a place that keeps its node keeps its home
pub home_same : (n : ℕ) (ns ms : List Node) (len len' r : ℕ) → len' ≡ len → var_at ms r ≡ var_at ns r → low_at ms r ≡ low_at ns r → high_at ms r ≡ high_at ns r → home n ms len' r ≡ home n ns len r
unfolding home
home_same n ns ms len len' r same_len same_var same_low same_high = cc

module _ (n : ℕ) (ns : List Node) (heads : List ℕ) (free : ℕ) (IsIn : ℕ → Type 0) (ok : Chained n ns heads free IsIn) where
  -- each chain falls and ends
  pub chain_falling : ((r : ℕ) → IsIn r → r < length ns) → (c : ℕ) → c ≤ length heads → IsFalling ns (start heads free c)
  chain_falling inside c le r pos chain = let is = ok.only c r le pos chain in (inside r is.1, ok.falls r is.0 is.1)

  pub start_in : (c : ℕ) → c ≤ length heads → 0 < start heads free c → IsIn (start heads free c)
  start_in c le pos = (ok.only c (start heads free c) le pos (at_start ns (start heads free c) (start heads free c) refl)).1
