-- The times of uses: which uses are now, so that they hold no cycle.
use Rattle.std.specs.Prelude.{ℕ, zero, suc, ◌+◌, ◌*◌, Bool, not, ◌&&◌, ◌||◌, if◌then◌else◌, nat_eq, nat_lt}

-- one unit reaches another along uses through units below k
abbrev pub reaches_through : (ℕ → ℕ → Bool) → ℕ → ℕ → ℕ → Bool
reaches_through uses zero u v = nat_eq u v || uses u v
reaches_through uses (suc k) u v = reaches_through uses k u v || (reaches_through uses k u k && reaches_through uses k k v)

-- of n units u uses v now: on a cycle of uses only where v stands earlier (the choice between now and before is this project's)
abbrev pub is_now : (ℕ → ℕ → Bool) → ℕ → ℕ → ℕ → Bool
is_now uses n u v = uses u v && (not (reaches_through uses n v u) || nat_lt v u)

-- how many numbers below n pass the test
abbrev pub count_below : (ℕ → Bool) → ℕ → ℕ
count_below p zero = 0
count_below p (suc n) = (if p n then 1 else 0) + count_below p n

-- the order of the uses that are now: first by how many units are reached, then by the unit's own place
abbrev pub rank_of : (ℕ → ℕ → Bool) → ℕ → ℕ → ℕ
rank_of uses n u = count_below (reaches_through uses n u) n * n + u
