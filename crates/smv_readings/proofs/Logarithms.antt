-- The least number of bits, by a logarithm.
use Rattle.std.proofs.Common.{◌≡◌, ℕ, zero, suc, ◌+◌, ◌-◌, ◌*◌, ◌^◌, ◌<◌, ◌≤◌, inl, inr, arith}
use Rattle.std.proofs.lemmas.Bool.{cases_lt}
use Rattle.law_obligations.specs.Codes.{bits_for, AreBits}
use Rattle.law_obligations.proofs.Codes.{bits_are}

pow-some : (m : ℕ) → 0 < 2 ^ m
pow-some zero = grind arith
pow-some (suc m) = grind (arith, pow-some m)

pow-grows : (b r : ℕ) → b ≤ r → 2 ^ b ≤ 2 ^ r
pow-grows zero r le = pow-some r
pow-grows (suc b) zero le = absurd (omega (arith, le))
pow-grows (suc b) (suc r) le = grind (arith, pow-grows b r (omega (arith, le)))

pub bits-few : (values : ℕ) → values ≤ 2 → bits_for values ≡ 1
bits-few values few =
    let are : AreBits values (bits_for values) = bits_are values in
    let most = are.least 1 (omega arith) few in
    let some = are.some in
    omega (arith, most, some)

pub bits-many : (values r : ℕ) → 2 < values → 2 ^ r ≤ values - 1 → values - 1 < 2 * 2 ^ r → bits_for values ≡ r + 1
bits-many values r many low high =
    let are : AreBits values (bits_for values) = bits_are values in
    let room : values ≤ 2 ^ (suc r) = grind (arith, high, many) in
    let most = are.least (suc r) (omega arith) room in
    elim (cases_lt r (bits_for values)) [
      | inl l ↦ omega (arith, most, l)
      | inr m ↦ absurd (let up = pow-grows (bits_for values) r (omega (arith, m)) in let enough = are.enough in omega (arith, up, enough, low, many))
    ]

pub ruleset bits = (bits-few, bits-many)
