-- The definitions that picks choose, from one pick to the next.
use Rattle.std.proofs.Common.{◌≡◌, ℕ, suc, ◌-◌, ◌<◌, ◌≤◌, List, ◌∷◌, length, drop, get_or, ap, sym, subst, ◌∙◌, arith, drop-cons}
use Rattle.smv_core.specs.declared.flat.Pick.{Pick}
use Rattle.law_obligations.specs.Outlines.{Outline}
use Rattle.smv_use_times.specs.Tables.{AreChosen}

-- a pick in front of those from its place on
pub front : (o : Outline) (picks : List Pick) (nodes k : ℕ) (z : Pick) (next : List ℕ) → 0 < k → k ≤ length picks → AreChosen o (get_or picks (k - 1) z ∷ drop k picks) nodes next → AreChosen o (drop (k - 1) picks) nodes next
front o picks nodes k z next some within known =
    let e : k ≡ suc (k - 1) = omega arith in
    subst (λ ps. AreChosen o ps nodes next) (ap (λ n. get_or picks (k - 1) z ∷ drop n picks) e ∙ sym (drop-cons picks (k - 1) z (omega arith))) known
