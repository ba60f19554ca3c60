-- Shortest violating paths of a problem.
use Rattle.std.proofs.Common.{◌≡◌, ℕ, List, Bool, true, false, arith}
use Rattle.law_obligations.specs.May.{AbsState}
use Rattle.law_obligations.specs.Readings.{PosedCase}
use Rattle.law_obligations.specs.CasePaths.{HasNone, IsShortest}

module _ (c : PosedCase) where
  -- two are of the same length
  pub same_steps : (j k : ℕ) (path other : List AbsState) → IsShortest c.problem j path → IsShortest c.problem k other → j ≡ k
  same_steps j k path other p q =
      let one = p.is_least other q.is_path in
      let two = q.is_least path p.is_path in
      let long = p.is_so_long in
      let also = q.is_so_long in
      omega arith

  -- and where there is none there is none
  pub not_both : (k : ℕ) (path : List AbsState) → HasNone c.problem → IsShortest c.problem k path → ⊥
  not_both k path none p = clash (none path p.is_path.are_states) p.is_path.is_violating
    where
      clash : {b : Bool} → b ≡ false → b ≡ true → ⊥
      clash e g = cc
