use Rattle.std.proofs.Common.{ℕ, ◌≤◌, sym, subst}
use Rattle.smv_concrete.proofs.ClassLaws.{few-classes}
use Rattle.smv_concrete.proofs.classes.classes_over.Goals as goal

pub named-requires : goal.named-requires
named-requires c = subst (λ (k : ℕ). k ≤ 256) (sym c.named_count.ensures) (few-classes c.args.types.now c.requires c.in-Set.set)
