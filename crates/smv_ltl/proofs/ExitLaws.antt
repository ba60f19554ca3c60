-- The fault at the exit of a call that hands it on.
use Rattle.std.proofs.Common.{◌≡◌, sym, subst, Result, Ok, Err}
use Rattle.std.specs.Result.{IsErrAnd}
use Rattle.smv_core.specs.declared.fault.Fault.{Fault}
use Rattle.smv_core.specs.declared.fault.Refusal.{Refusal}
use Rattle.smv_core.specs.declared.fault.Refusal.TheVariants as refusal
use Rattle.smv_lex.specs.Answers.{IfFault}

weaker : (X Y : Type 0) (e : Refusal) (P Q : Fault → Type 0) → ((f : Fault) → P f → Q f) → IfFault {X = X} (Err e) P → IfFault {X = Y} (Err e) Q
weaker X Y (refusal.Fault f) P Q h k = h f k
weaker X Y refusal.OutOfMemory P Q h k = tt

-- of which something else is said there
pub exit-with : {X Y : Type 0} (s : Result X Refusal) (r : Result Y Refusal) (e : Refusal) (P Q : Fault → Type 0) → ((f : Fault) → P f → Q f) → s ≡ Err e → IsErrAnd r (λ x. x ≡ e) → IfFault s P → IfFault r Q
exit-with s (Ok y) e P Q h was same k = absurd same
exit-with {X} {Y} s (Err x) e P Q h was same k = subst (λ (z : Refusal). IfFault {X = Y} (Err z) Q) (sym same) (weaker X Y e P Q h (subst (λ (w : Result X Refusal). IfFault w P) was k))
