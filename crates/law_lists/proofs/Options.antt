-- Options and results.
use Rattle.std.proofs.Common.{◌≡◌, Bool, false, Option, Some, None, is_some, Result, Ok, Err, IfOk, OnErr, refl}

pub some_is : {X : Type 0} {x y : X} → Some x ≡ Some y → x ≡ y
some_is e = cc

-- a test of whether there is something, which does not pass
pub none_from_test : {X : Type 0} (o : Option X) (b : Bool) → b ≡ is_some o → b ≡ false → o ≡ None
none_from_test None b e n = refl
none_from_test (Some x) b e n = cc

-- what holds anyway holds where there is an error
pub on_err : {A E : Type 0} (r : Result A E) (P : Type 0) → P → OnErr r P
on_err (Ok x) P p = tt
on_err (Err e) P p = p

-- two facts of a value give a third
pub if_ok_both : {X E : Type 0} (r : Result X E) (P Q R : X → Type 0) → ((x : X) → P x → Q x → R x) → IfOk r P → IfOk r Q → IfOk r R
if_ok_both (Ok x) P Q R step p q = step x p q
if_ok_both (Err e) P Q R step p q = tt
