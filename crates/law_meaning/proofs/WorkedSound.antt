-- One machine and two claims: the first holds in every run of it, the second does not.
use Rattle.std.proofs.Common.{◌≡◌, List, [], ◌∷◌, refl, Some, None, Option, false, All, Contains, arith}
use Rattle.std.proofs.lemmas.List.Elements.{All-cons, All-head, All-tail, All-contains}
use Rattle.law_lists.proofs.Each.{all_one}
use Rattle.smv_core.specs.Values.{Value, number, Sizes, range, not_of, disjunction, truth, bit, values_of}
use Rattle.smv_core.specs.Types.{Family, IsSizedTop}
use Rattle.smv_core.specs.FlatOrder.{design_of}
use Rattle.smv_core.specs.Outcome.{State}
use Rattle.smv_core.specs.Sound.{indexes_in, ProofUnit, claim_of, instances, IsRun, IsTyped, AtEachTime, Holds, IsSound}
use Rattle.smv_core.specs.Allowed.{allowed_by_base}
use Rattle.smv_core.specs.declared.tree.Text.{Text}
use Rattle.smv_core.specs.declared.tree.TypeExpr.{Boolean}
use Rattle.smv_core.specs.declared.tree.Expr.{Expr, Or, Not}
use Rattle.smv_core.specs.declared.tree.Item.{Claim}
use Rattle.law_meaning.proofs.Built.{computing, w, x, sig, num, path, declare, act, init, next, module_main}

-- module main() { x : boolean; init(x) := 0; next(x) := ~x; p : assert G e; }
abbrev design : Expr → Text
design e = module_main (declare x Boolean ∷ act (init (path (x ∷ [])) (num 0)) ∷ act (next (path (x ∷ [])) (Not (sig x) 0)) ∷ Claim (w 112) [] e 0 ∷ [])

abbrev always : Text
always = design (Or (sig x ∷ Not (sig x) 0 ∷ []))

abbrev claim : Expr → ProofUnit
claim e = claim_of (record { instance = []; name = 112 ∷ []; params = []; body = e })

abbrev x_family : Family
x_family = record { path = (x ∷ []) ∷ []; over = []; value = range 0 1; is_abstract = false }

module _ (sizes : Sizes) where
  abbrev IsTypedAt : State → Family → List Value → Type 0
  IsTypedAt t f vs = Contains (values_of sizes f.value) (t f.path vs)

  Here : Value → Type 0
  Here v = bit (disjunction (truth (Some v) ∷ truth (bit (not_of (truth (Some v)))) ∷ [])) ≡ Some (number 1)

  here : (t : State) → IsTyped (design_of always) sizes t → bit (disjunction (truth (Some (t ((x ∷ []) ∷ []) [])) ∷ truth (bit (not_of (truth (Some (t ((x ∷ []) ∷ []) []))))) ∷ [])) ≡ Some (number 1)
  unfolding computing Here
  here t typed =
      let of_x = All-head (λ f. All (IsTypedAt t f) (indexes_in sizes f)) x_family [] typed in
      All-contains Here (number 0 ∷ number 1 ∷ []) (t ((x ∷ []) ∷ []) []) (All-cons Here (number 0) (number 1 ∷ []) refl (all_one Here (number 1) refl)) (All-head (IsTypedAt t x_family) [] [] of_x)

  along : (before : Option State) (ss : List State) → All (IsTyped (design_of always) sizes) ss → AtEachTime (Holds (design_of always) sizes (claim (Or (sig x ∷ Not (sig x) 0 ∷ []))) []) before ss
  unfolding computing
  along before [] all = tt
  along before (t ∷ ss) all = (here t (All-head (IsTyped (design_of always) sizes) t ss all), along (Some t) ss (All-tail (IsTyped (design_of always) sizes) t ss all))

-- the claim `G (x | ~x)` holds in every run: x has a value of its type at each time
always-sound : IsSound always
unfolding computing
always-sound sizes sized [] isrun = absurd isrun
always-sound sizes sized (s ∷ run) isrun =
    all_one (λ unit. All (λ vs. AtEachTime (Holds (design_of always) sizes unit vs) None (s ∷ run)) (instances (design_of always) sizes unit)) (claim (Or (sig x ∷ Not (sig x) 0 ∷ [])))
    (all_one (λ vs. AtEachTime (Holds (design_of always) sizes (claim (Or (sig x ∷ Not (sig x) 0 ∷ []))) vs) None (s ∷ run)) [] (along sizes None (s ∷ run) isrun.0))

-- the claim `G ~x`, which fails at time 1
abbrev once : Text
once = design (Not (sig x) 0)

abbrev ones : Sizes
ones name = 1

abbrev at_0 : State
at_0 p vs = number 0

abbrev at_1 : State
at_1 p vs = number 1

in_first : (v w : Value) → Contains (v ∷ w ∷ []) v
in_first v w = (0, omega arith, refl)

in_second : (v w : Value) → Contains (v ∷ w ∷ []) w
in_second v w = (1, omega arith, refl)

in_one : (v : Value) → Contains (v ∷ []) v
in_one v = (0, omega arith, refl)

of_x : (P : Family → List Value → Type 0) → P x_family [] → All (λ f. All (P f) (indexes_in ones f)) (x_family ∷ [])
of_x P p = all_one (λ f. All (P f) (indexes_in ones f)) x_family (all_one (P x_family) [] p)

-- x is 0 and then 1: a run
once-run : IsRun (design_of once) ones (at_0 ∷ at_1 ∷ [])
unfolding computing
once-run = (
  All-cons (IsTyped (design_of once) ones) at_0 (at_1 ∷ []) (of_x (IsTypedAt ones at_0) (in_first (number 0) (number 1)))
      (all_one (IsTyped (design_of once) ones) at_1 (of_x (IsTypedAt ones at_1) (in_second (number 0) (number 1)))),
  (
    of_x (λ f vs. Contains (allowed_by_base (design_of once) ones f (record { path = f.path; indexes = vs }) None at_0) (at_0 f.path vs)) (in_one (number 0)),
    (
      of_x (λ f vs. Contains (allowed_by_base (design_of once) ones f (record { path = f.path; indexes = vs }) (Some at_0) at_1) (at_1 f.path vs)) (in_one (number 1)),
      tt,
    ),
  ),
)

zero≢one : Some (number 0) ≡ Some (number 1) → ⊥
zero≢one h = cc

-- in it `G ~x` fails at time 1
once-unsound : IsSound once → ⊥
unfolding computing
once-unsound sound =
    let all = sound ones (all_one (IsSizedTop ones) _ tt) (at_0 ∷ at_1 ∷ []) once-run in
    let unit = All-head (λ unit. All (λ vs. AtEachTime (Holds (design_of once) ones unit vs) None (at_0 ∷ at_1 ∷ [])) (instances (design_of once) ones unit)) (claim (Not (sig x) 0)) [] all in
    let times = All-head (λ vs. AtEachTime (Holds (design_of once) ones (claim (Not (sig x) 0)) vs) None (at_0 ∷ at_1 ∷ [])) [] [] unit in
    zero≢one times.1.0
