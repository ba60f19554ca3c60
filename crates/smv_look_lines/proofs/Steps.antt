-- One line more of the parameters.
use Rattle.std.proofs.Common.{◌≡◌, ◌∙◌, ℕ, suc, ◌+◌, ◌<◌, List, ◌∷◌, ◌++◌, length, drop, get_or, Some, sym, ap, arith}
use Rattle.std.proofs.lemmas.List.{append_assoc}
use Rattle.std.proofs.lemmas.Option.{slice_get-get_or}
use Rattle.law_lists.proofs.Places.{drop_got}
use Rattle.smv_core.specs.declared.flat.Design.{Design}
use Rattle.smv_core.specs.declared.flat.Param.{Param}
use Rattle.smv_look_lines.specs.Lists.{param_line, param_lines}

-- the rest of a list from a place on begins with what stands there
rest_from : {X : Type 0} (xs : List X) (i : ℕ) (x : X) → i < length xs → x ≡ get_or xs i x → drop i xs ≡ x ∷ drop (suc i) xs
rest_from xs i x lt is = drop_got xs i x (slice_get-get_or xs i x lt ∙ ap Some (sym is))

from_here : (d : Design) (params : List Param) (i : ℕ) (p : Param) → i < length params → p ≡ get_or params i p → param_lines d (drop i params) ≡ param_line d p ++ param_lines d (drop (i + 1) params)
from_here d params i p lt is =
    let next : suc i ≡ i + 1 = omega arith in
    ap (λ (ps : List Param). param_lines d ps) (rest_from params i p lt is) ∙ ap (λ (n : ℕ). param_line d p ++ param_lines d (drop n params)) next

-- bytes are written of what comes first
more : (out new here rest all whole : List ℕ) → new ≡ out ++ here → all ≡ here ++ rest → out ++ all ≡ whole → new ++ rest ≡ whole
more out new here rest all whole e is before = ap (λ (bytes : List ℕ). bytes ++ rest) e ∙ (append_assoc out here rest ∙ (ap (λ (bytes : List ℕ). out ++ bytes) (sym is) ∙ before))

pub one_param : (d : Design) (params : List Param) (i : ℕ) (p : Param) (out new whole : List ℕ) → i < length params → p ≡ get_or params i p → new ≡ out ++ param_line d p → out ++ param_lines d (drop i params) ≡ whole → new ++ param_lines d (drop (i + 1) params) ≡ whole
one_param d params i p out new whole lt is e before = more out new (param_line d p) (param_lines d (drop (i + 1) params)) (param_lines d (drop i params)) whole e (from_here d params i p lt is) before
