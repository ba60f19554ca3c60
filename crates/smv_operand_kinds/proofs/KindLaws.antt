-- Operands of one kind, from left to right.
use Rattle.std.proofs.Common.{◌≡◌, ℕ, suc, ◌+◌, ◌<◌, ◌≤◌, Bool, true, List, [], ◌∷◌, ◌++◌, map, zip, length, get_or, drop, drop-cons, refl, ap, ◌∙◌, sym, arith}
use Rattle.std.specs.Prelude.{Option, Some, None, slice_get, unwrap_or}
use Rattle.std.proofs.lemmas.List.{append_assoc, append-nil}
use Rattle.std.specs.List.{flat_map}
use Rattle.law_lists.proofs.Places.{drop_past}
use Rattle.smv_mentions.specs.FirstFault.{faults_at}
use Rattle.smv_core.specs.declared.fault.Fault.{Fault}
use Rattle.smv_core.specs.declared.tree.Part.{Part, Field, At}
use Rattle.smv_core.specs.Walk.{indexes_of}
use Rattle.law_designs.specs.Kinds.{Kind, number, enumeration, set_type, no_kind, joins, joined, is_number, accepts, Operand, unless, takes_number, takes, alike_with, kind_with, stray_set}
use Rattle.law_designs.specs.Types.{Whole}
use Rattle.law_designs.specs.References.{Scope, Vars, reference}
use Rattle.law_designs.specs.Operands.{operand}
use Rattle.smv_expression_kinds.specs.declared.kinds.ValueKind.{ValueKind}
use Rattle.smv_core.specs.declared.tree.Expr.{Expr}
use Rattle.smv_scope.specs.declared.tables.Tables.{Tables as ScopeTables}
use Rattle.smv_expression_kinds.specs.Forms.{kind_of, misfit}
use Rattle.smv_expression_kinds.specs.Found.{vars_of}
use Rattle.smv_operand_kinds.specs.Found.{begin, begins_at, or_zero, path_faults, part_faults}

-- an operand that is itself at fault fits everywhere
joins-none : (kind : Kind) → joins kind no_kind ≡ true
unfolding joins
joins-none number = refl
joins-none (enumeration names) = refl
joins-none (set_type name) = refl
joins-none no_kind = refl

unless-is : (fits : Bool) (e : Operand) → unless fits e ≡ misfit fits e.at
unfolding unless misfit
unless-is fits e = refl

fits-always : (at : ℕ) → misfit true at ≡ []
unfolding misfit
fits-always at = refl

pub number-is : (e : Operand) → takes_number e ≡ e.faults ++ misfit (is_number e.kind) e.at
unfolding takes_number
number-is e = ap (λ l. e.faults ++ l) (unless-is (is_number e.kind) e)

pub takes-is : (kind : Kind) (e : Operand) → takes kind e ≡ e.faults ++ misfit (accepts kind e.kind) e.at
unfolding takes
takes-is kind e = ap (λ l. e.faults ++ l) (unless-is (accepts kind e.kind) e)

pub alike-none : (kind : Kind) → alike_with kind [] ≡ []
unfolding alike_with
alike-none kind = refl

pub alike-step : (kind : Kind) (e : Operand) (es : List Operand) → alike_with kind (e ∷ es) ≡ e.faults ++ misfit (joins kind e.kind) e.at ++ alike_with (joined kind e.kind) es
unfolding alike_with
alike-step kind e es = ap (λ l. e.faults ++ l ++ alike_with (joined kind e.kind) es) (unless-is (joins kind e.kind) e)

pub kind-none : (kind : Kind) → kind_with kind [] ≡ kind
unfolding kind_with
kind-none kind = refl

pub kind-step : (kind : Kind) (e : Operand) (es : List Operand) → kind_with kind (e ∷ es) ≡ kind_with (joined kind e.kind) es
unfolding kind_with
kind-step kind e es = refl

joined-first : (kind : Kind) → joined no_kind kind ≡ kind
unfolding joined
joined-first kind = refl

joins-first : (kind : Kind) → joins no_kind kind ≡ true
unfolding joins
joins-first kind = refl

-- the first of some operands fits
pub alike-first : (e : Operand) (es : List Operand) → alike_with no_kind (e ∷ es) ≡ e.faults ++ alike_with e.kind es
alike-first e es =
    alike-step no_kind e es ∙ ap (λ b. e.faults ++ misfit b e.at ++ alike_with (joined no_kind e.kind) es) (joins-first e.kind)
    ∙ ap (λ l. e.faults ++ l ++ alike_with (joined no_kind e.kind) es) (fits-always e.at) ∙ ap (λ l. l ++ alike_with (joined no_kind e.kind) es) (append-nil e.faults)
    ∙ ap (λ kind. e.faults ++ alike_with kind es) (joined-first e.kind)

pub alike-last : (kind : Kind) (e : Operand) → alike_with kind (e ∷ []) ≡ e.faults ++ misfit (joins kind e.kind) e.at
alike-last kind e = alike-step kind e [] ∙ ap (λ l. e.faults ++ misfit (joins kind e.kind) e.at ++ l) (alike-none (joined kind e.kind)) ∙ append-nil (e.faults ++ misfit (joins kind e.kind) e.at)

-- two sides of one kind
pub alike-both : (e f : Operand) → alike_with no_kind (e ∷ f ∷ []) ≡ e.faults ++ (f.faults ++ misfit (joins e.kind f.kind) f.at)
alike-both e f = alike-first e (f ∷ []) ∙ ap (λ l. e.faults ++ l) (alike-last e.kind f)

-- a set that may not stand where it does fits
pub alike-stray : (kind : Kind) (at : ℕ) → alike_with kind (stray_set at ∷ []) ≡ (stray_set at).faults
alike-stray kind at =
    alike-last kind (stray_set at) ∙ ap (λ b. (stray_set at).faults ++ misfit b at) (joins-none kind) ∙ ap (λ l. (stray_set at).faults ++ l) (fits-always at) ∙ append-nil (stray_set at).faults

pub alike-append : (kind : Kind) (xs ys : List Operand) → alike_with kind (xs ++ ys) ≡ alike_with kind xs ++ alike_with (kind_with kind xs) ys
unfolding alike_with kind_with
alike-append kind [] ys = refl
alike-append kind (e ∷ xs) ys =
    ap (λ l. e.faults ++ unless (joins kind e.kind) e ++ l) (alike-append (joined kind e.kind) xs ys)
    ∙ sym (append_assoc (e.faults ++ unless (joins kind e.kind) e) (alike_with (joined kind e.kind) xs) (alike_with (kind_with (joined kind e.kind) xs) ys))

pub kind-append : (kind : Kind) (xs ys : List Operand) → kind_with kind (xs ++ ys) ≡ kind_with (kind_with kind xs) ys
unfolding kind_with
kind-append kind [] ys = refl
kind-append kind (e ∷ xs) ys = kind-append (joined kind e.kind) xs ys

pub ruleset number_fits = (number-is)

pub ruleset value_fits = (takes-is)

pub ruleset sides_fit = (alike-both)

pub ruleset first_fits = (alike-first)

pub ruleset stray_fits = (alike-stray, alike-none)

pub ruleset in_turn = (alike-none, alike-step, kind-none, kind-step)

pub ruleset all_in_turn = (alike-none, alike-append, kind-none, kind-append)

-- ---- references

module _ (scope : Scope) (vars : Vars) where
  path-none : (parts : List Part) → flat_map (λ (e : Operand). e.faults) (map (operand scope vars) (indexes_of parts)) ≡ path_faults scope vars None parts
  path-none [] = refl
  path-none (Field word ∷ parts) = path-none parts
  path-none (At index ∷ parts) = ap (λ l. (operand scope vars index).faults ++ l) (path-none parts)

  path-done : (parts : List Part) → path_faults scope vars (Some []) parts ≡ []
  path-done [] = refl
  path-done (Field word ∷ parts) = path-done parts
  path-done (At index ∷ parts) = path-done parts

  path-some : (over : List Kind) (parts : List Part) → flat_map (λ (kind, e). takes kind e) (zip over (map (operand scope vars) (indexes_of parts))) ≡ path_faults scope vars (Some over) parts
  path-some [] parts = sym (path-done parts)
  path-some (kind ∷ over) [] = refl
  path-some (kind ∷ over) (Field word ∷ parts) = path-some (kind ∷ over) parts
  path-some (kind ∷ over) (At index ∷ parts) = ap (λ l. takes kind (operand scope vars index) ++ l) (path-some over parts)

  pub faults-nowhere : (at : ℕ) (parts : List Part) → (reference at None (map (operand scope vars) (indexes_of parts))).faults ≡ faults_at (12, at ∷ []) ++ path_faults scope vars None parts
  unfolding reference
  faults-nowhere at parts = ap (λ l. faults_at (12, at ∷ []) ++ l) (path-none parts)

  pub faults-whole : (at : ℕ) (w : Whole) (parts : List Part) → (reference at (Some w) (map (operand scope vars) (indexes_of parts))).faults ≡ path_faults scope vars (Some w.over) parts
  unfolding reference
  faults-whole at w parts = path-some w.over parts

pub kind-nowhere : (at : ℕ) (es : List Operand) → (reference at None es).kind ≡ no_kind
unfolding reference
kind-nowhere at es = refl

pub kind-whole : (at : ℕ) (w : Whole) (es : List Operand) → (reference at (Some w) es).kind ≡ w.value
unfolding reference
kind-whole at w es = refl

pub reference-at : (at : ℕ) (o : Option Whole) (es : List Operand) → (reference at o es).at ≡ at
unfolding reference
reference-at at None es = refl
reference-at at (Some w) es = refl

pub ruleset references = (faults-nowhere, faults-whole, kind-nowhere, kind-whole, reference-at)

-- the kind of the next index
pub next-none : (names : ScopeTables) (kinds : List ValueKind) (scope : Scope) (vars : Vars) (e : Expr) → slice_get kinds 0 ≡ None → part_faults scope vars (Some (map (kind_of names) kinds)) (At e) ≡ []
next-none names [] scope vars e h = refl
next-none names (kind ∷ kinds) scope vars e h = cc

pub next-some : (names : ScopeTables) (kinds : List ValueKind) (kind : ValueKind) (scope : Scope) (vars : Vars) (e : Expr) → slice_get kinds 0 ≡ Some kind
    → part_faults scope vars (Some (map (kind_of names) kinds)) (At e) ≡ takes (kind_of names kind) (operand scope vars e)
next-some names [] kind scope vars e h = cc
next-some names (other ∷ kinds) kind scope vars e h = let same : other ≡ kind = cc in ap (λ k. takes (kind_of names k) (operand scope vars e)) same

pub ruleset next_kinds = (next-none, next-some)

-- the first of some places
begin-at : (at : ℕ) (es : List Operand) → begin (Some at) es ≡ Some at
begin-at at [] = refl
begin-at at (e ∷ es) = begin-at at es

pub begin-first : (es : List Operand) → begins_at es ≡ or_zero (begin None es)
unfolding begins_at or_zero
begin-first [] = refl
begin-first (e ∷ es) = sym (ap (λ o. unwrap_or o 0) (begin-at e.at es))

pub ruleset begins = (begin-first)

pub vars-none : (names : ScopeTables) → vars_of names [] ≡ []
unfolding vars_of
vars-none names = refl

pub ruleset no_vars = (vars-none)

-- ---- operands that come in lists

module _ {A : Type 0} (f : A → List Operand) where
  next-of : (xs : List A) (i : ℕ) (x : A) → i < length xs → x ≡ get_or xs i x → flat_map f (drop i xs) ≡ f x ++ flat_map f (drop (i + 1) xs)
  next-of xs i x lt is =
      let next : suc i ≡ i + 1 = omega arith in
      ap (flat_map f) (drop-cons xs i x lt) ∙ ap (λ y. f y ++ flat_map f (drop (suc i) xs)) (sym is) ∙ ap (λ j. f x ++ flat_map f (drop j xs)) next

  pub lists-step : (xs : List A) (i : ℕ) (x : A) (all all' : Kind) (old new first : List Fault) → i < length xs → x ≡ get_or xs i x
      → old ++ alike_with all (flat_map f (drop i xs)) ≡ first → new ≡ old ++ alike_with all (f x) → all' ≡ kind_with all (f x)
      → new ++ alike_with all' (flat_map f (drop (i + 1) xs)) ≡ first
  lists-step xs i x all all' old new first lt is so_far faults kind =
      let more : List Operand = flat_map f (drop (i + 1) xs) in
      ap (λ l. l ++ alike_with all' more) faults
      ∙ append_assoc old (alike_with all (f x)) (alike_with all' more)
      ∙ ap (λ k. old ++ (alike_with all (f x) ++ alike_with k more)) kind
      ∙ ap (λ l. old ++ l) (sym (alike-append all (f x) more))
      ∙ sym (ap (λ l. old ++ alike_with all l) (next-of xs i x lt is))
      ∙ so_far

  pub lists-done : (xs : List A) (i : ℕ) (all : Kind) (old first : List Fault) → length xs ≤ i → old ++ alike_with all (flat_map f (drop i xs)) ≡ first → old ≡ first
  lists-done xs i all old first past so_far =
      sym (ap (λ l. old ++ alike_with all (flat_map f l)) (drop_past xs i past) ∙ ap (λ l. old ++ l) (alike-none all) ∙ append-nil old) ∙ so_far
