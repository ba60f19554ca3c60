-- In a module an expression without faults of kinds is right.
use Rattle.law_designs.proofs.Opening.{opening}
use Rattle.std.proofs.Common.{◌≡◌, ℕ, List, [], ◌∷◌, ◌++◌, map, length, Option, Some, None, option_and_then, Bool, true, false, cond, nat_eq, ◌⊎◌, inl, inr, refl, sym, ◌∙◌, subst, arith}
use Rattle.std.specs.Str.{bytes_eq}
use Rattle.smv_core.specs.Values.{Name, Path}
use Rattle.smv_core.specs.Types.{Family, find_name}
use Rattle.smv_core.specs.Outcome.{fields_of, family_at}
use Rattle.smv_core.specs.Walk.{indexes_of}
use Rattle.smv_core.specs.Assignments.{Around, loop, any}
use Rattle.smv_core.specs.declared.tree.Word.{Word}
use Rattle.smv_core.specs.declared.tree.Part.{Part, Field, At}
use Rattle.smv_core.specs.declared.tree.Member.{One, Span as SpanOf}
use Rattle.smv_core.specs.declared.tree.Expr.{Expr, Number, Signal', Not', And', Or', Implies', Iff', Compare', Within', Sum', Modulo', Choose', All', Any', List', Each', Held-Expr-Each-2, None', Some', Row_of-Expr, end_of-Expr, more_of-Expr, Row_of-Part, end_of-Part, more_of-Part, Row_of-Member, end_of-Member, more_of-Member, Row_of-Signed, end_of-Signed, more_of-Signed, items-the_row-Part}
use Rattle.smv_core.specs.declared.flat.FlatExpr.{FlatExpr, Var, Loop}
use Rattle.smv_mentions.specs.Scopes.{Constant}
use Rattle.smv_mentions.specs.NameFaults.{place_if}
use Rattle.smv_mentions.specs.FirstFault.{faults_at}
use Rattle.law_designs.specs.Kinds.{Kind, Operand, enumeration, takes_number, alike}
use Rattle.law_designs.specs.Types.{Whole, single, index_faults}
use Rattle.law_designs.specs.References as kinds
use Rattle.law_designs.specs.References.{Vars, signal_at, constant_at, reference_at}
use Rattle.law_designs.specs.Operands.{bind, operand, operands, indexes, summands, members, looked_through, condition_faults, value}
use Rattle.law_designs.specs.Numbers.{Scope, bound_in, variable, variable_at}
use Rattle.law_designs.specs.Agreement.{IsConstant, IsKnown, IsRight, AreRight, PartsAreRight, IndexesAreRight, TermsAreRight, MembersAreRight, ConditionIsRight}
use Rattle.law_designs.specs.Written.{IsSet, IsWritten, AreWritten, PartsAreWritten, IndexesAreWritten, TermsAreWritten, MembersAreWritten, ConditionIsWritten}
use Rattle.law_designs.proofs.Faultless.{empty-both, IsFine, AreFine, number-fine, numbers-fine, alike-fine, compared-fine, reference-fine}
use Rattle.law_designs.proofs.LeadTypes.{single-counts}

-- ---- variables

-- the same variables are bound around
abbrev pub AreSameNames : Vars → Around → Type 0
AreSameNames [] [] = Unit {0}
AreSameNames ((name, kind) ∷ vars) ((other, bound) ∷ around) = (name ≡ other) × AreSameNames vars around
AreSameNames _ _ = ⊥

variable-bound : (vars : Vars) (around : Around) → AreSameNames vars around → (name : Name) (at : ℕ) (kind : Kind) → find_name vars name ≡ Some kind → (x : FlatExpr) × (variable around name at ≡ Some x)
unfolding opening
variable-bound [] [] same name at kind e = absurd (cc (e))
variable-bound [] (b ∷ around) same name at kind e = absurd same
variable-bound (v ∷ vars) [] same name at kind e = absurd same
variable-bound ((other, own) ∷ vars) ((third, loop k) ∷ around) same name at kind e =
    subst (λ o. (x : FlatExpr) × (cond (bytes_eq o name) (Some (Loop k at)) (variable around name at) ≡ Some x)) same.0 (by_test (bytes_eq other name) e (variable-bound vars around same.1 name at kind))
  where
    by_test : (b : Bool) → cond b (Some own) (find_name vars name) ≡ Some kind → (find_name vars name ≡ Some kind → (x : FlatExpr) × (variable around name at ≡ Some x)) →
        (x : FlatExpr) × (cond b (Some (Loop k at)) (variable around name at) ≡ Some x)
    by_test true e rest = (Loop k at, refl)
    by_test false e rest = rest e
variable-bound ((other, own) ∷ vars) ((third, any) ∷ around) same name at kind e =
    subst (λ o. (x : FlatExpr) × (cond (bytes_eq o name) (Some (Var (bound_in around) at)) (variable around name at) ≡ Some x)) same.0 (by_test (bytes_eq other name) e (variable-bound vars around same.1 name at kind))
  where
    by_test : (b : Bool) → cond b (Some own) (find_name vars name) ≡ Some kind → (find_name vars name ≡ Some kind → (x : FlatExpr) × (variable around name at ≡ Some x)) →
        (x : FlatExpr) × (cond b (Some (Var (bound_in around) at)) (variable around name at) ≡ Some x)
    by_test true e rest = (Var (bound_in around) at, refl)
    by_test false e rest = rest e

pub known-anyway : (flat : Scope) (o : Option FlatExpr) (f : Option Family) (path : Path) → IsConstant flat path → IsKnown flat o f path
unfolding opening
known-anyway flat None None path h = h
known-anyway flat None (Some f) path h = tt
known-anyway flat (Some x) f path h = tt

pub chained : (o : Option Kind) (parts : List Part) (w : Whole) → option_and_then (λ kind. single kind parts) o ≡ Some w → (kind : Kind) × (o ≡ Some kind) × (single kind parts ≡ Some w)
unfolding opening
chained None parts w h = absurd (cc (h))
chained (Some kind) parts w h = (kind, refl, h)

pub listed-constant : (o : Option Constant) (parts : List Part) (w : Whole) → option_and_then (λ (c : Constant). single (enumeration c.names) parts) o ≡ Some w → (c : Constant) × (o ≡ Some c) × (single (enumeration c.names) parts ≡ Some w)
unfolding opening
listed-constant None parts w h = absurd (cc (h))
listed-constant (Some c) parts w h = (c, refl, h)

-- ---- references

module _ (scope : kinds.Scope) (vars : Vars) (parts : List Part) (w : Whole) where
  -- a reference is a variable, a signal or a constant
  pub reference-cases : reference_at scope vars parts ≡ Some w → (kinds.variable_at scope vars parts ≡ Some w) ⊎ ((signal_at scope parts ≡ Some w) ⊎ (constant_at scope parts ≡ Some w))
  unfolding opening
  reference-cases h = by_cases (kinds.variable_at scope vars parts) (signal_at scope parts) refl refl
    where
      by_cases : (v s : Option Whole) → kinds.variable_at scope vars parts ≡ v → signal_at scope parts ≡ s → (kinds.variable_at scope vars parts ≡ Some w) ⊎ ((signal_at scope parts ≡ Some w) ⊎ (constant_at scope parts ≡ Some w))
      by_cases (Some x) s ev es = let q : reference_at scope vars parts ≡ Some x = rw ev refl in inl (ev ∙ sym q ∙ h)
      by_cases None (Some x) ev es = let q : reference_at scope vars parts ≡ Some x = rw (ev, es) refl in inr (inl (es ∙ sym q ∙ h))
      by_cases None None ev es = let q : reference_at scope vars parts ≡ constant_at scope parts = rw (ev, es) refl in inr (inr (sym q ∙ h))

-- ---- what is known of a module

-- whole signals have a kind for each index
abbrev pub SignalsCount : kinds.Scope → Type 0
SignalsCount scope = (parts : List Part) (w : Whole) → signal_at scope parts ≡ Some w → length w.over ≡ length (indexes_of parts)

-- a signal of the module that is a single value without a field is a family
abbrev pub OwnAreFamilies : kinds.Scope → Scope → Type 0
OwnAreFamilies scope flat = (word : Word) (parts : List Part) (w : Whole) → fields_of parts ≡ [] → signal_at scope (Field word ∷ parts) ≡ Some w → (f : Family) × (family_at flat.families (flat.instance ++ word.name ∷ []) ≡ Some f)

abbrev pub ConstantsAreListed : kinds.Scope → Scope → Type 0
ConstantsAreListed scope flat = (name : Name) (c : Constant) → find_name scope.constants name ≡ Some c → IsConstant flat (name ∷ [])

module _ (scope : kinds.Scope) (flat : Scope) (counted : SignalsCount scope) (own : OwnAreFamilies scope flat) (listed : ConstantsAreListed scope flat) where
  reference-count : (vars : Vars) (parts : List Part) (w : Whole) → reference_at scope vars parts ≡ Some w → length w.over ≡ length (indexes_of parts)
  unfolding opening
  reference-count vars [] w h = absurd (cc (h))
  reference-count vars (At e ∷ parts) w h = absurd (cc (h))
  reference-count vars (Field word ∷ parts) w h = by_case (reference-cases scope vars (Field word ∷ parts) w h)
    where
      by_case : (kinds.variable_at scope vars (Field word ∷ parts) ≡ Some w) ⊎ ((signal_at scope (Field word ∷ parts) ≡ Some w) ⊎ (constant_at scope (Field word ∷ parts) ≡ Some w)) → length w.over ≡ length (indexes_of parts)
      by_case (inl e) = let x = chained (find_name vars word.name) parts w e in single-counts x.0 parts w x.2
      by_case (inr (inl e)) = counted (Field word ∷ parts) w e
      by_case (inr (inr e)) = let x = listed-constant (find_name scope.constants word.name) parts w e in single-counts (enumeration x.0.names) parts w x.2

  known : (vars : Vars) (around : Around) → AreSameNames vars around → (parts : List Part) (at : ℕ) (w : Whole) → reference_at scope vars parts ≡ Some w →
      IsKnown flat (variable_at around (fields_of parts) at) (family_at flat.families (flat.instance ++ fields_of parts)) (fields_of parts)
  unfolding opening
  known vars around same [] at w h = absurd (cc (h))
  known vars around same (At e ∷ parts) at w h = absurd (cc (h))
  known vars around same (Field word ∷ parts) at w h = by_fields (fields_of parts) refl
    where
      by_case : fields_of parts ≡ [] → (kinds.variable_at scope vars (Field word ∷ parts) ≡ Some w) ⊎ ((signal_at scope (Field word ∷ parts) ≡ Some w) ⊎ (constant_at scope (Field word ∷ parts) ≡ Some w)) →
          IsKnown flat (variable around word.name at) (family_at flat.families (flat.instance ++ word.name ∷ [])) (word.name ∷ [])
      by_case e (inl g) =
          let x = chained (find_name vars word.name) parts w g in
          let bound : (x : FlatExpr) × (variable around word.name at ≡ Some x) = variable-bound vars around same word.name at x.0 x.1 in
          subst (λ o. IsKnown flat o (family_at flat.families (flat.instance ++ word.name ∷ [])) (word.name ∷ [])) (sym bound.1) tt
      by_case e (inr (inl g)) =
          let f : (f : Family) × (family_at flat.families (flat.instance ++ word.name ∷ []) ≡ Some f) = own word parts w e g in
          subst (λ o. IsKnown flat (variable around word.name at) o (word.name ∷ [])) (sym f.1) (is_signal (variable around word.name at) f.0)
        where
          is_signal : (o : Option FlatExpr) (f : Family) → IsKnown flat o (Some f) (word.name ∷ [])
          is_signal None f = tt
          is_signal (Some x) f = tt
      by_case e (inr (inr g)) =
          let x = listed-constant (find_name scope.constants word.name) parts w g in
          known-anyway flat (variable around word.name at) (family_at flat.families (flat.instance ++ word.name ∷ [])) (word.name ∷ []) (listed word.name x.0 x.1)

      by_fields : (fs : Path) → fields_of parts ≡ fs → IsKnown flat (variable_at around (word.name ∷ fs) at) (family_at flat.families (flat.instance ++ word.name ∷ fs)) (word.name ∷ fs)
      by_fields [] e = by_case e (reference-cases scope vars (Field word ∷ parts) w h)
      by_fields (other ∷ more) e = known-anyway flat None (family_at flat.families (flat.instance ++ word.name ∷ other ∷ more)) (word.name ∷ other ∷ more) tt

  -- ---- expressions

  indexes-length : (vars : Vars) (m : _) (row : Row_of-Part m) → length (indexes_of (items-the_row-Part m row)) ≡ length (indexes scope vars row)
  unfolding opening
  indexes-length vars m end_of-Part = refl
  indexes-length vars m (more_of-Part (Field word) rest) = indexes-length vars _ rest
  indexes-length vars m (more_of-Part (At index) rest) = step (indexes_of (items-the_row-Part _ rest)) (indexes scope vars rest) (indexes-length vars _ rest)
    where
      step : (es : List Expr) (os : List Operand) → length es ≡ length os → length (index ∷ es) ≡ length (operand scope vars index ∷ os)
      step es os h = omega (arith, h)

  mutual
    unfolding opening

    pub expression-right : (vars : Vars) (around : Around) → AreSameNames vars around → (e : Expr) → IsWritten e → IsFine (operand scope vars e) → IsRight flat around e
    expression-right vars around same (Number value at) written fine = tt
    expression-right vars around same (Signal' shape parts at) written fine =
        let r = reference-fine at (reference_at scope vars (items-the_row-Part _ parts)) (indexes scope vars parts) fine in (
          known vars around same (items-the_row-Part _ parts) at r.0 r.1,
          indexes-right vars around same parts written (r.2 (reference-count vars (items-the_row-Part _ parts) r.0 r.1 ∙ indexes-length vars _ parts)),
        )
    expression-right vars around same (Not' shape (more_of-Expr e end_of-Expr) at) written fine = expression-right vars around same e written (number-fine _ fine)
    expression-right vars around same (And' shape parts) written fine = parts-right vars around same parts written (numbers-fine _ fine)
    expression-right vars around same (Or' shape parts) written fine = parts-right vars around same parts written (numbers-fine _ fine)
    expression-right vars around same (Implies' shape parts) written fine = parts-right vars around same parts written (numbers-fine _ fine)
    expression-right vars around same (Iff' l (more_of-Expr left end_of-Expr) r (more_of-Expr right end_of-Expr)) written fine =
        let each : AreFine (operand scope vars left ∷ operand scope vars right ∷ []) = numbers-fine (operand scope vars left ∷ operand scope vars right ∷ []) fine in
        (expression-right vars around same left written.0 each.0, expression-right vars around same right written.1 each.1.0)
    expression-right vars around same (Compare' op l (more_of-Expr left end_of-Expr) r (more_of-Expr right end_of-Expr)) written fine =
        let each : AreFine (operand scope vars left ∷ operand scope vars right ∷ []) = compared-fine op (operand scope vars left) (operand scope vars right) fine in
        (expression-right vars around same left written.0 each.0, expression-right vars around same right written.1 each.1.0)
    expression-right vars around same (Within' l (more_of-Expr left end_of-Expr) r (more_of-Expr set end_of-Expr)) written fine =
        let each : AreFine (operand scope vars left ∷ looked_through scope vars set) = alike-fine (operand scope vars left ∷ looked_through scope vars set) fine in
        (expression-right vars around same left written.0 each.0, set-right vars around same set written.2 written.1 each.1)
    expression-right vars around same (Sum' f (more_of-Expr first end_of-Expr) shape more) written fine =
        let each : AreFine (operand scope vars first ∷ summands scope vars more) = numbers-fine (operand scope vars first ∷ summands scope vars more) fine in
        (expression-right vars around same first written.0 each.0, terms-right vars around same more written.1 each.1)
    expression-right vars around same (Modulo' shape (more_of-Expr e end_of-Expr) by at) written fine = expression-right vars around same e written (number-fine _ (empty-both (takes_number (operand scope vars e)) (faults_at (12, place_if (nat_eq by 0) at)) fine).0)
    expression-right vars around same (Choose' c (more_of-Expr cond end_of-Expr) l (more_of-Expr left end_of-Expr) r (more_of-Expr right end_of-Expr)) written fine =
        let both = empty-both (takes_number (operand scope vars cond)) (alike (operand scope vars left ∷ operand scope vars right ∷ [])) fine in
        let each : AreFine (operand scope vars left ∷ operand scope vars right ∷ []) = alike-fine (operand scope vars left ∷ operand scope vars right ∷ []) both.1 in
        (expression-right vars around same cond written.0 (number-fine _ both.0), expression-right vars around same left written.1 each.0, expression-right vars around same right written.2 each.1.0)
    expression-right vars around same (All' shape (more_of-Expr body end_of-Expr) var over at) written fine =
        let both = empty-both (takes_number (operand scope (bind scope vars var over) body)) (index_faults scope.here.types over) fine in
        (expression-right (bind scope vars var over) ((var.name, any) ∷ around) (refl, same) body written.0 (number-fine _ both.0), written.1)
    expression-right vars around same (Any' shape (more_of-Expr body end_of-Expr) var over at) written fine =
        let both = empty-both (takes_number (operand scope (bind scope vars var over) body)) (index_faults scope.here.types over) fine in
        (expression-right (bind scope vars var over) ((var.name, any) ∷ around) (refl, same) body written.0 (number-fine _ both.0), written.1)
    expression-right vars around same (List' shape members at) written fine = absurd (cc (fine))
    expression-right vars around same (Each' var over cond at) written fine = absurd (cc (fine))

    parts-right : {m : _} (vars : Vars) (around : Around) → AreSameNames vars around → (row : Row_of-Expr m) → PartsAreWritten row → AreFine (operands scope vars row) → PartsAreRight flat around row
    parts-right vars around same end_of-Expr written fine = tt
    parts-right vars around same (more_of-Expr e rest) written fine = (expression-right vars around same e written.0 fine.0, parts-right vars around same rest written.1 fine.1)

    indexes-right : {m : _} (vars : Vars) (around : Around) → AreSameNames vars around → (row : Row_of-Part m) → IndexesAreWritten row → AreFine (indexes scope vars row) → IndexesAreRight flat around row
    indexes-right vars around same end_of-Part written fine = tt
    indexes-right vars around same (more_of-Part (Field word) rest) written fine = indexes-right vars around same rest written fine
    indexes-right vars around same (more_of-Part (At index) rest) written fine = (expression-right vars around same index written.0 fine.0, indexes-right vars around same rest written.1 fine.1)

    terms-right : {m : _} (vars : Vars) (around : Around) → AreSameNames vars around → (row : Row_of-Signed m) → TermsAreWritten row → AreFine (summands scope vars row) → TermsAreRight flat around row
    terms-right vars around same end_of-Signed written fine = tt
    terms-right vars around same (more_of-Signed minus e rest) written fine = (expression-right vars around same e written.0 fine.0, terms-right vars around same rest written.1 fine.1)

    members-right : {m : _} (vars : Vars) (around : Around) → AreSameNames vars around → (row : Row_of-Member m) → MembersAreWritten row → AreFine (members scope vars row) → MembersAreRight flat around row
    members-right vars around same end_of-Member written fine = tt
    members-right vars around same (more_of-Member (One e) rest) written fine = (expression-right vars around same e written.0 fine.0, members-right vars around same rest written.1 fine.1)
    members-right vars around same (more_of-Member (SpanOf span at) rest) written fine = members-right vars around same rest written fine.1

    set-right : (vars : Vars) (around : Around) → AreSameNames vars around → (set : Expr) → IsSet set → IsWritten set → AreFine (looked_through scope vars set) → IsRight flat around set
    set-right vars around same (List' shape members at) is written fine = members-right vars around same members written.1 fine
    set-right vars around same (Each' var over cond at) is written fine = absurd (cc (fine.0))
    set-right vars around same _ is written fine = absurd is

  pub are-right : (vars : Vars) (around : Around) → AreSameNames vars around → (es : List Expr) → AreWritten es → AreFine (map (operand scope vars) es) → AreRight flat around es
  unfolding opening
  are-right vars around same [] written fine = tt
  are-right vars around same (e ∷ es) written fine = (expression-right vars around same e written.0 fine.0, are-right vars around same es written.1 fine.1)

  condition-right : (vars : Vars) (around : Around) → AreSameNames vars around → (cond : Held-Expr-Each-2) → ConditionIsWritten cond → condition_faults scope vars cond ≡ [] → ConditionIsRight flat around cond
  unfolding opening
  condition-right vars around same None' written fine = tt
  condition-right vars around same (Some' shape (more_of-Expr cond end_of-Expr)) written fine = expression-right vars around same cond written (number-fine _ fine)

  -- a right side
  pub value-right : (vars : Vars) (around : Around) → AreSameNames vars around → (e : Expr) → IsWritten e → IsFine (value scope vars e) → IsRight flat around e
  unfolding opening
  value-right vars around same (List' shape row at) written fine = members-right vars around same row written.1 (alike-fine (members scope vars row) fine)
  value-right vars around same (Each' var over cond at) written fine =
      let both = empty-both (index_faults scope.here.types over) (condition_faults scope (bind scope vars var over) cond) fine in
      (condition-right (bind scope vars var over) ((var.name, any) ∷ around) (refl, same) cond written.0 both.1, written.1)
  value-right vars around same (Choose' c (more_of-Expr cond end_of-Expr) l (more_of-Expr left end_of-Expr) r (more_of-Expr right end_of-Expr)) written fine =
      let both = empty-both (takes_number (operand scope vars cond)) (alike (value scope vars left ∷ value scope vars right ∷ [])) fine in
      let each : AreFine (value scope vars left ∷ value scope vars right ∷ []) = alike-fine (value scope vars left ∷ value scope vars right ∷ []) both.1 in
      (expression-right vars around same cond written.0 (number-fine _ both.0), value-right vars around same left written.1 each.0, value-right vars around same right written.2 each.1.0)
  value-right vars around same e written fine = expression-right vars around same e written fine
