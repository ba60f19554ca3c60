-- In a module an expression without faults has a kind in the flattened text, and the one that stands for its own.
use Rattle.law_designs.proofs.Opening.{opening}
use Rattle.std.proofs.Common.{◌≡◌, ℕ, zero, List, [], ◌∷◌, ◌++◌, map, length, slice_get, Option, Some, None, option_and_then, true, false, cond, nat_eq, nat_lt, nat_le, ◌&&◌, ◌⊎◌, inl, inr, refl, sym, ap, ◌∙◌, subst, arith}
use Rattle.std.proofs.lemmas.Bool.{ltb-false, le-leb, eqb-false, lt-ltb}
use Rattle.std.proofs.lemmas.Option.{same_Some}
use Rattle.smv_core.specs.Values.{Path}
use Rattle.smv_core.specs.Types.{find_name}
use Rattle.smv_core.specs.Outcome.{fields_of, family_at}
use Rattle.smv_core.specs.Walk.{indexes_of}
use Rattle.smv_core.specs.Assignments.{Around, any}
use Rattle.smv_core.specs.declared.tree.Word.{Word}
use Rattle.smv_core.specs.declared.tree.Op.{Op}
use Rattle.smv_core.specs.declared.tree.Op.TheVariants.{Equal, Differ, Less, AtMost, Greater, AtLeast}
use Rattle.smv_core.specs.declared.tree.TypeExpr.{TypeExpr}
use Rattle.smv_core.specs.declared.tree.Part.{Part, Field, At}
use Rattle.smv_core.specs.declared.tree.Member.{One, Span as SpanOf}
use Rattle.smv_core.specs.declared.tree.Expr.{Expr, Number, Signal', Not', And', Or', Implies', Iff', Compare', Within', Sum', Modulo', Choose', All', Any', List', Each', Row_of-Expr, end_of-Expr, more_of-Expr, Row_of-Part, end_of-Part, more_of-Part, Row_of-Member, end_of-Member, more_of-Member, Row_of-Signed, end_of-Signed, more_of-Signed, items-the_row-Part}
use Rattle.smv_core.specs.declared.flat.FlatText.{FlatText}
use Rattle.smv_core.specs.declared.flat.FlatExpr.{FlatExpr}
use Rattle.smv_core.specs.declared.flat.FlatExpr as flatly
use Rattle.smv_mentions.specs.Mentions as said
use Rattle.smv_mentions.specs.Scopes.{Own, Constant}
use Rattle.smv_mentions.specs.NameFaults.{place_if}
use Rattle.smv_mentions.specs.FirstFault.{faults_at}
use Rattle.law_designs.specs.Kinds.{Kind, number, enumeration, Operand, takes_number, alike}
use Rattle.law_designs.specs.Types.{Whole, single, index_faults, is_reversed}
use Rattle.law_designs.specs.References as kinds
use Rattle.law_designs.specs.References.{Vars, behind, signal_at, constant_at, reference_at, reference}
use Rattle.law_designs.specs.Operands.{bind, operand, operands, indexes, summands, members, looked_through, value, compared}
use Rattle.law_designs.specs.FlatKinds as typed
use Rattle.law_designs.specs.FlatKinds.{kind_of, kind_in, value_in, number_if, is_binder, inside}
use Rattle.law_designs.specs.Numbers.{Scope, bound_in, variable_at, flat_over, family_number, or_signal, flat_path, constant_in}
use Rattle.law_designs.specs.Statements.{flat_expr, flat_row, flat_indexes, flat_signed, flat_members}
use Rattle.law_designs.specs.Agreement.{IsIndexType}
use Rattle.law_designs.specs.Written.{IsSet, IsWritten, PartsAreWritten, IndexesAreWritten, TermsAreWritten, MembersAreWritten}
use Rattle.law_designs.proofs.Faultless.{empty-both, unplaced, no_places, each-front, each-behind, IsFine, AreFine, number-fine, numbers-fine, alike-fine, compared-fine, reference-fine}
use Rattle.law_designs.proofs.LeadTypes.{single-counts}
use Rattle.law_designs.proofs.Expressions.{chained, listed-constant, reference-cases}
use Rattle.law_designs.proofs.Modules.{IsApart}
use Rattle.law_flat_kinds.proofs.Relation.{HasKind, HaveKinds, number-kept, numbers-kept, chosen-kept, alike-some, compared-kept, indexes-kept}
use Rattle.law_flat_kinds.proofs.Boxes.{member_kind, term_kind, kind-Read, kind-And, kind-Or, kind-Implies, looked-List, kind-Sum, kind-Not, kind-Iff, kind-Compare, kind-Within, kind-Modulo, kind-Choose, kind-All, kind-Any}
use Rattle.law_flat_kinds.proofs.Variables.{AreApart, IsFree, SignalsAreKinded, ConstantsAreKinded, IndexesAreKinded, AreVars, kinds_bound, variable-kinded, no_variable, binder-kinded}

-- a comparison is a number
compared-number : (op : Op) (l r : Operand) → number ≡ (compared op l r).kind
unfolding opening
compared-number Equal l r = refl
compared-number Differ l r = refl
compared-number Less l r = refl
compared-number AtMost l r = refl
compared-number Greater l r = refl
compared-number AtLeast l r = refl

-- a span that is not reversed
span-kept : (low high : ℕ) → nat_lt high low ≡ false → nat_le low high ≡ true
span-kept low high e = le-leb low high (ltb-false high low e)

-- no zero
above-zero : (n : ℕ) → nat_eq n 0 ≡ false → nat_lt 0 n ≡ true
above-zero zero e = absurd (eqb-false 0 0 e refl)
above-zero n e = lt-ltb 0 n (grind (arith, eqb-false n 0 e))

module _ (flat_text : FlatText) (scope : kinds.Scope) (flat : Scope) (signals : SignalsAreKinded flat_text scope flat) (named : ConstantsAreKinded flat_text scope flat) (over_kinded : IndexesAreKinded flat_text scope flat) where
  -- a whole signal is an element of its family
  pub read-kinded : (parts : List Part) (w : Whole) → signal_at scope parts ≡ Some w → (at : ℕ) (os : List Operand) → length (indexes_of parts) ≡ length os → (reference at (Some w) os).faults ≡ [] →
      (found : List (Option typed.FlatKind)) → HaveKinds flat found os → HasKind flat (typed.element (slice_get flat_text.families (family_number flat (flat.instance ++ fields_of parts))) found) w.value
  unfolding opening
  read-kinded parts w h at os count fine found given =
      let s = signals parts w h in
      let each : typed.take_each s.1.over found ≡ true = indexes-kept flat s.1.over w.over s.4 os found given (s.7 ∙ count) fine in
      (ap (λ f. typed.element f found) s.3 ∙ ap (λ b. cond b (Some (kind_of s.1.value)) None) each ∙ ap Some s.5, s.6)

  -- what a path is, where it is a variable, a signal or a constant
  abbrev Plain : Vars → Around → FlatExpr → Kind → Type 0
  Plain vars around x kind = HasKind flat (kind_in flat_text (kinds_bound flat_text scope flat vars around) x) kind × (value_in flat_text (kinds_bound flat_text scope flat vars around) x ≡ kind_in flat_text (kinds_bound flat_text scope flat vars around) x)

  path-kinded : (vars : Vars) (around : Around) → AreVars flat_text scope flat vars around → (parts : List Part) (at : ℕ) (w : Whole) → reference_at scope vars parts ≡ Some w → (es : List FlatExpr) (os : List Operand) →
      HaveKinds flat (map (kind_in flat_text (kinds_bound flat_text scope flat vars around)) es) os → length (indexes_of parts) ≡ length os → (reference at (Some w) os).faults ≡ [] → Plain vars around (flat_path flat around (fields_of parts) es at) w.value
  unfolding opening
  path-kinded vars around same [] at w h es os given count fine = absurd (cc (h))
  path-kinded vars around same (At e ∷ parts) at w h es os given count fine = absurd (cc (h))
  path-kinded vars around same (Field word ∷ parts) at w h es os given count fine = by_case (reference-cases scope vars (Field word ∷ parts) w h)
    where
      fv : typed.FlatVars
      fv = kinds_bound flat_text scope flat vars around

      path : Path
      path = word.name ∷ fields_of parts

      alone : (kind : Kind) → single kind parts ≡ Some w → (parts ≡ []) × (kind ≡ w.value)
      alone kind e = by_parts parts e
        where
          by_parts : (parts : List Part) → single kind parts ≡ Some w → (parts ≡ []) × (kind ≡ w.value)
          by_parts [] e = (refl, ap (λ v. v.value) (same_Some {A = Whole} (record { over = []; value = kind }) w e))
          by_parts (p ∷ parts) e = absurd (cc (e))

      by_case : (kinds.variable_at scope vars (Field word ∷ parts) ≡ Some w) ⊎ ((signal_at scope (Field word ∷ parts) ≡ Some w) ⊎ (constant_at scope (Field word ∷ parts) ≡ Some w)) → Plain vars around (flat_path flat around path es at) w.value
      by_case (inl e) =
          let x = chained (find_name vars word.name) parts w e in
          let own = alone x.0 x.2 in
          let v = variable-kinded flat_text scope flat vars around same word.name at x.0 x.1 in
          let there : variable_at around path at ≡ Some v.0 = ap (λ parts. variable_at around (word.name ∷ fields_of parts) at) own.0 ∙ v.1 in
          subst (λ o. Plain vars around (or_signal flat o (family_at flat.families (flat.instance ++ path)) path es at) w.value) (sym there) (subst (HasKind flat (kind_in flat_text fv v.0)) own.1 v.2, v.3)
      by_case (inr (inl e)) =
          let s = signals (Field word ∷ parts) w e in
          let free : variable_at around path at ≡ None = no_variable flat_text scope flat vars around same word.name (λ f. not_own f.0 e) (fields_of parts) at in
          subst (λ o. Plain vars around (or_signal flat o (family_at flat.families (flat.instance ++ path)) path es at) w.value) (sym free)
          (subst (λ o. Plain vars around (or_signal flat None o path es at) w.value) (sym s.2)
          (subst (λ o. HasKind flat o w.value) (sym (kind-Read flat_text fv (family_number flat (flat.instance ++ path)) es at)) (read-kinded (Field word ∷ parts) w e at os count fine (map (kind_in flat_text fv) es) given), refl))
        where
          not_own : find_name scope.here.own word.name ≡ None → signal_at scope (Field word ∷ parts) ≡ Some w → ⊥
          not_own none e = let q : signal_at scope (Field word ∷ parts) ≡ None = ap (λ o. option_and_then (λ (own : Own). behind scope.modules scope.here.types own.what parts) o) none in cc (q, e)
      by_case (inr (inr e)) =
          let x = listed-constant (find_name scope.constants word.name) parts w e in
          let own = alone (enumeration x.0.names) x.2 in
          let c = named word.name x.0 x.1 in
          let free : variable_at around path at ≡ None = no_variable flat_text scope flat vars around same word.name (λ f. not_constant x.0 f.1 x.1) (fields_of parts) at in
          let short : path ≡ word.name ∷ [] = ap (λ parts. word.name ∷ fields_of parts) own.0 in
          let none : family_at flat.families (flat.instance ++ path) ≡ None = ap (λ p. family_at flat.families (flat.instance ++ p)) short ∙ c.0 in
          subst (λ o. Plain vars around (or_signal flat o (family_at flat.families (flat.instance ++ path)) path es at) w.value) (sym free)
          (subst (λ o. Plain vars around (or_signal flat None o path es at) w.value) (sym none)
          (subst (λ p. Plain vars around (constant_in flat p at) w.value) (sym short) (subst (HasKind flat (kind_in flat_text fv (constant_in flat (word.name ∷ []) at))) own.1 (c.1 fv at, tt), refl)))
        where
          not_constant : (c : Constant) → find_name scope.constants word.name ≡ None → find_name scope.constants word.name ≡ Some c → ⊥
          not_constant c p q = cc (p, q)

  reference-length : (vars : Vars) (around : Around) → AreVars flat_text scope flat vars around → (parts : List Part) (w : Whole) → reference_at scope vars parts ≡ Some w → length w.over ≡ length (indexes_of parts)
  unfolding opening
  reference-length vars around same [] w h = absurd (cc (h))
  reference-length vars around same (At e ∷ parts) w h = absurd (cc (h))
  reference-length vars around same (Field word ∷ parts) w h = by_case (reference-cases scope vars (Field word ∷ parts) w h)
    where
      by_case : (kinds.variable_at scope vars (Field word ∷ parts) ≡ Some w) ⊎ ((signal_at scope (Field word ∷ parts) ≡ Some w) ⊎ (constant_at scope (Field word ∷ parts) ≡ Some w)) → length w.over ≡ length (indexes_of parts)
      by_case (inl e) = let x = chained (find_name vars word.name) parts w e in single-counts x.0 parts w x.2
      by_case (inr (inl e)) = (signals (Field word ∷ parts) w e).7
      by_case (inr (inr e)) = let x = listed-constant (find_name scope.constants word.name) parts w e in single-counts (enumeration x.0.names) parts w x.2

  indexes-count : (vars : Vars) (m : _) (row : Row_of-Part m) → length (indexes_of (items-the_row-Part m row)) ≡ length (indexes scope vars row)
  unfolding opening
  indexes-count vars m end_of-Part = refl
  indexes-count vars m (more_of-Part (Field word) rest) = indexes-count vars _ rest
  indexes-count vars m (more_of-Part (At index) rest) = step (indexes_of (items-the_row-Part _ rest)) (indexes scope vars rest) (indexes-count vars _ rest)
    where
      step : (es : List Expr) (os : List Operand) → length es ≡ length os → length (index ∷ es) ≡ length (operand scope vars index ∷ os)
      step es os h = omega (arith, h)

  abbrev pub HasItsKind : Vars → Around → Expr → Type 0
  HasItsKind vars around e = HasKind flat (kind_in flat_text (kinds_bound flat_text scope flat vars around) (flat_expr flat around e)) (operand scope vars e).kind

  abbrev Found : Vars → Around → List FlatExpr → List (Option typed.FlatKind)
  Found vars around es = map (kind_in flat_text (kinds_bound flat_text scope flat vars around)) es

  -- a path, where its indexes have kinds
  signal-part : {m : _} (vars : Vars) (around : Around) → AreVars flat_text scope flat vars around → (parts : Row_of-Part m) (at : ℕ) → (AreFine (indexes scope vars parts) → HaveKinds flat (Found vars around (flat_indexes flat around parts)) (indexes scope vars parts)) →
      IsFine (reference at (reference_at scope vars (items-the_row-Part m parts)) (indexes scope vars parts)) →
      Plain vars around (flat_path flat around (fields_of (items-the_row-Part m parts)) (flat_indexes flat around parts) at) (reference at (reference_at scope vars (items-the_row-Part m parts)) (indexes scope vars parts)).kind
  unfolding opening
  signal-part {m} vars around same parts at each fine =
      let r = reference-fine at (reference_at scope vars (items-the_row-Part m parts)) (indexes scope vars parts) fine in
      let count : length (indexes_of (items-the_row-Part m parts)) ≡ length (indexes scope vars parts) = indexes-count vars m parts in
      let whole : (reference at (Some r.0) (indexes scope vars parts)).faults ≡ [] = subst (λ o. (reference at o (indexes scope vars parts)).faults ≡ []) r.1 fine in
      subst (λ o. Plain vars around (flat_path flat around (fields_of (items-the_row-Part m parts)) (flat_indexes flat around parts) at) (reference at o (indexes scope vars parts)).kind) (sym r.1)
      (path-kinded vars around same (items-the_row-Part m parts) at r.0 r.1 (flat_indexes flat around parts) (indexes scope vars parts) (each (r.2 (reference-length vars around same (items-the_row-Part m parts) r.0 r.1 ∙ count))) count whole)

  -- the variables inside a binder
  pub bound-vars : (vars : Vars) (around : Around) → AreVars flat_text scope flat vars around → (var : Word) (over : TypeExpr) → IsIndexType over → index_faults scope.here.types over ≡ [] → IsFree flat_text scope flat var.name →
      AreVars flat_text scope flat (bind scope vars var over) ((var.name, any) ∷ around)
  bound-vars vars around same var over index fine free = (refl, (over_kinded over index fine).2, free, same)

  reduced-part : (vars : Vars) (around : Around) → AreVars flat_text scope flat vars around → (body : Expr) (var : Word) (over : TypeExpr) → IsIndexType over → index_faults scope.here.types over ≡ [] → HasItsKind (bind scope vars var over) ((var.name, any) ∷ around) body →
      takes_number (operand scope (bind scope vars var over) body) ≡ [] →
      (is_binder flat_text (kinds_bound flat_text scope flat vars around) (bound_in around) (flat_over flat over) && typed.takes typed.number (kind_in flat_text (inside (kinds_bound flat_text scope flat vars around) (flat_over flat over)) (flat_expr flat ((var.name, any) ∷ around) body))) ≡ true
  reduced-part vars around same body var over index fine own number_fine =
      binder-kinded flat_text scope flat over_kinded vars around same over index fine (λ fv. typed.takes typed.number (kind_in flat_text fv (flat_expr flat ((var.name, any) ∷ around) body))) (number-kept flat (operand scope (bind scope vars var over) body) _ own number_fine)

  mutual
    unfolding opening said.in_expr

    -- inside variables that are words and vars and around, each as one part of the work has them
    pub expression-kinded : (words : List Word) (vars : Vars) (around : Around) → AreVars flat_text scope flat vars around → (e : Expr) → IsWritten e → AreApart flat_text scope flat (said.in_expr words e) → IsFine (operand scope vars e) → HasItsKind vars around e
    expression-kinded words vars around same (Number value at) written apart fine = (refl, tt)
    expression-kinded words vars around same (Signal' shape parts at) written apart fine = (signal-part vars around same parts at (λ each. indexes-kinded words vars around same parts written apart.1 each) fine).0
    expression-kinded words vars around same (Not' shape (more_of-Expr e end_of-Expr) at) written apart fine =
        (kind-Not flat_text (kinds_bound flat_text scope flat vars around) (flat_expr flat around e) at ∙ ap number_if (number-kept flat (operand scope vars e) _ (expression-kinded words vars around same e written apart (number-fine _ fine)) fine), tt)
    expression-kinded words vars around same (And' shape parts) written apart fine =
        (kind-And flat_text (kinds_bound flat_text scope flat vars around) (flat_row flat around parts) ∙ ap number_if (numbers-kept flat (operands scope vars parts) (Found vars around (flat_row flat around parts)) (parts-kinded words vars around same parts written apart (numbers-fine _ fine)) fine), tt)
    expression-kinded words vars around same (Or' shape parts) written apart fine =
        (kind-Or flat_text (kinds_bound flat_text scope flat vars around) (flat_row flat around parts) ∙ ap number_if (numbers-kept flat (operands scope vars parts) (Found vars around (flat_row flat around parts)) (parts-kinded words vars around same parts written apart (numbers-fine _ fine)) fine), tt)
    expression-kinded words vars around same (Implies' shape parts) written apart fine =
        (kind-Implies flat_text (kinds_bound flat_text scope flat vars around) (flat_row flat around parts) ∙ ap number_if (numbers-kept flat (operands scope vars parts) (Found vars around (flat_row flat around parts)) (parts-kinded words vars around same parts written apart (numbers-fine _ fine)) fine), tt)
    expression-kinded words vars around same (Iff' l (more_of-Expr left end_of-Expr) r (more_of-Expr right end_of-Expr)) written apart fine =
        let each : AreFine (operand scope vars left ∷ operand scope vars right ∷ []) = numbers-fine (operand scope vars left ∷ operand scope vars right ∷ []) fine in
        let first : HasItsKind vars around left = expression-kinded words vars around same left written.0 (each-front _ (said.in_expr words left) (said.in_expr words right) apart) each.0 in
        let second : HasItsKind vars around right = expression-kinded words vars around same right written.1 (each-behind _ (said.in_expr words left) (said.in_expr words right) apart) each.1.0 in
        (kind-Iff flat_text (kinds_bound flat_text scope flat vars around) (flat_expr flat around left) (flat_expr flat around right) ∙ ap number_if (numbers-kept flat (operand scope vars left ∷ operand scope vars right ∷ []) (Found vars around (flat_expr flat around left ∷ flat_expr flat around right ∷ [])) (first, (second, tt)) fine), tt)
    expression-kinded words vars around same (Compare' op l (more_of-Expr left end_of-Expr) r (more_of-Expr right end_of-Expr)) written apart fine =
        let each : AreFine (operand scope vars left ∷ operand scope vars right ∷ []) = compared-fine op (operand scope vars left) (operand scope vars right) fine in
        let first : HasItsKind vars around left = expression-kinded words vars around same left written.0 (each-front _ (said.in_expr words left) (said.in_expr words right) apart) each.0 in
        let second : HasItsKind vars around right = expression-kinded words vars around same right written.1 (each-behind _ (said.in_expr words left) (said.in_expr words right) apart) each.1.0 in
        subst (HasKind flat (kind_in flat_text (kinds_bound flat_text scope flat vars around) (flatly.Compare op (flat_expr flat around left) (flat_expr flat around right)))) (compared-number op (operand scope vars left) (operand scope vars right))
        (kind-Compare flat_text (kinds_bound flat_text scope flat vars around) op (flat_expr flat around left) (flat_expr flat around right) ∙ ap number_if (compared-kept flat op (operand scope vars left) (operand scope vars right) _ _ first second fine), tt)
    expression-kinded words vars around same (Within' l (more_of-Expr left end_of-Expr) r (more_of-Expr set end_of-Expr)) written apart fine =
        let each : AreFine (operand scope vars left ∷ looked_through scope vars set) = alike-fine (operand scope vars left ∷ looked_through scope vars set) fine in
        let own : HasItsKind vars around left = expression-kinded words vars around same left written.0 (each-front _ (said.in_expr words left) (said.in_expr words set) apart) each.0 in (
          kind-Within flat_text (kinds_bound flat_text scope flat vars around) (flat_expr flat around left) (flat_expr flat around set)
              ∙ ap number_if (alike-some flat (operand scope vars left) (looked_through scope vars set) (kind_in flat_text (kinds_bound flat_text scope flat vars around) (flat_expr flat around left)) (typed.looked_through flat_text (kinds_bound flat_text scope flat vars around) (flat_expr flat around set)) (own, set-kinded words vars around same set written.2 written.1 (each-behind _ (said.in_expr words left) (said.in_expr words set) apart) each.1) fine),
          tt,
        )
    expression-kinded words vars around same (Sum' f (more_of-Expr first end_of-Expr) shape more) written apart fine =
        let each : AreFine (operand scope vars first ∷ summands scope vars more) = numbers-fine (operand scope vars first ∷ summands scope vars more) fine in
        let own : HasItsKind vars around first = expression-kinded words vars around same first written.0 (each-front _ (said.in_expr words first) (said.in_sum words more) apart) each.0 in (
          kind-Sum flat_text (kinds_bound flat_text scope flat vars around) (flat_expr flat around first) (flat_signed flat around more)
              ∙ ap number_if (numbers-kept flat (operand scope vars first ∷ summands scope vars more) (kind_in flat_text (kinds_bound flat_text scope flat vars around) (flat_expr flat around first) ∷ map (term_kind flat_text (kinds_bound flat_text scope flat vars around)) (flat_signed flat around more)) (own, terms-kinded words vars around same more written.1 (each-behind _ (said.in_expr words first) (said.in_sum words more) apart) each.1) fine),
          tt,
        )
    expression-kinded words vars around same (Modulo' shape (more_of-Expr e end_of-Expr) by at) written apart fine =
        let both = empty-both (takes_number (operand scope vars e)) (faults_at (12, place_if (nat_eq by 0) at)) fine in
        let own : typed.takes typed.number (kind_in flat_text (kinds_bound flat_text scope flat vars around) (flat_expr flat around e)) ≡ true = number-kept flat (operand scope vars e) _ (expression-kinded words vars around same e written apart (number-fine _ both.0)) both.0 in (
          kind-Modulo flat_text (kinds_bound flat_text scope flat vars around) (flat_expr flat around e) by at
              ∙ ap number_if (ap (λ b. b && nat_lt 0 by) own ∙ above-zero by (unplaced (nat_eq by 0) at (no_places 12 (place_if (nat_eq by 0) at) both.1))),
          tt,
        )
    expression-kinded words vars around same (Choose' c (more_of-Expr cond end_of-Expr) l (more_of-Expr left end_of-Expr) r (more_of-Expr right end_of-Expr)) written apart fine =
        let both = empty-both (takes_number (operand scope vars cond)) (alike (operand scope vars left ∷ operand scope vars right ∷ [])) fine in
        let each : AreFine (operand scope vars left ∷ operand scope vars right ∷ []) = alike-fine (operand scope vars left ∷ operand scope vars right ∷ []) both.1 in
        let front = each-front _ (said.in_expr words cond ++ said.in_expr words left) (said.in_expr words right) apart in
        let own : HasItsKind vars around cond = expression-kinded words vars around same cond written.0 (each-front _ (said.in_expr words cond) (said.in_expr words left) front) (number-fine _ both.0) in
        let first : HasItsKind vars around left = expression-kinded words vars around same left written.1 (each-behind _ (said.in_expr words cond) (said.in_expr words left) front) each.0 in
        let second : HasItsKind vars around right = expression-kinded words vars around same right written.2 (each-behind _ (said.in_expr words cond ++ said.in_expr words left) (said.in_expr words right) apart) each.1.0 in
        let all = chosen-kept flat (operand scope vars cond) (operand scope vars left) (operand scope vars right) _ _ _ own first second fine in
        (kind-Choose flat_text (kinds_bound flat_text scope flat vars around) (flat_expr flat around cond) (flat_expr flat around left) (flat_expr flat around right) ∙ all.0, all.1)
    expression-kinded words vars around same (All' shape (more_of-Expr body end_of-Expr) var over at) written apart fine =
        let both = empty-both (takes_number (operand scope (bind scope vars var over) body)) (index_faults scope.here.types over) fine in
        let rest = said.binder_in words var ∷ said.in_type over in
        let bound : AreVars flat_text scope flat (bind scope vars var over) ((var.name, any) ∷ around) = bound-vars vars around same var over written.1 both.1 (each-behind (IsApart scope.here.own scope.constants) (said.in_expr (words ++ var ∷ []) body) rest apart).0 in
        let own : HasItsKind (bind scope vars var over) ((var.name, any) ∷ around) body = expression-kinded (words ++ var ∷ []) (bind scope vars var over) ((var.name, any) ∷ around) bound body written.0 (each-front _ (said.in_expr (words ++ var ∷ []) body) rest apart) (number-fine _ both.0) in
        (kind-All flat_text (kinds_bound flat_text scope flat vars around) (flat_expr flat ((var.name, any) ∷ around) body) (bound_in around) (flat_over flat over) at ∙ ap number_if (reduced-part vars around same body var over written.1 both.1 own both.0), tt)
    expression-kinded words vars around same (Any' shape (more_of-Expr body end_of-Expr) var over at) written apart fine =
        let both = empty-both (takes_number (operand scope (bind scope vars var over) body)) (index_faults scope.here.types over) fine in
        let rest = said.binder_in words var ∷ said.in_type over in
        let bound : AreVars flat_text scope flat (bind scope vars var over) ((var.name, any) ∷ around) = bound-vars vars around same var over written.1 both.1 (each-behind (IsApart scope.here.own scope.constants) (said.in_expr (words ++ var ∷ []) body) rest apart).0 in
        let own : HasItsKind (bind scope vars var over) ((var.name, any) ∷ around) body = expression-kinded (words ++ var ∷ []) (bind scope vars var over) ((var.name, any) ∷ around) bound body written.0 (each-front _ (said.in_expr (words ++ var ∷ []) body) rest apart) (number-fine _ both.0) in
        (kind-Any flat_text (kinds_bound flat_text scope flat vars around) (flat_expr flat ((var.name, any) ∷ around) body) (bound_in around) (flat_over flat over) at ∙ ap number_if (reduced-part vars around same body var over written.1 both.1 own both.0), tt)
    expression-kinded words vars around same (List' shape members at) written apart fine = absurd (cc (fine))
    expression-kinded words vars around same (Each' var over cond at) written apart fine = absurd (cc (fine))

    parts-kinded : {m : _} (words : List Word) (vars : Vars) (around : Around) → AreVars flat_text scope flat vars around → (row : Row_of-Expr m) → PartsAreWritten row → AreApart flat_text scope flat (said.in_row words row) → AreFine (operands scope vars row) → HaveKinds flat (Found vars around (flat_row flat around row)) (operands scope vars row)
    parts-kinded words vars around same end_of-Expr written apart fine = tt
    parts-kinded words vars around same (more_of-Expr e rest) written apart fine = (
      expression-kinded words vars around same e written.0 (each-front _ (said.in_expr words e) (said.in_row words rest) apart) fine.0,
      parts-kinded words vars around same rest written.1 (each-behind _ (said.in_expr words e) (said.in_row words rest) apart) fine.1,
    )

    indexes-kinded : {m : _} (words : List Word) (vars : Vars) (around : Around) → AreVars flat_text scope flat vars around → (row : Row_of-Part m) → IndexesAreWritten row → AreApart flat_text scope flat (said.in_parts words row) → AreFine (indexes scope vars row) → HaveKinds flat (Found vars around (flat_indexes flat around row)) (indexes scope vars row)
    indexes-kinded words vars around same end_of-Part written apart fine = tt
    indexes-kinded words vars around same (more_of-Part (Field word) rest) written apart fine = indexes-kinded words vars around same rest written apart fine
    indexes-kinded words vars around same (more_of-Part (At index) rest) written apart fine = (
      expression-kinded words vars around same index written.0 (each-front _ (said.in_expr words index) (said.in_parts words rest) apart) fine.0,
      indexes-kinded words vars around same rest written.1 (each-behind _ (said.in_expr words index) (said.in_parts words rest) apart) fine.1,
    )

    terms-kinded : {m : _} (words : List Word) (vars : Vars) (around : Around) → AreVars flat_text scope flat vars around → (row : Row_of-Signed m) → TermsAreWritten row → AreApart flat_text scope flat (said.in_sum words row) → AreFine (summands scope vars row) →
        HaveKinds flat (map (term_kind flat_text (kinds_bound flat_text scope flat vars around)) (flat_signed flat around row)) (summands scope vars row)
    terms-kinded words vars around same end_of-Signed written apart fine = tt
    terms-kinded words vars around same (more_of-Signed minus e rest) written apart fine = (
      expression-kinded words vars around same e written.0 (each-front _ (said.in_expr words e) (said.in_sum words rest) apart) fine.0,
      terms-kinded words vars around same rest written.1 (each-behind _ (said.in_expr words e) (said.in_sum words rest) apart) fine.1,
    )

    pub members-kinded : {m : _} (words : List Word) (vars : Vars) (around : Around) → AreVars flat_text scope flat vars around → (row : Row_of-Member m) → MembersAreWritten row → AreApart flat_text scope flat (said.in_members words row) → AreFine (members scope vars row) →
        HaveKinds flat (map (member_kind flat_text (kinds_bound flat_text scope flat vars around)) (flat_members flat around row)) (members scope vars row)
    members-kinded words vars around same end_of-Member written apart fine = tt
    members-kinded words vars around same (more_of-Member (One e) rest) written apart fine = (
      expression-kinded words vars around same e written.0 (each-front _ (said.in_expr words e) (said.in_members words rest) apart) fine.0,
      members-kinded words vars around same rest written.1 (each-behind _ (said.in_expr words e) (said.in_members words rest) apart) fine.1,
    )
    members-kinded words vars around same (more_of-Member (SpanOf span at) rest) written apart fine = (
      (ap number_if (span-kept span.low span.high (unplaced (is_reversed span) at (no_places 13 (place_if (is_reversed span) at) fine.0))), tt),
      members-kinded words vars around same rest written apart fine.1,
    )

    set-kinded : (words : List Word) (vars : Vars) (around : Around) → AreVars flat_text scope flat vars around → (set : Expr) → IsSet set → IsWritten set → AreApart flat_text scope flat (said.in_expr words set) → AreFine (looked_through scope vars set) →
        HaveKinds flat (typed.looked_through flat_text (kinds_bound flat_text scope flat vars around) (flat_expr flat around set)) (looked_through scope vars set)
    set-kinded words vars around same (List' shape row at) is written apart fine =
        subst (λ os. HaveKinds flat os (members scope vars row)) (sym (looked-List flat_text (kinds_bound flat_text scope flat vars around) (flat_members flat around row) at)) (members-kinded words vars around same row written.1 apart fine)
    set-kinded words vars around same (Each' var over cond at) is written apart fine = absurd (cc (fine.0))
    set-kinded words vars around same _ is written apart fine = absurd is

  pub signal-kinded : {m : _} (words : List Word) (vars : Vars) (around : Around) → AreVars flat_text scope flat vars around → (parts : Row_of-Part m) (at : ℕ) → IndexesAreWritten parts → AreApart flat_text scope flat (said.in_parts words parts) →
      IsFine (reference at (reference_at scope vars (items-the_row-Part m parts)) (indexes scope vars parts)) →
      Plain vars around (flat_path flat around (fields_of (items-the_row-Part m parts)) (flat_indexes flat around parts) at) (reference at (reference_at scope vars (items-the_row-Part m parts)) (indexes scope vars parts)).kind
  signal-kinded words vars around same parts at written apart fine = signal-part vars around same parts at (λ each. indexes-kinded words vars around same parts written apart each) fine
