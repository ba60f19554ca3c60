-- The kinds of expressions depend on the set types, enumerations and families of a flattened text alone.
use Rattle.std.proofs.Common.{◌≡◌, ℕ, List, [], ◌∷◌, map, slice_get, Some, None, is_some, ◌&&◌, refl, ap, ◌∙◌, nat_lt, nat_le}
use Rattle.std.specs.Prelude.{if◌then◌else◌}
use Rattle.smv_core.specs.declared.flat.Simple.{Simple}
use Rattle.smv_core.specs.declared.flat.Simple.TheVariants.{Range, Enum, Set}
use Rattle.smv_core.specs.declared.flat.FlatText.{FlatText}
use Rattle.smv_core.specs.declared.flat.FlatMember.{One, Span as SpanOf}
use Rattle.smv_core.specs.declared.flat.FlatExpr.{FlatExpr, Number, Read', Var, Loop, Constant, Not', And', Or', Implies', Iff', Compare', Within', Sum', Modulo', Choose', All', Any', List', Each', Held-FlatExpr-Each-2, None', Some', Row_of-FlatExpr, end_of-FlatExpr, more_of-FlatExpr, Row_of-FlatMember, end_of-FlatMember, more_of-FlatMember, Row_of-FlatSigned, end_of-FlatSigned, more_of-FlatSigned}
use Rattle.law_designs.specs.Definitions.{design_of_flat_text}
use Rattle.law_obligations.specs.Outlines.{names_of}
use Rattle.law_designs.specs.FlatKinds.{number, FlatVars, kind_of, takes, are_numbers, number_if, common, compares, chosen, element, inside, is_binder, is_condition, kind_in, kinds_in, summands, members_in, looked_through, value_in}
use Rattle.smv_problem.specs.WellFormed.{as_flat_text}

-- the names alone of the design of a flattened text
abbrev pub bare : FlatText → FlatText
bare flat_text = as_flat_text (names_of (design_of_flat_text flat_text))

module _ (flat_text : FlatText) where
  pub same_binder : (vars : FlatVars) (var : ℕ) (over : Simple) → is_binder (bare flat_text) vars var over ≡ is_binder flat_text vars var over
  same_binder vars var (Range low high) = refl
  same_binder vars var (Enum list) = refl
  same_binder vars var (Set set) = refl

  mutual
    pub same : (vars : FlatVars) (e : FlatExpr) → kind_in (bare flat_text) vars e ≡ kind_in flat_text vars e
    same vars (Number value place) = refl
    same vars (Read' family shape indexes place) = ap (element (slice_get flat_text.families family)) (same_each vars indexes)
    same vars (Var var place) = refl
    same vars (Loop value place) = refl
    same vars (Constant list value place) = refl
    same vars (Not' shape (more_of-FlatExpr e end_of-FlatExpr) place) = ap (λ u. number_if (takes number u)) (same vars e)
    same vars (And' shape parts) = ap (λ us. number_if (are_numbers us)) (same_each vars parts)
    same vars (Or' shape parts) = ap (λ us. number_if (are_numbers us)) (same_each vars parts)
    same vars (Implies' shape parts) = ap (λ us. number_if (are_numbers us)) (same_each vars parts)
    same vars (Iff' o (more_of-FlatExpr x end_of-FlatExpr) p (more_of-FlatExpr y end_of-FlatExpr)) =
        ap (λ u. number_if (are_numbers (u ∷ kind_in (bare flat_text) vars y ∷ []))) (same vars x) ∙ ap (λ u. number_if (are_numbers (kind_in flat_text vars x ∷ u ∷ []))) (same vars y)
    same vars (Compare' op o (more_of-FlatExpr x end_of-FlatExpr) p (more_of-FlatExpr y end_of-FlatExpr)) =
        ap (λ u. number_if (compares op (common (u ∷ kind_in (bare flat_text) vars y ∷ [])))) (same vars x) ∙ ap (λ u. number_if (compares op (common (kind_in flat_text vars x ∷ u ∷ [])))) (same vars y)
    same vars (Within' o (more_of-FlatExpr x end_of-FlatExpr) p (more_of-FlatExpr set end_of-FlatExpr)) =
        ap (λ u. number_if (is_some (common (u ∷ looked_through (bare flat_text) vars set)))) (same vars x) ∙ ap (λ us. number_if (is_some (common (kind_in flat_text vars x ∷ us)))) (same_listed vars set)
    same vars (Sum' o (more_of-FlatExpr x end_of-FlatExpr) shape more) =
        ap (λ u. number_if (are_numbers (u ∷ summands (bare flat_text) vars more))) (same vars x) ∙ ap (λ us. number_if (are_numbers (kind_in flat_text vars x ∷ us))) (same_summands vars more)
    same vars (Modulo' shape (more_of-FlatExpr e end_of-FlatExpr) by place) = ap (λ u. number_if (takes number u && nat_lt 0 by)) (same vars e)
    same vars (Choose' t (more_of-FlatExpr test end_of-FlatExpr) o (more_of-FlatExpr x end_of-FlatExpr) p (more_of-FlatExpr y end_of-FlatExpr)) =
        ap (λ u. chosen u (kind_in (bare flat_text) vars x) (kind_in (bare flat_text) vars y)) (same vars test)
        ∙ (ap (λ u. chosen (kind_in flat_text vars test) u (kind_in (bare flat_text) vars y)) (same vars x) ∙ ap (λ u. chosen (kind_in flat_text vars test) (kind_in flat_text vars x) u) (same vars y))
    same vars (All' shape (more_of-FlatExpr body end_of-FlatExpr) var over place) =
        ap (λ t. number_if (t && takes number (kind_in (bare flat_text) (inside vars over) body))) (same_binder vars var over) ∙ ap (λ u. number_if (is_binder flat_text vars var over && takes number u)) (same (inside vars over) body)
    same vars (Any' shape (more_of-FlatExpr body end_of-FlatExpr) var over place) =
        ap (λ t. number_if (t && takes number (kind_in (bare flat_text) (inside vars over) body))) (same_binder vars var over) ∙ ap (λ u. number_if (is_binder flat_text vars var over && takes number u)) (same (inside vars over) body)
    same vars (List' shape members place) = refl
    same vars (Each' var over held place) = refl

    same_each : {k : _} (vars : FlatVars) (row : Row_of-FlatExpr k) → kinds_in (bare flat_text) vars row ≡ kinds_in flat_text vars row
    same_each vars end_of-FlatExpr = refl
    same_each vars (more_of-FlatExpr e others) = ap (λ u. u ∷ kinds_in (bare flat_text) vars others) (same vars e) ∙ ap (λ us. kind_in flat_text vars e ∷ us) (same_each vars others)

    same_summands : {k : _} (vars : FlatVars) (row : Row_of-FlatSigned k) → summands (bare flat_text) vars row ≡ summands flat_text vars row
    same_summands vars end_of-FlatSigned = refl
    same_summands vars (more_of-FlatSigned minus e others) = ap (λ u. u ∷ summands (bare flat_text) vars others) (same vars e) ∙ ap (λ us. kind_in flat_text vars e ∷ us) (same_summands vars others)

    same_listed : (vars : FlatVars) (e : FlatExpr) → looked_through (bare flat_text) vars e ≡ looked_through flat_text vars e
    same_listed vars (List' shape members place) = same_members vars members
    same_listed vars (Number value place) = refl
    same_listed vars (Read' family shape indexes place) = refl
    same_listed vars (Var var place) = refl
    same_listed vars (Loop value place) = refl
    same_listed vars (Constant list value place) = refl
    same_listed vars (Not' shape e place) = refl
    same_listed vars (And' shape parts) = refl
    same_listed vars (Or' shape parts) = refl
    same_listed vars (Implies' shape parts) = refl
    same_listed vars (Iff' o x p y) = refl
    same_listed vars (Compare' op o x p y) = refl
    same_listed vars (Within' o x p set) = refl
    same_listed vars (Sum' o x shape more) = refl
    same_listed vars (Modulo' shape e by place) = refl
    same_listed vars (Choose' t test o x p y) = refl
    same_listed vars (All' shape body var over place) = refl
    same_listed vars (Any' shape body var over place) = refl
    same_listed vars (Each' var over held place) = refl

    same_members : {k : _} (vars : FlatVars) (row : Row_of-FlatMember k) → members_in (bare flat_text) vars row ≡ members_in flat_text vars row
    same_members vars end_of-FlatMember = refl
    same_members vars (more_of-FlatMember (One e) others) = ap (λ u. u ∷ members_in (bare flat_text) vars others) (same vars e) ∙ ap (λ us. kind_in flat_text vars e ∷ us) (same_members vars others)
    same_members vars (more_of-FlatMember (SpanOf span place) others) = ap (λ us. number_if (nat_le span.low span.high) ∷ us) (same_members vars others)

  same_condition : (vars : FlatVars) (held : Held-FlatExpr-Each-2) → is_condition (bare flat_text) vars held ≡ is_condition flat_text vars held
  same_condition vars None' = refl
  same_condition vars (Some' shape (more_of-FlatExpr test end_of-FlatExpr)) = ap (takes number) (same vars test)

  pub same_value : (vars : FlatVars) (e : FlatExpr) → value_in (bare flat_text) vars e ≡ value_in flat_text vars e
  same_value vars (List' shape members place) = ap common (same_members vars members)
  same_value vars (Each' var over held place) =
      ap (λ t. if t && is_condition (bare flat_text) (inside vars over) held then Some (kind_of over) else None) (same_binder vars var over)
      ∙ ap (λ t. if is_binder flat_text vars var over && t then Some (kind_of over) else None) (same_condition (inside vars over) held)
  same_value vars (Choose' t (more_of-FlatExpr test end_of-FlatExpr) o (more_of-FlatExpr x end_of-FlatExpr) p (more_of-FlatExpr y end_of-FlatExpr)) =
      ap (λ u. chosen u (value_in (bare flat_text) vars x) (value_in (bare flat_text) vars y)) (same vars test)
      ∙ (ap (λ u. chosen (kind_in flat_text vars test) u (value_in (bare flat_text) vars y)) (same_value vars x) ∙ ap (λ u. chosen (kind_in flat_text vars test) (value_in flat_text vars x) u) (same_value vars y))
  same_value vars (Number value place) = refl
  same_value vars (Read' family shape indexes place) = same vars (Read' family shape indexes place)
  same_value vars (Var var place) = refl
  same_value vars (Loop value place) = refl
  same_value vars (Constant list value place) = refl
  same_value vars (Not' shape e place) = same vars (Not' shape e place)
  same_value vars (And' shape parts) = same vars (And' shape parts)
  same_value vars (Or' shape parts) = same vars (Or' shape parts)
  same_value vars (Implies' shape parts) = same vars (Implies' shape parts)
  same_value vars (Iff' o x p y) = same vars (Iff' o x p y)
  same_value vars (Compare' op o x p y) = same vars (Compare' op o x p y)
  same_value vars (Within' o x p set) = same vars (Within' o x p set)
  same_value vars (Sum' o x shape more) = same vars (Sum' o x shape more)
  same_value vars (Modulo' shape e by place) = same vars (Modulo' shape e by place)
  same_value vars (All' shape body var over place) = same vars (All' shape body var over place)
  same_value vars (Any' shape body var over place) = same vars (Any' shape body var over place)

  pub same_list : (vars : FlatVars) (es : List FlatExpr) → map (kind_in (bare flat_text) vars) es ≡ map (kind_in flat_text vars) es
  same_list vars [] = refl
  same_list vars (e ∷ es) = ap (λ u. u ∷ map (kind_in (bare flat_text) vars) es) (same vars e) ∙ ap (λ us. kind_in flat_text vars e ∷ us) (same_list vars es)
