-- Sizes of a text are those of its design, where the text has no reversed range.
use Rattle.std.proofs.Common.{◌≡◌, ℕ, ◌<◌, ◌≤◌, List, [], ◌∷◌, ◌++◌, flat_map, All, Some, None, IfSome, Bool, true, false, ◌||◌, nat_lt, refl, arith}
use Rattle.std.proofs.lemmas.Bool.Decides.{nat_tests}
use Rattle.std.proofs.lemmas.List.Elements.{All-head, All-tail}
use Rattle.law_lists.proofs.Lists.{map-nil}
use Rattle.smv_core.specs.Values.{Name, Sizes}
use Rattle.smv_core.specs.Types.{IsSizedTop}
use Rattle.smv_core.specs.Sound.{AreSizes}
use Rattle.smv_core.specs.declared.tree.Span.{Span}
use Rattle.smv_core.specs.declared.tree.Text.{Text}
use Rattle.smv_core.specs.declared.tree.Top.{Top}
use Rattle.smv_core.specs.declared.tree.Top.TheVariants.{SetType, Alias, Module}
use Rattle.smv_core.specs.declared.flat.SetInfo.{SetInfo}
use Rattle.smv_mentions.specs.Scopes.{Constant, constants, pieces}
use Rattle.smv_mentions.specs.NameFaults.{place_if}
use Rattle.law_designs.specs.Types as kinds
use Rattle.law_designs.specs.Types.{is_reversed, range_faults, types_after}
use Rattle.law_designs.specs.References as kinds_of
use Rattle.law_designs.specs.References.{modules_from}
use Rattle.law_designs.specs.KindFaults.{in_top, in_tops, first_fault_of_kinds, faults_of_kinds}
use Rattle.law_designs.specs.Flattening.{set_of, flatten}
use Rattle.law_designs.specs.Definitions.{design_of_flat_text}
use Rattle.law_designs.proofs.Faultless.{no_fault-in}
use Rattle.law_obligations.specs.Sets.{Has, first, later}
use Rattle.law_obligations.specs.Soundness as flat
use Rattle.law_obligations.specs.Outlines.{names_of}
use Rattle.law_flat_kinds.proofs.NoFaults.{nil-left, nil-right}

-- the span of a size that has no fault is not reversed
not-reversed : (span : Span) (at : ℕ) → range_faults span at ≡ [] → span.low ≤ span.high
not-reversed span at e = by_test (is_reversed span) refl (map-nil _ (place_if (is_reversed span || nat_lt 255 span.high) at) e)
  where
    by_test : (b : Bool) → is_reversed span ≡ b → place_if (b || nat_lt 255 span.high) at ≡ [] → span.low ≤ span.high
    by_test true h e = absurd (cc (e))
    by_test false h e = grind (arith, nat_tests)

module _ (modules : List (Name × kinds_of.Module)) (constants : List (Name × Constant)) (sizes : Sizes) where
  abbrev IsSized : SetInfo → Type 0
  IsSized info = (0 < sizes info.name) × IfSome info.size (λ size. sizes info.name ≡ size)

  sets-sized : (types : kinds.Types) (tops : List Top) → in_tops modules constants types tops ≡ [] → All (IsSizedTop sizes) tops → (info : SetInfo) → Has (flat_map set_of tops) info → IsSized info
  sets-sized types [] e h info k = elim k [ ]
  sets-sized types (top ∷ tops) e h info k =
      by_top top (nil-left (in_top modules constants types top) (in_tops modules constants (types_after types top) tops) e) (All-head (IsSizedTop sizes) top tops h) info k
      (λ info k. sets-sized (types_after types top) tops (nil-right (in_top modules constants types top) (in_tops modules constants (types_after types top) tops) e) (All-tail (IsSizedTop sizes) top tops h) info k)
    where
      by_top : (top : Top) → in_top modules constants types top ≡ [] → IsSizedTop sizes top → (info : SetInfo) → Has (set_of top ++ flat_map set_of tops) info → ((info : SetInfo) → Has (flat_map set_of tops) info → IsSized info) → IsSized info
      by_top (SetType word ordered None at) e own _ first rest = (own, tt)
      by_top (SetType word ordered (Some span) at) e own _ first rest = let l : span.low ≤ span.high = not-reversed span at e in (omega (arith, own, l), own)
      by_top (SetType word ordered span at) e own info (later k) rest = rest info k
      by_top (Alias word of at) e own info k rest = rest info k
      by_top (Module word formals body at) e own info k rest = rest info k

pub same_sizes : (text : Text) (sizes : Sizes) → first_fault_of_kinds text ≡ None → AreSizes text sizes → flat.AreSizes (names_of (design_of_flat_text (flatten text))) sizes
same_sizes text sizes none are = sets-sized (modules_from [] text.tops) (constants (pieces text)) sizes [] text.tops (no_fault-in (faults_of_kinds text) none) are
