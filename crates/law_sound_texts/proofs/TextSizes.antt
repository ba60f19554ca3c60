-- Sizes of a design are those of the text that it was made of.
use Rattle.std.proofs.Common.{◌≡◌, ◌<◌, Some, None, IfSome}
use Rattle.smv_core.specs.Values.{Sizes}
use Rattle.smv_core.specs.Types.{IsSizedTop}
use Rattle.smv_core.specs.Sound.{AreSizes}
use Rattle.smv_core.specs.declared.tree.Text.{Text}
use Rattle.smv_core.specs.declared.tree.Top.{Top}
use Rattle.smv_core.specs.declared.tree.Top.TheVariants.{SetType, Alias, Module}
use Rattle.smv_core.specs.declared.flat.SetInfo.{SetInfo}
use Rattle.law_designs.specs.Flattening.{set_of, flatten}
use Rattle.law_designs.specs.Definitions.{design_of_flat_text}
use Rattle.law_obligations.specs.Sets.{Has, first}
use Rattle.law_obligations.specs.Soundness as flat
use Rattle.law_obligations.specs.Outlines.{names_of}
use Rattle.law_obligations.proofs.Members.{Has-flat_map}
use Rattle.law_sound_texts.proofs.Texts.{Each-All}

module _ (sizes : Sizes) where
  abbrev IsSized : SetInfo → Type 0
  IsSized info = (0 < sizes info.name) × IfSome info.size (λ size. sizes info.name ≡ size)

  top-sized : (top : Top) → ((info : SetInfo) → Has (set_of top) info → IsSized info) → IsSizedTop sizes top
  top-sized (SetType word ordered None at) each = (each _ first).0
  top-sized (SetType word ordered (Some span) at) each = (each _ first).1
  top-sized (Alias word of at) each = tt
  top-sized (Module word formals body at) each = tt

  pub text_sizes : (text : Text) → flat.AreSizes (names_of (design_of_flat_text (flatten text))) sizes → AreSizes text sizes
  text_sizes text are = Each-All (IsSizedTop sizes) text.tops (λ top m. top-sized top (λ info k. are info (Has-flat_map set_of m k)))
