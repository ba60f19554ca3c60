-- The laws: what the crate's public functions say.
use Rattle.std.specs.Prelude.{◌≡◌, ◌<◌, ◌^◌, ℕ, List, [], length, Some, None, Ok}
use Rattle.smv_core.specs.Values.{Name}
use Rattle.smv_core.specs.Types.{types_from}
use Rattle.smv_core.specs.Sound.{IsSound}
use Rattle.smv_core.specs.declared.tree.Text.{Text}
use Rattle.smv_core.specs.Notation.{Tokens}
use Rattle.smv_core.specs.Spelling.{Spells}
use Rattle.smv_lex.specs.Lexing.{lexed}
use Rattle.smv_mentions.specs.FirstFault.{first_fault}
use Rattle.law_places.specs.Placeless.{placeless_text}
use Rattle.law_induction.specs.Strengthened.{stronger_text, AreInductiveTops}
use Rattle.law_strengthened_texts.specs.Stronger.{Found, Stronger, induction, strengthened, levels, IsStrengthened, HasNoInduction}
use Rattle.law_text_names.specs.Laws.{NamesNoTop}

-- Where neither the text nor the strengthened one has a fault of names, the claim of the induction can be proved by induction. The new name is that of no type and no module.
abbrev pub FaultlessAreInductive : Type 0
FaultlessAreInductive = (x new : Text) (name var fresh : Name) (c : Found) (set : Name) → first_fault x ≡ None → first_fault new ≡ None → induction x.tops name var ≡ Some (c, set) →
    placeless_text (stronger_text var fresh set name x) ≡ placeless_text new → NamesNoTop fresh x.tops → AreInductiveTops var fresh set name (types_from [] x.tops) x.tops

-- The theorem: where neither a text nor its strengthened text has a fault of names, and the strengthened one is sound, so is the text.
abbrev pub InductionIsSound : Type 0
InductionIsSound = (text : List ℕ) (name var : Name) (ts : Tokens) (x : Text) (c : Found) (set : Name) → length text < 2 ^ 32 → lexed text ≡ Ok ts → Spells levels ts x → first_fault x ≡ None → induction x.tops name var ≡ Some (c, set) →
    (us : Tokens) (new : Text) → lexed (strengthened text ts var set c.word.at).text ≡ Ok us → Spells levels us new → first_fault new ≡ None → IsSound new → IsSound x

-- a text has one strengthened text
abbrev pub OneStronger : Type 0
OneStronger = (text : List ℕ) (name var : Name) (s t : Stronger) → IsStrengthened text name var s → IsStrengthened text name var t → s ≡ t

-- or none
abbrev pub NotBothStronger : Type 0
NotBothStronger = (text : List ℕ) (name var : Name) (s : Stronger) → IsStrengthened text name var s → HasNoInduction text name var → ⊥
