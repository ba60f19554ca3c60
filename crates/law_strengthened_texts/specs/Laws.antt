-- The laws: what the crate's public functions say.
use Rattle.std.specs.Prelude.{◌≡◌, ◌<◌, ◌+◌, ◌++◌, ◌^◌, ℕ, List, [], length, Some, Ok, false}
use Rattle.std.specs.List.{list_any}
use Rattle.smv_core.specs.Values.{Name}
use Rattle.smv_core.specs.Types.{types_from}
use Rattle.smv_core.specs.Sound.{IsSound}
use Rattle.smv_core.specs.declared.tree.Text.{Text}
use Rattle.smv_core.specs.declared.token.Token.{Token}
use Rattle.smv_core.specs.Notation.{Tokens}
use Rattle.smv_core.specs.Spelling.{Spells}
use Rattle.smv_lex.specs.Lexing.{lexed}
use Rattle.law_places.specs.Placeless.{placeless_text}
use Rattle.law_exchanged.specs.Laws.{IsPlacedInBytes}
use Rattle.law_induction.specs.Strengthened.{is_main, is_named, stronger_text, AreInductiveTops}
use Rattle.law_strengthened_claims.specs.Renaming.{is_name, renamed_bytes, IsName}
use Rattle.law_strengthened_claims.specs.Replacement.{replacement}
use Rattle.law_strengthened_texts.specs.Stronger.{Found, induction, fresh_name, strengthened, levels}

-- The expression of the claim stands in the bytes of the text, and the strengthened text has the replacement there.
abbrev pub IsPlacedStronger : List ℕ → Name → Name → Tokens → Text → Found → Name → Type 0
IsPlacedStronger text name var ts x c set = (p : IsPlacedInBytes levels 2 is_main (is_named name) text x) × (p.word.at ≡ c.word.at) ×
    (let s = strengthened text ts var set c.word.at in
    let fresh = fresh_name ts in
    (s.text ≡ p.before ++ (replacement var fresh set (renamed_bytes p.bytes var fresh 0 (length p.bytes) false p.tokens) p.bytes ++ p.after)) × (s.from ≡ length p.before) × (s.old ≡ length p.bytes))

-- so it is for the claim of an induction
abbrev pub StrongerIsPlaced : Type 0
StrongerIsPlaced = (text : List ℕ) (name var : Name) (ts : Tokens) (x : Text) (c : Found) (set : Name) → lexed text ≡ Ok ts → Spells levels ts x → induction x.tops name var ≡ Some (c, set) → IsPlacedStronger text name var ts x c set

-- The strengthened text spells the tree with the strengthened claim, but for places, splits and uses, within two more levels. Where the claim can be proved by induction and that tree is sound, so is the text's.
abbrev pub StrongerTextIsSound : Type 0
StrongerTextIsSound = (text : List ℕ) (name var : Name) (ts : Tokens) (x : Text) (c : Found) (set : Name) → lexed text ≡ Ok ts → Spells levels ts x → induction x.tops name var ≡ Some (c, set) →
    IsName var → IsName (fresh_name ts) → IsName set →
    (us : Tokens) × (new : Text) × (lexed (strengthened text ts var set c.word.at).text ≡ Ok us) × Spells (levels + 2) us new ×
    (placeless_text (stronger_text var (fresh_name ts) set name x) ≡ placeless_text new) × (AreInductiveTops var (fresh_name ts) set name (types_from [] x.tops) x.tops → IsSound new → IsSound x)

-- the new name is a name, and no token
abbrev pub FreshIsName : Type 0
FreshIsName = (ts : Tokens) → length ts < 2 ^ 32 → IsName (fresh_name ts)

abbrev pub FreshIsNoToken : Type 0
FreshIsNoToken = (ts : Tokens) → length ts < 2 ^ 32 → list_any (λ (t : Token). is_name (fresh_name ts) t.kind) ts ≡ false
