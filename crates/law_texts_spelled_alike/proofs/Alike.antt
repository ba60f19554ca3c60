-- Tokens of the same kinds spell the same text, but for places, splits and uses.
use Rattle.std.proofs.Common.{◌≡◌, ◌≤◌, ℕ, [], ap, ◌∙◌, subst}
use Rattle.std.proofs.lemmas.List.{append-nil}
use Rattle.smv_core.specs.Notation.{Tokens}
use Rattle.smv_core.specs.declared.tree.Text.{Text}
use Rattle.smv_core.specs.Grammar.{text_rule}
use Rattle.smv_core.specs.Spelling.{Spells}
use Rattle.law_places.specs.Placeless.{placeless_top, placeless_text}
use Rattle.law_spelled_alike.specs.Local.{kinds_of}
use Rattle.law_spelled_alike.proofs.Expressions.{each-map}
use Rattle.law_texts_spelled_alike.proofs.Texts.{local-text}

pub texts-alike : (n m : ℕ) → n ≤ m → (ts us : Tokens) (x : Text) → Spells n ts x → kinds_of us ≡ kinds_of ts → (y : Text) × Spells m us y × (placeless_text x ≡ placeless_text y)
unfolding Spells
texts-alike n m le ts us x h e =
    let u = local-text n m le ts x.tops [] h in
    let v = u.again us [] (e ∙ ap kinds_of (u.split ∙ append-nil u.front)) in
    (record { tops = v.0 }, subst (λ l. text_rule (λ at. 0) m l v.0 []) (append-nil us) v.1, ap (λ l. record { tops = l }) (each-map placeless_top placeless_top x.tops v.0 v.2))
