-- The bytes of one claim's expression exchanged for others.
use Rattle.std.proofs.Common.{◌≡◌, ◌+◌, ℕ, List, [], ◌∷◌, ◌++◌, length, Bool, true, Ok, refl, sym, ap, ◌∙◌, arith}
use Rattle.std.proofs.lemmas.List.{map-append}
use Rattle.smv_core.specs.declared.token.Token.{Token}
use Rattle.smv_core.specs.declared.tree.Word.{Word}
use Rattle.smv_core.specs.declared.tree.Expr.{Expr}
use Rattle.smv_core.specs.declared.tree.Text.{Text}
use Rattle.smv_core.specs.Notation.{Tokens}
use Rattle.smv_core.specs.Spelling.{Spells}
use Rattle.smv_lex.specs.Lexing.{lexed}
use Rattle.law_grammar.specs.Laws.{SpellsExpr}
use Rattle.law_places.specs.Placeless.{placeless}
use Rattle.law_lists.proofs.Lists.{map-map}
use Rattle.law_lexed_parts.specs.Parts.{moved_token, moved_tokens, moved, behind, IsReadAs, AreApart, begin_of, end_of_all}
use Rattle.law_lexed_parts.specs.Laws.{IsParted}
use Rattle.law_lexed_parts.proofs.Parts.{read-before}
use Rattle.law_lexed_parts.proofs.Parted.{rising, parted}
use Rattle.law_spelled_alike.specs.Local.{kinds_of}
use Rattle.law_spelled_alike.proofs.Alike.{spelled-alike, no-semicolon}
use Rattle.law_exchanged.specs.Changed.{count_tops}
use Rattle.law_exchanged.specs.Claims.{body_tokens, IsHeaded, IsClosed}
use Rattle.law_exchanged.specs.Laws.{IsWith, IsPlaced, IsPlacedInBytes}
use Rattle.law_exchanged.proofs.Before.{no-empty}
use Rattle.law_exchanged.proofs.Changing.{put-text}
use Rattle.law_exchanged.proofs.Exchanged.{one-exchanged}
use Rattle.law_exchanged.proofs.Standing.{standing}

kinds-moved : (d : ℕ) (ts : Tokens) → kinds_of (moved_tokens d ts) ≡ kinds_of ts
kinds-moved d ts = map-map (λ (t : Token). t.kind) (moved_token d) ts

module _ (n gap : ℕ) (within test : Word → Bool) (text : List ℕ) (x : Text) (word : Word) (chosen : test word ≡ true) (front middle rest : Tokens) (headed : IsHeaded word front) (closed : IsClosed rest) (all_read : lexed text ≡ Ok (front ++ (middle ++ rest)))
    (levels : ℕ) (body : Expr) (spelled : SpellsExpr levels middle body) (own : IsWith within test x body x)
    (exchanged : (us vs ws : Tokens) (y : Expr) → kinds_of us ≡ kinds_of front → SpellsExpr (levels + gap) vs y → kinds_of ws ≡ kinds_of rest → (new : Text) × Spells (n + gap) (us ++ (vs ++ ws)) new × IsWith within test x y new)
    (p : IsParted text front middle rest) where
  abbrev self : (y : Expr) × SpellsExpr levels p.own y × (placeless body ≡ placeless y)
  self = spelled-alike levels levels (omega arith) middle p.own body spelled (sym (ap kinds_of p.moved_own ∙ kinds-moved (length p.before) p.own))

  -- the tokens of the text with other bytes
  abbrev new_tokens : List ℕ → Tokens → Tokens
  new_tokens bytes ts = front ++ (moved_tokens (length p.before) ts ++ moved_tokens (length p.before) (moved_tokens (length bytes) p.others))

  new-lexed : (bytes : List ℕ) (ts : Tokens) → IsReadAs bytes ts → AreApart p.before (bytes ++ p.after) → AreApart bytes p.after → lexed (p.before ++ (bytes ++ p.after)) ≡ Ok (new_tokens bytes ts)
  new-lexed bytes ts h a b =
      read-before p.before (bytes ++ p.after) front p.first a
      ∙ ap (λ l. behind front (moved (length p.before) l)) (read-before bytes p.after ts h b ∙ ap (λ l. behind ts (moved (length bytes) l)) p.last)
      ∙ ap (λ l. Ok (front ++ l)) (map-append (moved_token (length p.before)) ts (moved_tokens (length bytes) p.others))

  others-kinds : (bytes : List ℕ) → kinds_of (moved_tokens (length p.before) (moved_tokens (length bytes) p.others)) ≡ kinds_of rest
  others-kinds bytes =
      kinds-moved (length p.before) (moved_tokens (length bytes) p.others) ∙ kinds-moved (length bytes) p.others
      ∙ sym (ap kinds_of p.moved_others ∙ kinds-moved (length p.before + length p.bytes) p.others)

  new-spelled : (bytes : List ℕ) (ts : Tokens) (y : Expr) → IsReadAs bytes ts → SpellsExpr (levels + gap) ts y → AreApart p.before (bytes ++ p.after) → AreApart bytes p.after →
      (us : Tokens) × (new : Text) × (lexed (p.before ++ (bytes ++ p.after)) ≡ Ok us) × Spells (n + gap) us new × IsWith within test x y new
  new-spelled bytes ts y h k a b =
      let v = spelled-alike (levels + gap) (levels + gap) (omega arith) ts (moved_tokens (length p.before) ts) y k (kinds-moved (length p.before) ts) in
      let w = exchanged front (moved_tokens (length p.before) ts) (moved_tokens (length p.before) (moved_tokens (length bytes) p.others)) v.0 refl v.1 (others-kinds bytes) in
      (new_tokens bytes ts, w.0, new-lexed bytes ts h a b, w.1, put-text within test y v.0 v.2 x ∙ w.2)

  -- the tokens of the expression are those behind the claim's `G`
  stands : body_tokens word.at (front ++ (middle ++ rest)) ≡ middle
  stands = standing word front middle rest (rising 0 0 text (front ++ (middle ++ rest)) all_read) headed (no-semicolon levels middle body spelled) closed

  pub placed-in-bytes : IsPlacedInBytes n gap within test text x
  placed-in-bytes = record {
    before = p.before;
    bytes = p.bytes;
    after = p.after;
    split = p.split;
    tokens = p.own;
    read = p.read;
    word = word;
    chosen = chosen;
    all = front ++ (middle ++ rest);
    all_read = all_read;
    own_tokens = stands ∙ p.moved_own;
    starts = ap begin_of stands ∙ p.starts;
    ends = ap (end_of_all text) stands ∙ p.ends;
    levels = levels;
    body = self.0;
    spelled = self.1;
    own = sym (put-text within test body self.0 self.2 x) ∙ own;
    exchanged = new-spelled;
  }

pub bytes-exchanged : (n gap : ℕ) (within test : Word → Bool) (text : List ℕ) (ts : Tokens) (x : Text) → lexed text ≡ Ok ts → Spells n ts x → count_tops within test x.tops ≡ 1 → IsPlacedInBytes n gap within test text x
bytes-exchanged n gap within test text ts x l h e = by_middle i.middle i.split i.spelled i.own i.exchanged
  where
    i : IsPlaced n gap within test ts x
    i = one-exchanged n gap within test ts x h e

    by_middle : (middle : Tokens) → ts ≡ i.front ++ (middle ++ i.behind) → SpellsExpr i.levels middle i.body → IsWith within test x i.body x →
        ((us vs ws : Tokens) (y : Expr) → kinds_of us ≡ kinds_of i.front → SpellsExpr (i.levels + gap) vs y → kinds_of ws ≡ kinds_of i.behind → (new : Text) × Spells (n + gap) (us ++ (vs ++ ws)) new × IsWith within test x y new) →
        IsPlacedInBytes n gap within test text x
    by_middle [] split spelled own exchanged = absurd (no-empty i.levels i.body spelled)
    by_middle (t ∷ middle) split spelled own exchanged =
        placed-in-bytes n gap within test text x i.word i.chosen i.front (t ∷ middle) i.behind i.headed i.closed (l ∙ ap Ok split) i.levels i.body spelled own exchanged (parted text i.front t middle i.behind (l ∙ ap Ok split))
