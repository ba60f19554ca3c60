-- What is declared twice in the top of a number, and in one top after the other.
use Rattle.std.proofs.Common.{◌≡◌, ◌∙◌, ℕ, suc, ◌+◌, ◌≤◌, List, [], ◌∷◌, ◌++◌, map, length, drop, refl, ap, sym, arith}
use Rattle.std.specs.Prelude.{Some, slice_get, Result, Ok, Err, OnOk}
use Rattle.std.specs.List.{flat_map}
use Rattle.std.proofs.lemmas.List.{append-nil, append_assoc}
use Rattle.std.proofs.lemmas.List.Folds.{flat_map-map}
use Rattle.law_lists.proofs.Places.{drop_got, drop_past}
use Rattle.smv_core.specs.declared.tree.Word.{Word}
use Rattle.smv_core.specs.declared.tree.Text.{Text}
use Rattle.smv_mentions.specs.declared.pieces.Piece.{Piece as NotedPiece}
use Rattle.smv_mentions.specs.declared.mentions.Mention.{Mention as Noted}
use Rattle.smv_mentions.specs.Mentions.{Mention, declares, binds, follows, names_type, lists_constants, has_fields, instantiates}
use Rattle.smv_mentions.specs.Scopes.{Piece, Scope, pieces}
use Rattle.smv_mentions.specs.NameFaults.{declared_words, formals_of}
use Rattle.smv_mentions.specs.Said.{said, AreNoted}
use Rattle.smv_scope.specs.Numbered.{scope_at}
use Rattle.smv_scope.specs.Held.{piece_noted}
use Rattle.smv_scope.proofs.PieceLaws.{piece-here, scope-here}
use Rattle.smv_scope.proofs.RuleLaws.{long-same}
use Rattle.smv_look_names.specs.Names.{first_before, first_in, first_said}

-- what follows where there is no error
pub on_ok : {X E : Type 0} (r : Result X E) (P Q : Type 0) → (P → Q) → OnOk r P → OnOk r Q
on_ok (Ok x) P Q step p = step p
on_ok (Err e) P Q step p = tt

words-first : (mention : Mention) (more : List Mention) → declared_words (mention ∷ more) ≡ declared_words (mention ∷ []) ++ declared_words more
words-first (declares word what) more = refl
words-first (binds around var) more = refl
words-first (follows around parts) more = refl
words-first (names_type word) more = refl
words-first (lists_constants words) more = refl
words-first (has_fields words) more = refl
words-first (instantiates word args) more = refl

declared-flat : (mentions : List Noted) → declared_words (map said mentions) ≡ flat_map (λ mention. declared_words (said mention ∷ [])) mentions
declared-flat [] = refl
declared-flat (mention ∷ mentions) = words-first (said mention) (map said mentions) ∙ ap (λ l. declared_words (said mention ∷ []) ++ l) (declared-flat mentions)

three : (old a b c a' b' c' one two new : List ℕ) → a ≡ a' → b ≡ b' → c ≡ c' → one ≡ old ++ a → two ≡ one ++ b → new ≡ two ++ c → new ≡ old ++ (a' ++ b' ++ c')
three old a b c a' b' c' one two new e f g first second third =
    third ∙ ap (λ l. l ++ c) (second ∙ ap (λ l. l ++ b) first ∙ append_assoc old a b) ∙ append_assoc old (a ++ b) c
    ∙ ap (λ l. old ++ (l ++ b ++ c)) e ∙ ap (λ l. old ++ (a' ++ l ++ c)) f ∙ ap (λ l. old ++ (a' ++ b' ++ l)) g

module _ (at : ℕ) (text : Text) (noted : List NotedPiece) (known : AreNoted noted text) where
  pub in-top : (i : ℕ) (piece : NotedPiece) → slice_get noted i ≡ Some piece → (words : List Word) (mentions others : List Noted) (old one two new : List ℕ) →
      words ≡ formals_of (piece_noted text i piece) → mentions ≡ piece.mentions.items → others ≡ piece.mentions.items →
      one ≡ old ++ first_before at [] words → two ≡ one ++ first_before at [] (flat_map (λ mention. declared_words (said mention ∷ [])) mentions) →
      new ≡ two ++ flat_map (λ mention. first_said at (scope_at text i) (said mention)) others → new ≡ old ++ first_in at (pieces text) (piece_noted text i piece)
  in-top i piece here words mentions others old one two new formals same also first second third =
      three old (first_before at [] words) (first_before at [] (flat_map (λ mention. declared_words (said mention ∷ [])) mentions)) (flat_map (λ mention. first_said at (scope_at text i) (said mention)) others) _ _ _ one two new
      (ap (first_before at []) formals)
      (ap (λ (ms : List Noted). first_before at [] (flat_map (λ mention. declared_words (said mention ∷ [])) ms)) same ∙ ap (first_before at []) (sym (declared-flat piece.mentions.items)))
      (ap (λ (ms : List Noted). flat_map (λ mention. first_said at (scope_at text i) (said mention)) ms) also ∙ sym (flat_map-map (first_said at (scope_at text i)) said piece.mentions.items)
      ∙ ap (λ (s : Scope). flat_map (first_said at s) (map said piece.mentions.items)) (scope-here text noted known i piece here))
      first second third

  module _ (f : Piece → List ℕ) where
    pub one-top : (i : ℕ) (piece : NotedPiece) (old new whole : List ℕ) → slice_get noted i ≡ Some piece → new ≡ old ++ f (piece_noted text i piece) →
        old ++ flat_map f (drop i (pieces text)) ≡ whole → new ++ flat_map f (drop (i + 1) (pieces text)) ≡ whole
    one-top i piece old new whole here is before =
        let more : i + 1 ≡ suc i = omega arith in
        ap (λ l. l ++ flat_map f (drop (i + 1) (pieces text))) is ∙ append_assoc old (f (piece_noted text i piece)) (flat_map f (drop (i + 1) (pieces text)))
        ∙ ap (λ m. old ++ (f (piece_noted text i piece) ++ flat_map f (drop m (pieces text)))) more
        ∙ ap (λ l. old ++ flat_map f l) (sym (drop_got (pieces text) i (piece_noted text i piece) (piece-here text noted known i piece here))) ∙ before

    pub all-tops : (i : ℕ) (out whole : List ℕ) → length noted ≤ i → out ++ flat_map f (drop i (pieces text)) ≡ whole → out ≡ whole
    all-tops i out whole past before =
        let same : length (pieces text) ≡ length noted = long-same text noted known in
        sym (append-nil out) ∙ ap (λ l. out ++ flat_map f l) (sym (drop_past (pieces text) i (omega arith))) ∙ before
