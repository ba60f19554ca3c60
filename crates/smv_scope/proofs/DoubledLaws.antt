-- What is declared twice in the top of a number.
use Rattle.std.proofs.Common.{◌≡◌, ℕ, List, [], ◌∷◌, ◌++◌, map, refl, ap, sym, ◌∙◌, append_assoc}
use Rattle.std.specs.Prelude.{Option, Some, slice_get}
use Rattle.std.specs.List.{flat_map}
use Rattle.std.proofs.lemmas.List.Folds.{flat_map-map}
use Rattle.law_lists.proofs.Lists.{map-map}
use Rattle.smv_core.specs.declared.tree.Word.{Word}
use Rattle.smv_core.specs.declared.tree.Text.{Text}
use Rattle.smv_mentions.specs.declared.pieces.Piece.{Piece as NotedPiece}
use Rattle.smv_mentions.specs.declared.mentions.Mention.{Mention as Noted}
use Rattle.smv_mentions.specs.Mentions.{Mention, declares, binds, follows, names_type, lists_constants, has_fields, instantiates}
use Rattle.smv_mentions.specs.Scopes.{Scope, pieces, scope_of, first_of_places}
use Rattle.smv_mentions.specs.NameFaults.{repeated, declared_words, doubled, doubled_in, formals_of}
use Rattle.smv_mentions.specs.Said.{said, told, AreNoted}
use Rattle.smv_first_fault.specs.Firsts.{least}
use Rattle.smv_scope.specs.Numbered.{scope_at}
use Rattle.smv_scope.specs.Held.{piece_noted}
use Rattle.smv_scope.proofs.PieceLaws.{Told, scope-here}
use Rattle.smv_scope.proofs.TableLaws.{told-same, tell}
use Rattle.smv_first_fault.proofs.LeastLaws.{least-append}

words-first : (mention : Mention) (more : List Mention) → declared_words (mention ∷ more) ≡ declared_words (mention ∷ []) ++ declared_words more
words-first (declares word what) more = refl
words-first (binds around var) more = refl
words-first (follows around parts) more = refl
words-first (names_type word) more = refl
words-first (lists_constants words) more = refl
words-first (has_fields words) more = refl
words-first (instantiates word args) more = refl

declared-flat : (mentions : List Noted) → declared_words (map said mentions) ≡ flat_map (λ mention. declared_words (said mention ∷ [])) mentions
declared-flat [] = refl
declared-flat (mention ∷ mentions) = words-first (said mention) (map said mentions) ∙ ap (λ l. declared_words (said mention ∷ []) ++ l) (declared-flat mentions)

pub words-same : (text : Text) (noted : List NotedPiece) → AreNoted noted text → map (λ piece. piece.word.now) noted ≡ map (λ piece. piece.word) (pieces text)
words-same text noted known =
    sym (map-map (λ (t : Told). t.0) told noted) ∙ ap (map (λ (t : Told). t.0)) (sym (told-same text noted known)) ∙ map-map (λ (t : Told). t.0) tell (pieces text)

pub doubled-whole : (text : Text) (noted : List NotedPiece) (known : AreNoted noted text) (i : ℕ) (piece : NotedPiece) (here : slice_get noted i ≡ Some piece) (words : List Word) (a b c d new : Option ℕ)
    → words ≡ formals_of (piece_noted text i piece) → a ≡ least (repeated [] words)
    → b ≡ least (repeated [] (flat_map (λ mention. declared_words (said mention ∷ [])) piece.mentions.items))
    → c ≡ least (flat_map (λ mention. doubled (scope_at text i) (said mention)) piece.mentions.items)
    → d ≡ first_of_places b c → new ≡ first_of_places a d → new ≡ least (doubled_in (pieces text) (piece_noted text i piece))
doubled-whole text noted known i piece here words a b c d new same first second third both is =
    is ∙ ap (λ o. first_of_places o d) (first ∙ ap (λ ws. least (repeated [] ws)) same) ∙ ap (first_of_places (least (repeated [] (formals_of (piece_noted text i piece))))) (both
    ∙ ap (λ o. first_of_places o c) (second ∙ ap (λ ws. least (repeated [] ws)) (sym (declared-flat piece.mentions.items)))
    ∙ ap (first_of_places (least (repeated [] (declared_words (map said piece.mentions.items))))) (third ∙ ap least (sym (flat_map-map (doubled (scope_at text i)) said piece.mentions.items))
    ∙ ap (λ (s : Scope). least (flat_map (doubled s) (map said piece.mentions.items))) (scope-here text noted known i piece here))
    ∙ sym (least-append (repeated [] (declared_words (map said piece.mentions.items))) (flat_map (doubled (scope_of (pieces text) (piece_noted text i piece))) (map said piece.mentions.items))))
    ∙ sym (least-append (repeated [] (formals_of (piece_noted text i piece))) (repeated [] (declared_words (map said piece.mentions.items)) ++ flat_map (doubled (scope_of (pieces text) (piece_noted text i piece))) (map said piece.mentions.items)))
    ∙ ap least (sym (append_assoc (repeated [] (formals_of (piece_noted text i piece))) (repeated [] (declared_words (map said piece.mentions.items))) (flat_map (doubled (scope_of (pieces text) (piece_noted text i piece))) (map said piece.mentions.items))))
