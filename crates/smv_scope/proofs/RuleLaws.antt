-- What is wrong in the top of a number.
use Rattle.std.proofs.Common.{◌≡◌, ℕ, suc, ◌+◌, ◌≤◌, List, ◌++◌, map, length, drop, ap, sym, ◌∙◌, arith}
use Rattle.std.specs.Prelude.{Option, Some, slice_get}
use Rattle.std.specs.List.{flat_map}
use Rattle.std.proofs.lemmas.List.{length-map}
use Rattle.std.proofs.lemmas.List.Folds.{flat_map-map}
use Rattle.law_lists.proofs.Places.{drop_got, drop_past}
use Rattle.smv_core.specs.declared.tree.Word.{Word}
use Rattle.smv_core.specs.declared.tree.Text.{Text}
use Rattle.smv_mentions.specs.declared.pieces.Piece.{Piece as NotedPiece}
use Rattle.smv_mentions.specs.Scopes.{Piece, Scope, pieces, scope_of, first_of_places}
use Rattle.smv_mentions.specs.NameFaults.{formal_undeclared, undeclared, undeclared_in, formals_of}
use Rattle.smv_mentions.specs.Said.{said, told, AreNoted}
use Rattle.smv_first_fault.specs.Firsts.{least}
use Rattle.smv_scope.specs.Numbered.{scope_at}
use Rattle.smv_scope.specs.Held.{piece_noted}
use Rattle.smv_scope.proofs.PieceLaws.{piece-here, scope-here}
use Rattle.smv_scope.proofs.TableLaws.{told-same, tell}
use Rattle.smv_first_fault.proofs.LeastLaws.{least-append, first-assoc, first-none}

module _ (text : Text) (noted : List NotedPiece) (known : AreNoted noted text) where
  pub long-same : length (pieces text) ≡ length noted
  long-same = let e : length (map tell (pieces text)) ≡ length (map told noted) = ap length (told-same text noted known) in simp length-map at e

  module _ (f : Piece → List ℕ) where
    pub tops-step : (i : ℕ) (piece : NotedPiece) (a b new whole : Option ℕ) → slice_get noted i ≡ Some piece → b ≡ least (f (piece_noted text i piece)) → new ≡ first_of_places a b
        → first_of_places a (least (flat_map f (drop i (pieces text)))) ≡ whole → first_of_places new (least (flat_map f (drop (i + 1) (pieces text)))) ≡ whole
    tops-step i piece a b new whole here at is before =
        let more : i + 1 ≡ suc i = omega arith in
        ap (λ o. first_of_places o (least (flat_map f (drop (i + 1) (pieces text))))) (is ∙ ap (first_of_places a) at)
        ∙ first-assoc a (least (f (piece_noted text i piece))) (least (flat_map f (drop (i + 1) (pieces text))))
        ∙ ap (first_of_places a) (sym (least-append (f (piece_noted text i piece)) (flat_map f (drop (i + 1) (pieces text))))
        ∙ ap (λ l. least (f (piece_noted text i piece) ++ flat_map f l)) (ap (λ m. drop m (pieces text)) more)
        ∙ ap (λ l. least (flat_map f l)) (sym (drop_got (pieces text) i (piece_noted text i piece) (piece-here text noted known i piece here)))) ∙ before

    pub tops-end : (i : ℕ) (a whole : Option ℕ) → length noted ≤ i → first_of_places a (least (flat_map f (drop i (pieces text)))) ≡ whole → a ≡ whole
    tops-end i a whole past before =
        let same : length (pieces text) ≡ length noted = long-same in
        sym (first-none a) ∙ ap (λ l. first_of_places a (least (flat_map f l))) (sym (drop_past (pieces text) i (omega arith))) ∙ before

  module _ (i : ℕ) (piece : NotedPiece) (here : slice_get noted i ≡ Some piece) where
    pub undeclared-whole : (words : List Word) (a b new : Option ℕ) → words ≡ formals_of (piece_noted text i piece) → a ≡ least (flat_map (formal_undeclared (scope_at text i)) words)
        → b ≡ least (flat_map (λ mention. undeclared (scope_at text i) words (said mention)) piece.mentions.items) → new ≡ first_of_places a b
        → new ≡ least (undeclared_in (pieces text) (piece_noted text i piece))
    undeclared-whole words a b new same first second is =
        is ∙ ap (λ o. first_of_places o b) first ∙ ap (first_of_places (least (flat_map (formal_undeclared (scope_at text i)) words))) second
        ∙ sym (least-append (flat_map (formal_undeclared (scope_at text i)) words) (flat_map (λ mention. undeclared (scope_at text i) words (said mention)) piece.mentions.items))
        ∙ ap (λ l. least (flat_map (formal_undeclared (scope_at text i)) words ++ l)) (sym (flat_map-map (undeclared (scope_at text i) words) said piece.mentions.items))
        ∙ ap (λ (s : Scope). least (flat_map (formal_undeclared s) words ++ flat_map (undeclared s words) (map said piece.mentions.items))) (scope-here text noted known i piece here)
        ∙ ap (λ (ws : List Word). least (flat_map (formal_undeclared (scope_of (pieces text) (piece_noted text i piece))) ws ++ flat_map (undeclared (scope_of (pieces text) (piece_noted text i piece)) ws) (map said piece.mentions.items))) same
