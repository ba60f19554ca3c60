-- Where fault 25 stands.
use Rattle.std.proofs.Common.{◌≡◌, ℕ, suc, ◌+◌, ◌<◌, Bool, true, false, cond, List, [], ◌∷◌, map, drop, length, get_or, refl, ap, sym, ◌∙◌, add-one, drop-cons}
use Rattle.std.specs.Prelude.{Some}
use Rattle.std.specs.Str.{bytes_eq}
use Rattle.smv_core.specs.Types.{find_name}
use Rattle.smv_core.specs.FlatOrder.{main}
use Rattle.smv_core.specs.declared.tree.Text.{Text}
use Rattle.smv_mentions.specs.Scopes.{Piece, pieces}
use Rattle.smv_mentions.specs.FirstFault.{fault_at_main}
use Rattle.smv_mentions.specs.Said.{told, told_by}
use Rattle.smv_mentions.specs.declared.pieces.Piece.{Piece as NotedPiece}
use Rattle.smv_size.specs.Recursion.{Told}
use Rattle.smv_size.specs.Place.{main_told}
use Rattle.smv_size.proofs.RecursionLaws.{tell, tell_all}

at_main : (tops : List Piece) → fault_at_main (find_name (map (λ (piece : Piece). (piece.word.name, piece)) tops) main) ≡ main_told (map tell tops)
at_main [] = refl
at_main (top ∷ tops) = by (bytes_eq top.word.name main) (at_main tops)
  where
    by : (b : Bool) → fault_at_main (find_name (map (λ (piece : Piece). (piece.word.name, piece)) tops) main) ≡ main_told (map tell tops)
        → fault_at_main (cond b (Some top) (find_name (map (λ (piece : Piece). (piece.word.name, piece)) tops) main)) ≡ cond b (Some (record { number = 25; at = top.word.at })) (main_told (map tell tops))
    by true rest = refl
    by false rest = rest

pub main_is : (tops : List Told) (text : Text) → tops ≡ map told_by text.tops → main_told tops ≡ fault_at_main (find_name (map (λ (piece : Piece). (piece.word.name, piece)) (pieces text)) main)
main_is tops text e = ap main_told (e ∙ sym (tell_all [] text.tops)) ∙ sym (at_main (pieces text))

-- one top
split : (pieces : List NotedPiece) (i : ℕ) (piece : NotedPiece) → i < length pieces → piece ≡ get_or pieces i piece → drop i pieces ≡ piece ∷ drop (i + 1) pieces
split pieces i piece h at = drop-cons pieces i piece h ∙ ap (λ y. y ∷ drop (suc i) pieces) (sym at) ∙ ap (λ k. piece ∷ drop k pieces) (sym (add-one i))

pub main_passed : (pieces : List NotedPiece) (i : ℕ) (piece : NotedPiece) → i < length pieces → piece ≡ get_or pieces i piece → bytes_eq piece.word.now.name main ≡ false → main_told (map told (drop i pieces)) ≡ main_told (map told (drop (i + 1) pieces))
main_passed pieces i piece h at e =
    ap (λ l. main_told (map told l)) (split pieces i piece h at) ∙ ap (λ b. cond b (Some (record { number = 25; at = piece.word.now.at })) (main_told (map told (drop (i + 1) pieces)))) e

pub main_met : (pieces : List NotedPiece) (i : ℕ) (piece : NotedPiece) → i < length pieces → piece ≡ get_or pieces i piece → bytes_eq piece.word.now.name main ≡ true → main_told (map told (drop i pieces)) ≡ Some (record { number = 25; at = piece.word.now.at })
main_met pieces i piece h at e =
    ap (λ l. main_told (map told l)) (split pieces i piece h at) ∙ ap (λ b. cond b (Some (record { number = 25; at = piece.word.now.at })) (main_told (map told (drop (i + 1) pieces)))) e
