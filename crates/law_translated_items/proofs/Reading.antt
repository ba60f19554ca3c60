-- The bytes of the parts of a formula are read as its conditions and expressions.
use Rattle.std.proofs.Common.{◌≡◌, ℕ, zero, List, [], ◌∷◌, ◌++◌, drop, Ok, sym, subst}
use Rattle.std.proofs.lemmas.List.{take-append-drop}
use Rattle.smv_core.specs.declared.tree.Expr.{Expr}
use Rattle.smv_core.specs.Notation.{Tokens}
use Rattle.smv_lex.specs.Lexing.{lexed}
use Rattle.law_exchanged.proofs.Before.{no-empty}
use Rattle.law_formulas.specs.Formulas.{Formula, now, next, when, weak}
use Rattle.law_translated_texts.specs.Parts.{extent, part, behind_part, parts_of, bytes_of, phrase_of}
use Rattle.law_translated_texts.specs.Laws.{SpellsAside, AreSpelled}
use Rattle.law_written_formulas.specs.Laws.{ReadsAside, AreRead, IsWhole}
use Rattle.law_written_monitors.specs.Monitored.{PartsAre}
use Rattle.law_translated_items.proofs.Standing.{Stands, dropped, bytes-read}

module _ (text : List ℕ) (whole : Tokens) (read : lexed text ≡ Ok whole) (n : ℕ) where
  by-tokens : (es rest : Tokens) (e : Expr) → Stands text whole read (es ++ rest) → SpellsAside n es e → ReadsAside n (bytes_of text es) e × IsWhole (bytes_of text es)
  by-tokens [] rest e s h = absurd (no-empty n h.0 h.1)
  by-tokens (t ∷ es) rest e s h = let b = bytes-read text whole read t es rest s in ((t ∷ es, b.1, h), b.0)

  part-read : (ts : Tokens) (e : Expr) → Stands text whole read ts → SpellsAside n (part ts) e → ReadsAside n (bytes_of text (part ts)) e × IsWhole (bytes_of text (part ts))
  part-read ts e s h = by-tokens (part ts) (behind_part ts) e (subst (Stands text whole read) (sym (take-append-drop (extent zero ts) ts)) s) h

  pub phrase-read : (f : Formula) (ts : Tokens) → Stands text whole read ts → AreSpelled n f (parts_of f ts) → AreRead n f (phrase_of text (parts_of f ts)) × PartsAre IsWhole (phrase_of text (parts_of f ts))
  phrase-read (now e) ts s h = part-read ts e s h
  phrase-read (next at f) ts s h = phrase-read f (drop 2 ts) (dropped text whole read 2 ts s) h
  phrase-read (when c f) ts s h =
      let es = dropped text whole read 2 ts s in
      let one = part-read (drop 2 ts) c es h.0 in
      let more = phrase-read f (drop 1 (behind_part (drop 2 ts))) (dropped text whole read 1 (behind_part (drop 2 ts)) (dropped text whole read (extent zero (drop 2 ts)) (drop 2 ts) es)) h.1 in
      ((one.0, more.0), (one.1, more.1))
  phrase-read (weak e d) ts s h =
      let es = dropped text whole read 2 ts s in
      let one = part-read (drop 2 ts) e es h.0 in
      let two = part-read (drop 1 (behind_part (drop 2 ts))) d (dropped text whole read 1 (behind_part (drop 2 ts)) (dropped text whole read (extent zero (drop 2 ts)) (drop 2 ts) es)) h.1 in
      ((one.0, two.0), (one.1, two.1))
