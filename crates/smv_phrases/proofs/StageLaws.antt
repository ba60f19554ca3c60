-- Claims and their premises, piece by piece.
use Rattle.std.proofs.Common.{◌≡◌, List, [], ◌∷◌, ◌++◌, ℕ, codes, refl, sym, ap, ◌∙◌, append_assoc}
use Rattle.std.specs.List.{flat_map}
use Rattle.std.proofs.lemmas.List.{append-nil}
use Rattle.law_translated_texts.specs.Phrases.{Pieces, implied, joined, names_in}
use Rattle.law_translated_texts.specs.Translation.{spaced}
use Rattle.smv_phrases.specs.Seen.{names, binders_of}
use Rattle.smv_phrases.specs.declared.monitors.Binder.{Binder}

pub spaced_append : (ps qs : Pieces) → spaced (ps ++ qs) ≡ spaced ps ++ spaced qs
spaced_append [] qs = refl
spaced_append (p ∷ ps) qs = ap (λ l. (codes " " ++ p) ++ l) (spaced_append ps qs) ∙ sym (append_assoc (codes " " ++ p) (spaced ps) (spaced qs))

-- pieces with an arrow behind them
abbrev pub arrow : Pieces → List ℕ
arrow ps = spaced (ps ++ codes "->" ∷ [])

arrow-is : (ps : Pieces) (l : List ℕ) → arrow ps ++ l ≡ spaced ps ++ (codes " ->" ++ l)
arrow-is ps l = ap (λ k. k ++ l) (spaced_append ps (codes "->" ∷ [])) ∙ append_assoc (spaced ps) (codes " ->") l

arrows : (ps : Pieces) (more : List Pieces) (last : Pieces) → spaced (joined (codes "->") ps (more ++ last ∷ [])) ≡ arrow ps ++ (flat_map arrow more ++ spaced last)
arrows ps [] last =
    spaced_append ps (codes "->" ∷ (last ++ [])) ∙ ap (λ l. spaced ps ++ (codes " ->" ++ spaced l)) (append-nil last) ∙ sym (arrow-is ps (spaced last))
arrows ps (q ∷ more) last =
    spaced_append ps (codes "->" ∷ joined (codes "->") q (more ++ last ∷ [])) ∙ ap (λ l. spaced ps ++ (codes " ->" ++ l)) (arrows q more last)
    ∙ sym (arrow-is ps (arrow q ++ (flat_map arrow more ++ spaced last))) ∙ ap (λ l. arrow ps ++ l) (sym (append_assoc (arrow q) (flat_map arrow more) (spaced last)))

implied-last : (front : List Pieces) (last : Pieces) → spaced (implied (front ++ last ∷ [])) ≡ flat_map arrow front ++ spaced last
implied-last [] last = ap spaced (append-nil last)
implied-last (ps ∷ more) last = arrows ps more last ∙ sym (append_assoc (arrow ps) (flat_map arrow more) (spaced last))

flat-append : (ps qs : List Pieces) → flat_map arrow (ps ++ qs) ≡ flat_map arrow ps ++ flat_map arrow qs
flat-append [] qs = refl
flat-append (p ∷ ps) qs = ap (λ l. arrow p ++ l) (flat-append ps qs) ∙ sym (append_assoc (arrow p) (flat_map arrow ps) (flat_map arrow qs))

-- a claim whose formula ends with an expression
pub single_is : (front conditions : List Pieces) (last : Pieces) → spaced (implied ((front ++ conditions) ++ last ∷ [])) ≡ flat_map arrow front ++ (flat_map arrow conditions ++ spaced last)
single_is front conditions last =
    implied-last (front ++ conditions) last ∙ ap (λ l. l ++ spaced last) (flat-append front conditions) ∙ append_assoc (flat_map arrow front) (flat_map arrow conditions) (spaced last)

-- the same, as it is written
pub single-written : (old first second third : List ℕ) (front conditions : List Pieces) (last : Pieces) → first ≡ old ++ flat_map arrow front → second ≡ first ++ flat_map arrow conditions → third ≡ second ++ spaced last →
    third ≡ old ++ spaced (implied ((front ++ conditions) ++ last ∷ []))
single-written old first second third front conditions last e k h =
    h ∙ ap (λ l. l ++ spaced last) (k ∙ ap (λ l. l ++ flat_map arrow conditions) e) ∙ append_assoc (old ++ flat_map arrow front) (flat_map arrow conditions) (spaced last)
    ∙ append_assoc old (flat_map arrow front) (flat_map arrow conditions ++ spaced last) ∙ ap (λ l. old ++ l) (sym (single_is front conditions last))

-- the names of binders
pub names_are : (text : List ℕ) (bs : List Binder) → names_in (binders_of text bs) ≡ names bs
names_are text [] = refl
names_are text (b ∷ bs) = ap (λ l. b.name.now ∷ l) (names_are text bs)

pub ruleset spacing = (spaced_append, names_are)
