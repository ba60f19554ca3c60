-- What is told of tokens, one behind the other.
use Rattle.std.proofs.Common.{◌≡◌, ◌∙◌, ◌<◌, ◌≤◌, ℕ, ◌+◌, List, [], ◌∷◌, ◌++◌, map, take, length, get_or, nat_le, true, sym, ap, subst, arith, Bor}
use Rattle.std.specs.Prelude.{codes}
use Rattle.std.specs.List.{All, list_all}
use Rattle.std.proofs.lemmas.Bool.Decides.{nat_tests}
use Rattle.std.proofs.lemmas.List.{append-nil, append_assoc, map-append}
use Rattle.law_lists.proofs.Each.{all_passes}
use Rattle.law_lists.proofs.Places.{get_or-own, take_read}
use Rattle.smv_core.specs.Spellings.{signs, reserved_words}
use Rattle.smv_look_expected.specs.Expected.{AreTold, IsTold, Shown, candidates, more, none, spelled}

-- tokens that are shown as they are
abbrev pub pair : Bor (List ℕ) → Shown
pair token = (token.now, token.now)

is_short : (n : ℕ) → nat_le n 64 ≡ true → n ≤ 64
is_short n e = grind (arith, nat_tests)

-- all of these are short, where a test of each shows it
pub are_short : (tokens : List (Bor (List ℕ))) → list_all (λ token. nat_le (length token.now) 64) tokens ≡ true → All (λ token. length token.now ≤ 64) tokens
are_short tokens = all_passes (λ token. length token.now ≤ 64) (λ token. nat_le (length token.now) 64) (λ token e. is_short (length token.now) e) tokens

module _ (text : List ℕ) (at : ℕ) where
  joined : (cs ds : List Shown) (xs ys : List ℕ) → AreTold text at cs xs → AreTold text at ds ys → AreTold text at (cs ++ ds) (xs ++ ys)
  joined _ ds _ ys none told = told
  joined _ ds _ ys (more {one} {tried} {bytes} {rest} first others) told =
      subst (AreTold text at (one ∷ tried ++ ds)) (sym (append_assoc bytes rest ys)) (more first (joined tried ds rest ys others told))

  alone : (one : Shown) (xs : List ℕ) → IsTold text at one xs → AreTold text at (one ∷ []) xs
  alone one xs told = subst (AreTold text at (one ∷ [])) (append-nil xs) (more told none)

  -- some bytes behind those that stood there, which are told of some tokens, or of one
  abbrev pub Behind : List ℕ → List ℕ → List Shown → Type 0
  Behind old new cs = (bytes : List ℕ) × (new ≡ old ++ bytes) × AreTold text at cs bytes

  abbrev pub OneBehind : List ℕ → List ℕ → Shown → Type 0
  OneBehind old new one = (bytes : List ℕ) × (new ≡ old ++ bytes) × IsTold text at one bytes

  pub none_behind : (old : List ℕ) → Behind old old []
  none_behind old = ([], sym (append-nil old), none)

  both_behind : (old middle new : List ℕ) (cs ds : List Shown) → Behind old middle cs → Behind middle new ds → Behind old new (cs ++ ds)
  both_behind old middle new cs ds first second =
      (first.0 ++ second.0, second.1 ∙ ap (λ l. l ++ second.0) first.1 ∙ append_assoc old first.0 second.0, joined cs ds first.0 second.0 first.2 second.2)

  one_told : (old new : List ℕ) (one : Shown) → OneBehind old new one → Behind old new (one ∷ [])
  one_told old new one told = (told.0, told.1, alone one told.0 told.2)

  pub one_more : (tokens : List (Bor (List ℕ))) (i : ℕ) (d : Bor (List ℕ)) (x old middle new : List ℕ) → i < length tokens → x ≡ (get_or tokens i d).now → Behind old middle (map pair (take i tokens)) →
      OneBehind middle new (x, x) → Behind old new (map pair (take (i + 1) tokens))
  one_more tokens i d x old middle new below here first told =
      let y = get_or tokens i d in
      subst (Behind old new) (sym (ap (map pair) (take_read tokens i y below (get_or-own tokens i d below)) ∙ map-append pair (take i tokens) (y ∷ [])))
      (both_behind old middle new (map pair (take i tokens)) (pair y ∷ []) first (one_told middle new (pair y) (subst (λ (z : List ℕ). OneBehind middle new (z, z)) here told)))

  pub all_told : (old a b c new : List ℕ) → OneBehind old a (codes "x", codes "NAME") → OneBehind a b (codes "0", codes "NUMBER") → Behind b c (spelled signs) → Behind c new (spelled reserved_words) →
      Behind old new candidates
  all_told old a b c new first second third fourth =
      both_behind old a new ((codes "x", codes "NAME") ∷ []) ((codes "0", codes "NUMBER") ∷ spelled signs ++ spelled reserved_words) (one_told old a (codes "x", codes "NAME") first)
      (both_behind a b new ((codes "0", codes "NUMBER") ∷ []) (spelled signs ++ spelled reserved_words) (one_told a b (codes "0", codes "NUMBER") second) (both_behind b c new (spelled signs) (spelled reserved_words) third fourth))
