-- One of some signs or words spells a value of the list.
use Rattle.std.proofs.Common.{◌≡◌, ℕ, Bool, true, false, if◌then◌else◌, List, [], ◌∷◌, Option, Some, None, ◌⊎◌, inl, inr, ap}
use Rattle.smv_core.specs.declared.token.TokenKind.{TokenKind}
use Rattle.smv_core.specs.Notation.{Tokens, one_of, same_kind, found, with_place}

-- the value is one of those in the list
abbrev pub AnyOf : {B : Type 0} → List (TokenKind × B) → B → Type 0
AnyOf [] b = ⊥
AnyOf (entry ∷ more) b = (b ≡ entry.1) ⊎ AnyOf more b

chosen : {B : Type 0} (c : Bool) (v b : B) (o : Option B) → (if c then Some v else o) ≡ Some b → (b ≡ v) ⊎ (o ≡ Some b)
chosen true v b o h = inl cc
chosen false v b o h = inr h

entry-of : {B : Type 0} (list : List (TokenKind × B)) (k : TokenKind) (b : B) → found list k ≡ Some b → AnyOf list b
entry-of [] k b h = absurd cc
entry-of {B} (entry ∷ more) k b h = go (chosen (same_kind k entry.0) entry.1 b (found more k) h) (entry-of more k b)
  where
    go : (b ≡ entry.1) ⊎ (found more k ≡ Some b) → (found more k ≡ Some b → AnyOf more b) → AnyOf (entry ∷ more) b
    go (inl e) later = inl e
    go (inr e) later = inr (later e)

unplaced : {B : Type 0} (o : Option B) (at : ℕ) (a : B × ℕ) → with_place at o ≡ Some a → o ≡ Some a.0
unplaced None at a h = absurd cc
unplaced (Some v) at a h = let e : (v, at) ≡ a = cc in ap (λ (z : _ × ℕ). Some z.0) e

pub an-entry-of : {B : Type 0} (list : List (TokenKind × B)) (ts : Tokens) (a : B × ℕ) (rest : Tokens) → one_of list ts a rest → AnyOf list a.0
an-entry-of list [] a rest h = absurd h
an-entry-of list (t ∷ ts) a rest (e, r) = entry-of list t.kind a.0 (unplaced (found list t.kind) t.at a e)
