-- Names that are words, with dots between them, are visible.
use Rattle.std.proofs.Common.{◌≡◌, ◌≤◌, ℕ, List, [], ◌∷◌, ◌++◌, Bool, true, false, ◌&&◌, ◌||◌, ◌==◌, nat_le, refl, sym, subst, ◌⊎◌, inl, inr, arith}
use Rattle.std.specs.List.{list_all, join_with_byte}
use Rattle.std.proofs.lemmas.Bool.{leb-true, le-leb, eqb-true}
use Rattle.smv_core.specs.Values.{Name, Path}
use Rattle.smv_lex.specs.Lexing.{is_letter, is_digit, is_name_byte}
use Rattle.law_unit_names.specs.Names.{is_visible, is_visible_name}
use Rattle.law_unit_names.proofs.Trees.{IsNamed}
use Rattle.law_unit_names.proofs.Paths.{IsPath}

both : (a b : Bool) → (a && b) ≡ true → (a ≡ true) × (b ≡ true)
both true b e = (refl, e)
both false b e = absurd (cc (e))

joins : (a b : Bool) → a ≡ true → b ≡ true → (a && b) ≡ true
joins a b e f = rw (e, f) refl

either-true : (p q : Bool) → (p || q) ≡ true → (p ≡ true) ⊎ (q ≡ true)
either-true true q e = inl refl
either-true false q e = inr e

-- a byte between two that are seen
between : (b low high : ℕ) → 33 ≤ low → high ≤ 126 → (nat_le low b && nat_le b high) ≡ true → is_visible b ≡ true
between b low high l h e =
    let p = both (nat_le low b) (nat_le b high) e in
    let x = leb-true low b p.0 in
    let y = leb-true b high p.1 in
    joins (nat_le 33 b) (nat_le b 126) (le-leb 33 b (omega (arith, l, x))) (le-leb b 126 (omega (arith, h, y)))

letter-visible : (b : ℕ) → is_letter b ≡ true → is_visible b ≡ true
letter-visible b e = elim (either-true (nat_le 65 b && nat_le b 90 || nat_le 97 b && nat_le b 122) (b == 95) e) [
  | inl k ↦ elim (either-true (nat_le 65 b && nat_le b 90) (nat_le 97 b && nat_le b 122) k) [
    | inl f ↦ between b 65 90 (omega arith) (omega arith) f
    | inr f ↦ between b 97 122 (omega arith) (omega arith) f
  ]
  | inr f ↦ subst (λ c. is_visible c ≡ true) (sym (eqb-true b 95 f)) refl
]

name-visible : (b : ℕ) → is_name_byte b ≡ true → is_visible b ≡ true
name-visible b e = elim (either-true (is_letter b) (is_digit b) e) [
  | inl f ↦ letter-visible b f
  | inr f ↦ between b 48 57 (omega arith) (omega arith) f
]

bytes-visible : (bytes : List ℕ) → list_all is_name_byte bytes ≡ true → list_all is_visible bytes ≡ true
bytes-visible [] e = refl
bytes-visible (b ∷ bytes) e = let h = both (is_name_byte b) (list_all is_name_byte bytes) e in joins (is_visible b) (list_all is_visible bytes) (name-visible b h.0) (bytes-visible bytes h.1)

-- bytes that are seen, at least one or none
abbrev pub AreVisible : List ℕ → Type 0
AreVisible bytes = list_all is_visible bytes ≡ true

pub visible-append : (xs ys : List ℕ) → AreVisible xs → AreVisible ys → AreVisible (xs ++ ys)
visible-append [] ys h k = k
visible-append (x ∷ xs) ys h k = let p = both (is_visible x) (list_all is_visible xs) h in joins (is_visible x) (list_all is_visible (xs ++ ys)) p.0 (visible-append xs ys p.1 k)

-- a word has a byte, and all its bytes are seen
pub word-visible : (name : Name) → IsNamed name → is_visible_name name ≡ true
word-visible [] e = absurd (cc (e))
word-visible (b ∷ name) e = let h = both (is_letter b) (list_all is_name_byte name) e in joins (is_visible b) (list_all is_visible name) (letter-visible b h.0) (bytes-visible name h.1)

pub bytes-of : (name : Name) → is_visible_name name ≡ true → AreVisible name
bytes-of [] e = refl
bytes-of (b ∷ name) e = e

-- a name that is seen goes on so before bytes that are seen
pub name-before : (name : Name) → is_visible_name name ≡ true → (xs : List ℕ) → AreVisible xs → is_visible_name (name ++ xs) ≡ true
name-before [] h xs k = absurd (cc (h))
name-before (b ∷ name) h xs k = visible-append (b ∷ name) xs h k

pub dotted-visible : (path : Path) → IsPath path → is_visible_name (join_with_byte 46 path) ≡ true
dotted-visible [] h = absurd h.1
dotted-visible (name ∷ []) h = word-visible name h.0.0
dotted-visible (name ∷ other ∷ path) h =
    name-before name (word-visible name h.0.0) (46 ∷ join_with_byte 46 (other ∷ path)) (bytes-of (join_with_byte 46 (other ∷ path)) (dotted-visible (other ∷ path) (h.0.1, tt)))
