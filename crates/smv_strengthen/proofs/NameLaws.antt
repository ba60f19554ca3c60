-- The new name, name by name.
use Rattle.std.proofs.Common.{◌≡◌, ◌<◌, ◌+◌, ◌-◌, ℕ, suc, [], ◌∷◌, ◌++◌, Bool, true, false, ◌||◌, cond, if◌then◌else◌, Option, Some, None, is_some, refl, ap, ◌∙◌, arith}
use Rattle.std.specs.List.{flat_map, list_any}
use Rattle.std.specs.Option.{option_map}
use Rattle.std.specs.Str.{bytes_eq}
use Rattle.smv_core.specs.Values.{Name}
use Rattle.smv_core.specs.declared.token.Token.{Token}
use Rattle.smv_core.specs.declared.token.TokenKind.{TokenKind}
use Rattle.smv_core.specs.declared.token.TokenKind.TheVariants.{Ident, Number, Sign, Reserved}
use Rattle.smv_core.specs.Notation.{Tokens}
use Rattle.name_index.specs.Position.{position}
use Rattle.law_strengthened_claims.specs.Renaming.{is_name}
use Rattle.law_strengthened_texts.specs.Stronger.{below_name, first_free}
use Rattle.smv_strengthen.specs.Names.{name_in, name_of}

-- ---- by an index of the names

some-more : (o : Option ℕ) → is_some o ≡ is_some (option_map suc o)
some-more None = refl
some-more (Some n) = refl

pub taken-is : (ts : Tokens) (name : Name) → list_any (λ (t : Token). is_name name t.kind) ts ≡ is_some (position (flat_map name_of ts) name)
taken-is [] name = refl
taken-is (t ∷ ts) name = by_kind t.kind (taken-is ts name)
  where
    by_test : (b : Bool) → list_any (λ (t : Token). is_name name t.kind) ts ≡ is_some (position (flat_map name_of ts) name) →
        (b || list_any (λ (t : Token). is_name name t.kind) ts) ≡ is_some (if b then Some 0 else option_map suc (position (flat_map name_of ts) name))
    by_test true h = refl
    by_test false h = h ∙ some-more (position (flat_map name_of ts) name)

    by_kind : (k : TokenKind) → list_any (λ (t : Token). is_name name t.kind) ts ≡ is_some (position (flat_map name_of ts) name) →
        (is_name name k || list_any (λ (t : Token). is_name name t.kind) ts) ≡ is_some (position (name_in k ++ flat_map name_of ts) name)
    by_kind (Ident bytes) h = by_test (bytes_eq bytes name) h
    by_kind (Number n) h = h
    by_kind (Sign i) h = h
    by_kind (Reserved i) h = h

-- ---- name by name

-- a name that is taken is passed
pub taken-passed : (ts : Tokens) (n k : ℕ) → k < n → list_any (λ (t : Token). is_name (below_name k) t.kind) ts ≡ true → first_free ts (n - k) k ≡ first_free ts (n - (k + 1)) (k + 1)
taken-passed ts n k lt e =
    let more : n - k ≡ suc (n - (k + 1)) = omega (arith, lt) in
    ap (λ m. first_free ts m k) more ∙ ap (λ b. cond b (first_free ts (n - (k + 1)) (k + 1)) (below_name k)) e

-- one that is not is the new name
pub free-found : (ts : Tokens) (n k : ℕ) → k < n → list_any (λ (t : Token). is_name (below_name k) t.kind) ts ≡ false → first_free ts (n - k) k ≡ below_name k
free-found ts n k lt e =
    let more : n - k ≡ suc (n - (k + 1)) = omega (arith, lt) in
    ap (λ m. first_free ts m k) more ∙ ap (λ b. cond b (first_free ts (n - (k + 1)) (k + 1)) (below_name k)) e
