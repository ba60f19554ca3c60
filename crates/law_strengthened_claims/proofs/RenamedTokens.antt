-- Tokens with a new name spell the expression under that name.
use Rattle.std.proofs.Common.{◌≡◌, ℕ, [], ◌∷◌, ◌++◌, Option, Some, None, Bool, true, false, if◌then◌else◌, refl, sym, ap, ◌∙◌, subst, arith}
use Rattle.std.proofs.lemmas.List.{append-nil}
use Rattle.smv_core.specs.Values.{Name}
use Rattle.smv_core.specs.declared.token.Token.{Token}
use Rattle.smv_core.specs.declared.token.TokenKind.{TokenKind}
use Rattle.smv_core.specs.declared.token.TokenKind.TheVariants.{Ident, Number, Sign, Reserved}
use Rattle.smv_core.specs.declared.tree.Word.{Word}
use Rattle.smv_core.specs.declared.tree.Part.{Part, Field}
use Rattle.smv_core.specs.Signs.{semicolon, dot}
use Rattle.smv_core.specs.Notation.{Tokens, name, name_of, same_kind}
use Rattle.law_grammar.specs.Laws.{SpellsExpr}
use Rattle.law_lists.proofs.Booleans.{not_right}
use Rattle.law_spelled_alike.specs.Local.{kind_by, CutBy, Fronts, IsLocalBy}
use Rattle.law_spelled_alike.proofs.Combining.{sign-kept}
use Rattle.law_spelled_alike.proofs.PlacelessForms.{part_by}
use Rattle.law_spelled_alike.proofs.Expressions.{is_mark, PartBy, dotted, local-expression}
use Rattle.law_induction.specs.Renamed.{new_name}
use Rattle.law_strengthened_claims.specs.Renaming.{Renames, RenamedTokensAreSpelled}
use Rattle.law_strengthened_claims.proofs.RenamedForms.{by, renamed_forms}

-- whether what comes behind these tokens follows a `.`
abbrev pub follows_dot : Bool → Tokens → Bool
follows_dot b [] = b
follows_dot b (t ∷ ts) = follows_dot (same_kind t.kind dot) ts

follows-append : (b : Bool) (xs ys : Tokens) → follows_dot b (xs ++ ys) ≡ follows_dot (follows_dot b xs) ys
follows-append b [] ys = refl
follows-append b (x ∷ xs) ys = follows-append (same_kind x.kind dot) xs ys

module _ (var fresh : Name) where
  -- a front does not end in a `.`
  abbrev IsClosed : Tokens → Type 0
  IsClosed ts = follows_dot false ts ≡ false

  abbrev IsRenamed : Tokens → Tokens → Type 0
  IsRenamed us ts = Renames var fresh false ts us

  abbrev new : Name → Name
  new = new_name var fresh

  some-renamed : (b : Bool) (ts : Tokens) → (us : Tokens) × Renames var fresh b ts us
  some-renamed b [] = ([], tt)
  some-renamed b (t ∷ ts) = let r = some-renamed (same_kind t.kind dot) ts in (record { kind = if b then t.kind else kind_by new t.kind; at = 0 } ∷ r.0, (refl, r.1))

  of-none : (us : Tokens) → IsRenamed us [] → us ≡ []
  of-none [] h = refl
  of-none (u ∷ us) h = absurd h

  of-single : (us : Tokens) (t : Token) → IsRenamed us (t ∷ []) → (u : Token) × (us ≡ u ∷ []) × (u.kind ≡ kind_by new t.kind)
  of-single [] t h = absurd h
  of-single (u ∷ []) t h = (u, refl, h.0)
  of-single (u ∷ v ∷ us) t h = absurd h.1

  -- tokens with the new name are parted as the tokens are
  parts : (b : Bool) (us xs ys : Tokens) → Renames var fresh b (xs ++ ys) us → (left right : Tokens) × (us ≡ left ++ right) × Renames var fresh b xs left × Renames var fresh (follows_dot b xs) ys right
  parts b us [] ys h = ([], us, refl, tt, h)
  parts b [] (x ∷ xs) ys h = absurd h
  parts b (u ∷ us) (x ∷ xs) ys h = let r = parts (same_kind x.kind dot) us xs ys h.1 in (u ∷ r.0, r.1, ap (λ l. u ∷ l) r.2, (h.0, r.3), r.4)

  parted : (us xs ys : Tokens) → IsClosed xs → IsRenamed us (xs ++ ys) → CutBy IsRenamed us xs ys
  parted us xs ys e h = let r = parts false us xs ys h in record { left = r.0; right = r.1; split = r.2; first = r.3; second = subst (λ b. Renames var fresh b ys r.1) e r.4 }

  fronts : Fronts (λ k. same_kind k dot ≡ false) IsClosed IsRenamed new
  fronts = record {
    none = refl;
    single = λ t p. p;
    both = λ xs ys p q. follows-append false xs ys ∙ ap (λ b. follows_dot b ys) p ∙ q;
    related = λ xs p. some-renamed false xs;
    of_none = of-none;
    of_single = λ us t p h. of-single us t h;
    parted = parted;
  }

  plain : (k : TokenKind) → is_mark k ≡ false → same_kind k dot ≡ false
  plain k e = not_right (same_kind k semicolon) (same_kind k dot) e

  -- ---- a field behind its `.`

  is-token : (b : Bool) (i j : ℕ) → (if b then Some i else None) ≡ Some j → b ≡ true
  is-token true i j e = refl
  is-token false i j e = absurd (cc)

  is-name : (at : ℕ) (k : TokenKind) (x : Word) → name_of at k ≡ Some x → k ≡ Ident x.name
  is-name at (Ident bytes) x e = ap (λ (o : Option Word). kind_of o) e
    where
      kind_of : Option Word → TokenKind
      kind_of None = Ident bytes
      kind_of (Some w) = Ident w.name
  is-name at (Number value) x e = absurd (cc)
  is-name at (Sign i) x e = absurd (cc)
  is-name at (Reserved i) x e = absurd (cc)

  field : IsLocalBy IsClosed IsRenamed (PartBy (by var fresh)) dotted dotted
  field [] a rest (at, m, p, q) = absurd p
  field (t ∷ []) a rest (at, m, p, (x, l, q, r)) = absurd (subst (λ z. name z x l) (sym p.1) q)
  field (t ∷ u ∷ ts) a rest (at, m, p, (x, l, q, r)) = record { front = t ∷ u ∷ []; split = ap (λ z. t ∷ u ∷ z) (own.1 ∙ r.1); each = ap (λ k. same_kind k dot) is_name; again = again }
    where
      own : name (u ∷ ts) x l
      own = subst (λ z. name z x l) (sym p.1) q

      is_dot : same_kind t.kind dot ≡ true
      is_dot = is-token (same_kind t.kind dot) t.at at p.0

      is_name : u.kind ≡ Ident x.name
      is_name = is-name u.at u.kind x own.0

      again : (us more : Tokens) → IsRenamed us (t ∷ u ∷ []) → (b : Part) × dotted (us ++ more) b more × PartBy (by var fresh) a b
      again [] more h = absurd h
      again (v ∷ []) more h = absurd h.1
      again (v ∷ w ∷ []) more h =
          let same : w.kind ≡ Ident x.name = h.1.0 ∙ ap (λ (b : Bool). if b then u.kind else kind_by new u.kind) is_dot ∙ is_name in
          let word : Word = record { name = x.name; at = w.at } in (
            Field word,
            (v.at, w ∷ more, (ap (λ (b : Bool). if b then Some v.at else None) (ap (λ k. same_kind k dot) h.0 ∙ sign-kept new t.kind dot ∙ is_dot), refl), (word, more, (ap (name_of w.at) same, refl), (refl, refl))),
            ap (part_by (by var fresh)) (sym r.0),
          )
      again (v ∷ w ∷ z ∷ us) more h = absurd h.1.1

pub renamed-spelled : RenamedTokensAreSpelled
renamed-spelled n var fresh ts us e h k =
    let u = local-expression (fronts var fresh) (plain var fresh) (renamed_forms var fresh) (field var fresh) n n (omega arith) ts e [] h in
    let v = u.again us [] (subst (λ l. Renames var fresh false l us) (u.split ∙ append-nil u.front) k) in
    (v.0, subst (λ l. SpellsExpr n l v.0) (append-nil us) v.1, sym v.2)
