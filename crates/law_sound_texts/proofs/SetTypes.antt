-- Each set type takes at least 16 bytes.
use Rattle.std.proofs.Common.{◌≡◌, ◌≤◌, ◌+◌, ◌*◌, ℕ, suc, Bool, true, false, cond, List, [], ◌∷◌, length, inl, inr, Option, Some, None, Ok, refl, ap, sym, subst, arith, length-append}
use Rattle.std.specs.List.{flat_map}
use Rattle.smv_core.specs.declared.token.Token.{Token}
use Rattle.smv_core.specs.declared.token.TokenKind.{TokenKind}
use Rattle.smv_core.specs.declared.token.TokenKind.TheVariants.{Ident, Number, Sign, Reserved}
use Rattle.smv_core.specs.declared.tree.Word.{Word}
use Rattle.smv_core.specs.declared.tree.Span.{Span}
use Rattle.smv_core.specs.declared.tree.Top.{Top}
use Rattle.smv_core.specs.declared.tree.Top.TheVariants as top
use Rattle.smv_core.specs.declared.tree.Text.{Text}
use Rattle.smv_core.specs.Signs as w
use Rattle.smv_core.specs.Notation.{Tokens, same_kind, name_of, nothing, ◌>>=◌, ◌>>◌, many, one, token, name, separated_or_none}
use Rattle.smv_core.specs.Grammar as g
use Rattle.smv_core.specs.Grammar.{Rules, below}
use Rattle.smv_core.specs.Spelling.{Spells}
use Rattle.law_designs.specs.Flattening.{set_of, flatten}
use Rattle.smv_lex.specs.Lexing.{lexed}
use Rattle.law_sound_texts.proofs.Consumed.{width, is_name, gap, weight, ReadsFront, lighter, front-bind, front-then, front-many, front-nothing, front-token, front-name, front-or_none, ReadFronts, opening, front-type, below-front}
use Rattle.law_sound_texts.proofs.Widths.{tokens-light}

-- ---- single tokens

kind-same : (a b : TokenKind) → same_kind a b ≡ true → a ≡ b
kind-same (Sign i) (Sign j) e = let h : i ≡ j = grind arith in ap Sign h
kind-same (Sign i) (Ident x) e = absurd (cc (e))
kind-same (Sign i) (Number x) e = absurd (cc (e))
kind-same (Sign i) (Reserved j) e = absurd (cc (e))
kind-same (Reserved i) (Reserved j) e = let h : i ≡ j = grind arith in ap Reserved h
kind-same (Reserved i) (Ident x) e = absurd (cc (e))
kind-same (Reserved i) (Number x) e = absurd (cc (e))
kind-same (Reserved i) (Sign j) e = absurd (cc (e))
kind-same (Ident x) b e = absurd (cc (e))
kind-same (Number x) b e = absurd (cc (e))

width-some : (k : TokenKind) → 1 ≤ width k
width-some k = by_tests (same_kind k w.word_scalarset) (same_kind k w.word_ordset) (same_kind k w.word_undefined) (same_kind k w.dots)
  where
    by_tests : (a b c d : Bool) → 1 ≤ cond a 9 (cond b 6 (cond c 9 (cond d 2 1)))
    by_tests true b c d = omega arith
    by_tests false true c d = omega arith
    by_tests false false true d = omega arith
    by_tests false false false true = omega arith
    by_tests false false false false = omega arith

-- any token has a byte
one-light : {A : Type 0} (read : Token → Option A) (ts : Tokens) (a : A) (rest : Tokens) → one read ts a rest → suc (weight rest) ≤ weight ts
one-light read [] a rest h = absurd h
one-light read (t ∷ ts) a rest h = let e = ap weight h.1 in let some = width-some t.kind in omega (arith, e, some)

-- this sign or word at the front
token-read : (k : TokenKind) (ts : Tokens) (a : ℕ) (rest : Tokens) → token k ts a rest → (t : Token) × (ts ≡ t ∷ rest) × (t.kind ≡ k)
token-read k [] a rest h = absurd h
token-read k (t ∷ ts) a rest h = (t, ap (λ l. t ∷ l) h.1, kind-same t.kind k (by_test (same_kind t.kind k) h.0))
  where
    by_test : (b : Bool) → cond b (Some t.at) None ≡ Some a → b ≡ true
    by_test true e = refl
    by_test false e = absurd (cc (e))

name-read : (ts : Tokens) (x : Word) (rest : Tokens) → name ts x rest → (t : Token) × (ts ≡ t ∷ rest) × (is_name t.kind ≡ true)
name-read [] x rest h = absurd h
name-read (t ∷ ts) x rest h = (t, ap (λ l. t ∷ l) h.1, by_kind t.kind h.0)
  where
    by_kind : (k : TokenKind) → name_of t.at k ≡ Some x → is_name k ≡ true
    by_kind (Ident bytes) e = refl
    by_kind (Number n) e = absurd (cc (e))
    by_kind (Sign i) e = absurd (cc (e))
    by_kind (Reserved i) e = absurd (cc (e))

token-light : (k : TokenKind) (ts : Tokens) (a : ℕ) (rest : Tokens) → token k ts a rest → width k + weight rest ≤ weight ts
token-light k ts a rest h =
    let r = token-read k ts a rest h in
    subst (λ l. width k + weight rest ≤ weight l) (sym r.1) (let e = ap width r.2 in omega (arith, e))

-- `scalarset` before a name
scalar-light : (ts : Tokens) (a : ℕ) (middle : Tokens) (x : Word) (rest : Tokens) → token w.word_scalarset ts a middle → name middle x rest → 10 + weight middle ≤ weight ts
scalar-light ts a middle x rest h k =
    let t = token-read w.word_scalarset ts a middle h in
    let u = name-read middle x rest k in
    let apart : 1 ≤ gap t.0.kind middle = subst (λ l. 1 ≤ gap t.0.kind l) (sym u.1) (subst (λ kind. 1 ≤ gap kind (u.0 ∷ rest)) (sym t.2) (one-if (is_name u.0.kind) u.2)) in
    subst (λ l. 10 + weight middle ≤ weight l) (sym t.1) (let e = ap width t.2 in omega (arith, e, apart))
  where
    one-if : (b : Bool) → b ≡ true → 1 ≤ cond b 1 0
    one-if true e = omega arith
    one-if false e = absurd (cc (e))

extent-light : (ts : Tokens) (a : Option Span × ℕ) (rest : Tokens) → g.extent ts a rest → 4 + weight rest ≤ weight ts
extent-light ts a rest (inl h) = let own = token-light w.word_undefined ts h.0 h.1 h.2 in let e = ap weight h.3.1 in omega (arith, own, e)
extent-light ts a rest (inr h) =
    let s = h.2 in
    let low = one-light _ ts s.0 s.1 s.2 in
    let dots = token-light w.dots s.1 s.3.0 s.3.1 s.3.2 in
    let high = one-light _ s.3.1 s.3.3.0 s.3.3.1 s.3.3.2 in
    let e = ap weight s.3.3.3.1 in
    let f = ap weight h.3.1 in
    omega (arith, low, dots, high, e, f)

-- ---- tops

set-one : (x : Top) → length (set_of x) ≤ 1
set-one (top.SetType word ordered span at) = omega arith
set-one (top.Alias word of at) = omega arith
set-one (top.Module word formals body at) = omega arith

module _ (floor : ℕ → ℕ) (n : ℕ) (inner : Rules) (l : ReadFronts inner) where
  alias-front : ReadsFront (token w.word_typedef >>= λ at. name >>= λ x. g.type_rule floor n inner >>= λ of. token w.semicolon >> nothing (top.Alias x of at))
  alias-front = front-bind (front-token w.word_typedef) (λ at. front-bind front-name (λ x. front-bind (front-type floor n inner l) (λ of. front-then (front-token w.semicolon) (front-nothing _))))

  module-front : ReadsFront (token w.word_module >>= λ at. name >>= λ x. g.opening floor n inner w.open_paren >> separated_or_none name >>= λ formals. token w.close_paren >>
      g.opening floor n inner w.open_brace >> many inner.body >>= λ items. token w.close_brace >> nothing (top.Module x formals items at))
  module-front =
      front-bind (front-token w.word_module) (λ at. front-bind front-name (λ x. front-then (opening floor n inner l w.open_paren) (front-bind (front-or_none front-name) (λ formals. front-then (front-token w.close_paren)
      (front-then (opening floor n inner l w.open_brace) (front-bind (front-many l.body) (λ items. front-then (front-token w.close_brace) (front-nothing _))))))))

  -- a set type takes at least 16 bytes
  top-light : (ts : Tokens) (x : Top) (rest : Tokens) → g.top_rule floor n inner ts x rest → 16 * length (set_of x) + weight rest ≤ weight ts
  top-light ts x rest (inl h) =
      let head = scalar-light ts h.0 h.1 h.3.0 h.3.1 h.2 h.3.2 in
      let own = one-light _ h.1 h.3.0 h.3.1 h.3.2 in
      let size = extent-light h.3.1 h.3.3.0 h.3.3.1 h.3.3.2 in
      let end = token-light w.semicolon h.3.3.1 h.3.3.3.0 h.3.3.3.1 h.3.3.3.2 in
      let e = ap weight h.3.3.3.3.1 in
      let most = set-one x in
      omega (arith, head, own, size, end, e, most)
  top-light ts x rest (inr (inl h)) =
      let head = token-light w.word_ordset ts h.0 h.1 h.2 in
      let own = one-light _ h.1 h.3.0 h.3.1 h.3.2 in
      let size = token-light w.word_undefined h.3.1 h.3.3.0 h.3.3.1 h.3.3.2 in
      let end = token-light w.semicolon h.3.3.1 h.3.3.3.0 h.3.3.3.1 h.3.3.3.2 in
      let e = ap weight h.3.3.3.3.1 in
      let most = set-one x in
      omega (arith, head, own, size, end, e, most)
  top-light ts x rest (inr (inr (inl h))) =
      let less = lighter alias-front ts x rest h in
      let none : length (set_of x) ≡ 0 = subst (λ x. length (set_of x) ≡ 0) h.3.3.3.3.0 refl in
      omega (arith, less, none)
  top-light ts x rest (inr (inr (inr h))) =
      let less = lighter module-front ts x rest h in
      let none : length (set_of x) ≡ 0 = subst (λ x. length (set_of x) ≡ 0) h.3.3.3.3.3.3.3.3.0 refl in
      omega (arith, less, none)

  tops-light : (ts : Tokens) (tops : List Top) (rest : Tokens) → many (g.top_rule floor n inner) ts tops rest → 16 * length (flat_map set_of tops) + weight rest ≤ weight ts
  tops-light ts [] rest h = let e = ap weight h in omega (arith, e)
  tops-light ts (x ∷ tops) rest h =
      let own = top-light ts x h.0 h.1 in
      let more = tops-light h.0 tops rest h.2 in
      let e = length-append (set_of x) (flat_map set_of tops) in
      omega (arith, own, more, e)

-- so a text of at most 1,048,576 bytes has no more than 65,536
pub sets-few : (bytes : List ℕ) (n : ℕ) (tokens : Tokens) (text : Text) → length bytes ≤ 1048576 → lexed bytes ≡ Ok tokens → Spells n tokens text → length (flatten text).sets ≤ 65536
unfolding Spells
sets-few bytes n tokens text le read spelled =
    let most = tokens-light bytes tokens read in
    let all = tops-light (λ at. 0) n (below (λ at. 0) n) (below-front (λ at. 0) n) tokens text.tops [] spelled in
    omega (arith, le, most, all)
