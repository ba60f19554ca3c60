-- What a rule of the grammar keeps: where the tokens are tokens that a text can have, the value is good and so are the tokens that come after it.
use Rattle.std.proofs.Common.{◌≡◌, ℕ, ◌<◌, Bool, true, false, cond, List, [], ◌∷◌, map, Option, Some, None, ◌⊎◌, inl, inr, subst}
use Rattle.smv_core.specs.declared.token.Token.{Token}
use Rattle.smv_core.specs.declared.token.TokenKind.{TokenKind}
use Rattle.smv_core.specs.declared.token.TokenKind.TheVariants.{Ident, Number, Sign, Reserved}
use Rattle.smv_core.specs.declared.tree.Word.{Word}
use Rattle.smv_core.specs.Notation.{Tokens, Rule, never, nothing, ◌>>=◌, ◌>>◌, ◌<|>◌, many, optional, placed, one, same_kind, found, with_place, one_of, token, name_of, name, number_of, number, same_name, positive, separated, separated_or_none, opener}
use Rattle.smv_core.specs.Signs.{comma}
use Rattle.law_print_and_parse.specs.Readable.{IsReadable, AreReadable}
use Rattle.law_print_and_parse.proofs.Good.{IsName, IsNumber, Each}

abbrev pub AllReadable : Tokens → Type 0
AllReadable ts = AreReadable (map (λ t. t.kind) ts)

pub record Keeps {A : Type 0} (G : A → Type 0) (r : Rule A) : Type 0 where
  pub keeps : (ts : Tokens) (a : A) (rest : Tokens) → r ts a rest → AllReadable ts → G a × AllReadable rest

-- nothing is said of the value
abbrev pub Any : {A : Type 0} → A → Type 0
Any a = Unit {0}

pub keeps-never : {A : Type 0} {G : A → Type 0} → Keeps G never
keeps-never = record { keeps = λ ts a rest h readable. absurd h }

pub keeps-nothing : {A : Type 0} {G : A → Type 0} (a : A) → G a → Keeps G (nothing a)
keeps-nothing {G = G} a good = record { keeps = λ ts b rest h readable. (subst G h.0 good, subst AllReadable h.1 readable) }

pub keeps-bind : {A B : Type 0} {G : A → Type 0} {H : B → Type 0} {r : Rule A} {s : A → Rule B} → Keeps G r → ((a : A) → G a → Keeps H (s a)) → Keeps H (r >>= s)
keeps-bind first second = record {
  keeps = λ ts b rest h readable. let one = first.keeps ts h.0 h.1 h.2 readable in (second h.0 one.0).keeps h.1 b rest h.3 one.1;
}

pub keeps-then : {A B : Type 0} {G : A → Type 0} {H : B → Type 0} {r : Rule A} {s : Rule B} → Keeps G r → Keeps H s → Keeps H (r >> s)
keeps-then first second = keeps-bind first (λ a good. second)

pub keeps-or : {A : Type 0} {G : A → Type 0} {r s : Rule A} → Keeps G r → Keeps G s → Keeps G (r <|> s)
keeps-or {A} {G} {r} {s} left right = record { keeps = λ ts a rest h readable. either ts a rest h readable }
  where
    either : (ts : Tokens) (a : A) (rest : Tokens) → r ts a rest ⊎ s ts a rest → AllReadable ts → G a × AllReadable rest
    either ts a rest (inl h) readable = left.keeps ts a rest h readable
    either ts a rest (inr h) readable = right.keeps ts a rest h readable

pub keeps-many : {A : Type 0} {G : A → Type 0} {r : Rule A} → Keeps G r → Keeps (Each G) (many r)
keeps-many {A} {G} {r} each = record { keeps = λ ts all rest h readable. go ts all rest h readable }
  where
    go : (ts : Tokens) (all : List A) (rest : Tokens) → many r ts all rest → AllReadable ts → Each G all × AllReadable rest
    go ts [] rest h readable = (tt, subst AllReadable h readable)
    go ts (a ∷ more) rest h readable =
        let one = each.keeps ts a h.0 h.1 readable in
        let others = go h.0 more rest h.2 one.1 in
        ((one.0, others.0), others.1)

-- a value, if there is one
abbrev pub IfAny : {A : Type 0} → (A → Type 0) → Option A → Type 0
IfAny G None = Unit {0}
IfAny G (Some a) = G a

pub keeps-optional : {A : Type 0} {G : A → Type 0} {r : Rule A} → Keeps G r → Keeps (IfAny G) (optional r)
keeps-optional r = keeps-or (keeps-bind r (λ a good. keeps-nothing (Some a) good)) (keeps-nothing None tt)

pub keeps-when : {A : Type 0} {G : A → Type 0} {r : Rule A} (P : Type 0) → Keeps G r → Keeps G (λ ts a rest. P × r ts a rest)
keeps-when P r = record { keeps = λ ts a rest h readable. r.keeps ts a rest h.1 readable }

pub keeps-placed : {A : Type 0} {G : A → Type 0} {r : Rule A} → Keeps G r → Keeps (λ (a : A × ℕ). G a.0) (placed r)
keeps-placed {A} {G} {r} of = record { keeps = λ ts a rest h readable. go ts a rest h readable }
  where
    go : (ts : Tokens) (a : A × ℕ) (rest : Tokens) → placed r ts a rest → AllReadable ts → G a.0 × AllReadable rest
    go [] a rest h readable = absurd h
    go (t ∷ ts) a rest h readable = of.keeps (t ∷ ts) a.0 rest h.0 readable

-- ---- single tokens

pub keeps-one : {A : Type 0} {G : A → Type 0} (read : Token → Option A) → ((t : Token) (a : A) → read t ≡ Some a → IsReadable t.kind → G a) → Keeps G (one read)
keeps-one {A} {G} read good = record { keeps = λ ts a rest h readable. go ts a rest h readable }
  where
    go : (ts : Tokens) (a : A) (rest : Tokens) → one read ts a rest → AllReadable ts → G a × AllReadable rest
    go [] a rest h readable = absurd h
    go (t ∷ ts) a rest h readable = (good t a h.0 readable.0, subst AllReadable h.1 readable.1)

pub keeps-token : (k : TokenKind) → Keeps Any (token k)
keeps-token k = keeps-one _ (λ t a e readable. tt)

abbrev pub Named : Word → Type 0
Named w = IsName w.name

pub keeps-name : Keeps Named name
keeps-name = keeps-one _ (λ t a e readable. good t.at t.kind a e readable)
  where
    good : (at : ℕ) (k : TokenKind) (a : Word) → name_of at k ≡ Some a → IsReadable k → Named a
    good at (Ident bytes) a e readable = let same : record { name = bytes; at = at } ≡ a = cc in subst Named same (record { is = readable })
    good at (Number value) a e readable = absurd cc
    good at (Sign i) a e readable = absurd cc
    good at (Reserved i) a e readable = absurd cc

abbrev pub Counted : ℕ × ℕ → Type 0
Counted k = IsNumber k.0

pub keeps-number : Keeps Counted number
keeps-number = keeps-one _ (λ t a e readable. good t.at t.kind a e readable)
  where
    good : (at : ℕ) (k : TokenKind) (a : ℕ × ℕ) → with_place at (number_of k) ≡ Some a → IsReadable k → Counted a
    good at (Number value) a e readable = let same : (value, at) ≡ a = cc in subst Counted same readable
    good at (Ident bytes) a e readable = absurd cc
    good at (Sign i) a e readable = absurd cc
    good at (Reserved i) a e readable = absurd cc

pub keeps-one_of : {A : Type 0} (Q : A → Type 0) (list : List (TokenKind × A)) → Each (λ (entry : TokenKind × A). Q entry.1) list → Keeps (λ (a : A × ℕ). Q a.0) (one_of list)
keeps-one_of {A} Q list all = keeps-one _ (λ t a e readable. good t.at (found list t.kind) a (in-list list t.kind all) e)
  where
    in-list : (list : List (TokenKind × A)) (k : TokenKind) → Each (λ (entry : TokenKind × A). Q entry.1) list → IfAny Q (found list k)
    in-list [] k all = tt
    in-list (entry ∷ more) k all = by (same_kind k entry.0) all.0 (in-list more k all.1)
      where
        by : (r : Bool) → Q entry.1 → IfAny Q (found more k) → IfAny Q (cond r (Some entry.1) (found more k))
        by true here there = here
        by false here there = there

    good : (at : ℕ) (o : Option A) (a : A × ℕ) → IfAny Q o → with_place at o ≡ Some a → Q a.0
    good at None a q e = absurd cc
    good at (Some x) a q e = let same : (x, at) ≡ a = cc in subst (λ (a : A × ℕ). Q a.0) same q

pub keeps-opener : (floor : ℕ → ℕ) (n : ℕ) (k : TokenKind) → Keeps Any (opener floor n k)
keeps-opener floor n k = keeps-bind (keeps-token k) (λ at good. keeps-then (keeps-when (floor at < n) (keeps-nothing {G = Any} tt tt)) (keeps-nothing at tt))

pub keeps-same_name : (w : Word) → Keeps Any (same_name w)
keeps-same_name w = keeps-bind keeps-name (λ v good. keeps-when (v.name ≡ w.name) (keeps-nothing v tt))

pub keeps-positive : Keeps IsNumber positive
keeps-positive = keeps-bind keeps-number (λ k good. keeps-when (0 < k.0) (keeps-nothing k.0 good))

-- ---- lists

pub keeps-separated : {A : Type 0} {G : A → Type 0} {r : Rule A} → Keeps G r → Keeps (Each G) (separated r)
keeps-separated r = keeps-bind r (λ x good. keeps-bind (keeps-many (keeps-then (keeps-token comma) r)) (λ more all. keeps-nothing (x ∷ more) (good, all)))

pub keeps-separated_or_none : {A : Type 0} {G : A → Type 0} {r : Rule A} → Keeps G r → Keeps (Each G) (separated_or_none r)
keeps-separated_or_none r = keeps-or (keeps-separated r) (keeps-nothing [] tt)
