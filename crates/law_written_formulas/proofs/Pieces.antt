-- The kinds of the pieces that are written.
use Rattle.std.proofs.Common.{◌≡◌, ℕ, List, [], ◌∷◌, ◌++◌, flat_map, codes, refl, sym, ap, ◌∙◌}
use Rattle.std.proofs.lemmas.List.{append-nil}
use Rattle.std.proofs.lemmas.Grind.{flat_map-append}
use Rattle.std.proofs.lemmas.List.Concat.{flat_map-cons}
use Rattle.std.specs.List.{AllByRecursion}
use Rattle.smv_core.specs.Values.{Name}
use Rattle.smv_core.specs.declared.token.TokenKind.{TokenKind}
use Rattle.smv_core.specs.declared.token.TokenKind.TheVariants.{Ident, Number}
use Rattle.smv_core.specs.Signs.{open_paren, close_paren, open_bracket, close_bracket, equal, tilde, ampersand, bar, arrow}
use Rattle.smv_lex.specs.Lexing as l
use Rattle.law_translated_texts.specs.Phrases.{Pieces, in_parens, whole, joined, lasting, monitor}
use Rattle.law_written_formulas.specs.Kinds.{kinds_in, kinds_of_pieces}
use Rattle.law_written_formulas.specs.Laws.{IsNamed}

abbrev pub K : Pieces → List TokenKind
K ps = kinds_of_pieces ps

pub k-cons : (p : List ℕ) (ps : Pieces) (ks : List TokenKind) → kinds_in p ≡ ks → K (p ∷ ps) ≡ ks ++ K ps
k-cons p ps ks e = flat_map-cons kinds_in p ps ∙ ap (λ j. j ++ K ps) e

pub k-append : (ps qs : Pieces) → K (ps ++ qs) ≡ K ps ++ K qs
k-append ps qs = flat_map-append kinds_in ps qs

pub k-one : (p : List ℕ) → K (p ∷ []) ≡ kinds_in p
k-one p = k-cons p [] (kinds_in p) refl ∙ append-nil (kinds_in p)

-- ---- signs

module _ where
  pub open-kind : kinds_in (codes "(") ≡ open_paren ∷ []
  unfolding l.word_kind l.word_front l.number_front l.sign_front l.front_of l.lexed_from
  open-kind = refl

  pub close-kind : kinds_in (codes ")") ≡ close_paren ∷ []
  unfolding l.word_kind l.word_front l.number_front l.sign_front l.front_of l.lexed_from
  close-kind = refl

  pub bracket-kind : kinds_in (codes "[") ≡ open_bracket ∷ []
  unfolding l.word_kind l.word_front l.number_front l.sign_front l.front_of l.lexed_from
  bracket-kind = refl

  pub end-kind : kinds_in (codes "]") ≡ close_bracket ∷ []
  unfolding l.word_kind l.word_front l.number_front l.sign_front l.front_of l.lexed_from
  end-kind = refl

  pub equal-kind : kinds_in (codes "=") ≡ equal ∷ []
  unfolding l.word_kind l.word_front l.number_front l.sign_front l.front_of l.lexed_from
  equal-kind = refl

  pub not-kind : kinds_in (codes "~") ≡ tilde ∷ []
  unfolding l.word_kind l.word_front l.number_front l.sign_front l.front_of l.lexed_from
  not-kind = refl

  pub and-kind : kinds_in (codes "&") ≡ ampersand ∷ []
  unfolding l.word_kind l.word_front l.number_front l.sign_front l.front_of l.lexed_from
  and-kind = refl

  pub or-kind : kinds_in (codes "|") ≡ bar ∷ []
  unfolding l.word_kind l.word_front l.number_front l.sign_front l.front_of l.lexed_from
  or-kind = refl

  pub arrow-kind : kinds_in (codes "->") ≡ arrow ∷ []
  unfolding l.word_kind l.word_front l.number_front l.sign_front l.front_of l.lexed_from
  arrow-kind = refl

  pub zero-kind : kinds_in (codes "0") ≡ Number 0 ∷ []
  unfolding l.word_kind l.word_front l.number_front l.sign_front l.front_of l.lexed_from
  zero-kind = refl

  pub one-kind : kinds_in (codes "1") ≡ Number 1 ∷ []
  unfolding l.word_kind l.word_front l.number_front l.sign_front l.front_of l.lexed_from
  one-kind = refl

-- ---- what is put together

pub k-parens : (ps : Pieces) → K (in_parens ps) ≡ open_paren ∷ K ps ++ close_paren ∷ []
k-parens ps = k-cons (codes "(") (ps ++ codes ")" ∷ []) (open_paren ∷ []) open-kind ∙ ap (λ j. open_paren ∷ j) (k-append ps (codes ")" ∷ []) ∙ ap (λ j. K ps ++ j) (k-one (codes ")") ∙ close-kind))

pub k-whole : (bytes : List ℕ) → K (whole bytes) ≡ open_paren ∷ kinds_in bytes ++ close_paren ∷ []
k-whole bytes = k-parens (bytes ∷ []) ∙ ap (λ j. open_paren ∷ j ++ close_paren ∷ []) (k-one bytes)

pub k-lasting : (c : List ℕ) → K (lasting c) ≡ tilde ∷ open_paren ∷ ((open_paren ∷ kinds_in c ++ close_paren ∷ []) ++ equal ∷ Number 0 ∷ []) ++ close_paren ∷ []
k-lasting c =
    let rest = codes "=" ∷ codes "0" ∷ [] in
    let inside : K (whole c ++ rest) ≡ (open_paren ∷ kinds_in c ++ close_paren ∷ []) ++ equal ∷ Number 0 ∷ [] =
    k-append (whole c) rest ∙ ap (λ j. j ++ K rest) (k-whole c) ∙ ap (λ j. (open_paren ∷ kinds_in c ++ close_paren ∷ []) ++ j) (k-cons (codes "=") (codes "0" ∷ []) (equal ∷ []) equal-kind ∙ ap (λ j. equal ∷ j) (k-one (codes "0") ∙ zero-kind)) in
    k-cons (codes "~") (in_parens (whole c ++ rest)) (tilde ∷ []) not-kind ∙ ap (λ j. tilde ∷ j) (k-parens (whole c ++ rest) ∙ ap (λ j. open_paren ∷ j ++ close_paren ∷ []) inside)

-- a sign between pieces
pub k-sign : (ps : Pieces) (sign : List ℕ) (k : TokenKind) (qs : Pieces) → kinds_in sign ≡ k ∷ [] → K (ps ++ sign ∷ qs) ≡ K ps ++ k ∷ K qs
k-sign ps sign k qs e = k-append ps (sign ∷ qs) ∙ ap (λ j. K ps ++ j) (k-cons sign qs (k ∷ []) e)

pub k-joined : (sign : List ℕ) (ps : Pieces) (more : List Pieces) → K (joined sign ps more) ≡ K ps ++ K (flat_map (λ qs. sign ∷ qs) more)
k-joined sign ps more = k-append ps (flat_map (λ qs. sign ∷ qs) more)

pub k-more : (sign : List ℕ) (k : TokenKind) (qs : Pieces) (more : List Pieces) → kinds_in sign ≡ k ∷ [] → K (flat_map (λ qs. sign ∷ qs) (qs ∷ more)) ≡ k ∷ (K qs ++ K (flat_map (λ qs. sign ∷ qs) more))
k-more sign k qs more e =
    ap K (flat_map-cons (λ (rs : Pieces). sign ∷ rs) qs more) ∙ k-append (sign ∷ qs) (flat_map (λ qs. sign ∷ qs) more)
    ∙ ap (λ j. j ++ K (flat_map (λ qs. sign ∷ qs) more)) (k-cons sign qs (k ∷ []) e)

-- the parameters of a claim in brackets
abbrev pub bracketed : List Name → List TokenKind
bracketed vars = flat_map (λ var. open_bracket ∷ Ident var ∷ close_bracket ∷ []) vars

k-vars : (vars : List Name) → AllByRecursion IsNamed vars → K (flat_map (λ var. codes "[" ∷ var ∷ codes "]" ∷ []) vars) ≡ bracketed vars
k-vars [] named = refl
k-vars (var ∷ vars) named =
    let piece : K (codes "[" ∷ var ∷ codes "]" ∷ []) ≡ open_bracket ∷ Ident var ∷ close_bracket ∷ [] =
    k-cons (codes "[") (var ∷ codes "]" ∷ []) (open_bracket ∷ []) bracket-kind ∙ ap (λ j. open_bracket ∷ j) (k-cons var (codes "]" ∷ []) (Ident var ∷ []) named.0 ∙ ap (λ j. Ident var ∷ j) (k-one (codes "]") ∙ end-kind)) in
    ap K (flat_map-cons (λ (v : Name). codes "[" ∷ v ∷ codes "]" ∷ []) var vars)
    ∙ k-append (codes "[" ∷ var ∷ codes "]" ∷ []) (flat_map (λ v. codes "[" ∷ v ∷ codes "]" ∷ []) vars)
    ∙ ap (λ j. j ++ K (flat_map (λ v. codes "[" ∷ v ∷ codes "]" ∷ []) vars)) piece
    ∙ ap (λ j. (open_bracket ∷ Ident var ∷ close_bracket ∷ []) ++ j) (k-vars vars named.1)
    ∙ sym (flat_map-cons (λ (v : Name). open_bracket ∷ Ident v ∷ close_bracket ∷ []) var vars)

pub k-monitor : (vars : List Name) → AllByRecursion IsNamed vars → (m : Name) → IsNamed m → K (monitor vars m) ≡ Ident m ∷ bracketed vars
k-monitor vars named m e = k-cons m (flat_map (λ v. codes "[" ∷ v ∷ codes "]" ∷ []) vars) (Ident m ∷ []) e ∙ ap (λ j. Ident m ∷ j) (k-vars vars named)
