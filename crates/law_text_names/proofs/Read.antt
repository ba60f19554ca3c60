-- The variable and the ordset of an induction are read as names.
use Rattle.std.proofs.Common.{◌≡◌, ◌<◌, ◌+◌, ◌-◌, ℕ, List, [], ◌∷◌, ◌++◌, length, take, drop, take_while, filter, codes, Option, Some, None, option_map, Ok, Bool, true, false, cond, if◌then◌else◌, refl, sym, ap, ◌∙◌, subst, append_assoc, arith}
use Rattle.std.specs.List.{AllByRecursion, list_any}
use Rattle.std.specs.Str.{bytes_eq}
use Rattle.std.proofs.lemmas.List.{take-append-drop, length-take-le}
use Rattle.std.proofs.lemmas.List.Sums.{take_while-cons}
use Rattle.smv_core.specs.Values.{Name}
use Rattle.smv_core.specs.declared.token.Token.{Token}
use Rattle.smv_core.specs.declared.token.TokenKind.{TokenKind}
use Rattle.smv_core.specs.declared.token.TokenKind.TheVariants.{Ident}
use Rattle.smv_core.specs.declared.tree.Word.{Word}
use Rattle.smv_core.specs.declared.tree.Top.{Top}
use Rattle.smv_core.specs.declared.tree.TypeExpr.{TypeExpr, Boolean, Range, Enum, Named, Array', Struct'}
use Rattle.smv_core.specs.Notation.{Tokens}
use Rattle.smv_core.specs.Spelling.{Spells}
use Rattle.smv_lex.specs.declared.front.Front.TheVariants.{Whole}
use Rattle.smv_lex.specs.Lexing.{is_name_byte, front_of, lexed_from, lexed, then_more}
use Rattle.law_lists.proofs.Lists.{head_is}
use Rattle.law_lexed_parts.specs.Parts.{IsCut}
use Rattle.law_lexed_parts.proofs.Seams.{cut-kept}
use Rattle.law_lexed_parts.proofs.Parts.{tokens-kept, apart-blank}
use Rattle.law_lexed_parts.proofs.Parted.{with-ok, within-text, under-there, whole-cut, whole-tokens, split-at}
use Rattle.law_lexed_parts.proofs.Letters.{letter-name, name-read}
use Rattle.law_strengthened_claims.specs.Renaming.{IsName}
use Rattle.law_strengthened_texts.specs.Stronger.{Found, main_claims, is_ordset, ordset_named, innermost, if_only}
use Rattle.law_text_names.specs.Laws.{NamesAreRead}
use Rattle.law_text_names.proofs.Names.{AreOk, TopOk, FoundOk, tops-ok, mains-ok, ordset-ok, any-ok}

-- ---- a token that is a name

first-token : (at : ℕ) (xs : List ℕ) (kind : TokenKind) (n : ℕ) (t : Token) (rest : Tokens) → front_of xs ≡ Whole kind n → lexed_from at 0 xs ≡ Ok (t ∷ rest) → kind ≡ t.kind
unfolding lexed_from
first-token at [] kind n t rest is e = absurd (cc (e))
first-token at (m ∷ ms) kind n t rest is e =
    let w = with-ok (record { kind = kind; at = at }) (lexed_from (at + 1) (n - 1) ms) (t ∷ rest) (ap (λ f. then_more at f (λ k. lexed_from (at + 1) (k - 1) ms)) (sym is) ∙ e) in
    sym (ap (λ (z : Token). z.kind) (head_is w.2))

take-run : (f : ℕ → Bool) (xs : List ℕ) → take (length (take_while f xs)) xs ≡ take_while f xs
take-run f [] = refl
take-run f (x ∷ xs) = subst (λ l. take (length l) (x ∷ xs) ≡ l) (sym (take_while-cons f x xs)) (by_test (f x) (take-run f xs))
  where
    by_test : (b : Bool) → take (length (take_while f xs)) xs ≡ take_while f xs → take (length (cond b (x ∷ take_while f xs) [])) (x ∷ xs) ≡ cond b (x ∷ take_while f xs) []
    by_test true h = ap (λ l. x ∷ l) h
    by_test false h = refl

token-name : (text : List ℕ) (front : Tokens) (t : Token) (rest : Tokens) (name : Name) → lexed text ≡ Ok (front ++ (t ∷ rest)) → t.kind ≡ Ident name → IsName name
token-name text front t rest name e k =
    let p : List ℕ = take t.at text in
    let m : List ℕ = drop t.at text in
    let under = under-there (0 + length text) front t rest (within-text 0 0 text (front ++ (t ∷ rest)) e) in
    let long : length p ≡ t.at = length-take-le t.at text (omega (arith, under)) in
    let s = split-at p m front rest t (ap lexed (take-append-drop t.at text) ∙ e) (sym long) in
    let is : front_of m ≡ Whole (Ident name) s.1.1 = s.1.2 ∙ ap (λ z. Whole z s.1.1) (first-token (length p) m s.1.0 s.1.1 t rest s.1.2 s.3 ∙ k) in
    let r = name-read m name s.1.1 is in
    let q : List ℕ = drop (length name) m in
    let own : take (length name) m ≡ name = ap (λ w. take (length w) m) (sym r.4) ∙ take-run is_name_byte m ∙ r.4 in
    let whole : name ++ q ≡ m = ap (λ w. w ++ q) (sym own) ∙ take-append-drop (length name) m in
    let there : front_of (name ++ q) ≡ Whole (Ident name) (length name) = ap front_of whole ∙ is ∙ ap (Whole (Ident name)) r.5 in
    let begins : name ≡ r.0 ∷ take_while is_name_byte r.1 =
    sym r.4 ∙ ap (take_while is_name_byte) r.2 ∙ take_while-cons is_name_byte r.0 r.1 ∙ ap (λ b. cond b (r.0 ∷ take_while is_name_byte r.1) []) (letter-name r.0 r.3) in
    let some : 0 < length name = subst (λ w. 0 < length w) (sym begins) (omega arith) in
    let cut : IsCut 0 name q = whole-cut (Ident name) name q there some in (
      cut-kept 0 name q (codes " ") cut (apart-blank name []),
      tokens-kept 0 0 name q (codes " ") cut (apart-blank name []) ∙ whole-tokens 0 (Ident name) name q there some,
    )

all-ok : (text : List ℕ) (front ts : Tokens) → lexed text ≡ Ok (front ++ ts) → AreOk IsName ts
all-ok text front [] e = tt
all-ok text front (t ∷ ts) e = (λ name k. token-name text front t ts name e k, all-ok text (front ++ (t ∷ [])) ts (e ∙ ap Ok (sym (append_assoc front (t ∷ []) ts))))

-- ---- those of an induction

second-of : (p q : Found × Name) → p ≡ q → p.1 ≡ q.1
second-of p q e = ap (λ (r : Found × Name). r.1) e

each-filtered : {X : Type 0} (Q : X → Type 0) (p : X → Bool) (xs : List X) → AllByRecursion Q xs → AllByRecursion Q (filter p xs)
each-filtered Q p [] h = tt
each-filtered Q p (x ∷ xs) h = by_test (p x) (each-filtered Q p xs h.1)
  where
    by_test : (b : Bool) → AllByRecursion Q (filter p xs) → AllByRecursion Q (cond b (x ∷ filter p xs) (filter p xs))
    by_test true r = (h.0, r)
    by_test false r = r

module _ (n : ℕ) (tops : List Top) (ok : AllByRecursion (TopOk IsName n) tops) (var set : Name) (c : Found) where
  set-ok : (o : Option TypeExpr) → ordset_named tops o ≡ Some set → IsName set
  set-ok None e = absurd (cc (e))
  set-ok (Some (Named word at)) e = by_test (list_any (is_ordset word.name) tops) refl e
    where
      by_test : (b : Bool) → list_any (is_ordset word.name) tops ≡ b → (if b then Some word.name else None) ≡ Some set → IsName set
      by_test true k q = let same : word.name ≡ set = cc (q) in ordset-ok IsName n set tops ok (subst (λ m. list_any (is_ordset m) tops ≡ true) same k)
      by_test false k q = absurd (cc (q))
  set-ok (Some Boolean) e = absurd (cc (e))
  set-ok (Some (Range span at)) e = absurd (cc (e))
  set-ok (Some (Enum names at)) e = absurd (cc (e))
  set-ok (Some (Array' i index o of)) e = absurd (cc (e))
  set-ok (Some (Struct' shape fields)) e = absurd (cc (e))

  both-ok : (l : List Found) → AllByRecursion (FoundOk IsName n) l → if_only tops var l ≡ Some (c, set) → IsName var × IsName set
  both-ok [] h e = absurd (cc (e))
  both-ok (d ∷ []) h e = by_test (list_any (λ (word : Word). bytes_eq word.name var) d.vars) refl e
    where
      by_set : (o : Option Name) → ordset_named tops (innermost var d.binders) ≡ o → option_map {U = Found × Name} (λ s. (d, s)) o ≡ Some (c, set) → IsName set
      by_set None k q = absurd (cc (q))
      by_set (Some s) k q = set-ok (innermost var d.binders) (k ∙ ap (λ n. Some n) (second-of (d, s) (c, set) (cc (q))))

      by_test : (b : Bool) → list_any (λ (word : Word). bytes_eq word.name var) d.vars ≡ b → (if b then option_map {U = Found × Name} (λ s. (d, s)) (ordset_named tops (innermost var d.binders)) else None) ≡ Some (c, set) → IsName var × IsName set
      by_test true k q = (any-ok IsName var d.vars h.0 k, by_set (ordset_named tops (innermost var d.binders)) refl q)
      by_test false k q = absurd (cc (q))
  both-ok (d ∷ f ∷ l) h e = absurd (cc (e))

pub names-read : NamesAreRead
unfolding Spells
names-read n text ts x name var c set l h found =
    let ok = tops-ok IsName n ts x.tops [] h (all-ok text [] ts l) in
    both-ok n x.tops ok var set c (filter (λ (d : Found). bytes_eq d.word.name name) (main_claims x.tops)) (each-filtered (FoundOk IsName n) (λ (d : Found). bytes_eq d.word.name name) (main_claims x.tops) (mains-ok IsName n x.tops ok)) found
