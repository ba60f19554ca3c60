-- What some tokens spell, and what those spell that come in their place: rules that are put together.
use Rattle.std.proofs.Common.{◌≡◌, ℕ, List, [], ◌∷◌, ◌++◌, refl, sym, ap, ◌∙◌, subst, append_assoc}
use Rattle.std.proofs.lemmas.List.{append-nil}
use Rattle.std.specs.List.{AllByRecursion, AllZip}
use Rattle.law_lists.proofs.Each.{each_append}
use Rattle.smv_core.specs.Values.{Name}
use Rattle.smv_core.specs.declared.token.TokenKind.{TokenKind}
use Rattle.smv_core.specs.Notation.{Tokens, Rule, ◌>>=◌, many}
use Rattle.law_spelled_alike.specs.Local.{kinds_of, Taken, IsLocal}
use Rattle.law_texts_spelled_alike.proofs.Texts.{T}
use Rattle.law_translated_texts.specs.Translation.{Edit}
use Rattle.law_written_formulas.proofs.Writing.{Sp, sp-kinds, sp-seq, sp-none, sp-more}
use Rattle.law_translated_items.specs.Segments.{Segment, Kept, old_of, old, kinds_of_segment, kinds, edits_of, all_edits, IsGood}

-- what is spelled by a front is spelled by all tokens of its kinds
pub sp-taken : {A B : Type 0} (R : A → B → Type 0) (r : Rule B) (ts : Tokens) (a : A) (rest : Tokens) (u : Taken T R r ts a rest) → Sp R r (kinds_of u.front) a
sp-taken R r ts a rest u us more all k eq = let x = u.again us more k in (x.0, subst (λ l. r l x.0 more) (sym eq) x.1, x.2)

-- a rule of which each value is one of another's
pub sp-into : {A B : Type 0} (R : A → B → Type 0) (r s : Rule B) (ks : List TokenKind) (a : A) → ((ts : Tokens) (b : B) (rest : Tokens) → r ts b rest → s ts b rest) → Sp R r ks a → Sp R s ks a
sp-into R r s ks a f u us rest ts k eq = let x = u us rest ts k eq in (x.0, f ts x.0 rest x.1, x.2)

-- ---- segments one behind the other

pub old-append : (xs ys : List Segment) → old (xs ++ ys) ≡ old xs ++ old ys
old-append [] ys = refl
old-append (x ∷ xs) ys = ap (λ l. old_of x ++ l) (old-append xs ys) ∙ sym (append_assoc (old_of x) (old xs) (old ys))

module _ (text : List ℕ) (whole : Tokens) (layer : Name) where
  pub kinds-append : (xs ys : List Segment) → kinds text whole layer (xs ++ ys) ≡ kinds text whole layer xs ++ kinds text whole layer ys
  kinds-append [] ys = refl
  kinds-append (x ∷ xs) ys = ap (λ l. kinds_of_segment text whole layer x ++ l) (kinds-append xs ys) ∙ sym (append_assoc (kinds_of_segment text whole layer x) (kinds text whole layer xs) (kinds text whole layer ys))

  pub edits-append : (xs ys : List Segment) → all_edits text whole layer (xs ++ ys) ≡ all_edits text whole layer xs ++ all_edits text whole layer ys
  edits-append [] ys = refl
  edits-append (x ∷ xs) ys = ap (λ l. edits_of text whole layer x ++ l) (edits-append xs ys) ∙ sym (append_assoc (edits_of text whole layer x) (all_edits text whole layer xs) (all_edits text whole layer ys))

  -- The tokens are segments before a rest, with these edits. All tokens of the kinds of what comes in their place spell by the rule, which may depend on what was spelled before, what is so related to the value.
  pub record Exchanges {X A B : Type 0} (S : A → B → Type 0) (r : X → Rule B) (ts : Tokens) (a : A) (es : List Edit) (rest : Tokens) : Type 0 where
    pub segments : List Segment
    pub split : ts ≡ old segments ++ rest
    pub edited : all_edits text whole layer segments ≡ es
    pub good : AllByRecursion (IsGood text whole layer) segments
    pub again : (x : X) → Sp S (r x) (kinds text whole layer segments) a

  -- ---- tokens that are kept

  one-kept : (front rest : Tokens) → front ++ rest ≡ old (Kept front ∷ []) ++ rest
  one-kept front rest = ap (λ l. l ++ rest) (sym (append-nil front))

  pub kept : {X A B : Type 0} (R : A → B → Type 0) (r : Rule A) (r' : Rule B) → IsLocal T R r r' → (ts : Tokens) (a : A) (rest : Tokens) → r ts a rest → Exchanges {X = X} R (λ _. r') ts a [] rest
  kept R r r' local ts a rest h =
      let u = local ts a rest h in
      record {
        segments = Kept u.front ∷ [];
        split = u.split ∙ one-kept u.front rest;
        edited = refl;
        good = (tt, tt);
        again = λ x. sp-kinds R r' (kinds_of u.front) (kinds_of u.front ++ []) a (sym (append-nil (kinds_of u.front))) (sp-taken R r' ts a rest u);
      }

  -- the same with another value that is the same, and no edits by another name
  pub moved : {X A B : Type 0} (S : A → B → Type 0) (r : X → Rule B) (ts : Tokens) (a b : A) (es fs : List Edit) (rest : Tokens) → a ≡ b → es ≡ fs → Exchanges {X = X} S r ts a es rest → Exchanges {X = X} S r ts b fs rest
  moved S r ts a b es fs rest p q v = record {
    segments = v.segments;
    split = v.split;
    edited = v.edited ∙ q;
    good = v.good;
    again = λ x. subst (λ c. Sp S (r x) (kinds text whole layer v.segments) c) p (v.again x);
  }

  pub into : {X A B : Type 0} (S : A → B → Type 0) (r s : X → Rule B) → ((x : X) (us : Tokens) (b : B) (more : Tokens) → r x us b more → s x us b more) → (ts : Tokens) (a : A) (es : List Edit) (rest : Tokens) → Exchanges {X = X} S r ts a es rest → Exchanges {X = X} S s ts a es rest
  into S r s f ts a es rest v = record { segments = v.segments; split = v.split; edited = v.edited; good = v.good; again = λ x. sp-into S (r x) (s x) (kinds text whole layer v.segments) a (f x) (v.again x) }

  pub lifted : {X A B : Type 0} (S : A → B → Type 0) (r : Rule B) (ts : Tokens) (a : A) (es : List Edit) (rest : Tokens) → Exchanges {X = Unit {0}} S (λ _. r) ts a es rest → Exchanges {X = X} S (λ _. r) ts a es rest
  lifted S r ts a es rest v = record { segments = v.segments; split = v.split; edited = v.edited; good = v.good; again = λ x. v.again tt }

  -- ---- one rule after another

  -- a rule that is kept, and another behind it
  pub prefix : {X A B C D : Type 0} (R : A → B → Type 0) (S : C → D → Type 0) (r : Rule A) (r' : Rule B) (s' : X → B → Rule D) → IsLocal T R r r' → (ts : Tokens) (a : A) (middle : Tokens) → r ts a middle → (c : C) (es : List Edit) (rest : Tokens) →
      Exchanges {X = X × ((b : B) × R a b)} S (λ x. s' x.0 x.1.0) middle c es rest → Exchanges {X = X} S (λ x. r' >>= s' x) ts c es rest
  prefix R S r r' s' local ts a middle p c es rest v =
      let u = local ts a middle p in
      record {
        segments = Kept u.front ∷ v.segments;
        split = u.split ∙ ap (λ l. u.front ++ l) v.split ∙ sym (append_assoc u.front (old v.segments) rest);
        edited = v.edited;
        good = (tt, v.good);
        again = λ x. sp-seq R S r' (s' x) (kinds_of u.front) (kinds text whole layer v.segments) a c (sp-taken R r' ts a middle u) (λ b q. v.again (x, (b, q)));
      }

  -- and tokens behind it that belong to a segment of their own
  pub ending : {X A B D C : Type 0} (S : A → B → Type 0) (S' : C → D → Type 0) (r' : X → Rule B) (t' : X → Rule D) (ts : Tokens) (a : A) (es : List Edit) (middle : Tokens) → Exchanges {X = X} S r' ts a es middle → (seg : Segment) (c : C) (fs : List Edit) (rest : Tokens) →
      middle ≡ old_of seg ++ rest → es ++ edits_of text whole layer seg ≡ fs → IsGood text whole layer seg → ((x : X) (ks : List TokenKind) → Sp S (r' x) ks a → Sp S' (t' x) (ks ++ kinds_of_segment text whole layer seg) c) → Exchanges {X = X} S' t' ts c fs rest
  ending S S' r' t' ts a es middle v seg c fs rest p q good f =
      record {
        segments = v.segments ++ seg ∷ [];
        split = v.split ∙ ap (λ l. old v.segments ++ l) p ∙ sym (append_assoc (old v.segments) (old_of seg) rest) ∙ ap (λ l. l ++ rest) (ap (λ l. old v.segments ++ l) (sym (append-nil (old_of seg))) ∙ sym (old-append v.segments (seg ∷ [])));
        edited = edits-append v.segments (seg ∷ []) ∙ ap (λ l. all_edits text whole layer v.segments ++ l) (append-nil (edits_of text whole layer seg)) ∙ ap (λ l. l ++ edits_of text whole layer seg) v.edited ∙ q;
        good = each_append (IsGood text whole layer) v.segments (seg ∷ []) v.good (good, tt);
        again = λ x. sp-kinds S' (t' x) (kinds text whole layer v.segments ++ kinds_of_segment text whole layer seg) _ c (ap (λ l. kinds text whole layer v.segments ++ l) (sym (append-nil (kinds_of_segment text whole layer seg))) ∙ sym (kinds-append v.segments (seg ∷ [])))
            (f x (kinds text whole layer v.segments) (v.again x));
      }

  pub suffix : {X A B C D : Type 0} (S : A → B → Type 0) (S' : C → D → Type 0) (r' : X → Rule B) (s' : X → B → Rule D) (ts : Tokens) (a : A) (es : List Edit) (middle : Tokens) → Exchanges {X = X} S r' ts a es middle → (back : Tokens) (c : C) (rest : Tokens) →
      middle ≡ back ++ rest → ((x : X) (b : B) → S a b → Sp S' (s' x b) (kinds_of back) c) → Exchanges {X = X} S' (λ x. r' x >>= s' x) ts c es rest
  suffix S S' r' s' ts a es middle v back c rest p f = ending S S' r' (λ x. r' x >>= s' x) ts a es middle v (Kept back) c es rest p (append-nil es) tt (λ x ks u. sp-seq S S' (r' x) (s' x) ks (kinds_of back) a c u (f x))

  -- ---- lists

  pub several-none : {A B : Type 0} (S : A → B → Type 0) (r : Rule B) (ts rest : Tokens) → ts ≡ rest → Exchanges {X = Unit {0}} (AllZip S) (λ _. many r) ts [] [] rest
  several-none S r ts rest e = record { segments = []; split = e; edited = refl; good = tt; again = λ x. sp-none S r }

  pub several-more : {A B : Type 0} (S : A → B → Type 0) (r : Rule B) (ts : Tokens) (a : A) (es : List Edit) (middle : Tokens) (more : List A) (fs : List Edit) (rest : Tokens) → Exchanges {X = Unit {0}} S (λ _. r) ts a es middle → Exchanges {X = Unit {0}} (AllZip S) (λ _. many r) middle more fs rest →
      Exchanges {X = Unit {0}} (AllZip S) (λ _. many r) ts (a ∷ more) (es ++ fs) rest
  several-more S r ts a es middle more fs rest v w = record {
    segments = v.segments ++ w.segments;
    split = v.split ∙ ap (λ l. old v.segments ++ l) w.split ∙ sym (append_assoc (old v.segments) (old w.segments) rest) ∙ ap (λ l. l ++ rest) (sym (old-append v.segments w.segments));
    edited = edits-append v.segments w.segments ∙ ap (λ l. l ++ all_edits text whole layer w.segments) v.edited ∙ ap (λ l. es ++ l) w.edited;
    good = each_append (IsGood text whole layer) v.segments w.segments v.good w.good;
    again = λ x. sp-kinds (AllZip S) (many r) _ _ (a ∷ more) (sym (kinds-append v.segments w.segments)) (sp-more S r (kinds text whole layer v.segments) (kinds text whole layer w.segments) a more (v.again tt) (w.again tt));
  }
