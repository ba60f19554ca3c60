-- What stands behind the first token.
use Rattle.std.proofs.Common.{◌≡◌, ℕ, suc, ◌<◌, ◌≤◌, ◌+◌, Bool, true, false, ◌&&◌, List, [], ◌∷◌, ◌++◌, length, length-append, Option, Some, None, Ok, Err, ◌⊎◌, inl, inr, refl, sym, ◌∙◌, ap, subst, arith}
use Rattle.smv_core.specs.declared.token.Token.{Token}
use Rattle.smv_core.specs.Notation.{Tokens, one, ◌>>=◌, ◌<|>◌}
use Rattle.law_grammar.specs.Parsing.{Halts, Outcome, Parser, and_then, bind, take, starts, starts2}
use Rattle.law_grammar.specs.Lawful.{Levels, first, Law, IsDeep}
use Rattle.law_grammar.specs.Marks.{Mark, begins, stops_by}
use Rattle.law_grammar.proofs.Marks.{apart, covered, starts-not, stops-not}
use Rattle.law_grammar.proofs.Forms.{Begins, Leads, starts-wider}
use Rattle.law_grammar.proofs.Ahead.{Accepts}

-- one token, and then one of these marks or the rest
pub record Then (zs : List Mark) (ts rest : Tokens) : Type 0 where
  pub token : Token
  pub more : Tokens
  pub split : ts ≡ token ∷ more
  pub goes : (starts (begins zs) more ≡ true) ⊎ (more ≡ rest)

-- where what is spelled begins with the first marks, its second token has one of the second marks
pub record Second {A : Type 0} (fs zs : List Mark) (F : Levels A) : Type 0 where
  pub holds : (floor : ℕ → ℕ) (m : ℕ) (ts : Tokens) (a : A) (rest : Tokens) → F floor m ts a rest → starts (begins fs) ts ≡ true → Then zs ts rest

pub second-one : {A : Type 0} {fs zs : List Mark} (read : Token → Option A) → Second fs zs (λ floor m. one read)
second-one {A = A} {fs = fs} {zs = zs} read = record { holds = by }
  where
    by : (floor : ℕ → ℕ) (m : ℕ) (ts : Tokens) (a : A) (rest : Tokens) → one read ts a rest → starts (begins fs) ts ≡ true → Then zs ts rest
    by floor m [] a rest h e = absurd h
    by floor m (t ∷ ts) a rest h e = record { token = t; more = ts; split = refl; goes = inr h.1 }

pub second-then : {A B : Type 0} {fs zs : List Mark} {F : Levels A} {S : A → Levels B} → Second fs zs F → ((a : A) → Leads zs (S a)) → Second fs zs (λ floor m. F floor m >>= λ a. S a floor m)
second-then {zs = zs} f s = record { holds = λ floor m ts b rest h e. go ts h.1 rest (f.holds floor m ts h.0 h.1 h.2 e) ((s h.0).holds floor m h.1 b rest h.3) }
  where
    by : (more middle rest : Tokens) → (starts (begins zs) more ≡ true) ⊎ (more ≡ middle) → (starts (begins zs) middle ≡ true) ⊎ (middle ≡ rest) → (starts (begins zs) more ≡ true) ⊎ (more ≡ rest)
    by more middle rest (inl x) y = inl x
    by more middle rest (inr e) (inl y) = inl (rw e y)
    by more middle rest (inr e) (inr q) = inr (e ∙ q)

    go : (ts middle rest : Tokens) → Then zs ts middle → (starts (begins zs) middle ≡ true) ⊎ (middle ≡ rest) → Then zs ts rest
    go ts middle rest u y = record { token = u.token; more = u.more; split = u.split; goes = by u.more middle rest u.goes y }

pub second-either : {A : Type 0} {fs zs : List Mark} {F G : Levels A} → Second fs zs F → Second fs zs G → Second fs zs (λ floor m. F floor m <|> G floor m)
second-either {A = A} {fs = fs} {zs = zs} {F = F} {G = G} f g = record { holds = by }
  where
    by : (floor : ℕ → ℕ) (m : ℕ) (ts : Tokens) (a : A) (rest : Tokens) → (F floor m <|> G floor m) ts a rest → starts (begins fs) ts ≡ true → Then zs ts rest
    by floor m ts a rest (inl h) e = f.holds floor m ts a rest h e
    by floor m ts a rest (inr h) e = g.holds floor m ts a rest h e

-- it does not begin so
pub second-other : {A : Type 0} {fs zs : List Mark} {F : Levels A} (xs : List Mark) → Begins xs F → apart xs fs ≡ true → Second fs zs F
second-other {fs = fs} xs f e = record { holds = λ floor m ts a rest h q. absurd (let z = starts-not xs fs ts e (f.holds floor m ts a rest h) in let y : true ≡ false = sym q ∙ z in cc) }

pub second-wider : {A : Type 0} {fs : List Mark} {F : Levels A} (zs ys : List Mark) → covered zs ys ≡ true → Second fs zs F → Second fs ys F
second-wider zs ys e f = record { holds = λ floor m ts a rest h q. go ts rest (f.holds floor m ts a rest h q) }
  where
    by : (more rest : Tokens) → (starts (begins zs) more ≡ true) ⊎ (more ≡ rest) → (starts (begins ys) more ≡ true) ⊎ (more ≡ rest)
    by more rest (inl x) = inl (starts-wider zs ys more e x)
    by more rest (inr q) = inr q

    go : (ts rest : Tokens) → Then zs ts rest → Then ys ts rest
    go ts rest u = record { token = u.token; more = u.more; split = u.split; goes = by u.more rest u.goes }

-- ---- the next two tokens

and-both : (a b : Bool) → a ≡ true → b ≡ true → (a && b) ≡ true
and-both a b p q = rw p q

and-left : (a b : Bool) → a ≡ false → (a && b) ≡ false
and-left a b p = rw p refl

and-right : (a b : Bool) → b ≡ false → (a && b) ≡ false
and-right true b p = p
and-right false b p = refl

-- what is spelled begins with a token of the first marks and one of the second
pub record Begins2 {A : Type 0} (xs ys : List Mark) (F : Levels A) : Type 0 where
  pub holds : (floor : ℕ → ℕ) (m : ℕ) (ts : Tokens) (a : A) (rest : Tokens) → F floor m ts a rest → starts2 (begins xs) (begins ys) ts ≡ true

pub begins2-one : {A B : Type 0} {xs ys : List Mark} {S : A → Levels B} (read : Token → Option A) → Begins xs (λ floor m. one read) → ((a : A) → Begins ys (S a)) → Begins2 xs ys (λ floor m. one read >>= λ a. S a floor m)
begins2-one {A = A} {B = B} {xs = xs} {ys = ys} {S = S} read f s = record { holds = by }
  where
    go : (t : Token) (ts : Tokens) → begins xs t ≡ true → starts (begins ys) ts ≡ true → starts2 (begins xs) (begins ys) (t ∷ ts) ≡ true
    go t [] e q = absurd cc
    go t (u ∷ ts) e q = and-both (begins xs t) (begins ys u) e q

    by : (floor : ℕ → ℕ) (m : ℕ) (ts : Tokens) (b : B) (rest : Tokens) → (one read >>= λ a. S a floor m) ts b rest → starts2 (begins xs) (begins ys) ts ≡ true
    by floor m [] b rest h = absurd h.2
    by floor m (t ∷ ts) b rest h = go t ts (f.holds floor m (t ∷ ts) h.0 h.1 h.2) (rw h.2.1 ((s h.0).holds floor m h.1 b rest h.3))

pub begins2-then : {A B : Type 0} {xs ys : List Mark} {F : Levels A} {S : A → Levels B} → Begins2 xs ys F → Begins2 xs ys (λ floor m. F floor m >>= λ a. S a floor m)
begins2-then f = record { holds = λ floor m ts b rest h. f.holds floor m ts h.0 h.1 h.2 }

-- X is not followed so, and Y begins with other marks
pub not-so-then : {A B : Type 0} {fs zs : List Mark} {F : Levels A} {S : A → Levels B} (ys : List Mark) → Second fs zs F → ((a : A) → Begins zs (S a)) → apart zs ys ≡ true
    → (floor : ℕ → ℕ) (m : ℕ) (ts : Tokens) (b : B) (rest : Tokens) → (F floor m >>= λ a. S a floor m) ts b rest → starts2 (begins fs) (begins ys) ts ≡ false
not-so-then {fs = fs} {zs = zs} {F = F} {S = S} ys f s ap_art floor m ts b rest h = by_first ts (λ e. f.holds floor m ts h.0 h.1 h.2 e)
  where
    middle : starts (begins zs) h.1 ≡ true
    middle = (s h.0).holds floor m h.1 b rest h.3

    other : (more : Tokens) → (starts (begins zs) more ≡ true) ⊎ (more ≡ h.1) → starts (begins ys) more ≡ false
    other more (inl x) = starts-not zs ys more ap_art x
    other more (inr e) = starts-not zs ys more ap_art (rw e middle)

    by_second : (t : Token) (ts : Tokens) → Then zs (t ∷ ts) h.1 → starts2 (begins fs) (begins ys) (t ∷ ts) ≡ false
    by_second t [] u = refl
    by_second t (v ∷ ts) u =
        let e : v ∷ ts ≡ u.more = let s' = u.split in cc in
        let P : Tokens → Type 0 = λ z. starts (begins ys) z ≡ false in
        let q : starts (begins ys) (v ∷ ts) ≡ false = subst P (sym e) (other u.more u.goes) in
        and-right (begins fs t) (begins ys v) q

    by_first : (ts : Tokens) → (starts (begins fs) ts ≡ true → Then zs ts h.1) → starts2 (begins fs) (begins ys) ts ≡ false
    by_first [] k = refl
    by_first (t ∷ []) k = refl
    by_first (t ∷ v ∷ ts) k = go (begins fs t) refl
      where
        go : (c : Bool) → begins fs t ≡ c → starts2 (begins fs) (begins ys) (t ∷ v ∷ ts) ≡ false
        go true q = by_second t (v ∷ ts) (k q)
        go false q = and-left (begins fs t) (begins ys v) q

-- X is not followed so, and is stopped by what follows so
pub not-so : {A : Type 0} {fs zs : List Mark} {F : Levels A} (ys : List Mark) (us : A → List Mark) → Second fs zs F → apart zs ys ≡ true → ((a : A) → covered ys (us a) ≡ true)
    → (floor : ℕ → ℕ) (m : ℕ) (ts : Tokens) (a : A) (rest : Tokens) → F floor m ts a rest → stops_by us a (first rest) ≡ true → starts2 (begins fs) (begins ys) ts ≡ false
not-so {fs = fs} {zs = zs} ys us f ap_art inside floor m ts a rest h stop = by_first ts (λ e. f.holds floor m ts a rest h e)
  where
    other : (more : Tokens) → (starts (begins zs) more ≡ true) ⊎ (more ≡ rest) → starts (begins ys) more ≡ false
    other more (inl x) = starts-not zs ys more ap_art x
    other more (inr e) = rw e (stops-not us a ys rest (inside a) stop)

    by_second : (t : Token) (ts : Tokens) → Then zs (t ∷ ts) rest → starts2 (begins fs) (begins ys) (t ∷ ts) ≡ false
    by_second t [] u = refl
    by_second t (v ∷ ts) u =
        let e : v ∷ ts ≡ u.more = let s' = u.split in cc in
        let P : Tokens → Type 0 = λ z. starts (begins ys) z ≡ false in
        let q : starts (begins ys) (v ∷ ts) ≡ false = subst P (sym e) (other u.more u.goes) in
        and-right (begins fs t) (begins ys v) q

    by_first : (ts : Tokens) → (starts (begins fs) ts ≡ true → Then zs ts rest) → starts2 (begins fs) (begins ys) ts ≡ false
    by_first [] k = refl
    by_first (t ∷ []) k = refl
    by_first (t ∷ v ∷ ts) k = go (begins fs t) refl
      where
        go : (c : Bool) → begins fs t ≡ c → starts2 (begins fs) (begins ys) (t ∷ v ∷ ts) ≡ false
        go true q = by_second t (v ∷ ts) (k q)
        go false q = and-left (begins fs t) (begins ys v) q

-- ---- parsers that take the token

shorter : (xs ys rest : Tokens) → xs ≡ ys ++ rest → length rest ≤ length xs
shorter xs ys rest e = rw e (rw length-append (omega arith))

pub accepts-take : {A B : Type 0} {S : A → Levels B} {n : ℕ} {q : A → Parser B} {st : B → Option Token → Bool} (read : Token → Option A) → ((a : A) → Law (S a) n (q a) st)
    → (t : Token) (a : A) → read t ≡ Some a → Accepts (bind (take read) q) t
accepts-take {B = B} {n = n} {q = q} read law t a e = record {
  reads = λ ts b rest h. let h' : q a ts ≡ Ok (b, rest) = rw e at h in let u = (law a).reads ts b rest h' in let l = shorter ts u.front rest u.split in omega arith;
  halts = λ ts deep bad h. let h' : q a ts ≡ Err (Halts deep bad) = rw e at h in let u = (law a).halts ts deep bad h' in let l = shorter ts u.front bad u.split in omega arith;
}

pub accepts-law : {A : Type 0} {F : Levels A} {n : ℕ} {p : Parser A} {st : A → Option Token → Bool} (xs : List Mark) → Law F n p st → Begins xs F
    → (t : Token) (more : Tokens) (a : A) → F (λ i. 0) 0 (t ∷ more) a [] → st a None ≡ true → Accepts p t
accepts-law {A = A} {F = F} {n = n} {p = p} xs law begun t more a f end = record {
  reads = λ ts b rest h. let u = law.reads (t ∷ ts) b rest h in read ts rest u.front u.split (u.spelled (λ i. 0) n (λ i. omega arith) []);
  halts = λ ts deep bad h. let u = law.halts (t ∷ ts) deep bad h in halted ts deep bad u.front u.split u.again;
}
  where
    read : {b : A} (ts rest front : Tokens) → t ∷ ts ≡ front ++ rest → F (λ i. 0) n (front ++ []) b [] → length rest < length (t ∷ ts)
    read {b = b} ts rest [] split h = absurd (let q : starts (begins xs) [] ≡ true = begun.holds (λ i. 0) n [] b [] h in cc)
    read ts rest (x ∷ front) split h = let l = ap length split in let k : length (x ∷ front ++ rest) ≡ suc (length front + length rest) = ap suc (length-append front rest) in omega arith

    by : (deep : Bool) → p (t ∷ more) ≡ Err (Halts deep (t ∷ more)) → (p (t ∷ more) ≡ Ok (a, [])) ⊎ IsDeep n (λ i. 0) 0 (p (t ∷ more)) → ⊥
    by deep e (inl q) = cc
    by deep e (inr d) = let l = d.forbidden in omega arith

    halted : (ts : Tokens) (deep : Bool) (bad front : Tokens) → t ∷ ts ≡ front ++ bad → ((other : Tokens) → first other ≡ first bad → p (front ++ other) ≡ Err (Halts deep other)) → length bad < length (t ∷ ts)
    halted ts deep bad [] split again = absurd (by deep (again (t ∷ more) (ap first split)) (law.complete (λ i. 0) 0 (t ∷ more) a [] f end))
    halted ts deep bad (x ∷ front) split again = let l = ap length split in let k : length (x ∷ front ++ bad) ≡ suc (length front + length bad) = ap suc (length-append front bad) in omega arith

pub accepts-then : {A B : Type 0} {p : Parser A} {S : A → Levels B} {n : ℕ} {q : A → Parser B} {st : B → Option Token → Bool} → ((a : A) → Law (S a) n (q a) st) → (t : Token) → Accepts p t → Accepts (bind p q) t
accepts-then {A = A} {B = B} {p = p} {q = q} law t x = record {
  reads = λ ts b rest h. read ts b rest (p (t ∷ ts)) refl h;
  halts = λ ts deep bad h. halted ts deep bad (p (t ∷ ts)) refl h;
}
  where
    read : (ts : Tokens) (b : B) (rest : Tokens) (o : Outcome A) → p (t ∷ ts) ≡ o → and_then o q ≡ Ok (b, rest) → length rest < length (t ∷ ts)
    read ts b rest (Err y) e h = absurd cc
    read ts b rest (Ok (a, middle)) e h = let l = x.reads ts a middle e in let u = (law a).reads middle b rest h in let k = shorter middle u.front rest u.split in omega arith

    halted : (ts : Tokens) (deep : Bool) (bad : Tokens) (o : Outcome A) → p (t ∷ ts) ≡ o → and_then o q ≡ Err (Halts deep bad) → length bad < length (t ∷ ts)
    halted ts deep bad (Err y) e h = x.halts ts deep bad (e ∙ cc)
    halted ts deep bad (Ok (a, middle)) e h = let l = x.reads ts a middle e in let u = (law a).halts middle deep bad h in let k = shorter middle u.front bad u.split in omega arith
