-- The laws in the forms of the grammar, with conditions on marks that are seen by computing.
use Rattle.std.proofs.Common.{◌≡◌, ℕ, suc, ◌<◌, ◌-◌, Bool, true, false, ◌||◌, cond, List, [], ◌∷◌, ◌++◌, length, length-append, Option, Some, None, ◌⊎◌, inl, inr, refl, sym, ◌∙◌, subst, arith}
use Rattle.smv_core.specs.declared.token.Token.{Token}
use Rattle.smv_core.specs.declared.token.TokenKind.{TokenKind}
use Rattle.smv_core.specs.declared.token.TokenKind.TheVariants.{Ident, Number, Sign, Reserved}
use Rattle.smv_core.specs.declared.tree.Word.{Word}
use Rattle.smv_core.specs.Signs.{comma}
use Rattle.smv_core.specs.Notation.{Tokens, nothing, ◌>>=◌, ◌>>◌, ◌<|>◌, many, separated, token, name, number, one_of, opener, same_kind, found, with_place, name_of, number_of}
use Rattle.law_grammar.specs.Parsing.{Parser, bind, pure, take, take_open, starts, fork, loop}
use Rattle.law_grammar.specs.Lawful.{Levels, first, Lawful}
use Rattle.law_grammar.specs.Marks.{Mark, any_name, any_number, exactly, has_mark, begins, stops_by}
use Rattle.law_grammar.specs.Readers.{a_token, a_name, a_number, an_entry, maybe, read_separated}
use Rattle.law_grammar.proofs.Sequence.{followed}
use Rattle.law_grammar.proofs.Tokens.{nothing-lawful, one-lawful, same-lawful, stopped}
use Rattle.law_grammar.proofs.Opening.{opened-lawful}
use Rattle.law_grammar.proofs.Choice.{chosen}
use Rattle.law_grammar.proofs.Many.{Takes, looped}
use Rattle.law_grammar.proofs.Marks.{apart, covered, covered-begins, starts-not, stops-starts, stops-not, stops-more}

-- ---- how what is spelled begins

-- what is spelled begins with one of these marks
pub record Begins {A : Type 0} (xs : List Mark) (F : Levels A) : Type 0 where
  pub holds : (floor : ℕ → ℕ) (m : ℕ) (ts : Tokens) (a : A) (rest : Tokens) → F floor m ts a rest → starts (begins xs) ts ≡ true

-- what is spelled begins with one of these marks, or is empty
pub record Leads {A : Type 0} (xs : List Mark) (F : Levels A) : Type 0 where
  pub holds : (floor : ℕ → ℕ) (m : ℕ) (ts : Tokens) (a : A) (rest : Tokens) → F floor m ts a rest → (starts (begins xs) ts ≡ true) ⊎ (ts ≡ rest)

pub starts-wider : (xs ys : List Mark) (ts : Tokens) → covered xs ys ≡ true → starts (begins xs) ts ≡ true → starts (begins ys) ts ≡ true
starts-wider xs ys [] e h = absurd cc
starts-wider xs ys (t ∷ ts) e h = covered-begins xs ys t.kind e h

pub begins-wider : {A : Type 0} {F : Levels A} (xs ys : List Mark) → covered xs ys ≡ true → Begins xs F → Begins ys F
begins-wider xs ys e f = record { holds = λ floor m ts a rest h. starts-wider xs ys ts e (f.holds floor m ts a rest h) }

pub begins-then : {A B : Type 0} {xs : List Mark} {F : Levels A} {S : A → Levels B} → Begins xs F → Begins xs (λ floor m. F floor m >>= λ a. S a floor m)
begins-then f = record { holds = λ floor m ts b rest h. f.holds floor m ts h.0 h.1 h.2 }

pub begins-either : {A : Type 0} {xs : List Mark} {F G : Levels A} → Begins xs F → Begins xs G → Begins xs (λ floor m. F floor m <|> G floor m)
begins-either {A = A} {xs = xs} {F = F} {G = G} f g = record { holds = by }
  where
    by : (floor : ℕ → ℕ) (m : ℕ) (ts : Tokens) (a : A) (rest : Tokens) → (F floor m <|> G floor m) ts a rest → starts (begins xs) ts ≡ true
    by floor m ts a rest (inl h) = f.holds floor m ts a rest h
    by floor m ts a rest (inr h) = g.holds floor m ts a rest h

pub leads-begins : {A : Type 0} {xs : List Mark} {F : Levels A} → Begins xs F → Leads xs F
leads-begins f = record { holds = λ floor m ts a rest h. inl (f.holds floor m ts a rest h) }

pub leads-nothing : {A : Type 0} {xs : List Mark} (a : A) → Leads xs (λ floor m. nothing a)
leads-nothing a = record { holds = λ floor m ts b rest h. inr h.1 }

pub leads-many : {A : Type 0} {xs : List Mark} {F : Levels A} → Begins xs F → Leads xs (λ floor m. many (F floor m))
leads-many {A = A} {xs = xs} {F = F} f = record { holds = by }
  where
    by : (floor : ℕ → ℕ) (m : ℕ) (ts : Tokens) (items : List A) (rest : Tokens) → many (F floor m) ts items rest → (starts (begins xs) ts ≡ true) ⊎ (ts ≡ rest)
    by floor m ts [] rest h = inr h
    by floor m ts (a ∷ items) rest h = inl (f.holds floor m ts a h.0 h.1)

pub leads-either : {A : Type 0} {xs : List Mark} {F G : Levels A} → Leads xs F → Leads xs G → Leads xs (λ floor m. F floor m <|> G floor m)
leads-either {A = A} {xs = xs} {F = F} {G = G} f g = record { holds = by }
  where
    by : (floor : ℕ → ℕ) (m : ℕ) (ts : Tokens) (a : A) (rest : Tokens) → (F floor m <|> G floor m) ts a rest → (starts (begins xs) ts ≡ true) ⊎ (ts ≡ rest)
    by floor m ts a rest (inl h) = f.holds floor m ts a rest h
    by floor m ts a rest (inr h) = g.holds floor m ts a rest h

pub leads-maybe : {A : Type 0} {xs : List Mark} {F : Levels A} (b : A) → Begins xs F → Leads xs (λ floor m. F floor m <|> nothing b)
leads-maybe b f = leads-either (leads-begins f) (leads-nothing b)

pub leads-then : {A B : Type 0} {xs : List Mark} {F : Levels A} {S : A → Levels B} → Leads xs F → ((a : A) → Leads xs (S a)) → Leads xs (λ floor m. F floor m >>= λ a. S a floor m)
leads-then {xs = xs} f s = record { holds = λ floor m ts b rest h. go ts h.1 rest (f.holds floor m ts h.0 h.1 h.2) ((s h.0).holds floor m h.1 b rest h.3) }
  where
    go : (ts middle rest : Tokens) → (starts (begins xs) ts ≡ true) ⊎ (ts ≡ middle) → (starts (begins xs) middle ≡ true) ⊎ (middle ≡ rest) → (starts (begins xs) ts ≡ true) ⊎ (ts ≡ rest)
    go ts middle rest (inl x) y = inl x
    go ts middle rest (inr e) (inl y) = inl (rw e y)
    go ts middle rest (inr e) (inr q) = inr (e ∙ q)

-- ---- single tokens

module _ (k : TokenKind) where
  token-kind : (t : Token) (at : ℕ) → a_token k t ≡ Some at → (same_kind t.kind k ≡ true) × (at ≡ t.at)
  token-kind t at h = go (same_kind t.kind k) refl h
    where
      go : (b : Bool) → same_kind t.kind k ≡ b → cond b (Some (t.at)) None ≡ Some at → (same_kind t.kind k ≡ true) × (at ≡ t.at)
      go false q e = absurd cc
      go true q e = (q, cc)

  pub token-begins : Begins (exactly k ∷ []) (λ floor m. token k)
  token-begins = record { holds = by }
    where
      by : (floor : ℕ → ℕ) (m : ℕ) (ts : Tokens) (at : ℕ) (rest : Tokens) → token k ts at rest → starts (begins (exactly k ∷ [])) ts ≡ true
      by floor m [] at rest h = absurd h
      by floor m (t ∷ ts) at rest h = let e = (token-kind t at h.0).0 in rw e refl

  pub opener-begins : Begins (exactly k ∷ []) (λ floor m. opener floor m k)
  opener-begins = begins-then token-begins

  module _ (self : same_kind k k ≡ true) where
    pub token-lawful : {C : Type 0} {n : ℕ} {st : ℕ → Option Token → Bool} → Lawful C (λ floor m. token k) n (take (a_token k)) st
    token-lawful = one-lawful (a_token k) (record { token = record { kind = k; at = 0 }; value = 0; reads = rw self refl })

    -- a token that opens a level, and what stands in it
    pub level : {C A : Type 0} {S : ℕ → Levels A} {n : ℕ} {q : ℕ → Parser A} {st : A → Option Token → Bool}
        → ((at : ℕ) → Lawful (0 < n) (λ floor m. S at floor (suc m)) (n - 1) (q at) st) → Lawful C (λ floor m. opener floor m k >>= λ at. S at floor m) n (take_open (a_token k) n q) st
    level x = opened-lawful (λ t at h. (token-kind t at h).1) (λ place. (record { kind = k; at = place }, rw self refl)) x

pub name-begins : Begins (any_name ∷ []) (λ floor m. name)
name-begins = record { holds = by }
  where
    go : (at : ℕ) (w : Word) (kind : TokenKind) → name_of at kind ≡ Some w → has_mark (any_name ∷ []) kind ≡ true
    go at w (Ident bytes) e = refl
    go at w (Number value) e = absurd cc
    go at w (Sign i) e = absurd cc
    go at w (Reserved i) e = absurd cc

    by : (floor : ℕ → ℕ) (m : ℕ) (ts : Tokens) (w : Word) (rest : Tokens) → name ts w rest → starts (begins (any_name ∷ [])) ts ≡ true
    by floor m [] w rest h = absurd h
    by floor m (t ∷ ts) w rest h = go t.at w t.kind h.0

pub name-lawful : {C : Type 0} {n : ℕ} {st : Word → Option Token → Bool} → Lawful C (λ floor m. name) n (take a_name) st
name-lawful = one-lawful a_name (record { token = record { kind = Ident []; at = 0 }; value = record { name = []; at = 0 }; reads = refl })

pub number-begins : Begins (any_number ∷ []) (λ floor m. number)
number-begins = record { holds = by }
  where
    go : (at : ℕ) (w : ℕ × ℕ) (kind : TokenKind) → with_place at (number_of kind) ≡ Some w → has_mark (any_number ∷ []) kind ≡ true
    go at w (Number value) e = refl
    go at w (Ident bytes) e = absurd cc
    go at w (Sign i) e = absurd cc
    go at w (Reserved i) e = absurd cc

    by : (floor : ℕ → ℕ) (m : ℕ) (ts : Tokens) (w : ℕ × ℕ) (rest : Tokens) → number ts w rest → starts (begins (any_number ∷ [])) ts ≡ true
    by floor m [] w rest h = absurd h
    by floor m (t ∷ ts) w rest h = go t.at w t.kind h.0

pub number-lawful : {C : Type 0} {n : ℕ} {st : ℕ × ℕ → Option Token → Bool} → Lawful C (λ floor m. number) n (take a_number) st
number-lawful = one-lawful a_number (record { token = record { kind = Number 0; at = 0 }; value = (0, 0); reads = refl })

abbrev pub marks_of : {A : Type 0} → List (TokenKind × A) → List Mark
marks_of [] = []
marks_of (entry ∷ more) = exactly entry.0 ∷ marks_of more

found-marks : {A : Type 0} (list : List (TokenKind × A)) (kind : TokenKind) (a : A) → found list kind ≡ Some a → has_mark (marks_of list) kind ≡ true
found-marks [] kind a h = absurd cc
found-marks (entry ∷ more) kind a h = go (λ e. found-marks more kind a e) (same_kind kind entry.0) refl h
  where
    go : (found more kind ≡ Some a → has_mark (marks_of more) kind ≡ true) → (b : Bool) → same_kind kind entry.0 ≡ b → cond b (Some entry.1) (found more kind) ≡ Some a
        → (same_kind kind entry.0 || has_mark (marks_of more) kind) ≡ true
    go ih true q e = rw q refl
    go ih false q e = rw q (ih e)

pub entry-begins : {A : Type 0} (list : List (TokenKind × A)) → Begins (marks_of list) (λ floor m. one_of list)
entry-begins {A = A} list = record { holds = by }
  where
    go : (t : Token) (w : A × ℕ) (o : Option A) → found list t.kind ≡ o → with_place t.at o ≡ Some w → has_mark (marks_of list) t.kind ≡ true
    go t w None q e = absurd cc
    go t w (Some a) q e = found-marks list t.kind a q

    by : (floor : ℕ → ℕ) (m : ℕ) (ts : Tokens) (w : A × ℕ) (rest : Tokens) → one_of list ts w rest → starts (begins (marks_of list)) ts ≡ true
    by floor m [] w rest h = absurd h
    by floor m (t ∷ ts) w rest h = go t w (found list t.kind) refl h.0

pub entry-lawful : {C A : Type 0} {n : ℕ} {st : A × ℕ → Option Token → Bool} (k : TokenKind) (a : A) (more : List (TokenKind × A)) → same_kind k k ≡ true
    → Lawful C (λ floor m. one_of ((k, a) ∷ more)) n (take (an_entry ((k, a) ∷ more))) st
entry-lawful k a more self = one-lawful (an_entry ((k, a) ∷ more)) (record { token = record { kind = k; at = 0 }; value = (a, 0); reads = rw self refl })

-- ---- forms

-- nothing goes on with the value
abbrev pub closed : {A : Type 0} → A → List Mark
closed a = []

pub stops-closed : {A : Type 0} (a : A) (t : Option Token) → stops_by closed a t ≡ true
stops-closed a None = refl
stops-closed a (Some t) = refl

-- X Y, where nothing goes on with X
pub next : {C A B : Type 0} {F : Levels A} {S : A → Levels B} {n : ℕ} {p : Parser A} {q : A → Parser B} {st : B → Option Token → Bool}
    → Lawful C F n p (stops_by closed) → ((a : A) → Lawful C (S a) n (q a) st) → Lawful C (λ floor m. F floor m >>= λ a. S a floor m) n (bind p q) st
next f s = followed f s (λ floor m a b middle rest h stop. stops-closed a (first middle))

-- X Y, where Y begins with the marks or is empty
pub next-led : {C A B : Type 0} {F : Levels A} {S : A → Levels B} {n : ℕ} {p : Parser A} {q : A → Parser B} (xs : List Mark) (ys : A → List Mark) (zs : B → List Mark)
    → Lawful C F n p (stops_by ys) → ((a : A) → Lawful C (S a) n (q a) (stops_by zs)) → ((a : A) → Leads xs (S a)) → ((a : A) → apart xs (ys a) ≡ true)
    → ((a : A) (b : B) → covered (ys a) (zs b) ≡ true) → Lawful C (λ floor m. F floor m >>= λ a. S a floor m) n (bind p q) (stops_by zs)
next-led {A = A} {B = B} {F = F} {S = S} xs ys zs f s leads ap_art within = followed f s follow
  where
    follow : (floor : ℕ → ℕ) (m : ℕ) (a : A) (b : B) (middle rest : Tokens) → S a floor m middle b rest → stops_by zs b (first rest) ≡ true → stops_by ys a (first middle) ≡ true
    follow floor m a b middle rest h stop = go ((leads a).holds floor m middle b rest h)
      where
        go : (starts (begins xs) middle ≡ true) ⊎ (middle ≡ rest) → stops_by ys a (first middle) ≡ true
        go (inl e) = stops-starts ys a xs middle (ap_art a) e
        go (inr e) = stops-more ys zs a b (first middle) (within a b) (rw e stop)

-- { X }
pub repeated : {C A : Type 0} {F : Levels A} {n : ℕ} {p : Parser A} (xs : List Mark) (ys : A → List Mark) (zs : List Mark) → Lawful C F n p (stops_by ys) → Begins xs F
    → ((a : A) → apart xs (ys a) ≡ true) → covered xs zs ≡ true → ((a : A) → covered (ys a) zs ≡ true) → Lawful C (λ floor m. many (F floor m)) n (loop (begins xs) p) (stops_by (λ items. zs))
repeated {C = C} {A = A} {F = F} {n = n} {p = p} xs ys zs f starts-so ap_art inside within =
    stopped at (looped (begins xs) (λ t. stops_by (λ (i : ℕ). zs) 0 t) f starts-so.holds takes (λ floor m ts a rest h e. stops-starts ys a xs rest (ap_art a) e)
    (λ ts e. stops-not (λ (i : ℕ). zs) 0 xs ts inside e) (λ floor m ts a rest h e. stops-more ys (λ (i : ℕ). zs) a 0 (first rest) (within a) e))
  where
    at : (items : List A) (t : Option Token) → stops_by (λ (items : List A). zs) items t ≡ true → stops_by (λ (i : ℕ). zs) 0 t ≡ true
    at items None e = refl
    at items (Some t) e = e

    takes : C → Takes p
    takes c ts a rest e = let u = (f.law c).reads ts a rest e in go u.front u.split (u.spelled (λ i. 0) n (λ i. omega arith) [])
      where
        go : (front : Tokens) → ts ≡ front ++ rest → F (λ i. 0) n (front ++ []) a [] → length rest < length ts
        go [] split h = absurd (let q : starts (begins xs) [] ≡ true = starts-so.holds (λ i. 0) n [] a [] h in cc)
        go (t ∷ front) split h = rw split (rw length-append (omega arith))

-- [ X ]
pub at-most-once : {C A : Type 0} {F : Levels A} {n : ℕ} {p : Parser A} (xs : List Mark) (ys zs : A → List Mark) (b : A) → Lawful C F n p (stops_by ys) → Begins xs F
    → covered xs (zs b) ≡ true → ((a : A) → covered (ys a) (zs a) ≡ true) → Lawful C (λ floor m. F floor m <|> nothing b) n (maybe xs p b) (stops_by zs)
at-most-once xs ys zs b f starts-so inside within =
    chosen (begins xs) (stopped (λ a t e. stops-more ys zs a a t (within a) e) f) (nothing-lawful b) starts-so.holds
    (λ floor m ts a rest h stop. let e = h.0 in let q = h.1 in stops-not zs b xs ts inside (rw q (rw e stop)))

-- X | Y
pub alternative : {C A : Type 0} {F G : Levels A} {n : ℕ} {p q : Parser A} {st : A → Option Token → Bool} (xs ys : List Mark) → Lawful C F n p st → Lawful C G n q st
    → Begins xs F → Begins ys G → apart ys xs ≡ true → Lawful C (λ floor m. F floor m <|> G floor m) n (fork (begins xs) p q) st
alternative xs ys f g f-begins g-begins e =
    chosen (begins xs) f g f-begins.holds (λ floor m ts a rest h stop. starts-not ys xs ts e (g-begins.holds floor m ts a rest h))

-- more tokens go on with it
pub continued : {C A : Type 0} {F : Levels A} {n : ℕ} {p : Parser A} (ys zs : A → List Mark) → ((a : A) → covered (ys a) (zs a) ≡ true) → Lawful C F n p (stops_by ys) → Lawful C F n p (stops_by zs)
continued ys zs within f = stopped (λ a t e. stops-more ys zs a a t (within a) e) f

-- X | Y, where Y may be empty
pub alternative-led : {C A : Type 0} {F G : Levels A} {n : ℕ} {p q : Parser A} (xs ys : List Mark) (zs : A → List Mark) → Lawful C F n p (stops_by zs) → Lawful C G n q (stops_by zs)
    → Begins xs F → Leads ys G → apart ys xs ≡ true → ((a : A) → covered xs (zs a) ≡ true) → Lawful C (λ floor m. F floor m <|> G floor m) n (fork (begins xs) p q) (stops_by zs)
alternative-led {A = A} {G = G} xs ys zs f g f-begins g-leads e inside = chosen (begins xs) f g f-begins.holds others
  where
    others : (floor : ℕ → ℕ) (m : ℕ) (ts : Tokens) (a : A) (rest : Tokens) → G floor m ts a rest → stops_by zs a (first rest) ≡ true → starts (begins xs) ts ≡ false
    others floor m ts a rest h stop = go (g-leads.holds floor m ts a rest h)
      where
        go : (starts (begins ys) ts ≡ true) ⊎ (ts ≡ rest) → starts (begins xs) ts ≡ false
        go (inl q) = starts-not ys xs ts e q
        go (inr q) = rw q (stops-not zs a xs rest (inside a) stop)

-- [ X ] as an Option
pub optionally : {C A : Type 0} {F : Levels A} {n : ℕ} {p : Parser A} (xs : List Mark) (ys : A → List Mark) (zs : Option A → List Mark) → Lawful C F n p (stops_by ys) → Begins xs F
    → covered xs (zs None) ≡ true → ((a : A) → covered (ys a) (zs (Some a)) ≡ true)
    → Lawful C (λ floor m. (F floor m >>= λ a. nothing (Some a)) <|> nothing None) n (maybe xs (bind p (λ a. pure (Some a))) None) (stops_by zs)
optionally {C = C} {A = A} {F = F} {n = n} {p = p} xs ys zs f starts-so inside within =
    chosen (begins xs) some (nothing-lawful None) (begins-then starts-so).holds
    (λ floor m ts a rest h stop. let e = h.0 in let q = h.1 in stops-not zs None xs ts inside (rw q (rw e stop)))
  where
    some : Lawful C (λ floor m. F floor m >>= λ a. nothing (Some a)) n (bind p (λ a. pure (Some a))) (stops_by zs)
    some = followed f (λ a. nothing-lawful (Some a)) (λ floor m a b middle rest h stop.
        let e = h.0 in let q = h.1 in stops-more ys (λ (i : A). zs (Some i)) a a (first middle) (within a) (rw q (let P : Option A → Type 0 = λ o. stops_by zs o (first rest) ≡ true in subst P (sym e) stop)))

pub stops-alike : {A B : Type 0} (zs : List Mark) (a : A) (b : B) (t : Option Token) → stops_by (λ (b : B). zs) b t ≡ true → stops_by (λ (a : A). zs) a t ≡ true
stops-alike zs a b None e = refl
stops-alike zs a b (Some t) e = e

-- X, of which a tree is made
pub made : {C A B : Type 0} {F : Levels A} {n : ℕ} {p : Parser A} (zs : List Mark) (make : A → B) → Lawful C F n p (stops_by (λ a. zs))
    → Lawful C (λ floor m. F floor m >>= λ a. nothing (make a)) n (bind p (λ a. pure (make a))) (stops_by (λ b. zs))
made zs make f = followed f (λ a. nothing-lawful (make a)) (λ floor m a b middle rest h stop. let q = h.1 in rw q (stops-alike zs a b (first rest) stop))

-- X { ',' X }
pub separated-lawful : {C A : Type 0} {F : Levels A} {n : ℕ} {p : Parser A} (ys : A → List Mark) (zs : List Mark) → Lawful C F n p (stops_by ys)
    → ((a : A) → apart (exactly comma ∷ []) (ys a) ≡ true) → covered (exactly comma ∷ []) zs ≡ true → ((a : A) → covered (ys a) zs ≡ true)
    → Lawful C (λ floor m. separated (F floor m)) n (read_separated p) (stops_by (λ items. zs))
separated-lawful ys zs f ap_art inside within =
    next-led (exactly comma ∷ []) ys (λ items. zs) f
    (λ x. made zs (λ more. x ∷ more) (repeated (exactly comma ∷ []) ys zs (next (token-lawful comma refl) (λ _. f)) (begins-then (token-begins comma)) ap_art inside within))
    (λ x. leads-then (leads-many (begins-then (token-begins comma))) (λ more. leads-nothing (x ∷ more))) ap_art (λ a items. within a)

-- X Y, where Y begins with the marks
pub next-begun : {C A B : Type 0} {F : Levels A} {S : A → Levels B} {n : ℕ} {p : Parser A} {q : A → Parser B} {st : B → Option Token → Bool} (xs : List Mark) (ys : A → List Mark)
    → Lawful C F n p (stops_by ys) → ((a : A) → Lawful C (S a) n (q a) st) → ((a : A) → Begins xs (S a)) → ((a : A) → apart xs (ys a) ≡ true)
    → Lawful C (λ floor m. F floor m >>= λ a. S a floor m) n (bind p q) st
next-begun xs ys f s begun ap_art = followed f s (λ floor m a b middle rest h stop. stops-starts ys a xs middle (ap_art a) ((begun a).holds floor m middle b rest h))

-- X and then a token, of which a tree is made
pub ended : {C A B : Type 0} {F : Levels A} {n : ℕ} {p : Parser A} {st : B → Option Token → Bool} (ys : List Mark) (k : TokenKind) (make : A → B) → same_kind k k ≡ true → apart (exactly k ∷ []) ys ≡ true
    → Lawful C F n p (stops_by (λ a. ys)) → Lawful C (λ floor m. F floor m >>= λ a. token k >> nothing (make a)) n (bind p (λ a. bind (take (a_token k)) (λ _. pure (make a)))) st
ended ys k make self ap_art f = next-begun (exactly k ∷ []) (λ a. ys) f (λ a. next (token-lawful k self) (λ _. nothing-lawful (make a))) (λ a. begins-then (token-begins k)) (λ a. ap_art)

-- X Y | X Z, as X and then Z or Y
pub factored : {C A B : Type 0} {F : Levels A} {S T : A → Levels B} {n : ℕ} {p : Parser B} {st : B → Option Token → Bool} → Lawful C (λ floor m. F floor m >>= λ a. T a floor m <|> S a floor m) n p st
    → Lawful C (λ floor m. (F floor m >>= λ a. S a floor m) <|> (F floor m >>= λ a. T a floor m)) n p st
factored {A = A} {B = B} {F = F} {S = S} {T = T} f = same-lawful to from (λ a t e. e) f
  where
    go : (floor : ℕ → ℕ) (m : ℕ) (ts : Tokens) (b : B) (rest : Tokens) (a : A) (middle : Tokens) → F floor m ts a middle → (T a floor m <|> S a floor m) middle b rest
        → ((F floor m >>= λ a. S a floor m) <|> (F floor m >>= λ a. T a floor m)) ts b rest
    go floor m ts b rest a middle f (inl h) = inr (a, middle, f, h)
    go floor m ts b rest a middle f (inr h) = inl (a, middle, f, h)

    to : (floor : ℕ → ℕ) (m : ℕ) (ts : Tokens) (b : B) (rest : Tokens) → (F floor m >>= λ a. T a floor m <|> S a floor m) ts b rest → ((F floor m >>= λ a. S a floor m) <|> (F floor m >>= λ a. T a floor m)) ts b rest
    to floor m ts b rest h = go floor m ts b rest h.0 h.1 h.2 h.3

    from : (floor : ℕ → ℕ) (m : ℕ) (ts : Tokens) (b : B) (rest : Tokens) → ((F floor m >>= λ a. S a floor m) <|> (F floor m >>= λ a. T a floor m)) ts b rest → (F floor m >>= λ a. T a floor m <|> S a floor m) ts b rest
    from floor m ts b rest (inl h) = (h.0, h.1, h.2, inr h.3)
    from floor m ts b rest (inr h) = (h.0, h.1, h.2, inl h.3)

pub swapped : {C A : Type 0} {F G : Levels A} {n : ℕ} {p : Parser A} {st : A → Option Token → Bool} → Lawful C (λ floor m. F floor m <|> G floor m) n p st → Lawful C (λ floor m. G floor m <|> F floor m) n p st
swapped {A = A} {F = F} {G = G} f = same-lawful to from (λ a t e. e) f
  where
    to : (floor : ℕ → ℕ) (m : ℕ) (ts : Tokens) (a : A) (rest : Tokens) → (F floor m <|> G floor m) ts a rest → (G floor m <|> F floor m) ts a rest
    to floor m ts a rest (inl h) = inr h
    to floor m ts a rest (inr h) = inl h

    from : (floor : ℕ → ℕ) (m : ℕ) (ts : Tokens) (a : A) (rest : Tokens) → (G floor m <|> F floor m) ts a rest → (F floor m <|> G floor m) ts a rest
    from floor m ts a rest (inl h) = inr h
    from floor m ts a rest (inr h) = inl h

-- X Y, where X may be empty
pub begins-after : {A B : Type 0} {xs : List Mark} {F : Levels A} {S : A → Levels B} → Leads xs F → ((a : A) → Begins xs (S a)) → Begins xs (λ floor m. F floor m >>= λ a. S a floor m)
begins-after {xs = xs} f s = record { holds = λ floor m ts b rest h. go ts h.1 (f.holds floor m ts h.0 h.1 h.2) ((s h.0).holds floor m h.1 b rest h.3) }
  where
    go : (ts middle : Tokens) → (starts (begins xs) ts ≡ true) ⊎ (ts ≡ middle) → starts (begins xs) middle ≡ true → starts (begins xs) ts ≡ true
    go ts middle (inl x) y = x
    go ts middle (inr e) y = rw e y
