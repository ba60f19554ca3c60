-- The items of a module: what their tokens spell with others in place of the formulas of changed claims.
use Rattle.std.proofs.Common.{◌≡◌, ◌≤◌, ◌+◌, ℕ, zero, suc, List, [], ◌∷◌, ◌++◌, map, flat_map, length, take, Some, None, Ok, inl, inr, refl, sym, ap, ◌∙◌, subst, append_assoc, arith}
use Rattle.std.proofs.lemmas.List.{append-nil, map-append, length-append, take-append-drop, append_cancel_left}
use Rattle.std.specs.List.{AllByRecursion, AllZip}
use Rattle.law_lists.proofs.Each.{each_append, each_weaker}
use Rattle.law_lists.proofs.Lists.{head_is, length_map}
use Rattle.smv_core.specs.Values.{Name}
use Rattle.smv_core.specs.declared.token.Token.{Token}
use Rattle.smv_core.specs.declared.token.TokenKind.{TokenKind}
use Rattle.smv_core.specs.declared.token.TokenKind.TheVariants.{Ident}
use Rattle.smv_core.specs.declared.tree.Word.{Word}
use Rattle.smv_core.specs.declared.tree.TypeExpr.{TypeExpr}
use Rattle.smv_core.specs.declared.tree.Expr.{Expr}
use Rattle.smv_core.specs.declared.tree.Expr.TheVariants as expr
use Rattle.smv_core.specs.declared.tree.Item.{Item}
use Rattle.smv_core.specs.declared.tree.Item.TheVariants as item
use Rattle.smv_core.specs.Signs.{open_brace, close_brace, colon, semicolon}
use Rattle.smv_core.specs.Signs as w
use Rattle.smv_core.specs.Notation.{Tokens, Rule, nothing, ◌>>=◌, ◌>>◌, many, placed, token, name, opener}
use Rattle.smv_core.specs.Grammar as g
use Rattle.smv_core.specs.Grammar.{Rules, below}
use Rattle.smv_lex.specs.Lexing.{lexed}
use Rattle.law_spelled_alike.specs.Local.{kinds_of, Taken, IsLocal, Any, SameName}
use Rattle.law_spelled_alike.proofs.Combining as combining
use Rattle.law_spelled_alike.proofs.Combining.{local-many, local-opener}
use Rattle.law_spelled_alike.proofs.Plain.{SameExpr}
use Rattle.law_spelled_alike.proofs.Expressions.{each-map}
use Rattle.law_places.specs.Placeless.{placeless_item}
use Rattle.law_texts_spelled_alike.proofs.PlacelessStatements.{placeless-item_Block}
use Rattle.law_texts_spelled_alike.proofs.Texts as t
use Rattle.law_texts_spelled_alike.proofs.Texts.{T, all, free, SameBinder, SameItem}
use Rattle.law_exchanged.proofs.Before.{spelled-before}
use Rattle.law_formulas.specs.Formulas.{Formula, now, next, when, weak, at_place, of_body}
use Rattle.law_formulas.specs.Monitors as tree
use Rattle.law_formulas.specs.Monitors.{Watched, Around, watched, translated_item}
use Rattle.law_formula_texts.specs.Spelled.{formula_rule, claim_rule, item_with, body_with, below_with, body_for}
use Rattle.law_formula_grammar.specs.Grammar.{formula_below, formula_at}
use Rattle.law_formula_grammar.proofs.Among.{core}
use Rattle.law_translated_texts.specs.Parts.{mark_of, marked, extent, part, behind_part, parts_of, phrase_of}
use Rattle.law_translated_texts.specs.Parts.Mark.{Stays}
use Rattle.law_translated_texts.specs.Phrases.{Pieces, Binders, names_in}
use Rattle.law_translated_texts.specs.Translation.{Changed, if_changed, changed_in, Edit, formula_tokens, phrase, body, claim_edit}
use Rattle.law_translated_texts.specs.Laws.{SpellsAside, AreSpelled}
use Rattle.law_translated_texts.proofs.Spelled.{token-is, opener-is, parts-spelled}
use Rattle.law_written_formulas.specs.Laws.{AreRead, IsNamed, IsWhole, WritesAside, IsBinder}
use Rattle.law_written_formulas.proofs.Writing.{Sp, z, sp-kinds, sp-nothing, sp-seq, sp-name, sp-after}
use Rattle.law_written_formulas.proofs.Pieces.{K}
use Rattle.law_written_formulas.proofs.Claims.{claims-written}
use Rattle.law_written_monitors.specs.Monitored.{PartsAre}
use Rattle.law_written_monitors.specs.Laws.{IsReadAlone, IsMonitored}
use Rattle.law_written_monitors.proofs.Alone.{claims-whole}
use Rattle.law_strengthened_claims.specs.Renaming.{IsName}
use Rattle.law_lexed_parts.specs.Parts.{begin_of}
use Rattle.law_translated_items.specs.Segments.{Segment, Claimed, old_of, old, kinds_of_segment, monitored}
use Rattle.law_translated_items.proofs.Standing.{Stands, further, found, is-named, is-whole}
use Rattle.law_translated_items.proofs.Reading.{phrase-read}
use Rattle.law_translated_items.proofs.Bound.{name-is, as_written, BoundAlone, binder-read}
use Rattle.law_translated_items.proofs.Exchanging.{sp-taken, Exchanges, kept, moved, into, lifted, prefix, suffix, several-none, several-more}
use Rattle.law_translated_items.proofs.Trees.{IsPlanned, planned, no-plan, translated-Forall, translated-Block, changed-Forall, changed-Block, kept-claim, IsKept, kept-Split, kept-Using, kept-Act, kept-Declare, kept-Instance, kept-Layer}

-- ---- the rules without those of items are the same

pub core-back : (G : List (ℕ × Formula)) (n : ℕ) (P : Rules → Type 0) → P (core (below_with G z n).0) → P (core (below z n))
core-back G zero P p = p
core-back G (suc n) P p = core-back G n (λ r. P (core (g.rules z n r))) p

formula-step : (G : List (ℕ × Formula)) (n : ℕ) → ((ts : Tokens) (f : Formula) (rest : Tokens) → (below_with G z n).1 ts f rest → formula_below z n ts f rest) →
    (ts : Tokens) (f : Formula) (rest : Tokens) → formula_rule z n (below_with G z n).0 (below_with G z n).1 ts f rest → formula_at z n ts f rest
formula-step G n deeper ts f rest (inl (at, m0, p0, (o, m1, p1, (h, m2, p2, more)))) = inl (at, m0, p0, (o, m1, p1, (h, m2, deeper m1 h m2 p2, more)))
formula-step G n deeper ts f rest (inr (inl (at, m0, p0, (c, m1, p1, (h, m2, p2, more))))) = inr (inl (at, m0, p0, (c, m1, core-back G n (λ r. r.condition m0 c m1) p1, (h, m2, deeper m1 h m2 p2, more))))
formula-step G n deeper ts f rest (inr (inr (inl (at, m0, p0, (o, m1, p1, (a, m2, p2, (c, m3, p3, (b, m4, p4, more)))))))) =
    inr (inr (inl (at, m0, p0, (o, m1, p1, (a, m2, core-back G n (λ r. r.expr m1 a m2) p2, (c, m3, p3, (b, m4, core-back G n (λ r. r.expr m3 b m4) p4, more)))))))
formula-step G n deeper ts f rest (inr (inr (inr (e, m0, p0, more)))) = inr (inr (inr (e, m0, core-back G n (λ r. g.expr_rule z n r ts e m0) p0, more)))

formula-back : (G : List (ℕ × Formula)) (n : ℕ) (ts : Tokens) (f : Formula) (rest : Tokens) → (below_with G z n).1 ts f rest → formula_below z n ts f rest
formula-back G zero ts f rest h = absurd h
formula-back G (suc n) ts f rest h = formula-step G n (formula-back G n) ts f rest h

now-expr : (n : ℕ) (ts : Tokens) (e : Expr) (rest : Tokens) → formula_at z n ts (now e) rest → g.expr_rule z n (below z n) ts e rest
now-expr n ts e rest (inl (at, m0, p0, (o, m1, p1, (h, m2, p2, (c, m3, p3, (eq, r)))))) = absurd cc
now-expr n ts e rest (inr (inl (at, m0, p0, (c, m1, p1, (h, m2, p2, (eq, r)))))) = absurd cc
now-expr n ts e rest (inr (inr (inl (at, m0, p0, (o, m1, p1, (a, m2, p2, (c, m3, p3, (b, m4, p4, (d, m5, p5, (eq, r)))))))))) = absurd cc
now-expr n ts e rest (inr (inr (inr (d, m0, p0, (eq, r))))) = subst (λ l. g.expr_rule z n (below z n) ts e l) r (subst (λ x. g.expr_rule z n (below z n) ts x m0) (ap (λ f. expr_in f) eq) p0)
  where
    expr_in : Formula → Expr
    expr_in (now x) = x
    expr_in f = d

abbrev IsLater : Formula → Type 0
IsLater (now e) = ⊥
IsLater f = Unit {0}

-- the first of some tokens is of a kind
first-kind : (t u : Token) (us vs : Tokens) (k : TokenKind) → t ∷ us ≡ u ∷ vs → u.kind ≡ k → t.kind ≡ k
first-kind t u us vs k e h = ap (λ (x : Token). x.kind) (head_is e) ∙ h

-- a formula that is no expression begins with a word that does not end a part
first-stays : (n : ℕ) (t : Token) (us : Tokens) (f : Formula) (rest : Tokens) → IsLater f → formula_at z n (t ∷ us) f rest → mark_of t.kind ≡ Stays
first-stays n t us f rest later (inl (at, m0, p0, more)) = let i = token-is w.word_X (t ∷ us) at m0 p0 in ap mark_of (first-kind t i.0 us m0 w.word_X i.1 i.2)
first-stays n t us f rest later (inr (inl (at, m0, p0, more))) = let i = opener-is n w.word_if (t ∷ us) at m0 p0 in ap mark_of (first-kind t i.0 us m0 w.word_if i.1 i.2)
first-stays n t us f rest later (inr (inr (inl (at, m0, p0, more)))) = let i = token-is w.word_W (t ∷ us) at m0 p0 in ap mark_of (first-kind t i.0 us m0 w.word_W i.1 i.2)
first-stays n t us f rest later (inr (inr (inr (e, m0, p0, (eq, r))))) = absurd (subst IsLater (sym eq) later)

-- so its part is some tokens
part-first : (t : Token) (us : Tokens) → mark_of t.kind ≡ Stays → part (t ∷ us) ≡ t ∷ part us
part-first t us e = ap (λ q. take (marked q zero (λ d. extent d us)) (t ∷ us)) e

-- a part ends before a semicolon
stops-there : (ts : Tokens) (s : Token) (rest : Tokens) → ts ≡ s ∷ rest → s.kind ≡ semicolon → extent zero ts ≡ 0
stops-there ts s rest split kind = ap (extent zero) split ∙ ap (λ j. marked (mark_of j) zero (λ d. extent d rest)) kind

-- what is spelled alone is spelled before anything
anywhere : (n : ℕ) (ks : List TokenKind) (e : Expr) → ((us : Tokens) → kinds_of us ≡ ks → SpellsAside n us e) → (j : ℕ) → n ≤ j → Sp SameExpr (g.expr_rule z j (below z j)) ks e
anywhere n ks e u j le us rest ts q eq = let x = u us q in (x.0, subst (λ s. g.expr_rule z j (below z j) s x.0 rest) (sym eq) (spelled-before n j le us x.0 x.1 rest), x.2)

-- ---- names of binders

names-around : (text : List ℕ) (whole : Tokens) (read : lexed text ≡ Ok whole) (around : Around) → names_in (map (as_written text whole read) around) ≡ tree.names_around around
names-around text whole read [] = refl
names-around text whole read (b ∷ around) = ap (λ l. b.0.name ∷ l) (names-around text whole read around)

names-named : (bs : Binders) (around : Around) → AllZip IsBinder bs around → AllByRecursion IsNamed (names_in bs)
names-named [] [] h = tt
names-named (b ∷ bs) (a ∷ around) h = (h.0.1, names-named bs around h.1)
names-named [] (a ∷ around) h = absurd h
names-named (b ∷ bs) [] h = absurd h

names-alone : (text : List ℕ) (whole : Tokens) (read : lexed text ≡ Ok whole) (bs : Binders) → AllByRecursion (BoundAlone text whole read) bs → AllByRecursion IsWhole (names_in bs)
names-alone text whole read [] h = tt
names-alone text whole read (b ∷ bs) h = (h.0.0, names-alone text whole read bs h.1)

zip-append : {A B : Type 0} (R : A → B → Type 0) (xs us : List A) (ys vs : List B) → AllZip R xs ys → AllZip R us vs → AllZip R (xs ++ us) (ys ++ vs)
zip-append R [] us [] vs p q = q
zip-append R (x ∷ xs) us (y ∷ ys) vs p q = (p.0, zip-append R xs us ys vs p.1 q)
zip-append R [] us (y ∷ ys) vs p q = absurd p
zip-append R (x ∷ xs) us [] vs p q = absurd p

-- ---- the walk

module _ (text : List ℕ) (whole : Tokens) (read : lexed text ≡ Ok whole) (layer : Name) (G : List (ℕ × Formula)) (names : List Name) (all_names : AllByRecursion IsName names) (k : ℕ) where
  abbrev pub plan : List (ℕ × Watched)
  plan = watched G names

  abbrev written : Word × TypeExpr → Name × Pieces
  written = as_written text whole read

  abbrev claims : List Changed → List Edit
  claims cs = map (claim_edit text whole) cs

  -- what is known of a changed claim
  abbrev pub IsGoodClaim : Changed → Type 0
  IsGoodClaim c = IsMonitored k (monitored text whole layer c) × IsReadAlone (monitored text whole layer c)

  -- the binders around an item within such levels
  pub record Context (n : ℕ) (around : Around) : Type 0 where
    pub fits : length around + n ≤ k
    pub bound : AllZip IsBinder (map written around) around
    pub alone : AllByRecursion (BoundAlone text whole read) (map written around)

  -- The tokens spell by the rule the translated item, with others in place of the formulas of its changed claims.
  abbrev pub Walked : Around → Rule Item → Tokens → Item → Tokens → Type 0
  Walked around r' ts a rest = Exchanges text whole layer {X = Unit {0}} SameItem (λ _. r') ts (translated_item plan around a) (claims (changed_in plan around a)) rest × AllByRecursion IsGoodClaim (changed_in plan around a)

  walked-kept : (r r' : Rule Item) → IsLocal T SameItem r r' → (around : Around) (ts : Tokens) (a : Item) (rest : Tokens) → r ts a rest → translated_item plan around a ≡ a → changed_in plan around a ≡ [] → Walked around r' ts a rest
  walked-kept r r' local around ts a rest h p q = (
    moved text whole layer SameItem (λ _. r') ts a (translated_item plan around a) [] (claims (changed_in plan around a)) rest (sym p) (ap claims (sym q)) (kept text whole layer SameItem r r' local ts a rest h),
    subst (AllByRecursion IsGoodClaim) (sym q) tt,
  )

  walked-into : (around : Around) (r s : Rule Item) → ((us : Tokens) (b : Item) (more : Tokens) → r us b more → s us b more) → (ts : Tokens) (a : Item) (rest : Tokens) → Walked around r ts a rest → Walked around s ts a rest
  walked-into around r s f ts a rest v = (into text whole layer SameItem (λ _. r) (λ _. s) (λ x. f) ts (translated_item plan around a) (claims (changed_in plan around a)) rest v.0, v.1)

  walked-same : (around : Around) (r : Rule Item) (ts : Tokens) (a b : Item) (m rest : Tokens) → a ≡ b → m ≡ rest → Walked around r ts a m → Walked around r ts b rest
  walked-same around r ts a b m rest p q v = subst (λ c. Walked around r ts c rest) p (subst (λ l. Walked around r ts a l) q v)

  -- several items
  pub record Several (around : Around) (q' : Rule Item) (ts : Tokens) (xs : List Item) (rest : Tokens) : Type 0 where
    pub exchanged : Exchanges text whole layer {X = Unit {0}} (AllZip SameItem) (λ _. many q') ts (map (translated_item plan around) xs) (claims (flat_map (changed_in plan around) xs)) rest
    pub good : AllByRecursion IsGoodClaim (flat_map (changed_in plan around) xs)
    pub stands : Stands text whole read rest

  pub several : (around : Around) (q q' : Rule Item) → ((ts : Tokens) (a : Item) (rest : Tokens) → q ts a rest → Stands text whole read ts → Walked around q' ts a rest) → (ts : Tokens) (xs : List Item) (rest : Tokens) → many q ts xs rest → Stands text whole read ts → Several around q' ts xs rest
  several around q q' one ts [] rest e s = record { exchanged = several-none text whole layer SameItem q' ts rest e; good = tt; stands = subst (Stands text whole read) e s }
  several around q q' one ts (a ∷ xs) rest (middle, p, r) s =
      let v = one ts a middle p s in
      let o = several around q q' one middle xs rest r (further text whole read ts (old v.0.segments) middle s v.0.split) in
      let both : claims (changed_in plan around a) ++ claims (flat_map (changed_in plan around) xs) ≡ claims (changed_in plan around a ++ flat_map (changed_in plan around) xs) = sym (map-append (claim_edit text whole) (changed_in plan around a) (flat_map (changed_in plan around) xs)) in
      record {
        exchanged = moved text whole layer (AllZip SameItem) (λ _. many q') ts (map (translated_item plan around) (a ∷ xs)) (map (translated_item plan around) (a ∷ xs)) _ _ rest refl both
            (several-more text whole layer SameItem q' ts (translated_item plan around a) (claims (changed_in plan around a)) middle (map (translated_item plan around) xs) (claims (flat_map (changed_in plan around) xs)) rest v.0 o.exchanged);
        good = each_append IsGoodClaim (changed_in plan around a) (flat_map (changed_in plan around) xs) v.1 o.good;
        stands = o.stands;
      }

  module _ (n m : ℕ) (apart : m ≡ 7 + n) where
    abbrev inner : Rules
    inner = below z n

    abbrev other : Rules
    other = below z m

    le : n ≤ m
    le = omega (arith, apart)

    l : t.InnerRules inner other
    l = t.inner-rules n m le

    abbrev deep : Rules
    deep = (below_with G z n).0

    -- ---- changed claims

    module _ (around : Around) (context : Context n around) (ts : Tokens) (stands : Stands text whole read ts) (x : Word) (m0 : Tokens) (p0 : name ts x m0) (vars : List Word) (m1 : Tokens) (p1 : many (g.in_brackets z n inner) m0 vars m1) (c : ℕ) (m2 : Tokens) (p2 : token colon m1 c m2)
        (s : ℕ) (m3 : Tokens) (p3 : token w.word_assert m2 s m3) (h : ℕ) (m4 : Tokens) (p4 : token w.word_G m3 h m4) (t0 : Token) (us : Tokens) (begun : m4 ≡ t0 ∷ us) (f : Formula) (later : IsLater f) (m5 : Tokens) (p5 : formula_at z n m4 f m5) (e : ℕ) (rest : Tokens) (p6 : token semicolon m5 e rest) (planned_so : IsPlanned IsName plan t0.at f) where
      abbrev own : Changed
      own = record { name = x.at; place = t0.at; around = around; watched = planned_so.entry }

      abbrev bs : Binders
      bs = map written around

      abbrev is_name : (t : Token) × (ts ≡ t ∷ m0) × (t.at ≡ x.at) × (t.kind ≡ Ident x.name)
      is_name = name-is ts x m0 p0

      abbrev is_colon : (t : Token) × (m1 ≡ t ∷ m2) × (t.kind ≡ colon)
      is_colon = token-is colon m1 c m2 p2

      abbrev is_assert : (t : Token) × (m2 ≡ t ∷ m3) × (t.kind ≡ w.word_assert)
      is_assert = token-is w.word_assert m2 s m3 p3

      abbrev is_G : (t : Token) × (m3 ≡ t ∷ m4) × (t.kind ≡ w.word_G)
      is_G = token-is w.word_G m3 h m4 p4

      abbrev is_last : (t : Token) × (m5 ≡ t ∷ rest) × (t.kind ≡ semicolon)
      is_last = token-is semicolon m5 e rest p6

      abbrev brackets : Taken T (AllZip SameName) (many (g.in_brackets z m other)) m0 vars m1
      brackets = local-many all SameName _ _ (t.local-in_brackets n m le inner other l) m0 vars m1 p1

      abbrev words : Tokens
      words = is_colon.0 ∷ is_assert.0 ∷ is_G.0 ∷ []

      abbrev head : Tokens
      head = is_name.0 ∷ (brackets.front ++ words)

      abbrev fs : Tokens
      fs = part m4

      head-split : ts ≡ head ++ m4
      head-split =
          is_name.1 ∙ ap (λ o. is_name.0 ∷ o) (brackets.split ∙ ap (λ o. brackets.front ++ o) (is_colon.1 ∙ ap (λ o. is_colon.0 ∷ o) (is_assert.1 ∙ ap (λ o. is_assert.0 ∷ o) is_G.1)))
          ∙ ap (λ o. is_name.0 ∷ o) (sym (append_assoc brackets.front words m4))

      stands4 : Stands text whole read (t0 ∷ us)
      stands4 = subst (Stands text whole read) begun (further text whole read ts head m4 stands head-split)

      place : formula_tokens text whole own ≡ m4
      place = found text whole read t0 us stands4 ∙ sym begun

      -- the tokens of the formula, and its parts
      is_parts : (m4 ≡ part m4 ++ m5) × AreSpelled n f (parts_of f m4)
      is_parts = parts-spelled n m4 f m5 p5 (stops-there m5 is_last.0 rest is_last.1 is_last.2)

      same_phrase : phrase_of text (parts_of f m4) ≡ phrase text whole own
      same_phrase = ap (λ q. phrase_of text (parts_of q m4)) (sym planned_so.formula) ∙ ap (λ o. phrase_of text (parts_of planned_so.entry.formula o)) (sym place)

      parts : AreRead n f (phrase_of text (parts_of f m4)) × PartsAre IsWhole (phrase_of text (parts_of f m4))
      parts = phrase-read text whole read n f m4 (subst (Stands text whole read) (sym begun) stands4) is_parts.1

      own_read : AreRead n planned_so.entry.formula (phrase text whole own)
      own_read = subst (λ q. AreRead n q (phrase text whole own)) (sym planned_so.formula) (subst (AreRead n f) same_phrase parts.0)

      own_alone : PartsAre IsWhole (phrase text whole own)
      own_alone = subst (PartsAre IsWhole) same_phrase parts.1

      monitors_named : AllByRecursion IsNamed planned_so.entry.monitors
      monitors_named = each_weaker IsName IsNamed is-named planned_so.entry.monitors planned_so.monitors

      monitors_whole : AllByRecursion IsWhole planned_so.entry.monitors
      monitors_whole = each_weaker IsName IsWhole is-whole planned_so.entry.monitors planned_so.monitors

      good : IsGoodClaim own
      good = (
        record { levels = n; fits = let long = length_map written around in let low = context.fits in omega (arith, long, low); binders = context.bound; monitors = monitors_named; parts = own_read },
        record { binders = context.alone; monitors = monitors_whole; parts = own_alone },
      )

      body_whole : AllByRecursion IsWhole (body text whole own)
      body_whole = claims-whole (names_in bs) planned_so.entry.monitors (phrase text whole own) (names-alone text whole read bs context.alone) monitors_whole own_alone

      abbrev new_body : Expr
      new_body = tree.claim_of (tree.names_around around) planned_so.entry.monitors tree.outset planned_so.entry.formula

      body_written : Sp SameExpr (g.expr_rule z m other) (K (body text whole own)) new_body
      body_written = anywhere (4 + n) (K (body text whole own)) new_body
          (subst (λ vs. WritesAside (4 + n) (body text whole own) (tree.claim_of vs planned_so.entry.monitors tree.outset planned_so.entry.formula)) (names-around text whole read around)
          (claims-written n (names_in bs) planned_so.entry.monitors planned_so.entry.formula (phrase text whole own) (names-named bs around context.bound) monitors_named own_read))
          m (omega (arith, apart))

      abbrev new_claim : Item
      new_claim = item.Claim x vars new_body x.at

      abbrev segment : Segment
      segment = Claimed own head fs is_last.0

      abbrev tail_kinds : List TokenKind
      tail_kinds = K (body text whole own) ++ (semicolon ∷ [])

      head-kinds : kinds_of_segment text whole layer segment ≡ Ident x.name ∷ (kinds_of brackets.front ++ (colon ∷ w.word_assert ∷ w.word_G ∷ tail_kinds))
      head-kinds =
          let bk = kinds_of brackets.front in
          let b = K (body text whole own) in
          let own_tail = b ++ (is_last.0.kind ∷ []) in
          ap (λ o. (is_name.0.kind ∷ o) ++ own_tail) (combining.kinds-append brackets.front words)
          ∙ ap (λ o. is_name.0.kind ∷ o) (append_assoc bk (kinds_of words) own_tail)
          ∙ ap (λ o. o ∷ (bk ++ (is_colon.0.kind ∷ is_assert.0.kind ∷ is_G.0.kind ∷ own_tail))) is_name.3
          ∙ ap (λ o. Ident x.name ∷ (bk ++ (o ∷ is_assert.0.kind ∷ is_G.0.kind ∷ own_tail))) is_colon.2
          ∙ ap (λ o. Ident x.name ∷ (bk ++ (colon ∷ o ∷ is_G.0.kind ∷ own_tail))) is_assert.2
          ∙ ap (λ o. Ident x.name ∷ (bk ++ (colon ∷ w.word_assert ∷ o ∷ own_tail))) is_G.2
          ∙ ap (λ o. Ident x.name ∷ (bk ++ (colon ∷ w.word_assert ∷ w.word_G ∷ (b ++ (o ∷ []))))) is_last.2

      claim_written : Sp SameItem (g.claim z m other) (kinds_of_segment text whole layer segment) new_claim
      claim_written = sp-kinds SameItem (g.claim z m other) _ (kinds_of_segment text whole layer segment) new_claim (sym head-kinds)
          (sp-seq SameName SameItem name _ (Ident x.name ∷ []) (kinds_of brackets.front ++ (colon ∷ w.word_assert ∷ w.word_G ∷ tail_kinds)) x new_claim (sp-name x) (λ y p.
          sp-seq (AllZip SameName) SameItem (many (g.in_brackets z m other)) _ (kinds_of brackets.front) (colon ∷ w.word_assert ∷ w.word_G ∷ tail_kinds) vars new_claim (sp-taken (AllZip SameName) (many (g.in_brackets z m other)) m0 vars m1 brackets) (λ ys q.
          sp-after SameItem colon refl _ (w.word_assert ∷ w.word_G ∷ tail_kinds) new_claim (sp-after SameItem w.word_assert refl _ (w.word_G ∷ tail_kinds) new_claim (sp-after SameItem w.word_G refl _ tail_kinds new_claim
          (sp-seq SameExpr SameItem (g.expr_rule z m other) _ (K (body text whole own)) (semicolon ∷ []) new_body new_claim body_written (λ d r. sp-after SameItem semicolon refl (nothing (item.Claim y ys d y.at)) [] new_claim
          (sp-nothing SameItem new_claim (item.Claim y ys d y.at) (t.claim-same n m le inner other l x y vars ys new_body d p q r)))))))))

      fs-first : fs ≡ t0 ∷ part us
      fs-first = ap part begun ∙ part-first t0 us (first-stays n t0 us f m5 later (subst (λ o. formula_at z n o f m5) begun p5))

      behind_is : behind_part m4 ≡ m5
      behind_is = append_cancel_left (part m4) (behind_part m4) m5 (take-append-drop (extent zero m4) m4 ∙ is_parts.0)

      split : ts ≡ old (segment ∷ []) ++ rest
      split =
          head-split ∙ ap (λ o. head ++ o) (is_parts.0 ∙ ap (λ o. fs ++ o) is_last.1)
          ∙ ap (λ o. head ++ o) (sym (append_assoc fs (is_last.0 ∷ []) rest)) ∙ sym (append_assoc head (fs ++ (is_last.0 ∷ [])) rest)
          ∙ ap (λ o. o ++ rest) (sym (append-nil (old_of segment)))

      changed_so : (changed_in plan around (item.Claim x vars (expr.Number 1 t0.at) x.at) ≡ own ∷ []) × (translated_item plan around (item.Claim x vars (expr.Number 1 t0.at) x.at) ≡ new_claim)
      changed_so = (ap (if_changed x around t0.at) planned_so.there, ap (λ o. item.Claim x vars (tree.or_claim around (expr.Number 1 t0.at) o) x.at) planned_so.there)

      walked-later : Walked around (g.claim z m other) ts (item.Claim x vars (expr.Number 1 t0.at) x.at) rest
      walked-later = (
        record {
          segments = segment ∷ [];
          split = split;
          edited = ap claims (sym changed_so.0);
          good = (
            (
              record {
                name = is_name.0;
                more = brackets.front ++ words;
                head_is = refl;
                name_at = is_name.2;
                first = t0;
                rest = part us;
                formula_is = fs-first;
                formula_at = refl;
                is_part = ap part place;
                is_behind = ap (λ o. begin_of (behind_part o)) place ∙ ap begin_of (behind_is ∙ is_last.1);
              },
              body_whole,
            ),
            tt,
          );
          again = λ _. subst (λ a. Sp SameItem (g.claim z m other) (kinds_of_segment text whole layer segment ++ []) a) (sym changed_so.1)
              (sp-kinds SameItem (g.claim z m other) (kinds_of_segment text whole layer segment) (kinds_of_segment text whole layer segment ++ []) new_claim (sym (append-nil (kinds_of_segment text whole layer segment))) claim_written);
        },
        subst (AllByRecursion IsGoodClaim) (sym changed_so.0) (good, tt),
      )

    -- ---- claims

    walked-claim : (around : Around) → Context n around → (ts : Tokens) (a : Item) (rest : Tokens) → claim_rule z n deep (below_with G z n).1 G ts a rest → Stands text whole read ts → Walked around (g.item_rule z m other) ts a rest
    walked-claim around context ts a rest (x, m0, p0, (vars, m1, q1, (c, m2, p2, (s, m3, p3, (h, m4, p4, (f, m5, p5, (b, m6, p6, (e, m7, p7, (eq, r))))))))) stands =
        walked-same around (g.item_rule z m other) ts (item.Claim x vars b x.at) a m7 rest eq r (by_formula f.0 f.1 m4 refl p5 p6)
      where
        p1 : many (g.in_brackets z n inner) m0 vars m1
        p1 = core-back G n (λ r. many (g.in_brackets z n r) m0 vars m1) q1

        -- of an expression
        plain : (d : Expr) → g.expr_rule z n inner m4 d m5 → of_body G d ≡ None → d ≡ b → m5 ≡ m6 → Walked around (g.item_rule z m other) ts (item.Claim x vars b x.at) m7
        plain d u none same there = subst (λ y. Walked around (g.item_rule z m other) ts (item.Claim x vars y x.at) m7) same
            (let k = kept-claim plan around x vars d x.at (no-plan G names d none) in
            walked-kept (g.item_rule z n inner) (g.item_rule z m other) (t.local-item n m le inner other l) around ts (item.Claim x vars d x.at) m7
            (inr (inr (inl (x, m0, p0, (vars, m1, p1, (c, m2, p2, (s, m3, p3, (h, m4, p4, (d, m5, u, (e, m7, subst (λ o. token semicolon o e m7) (sym there) p7, (refl, refl))))))))))) k.0 k.1)

        -- of any other formula
        other_claim : (f : Formula) → IsLater f → (t0 : Token) (us : Tokens) → m4 ≡ t0 ∷ us → formula_at z n m4 f m5 → at_place G t0.at ≡ Some f → expr.Number 1 t0.at ≡ b → m5 ≡ m6 → Walked around (g.item_rule z m other) ts (item.Claim x vars b x.at) m7
        other_claim f later t0 us begun u there same ends = subst (λ y. Walked around (g.item_rule z m other) ts (item.Claim x vars y x.at) m7) same
            (walked-into around (g.claim z m other) (g.item_rule z m other) (λ us b more k. inr (inr (inl k))) ts (item.Claim x vars (expr.Number 1 t0.at) x.at) m7
            (walked-later around context ts stands x m0 p0 vars m1 p1 c m2 p2 s m3 p3 h m4 p4 t0 us begun f later m5 u e m7 (subst (λ o. token semicolon o e m7) (sym ends) p7) (planned IsName G names all_names t0.at f there)))

        by_formula : (f : Formula) (at : ℕ) (os : Tokens) → os ≡ m4 → placed (formula_rule z n deep (below_with G z n).1) os (f, at) m5 → body_for G f at m5 b m6 → Walked around (g.item_rule z m other) ts (item.Claim x vars b x.at) m7
        by_formula f at [] same p q = absurd p
        by_formula (now d) at (t0 ∷ us) same p q = plain d (subst (λ o. g.expr_rule z n inner o d m5) same (now-expr n (t0 ∷ us) d m5 (formula-step G n (formula-back G n) (t0 ∷ us) (now d) m5 p.0))) q.0 q.1.0 q.1.1
        by_formula (next i f) at (t0 ∷ us) same p q =
            other_claim (next i f) tt t0 us (sym same) (subst (λ o. formula_at z n o (next i f) m5) same (formula-step G n (formula-back G n) (t0 ∷ us) (next i f) m5 p.0)) (ap (at_place G) (sym p.1) ∙ q.0) (ap (expr.Number 1) (sym p.1) ∙ q.1.0) q.1.1
        by_formula (when i f) at (t0 ∷ us) same p q =
            other_claim (when i f) tt t0 us (sym same) (subst (λ o. formula_at z n o (when i f) m5) same (formula-step G n (formula-back G n) (t0 ∷ us) (when i f) m5 p.0)) (ap (at_place G) (sym p.1) ∙ q.0) (ap (expr.Number 1) (sym p.1) ∙ q.1.0) q.1.1
        by_formula (weak i j) at (t0 ∷ us) same p q =
            other_claim (weak i j) tt t0 us (sym same) (subst (λ o. formula_at z n o (weak i j) m5) same (formula-step G n (formula-back G n) (t0 ∷ us) (weak i j) m5 p.0)) (ap (at_place G) (sym p.1) ∙ q.0) (ap (expr.Number 1) (sym p.1) ∙ q.1.0) q.1.1

    -- ---- items

    abbrev kept_item : (around : Around) (ts : Tokens) (a : Item) (rest : Tokens) → g.item_rule z n inner ts a rest → IsKept plan a → Walked around (g.item_rule z m other) ts a rest
    kept_item around ts a rest h k = walked-kept (g.item_rule z n inner) (g.item_rule z m other) (t.local-item n m le inner other l) around ts a rest h (k.translated around) (k.changed around)

    abbrev kept_body : (around : Around) (ts : Tokens) (a : Item) (rest : Tokens) → g.body_rule z n inner ts a rest → IsKept plan a → Walked around (g.body_rule z m other) ts a rest
    kept_body around ts a rest h k = walked-kept (g.body_rule z n inner) (g.body_rule z m other) (t.local-body n m le inner other l) around ts a rest h (k.translated around) (k.changed around)

    -- what is inside an item
    abbrev Deeper : Type 0
    Deeper = (around : Around) (ts : Tokens) (a : Item) (rest : Tokens) → deep.item ts a rest → Stands text whole read ts → ((i : ℕ) → n ≡ suc i → Context i around) → Walked around other.item ts a rest

    -- one binder more
    inside : (around : Around) → Context n around → (i : ℕ) → n ≡ suc i → (b : Word × TypeExpr) → IsBinder (written b) b → BoundAlone text whole read (written b) → Context i (around ++ b ∷ [])
    inside around context i e b bound alone = record {
      fits = let long = length-append around (b ∷ []) in let low = context.fits in omega (arith, long, low, e);
      bound = subst (λ bs. AllZip IsBinder bs (around ++ b ∷ [])) (sym (map-append written around (b ∷ []))) (zip-append IsBinder (map written around) (written b ∷ []) around (b ∷ []) context.bound (bound, tt));
      alone = subst (AllByRecursion (BoundAlone text whole read)) (sym (map-append written around (b ∷ []))) (each_append (BoundAlone text whole read) (map written around) (written b ∷ []) context.alone (alone, tt));
    }

    module _ (deeper : Deeper) where
      -- the rules inside have binders
      bound-so : (ts : Tokens) (b : Word × TypeExpr) (rest : Tokens) → inner.binder ts b rest → Stands text whole read ts → IsBinder (written b) b × BoundAlone text whole read (written b)
      bound-so = by_level n
        where
          by_level : (i : ℕ) (ts : Tokens) (b : Word × TypeExpr) (rest : Tokens) → (below z i).binder ts b rest → Stands text whole read ts → IsBinder (written b) b × BoundAlone text whole read (written b)
          by_level zero ts b rest h s = absurd h
          by_level (suc i) ts b rest h s = binder-read text whole read i (below z i) ts b rest h s

      walked-forall : (around : Around) → Context n around → (ts : Tokens) (a : Item) (rest : Tokens) → (opener z n w.word_forall >>= λ at. deep.binder >>= λ b. deep.item >>= λ body. nothing (item.Forall b.0 b.1 body at)) ts a rest → Stands text whole read ts →
          Walked around (opener z m w.word_forall >>= λ at. other.binder >>= λ b. other.item >>= λ body. nothing (item.Forall b.0 b.1 body at)) ts a rest
      walked-forall around context ts a rest (at, m0, p0, (b, m1, q1, (x, m2, p2, (eq, r)))) stands =
          walked-same around _ ts (item.Forall b.0 b.1 x at) a m2 rest eq r (
            moved text whole layer SameItem (λ _. opener z m w.word_forall >>= λ at. other.binder >>= λ b. other.item >>= λ body. nothing (item.Forall b.0 b.1 body at)) ts new (translated_item plan around (item.Forall b.0 b.1 x at)) (claims (changed_in plan deeper_around x)) (claims (changed_in plan around (item.Forall b.0 b.1 x at))) m2
                (sym (translated-Forall plan around b.0 b.1 x at)) (ap claims (sym (changed-Forall plan around b.0 b.1 x at)))
                (prefix text whole layer Any SameItem (opener z n w.word_forall) (opener z m w.word_forall) _ (local-opener all n m le w.word_forall (free w.word_forall)) ts at m0 p0 new es m2
                (prefix text whole layer SameBinder SameItem inner.binder other.binder _ l.binder m0 b m1 p1 new es m2
                (suffix text whole layer SameItem SameItem (λ _. other.item) (λ k body. nothing (item.Forall k.1.0.0 k.1.0.1 body k.0.1.0)) m1 (translated_item plan deeper_around x) es m2 (lifted text whole layer SameItem other.item m1 (translated_item plan deeper_around x) es m2 v.0) [] new m2 refl
                (λ k d q. sp-nothing SameItem new (item.Forall k.1.0.0 k.1.0.1 d k.0.1.0) (t.item_forall-same n m le inner other l b k.1.0 (translated_item plan deeper_around x) d at k.0.1.0 k.1.1 q))))),
            subst (AllByRecursion IsGoodClaim) (sym (changed-Forall plan around b.0 b.1 x at)) v.1,
          )
        where
          p1 : inner.binder m0 b m1
          p1 = core-back G n (λ r. r.binder m0 b m1) q1

          deeper_around : Around
          deeper_around = around ++ (b.0, b.1) ∷ []

          new : Item
          new = item.Forall b.0 b.1 (translated_item plan deeper_around x) at

          es : List Edit
          es = claims (changed_in plan deeper_around x)

          stands0 : Stands text whole read m0
          stands0 = let i = opener-is n w.word_forall ts at m0 p0 in further text whole read ts (i.0 ∷ []) m0 stands i.1

          stands1 : Stands text whole read m1
          stands1 = let u = l.binder m0 b m1 p1 in further text whole read m0 u.front m1 stands0 u.split

          v : Walked deeper_around other.item m1 x m2
          v = deeper deeper_around m1 x m2 p2 stands1 (λ i e. let q = bound-so m0 b m1 p1 stands0 in inside around context i e b q.0 q.1)

      walked-block : (around : Around) → Context n around → (ts : Tokens) (a : Item) (rest : Tokens) → (opener z n open_brace >> many deep.item >>= λ items. token close_brace >> nothing (item.Block items)) ts a rest → Stands text whole read ts →
          Walked around (opener z m open_brace >> many other.item >>= λ items. token close_brace >> nothing (item.Block items)) ts a rest
      walked-block around context ts a rest (at, m0, p0, (xs, m1, p1, (c, m2, p2, (eq, r)))) stands =
          walked-same around _ ts (item.Block xs) a m2 rest eq r (
            moved text whole layer SameItem (λ _. opener z m open_brace >> many other.item >>= λ items. token close_brace >> nothing (item.Block items)) ts (item.Block ys) (translated_item plan around (item.Block xs)) (claims (flat_map (changed_in plan around) xs)) (claims (changed_in plan around (item.Block xs))) m2
                (sym (translated-Block plan around xs)) (ap claims (sym (changed-Block plan around xs)))
                (prefix text whole layer Any SameItem (opener z n open_brace) (opener z m open_brace) _ (local-opener all n m le open_brace (free open_brace)) ts at m0 p0 (item.Block ys) es m2
                (suffix text whole layer (AllZip SameItem) SameItem (λ _. many other.item) (λ k items. token close_brace >> nothing (item.Block items)) m0 ys es m1 (lifted text whole layer (AllZip SameItem) (many other.item) m0 ys es m1 v.exchanged) (brace.0 ∷ []) (item.Block ys) m2 brace.1
                (λ k ds q. sp-kinds SameItem _ (close_brace ∷ []) (brace.0.kind ∷ []) (item.Block ys) (ap (λ j. j ∷ []) (sym brace.2)) (sp-after SameItem close_brace refl (nothing (item.Block ds)) [] (item.Block ys) (sp-nothing SameItem (item.Block ys) (item.Block ds)
                (placeless-item_Block ys ∙ ap item.Block (each-map placeless_item placeless_item ys ds q) ∙ sym (placeless-item_Block ds))))))),
            subst (AllByRecursion IsGoodClaim) (sym (changed-Block plan around xs)) v.good,
          )
        where
          ys : List Item
          ys = map (translated_item plan around) xs

          es : List Edit
          es = claims (flat_map (changed_in plan around) xs)

          brace : (t : Token) × (m1 ≡ t ∷ m2) × (t.kind ≡ close_brace)
          brace = token-is close_brace m1 c m2 p2

          stands0 : Stands text whole read m0
          stands0 = let i = opener-is n open_brace ts at m0 p0 in further text whole read ts (i.0 ∷ []) m0 stands i.1

          less : (i : ℕ) → n ≡ suc i → Context i around
          less i e = record { fits = let low = context.fits in omega (arith, low, e); bound = context.bound; alone = context.alone }

          v : Several around other.item m0 xs m1
          v = several around deep.item other.item (λ ts a rest h s. deeper around ts a rest h s less) m0 xs m1 p1 stands0

      walked-item : (around : Around) → Context n around → (ts : Tokens) (a : Item) (rest : Tokens) → item_with z n deep (below_with G z n).1 G ts a rest → Stands text whole read ts → Walked around (g.item_rule z m other) ts a rest
      walked-item around context ts a rest (inl h) s = walked-into around _ (g.item_rule z m other) (λ us b more k. inl k) ts a rest (walked-forall around context ts a rest h s)
      walked-item around context ts a rest (inr (inl h)) s = walked-into around _ (g.item_rule z m other) (λ us b more k. inr (inl k)) ts a rest (walked-block around context ts a rest h s)
      walked-item around context ts a rest (inr (inr (inl h))) s = walked-claim around context ts a rest h s
      walked-item around context ts a rest (inr (inr (inr (inl h)))) s = kept_item around ts a rest (inr (inr (inr (inl own)))) (by_end own)
        where
          own : g.split z n inner ts a rest
          own = core-back G n (λ r. g.split z n r ts a rest) h

          by_end : g.split z n inner ts a rest → IsKept plan a
          by_end (at, m0, p0, (x, m1, p1, (xs, m2, p2, (c, m3, p3, (s, m4, p4, (d, m5, p5, (ps, m6, p6, (k, m7, p7, (eq, r))))))))) = subst (IsKept plan) eq (kept-Split plan x xs s ps at)
      walked-item around context ts a rest (inr (inr (inr (inr (inl h))))) s = kept_item around ts a rest (inr (inr (inr (inr (inl own))))) (by_end own)
        where
          own : g.using z n inner ts a rest
          own = core-back G n (λ r. g.using z n r ts a rest) h

          by_end : g.using z n inner ts a rest → IsKept plan a
          by_end (at, m0, p0, (us, m1, p1, (c, m2, p2, (rs, m3, p3, (k, m4, p4, (eq, r)))))) = subst (IsKept plan) eq (kept-Using plan us rs at)
      walked-item around context ts a rest (inr (inr (inr (inr (inr (x, m0, p0, (eq, r))))))) s =
          kept_item around ts a rest (inr (inr (inr (inr (inr (x, m0, core-back G n (λ o. g.simple z n o ts x m0) p0, (eq, r))))))) (subst (IsKept plan) eq (kept-Act plan x))

      walked-body : Context n [] → (ts : Tokens) (a : Item) (rest : Tokens) → body_with z n deep (below_with G z n).1 G ts a rest → Stands text whole read ts → Walked [] (g.body_rule z m other) ts a rest
      walked-body context ts a rest (inl h) s = kept_body [] ts a rest (inl own) (by_end own)
        where
          own : g.declaration z n inner ts a rest
          own = core-back G n (λ r. g.declaration z n r ts a rest) h

          by_end : g.declaration z n inner ts a rest → IsKept plan a
          by_end (inl (k, m0, p0, (xs, m1, p1, (c, m2, p2, (of, m3, p3, (s, m4, p4, (eq, r))))))) = subst (IsKept plan) eq (kept-Declare plan k.0 xs of k.1)
          by_end (inr (xs, m1, p1, (c, m2, p2, (of, m3, p3, (s, m4, p4, (eq, r)))))) = subst (IsKept plan) eq (kept-Declare plan _ xs of _)
      walked-body context ts a rest (inr (inl h)) s = kept_body [] ts a rest (inr (inl own)) (by_end own)
        where
          own : g.instance z n inner ts a rest
          own = core-back G n (λ r. g.instance z n r ts a rest) h

          by_end : g.instance z n inner ts a rest → IsKept plan a
          by_end (xs, m0, p0, (c, m1, p1, (x, m2, p2, (o, m3, p3, (es, m4, p4, (k, m5, p5, (s, m6, p6, (eq, r)))))))) = subst (IsKept plan) eq (kept-Instance plan xs x es _)
      walked-body context ts a rest (inr (inr (inl h))) s = kept_body [] ts a rest (inr (inr (inl own))) (by_end own)
        where
          own : g.layer z n inner ts a rest
          own = core-back G n (λ r. g.layer z n r ts a rest) h

          by_end : g.layer z n inner ts a rest → IsKept plan a
          by_end (at, m0, p0, (x, m1, p1, (c, m2, p2, (o, m3, p3, (xs, m4, p4, (k, m5, p5, (eq, r))))))) = subst (IsKept plan) eq (kept-Layer plan x xs at)
      walked-body context ts a rest (inr (inr (inr h))) s = walked-into [] (g.item_rule z m other) (g.body_rule z m other) (λ us b more k. inr (inr (inr k))) ts a rest (walked-item [] context ts a rest h s)

  deeper-items : (n m : ℕ) (apart : m ≡ 7 + n) → Deeper n m apart
  deeper-items zero m apart = λ around ts a rest h s context. absurd h
  deeper-items (suc n) zero apart = absurd (omega (arith, apart))
  deeper-items (suc n) (suc m) apart = let low : m ≡ 7 + n = omega (arith, apart) in λ around ts a rest h s context. walked-item n m low (deeper-items n m low) around (context n refl) ts a rest h s

  pub walked-bodies : (n m : ℕ) → m ≡ 7 + n → Context n [] → (ts : Tokens) (a : Item) (rest : Tokens) → body_with z n (below_with G z n).0 (below_with G z n).1 G ts a rest → Stands text whole read ts → Walked [] (g.body_rule z m (below z m)) ts a rest
  walked-bodies n m apart context ts a rest h s = walked-body n m apart (deeper-items n m apart) context ts a rest h s
