-- The tops of a text: what their tokens spell with others in place of the formulas, and before closing braces.
use Rattle.std.proofs.Common.{◌≡◌, ◌≤◌, ◌+◌, ℕ, zero, suc, List, [], ◌∷◌, ◌++◌, map, flat_map, filter, take_while, Bool, true, false, cond, if◌then◌else◌, nat_lt, Some, None, Ok, inl, inr, refl, sym, ap, ◌∙◌, subst, append_assoc, arith}
use Rattle.std.proofs.lemmas.List.{append-nil}
use Rattle.std.proofs.lemmas.List.Sums.{take_while-cons}
use Rattle.std.specs.List.{AllByRecursion, AllZip}
use Rattle.law_lists.proofs.Each.{each_filter}
use Rattle.law_lists.proofs.Lists.{map-map, filter-map}
use Rattle.law_lists.proofs.Numbers.{nat_lt-true, nat_lt-false}
use Rattle.law_lists.proofs.Options.{some_is}
use Rattle.smv_core.specs.Values.{Name}
use Rattle.smv_core.specs.declared.token.Token.{Token}
use Rattle.smv_core.specs.declared.token.TokenKind.{TokenKind}
use Rattle.smv_core.specs.declared.tree.Word.{Word}
use Rattle.smv_core.specs.declared.tree.Item.{Item}
use Rattle.smv_core.specs.declared.tree.Top.{Top}
use Rattle.smv_core.specs.declared.tree.Top.TheVariants as top
use Rattle.smv_core.specs.Signs.{open_paren, open_brace, close_paren, close_brace}
use Rattle.smv_core.specs.Signs as w
use Rattle.smv_core.specs.Notation.{Tokens, Rule, nothing, ◌>>=◌, ◌>>◌, many, token, name, opener, separated_or_none, same_kind}
use Rattle.smv_core.specs.Grammar as g
use Rattle.smv_core.specs.Grammar.{Rules, below}
use Rattle.smv_core.specs.Spelling.{Spells}
use Rattle.smv_lex.specs.Lexing.{lexed}
use Rattle.law_lexed_parts.proofs.Parted.{Under, From, rising-split}
use Rattle.law_places.specs.Placeless.{placeless_top}
use Rattle.law_spelled_alike.specs.Local.{Any, SameName}
use Rattle.law_spelled_alike.proofs.Combining.{local-token, local-opener}
use Rattle.law_spelled_alike.proofs.Expressions.{each-map}
use Rattle.law_texts_spelled_alike.proofs.Texts as t
use Rattle.law_texts_spelled_alike.proofs.Texts.{all, free, names, SameItem, SameTop}
use Rattle.law_formulas.specs.Formulas.{Formula}
use Rattle.law_formulas.specs.Monitors as tree
use Rattle.law_formulas.specs.Monitors.{Watched, watched, with_layer, behind_items, translated_item, translated_top, watched_in}
use Rattle.law_formula_texts.specs.Spelled.{below_with, top_with}
use Rattle.law_strengthened_claims.specs.Renaming.{IsName}
use Rattle.law_translated_texts.specs.Translation.{Changed, changed_in, Edit, claim_edit, monitors_written, monitors_edit, last_brace, closing, has_monitors, module_edits, edits}
use Rattle.law_translated_texts.proofs.Spelled.{token-is, opener-is}
use Rattle.law_written_formulas.proofs.Writing.{Sp, z, sp-kinds, sp-nothing, sp-seq, sp-after, sp-none}
use Rattle.law_written_formulas.proofs.Pieces.{K}
use Rattle.law_written_monitors.specs.Monitored as monitored
use Rattle.law_written_monitors.specs.Monitored.{Monitored, in_tree, items_left}
use Rattle.law_written_monitors.specs.Laws.{IsReadAlone, IsMonitored}
use Rattle.law_written_monitors.proofs.Alone.{monitors-whole}
use Rattle.law_written_monitors.proofs.Items.{sp-together, monitors-written}
use Rattle.law_written_monitors.proofs.Left.{monitors-left}
use Rattle.law_translated_items.specs.Segments as segments
use Rattle.law_translated_items.specs.Segments.{Segment, Kept, Closed, old_of, old, inserted, kinds_of_segment, edits_of, IsGood}
use Rattle.law_translated_items.specs.Laws.{TokensAreTranslated}
use Rattle.law_translated_items.proofs.Standing.{Stands, further, rises, is-named, is-whole}
use Rattle.law_translated_items.proofs.Bound.{name-is}
use Rattle.law_translated_items.proofs.Exchanging.{Exchanges, kept, moved, into, lifted, prefix, ending, several-none, several-more}
use Rattle.law_translated_items.proofs.Trees.{watched-list}
use Rattle.law_translated_items.proofs.Items.{core-back, Several, several, IsGoodClaim, walked-bodies}

-- ---- the closing brace

-- the tokens before one, where offsets rise
taken-under : (k : ℕ) (xs ys : Tokens) → Under k xs → From k ys → take_while (λ (t : Token). nat_lt t.at k) (xs ++ ys) ≡ xs
taken-under k [] [] h r = refl
taken-under k [] (y ∷ ys) h r = take_while-cons (λ (t : Token). nat_lt t.at k) y ys ∙ ap (λ b. cond b (y ∷ take_while (λ (t : Token). nat_lt t.at k) ys) []) (nat_lt-false y.at k r.0)
taken-under k (x ∷ xs) ys h r =
    take_while-cons (λ (t : Token). nat_lt t.at k) x (xs ++ ys) ∙ ap (λ b. cond b (x ∷ take_while (λ (t : Token). nat_lt t.at k) (xs ++ ys)) []) (nat_lt-true x.at k h.0) ∙ ap (λ l. x ∷ l) (taken-under k xs ys h.1 r)

last-there : (xs : Tokens) (b : Token) (at : ℕ) → b.kind ≡ close_brace → last_brace (xs ++ (b ∷ [])) at ≡ b.at
last-there [] b at h = ap (λ k. if same_kind k close_brace then b.at else at) h
last-there (x ∷ xs) b at h = last-there xs b (if same_kind x.kind close_brace then x.at else at) h

-- one word more behind it
last-before : (xs : Tokens) (b s : Token) (at : ℕ) → b.kind ≡ close_brace → same_kind s.kind close_brace ≡ false → last_brace (xs ++ (b ∷ s ∷ [])) at ≡ b.at
last-before [] b s at h k = ap (λ (q : Bool). if q then s.at else (if same_kind b.kind close_brace then b.at else at)) k ∙ ap (λ j. if same_kind j close_brace then b.at else at) h
last-before (x ∷ xs) b s at h k = last-before xs b s (if same_kind x.kind close_brace then x.at else at) h k

module _ (text : List ℕ) (whole : Tokens) (read : lexed text ≡ Ok whole) where
  taken : (front : Tokens) (t : Token) (ts : Tokens) → whole ≡ front ++ (t ∷ ts) → take_while (λ (u : Token). nat_lt u.at t.at) whole ≡ front
  taken front t ts e =
      let r = rising-split front t ts (rises text whole read (t ∷ ts) (front, e)) in
      ap (take_while (λ (u : Token). nat_lt u.at t.at)) e ∙ taken-under t.at front (t ∷ ts) r.0 r.1

  -- the brace is the last before a token, or before a token and a word
  brace-at : (front : Tokens) (b : Token) → b.kind ≡ close_brace → (t : Token) (ts : Tokens) (at : ℕ) → whole ≡ front ++ (b ∷ t ∷ ts) → t.at ≡ at → last_brace (take_while (λ (u : Token). nat_lt u.at at) whole) 0 ≡ b.at
  brace-at front b h t ts at e same =
      ap (λ k. last_brace (take_while (λ (u : Token). nat_lt u.at k) whole) 0) (sym same)
      ∙ ap (λ l. last_brace l 0) (taken (front ++ (b ∷ [])) t ts (e ∙ sym (append_assoc front (b ∷ []) (t ∷ ts)))) ∙ last-there front b 0 h

  brace-before : (front : Tokens) (b : Token) → b.kind ≡ close_brace → (s : Token) → same_kind s.kind close_brace ≡ false → (t : Token) (ts : Tokens) (at : ℕ) → whole ≡ front ++ (b ∷ s ∷ t ∷ ts) → t.at ≡ at → last_brace (take_while (λ (u : Token). nat_lt u.at at) whole) 0 ≡ b.at
  brace-before front b h s k t ts at e same =
      ap (λ k. last_brace (take_while (λ (u : Token). nat_lt u.at k) whole) 0) (sym same)
      ∙ ap (λ l. last_brace l 0) (taken (front ++ (b ∷ s ∷ [])) t ts (e ∙ sym (append_assoc front (b ∷ s ∷ []) (t ∷ ts)))) ∙ last-before front b s 0 h k

module _ (text : List ℕ) (whole : Tokens) (read : lexed text ≡ Ok whole) (G : List (ℕ × Formula)) where
  abbrev Tops : ℕ → Rule Top
  Tops n = top_with z n (below_with G z n).0 (below_with G z n).1 G

  token-at : (kind : TokenKind) (ts : Tokens) (at : ℕ) (rest : Tokens) → token kind ts at rest → (t : Token) × (ts ≡ t ∷ rest) × (t.at ≡ at)
  token-at kind [] at rest h = absurd h
  token-at kind (t ∷ ts) at rest h = (t, ap (λ l. t ∷ l) h.1, by_test (same_kind t.kind kind) h.0)
    where
      by_test : (b : Bool) → (if b then Some t.at else None) ≡ Some at → t.at ≡ at
      by_test true e = some_is e
      by_test false e = absurd (cc (e))

  -- the closing brace of a module is the last before the next top
  closes : (n : ℕ) (front : Tokens) (b : Token) (rest : Tokens) (tops : List Top) → whole ≡ front ++ (b ∷ rest) → b.kind ≡ close_brace → many (Tops n) rest tops [] → closing whole tops ≡ b.at
  closes n front b rest [] e h p = ap (λ l. last_brace l 0) (e ∙ ap (λ l. front ++ (b ∷ l)) p) ∙ last-there front b 0 h
  closes n front b rest (a ∷ tops) e h (middle, p, q) = by_top p
    where
      by_top : Tops n rest a middle → closing whole (a ∷ tops) ≡ b.at
      by_top (inl (s, m0, p0, (x, m1, p1, (o, m2, p2, (k, m3, p3, (eq, r)))))) =
          let i = token-is w.word_scalarset rest s m0 p0 in
          let j = name-is m0 x m1 p1 in
          subst (λ c. closing whole (c ∷ tops) ≡ b.at) eq (brace-before text whole read front b h i.0 (ap (λ d. same_kind d close_brace) i.2) j.0 m1 x.at (e ∙ ap (λ l. front ++ (b ∷ l)) (i.1 ∙ ap (λ l. i.0 ∷ l) j.1)) j.2)
      by_top (inr (inl (s, m0, p0, (x, m1, p1, (o, m2, p2, (k, m3, p3, (eq, r))))))) =
          let i = token-is w.word_ordset rest s m0 p0 in
          let j = name-is m0 x m1 p1 in
          subst (λ c. closing whole (c ∷ tops) ≡ b.at) eq (brace-before text whole read front b h i.0 (ap (λ d. same_kind d close_brace) i.2) j.0 m1 x.at (e ∙ ap (λ l. front ++ (b ∷ l)) (i.1 ∙ ap (λ l. i.0 ∷ l) j.1)) j.2)
      by_top (inr (inr (inl (at, m0, p0, (x, m1, p1, (of, m2, p2, (k, m3, p3, (eq, r)))))))) =
          let i = token-at w.word_typedef rest at m0 p0 in
          subst (λ c. closing whole (c ∷ tops) ≡ b.at) eq (brace-at text whole read front b h i.0 m0 at (e ∙ ap (λ l. front ++ (b ∷ l)) i.1) i.2)
      by_top (inr (inr (inr (at, m0, p0, (x, m1, p1, (o, m2, p2, (xs, m3, p3, (c, m4, p4, (d, m5, p5, (is, m6, p6, (k, m7, p7, (eq, r)))))))))))) =
          let i = token-at w.word_module rest at m0 p0 in
          subst (λ c. closing whole (c ∷ tops) ≡ b.at) eq (brace-at text whole read front b h i.0 m0 at (e ∙ ap (λ l. front ++ (b ∷ l)) i.1) i.2)

-- ---- modules

module _ (text : List ℕ) (whole : Tokens) (read : lexed text ≡ Ok whole) (layer : Name) (layer_name : IsName layer) (G : List (ℕ × Formula)) (all_given : List Name) (all_names : AllByRecursion IsName all_given) where
  abbrev plan : List (ℕ × Watched)
  plan = watched G all_given

  abbrev claims : List Changed → List Edit
  claims cs = map (claim_edit text whole) cs

  abbrev seen : Changed → Monitored
  seen c = segments.monitored text whole layer c

  -- the edits of one top, before others
  abbrev top_edits : Top → List Top → List Edit
  top_edits (top.Module x formals items at) tops = module_edits text whole plan layer (flat_map (changed_in plan []) items) (closing whole tops)
  top_edits other tops = []

  edits-cons : (a : Top) (tops : List Top) → edits text whole plan layer (a ∷ tops) ≡ top_edits a tops ++ edits text whole plan layer tops
  edits-cons (top.SetType x ordered span at) tops = refl
  edits-cons (top.Alias x of at) tops = refl
  edits-cons (top.Module x formals items at) tops = refl

  abbrev Walked : Rule Top → Tokens → Top → List Top → Tokens → Type 0
  Walked r ts a tops rest = Exchanges text whole layer {X = Unit {0}} SameTop (λ _. r) ts (translated_top plan layer a) (top_edits a tops) rest

  -- what stands behind the items
  behind-is : (items : List Item) → let cs = flat_map (changed_in plan []) items in behind_items plan layer (flat_map (watched_in plan []) items) ≡ items_left layer (map seen (filter has_monitors cs))
  behind-is items =
      let cs = flat_map (changed_in plan []) items in
      ap (λ ws. with_layer layer ws (flat_map tree.declared ws)) (watched-list plan [] items ∙ sym (map-map in_tree seen cs)) ∙ monitors-left layer (map seen cs) ∙ ap (items_left layer) (filter-map monitored.has_monitors seen cs)

  module _ (i j : ℕ) (apart : j ≡ 7 + i) where
    abbrev inner : Rules
    inner = below z (suc i)

    abbrev other : Rules
    other = below z (suc j)

    le : suc i ≤ suc j
    le = omega (arith, apart)

    l : t.InnerRules inner other
    l = t.inner-rules (suc i) (suc j) le

    bodies : (ts : Tokens) (items : List Item) (rest : Tokens) → many (below_with G z (suc i)).0.body ts items rest → Stands text whole read ts → Several text whole read layer G all_given all_names i [] other.body ts items rest
    bodies ts items rest h s = several text whole read layer G all_given all_names i [] (below_with G z (suc i)).0.body other.body
        (λ us a more p k. walked-bodies text whole read layer G all_given all_names i i j apart (record { fits = omega arith; bound = tt; alone = tt }) us a more p k) ts items rest h s

    -- the closing brace, and what is written before it
    record Ends (cs ds : List Changed) (brace : Token) (closed : ℕ) : Type 0 where
      segment : Segment
      own : old_of segment ≡ brace ∷ []
      edited : edits_of text whole layer segment ≡ monitors_edit text whole layer closed ds
      good : IsGood text whole layer segment
      written : List TokenKind
      kinds_are : kinds_of_segment text whole layer segment ≡ written ++ (brace.kind ∷ [])
      spelled : Sp (AllZip SameItem) (many other.body) written (items_left layer (map seen ds))

    ends : (ds : List Changed) → AllByRecursion (IsGoodClaim text whole read layer G all_given all_names i) ds → (cs : List Changed) (brace : Token) (closed : ℕ) → closed ≡ brace.at → Ends cs ds brace closed
    ends [] h cs brace closed e = record { segment = Kept (brace ∷ []); own = refl; edited = refl; good = tt; written = []; kinds_are = refl; spelled = sp-none SameItem other.body }
    ends (d ∷ ds) h cs brace closed e = record {
      segment = Closed d ds brace;
      own = refl;
      edited = ap (λ k. record { from = k; to = k; written = monitors_written text whole layer d ds } ∷ []) (sym e);
      good = monitors-whole layer (map seen (d ∷ ds)) (is-whole layer layer_name) (each-seen IsReadAlone (λ c q. q.1) (d ∷ ds) h);
      written = K (inserted text whole layer d ds);
      kinds_are = refl;
      spelled = monitors-written i layer (map seen (d ∷ ds)) (is-named layer layer_name) (each-seen (IsMonitored i) (λ c q. q.0) (d ∷ ds) h) j (omega (arith, apart));
    }
      where
        each-seen : (P : Monitored → Type 0) → ((c : Changed) → IsGoodClaim text whole read layer G all_given all_names i c → P (seen c)) → (cs : List Changed) → AllByRecursion (IsGoodClaim text whole read layer G all_given all_names i) cs → AllByRecursion P (map seen cs)
        each-seen P f [] h = tt
        each-seen P f (c ∷ cs) h = (f c h.0, each-seen P f cs h.1)

    module _ (ts : Tokens) (stands : Stands text whole read ts) (at : ℕ) (m0 : Tokens) (p0 : token w.word_module ts at m0) (x : Word) (m1 : Tokens) (p1 : name m0 x m1) (o : ℕ) (m2 : Tokens) (p2 : opener z (suc i) open_paren m1 o m2) (formals : List Word) (m3 : Tokens) (p3 : separated_or_none name m2 formals m3)
        (c : ℕ) (m4 : Tokens) (p4 : token close_paren m3 c m4) (b : ℕ) (m5 : Tokens) (p5 : opener z (suc i) open_brace m4 b m5) (items : List Item) (m6 : Tokens) (p6 : many (below_with G z (suc i)).0.body m5 items m6) (e : ℕ) (rest : Tokens) (p7 : token close_brace m6 e rest) (tops : List Top) (q : many (Tops text whole read G (suc i)) rest tops []) where
      abbrev cs : List Changed
      cs = flat_map (changed_in plan []) items

      abbrev ds : List Changed
      ds = filter has_monitors cs

      abbrev brace : (t : Token) × (m6 ≡ t ∷ rest) × (t.kind ≡ close_brace)
      brace = token-is close_brace m6 e rest p7

      stands5 : Stands text whole read m5
      stands5 =
          let k0 = token-is w.word_module ts at m0 p0 in
          let k1 = name-is m0 x m1 p1 in
          let k2 = opener-is (suc i) open_paren m1 o m2 p2 in
          let k3 = t.local-formals (suc i) (suc j) le inner other l m2 formals m3 p3 in
          let k4 = token-is close_paren m3 c m4 p4 in
          let k5 = opener-is (suc i) open_brace m4 b m5 p5 in
          let s0 = further text whole read ts (k0.0 ∷ []) m0 stands k0.1 in
          let s1 = further text whole read m0 (k1.0 ∷ []) m1 s0 k1.1 in
          let s2 = further text whole read m1 (k2.0 ∷ []) m2 s1 k2.1 in
          let s3 = further text whole read m2 k3.front m3 s2 k3.split in
          let s4 = further text whole read m3 (k4.0 ∷ []) m4 s3 k4.1 in
          further text whole read m4 (k5.0 ∷ []) m5 s4 k5.1

      v : Several text whole read layer G all_given all_names i [] other.body m5 items m6
      v = bodies m5 items m6 p6 stands5

      closed_at : closing whole tops ≡ brace.0.at
      closed_at = let s = v.stands in closes text whole read G (suc i) s.0 brace.0 rest tops (s.1 ∙ ap (λ y. s.0 ++ y) brace.1) brace.2 q

      last : Ends cs ds brace.0 (closing whole tops)
      last = ends ds (each_filter (IsGoodClaim text whole read layer G all_given all_names i) has_monitors cs v.good) cs brace.0 (closing whole tops) closed_at

      abbrev olds : List Item
      olds = map (translated_item plan []) items

      abbrev news : List Item
      news = olds ++ items_left layer (map seen ds)

      abbrev new : Top
      new = top.Module x formals news at

      abbrev es : List Edit
      es = top_edits (top.Module x formals items at) tops

      new-is : new ≡ translated_top plan layer (top.Module x formals items at)
      new-is = ap (λ y. top.Module x formals (olds ++ y) at) (sym (behind-is items))

      back-is : m6 ≡ old_of last.segment ++ rest
      back-is = brace.1 ∙ ap (λ y. y ++ rest) (sym last.own)

      last-kinds : (ks : List TokenKind) → (ks ++ last.written) ++ (close_brace ∷ []) ≡ ks ++ kinds_of_segment text whole layer last.segment
      last-kinds ks = append_assoc ks last.written (close_brace ∷ []) ∙ ap (λ y. ks ++ y) (ap (λ y. last.written ++ (y ∷ [])) (sym brace.2) ∙ sym last.kinds_are)

      -- behind the opening brace
      ended : (y : Word) → SameName x y → (ys : List Word) → AllZip SameName formals ys → (place : ℕ) (ks : List TokenKind) → Sp (AllZip SameItem) (many other.body) ks olds →
          Sp SameTop (many other.body >>= λ is. token close_brace >> nothing (top.Module y ys is place)) (ks ++ kinds_of_segment text whole layer last.segment) new
      ended y p ys r place ks u = sp-kinds SameTop _ ((ks ++ last.written) ++ (close_brace ∷ [])) (ks ++ kinds_of_segment text whole layer last.segment) new (last-kinds ks)
          (sp-seq (AllZip SameItem) SameTop (many other.body) _ (ks ++ last.written) (close_brace ∷ []) news new (sp-together SameItem other.body ks last.written olds (items_left layer (map seen ds)) u last.spelled) (λ is h.
          sp-after SameTop close_brace refl (nothing (top.Module y ys is place)) [] new (sp-nothing SameTop new (top.Module y ys is place) (t.module-same (suc i) (suc j) le inner other l x y formals ys news is at place p r h))))

      walked-new : Exchanges text whole layer {X = Unit {0}} SameTop (λ _. g.top_rule z (suc j) other) ts new es rest
      walked-new =
          into text whole layer SameTop _ (λ _. g.top_rule z (suc j) other) (λ x us b more k. inr (inr (inr k))) ts new es rest
          (prefix text whole layer Any SameTop (token w.word_module) (token w.word_module) _ (local-token all w.word_module (free w.word_module)) ts at m0 p0 new es rest
          (prefix text whole layer SameName SameTop name name _ names m0 x m1 p1 new es rest
          (prefix text whole layer Any SameTop (opener z (suc i) open_paren) (opener z (suc j) open_paren) _ (local-opener all (suc i) (suc j) le open_paren (free open_paren)) m1 o m2 p2 new es rest
          (prefix text whole layer (AllZip SameName) SameTop (separated_or_none name) (separated_or_none name) _ (t.local-formals (suc i) (suc j) le inner other l) m2 formals m3 p3 new es rest
          (prefix text whole layer Any SameTop (token close_paren) (token close_paren) _ (local-token all close_paren (free close_paren)) m3 c m4 p4 new es rest
          (prefix text whole layer Any SameTop (opener z (suc i) open_brace) (opener z (suc j) open_brace) _ (local-opener all (suc i) (suc j) le open_brace (free open_brace)) m4 b m5 p5 new es rest
          (ending text whole layer (AllZip SameItem) SameTop (λ _. many other.body) (λ k. many other.body >>= λ is. token close_brace >> nothing (top.Module k.0.0.0.0.1.0 k.0.0.1.0 is k.0.0.0.0.0.1.0)) m5 olds (claims cs) m6
          (lifted text whole layer (AllZip SameItem) (many other.body) m5 olds (claims cs) m6 v.exchanged) last.segment new es rest back-is (ap (λ k. claims cs ++ k) last.edited) last.good
          (λ k ks u. ended k.0.0.0.0.1.0 k.0.0.0.0.1.1 k.0.0.1.0 k.0.0.1.1 k.0.0.0.0.0.1.0 ks u))))))))

      module-walked : Walked (g.top_rule z (suc j) other) ts (top.Module x formals items at) tops rest
      module-walked = moved text whole layer SameTop (λ _. g.top_rule z (suc j) other) ts new (translated_top plan layer (top.Module x formals items at)) es es rest new-is refl walked-new

  -- ---- all tops

  bare-walked : (n m : ℕ) (le : n ≤ m) (ts : Tokens) (a : Top) (rest : Tokens) → g.top_rule z n (below z n) ts a rest → translated_top plan layer a ≡ a → (tops : List Top) → top_edits a tops ≡ [] → Walked (g.top_rule z m (below z m)) ts a tops rest
  bare-walked n m le ts a rest h p tops q = moved text whole layer SameTop (λ _. g.top_rule z m (below z m)) ts a (translated_top plan layer a) [] (top_edits a tops) rest (sym p) (sym q)
      (kept text whole layer SameTop (g.top_rule z n (below z n)) (g.top_rule z m (below z m)) (t.local-top n m le (below z n) (below z m) (t.inner-rules n m le)) ts a rest h)

  moved-top : (r : Rule Top) (ts : Tokens) (a b : Top) (tops : List Top) (m rest : Tokens) → a ≡ b → m ≡ rest → Walked r ts a tops m → Walked r ts b tops rest
  moved-top r ts a b tops m rest p q v = subst (λ d. Walked r ts d tops rest) p (subst (λ k. Walked r ts a tops k) q v)

  top-walked : (n m : ℕ) → m ≡ 7 + n → (ts : Tokens) (a : Top) (rest : Tokens) → Tops text whole read G n ts a rest → Stands text whole read ts → (tops : List Top) → many (Tops text whole read G n) rest tops [] → Walked (g.top_rule z m (below z m)) ts a tops rest
  top-walked n m apart ts a rest (inl (s, m0, p0, (x, m1, p1, (o, m2, p2, (k, m3, p3, (eq, r)))))) stands tops q =
      moved-top (g.top_rule z m (below z m)) ts (top.SetType x false o.0 o.1) a tops m3 rest eq r (bare-walked n m (omega (arith, apart)) ts (top.SetType x false o.0 o.1) m3 (inl (s, m0, p0, (x, m1, p1, (o, m2, p2, (k, m3, p3, (refl, refl)))))) refl tops refl)
  top-walked n m apart ts a rest (inr (inl (s, m0, p0, (x, m1, p1, (o, m2, p2, (k, m3, p3, (eq, r))))))) stands tops q =
      moved-top (g.top_rule z m (below z m)) ts (top.SetType x true None o) a tops m3 rest eq r (bare-walked n m (omega (arith, apart)) ts (top.SetType x true None o) m3 (inr (inl (s, m0, p0, (x, m1, p1, (o, m2, p2, (k, m3, p3, (refl, refl))))))) refl tops refl)
  top-walked n m apart ts a rest (inr (inr (inl (at, m0, p0, (x, m1, p1, (of, m2, p2, (k, m3, p3, (eq, r)))))))) stands tops q =
      moved-top (g.top_rule z m (below z m)) ts (top.Alias x of at) a tops m3 rest eq r
      (bare-walked n m (omega (arith, apart)) ts (top.Alias x of at) m3 (inr (inr (inl (at, m0, p0, (x, m1, p1, (of, m2, core-back G n (λ o. g.type_rule z n o m1 of m2) p2, (k, m3, p3, (refl, refl)))))))) refl tops refl)
  top-walked zero m apart ts a rest (inr (inr (inr (at, m0, p0, (x, m1, p1, (o, m2, (o0, k0, k1, (u, k2, (lt, k3), k4)), more)))))) stands tops q = absurd (omega (arith, lt))
  top-walked (suc i) zero apart ts a rest (inr (inr (inr h))) stands tops q = absurd (omega (arith, apart))
  top-walked (suc i) (suc j) apart ts a rest (inr (inr (inr (at, m0, p0, (x, m1, p1, (o, m2, p2, (formals, m3, p3, (c, m4, p4, (b, m5, p5, (items, m6, p6, (e, m7, p7, (eq, r)))))))))))) stands tops q =
      moved-top (g.top_rule z (suc j) (below z (suc j))) ts (top.Module x formals items at) a tops m7 rest eq r
      (module-walked i j (omega (arith, apart)) ts stands at m0 p0 x m1 p1 o m2 p2 formals m3 p3 c m4 p4 b m5 p5 items m6 p6 e m7 p7 tops (subst (λ k. many (Tops text whole read G (suc i)) k tops []) (sym r) q))

  tops-walked : (n m : ℕ) → m ≡ 7 + n → (ts : Tokens) (xs : List Top) → many (Tops text whole read G n) ts xs [] → Stands text whole read ts → Exchanges text whole layer {X = Unit {0}} (AllZip SameTop) (λ _. many (g.top_rule z m (below z m))) ts (map (translated_top plan layer) xs) (edits text whole plan layer xs) []
  tops-walked n m apart ts [] h s = several-none text whole layer SameTop (g.top_rule z m (below z m)) ts [] h
  tops-walked n m apart ts (a ∷ xs) (middle, p, q) s =
      let v = top-walked n m apart ts a middle p s xs q in
      let o = tops-walked n m apart middle xs q (further text whole read ts (old v.segments) middle s v.split) in
      moved text whole layer (AllZip SameTop) (λ _. many (g.top_rule z m (below z m))) ts (map (translated_top plan layer) (a ∷ xs)) (map (translated_top plan layer) (a ∷ xs)) (top_edits a xs ++ edits text whole plan layer xs) (edits text whole plan layer (a ∷ xs)) [] refl (sym (edits-cons a xs))
      (several-more text whole layer SameTop (g.top_rule z m (below z m)) ts (translated_top plan layer a) (top_edits a xs) middle (map (translated_top plan layer) xs) (edits text whole plan layer xs) [] v o)

pub tokens-translated : TokensAreTranslated
unfolding Spells
tokens-translated n text ts ft names layer read h all_names layer_name =
    let v = tops-walked text ts read layer layer_name ft.formulas names all_names n (7 + n) refl ts ft.text.tops h.text ([], refl) in
    record {
      segments = v.segments;
      split = v.split ∙ append-nil (old v.segments);
      edited = v.edited;
      good = v.good;
      again = λ us k.
          let x = v.again tt us [] us k (sym (append-nil us)) in
          (record { tops = x.0 }, x.1, ap (λ l. record { tops = l }) (each-map placeless_top placeless_top (map (translated_top (watched ft.formulas names) layer) ft.text.tops) x.0 x.2));
    }
