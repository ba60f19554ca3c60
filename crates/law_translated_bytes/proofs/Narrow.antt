-- The bytes of the translated text are those of the text with other bytes in place of the formulas, and before the closing braces.
use Rattle.std.proofs.Common.{◌≡◌, ◌≤◌, ◌+◌, ◌-◌, ℕ, zero, suc, List, [], ◌∷◌, ◌++◌, map, flat_map, length, take, drop, codes, Ok, refl, sym, ap, ◌∙◌, subst, append_assoc, arith}
use Rattle.std.proofs.lemmas.List.{map-append, take-append-drop, drop-drop}
use Rattle.std.proofs.lemmas.List.Concat.{flat_map-cons, flat_map-append}
use Rattle.std.specs.List.{AllByRecursion}
use Rattle.law_lists.proofs.Each.{each_weaker}
use Rattle.law_lists.proofs.Lists.{head_is}
use Rattle.smv_core.specs.Values.{Name}
use Rattle.smv_core.specs.declared.token.Token.{Token}
use Rattle.smv_core.specs.Notation.{Tokens}
use Rattle.smv_lex.specs.Lexing.{lexed}
use Rattle.law_lexed_parts.specs.Parts.{moved_tokens, begin_of, end_of_all}
use Rattle.law_lexed_parts.proofs.Parted.{From, Rising, parted}
use Rattle.law_strengthened_claims.specs.Renaming.{between}
use Rattle.law_spelled_alike.specs.Local.{kinds_of}
use Rattle.law_translated_texts.specs.Parts.{behind_part}
use Rattle.law_translated_texts.specs.Phrases.{Pieces}
use Rattle.law_translated_texts.specs.Translation.{Changed, Placed, placed_at, placed_from, spaced, Edit, edited, formula_tokens, declarations, definitions, body, claim_edit, monitors_written}
use Rattle.law_written_formulas.specs.Kinds.{kinds_of_pieces}
use Rattle.law_written_formulas.specs.Laws.{IsWhole}
use Rattle.law_written_monitors.specs.Monitored.{declarations_of, definitions_of}
use Rattle.law_translated_items.specs.Segments.{Segment, Kept, Claimed, Closed, old, monitored, inserted, kinds, all_edits, IsGood}
use Rattle.law_translated_items.proofs.Standing.{Stands, further, rises}
use Rattle.law_translated_bytes.proofs.Cuts.{Cut, Same, Other, Before, tokens_of, tokens, new_kinds, IsFine, blanked, made}

-- ---- lists

abbrev pub plain : Placed → List ℕ
plain bytes = map (λ b. b.0) bytes

plain-from : (at : ℕ) (bytes : List ℕ) → plain (placed_from at bytes) ≡ bytes
plain-from at [] = refl
plain-from at (b ∷ bytes) = ap (λ l. b ∷ l) (plain-from (suc at) bytes)

plain-at : (at : ℕ) (bytes : List ℕ) → plain (placed_at at bytes) ≡ bytes
plain-at at [] = refl
plain-at at (b ∷ bytes) = ap (λ l. b ∷ l) (plain-at at bytes)

plain-append : (xs ys : Placed) → plain (xs ++ ys) ≡ plain xs ++ plain ys
plain-append xs ys = map-append (λ b. b.0) xs ys

spaced-append : (ps qs : Pieces) → spaced (ps ++ qs) ≡ spaced ps ++ spaced qs
spaced-append ps qs = flat_map-append (λ (p : List ℕ). codes " " ++ p) ps qs

flat_map-map : {X Y Z : Type 0} (f : Y → List Z) (make : X → Y) (xs : List X) → flat_map f (map make xs) ≡ flat_map (λ x. f (make x)) xs
flat_map-map f make [] = refl
flat_map-map f make (x ∷ xs) = flat_map-cons f (make x) (map make xs) ∙ ap (λ l. f (make x) ++ l) (flat_map-map f make xs) ∙ sym (flat_map-cons (λ x. f (make x)) x xs)

each-placed : (f : Changed → Pieces) (cs : List Changed) → plain (flat_map (λ d. placed_at d.name (spaced (f d))) cs) ≡ spaced (flat_map f cs)
each-placed f [] = refl
each-placed f (c ∷ cs) =
    ap plain (flat_map-cons (λ (d : Changed). placed_at d.name (spaced (f d))) c cs)
    ∙ plain-append (placed_at c.name (spaced (f c))) (flat_map (λ d. placed_at d.name (spaced (f d))) cs)
    ∙ ap (λ l. l ++ plain (flat_map (λ d. placed_at d.name (spaced (f d))) cs)) (plain-at c.name (spaced (f c)))
    ∙ ap (λ l. spaced (f c) ++ l) (each-placed f cs)
    ∙ sym (spaced-append (f c) (flat_map f cs)) ∙ ap spaced (sym (flat_map-cons f c cs))

four : (a b c d e : List ℕ) → a ++ (b ++ (c ++ (d ++ e))) ≡ (a ++ (b ++ (c ++ d))) ++ e
four a b c d e =
    ap (λ l. a ++ (b ++ l)) (sym (append_assoc c d e)) ∙ ap (λ l. a ++ l) (sym (append_assoc b (c ++ d) e)) ∙ sym (append_assoc a (b ++ (c ++ d)) e)

around : (x y s b w n : List ℕ) → x ++ ((y ++ (s ++ (b ++ w))) ++ n) ≡ (x ++ y) ++ (s ++ (b ++ (w ++ n)))
around x y s b w n = ap (λ l. x ++ l) (sym (four y s b w n)) ∙ sym (append_assoc x y (s ++ (b ++ (w ++ n))))

-- ---- offsets

take-none : (n : ℕ) → [] ≡ take {A = ℕ} n []
take-none zero = refl
take-none (suc n) = refl

take-sum : (m n : ℕ) (xs : List ℕ) → take (m + n) xs ≡ take m xs ++ take n (drop m xs)
take-sum zero n xs = let e : 0 + n ≡ n = omega arith in ap (λ k. take k xs) e
take-sum (suc m) n [] = sym (take-none (suc m + n)) ∙ take-none n
take-sum (suc m) n (x ∷ xs) = let e : suc m + n ≡ suc (m + n) = omega arith in ap (λ k. take k (x ∷ xs)) e ∙ ap (λ l. x ∷ l) (take-sum m n xs)

from-rest : (k : ℕ) (xs ys : Tokens) → From k (xs ++ ys) → From k ys
from-rest k [] ys h = h
from-rest k (x ∷ xs) ys h = from-rest k xs ys h.1

rising-rest : (xs ys : Tokens) → Rising (xs ++ ys) → Rising ys
rising-rest [] ys h = h
rising-rest (x ∷ xs) ys h = rising-rest xs ys h.1

module _ (text : List ℕ) where
  between-on : (a b k : ℕ) → a ≤ b → b ≤ k → between text a k ≡ between text a b ++ between text b k
  between-on a b k low high =
      let gap : k - a ≡ (b - a) + (k - b) = omega (arith, low, high) in
      let back : a + (b - a) ≡ b = omega (arith, low) in
      ap (λ n. take n (drop a text)) gap ∙ take-sum (b - a) (k - b) (drop a text) ∙ ap (λ l. take (b - a) (drop a text) ++ take (k - b) l) (drop-drop (b - a) a text ∙ ap (λ n. drop n text) back)

  drop-on : (a b : ℕ) → a ≤ b → drop a text ≡ between text a b ++ drop b text
  drop-on a b low =
      let back : a + (b - a) ≡ b = omega (arith, low) in
      sym (take-append-drop (b - a) (drop a text)) ∙ ap (λ l. take (b - a) (drop a text) ++ l) (drop-drop (b - a) a text ∙ ap (λ n. drop n text) back)

  made-on : (cs : List Cut) (a b : ℕ) → a ≤ b → From b (tokens cs) → made text a cs ≡ between text a b ++ made text b cs
  made-on [] a b low h = drop-on a b low
  made-on (Same us ∷ cs) a b low h = made-on cs a b low (from-rest b us (tokens cs) h)
  made-on (Other t fs ps ∷ cs) a b low h =
      let rest = blanked ps (made text (end_of_all text (t ∷ fs)) cs) in
      ap (λ l. l ++ rest) (between-on a b t.at low h.0) ∙ append_assoc (between text a b) (between text b t.at) rest
  made-on (Before ps t ∷ cs) a b low h =
      let rest = blanked ps (made text t.at cs) in
      ap (λ l. l ++ rest) (between-on a b t.at low h.0) ∙ append_assoc (between text a b) (between text b t.at) rest

-- ---- segments as cuts

abbrev other_of : Tokens → Pieces → Cut
other_of [] ps = Same []
other_of (t ∷ fs) ps = Other t fs ps

module _ (text : List ℕ) (whole : Tokens) (layer : Name) where
  abbrev pub cuts : List Segment → List Cut
  cuts [] = []
  cuts (Kept us ∷ ss) = Same us ∷ cuts ss
  cuts (Claimed c head fs last ∷ ss) = Same head ∷ other_of fs (body text whole c) ∷ Same (last ∷ []) ∷ cuts ss
  cuts (Closed c cs brace ∷ ss) = Before (inserted text whole layer c cs) brace ∷ cuts ss

  own-tokens : (fs : Tokens) (ps : Pieces) → tokens_of (other_of fs ps) ≡ fs
  own-tokens [] ps = refl
  own-tokens (t ∷ fs) ps = refl

  pub tokens-cuts : (ss : List Segment) → tokens (cuts ss) ≡ old ss
  tokens-cuts [] = refl
  tokens-cuts (Kept us ∷ ss) = ap (λ l. us ++ l) (tokens-cuts ss)
  tokens-cuts (Claimed c head fs last ∷ ss) =
      ap (λ l. head ++ (l ++ (last ∷ tokens (cuts ss)))) (own-tokens fs (body text whole c)) ∙ ap (λ l. head ++ (fs ++ (last ∷ l))) (tokens-cuts ss)
      ∙ ap (λ l. head ++ l) (sym (append_assoc fs (last ∷ []) (old ss))) ∙ sym (append_assoc head (fs ++ (last ∷ [])) (old ss))
  tokens-cuts (Closed c cs brace ∷ ss) = ap (λ l. brace ∷ l) (tokens-cuts ss)

  pub kinds-cuts : (ss : List Segment) → AllByRecursion (IsGood text whole layer) ss → new_kinds (cuts ss) ≡ kinds text whole layer ss
  kinds-cuts [] h = refl
  kinds-cuts (Kept us ∷ ss) h = ap (λ l. kinds_of us ++ l) (kinds-cuts ss h.1)
  kinds-cuts (Claimed c head [] last ∷ ss) h = absurd (let none = h.0.0.formula_is in cc (none))
  kinds-cuts (Claimed c head (t ∷ fs) last ∷ ss) h =
      let b = kinds_of_pieces (body text whole c) in
      ap (λ l. kinds_of head ++ (b ++ (last.kind ∷ l))) (kinds-cuts ss h.1) ∙ ap (λ l. kinds_of head ++ l) (sym (append_assoc b (last.kind ∷ []) (kinds text whole layer ss))) ∙ sym (append_assoc (kinds_of head) (b ++ (last.kind ∷ [])) (kinds text whole layer ss))
  kinds-cuts (Closed c cs brace ∷ ss) h = ap (λ l. (kinds_of_pieces (inserted text whole layer c cs) ++ (brace.kind ∷ [])) ++ l) (kinds-cuts ss h.1)

  other-fine : (fs : Tokens) (ps : Pieces) → AllByRecursion IsWhole ps → IsFine (other_of fs ps)
  other-fine [] ps h = tt
  other-fine (t ∷ fs) ps h = h

  pub fine-cuts : (ss : List Segment) → AllByRecursion (IsGood text whole layer) ss → AllByRecursion IsFine (cuts ss)
  fine-cuts [] h = tt
  fine-cuts (Kept us ∷ ss) h = (tt, fine-cuts ss h.1)
  fine-cuts (Claimed c head fs last ∷ ss) h = (tt, (other-fine fs (body text whole c) h.0.1, (tt, fine-cuts ss h.1)))
  fine-cuts (Closed c cs brace ∷ ss) h = (h.0, fine-cuts ss h.1)

  -- what is written before a brace
  plain-inserted : (c : Changed) (cs : List Changed) → plain (monitors_written text whole layer c cs) ≡ spaced (inserted text whole layer c cs) ++ codes " "
  plain-inserted c cs =
      let ds = c ∷ cs in
      let ms = map (monitored text whole layer) ds in
      let one = flat_map (λ (d : Changed). placed_at d.name (spaced (declarations text whole d))) ds in
      let two = placed_at c.name (spaced (codes "layer" ∷ layer ∷ codes ":" ∷ codes "{" ∷ [])) in
      let three = flat_map (λ (d : Changed). placed_at d.name (spaced (definitions text whole d))) ds in
      let last = placed_at c.name (spaced (codes "}" ∷ []) ++ codes " ") in
      let x = flat_map declarations_of ms in
      let y : Pieces = codes "layer" ∷ layer ∷ codes ":" ∷ codes "{" ∷ [] in
      let v = flat_map definitions_of ms in
      let w : Pieces = codes "}" ∷ [] in
      let first_is : plain one ≡ spaced x = each-placed (declarations text whole) ds ∙ ap spaced (sym (flat_map-map declarations_of (monitored text whole layer) ds)) in
      let third_is : plain three ≡ spaced v = each-placed (definitions text whole) ds ∙ ap spaced (sym (flat_map-map definitions_of (monitored text whole layer) ds)) in
      let parts : plain (one ++ (two ++ (three ++ last))) ≡ plain one ++ (plain two ++ (plain three ++ plain last)) = plain-append one (two ++ (three ++ last)) ∙ ap (λ l. plain one ++ l) (plain-append two (three ++ last) ∙ ap (λ l. plain two ++ l) (plain-append three last)) in
      let pieces : spaced (x ++ (y ++ (v ++ w))) ≡ spaced x ++ (spaced y ++ (spaced v ++ spaced w)) = spaced-append x (y ++ (v ++ w)) ∙ ap (λ l. spaced x ++ l) (spaced-append y (v ++ w) ∙ ap (λ l. spaced y ++ l) (spaced-append v w)) in
      parts ∙ ap (λ l. l ++ (plain two ++ (plain three ++ plain last))) first_is ∙ ap (λ l. spaced x ++ (l ++ (plain three ++ plain last))) (plain-at c.name (spaced y))
      ∙ ap (λ l. spaced x ++ (spaced y ++ (l ++ plain last))) third_is ∙ ap (λ l. spaced x ++ (spaced y ++ (spaced v ++ l))) (plain-at c.name (spaced w ++ codes " "))
      ∙ four (spaced x) (spaced y) (spaced v) (spaced w) (codes " ") ∙ ap (λ l. l ++ codes " ") (sym pieces)

  module _ (read : lexed text ≡ Ok whole) where
    -- some tokens end before the next
    ends-before : (front : Tokens) (t : Token) (fs : Tokens) (last : Token) (rest : Tokens) → whole ≡ front ++ (t ∷ fs ++ (last ∷ rest)) → end_of_all text (t ∷ fs) ≤ last.at
    ends-before front t fs last rest e =
        let p = parted text front t fs (last ∷ rest) (read ∙ ap Ok e) in
        by_others (length p.before + length p.bytes) p.others p.moved_others p.ends
      where
        by_others : (k : ℕ) (others : Tokens) → last ∷ rest ≡ moved_tokens k others → end_of_all text (t ∷ fs) ≡ k → end_of_all text (t ∷ fs) ≤ last.at
        by_others k [] q same = absurd (cc (q))
        by_others k (o ∷ others) q same = let at : last.at ≡ o.at + k = ap (λ (z : Token). z.at) (head_is q) in omega (arith, at, same)

    pub narrow : (ss : List Segment) (from : ℕ) → Stands text whole read (old ss) → From from (old ss) → AllByRecursion (IsGood text whole layer) ss → plain (edited text from (all_edits text whole layer ss)) ≡ made text from (cuts ss)
    narrow [] from s h good = plain-from from (drop from text)
    narrow (Kept us ∷ ss) from s h good = narrow ss from (further text whole read (us ++ old ss) us (old ss) s refl) (from-rest from us (old ss) h) good.1
    narrow (Claimed c head [] last ∷ ss) from s h good = absurd (let none = good.0.0.formula_is in cc (none))
    narrow (Claimed c head (t ∷ fs) last ∷ ss) from s h good =
        let g = good.0.0 in
        let all = old (Claimed c head (t ∷ fs) last ∷ ss) in
        let all_is : all ≡ head ++ (t ∷ fs ++ (last ∷ old ss)) = append_assoc head (t ∷ fs ++ (last ∷ [])) (old ss) ∙ ap (λ l. head ++ l) (append_assoc (t ∷ fs) (last ∷ []) (old ss)) in
        let named : all ≡ g.name ∷ (g.more ++ (t ∷ fs ++ (last ∷ old ss))) = all_is ∙ ap (λ l. l ++ (t ∷ fs ++ (last ∷ old ss))) g.head_is in
        let rise : Rising all = rising-rest s.0 all (rises text whole read all s) in
        let rise_named : Rising (g.name ∷ (g.more ++ (t ∷ fs ++ (last ∷ old ss)))) = subst Rising named rise in
        let low : from ≤ g.name.at = (subst (From from) named h).0 in
        let above = from-rest (g.name.at + 1) g.more (t ∷ fs ++ (last ∷ old ss)) rise_named.0 in
        let middle : g.name.at + 1 ≤ t.at = above.0 in
        let at : t.at ≡ c.place = ap (λ (z : Token). z.at) (head_is g.formula_is) ∙ g.formula_at in
        let rise_last : Rising (last ∷ old ss) = rising-rest (t ∷ fs) (last ∷ old ss) (rising-rest head (t ∷ fs ++ (last ∷ old ss)) (subst Rising all_is rise)) in
        let high = ends-before (s.0 ++ head) t fs last (old ss) (s.1 ∙ ap (λ l. s.0 ++ l) all_is ∙ sym (append_assoc s.0 head (t ∷ fs ++ (last ∷ old ss)))) in
        let b = body text whole c in
        let make : Tokens → ℕ → Edit = λ f k. record { from = c.name; to = k + 1; written = placed_at c.name (between text c.name c.place ++ (spaced b ++ (codes " " ++ between text (end_of_all text f) (k + 1)))) } in
        let edit_is : claim_edit text whole c ≡ make (t ∷ fs) last.at = ap (λ f. make f (begin_of (behind_part (formula_tokens text whole c)))) g.is_part ∙ ap (make (t ∷ fs)) g.is_behind in
        let es = all_edits text whole layer ss in
        let end : ℕ = last.at + 1 in
        let stop = end_of_all text (t ∷ fs) in
        let rest = narrow ss end (further text whole read all (head ++ (t ∷ fs ++ (last ∷ []))) (old ss) s refl) rise_last.0 good.1 in
        let copied = between text c.name c.place ++ (spaced b ++ (codes " " ++ between text stop end)) in
        let behind_it : made text stop (cuts ss) ≡ between text stop end ++ made text end (cuts ss) = made-on text (cuts ss) stop end (omega (arith, high)) (subst (From end) (sym (tokens-cuts ss)) rise_last.0) in
        let name_at = g.name_at in
        let front : between text from t.at ≡ between text from c.name ++ between text c.name c.place = ap (between text from) at ∙ between-on text from c.name c.place (omega (arith, low, name_at)) (omega (arith, middle, name_at, at)) in
        ap (λ e. plain (edited text from (e ∷ es))) edit_is
        ∙ plain-append (placed_from from (between text from c.name)) (placed_at c.name copied ++ edited text end es)
        ∙ ap (λ l. l ++ plain (placed_at c.name copied ++ edited text end es)) (plain-from from (between text from c.name))
        ∙ ap (λ l. between text from c.name ++ l) (plain-append (placed_at c.name copied) (edited text end es) ∙ ap (λ l. l ++ plain (edited text end es)) (plain-at c.name copied) ∙ ap (λ l. copied ++ l) rest)
        ∙ around (between text from c.name) (between text c.name c.place) (spaced b) (codes " ") (between text stop end) (made text end (cuts ss))
        ∙ ap (λ l. l ++ (spaced b ++ (codes " " ++ (between text stop end ++ made text end (cuts ss))))) (sym front)
        ∙ ap (λ l. between text from t.at ++ (spaced b ++ (codes " " ++ l))) (sym behind_it)
    narrow (Closed c cs brace ∷ ss) from s h good =
        let es = all_edits text whole layer ss in
        let rise : Rising (brace ∷ old ss) = rising-rest s.0 (brace ∷ old ss) (rises text whole read (brace ∷ old ss) s) in
        let low : From brace.at (old ss) = each_weaker (λ (z : Token). brace.at + 1 ≤ z.at) (λ (z : Token). brace.at ≤ z.at) (λ z q. omega (arith, q)) (old ss) rise.0 in
        let rest = narrow ss brace.at (further text whole read (brace ∷ old ss) (brace ∷ []) (old ss) s refl) low good.1 in
        let put = monitors_written text whole layer c cs in
        let ps = inserted text whole layer c cs in
        plain-append (placed_from from (between text from brace.at)) (put ++ edited text brace.at es)
        ∙ ap (λ l. l ++ plain (put ++ edited text brace.at es)) (plain-from from (between text from brace.at))
        ∙ ap (λ l. between text from brace.at ++ l) (plain-append put (edited text brace.at es) ∙ ap (λ l. l ++ plain (edited text brace.at es)) (plain-inserted c cs) ∙ ap (λ l. (spaced ps ++ codes " ") ++ l) rest ∙ append_assoc (spaced ps) (codes " ") (made text brace.at (cuts ss)))
