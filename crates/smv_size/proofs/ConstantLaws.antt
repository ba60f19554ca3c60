-- Counting names that are different.
use Rattle.std.proofs.Common.{◌≡◌, ℕ, ◌+◌, ◌<◌, Bool, true, false, cond, ◌||◌, List, [], ◌∷◌, ◌++◌, map, take, length, length-append, get_or, refl, ap, sym, subst, ◌∙◌, arith}
use Rattle.std.specs.Prelude.{Some, None, is_some, min, nat_lt}
use Rattle.smv_size.proofs.TurnLaws.{lt_same}
use Rattle.std.specs.List.{list_any}
use Rattle.std.specs.Str.{bytes_eq}
use Rattle.std.proofs.lemmas.List.{append_assoc, append-nil, map-append}
use Rattle.std.proofs.lemmas.List.Folds.{list_any-append}
use Rattle.name_index.specs.Position.{position}
use Rattle.name_index.proofs.Finding.{position-known}
use Rattle.smv_core.specs.Values.{Name}
use Rattle.smv_core.specs.Types.{names_of}
use Rattle.smv_core.specs.declared.tree.Word.{Word}
use Rattle.smv_core.specs.declared.tree.Text.{Text}
use Rattle.smv_mentions.specs.Mentions.{Mention, declares, binds, follows, names_type, lists_constants, has_fields, instantiates}
use Rattle.smv_mentions.specs.Scopes.{Piece, Constant, constants, constants_in, pieces}
use Rattle.smv_mentions.specs.Sizes.{count_different, constant_names}
use Rattle.smv_mentions.specs.Said.{said, told, told_by}
use Rattle.smv_mentions.specs.declared.mentions.Mention.{Mention as NotedMention}
use Rattle.smv_mentions.specs.declared.pieces.Piece.{Piece as NotedPiece}
use Rattle.std.proofs.lemmas.List.{take_more}
use Rattle.std.proofs.lemmas.Grind.{flat_map-append}
use Rattle.smv_size.specs.Recursion.{Told}
use Rattle.smv_size.specs.Constants.{Counts, constants_said, constants_told}
use Rattle.smv_size.proofs.RecursionLaws.{tell, tell_all, bytes_eq-is, bytes_eq-same}

-- the test is the same both ways
bytes_eq-turned : (a b : Name) → bytes_eq a b ≡ bytes_eq b a
bytes_eq-turned a b = by (bytes_eq a b) (bytes_eq b a) refl refl
  where
    by : (s t : Bool) → bytes_eq a b ≡ s → bytes_eq b a ≡ t → bytes_eq a b ≡ bytes_eq b a
    by true true e f = e ∙ sym f
    by false false e f = e ∙ sym f
    by true false e f = e ∙ sym (bytes_eq-same b a (sym (bytes_eq-is a b e)))
    by false true e f = bytes_eq-same a b (sym (bytes_eq-is b a f)) ∙ sym f

seen-turned : (name : Name) (seen : List Name) → list_any (λ x. bytes_eq x name) seen ≡ list_any (bytes_eq name) seen
seen-turned name [] = refl
seen-turned name (x ∷ seen) = ap (λ b. b || list_any (λ x. bytes_eq x name) seen) (bytes_eq-turned x name) ∙ ap (λ b. bytes_eq name x || b) (seen-turned name seen)

-- only what was seen counts, and not its order
same-count : (seen other names : List Name) → ((q : Name) → list_any (bytes_eq q) seen ≡ list_any (bytes_eq q) other) → count_different seen names ≡ count_different other names
same-count seen other [] same = refl
same-count seen other (name ∷ names) same =
    let rest = same-count seen other names same in
    let more = same-count (name ∷ seen) (name ∷ other) names (λ q. ap (λ b. bytes_eq q name || b) (same q)) in
    ap (λ b. cond b (count_different seen names) (1 + count_different (name ∷ seen) names)) (same name)
    ∙ ap (λ n. cond (list_any (bytes_eq name) other) n (1 + count_different (name ∷ seen) names)) rest
    ∙ ap (λ n. cond (list_any (bytes_eq name) other) (count_different other names) (1 + n)) more

last-first : (q name : Name) (seen : List Name) → list_any (bytes_eq q) (seen ++ name ∷ []) ≡ list_any (bytes_eq q) (name ∷ seen)
last-first q name seen = list_any-append (bytes_eq q) seen (name ∷ []) ∙ swapped (list_any (bytes_eq q) seen) (bytes_eq q name)
  where
    swapped : (a b : Bool) → a || (b || false) ≡ b || a
    swapped true true = refl
    swapped true false = refl
    swapped false true = refl
    swapped false false = refl

-- a name that was there
pub counts-known : (name : Name) (seen : List Name) (place : ℕ) → position seen name ≡ Some place → Counts (name ∷ []) seen seen
counts-known name seen place at more =
    let known : list_any (bytes_eq name) seen ≡ true = sym (seen-turned name seen) ∙ sym (position-known seen name) ∙ ap is_some at in
    ap (λ b. length seen + cond b (count_different seen more) (1 + count_different (name ∷ seen) more)) (sym known)

-- a name that is new
pub counts-new : (name : Name) (seen : List Name) → position seen name ≡ None → Counts (name ∷ []) seen (seen ++ name ∷ [])
counts-new name seen at more =
    let fresh : list_any (bytes_eq name) seen ≡ false = sym (seen-turned name seen) ∙ sym (position-known seen name) ∙ ap is_some at in
    let long : length (seen ++ name ∷ []) ≡ length seen + 1 = length-append seen (name ∷ []) in
    let same = same-count (seen ++ name ∷ []) (name ∷ seen) more (λ q. last-first q name seen) in
    (omega (arith, long, same)) ∙ ap (λ b. length seen + cond b (count_different seen more) (1 + count_different (name ∷ seen) more)) (sym fresh)

pub counts-none : (seen : List Name) → Counts [] seen seen
counts-none seen more = refl

-- one part behind another
pub counts-both : (names others seen mid after : List Name) → Counts names seen mid → Counts others mid after → Counts (names ++ others) seen after
counts-both names others seen mid after first last more = last more ∙ first (others ++ more) ∙ ap (λ l. length seen + count_different seen l) (sym (append_assoc names others more))

-- all names counted
pub counts-all : (names after : List Name) → Counts names [] after → count_different [] names ≡ length after
counts-all names after c = ap (count_different []) (sym (append-nil names)) ∙ sym (let h = c [] in (omega (arith, h)))

-- ---- the constants of a text

abbrev name_in : Name × Constant → Name
name_in (name, constant) = name

abbrev listed : List Word → Word → Name × Constant
listed words word = (word.name, record { at = word.at; names = names_of words })

names-listed : (words part : List Word) → map name_in (map (listed words) part) ≡ names_of part
names-listed words [] = refl
names-listed words (word ∷ part) = ap (λ l. word.name ∷ l) (names-listed words part)

-- one mention, and those behind it
pub said-cons : (mention : Mention) (mentions : List Mention) → constants_said (mention ∷ mentions) ≡ constants_said (mention ∷ []) ++ constants_said mentions
said-cons (instantiates word args) mentions = refl
said-cons (declares word what) mentions = refl
said-cons (binds around var) mentions = refl
said-cons (follows around parts) mentions = refl
said-cons (names_type word) mentions = refl
said-cons (lists_constants words) mentions =
    map-append name_in (map (listed words) words) (constants_in mentions) ∙ ap (λ l. map name_in l ++ map name_in (constants_in mentions)) (sym (append-nil (map (listed words) words)))
said-cons (has_fields words) mentions = refl

-- what a list of constants says
pub said-listed : (words : List Word) → constants_said (lists_constants words ∷ []) ≡ names_of words
said-listed words = ap (map name_in) (append-nil (map (listed words) words)) ∙ names-listed words words

said-append : (xs ys : List Mention) → constants_said (xs ++ ys) ≡ constants_said xs ++ constants_said ys
said-append [] ys = refl
said-append (x ∷ xs) ys =
    said-cons x (xs ++ ys) ∙ ap (λ l. constants_said (x ∷ []) ++ l) (said-append xs ys) ∙ sym (append_assoc (constants_said (x ∷ [])) (constants_said xs) (constants_said ys))
    ∙ ap (λ l. l ++ constants_said ys) (sym (said-cons x xs))

-- one element more in a loop
counts-turn : {A B : Type 0} (f : List B → List Name) (t : A → B) (xs : List A) (i : ℕ) (x : A) (seen mid after : List Name) → ((ys zs : List B) → f (ys ++ zs) ≡ f ys ++ f zs) → i < length xs → x ≡ get_or xs i x
    → Counts (f (map t (take i xs))) seen mid → Counts (f (t x ∷ [])) mid after → Counts (f (map t (take (i + 1) xs))) seen after
counts-turn f t xs i x seen mid after adds h at first last =
    let rest : take (i + 1) xs ≡ take i xs ++ x ∷ [] = take_more xs i x h ∙ ap (λ y. take i xs ++ y ∷ []) (sym at) in
    let parts : f (map t (take (i + 1) xs)) ≡ f (map t (take i xs)) ++ f (t x ∷ []) = ap (λ l. f (map t l)) rest ∙ ap f (map-append t (take i xs) (x ∷ [])) ∙ adds (map t (take i xs)) (t x ∷ []) in
    subst (λ l. Counts l seen after) (sym parts) (counts-both (f (map t (take i xs))) (f (t x ∷ [])) seen mid after first last)

pub counts-word : (words : List Word) (i : ℕ) (word : Word) (seen mid after : List Name) → i < length words → word ≡ get_or words i word
    → Counts (names_of (take i words)) seen mid → Counts (word.name ∷ []) mid after → Counts (names_of (take (i + 1) words)) seen after
counts-word words i word seen mid after h at = counts-turn (λ (l : List Name). l) (λ (w : Word). w.name) words i word seen mid after (λ ys zs. refl) h at

pub counts-mention : (mentions : List NotedMention) (i : ℕ) (mention : NotedMention) (seen mid after : List Name) → i < length mentions → mention ≡ get_or mentions i mention
    → Counts (constants_said (map said (take i mentions))) seen mid → Counts (constants_said (said mention ∷ [])) mid after → Counts (constants_said (map said (take (i + 1) mentions))) seen after
counts-mention mentions i mention seen mid after h at = counts-turn constants_said said mentions i mention seen mid after said-append h at

pub counts-piece : (pieces : List NotedPiece) (i : ℕ) (piece : NotedPiece) (seen mid after : List Name) → i < length pieces → piece ≡ get_or pieces i piece
    → Counts (constants_told (map told (take i pieces))) seen mid → Counts (constants_said (map said piece.mentions.items)) mid after → Counts (constants_told (map told (take (i + 1) pieces))) seen after
counts-piece pieces i piece seen mid after h at first last =
    counts-turn constants_told told pieces i piece seen mid after (flat_map-append (λ (top : Told). constants_said top.2)) h at first (subst (λ l. Counts l mid after) (sym (append-nil (constants_said (map said piece.mentions.items)))) last)

-- the constants of the tops of a text
names-flat : (tops : List Piece) → map (λ (name, constant). name) (constants tops) ≡ constants_told (map tell tops)
names-flat [] = refl
names-flat (top ∷ tops) = map-append name_in (constants_in top.mentions) (constants tops) ∙ ap (λ l. constants_said top.mentions ++ l) (names-flat tops)

pub told-names : (tops : List Told) (text : Text) → tops ≡ map told_by text.tops → constants_told tops ≡ constant_names text
told-names tops text e = ap constants_told (e ∙ sym (tell_all [] text.tops)) ∙ sym (names-flat (pieces text))

-- a number is above the limit where it is so when it is cut off above it
pub limit-same : (total n : ℕ) → total ≡ min 4097 n → nat_lt 4096 total ≡ nat_lt 4096 n
limit-same total n e = lt_same 4096 total 4096 n (λ h. omega arith) (λ h. omega arith)
