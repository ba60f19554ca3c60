-- What is written before a closing brace spells the declarations of the monitors and the layer of their definitions.
use Rattle.std.proofs.Common.{◌≡◌, ◌≤◌, ℕ, zero, suc, List, [], ◌∷◌, ◌++◌, map, flat_map, length, codes, refl, sym, ap, ◌∙◌, subst, append_assoc, arith}
use Rattle.std.proofs.lemmas.List.Concat.{flat_map-cons}
use Rattle.std.specs.List.{AllByRecursion, AllZip}
use Rattle.law_lists.proofs.Lists.{head_is, tail_is}
use Rattle.smv_core.specs.Values.{Name}
use Rattle.smv_core.specs.declared.token.TokenKind.{TokenKind}
use Rattle.smv_core.specs.declared.token.TokenKind.TheVariants.{Ident}
use Rattle.smv_core.specs.declared.tree.Word.{Word}
use Rattle.smv_core.specs.declared.tree.TypeExpr.{TypeExpr}
use Rattle.smv_core.specs.declared.tree.Stmt.{Stmt}
use Rattle.smv_core.specs.declared.tree.Role.{Role}
use Rattle.smv_core.specs.declared.tree.Role.TheVariants as role
use Rattle.smv_core.specs.declared.tree.Item.{Item}
use Rattle.smv_core.specs.declared.tree.Item.TheVariants as item
use Rattle.smv_core.specs.Signs.{open_brace, close_brace, colon, semicolon, comma}
use Rattle.smv_core.specs.Signs as w
use Rattle.smv_core.specs.Notation.{Tokens, Rule, nothing, ◌>>◌, many, token, name, one_of, separated}
use Rattle.smv_core.specs.Grammar as g
use Rattle.smv_core.specs.Grammar.{below}
use Rattle.smv_lex.specs.Lexing as l
use Rattle.law_places.specs.Placeless.{placeless_word, placeless_type, placeless_stmt}
use Rattle.law_spelled_alike.specs.Local.{kinds_of, Any, SameName}
use Rattle.law_spelled_alike.proofs.Plain.{SameType}
use Rattle.law_texts_spelled_alike.proofs.PlacelessStatements.{placeless-Declare, placeless-Layer}
use Rattle.law_texts_spelled_alike.proofs.Texts.{SameStmt, SameItem, same-words}
use Rattle.law_formulas.specs.Monitors as m
use Rattle.law_translated_texts.specs.Phrases.{Pieces, Binders, type_of, declared}
use Rattle.law_written_formulas.specs.Kinds.{kinds_in}
use Rattle.law_written_formulas.specs.Laws.{IsNamed, IsBinder}
use Rattle.law_written_formulas.proofs.Writing.{Sp, z, sp-kinds, sp-nothing, sp-seq, sp-end, sp-left, sp-right, sp-name, sp-token, sp-after, sp-open, sp-one_of, IsFirst, sp-none, sp-more, sp-many_none}
use Rattle.law_written_formulas.proofs.Pieces.{K, k-cons, k-append, k-one}
use Rattle.law_written_formulas.proofs.Definitions.{Types, type-written, Statements, monitors-defined}
use Rattle.law_written_monitors.specs.Monitored.{Monitored, declarations_of, definitions_of, written, in_tree, items_of}
use Rattle.law_written_monitors.specs.Laws.{IsMonitored, MonitorsAreWritten}

-- ---- words

abstract-kind : kinds_in (codes "abstract") ≡ w.word_abstract ∷ []
unfolding l.word_kind l.word_front l.number_front l.sign_front l.front_of l.lexed_from
abstract-kind = refl

layer-kind : kinds_in (codes "layer") ≡ w.word_layer ∷ []
unfolding l.word_kind l.word_front l.number_front l.sign_front l.front_of l.lexed_from
layer-kind = refl

colon-kind : kinds_in (codes ":") ≡ colon ∷ []
unfolding l.word_kind l.word_front l.number_front l.sign_front l.front_of l.lexed_from
colon-kind = refl

semicolon-kind : kinds_in (codes ";") ≡ semicolon ∷ []
unfolding l.word_kind l.word_front l.number_front l.sign_front l.front_of l.lexed_from
semicolon-kind = refl

brace-kind : kinds_in (codes "{") ≡ open_brace ∷ []
unfolding l.word_kind l.word_front l.number_front l.sign_front l.front_of l.lexed_from
brace-kind = refl

last-kind : kinds_in (codes "}") ≡ close_brace ∷ []
unfolding l.word_kind l.word_front l.number_front l.sign_front l.front_of l.lexed_from
last-kind = refl

-- ---- lists behind one another

-- tokens of the kinds of two lists are two such lists
record CutKinds (us : Tokens) (ks ls : List TokenKind) : Type 0 where
  left : Tokens
  right : Tokens
  split : us ≡ left ++ right
  first : kinds_of left ≡ ks
  second : kinds_of right ≡ ls

cut-kinds : (us : Tokens) (ks ls : List TokenKind) → kinds_of us ≡ ks ++ ls → CutKinds us ks ls
cut-kinds us [] ls e = record { left = []; right = us; split = refl; first = refl; second = e }
cut-kinds [] (k ∷ ks) ls e = absurd (cc)
cut-kinds (u ∷ us) (k ∷ ks) ls e =
    let i = cut-kinds us ks ls (tail_is e) in
    record {
      left = u ∷ i.left;
      right = i.right;
      split = ap (λ l. u ∷ l) i.split;
      first = ap (λ j. j ∷ kinds_of i.left) (head_is e) ∙ ap (λ l. k ∷ l) i.first;
      second = i.second;
    }

-- many, and then many more
many-append : {A : Type 0} (r : Rule A) (ts middle rest : Tokens) (xs ys : List A) → many r ts xs middle → many r middle ys rest → many r ts (xs ++ ys) rest
many-append r ts middle rest [] ys p q = subst (λ l. many r l ys rest) (sym p) q
many-append r ts middle rest (x ∷ xs) ys (next, a, p) q = (next, a, many-append r next middle rest xs ys p q)

zip-append : {A B : Type 0} (R : A → B → Type 0) (xs us : List A) (ys vs : List B) → AllZip R xs ys → AllZip R us vs → AllZip R (xs ++ us) (ys ++ vs)
zip-append R [] us [] vs p q = q
zip-append R (x ∷ xs) us (y ∷ ys) vs p q = (p.0, zip-append R xs us ys vs p.1 q)
zip-append R [] us (y ∷ ys) vs p q = absurd p
zip-append R (x ∷ xs) us [] vs p q = absurd p

pub sp-together : {A B : Type 0} (R : A → B → Type 0) (r : Rule B) (ks ls : List TokenKind) (xs ys : List A) → Sp (AllZip R) (many r) ks xs → Sp (AllZip R) (many r) ls ys → Sp (AllZip R) (many r) (ks ++ ls) (xs ++ ys)
sp-together R r ks ls xs ys u v us rest ts e eq =
    let i = cut-kinds us ks ls e in
    let a = u i.left (i.right ++ rest) ts i.first (eq ∙ ap (λ l. l ++ rest) i.split ∙ append_assoc i.left i.right rest) in
    let b = v i.right rest (i.right ++ rest) i.second refl in
    (a.0 ++ b.0, many-append r ts (i.right ++ rest) rest a.0 b.0 a.1 b.1, zip-append R xs ys a.0 b.0 a.2 b.2)

-- what is written for each of a list
sp-each : {M A B : Type 0} (P : M → Type 0) (R : A → B → Type 0) (r : Rule B) (f : M → Pieces) (make : M → List A) → ((c : M) → P c → Sp (AllZip R) (many r) (K (f c)) (make c)) → (cs : List M) → AllByRecursion P cs → Sp (AllZip R) (many r) (K (flat_map f cs)) (flat_map make cs)
sp-each P R r f make one [] h = sp-none R r
sp-each P R r f make one (c ∷ cs) h = sp-kinds (AllZip R) (many r) (K (f c) ++ K (flat_map f cs)) (K (flat_map f (c ∷ cs))) (make c ++ flat_map make cs) (sym (ap K (flat_map-cons f c cs) ∙ k-append (f c) (flat_map f cs)))
    (sp-together R r (K (f c)) (K (flat_map f cs)) (make c) (flat_map make cs) (one c h.0) (sp-each P R r f make one cs h.1))

sp-single : {A B : Type 0} (R : A → B → Type 0) (r : Rule B) (ps : Pieces) (a : A) → Sp R r (K ps) a → Sp (AllZip R) (many r) (K ps) (a ∷ [])
sp-single R r ps a u us rest ts e eq = let x = u us rest ts e eq in (x.0 ∷ [], (rest, x.1, refl), (x.2, tt))

-- ---- declarations

abbrev Bodies : ℕ → Rule Item
Bodies n = g.body_rule z n (below z n)

abbrev roles : List (TokenKind × Role)
roles = (w.word_abstract, role.Abstract) ∷ (w.word_input, role.Input) ∷ (w.word_output, role.Output) ∷ []

abbrev declaration_of : Binders → Name → Pieces
declaration_of bs v = codes "abstract" ∷ v ∷ codes ":" ∷ type_of bs ++ codes ";" ∷ []

one-name : (v : Name) → Sp (AllZip SameName) (separated name) (Ident v ∷ []) (m.word_of v ∷ [])
one-name v = sp-end SameName (AllZip SameName) name _ (Ident v ∷ []) (m.word_of v) (m.word_of v ∷ []) (sp-name (m.word_of v)) (λ y p. sp-many_none (AllZip SameName) (token comma >> name) _ [] (m.word_of v ∷ []) (sp-nothing (AllZip SameName) (m.word_of v ∷ []) (y ∷ []) (p, tt)))

declared-kinds : (bs : Binders) (v : Name) → IsNamed v → K (declaration_of bs v) ≡ w.word_abstract ∷ Ident v ∷ colon ∷ (K (type_of bs) ++ semicolon ∷ [])
declared-kinds bs v named =
    let typed : K (type_of bs ++ codes ";" ∷ []) ≡ K (type_of bs) ++ semicolon ∷ [] = k-append (type_of bs) (codes ";" ∷ []) ∙ ap (λ j. K (type_of bs) ++ j) (k-one (codes ";") ∙ semicolon-kind) in
    k-cons (codes "abstract") (v ∷ codes ":" ∷ type_of bs ++ codes ";" ∷ []) (w.word_abstract ∷ []) abstract-kind
    ∙ ap (λ j. w.word_abstract ∷ j) (k-cons v (codes ":" ∷ type_of bs ++ codes ";" ∷ []) (Ident v ∷ []) named ∙ ap (λ j. Ident v ∷ j) (k-cons (codes ":") (type_of bs ++ codes ";" ∷ []) (colon ∷ []) colon-kind ∙ ap (λ j. colon ∷ j) typed))

declare-same : (k j : Role) (xs ys : List Word) (s t : TypeExpr) (a b : ℕ) → k ≡ j → AllZip SameName xs ys → SameType s t → SameItem (item.Declare k xs s a) (item.Declare j ys t b)
declare-same k j xs ys s t a b h p q =
    placeless-Declare k xs s a ∙ ap (λ v. item.Declare v (map placeless_word xs) (placeless_type s) 0) h ∙ ap (λ v. item.Declare j v (placeless_type s) 0) (same-words xs ys p) ∙ ap (λ v. item.Declare j (map placeless_word ys) v 0) q ∙ sym (placeless-Declare j ys t b)

declaration-written : (n : ℕ) (bs : Binders) (around : m.Around) → AllZip IsBinder bs around → length bs ≤ n → (v : Name) → IsNamed v → Sp SameItem (Bodies n) (K (declaration_of bs v)) (item.Declare role.Abstract (m.word_of v ∷ []) (m.type_of around) 0)
declaration-written n bs around h le v named =
    let of = m.type_of around in
    let all = item.Declare role.Abstract (m.word_of v ∷ []) of 0 in
    let behind = K (type_of bs) ++ semicolon ∷ [] in
    sp-kinds SameItem (Bodies n) _ (K (declaration_of bs v)) all (sym (declared-kinds bs v named))
    (sp-left SameItem _ _ _ all (sp-left SameItem _ _ _ all (sp-seq IsFirst SameItem (one_of roles) _ (w.word_abstract ∷ []) (Ident v ∷ colon ∷ behind) role.Abstract all (sp-one_of roles w.word_abstract role.Abstract refl) (λ r q.
    sp-seq (AllZip SameName) SameItem (separated name) _ (Ident v ∷ []) (colon ∷ behind) (m.word_of v ∷ []) all (one-name v) (λ ys p. sp-after SameItem colon refl _ behind all
    (sp-seq SameType SameItem (Types n) _ (K (type_of bs)) (semicolon ∷ []) of all (type-written bs around h n le) (λ t s. sp-after SameItem semicolon refl (nothing (item.Declare r.0 ys t r.1)) [] all
    (sp-nothing SameItem all (item.Declare r.0 ys t r.1) (declare-same role.Abstract r.0 (m.word_of v ∷ []) ys of t 0 r.1 q p s)))))))))

all-declared : (n : ℕ) (bs : Binders) (around : m.Around) → AllZip IsBinder bs around → length bs ≤ n → (names : List Name) → AllByRecursion IsNamed names →
    Sp (AllZip SameItem) (many (Bodies n)) (K (declared bs names)) (map (λ v. item.Declare role.Abstract (m.word_of v ∷ []) (m.type_of around) 0) names)
all-declared n bs around h le [] named = sp-none SameItem (Bodies n)
all-declared n bs around h le (v ∷ names) named =
    let one = item.Declare role.Abstract (m.word_of v ∷ []) (m.type_of around) 0 in
    let rest = map (λ v. item.Declare role.Abstract (m.word_of v ∷ []) (m.type_of around) 0) names in
    sp-kinds (AllZip SameItem) (many (Bodies n)) (K (declaration_of bs v) ++ K (declared bs names)) (K (declared bs (v ∷ names))) (one ∷ rest) (sym (ap K (flat_map-cons (declaration_of bs) v names) ∙ k-append (declaration_of bs v) (declared bs names)))
    (sp-more SameItem (Bodies n) (K (declaration_of bs v)) (K (declared bs names)) one rest (declaration-written n bs around h le v named.0) (all-declared n bs around h le names named.1))

-- ---- the layer

same-stmts : (xs ys : List Stmt) → AllZip SameStmt xs ys → map placeless_stmt xs ≡ map placeless_stmt ys
same-stmts [] [] p = refl
same-stmts (x ∷ xs) (y ∷ ys) p = ap (λ v. v ∷ map placeless_stmt xs) p.0.0 ∙ ap (λ l. placeless_stmt y ∷ l) (same-stmts xs ys p.1)
same-stmts [] (y ∷ ys) p = absurd p
same-stmts (x ∷ xs) [] p = absurd p

layer-same : (x y : Word) (xs ys : List Stmt) (a b : ℕ) → x.name ≡ y.name → AllZip SameStmt xs ys → SameItem (item.Layer x xs a) (item.Layer y ys b)
layer-same x y xs ys a b p q = placeless-Layer x xs a ∙ ap (λ v. item.Layer (record { name = v; at = 0 }) (map placeless_stmt xs) 0) p ∙ ap (λ v. item.Layer (placeless_word y) v 0) (same-stmts xs ys q) ∙ sym (placeless-Layer y ys b)

abbrev layer_pieces : Name → Pieces → Pieces
layer_pieces layer ps = codes "layer" ∷ layer ∷ codes ":" ∷ codes "{" ∷ ps ++ codes "}" ∷ []

layer-kinds : (layer : Name) → IsNamed layer → (ps : Pieces) → K (layer_pieces layer ps) ≡ w.word_layer ∷ Ident layer ∷ colon ∷ open_brace ∷ (K ps ++ close_brace ∷ [])
layer-kinds layer named ps =
    let body : K (ps ++ codes "}" ∷ []) ≡ K ps ++ close_brace ∷ [] = k-append ps (codes "}" ∷ []) ∙ ap (λ j. K ps ++ j) (k-one (codes "}") ∙ last-kind) in
    k-cons (codes "layer") (layer ∷ codes ":" ∷ codes "{" ∷ ps ++ codes "}" ∷ []) (w.word_layer ∷ []) layer-kind
    ∙ ap (λ j. w.word_layer ∷ j) (k-cons layer (codes ":" ∷ codes "{" ∷ ps ++ codes "}" ∷ []) (Ident layer ∷ []) named
    ∙ ap (λ j. Ident layer ∷ j) (k-cons (codes ":") (codes "{" ∷ ps ++ codes "}" ∷ []) (colon ∷ []) colon-kind
    ∙ ap (λ j. colon ∷ j) (k-cons (codes "{") (ps ++ codes "}" ∷ []) (open_brace ∷ []) brace-kind ∙ ap (λ j. open_brace ∷ j) body)))

layer-written : (n : ℕ) (layer : Name) → IsNamed layer → (ps : Pieces) (ss : List Stmt) → Sp (AllZip SameStmt) (many (Statements n)) (K ps) ss → Sp SameItem (Bodies (suc n)) (K (layer_pieces layer ps)) (item.Layer (m.word_of layer) ss 0)
layer-written n layer named ps ss u =
    let all = item.Layer (m.word_of layer) ss 0 in
    let inside = K ps ++ close_brace ∷ [] in
    sp-kinds SameItem (Bodies (suc n)) _ (K (layer_pieces layer ps)) all (sym (layer-kinds layer named ps))
    (sp-right SameItem _ _ _ all (sp-right SameItem _ _ _ all (sp-left SameItem _ _ _ all
    (sp-seq {A = Unit {0}} Any SameItem (token w.word_layer) _ (w.word_layer ∷ []) (Ident layer ∷ colon ∷ open_brace ∷ inside) tt all (sp-token w.word_layer refl) (λ at _.
    sp-seq SameName SameItem name _ (Ident layer ∷ []) (colon ∷ open_brace ∷ inside) (m.word_of layer) all (sp-name (m.word_of layer)) (λ x p. sp-after SameItem colon refl _ (open_brace ∷ inside) all
    (sp-open SameItem (suc n) (omega arith) open_brace refl _ inside all (sp-seq (AllZip SameStmt) SameItem (many (Statements n)) _ (K ps) (close_brace ∷ []) ss all u (λ ys q.
    sp-after SameItem close_brace refl (nothing (item.Layer x ys at)) [] all (sp-nothing SameItem all (item.Layer x ys at) (layer-same (m.word_of layer) x ss ys 0 at p q)))))))))))

-- ---- all of it

pub monitors-written : MonitorsAreWritten
monitors-written k layer cs named h zero le = absurd (omega (arith, le))
monitors-written k layer cs named h (suc j) le =
    let tree = flat_map (λ (c : Monitored). m.declared (in_tree c)) cs in
    let inside = flat_map definitions_of cs in
    let body = flat_map (λ (c : Monitored). m.defined (in_tree c)) cs in
    let last = item.Layer (m.word_of layer) body 0 in
    sp-kinds (AllZip SameItem) (many (Bodies (suc j))) (K (flat_map declarations_of cs) ++ K (layer_pieces layer inside)) (K (written layer cs)) (items_of layer cs) (sym (k-append (flat_map declarations_of cs) (layer_pieces layer inside)))
    (sp-together SameItem (Bodies (suc j)) (K (flat_map declarations_of cs)) (K (layer_pieces layer inside)) tree (last ∷ [])
    (sp-each (IsMonitored k) SameItem (Bodies (suc j)) declarations_of (λ (c : Monitored). m.declared (in_tree c)) (λ c q. all-declared (suc j) c.binders c.around q.binders (let fits = q.fits in omega (arith, fits, le)) c.watched.monitors q.monitors) cs h)
    (sp-single SameItem (Bodies (suc j)) (layer_pieces layer inside) last (layer-written j layer named inside body
    (sp-each (IsMonitored k) SameStmt (Statements j) definitions_of (λ (c : Monitored). m.defined (in_tree c)) (λ c q. monitors-defined q.levels c.binders c.around c.watched.monitors c.watched.formula c.phrase q.binders q.monitors q.parts j (let fits = q.fits in omega (arith, fits, le))) cs h))))
