-- What is written before a closing brace for the monitors of a claim spells their types and their definitions.
use Rattle.std.proofs.Common.{◌≡◌, ◌≤◌, ◌<◌, ◌+◌, ℕ, zero, suc, List, [], ◌∷◌, ◌++◌, flat_map, length, codes, Some, refl, sym, ap, ◌∙◌, subst, append_assoc, arith}
use Rattle.std.proofs.lemmas.List.Concat.{flat_map-cons}
use Rattle.std.specs.List.{AllByRecursion, AllZip}
use Rattle.smv_core.specs.Values.{Name}
use Rattle.smv_core.specs.declared.token.TokenKind.{TokenKind}
use Rattle.smv_core.specs.declared.token.TokenKind.TheVariants.{Ident, Number}
use Rattle.smv_core.specs.declared.tree.Word.{Word}
use Rattle.smv_core.specs.declared.tree.Path.{Path}
use Rattle.smv_core.specs.declared.tree.Expr.{Expr}
use Rattle.smv_core.specs.declared.tree.Expr.TheVariants as expr
use Rattle.smv_core.specs.declared.tree.TypeExpr.{TypeExpr}
use Rattle.smv_core.specs.declared.tree.TypeExpr.TheVariants as type
use Rattle.smv_core.specs.declared.tree.Kind.{Kind}
use Rattle.smv_core.specs.declared.tree.Kind.TheVariants as kind
use Rattle.smv_core.specs.declared.tree.Stmt.{Stmt}
use Rattle.smv_core.specs.declared.tree.Stmt.TheVariants as stmt
use Rattle.smv_core.specs.Signs.{open_paren, close_paren, semicolon, becomes}
use Rattle.smv_core.specs.Signs as w
use Rattle.smv_core.specs.Notation.{Rule, nothing, many, name, one_of, found, opener}
use Rattle.smv_core.specs.Grammar as g
use Rattle.smv_core.specs.Grammar.{below}
use Rattle.smv_lex.specs.Lexing as l
use Rattle.law_places.specs.Placeless.{placeless_word, placeless_type, placeless, placeless_path, placeless_stmt}
use Rattle.law_spelled_alike.specs.Local.{Any, SameName}
use Rattle.law_spelled_alike.proofs.Plain.{SameExpr, SameType, SamePath}
use Rattle.law_exchanged.proofs.Before.{spelled-before}
use Rattle.law_texts_spelled_alike.proofs.PlacelessStatements.{placeless-Array, placeless-Assign, placeless-Forall, forall-open, assign-closed}
use Rattle.law_texts_spelled_alike.proofs.Texts.{SameStmt, SameBinder}
use Rattle.law_formulas.specs.Monitors as m
use Rattle.law_translated_texts.specs.Parts.{Phrase, Now, Next, When, Weak}
use Rattle.law_translated_texts.specs.Phrases.{Pieces, in_parens, monitor, Binders, names_in, type_of, within, assigned, defining, defined, Stage, outset, under, behind, definitions}
use Rattle.law_written_formulas.specs.Kinds.{kinds_in}
use Rattle.law_written_formulas.specs.Laws.{IsNamed, WritesAside, IsBinder, IsDefined, TypesAreWritten, MonitorsAreDefined}
use Rattle.law_written_formulas.proofs.Writing.{Sp, z, sp-kinds, sp-nothing, sp-seq, sp-end, sp-left, sp-right, sp-name, sp-opener, sp-after, sp-open, sp-one_of, IsFirst, sp-none, sp-more}
use Rattle.law_written_formulas.proofs.WrittenExpressions.{Expression, Is, prim-number, expression-prim}
use Rattle.law_written_formulas.proofs.Pieces.{K, k-cons, k-append, k-one, k-parens, bracketed, k-monitor, zero-kind}
use Rattle.law_written_formulas.proofs.Claims.{monitor-path, definitions-written}

-- ---- words

boolean-kind : kinds_in (codes "boolean") ≡ w.word_boolean ∷ []
unfolding l.word_kind l.word_front l.number_front l.sign_front l.front_of l.lexed_from
boolean-kind = refl

array-kind : kinds_in (codes "array") ≡ w.word_array ∷ []
unfolding l.word_kind l.word_front l.number_front l.sign_front l.front_of l.lexed_from
array-kind = refl

of-kind : kinds_in (codes "of") ≡ w.word_of ∷ []
unfolding l.word_kind l.word_front l.number_front l.sign_front l.front_of l.lexed_from
of-kind = refl

forall-kind : kinds_in (codes "forall") ≡ w.word_forall ∷ []
unfolding l.word_kind l.word_front l.number_front l.sign_front l.front_of l.lexed_from
forall-kind = refl

in-kind : kinds_in (codes "in") ≡ w.word_in ∷ []
unfolding l.word_kind l.word_front l.number_front l.sign_front l.front_of l.lexed_from
in-kind = refl

init-kind : kinds_in (codes "init") ≡ w.word_init ∷ []
unfolding l.word_kind l.word_front l.number_front l.sign_front l.front_of l.lexed_from
init-kind = refl

next-kind : kinds_in (codes "next") ≡ w.word_next ∷ []
unfolding l.word_kind l.word_front l.number_front l.sign_front l.front_of l.lexed_from
next-kind = refl

becomes-kind : kinds_in (codes ":=") ≡ becomes ∷ []
unfolding l.word_kind l.word_front l.number_front l.sign_front l.front_of l.lexed_from
becomes-kind = refl

semicolon-kind : kinds_in (codes ";") ≡ semicolon ∷ []
unfolding l.word_kind l.word_front l.number_front l.sign_front l.front_of l.lexed_from
semicolon-kind = refl

-- ---- types

abbrev pub Types : ℕ → Rule TypeExpr
Types n = g.type_rule z n (below z n)

abbrev array_of : Name × Pieces → Pieces
array_of b = codes "array" ∷ b.1 ++ codes "of" ∷ []

type-kinds : (b : Name × Pieces) (bs : Binders) → K (type_of (b ∷ bs)) ≡ w.word_array ∷ (K b.1 ++ w.word_of ∷ K (type_of bs))
type-kinds b bs =
    ap K (ap (λ q. q ++ codes "boolean" ∷ []) (flat_map-cons array_of b bs) ∙ append_assoc (array_of b) (flat_map array_of bs) (codes "boolean" ∷ []))
    ∙ k-append (array_of b) (type_of bs)
    ∙ ap (λ j. j ++ K (type_of bs)) (k-cons (codes "array") (b.1 ++ codes "of" ∷ []) (w.word_array ∷ []) array-kind ∙ ap (λ j. w.word_array ∷ j) (k-append b.1 (codes "of" ∷ []) ∙ ap (λ j. K b.1 ++ j) (k-one (codes "of") ∙ of-kind)))
    ∙ ap (λ j. w.word_array ∷ j) (append_assoc (K b.1) (w.word_of ∷ []) (K (type_of bs)))

-- `array T of .. boolean`, within as many levels as there are binders, or more
pub type-written : (bs : Binders) (around : m.Around) → AllZip IsBinder bs around → (n : ℕ) → length bs ≤ n → Sp SameType (Types n) (K (type_of bs)) (m.type_of around)
type-written [] [] h n le = sp-kinds SameType (Types n) (w.word_boolean ∷ []) (K (codes "boolean" ∷ [])) type.Boolean (sym (k-one (codes "boolean") ∙ boolean-kind))
    (sp-left SameType g.index _ (w.word_boolean ∷ []) type.Boolean (sp-left SameType _ _ (w.word_boolean ∷ []) type.Boolean (sp-after SameType w.word_boolean refl (nothing type.Boolean) [] type.Boolean (sp-nothing SameType type.Boolean type.Boolean refl))))
type-written (b ∷ bs) ((x, over) ∷ around) h zero le = absurd (omega (arith, le))
type-written (b ∷ bs) ((x, over) ∷ around) h (suc n) le =
    let rest = m.type_of around in
    let whole = type.Array over rest in
    let inner = type-written bs around h.1 n (omega (arith, le)) in
    sp-kinds SameType (Types (suc n)) _ (K (type_of (b ∷ bs))) whole (sym (type-kinds b bs))
    (sp-right SameType _ _ _ whole (sp-right SameType _ _ _ whole (sp-left SameType _ _ _ whole (sp-after SameType w.word_array refl _ (K b.1 ++ w.word_of ∷ K (type_of bs)) whole
    (sp-seq SameType SameType g.index _ (K b.1) (w.word_of ∷ K (type_of bs)) over whole h.0.2 (λ s p. sp-open SameType (suc n) (omega arith) w.word_of refl _ (K (type_of bs)) whole
    (sp-end SameType SameType (Types n) _ (K (type_of bs)) rest whole inner (λ t q. sp-nothing SameType whole (type.Array s t) (placeless-Array over rest ∙ ap (λ v. type.Array v (placeless_type rest)) p ∙ ap (λ v. type.Array (placeless_type s) v) q ∙ sym (placeless-Array s t))))))))))
type-written [] (a ∷ around) h n le = absurd h
type-written (b ∷ bs) [] h n le = absurd h

-- ---- statements behind binders

abbrev pub Statements : ℕ → Rule Stmt
Statements n = g.stmt_rule z n (below z n)

abbrev bound_by : Name × Pieces → Pieces
bound_by b = codes "forall" ∷ in_parens (b.0 ∷ codes "in" ∷ b.1)

abbrev binder_kinds : Name × Pieces → List TokenKind
binder_kinds b = open_paren ∷ Ident b.0 ∷ w.word_in ∷ (K b.1 ++ close_paren ∷ [])

within-kinds : (b : Name × Pieces) (bs : Binders) (ps : Pieces) → IsNamed b.0 → K (within (b ∷ bs) ps) ≡ w.word_forall ∷ (binder_kinds b ++ K (within bs ps))
within-kinds b bs ps named =
    let inside = k-cons b.0 (codes "in" ∷ b.1) (Ident b.0 ∷ []) named ∙ ap (λ j. Ident b.0 ∷ j) (k-cons (codes "in") b.1 (w.word_in ∷ []) in-kind) in
    ap K (ap (λ q. q ++ ps) (flat_map-cons bound_by b bs) ∙ append_assoc (bound_by b) (flat_map bound_by bs) ps)
    ∙ k-append (bound_by b) (within bs ps)
    ∙ ap (λ j. j ++ K (within bs ps)) (k-cons (codes "forall") (in_parens (b.0 ∷ codes "in" ∷ b.1)) (w.word_forall ∷ []) forall-kind ∙ ap (λ j. w.word_forall ∷ j) (k-parens (b.0 ∷ codes "in" ∷ b.1) ∙ ap (λ j. open_paren ∷ j ++ close_paren ∷ []) inside))

binder-written : (n : ℕ) → 0 < n → (b : Name × Pieces) (x : Word) (over : TypeExpr) → IsBinder b (x, over) → Sp SameBinder (g.binder_rule z n (below z n)) (binder_kinds b) (x, over)
binder-written n lt b x over h = sp-open SameBinder n lt open_paren refl _ (Ident b.0 ∷ w.word_in ∷ (K b.1 ++ close_paren ∷ [])) (x, over)
    (sp-seq SameName SameBinder name _ (Ident b.0 ∷ []) (w.word_in ∷ (K b.1 ++ close_paren ∷ [])) x (x, over) (sp-kinds SameName name (Ident x.name ∷ []) (Ident b.0 ∷ []) x (ap (λ i. Ident i ∷ []) (sym h.0)) (sp-name x))
    (λ y p. sp-after SameBinder w.word_in refl _ (K b.1 ++ close_paren ∷ []) (x, over) (sp-seq SameType SameBinder g.index _ (K b.1) (close_paren ∷ []) over (x, over) h.2
    (λ t q. sp-after SameBinder close_paren refl (nothing (y, t)) [] (x, over) (sp-nothing SameBinder (x, over) (y, t) (p, q))))))

forall-same : (x y : Word) (over t : TypeExpr) (u v : Stmt) (a b : ℕ) → x.name ≡ y.name → SameType over t → SameStmt u v → SameStmt (stmt.Forall x over u a) (stmt.Forall y t v b)
forall-same x y over t u v a b p q r = (
  placeless-Forall x over u a ∙ ap (λ k. stmt.Forall (record { name = k; at = 0 }) (placeless_type over) (placeless_stmt u) 0) p ∙ ap (λ k. stmt.Forall (placeless_word y) k (placeless_stmt u) 0) q ∙ ap (λ k. stmt.Forall (placeless_word y) (placeless_type t) k 0) r.0 ∙ sym (placeless-Forall y t v b),
  forall-open x over u a ∙ r.1 ∙ sym (forall-open y t v b),
)

pub within-written : (q : ℕ) → 0 < q → (ps : Pieces) (s : Stmt) → ((j : ℕ) → q ≤ j → Sp SameStmt (Statements j) (K ps) s) →
    (bs : Binders) (around : m.Around) → AllZip IsBinder bs around → (n : ℕ) → length bs + q ≤ n → Sp SameStmt (Statements n) (K (within bs ps)) (m.within around s)
within-written q lt ps s base [] [] h n le = base n (omega (arith, le))
within-written q lt ps s base (b ∷ bs) ((x, over) ∷ around) h zero le = absurd (omega (arith, le, lt))
within-written q lt ps s base (b ∷ bs) ((x, over) ∷ around) h (suc n) le =
    let inner = within-written q lt ps s base bs around h.1 n (omega (arith, le)) in
    let rest = m.within around s in
    let all = stmt.Forall x over rest 0 in
    sp-kinds SameStmt (Statements (suc n)) _ (K (within (b ∷ bs) ps)) all (sym (within-kinds b bs ps h.0.1))
    (sp-left SameStmt _ _ _ all (sp-seq {A = Unit {0}} Any SameStmt (opener z (suc n) w.word_forall) _ (w.word_forall ∷ []) (binder_kinds b ++ K (within bs ps)) tt all (sp-opener (suc n) (omega arith) w.word_forall refl) (λ at _.
    sp-seq SameBinder SameStmt (g.binder_rule z n (below z n)) _ (binder_kinds b) (K (within bs ps)) (x, over) all (binder-written n (omega (arith, le, lt)) b x over h.0) (λ y p.
    sp-end SameStmt SameStmt (Statements n) _ (K (within bs ps)) rest all inner (λ body r. sp-nothing SameStmt all (stmt.Forall y.0 y.1 body at) (forall-same x y.0 over y.1 rest body 0 at p.0 p.1 r))))))
within-written q lt ps s base [] (a ∷ around) h n le = absurd h
within-written q lt ps s base (b ∷ bs) [] h n le = absurd h

-- ---- assignments

abbrev times : List (TokenKind × Kind)
times = (w.word_init, kind.Init) ∷ (w.word_next, kind.Next) ∷ []

assigned-kinds : (word : List ℕ) (k : TokenKind) → kinds_in word ≡ k ∷ [] → (path value : Pieces) → K (assigned word path value) ≡ k ∷ open_paren ∷ (K path ++ close_paren ∷ becomes ∷ (K value ++ semicolon ∷ []))
assigned-kinds word k e path value =
    let behind = codes ":=" ∷ value ++ codes ";" ∷ [] in
    let last : K behind ≡ becomes ∷ (K value ++ semicolon ∷ []) = k-cons (codes ":=") (value ++ codes ";" ∷ []) (becomes ∷ []) becomes-kind ∙ ap (λ j. becomes ∷ j) (k-append value (codes ";" ∷ []) ∙ ap (λ j. K value ++ j) (k-one (codes ";") ∙ semicolon-kind)) in
    ap (λ q. K (word ∷ q)) (append_assoc (in_parens path) (codes ":=" ∷ value) (codes ";" ∷ []))
    ∙ k-cons word (in_parens path ++ behind) (k ∷ []) e
    ∙ ap (λ j. k ∷ j) (k-append (in_parens path) behind ∙ ap (λ j. j ++ K behind) (k-parens path) ∙ ap (λ j. (open_paren ∷ K path ++ close_paren ∷ []) ++ j) last)
    ∙ ap (λ j. k ∷ open_paren ∷ j) (append_assoc (K path) (close_paren ∷ []) (becomes ∷ (K value ++ semicolon ∷ [])))

assign-same : (o : Kind) (i : Kind) (p q : Path) (x y : Expr) (a b : ℕ) → o ≡ i → SamePath p q → SameExpr x y → SameStmt (stmt.Assign o p x a) (stmt.Assign i q y b)
assign-same o i p q x y a b h s r = (
  placeless-Assign o p x a ∙ ap (λ v. stmt.Assign v (placeless_path p) (placeless x) 0) h ∙ ap (λ v. stmt.Assign i v (placeless x) 0) s ∙ ap (λ v. stmt.Assign i (placeless_path q) v 0) r ∙ sym (placeless-Assign i q y b),
  assign-closed o p x a ∙ sym (assign-closed i q y b),
)

-- `init ( path ) := value ;`, or `next`
assigned-written : (n : ℕ) (word : List ℕ) (k : TokenKind) (o : Kind) → kinds_in word ≡ k ∷ [] → found times k ≡ Some o → (path value : Pieces) (p : Path) (e : Expr) → Sp SamePath (g.path_rule z n (below z n)) (K path) p → Is (Expression (suc n)) (K value) e →
    Sp SameStmt (Statements (suc n)) (K (assigned word path value)) (stmt.Assign o p e 0)
assigned-written n word k o kinds is path value p e u v =
    let all = stmt.Assign o p e 0 in
    let behind = becomes ∷ (K value ++ semicolon ∷ []) in
    let valued = sp-after SameExpr becomes refl _ (K value ++ semicolon ∷ []) e (sp-seq SameExpr SameExpr (Expression (suc n)) _ (K value) (semicolon ∷ []) e e v (λ x q. sp-after SameExpr semicolon refl (nothing x) [] e (sp-nothing SameExpr e x q))) in
    sp-kinds SameStmt (Statements (suc n)) _ (K (assigned word path value)) all (sym (assigned-kinds word k kinds path value))
    (sp-right SameStmt _ _ _ all (sp-right SameStmt _ _ _ all (sp-right SameStmt _ _ _ all (sp-left SameStmt _ _ _ all
    (sp-seq IsFirst SameStmt (one_of times) _ (k ∷ []) (open_paren ∷ (K path ++ close_paren ∷ behind)) o all (sp-one_of times k o is) (λ i q. sp-open SameStmt (suc n) (omega arith) open_paren refl _ (K path ++ close_paren ∷ behind) all
    (sp-seq SamePath SameStmt (g.path_rule z n (below z n)) _ (K path) (close_paren ∷ behind) p all u (λ r s. sp-after SameStmt close_paren refl _ behind all
    (sp-end SameExpr SameStmt (g.value z (suc n) (below z (suc n))) _ behind e all valued (λ x t. sp-nothing SameStmt all (stmt.Assign i.0 r x i.1) (assign-same o i.0 p r e x 0 i.1 q s t)))))))))))

-- ---- both definitions of a monitor

names-same : (bs : Binders) (around : m.Around) → AllZip IsBinder bs around → names_in bs ≡ m.names_around around
names-same [] [] h = refl
names-same (b ∷ bs) (a ∷ around) h = ap (λ n. n ∷ names_in bs) h.0.0 ∙ ap (λ ns. a.0.name ∷ ns) (names-same bs around h.1)
names-same [] (a ∷ around) h = absurd h
names-same (b ∷ bs) [] h = absurd h

names-named : (bs : Binders) (around : m.Around) → AllZip IsBinder bs around → AllByRecursion IsNamed (names_in bs)
names-named [] [] h = tt
names-named (b ∷ bs) (a ∷ around) h = (h.0.1, names-named bs around h.1)
names-named [] (a ∷ around) h = absurd h
names-named (b ∷ bs) [] h = absurd h

-- what is spelled alone is spelled before anything
anywhere : (n : ℕ) (ps : Pieces) (e : Expr) → WritesAside n ps e → (j : ℕ) → n ≤ j → Is (Expression j) (K ps) e
anywhere n ps e u j le us rest all q eq = let x = u us q in (x.0, subst (λ s. Expression j s x.0 rest) (sym eq) (spelled-before n j le us x.0 x.1 rest), x.2)

module _ (n : ℕ) (bs : Binders) (around : m.Around) (h : AllZip IsBinder bs around) (v : Name) (is : IsNamed v) where
  abbrev at_claim : Pieces
  at_claim = monitor (names_in bs) v

  abbrev own_path : Path
  own_path = m.path_of (m.names_around around) v

  claim-path : (i : ℕ) → Sp SamePath (g.path_rule z (suc i) (below z (suc i))) (K at_claim) own_path
  claim-path i = subst (λ vs. Sp SamePath (g.path_rule z (suc i) (below z (suc i))) (K at_claim) (m.path_of vs v)) (names-same bs around h) (sp-kinds SamePath (g.path_rule z (suc i) (below z (suc i))) (Ident v ∷ bracketed (names_in bs)) (K at_claim) (m.path_of (names_in bs) v) (sym (k-monitor (names_in bs) (names-named bs around h) v is)) (monitor-path i (names_in bs) v))

  init-written : (j : ℕ) → suc (suc n) ≤ j → Sp SameStmt (Statements j) (K (assigned (codes "init") at_claim (codes "0" ∷ []))) (stmt.Assign kind.Init own_path (expr.Number 0 0) 0)
  init-written zero le = absurd (omega (arith, le))
  init-written (suc zero) le = absurd (omega (arith, le))
  init-written (suc (suc i)) le = assigned-written (suc i) (codes "init") w.word_init kind.Init init-kind refl at_claim (codes "0" ∷ []) own_path (expr.Number 0 0) (claim-path i)
      (sp-kinds SameExpr (Expression (suc (suc i))) (Number 0 ∷ []) (K (codes "0" ∷ [])) (expr.Number 0 0) (sym (k-one (codes "0") ∙ zero-kind)) (expression-prim (suc (suc i)) (Number 0 ∷ []) (expr.Number 0 0) (prim-number (suc (suc i)) 0)))

  next-written : (ps : Pieces) (e : Expr) → WritesAside n ps e → (j : ℕ) → suc (suc n) ≤ j → Sp SameStmt (Statements j) (K (assigned (codes "next") at_claim ps)) (stmt.Assign kind.Next own_path e 0)
  next-written ps e u zero le = absurd (omega (arith, le))
  next-written ps e u (suc zero) le = absurd (omega (arith, le))
  next-written ps e u (suc (suc i)) le = assigned-written (suc i) (codes "next") w.word_next kind.Next next-kind refl at_claim ps own_path e (claim-path i) (anywhere n ps e u (suc (suc i)) (omega (arith, le)))

  pub defining-written : (ps : Pieces) (e : Expr) → WritesAside n ps e → (j : ℕ) → length bs + suc (suc n) ≤ j → (ks : List TokenKind) (more : List Stmt) → Sp (AllZip SameStmt) (many (Statements j)) ks more → Sp (AllZip SameStmt) (many (Statements j)) (K (defining bs (v, ps)) ++ ks) (m.defining around (v, e) ++ more)
  defining-written ps e u j le ks more rest =
      let first = within bs (assigned (codes "init") at_claim (codes "0" ∷ [])) in
      let second = within bs (assigned (codes "next") at_claim ps) in
      let one = within-written (suc (suc n)) (omega arith) (assigned (codes "init") at_claim (codes "0" ∷ [])) (stmt.Assign kind.Init own_path (expr.Number 0 0) 0) init-written bs around h j le in
      let two = within-written (suc (suc n)) (omega arith) (assigned (codes "next") at_claim ps) (stmt.Assign kind.Next own_path e 0) (next-written ps e u) bs around h j le in
      let s1 = m.within around (stmt.Assign kind.Init own_path (expr.Number 0 0) 0) in
      let s2 = m.within around (stmt.Assign kind.Next own_path e 0) in
      sp-kinds (AllZip SameStmt) (many (Statements j)) (K first ++ (K second ++ ks)) (K (first ++ second) ++ ks) (s1 ∷ s2 ∷ more) (sym (append_assoc (K first) (K second) ks) ∙ ap (λ q. q ++ ks) (sym (k-append first second)))
      (sp-more SameStmt (Statements j) (K first) (K second ++ ks) s1 (s2 ∷ more) one (sp-more SameStmt (Statements j) (K second) ks s2 more two rest))

-- ---- all definitions of a formula

-- the monitors that are defined have these names
defined-named : (vars names : List Name) → AllByRecursion IsNamed names → (s : Stage) (p : Phrase (List ℕ)) → AllByRecursion (λ (d : Name × Pieces). IsNamed d.0) (definitions vars names s p)
defined-named vars names is s (Now b) = tt
defined-named vars [] is s (Next p) = tt
defined-named vars (v ∷ names) is s (Next p) = (is.0, defined-named vars names is.1 (behind v) p)
defined-named vars names is s (When b p) = defined-named vars names is (under s b) p
defined-named vars [] is s (Weak a b) = tt
defined-named vars (v ∷ names) is s (Weak a b) = (is.0, tt)

all-defined : (n : ℕ) (bs : Binders) (around : m.Around) (h : AllZip IsBinder bs around) (ds : List (Name × Pieces)) (es : List (Name × Expr)) → AllZip (IsDefined n) ds es → AllByRecursion (λ (d : Name × Pieces). IsNamed d.0) ds → (j : ℕ) → length bs + suc (suc n) ≤ j →
    Sp (AllZip SameStmt) (many (Statements j)) (K (flat_map (defining bs) ds)) (flat_map (m.defining around) es)
all-defined n bs around h [] [] zip named j le = sp-none SameStmt (Statements j)
all-defined n bs around h ((v, ps) ∷ ds) ((u, e) ∷ es) zip named j le =
    let rest = all-defined n bs around h ds es zip.1 named.1 j le in
    let one = defining-written n bs around h v named.0 ps e zip.0.1 j le (K (flat_map (defining bs) ds)) (flat_map (m.defining around) es) rest in
    let values : m.defining around (v, e) ++ flat_map (m.defining around) es ≡ flat_map (m.defining around) ((u, e) ∷ es) = ap (λ w. m.defining around (w, e) ++ flat_map (m.defining around) es) zip.0.0 ∙ sym (flat_map-cons (m.defining around) (u, e) es) in
    subst (λ (l : List Stmt). Sp (AllZip SameStmt) (many (Statements j)) (K (flat_map (defining bs) ((v, ps) ∷ ds))) l) values
    (sp-kinds (AllZip SameStmt) (many (Statements j)) _ (K (flat_map (defining bs) ((v, ps) ∷ ds))) (m.defining around (v, e) ++ flat_map (m.defining around) es) (sym (ap K (flat_map-cons (defining bs) (v, ps) ds) ∙ k-append (defining bs (v, ps)) (flat_map (defining bs) ds))) one)
all-defined n bs around h [] (e ∷ es) zip named j le = absurd zip
all-defined n bs around h (d ∷ ds) [] zip named j le = absurd zip

pub types-written : TypesAreWritten
types-written bs around h j le = type-written bs around h j le

pub monitors-defined : MonitorsAreDefined
monitors-defined n bs around names f p h is r j le =
    let zip = subst (λ vs. AllZip (IsDefined (4 + n)) (definitions (names_in bs) names outset p) (m.definitions vs names m.outset f)) (names-same bs around h) (definitions-written n (names_in bs) names f p (names-named bs around h) is r) in
    all-defined (4 + n) bs around h (definitions (names_in bs) names outset p) (m.definitions (m.names_around around) names m.outset f) zip (defined-named (names_in bs) names is outset p) j (omega (arith, le))
