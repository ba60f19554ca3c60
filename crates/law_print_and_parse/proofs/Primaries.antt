-- Paths, sets and reductions are read again from their canonical tokens.
use Rattle.std.proofs.Common.{◌≡◌, ℕ, suc, nat_lt, if◌then◌else◌, true, false, List, [], ◌∷◌, ◌++◌, Option, Some, None, map, refl, ap, sym, ◌∙◌, subst, append_assoc, arith}
use Rattle.std.specs.List.{flat_map}
use Rattle.std.specs.Option.{option_map}
use Rattle.std.proofs.lemmas.List.Folds.{flat_map-map}
use Rattle.smv_core.specs.declared.token.TokenKind.{TokenKind}
use Rattle.smv_core.specs.declared.token.TokenKind.TheVariants.{Ident}
use Rattle.smv_core.specs.declared.tree.Word.{Word}
use Rattle.smv_core.specs.declared.tree.Span.{Span}
use Rattle.smv_core.specs.declared.tree.TypeExpr.{TypeExpr}
use Rattle.smv_core.specs.declared.tree.Expr.{Expr}
use Rattle.smv_core.specs.declared.tree.Expr.TheVariants as expr
use Rattle.smv_core.specs.declared.tree.Member.{Member}
use Rattle.smv_core.specs.declared.tree.Member.TheVariants as member
use Rattle.smv_core.specs.declared.tree.Part.{Part}
use Rattle.smv_core.specs.declared.tree.Part.TheVariants as part
use Rattle.smv_core.specs.declared.tree.Path.{Path, roll-Path}
use Rattle.smv_core.specs.Signs.{open_paren, close_paren, open_bracket, close_bracket, open_brace, close_brace, colon, comma, ampersand, bar}
use Rattle.smv_core.specs.Signs as w
use Rattle.smv_core.specs.Notation.{many, optional, one_of, separated, token, ◌>>◌}
use Rattle.smv_core.specs.Grammar as g
use Rattle.smv_core.specs.Grammar.{named}
use Rattle.smv_print.specs.Written.{Kinds}
use Rattle.smv_print.specs.Written as s
use Rattle.smv_print.specs.Types.{type_kinds}
use Rattle.smv_print.specs.Expressions.{Spelled, spelled, within, alone, comprehension, condition, reduction, member_kinds, part_kinds, path_kinds}
use Rattle.smv_print.proofs.ExpressionLaws.{spelled-Signal, spelled-Within, spelled-All, spelled-Any, spelled-List, spelled-Each}
use Rattle.smv_print.proofs.ExpressionLaws as k
use Rattle.law_print_and_parse.specs.Aside.{word_aside, type_aside, expr_aside, member_aside, part_aside, path_aside}
use Rattle.law_print_and_parse.proofs.AsideLaws.{expr-Signal, expr-Within, expr-All, expr-Any, expr-List, expr-Each, path-aside, path-rolled}
use Rattle.law_print_and_parse.proofs.AsideLaws as a
use Rattle.law_print_and_parse.proofs.Again.{Again, next, made, ended, left, right, regroup, sign, level, a-name, an-entry, a-same-name}
use Rattle.law_print_and_parse.proofs.Types.{SameType, word-same, name-again, span-again}
use Rattle.law_print_and_parse.proofs.Levels.{f, inner, SameExpr, rule_at, At, Bare, bare-of}

-- ---- paths

abbrev pub SamePart : Part → Part → Type 0
SamePart x y = part_aside y ≡ part_aside x

abbrev pub SamePath : Path → Path → Type 0
SamePath x y = path_aside y ≡ path_aside x

field-same : (x y : Word) → word_aside y ≡ word_aside x → SamePart (part.Field x) (part.Field y)
field-same x y e = a.part-Field y ∙ ap (λ (z : Word). part.Field z) e ∙ sym (a.part-Field x)

pub field-again : (m : ℕ) (x : Word) → Again (g.part_rule f m (inner m)) (part_kinds (part.Field x) false) (SamePart (part.Field x))
field-again m x = regroup (sym (k.part-Field x false)) (left (sign refl (λ _. made (name-again x) (λ y e. field-same x y e))))

pub index-again : (m : ℕ) (x : Expr) → At 0 m x → Again (g.part_rule f (suc m) (inner (suc m))) (part_kinds (part.At x) false) (SamePart (part.At x))
index-again m x h = regroup (sym (k.part-At x false)) (right (level (omega arith) refl (λ _. next h (λ u d. sign refl (λ _. ended
    (a.part-At u ∙ ap (λ (z : Expr). part.At z) d ∙ sym (a.part-At x)))))))

abbrev pub behind : Part → Kinds
behind q = part_kinds q false

pub path-of-parts : (x : Word) (more : List Part) → path_kinds (named x more) ≡ Ident x.name ∷ flat_map behind more
path-of-parts x more =
    path-rolled (part.Field x ∷ more) x.at
    ∙ ap (λ (ks : Kinds). ks ++ flat_map (λ q. q false) (map part_kinds more)) (k.part-Field x true)
    ∙ ap (λ (ks : Kinds). Ident x.name ∷ ks) (flat_map-map (λ q. q false) part_kinds more)

pub named-same : (x y : Word) (more ys : List Part) → word_aside y ≡ word_aside x → map part_aside ys ≡ map part_aside more → SamePath (named x more) (named y ys)
named-same x y more ys d e =
    path-aside (part.Field y ∷ ys) y.at
    ∙ ap (λ (z : Part). roll-Path (record { parts = z ∷ map part_aside ys; at = 0 })) (field-same x y d)
    ∙ ap (λ (zs : List Part). roll-Path (record { parts = part_aside (part.Field x) ∷ zs; at = 0 })) e
    ∙ sym (path-aside (part.Field x ∷ more) x.at)

pub path-again : (m : ℕ) (x : Word) (more : List Part) → Again (many (g.part_rule f m (inner m))) (flat_map behind more) (λ ys. map part_aside ys ≡ map part_aside more)
    → Again (g.path_rule f m (inner m)) (path_kinds (named x more)) (SamePath (named x more))
path-again m x more h = regroup (sym (path-of-parts x more)) (next (name-again x) (λ y d. made h (λ ys e. named-same x y more ys d e)))

pub signal-bare : (m : ℕ) (p : Path) → Again (g.path_rule f m (inner m)) (path_kinds p) (SamePath p) → Bare m (expr.Signal p)
signal-bare m p h = bare-of m (expr.Signal p) (alone (path_kinds p)) (spelled-Signal p)
    (right (left (made h (λ y e. expr-Signal y ∙ ap (λ (z : Path). expr.Signal z) e ∙ sym (expr-Signal p)))))

-- ---- sets

abbrev pub SameMember : Member → Member → Type 0
SameMember x y = member_aside y ≡ member_aside x

pub one-again : (m : ℕ) (x : Expr) → At 0 m x → Again (g.member_rule f m (inner m)) (member_kinds (member.One x)) (SameMember (member.One x))
one-again m x h = regroup (sym (k.member-One x)) (left (made h (λ u d. a.member-One u ∙ ap (λ (z : Expr). member.One z) d ∙ sym (a.member-One x))))

pub several-again : (m : ℕ) (x : Span) (at : ℕ) → Again (g.member_rule f m (inner m)) (member_kinds (member.Span x at)) (SameMember (member.Span x at))
several-again m x at = regroup (sym (k.member-Span x at)) (right (made (span-again x) (λ y e. a.member-Span y.0 y.1 ∙ ap (λ (z : Span). member.Span z 0) e ∙ sym (a.member-Span x at))))

-- the tokens of a set, which need no parentheses, are read again by the rule of sets
pub record SetAgain (m : ℕ) (x : Expr) : Type 0 where
  pub primary : (spelled x).binding ≡ 9
  pub again : Again (g.set f m (inner m)) (spelled x).bare (SameExpr x)

set-of : (m : ℕ) (x : Expr) (ks : Kinds) → spelled x ≡ alone ks → Again (g.set f m (inner m)) ks (SameExpr x) → SetAgain m x
set-of m x ks e h = record { primary = ap (λ (u : Spelled). u.binding) e; again = regroup (sym (ap (λ (u : Spelled). u.bare) e)) h }

pub list-again : (m : ℕ) (members : List Member) (at : ℕ)
    → Again (separated (g.member_rule f m (inner m))) (s.separated comma (map member_kinds members)) (λ ys. map member_aside ys ≡ map member_aside members) → SetAgain (suc m) (expr.List members at)
list-again m members at h = set-of (suc m) (expr.List members at) (open_brace ∷ s.separated comma (map member_kinds members) ++ close_brace ∷ []) (spelled-List members at)
    (left (level (omega arith) refl (λ at'. next h (λ ys e. sign refl (λ _. ended
    (expr-List ys at' ∙ ap (λ (zs : List Member). expr.List zs 0) e ∙ sym (expr-List members at)))))))

abbrev SameOption : Option Expr → Option Expr → Type 0
SameOption x y = option_map expr_aside y ≡ option_map expr_aside x

-- the condition of a comprehension, if there is one, is read again
abbrev pub OptionAt : ℕ → Option Expr → Type 0
OptionAt m None = Unit {0}
OptionAt m (Some c) = At 0 m c

condition-again : (m : ℕ) (c : Option Expr) → OptionAt m c → Again (optional (token comma >> g.expr_rule f m (inner m))) (condition (option_map spelled c)) (SameOption c)
condition-again m None h = right (ended refl)
condition-again m (Some c) h = left (made (sign refl (λ _. h)) (λ u d. ap (λ (z : Expr). let o : Option Expr = Some z in o) d))

each-same : (v x : Word) (over of : TypeExpr) (c d : Option Expr) (at at' : ℕ) → x.name ≡ v.name → SameType over of → SameOption c d → SameExpr (expr.Each v over c at) (expr.Each x of d at')
each-same v x over of c d at at' p q r =
    expr-Each x of d at' ∙ ap (λ (z : Word). expr.Each z (type_aside of) (option_map expr_aside d) 0) (word-same v x p)
    ∙ ap (λ (z : TypeExpr). expr.Each (word_aside v) z (option_map expr_aside d) 0) q ∙ ap (λ (z : Option Expr). expr.Each (word_aside v) (type_aside over) z 0) r
    ∙ sym (expr-Each v over c at)

pub each-again : (m : ℕ) (v : Word) (over : TypeExpr) (c : Option Expr) (at : ℕ) → Again g.index (type_kinds over) (SameType over) → OptionAt m c → SetAgain (suc m) (expr.Each v over c at)
each-again m v over c at t h = set-of (suc m) (expr.Each v over c at) (comprehension v over (option_map spelled c)) (spelled-Each v over c at)
    (regroup (sym (append_assoc (open_brace ∷ Ident v.name ∷ colon ∷ Ident v.name ∷ w.word_in ∷ type_kinds over) (condition (option_map spelled c)) (close_brace ∷ [])))
    (right (level (omega arith) refl (λ at'. next (a-name v.name) (λ x p. sign refl (λ _. next (a-same-name v.name x p) (λ _ _. sign refl (λ _. next t (λ of q.
    next (condition-again m c h) (λ d r. sign refl (λ _. ended (each-same v x over of c d at at' p q r))))))))))))

within-primary : (x : Spelled) → x.binding ≡ 9 → within 9 x ≡ x.bare
within-primary x e = ap (λ (b : ℕ). if nat_lt b 9 then open_paren ∷ x.bare ++ close_paren ∷ [] else x.bare) e

pub within-bare : (m : ℕ) (x set : Expr) → At 7 m x → SetAgain m set → Bare m (expr.Within x set)
within-bare m x set h q = bare-of m (expr.Within x set) (record { binding = 6; bare = within 7 (spelled x) ++ w.word_in ∷ within 9 (spelled set) }) (spelled-Within x set)
    (next h (λ u d. right (left (sign refl (λ _. made (regroup (sym (within-primary (spelled set) q.primary)) q.again) (λ v e.
    expr-Within u v ∙ ap (λ (z : Expr). expr.Within z (expr_aside v)) d ∙ ap (λ (z : Expr). expr.Within (expr_aside x) z) e ∙ sym (expr-Within x set)))))))

pub set-bare : (m : ℕ) (x : Expr) → SetAgain m x → Bare m x
set-bare m x q = let P : ℕ → Type 0 = λ b. Again (rule_at b m) (spelled x).bare (SameExpr x) in subst P (sym q.primary) (right (right (right (left q.again))))

-- ---- reductions

abbrev Reduction : Type 0
Reduction = Expr → Word → TypeExpr → ℕ → Expr

abbrev reductions : List (TokenKind × Reduction)
reductions = (ampersand, expr.All) ∷ (bar, expr.Any) ∷ []

reduction-same : (make make' : Reduction) → ((x : Expr) (v : Word) (over : TypeExpr) (at : ℕ) → expr_aside (make x v over at) ≡ make (expr_aside x) (word_aside v) (type_aside over) 0)
    → (x u : Expr) (v y : Word) (over of : TypeExpr) (at at' : ℕ) → make' ≡ make → SameExpr x u → y.name ≡ v.name → SameType over of → SameExpr (make x v over at) (make' u y of at')
reduction-same make make' law x u v y over of at at' b d p q =
    ap (λ (z : Reduction). expr_aside (z u y of at')) b ∙ law u y of at' ∙ ap (λ (z : Expr). make z (word_aside y) (type_aside of) 0) d
    ∙ ap (λ (z : Word). make (expr_aside x) z (type_aside of) 0) (word-same v y p) ∙ ap (λ (z : TypeExpr). make (expr_aside x) (word_aside v) z 0) q ∙ sym (law x v over at)

reduction-again : (m : ℕ) (mark : TokenKind) (make : Reduction) → Again (one_of reductions) (mark ∷ []) (λ y. y.0 ≡ make)
    → ((x : Expr) (v : Word) (over : TypeExpr) (at : ℕ) → expr_aside (make x v over at) ≡ make (expr_aside x) (word_aside v) (type_aside over) 0)
    → (x : Expr) (v : Word) (over : TypeExpr) (at : ℕ) → At 0 m x → Again g.index (type_kinds over) (SameType over)
    → Again (g.prim f (suc m) (inner (suc m))) (reduction mark (spelled x) v over) (SameExpr (make x v over at))
reduction-again m mark make entry law x v over at h t =
    regroup (sym (append_assoc (mark ∷ open_bracket ∷ within 0 (spelled x)) (colon ∷ Ident v.name ∷ w.word_in ∷ type_kinds over) (close_bracket ∷ [])))
    (right (right (right (right (next entry (λ make' b. level (omega arith) refl (λ _. next h (λ u d. sign refl (λ _. next (a-name v.name) (λ y p. sign refl (λ _. next t (λ of q. sign refl (λ _. ended
    (reduction-same make make'.0 law x u v y over of at make'.1 b d p q))))))))))))))

pub all-bare : (m : ℕ) (x : Expr) (v : Word) (over : TypeExpr) (at : ℕ) → At 0 m x → Again g.index (type_kinds over) (SameType over) → Bare (suc m) (expr.All x v over at)
all-bare m x v over at h t = bare-of (suc m) (expr.All x v over at) (alone (reduction w.ampersand (spelled x) v over)) (spelled-All x v over at)
    (reduction-again m w.ampersand expr.All (an-entry reductions refl) expr-All x v over at h t)

pub any-bare : (m : ℕ) (x : Expr) (v : Word) (over : TypeExpr) (at : ℕ) → At 0 m x → Again g.index (type_kinds over) (SameType over) → Bare (suc m) (expr.Any x v over at)
any-bare m x v over at h t = bare-of (suc m) (expr.Any x v over at) (alone (reduction w.bar (spelled x) v over)) (spelled-Any x v over at)
    (reduction-again m w.bar expr.Any (an-entry reductions refl) expr-Any x v over at h t)
