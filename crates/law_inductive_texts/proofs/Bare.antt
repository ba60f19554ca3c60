-- Whether what an expression says is fine depends on no place.
use Rattle.std.proofs.Common.{◌≡◌, ℕ, List, [], ◌∷◌, ◌++◌, map, Option, Some, None, Bool, true, false, if◌then◌else◌, refl, sym, ap, ◌∙◌, subst}
use Rattle.std.specs.Option.{option_map}
use Rattle.std.specs.Str.{bytes_eq}
use Rattle.std.proofs.lemmas.List.{map-append}
use Rattle.smv_core.specs.Values.{Name}
use Rattle.smv_core.specs.Rows.{Condition}
use Rattle.smv_core.specs.declared.tree.Word.{Word}
use Rattle.smv_core.specs.declared.tree.TypeExpr.{TypeExpr, Boolean, Range, Enum, Named, Array', Struct', end_of-TypeExpr, more_of-TypeExpr, Row_of-Field, end_of-Field, more_of-Field}
use Rattle.smv_core.specs.declared.tree.Part.{Part, Field, At}
use Rattle.smv_core.specs.declared.tree.Member.{One, Span as SpanOf}
use Rattle.smv_core.specs.declared.tree.Expr.{Expr, Number, Signal', Not', And', Or', Implies', Iff', Compare', Within', Sum', Modulo', Choose', All', Any', List', Each', None', Some', Row_of-Expr, end_of-Expr, more_of-Expr, Row_of-Part, end_of-Part, more_of-Part, Row_of-Member, end_of-Member, more_of-Member, Row_of-Signed, end_of-Signed, more_of-Signed, items-the_row-Part}
use Rattle.smv_mentions.specs.Mentions.{Mention, declares, binds, follows, names_type, lists_constants, has_fields, instantiates, bound_at, first_place, binder_in, path_in, fields_in, in_type, in_fields, in_expr, in_row, in_parts, in_sum, in_members, in_held}
use Rattle.smv_mentions.specs.Scopes.{words_of}
use Rattle.law_places.specs.Placeless.{placeless_word, placeless_type, placeless_fields, placeless, placeless_row, placeless_parts, placeless_sum, placeless_members, placeless_held, placeless_part}
use Rattle.law_places.proofs.Expressions.{parts-row}
use Rattle.law_inductive_texts.specs.World.{World, IsFinePath, IsFine, AreFine}

-- a place that is there is the first
abbrev pub nowhere : Option ℕ → Option ℕ
nowhere o = option_map (λ at. 0) o

-- without places
abbrev pub bare : Mention → Mention
bare (declares word what) = declares word what
bare (binds bound var) = binds (nowhere bound) (placeless_word var)
bare (follows bound parts) = follows (nowhere bound) (map placeless_part parts)
bare (names_type word) = names_type (placeless_word word)
bare (lists_constants words) = lists_constants (map placeless_word words)
bare (has_fields words) = has_fields (map placeless_word words)
bare (instantiates word args) = instantiates word args

abbrev pub words_bare : List Word → List Word
words_bare words = map placeless_word words

pub one-more : (vars : List Word) (v : Word) → words_bare (vars ++ v ∷ []) ≡ words_bare vars ++ placeless_word v ∷ []
one-more vars v = map-append placeless_word vars (v ∷ [])

bound-bare : (vars : List Word) (name : Name) → bound_at (words_bare vars) name ≡ nowhere (bound_at vars name)
bound-bare [] name = refl
bound-bare (v ∷ vars) name = ap (λ o. if bytes_eq v.name name then Some (first_place 0 o) else o) (bound-bare vars name) ∙ by_test (bytes_eq v.name name) (bound_at vars name)
  where
    by_test : (b : Bool) (o : Option ℕ) → (if b then Some (first_place 0 (nowhere o)) else nowhere o) ≡ nowhere (if b then Some (first_place v.at o) else o)
    by_test true None = refl
    by_test true (Some at) = refl
    by_test false o = refl

path-bare : (vars : List Word) (parts : List Part) → path_in (words_bare vars) (map placeless_part parts) ≡ bare (path_in vars parts)
path-bare vars [] = refl
path-bare vars (At index ∷ parts) = refl
path-bare vars (Field word ∷ parts) = ap (λ o. follows o (map placeless_part (Field word ∷ parts))) (bound-bare vars word.name)

binder-bare : (vars : List Word) (v : Word) → binder_in (words_bare vars) (placeless_word v) ≡ bare (binder_in vars v)
binder-bare vars v = ap (λ o. binds o (placeless_word v)) (bound-bare vars v.name)

fields-bare : (m : _) (fields : Row_of-Field m) → fields_in (placeless_fields fields) ≡ words_bare (fields_in fields)
unfolding placeless_type
fields-bare m end_of-Field = refl
fields-bare m (more_of-Field names of at rest) = ap (λ l. map placeless_word names ++ l) (fields-bare _ rest) ∙ sym (map-append placeless_word names (fields_in rest))

-- two parts
both-bare : (xs ys xs' ys' : List Mention) → xs' ≡ map bare xs → ys' ≡ map bare ys → xs' ++ ys' ≡ map bare (xs ++ ys)
both-bare xs ys xs' ys' p q = ap (λ l. l ++ ys') p ∙ ap (λ l. map bare xs ++ l) q ∙ sym (map-append bare xs ys)

mutual
  unfolding in_type placeless_type

  type-bare : (t : TypeExpr) → in_type (placeless_type t) ≡ map bare (in_type t)
  type-bare Boolean = refl
  type-bare (Range span at) = refl
  type-bare (Enum names at) = refl
  type-bare (Named word at) = refl
  type-bare (Array' i (more_of-TypeExpr index end_of-TypeExpr) o (more_of-TypeExpr of end_of-TypeExpr)) = both-bare (in_type index) (in_type of) (in_type (placeless_type index)) (in_type (placeless_type of)) (type-bare index) (type-bare of)
  type-bare (Struct' shape fields) = ap (λ l. has_fields l ∷ in_fields (placeless_fields fields)) (fields-bare _ fields) ∙ ap (λ l. has_fields (words_bare (fields_in fields)) ∷ l) (in-fields-bare fields)

  in-fields-bare : {m : _} (fields : Row_of-Field m) → in_fields (placeless_fields fields) ≡ map bare (in_fields fields)
  in-fields-bare end_of-Field = refl
  in-fields-bare (more_of-Field names of at rest) = both-bare (in_type of) (in_fields rest) (in_type (placeless_type of)) (in_fields (placeless_fields rest)) (type-bare of) (in-fields-bare rest)

-- two expressions
two-bare : (vars : List Word) (left right : Expr) → in_expr (words_bare vars) (placeless left) ≡ map bare (in_expr vars left) → in_expr (words_bare vars) (placeless right) ≡ map bare (in_expr vars right) →
    in_expr (words_bare vars) (placeless left) ++ in_expr (words_bare vars) (placeless right) ≡ map bare (in_expr vars left ++ in_expr vars right)
two-bare vars left right p q = both-bare (in_expr vars left) (in_expr vars right) (in_expr (words_bare vars) (placeless left)) (in_expr (words_bare vars) (placeless right)) p q

-- what stands under a variable
reduced-bare : (vars : List Word) (body : Expr) (word : Word) (over : TypeExpr) → in_expr (words_bare (vars ++ word ∷ [])) (placeless body) ≡ map bare (in_expr (vars ++ word ∷ []) body) →
    in_expr (words_bare vars ++ placeless_word word ∷ []) (placeless body) ++ binder_in (words_bare vars) (placeless_word word) ∷ in_type (placeless_type over) ≡ map bare (in_expr (vars ++ word ∷ []) body ++ binder_in vars word ∷ in_type over)
reduced-bare vars body word over p =
    both-bare (in_expr (vars ++ word ∷ []) body) (binder_in vars word ∷ in_type over) (in_expr (words_bare vars ++ placeless_word word ∷ []) (placeless body)) (binder_in (words_bare vars) (placeless_word word) ∷ in_type (placeless_type over))
    (ap (λ l. in_expr l (placeless body)) (sym (one-more vars word)) ∙ p)
    (ap (λ m. m ∷ in_type (placeless_type over)) (binder-bare vars word) ∙ ap (λ l. bare (binder_in vars word) ∷ l) (type-bare over))

mutual
  unfolding in_expr placeless

  pub expr-bare : (vars : List Word) (e : Expr) → in_expr (words_bare vars) (placeless e) ≡ map bare (in_expr vars e)
  expr-bare vars (Number value at) = refl
  expr-bare vars (Signal' shape parts at) = ap (λ l. path_in (words_bare vars) l ∷ in_parts (words_bare vars) (placeless_parts parts)) (parts-row _ parts)
      ∙ ap (λ m. m ∷ in_parts (words_bare vars) (placeless_parts parts)) (path-bare vars (items-the_row-Part _ parts)) ∙ ap (λ l. bare (path_in vars (items-the_row-Part _ parts)) ∷ l) (parts-bare vars parts)
  expr-bare vars (Not' shape (more_of-Expr e end_of-Expr) at) = expr-bare vars e
  expr-bare vars (And' shape parts) = row-bare vars parts
  expr-bare vars (Or' shape parts) = row-bare vars parts
  expr-bare vars (Implies' shape parts) = row-bare vars parts
  expr-bare vars (Iff' l (more_of-Expr left end_of-Expr) r (more_of-Expr right end_of-Expr)) = two-bare vars left right (expr-bare vars left) (expr-bare vars right)
  expr-bare vars (Compare' op l (more_of-Expr left end_of-Expr) r (more_of-Expr right end_of-Expr)) = two-bare vars left right (expr-bare vars left) (expr-bare vars right)
  expr-bare vars (Within' l (more_of-Expr left end_of-Expr) r (more_of-Expr set end_of-Expr)) = two-bare vars left set (expr-bare vars left) (expr-bare vars set)
  expr-bare vars (Sum' f (more_of-Expr first end_of-Expr) shape more) = both-bare (in_expr vars first) (in_sum vars more) (in_expr (words_bare vars) (placeless first)) (in_sum (words_bare vars) (placeless_sum more)) (expr-bare vars first) (sum-bare vars more)
  expr-bare vars (Modulo' shape (more_of-Expr e end_of-Expr) by at) = expr-bare vars e
  expr-bare vars (Choose' t (more_of-Expr test end_of-Expr) l (more_of-Expr left end_of-Expr) r (more_of-Expr right end_of-Expr)) =
      both-bare (in_expr vars test ++ in_expr vars left) (in_expr vars right) (in_expr (words_bare vars) (placeless test) ++ in_expr (words_bare vars) (placeless left)) (in_expr (words_bare vars) (placeless right)) (two-bare vars test left (expr-bare vars test) (expr-bare vars left)) (expr-bare vars right)
  expr-bare vars (All' shape (more_of-Expr body end_of-Expr) word over at) = reduced-bare vars body word over (expr-bare (vars ++ word ∷ []) body)
  expr-bare vars (Any' shape (more_of-Expr body end_of-Expr) word over at) = reduced-bare vars body word over (expr-bare (vars ++ word ∷ []) body)
  expr-bare vars (List' shape members at) = members-bare vars members
  expr-bare vars (Each' word over held at) =
      ap (λ m. m ∷ in_type (placeless_type over) ++ in_held (words_bare vars ++ placeless_word word ∷ []) (placeless_held held)) (binder-bare vars word)
      ∙ ap (λ l. bare (binder_in vars word) ∷ l) (both-bare (in_type over) (in_held (vars ++ word ∷ []) held) (in_type (placeless_type over)) (in_held (words_bare vars ++ placeless_word word ∷ []) (placeless_held held)) (type-bare over)
      (ap (λ l. in_held l (placeless_held held)) (sym (one-more vars word)) ∙ held-bare (vars ++ word ∷ []) held))

  row-bare : {m : _} (vars : List Word) (row : Row_of-Expr m) → in_row (words_bare vars) (placeless_row row) ≡ map bare (in_row vars row)
  row-bare vars end_of-Expr = refl
  row-bare vars (more_of-Expr e rest) = both-bare (in_expr vars e) (in_row vars rest) (in_expr (words_bare vars) (placeless e)) (in_row (words_bare vars) (placeless_row rest)) (expr-bare vars e) (row-bare vars rest)

  parts-bare : {m : _} (vars : List Word) (row : Row_of-Part m) → in_parts (words_bare vars) (placeless_parts row) ≡ map bare (in_parts vars row)
  parts-bare vars end_of-Part = refl
  parts-bare vars (more_of-Part (Field word) rest) = parts-bare vars rest
  parts-bare vars (more_of-Part (At index) rest) = both-bare (in_expr vars index) (in_parts vars rest) (in_expr (words_bare vars) (placeless index)) (in_parts (words_bare vars) (placeless_parts rest)) (expr-bare vars index) (parts-bare vars rest)

  sum-bare : {m : _} (vars : List Word) (row : Row_of-Signed m) → in_sum (words_bare vars) (placeless_sum row) ≡ map bare (in_sum vars row)
  sum-bare vars end_of-Signed = refl
  sum-bare vars (more_of-Signed minus e rest) = both-bare (in_expr vars e) (in_sum vars rest) (in_expr (words_bare vars) (placeless e)) (in_sum (words_bare vars) (placeless_sum rest)) (expr-bare vars e) (sum-bare vars rest)

  members-bare : {m : _} (vars : List Word) (row : Row_of-Member m) → in_members (words_bare vars) (placeless_members row) ≡ map bare (in_members vars row)
  members-bare vars end_of-Member = refl
  members-bare vars (more_of-Member (One e) rest) = both-bare (in_expr vars e) (in_members vars rest) (in_expr (words_bare vars) (placeless e)) (in_members (words_bare vars) (placeless_members rest)) (expr-bare vars e) (members-bare vars rest)
  members-bare vars (more_of-Member (SpanOf span at) rest) = members-bare vars rest

  held-bare : (vars : List Word) (held : Condition) → in_held (words_bare vars) (placeless_held held) ≡ map bare (in_held vars held)
  held-bare vars None' = refl
  held-bare vars (Some' shape (more_of-Expr test end_of-Expr)) = expr-bare vars test

module _ (w : World) where
  words-of-bare : (parts : List Part) → words_of (map placeless_part parts) ≡ words_bare (words_of parts)
  words-of-bare [] = refl
  words-of-bare (Field word ∷ parts) = ap (λ l. placeless_word word ∷ l) (words-of-bare parts)
  words-of-bare (At index ∷ parts) = words-of-bare parts

  none-bare : (words : List Word) → words_bare words ≡ [] → words ≡ []
  none-bare [] e = refl
  none-bare (word ∷ words) e = absurd (cc (e))

  path-from : (o : Option ℕ) (words : List Word) → IsFinePath w (nowhere o) (words_bare words) → IsFinePath w o words
  path-from o [] h = tt
  path-from None (word ∷ words) h = h
  path-from (Some at) (word ∷ words) h = λ e. none-bare words (h e)

  path-to : (o : Option ℕ) (words : List Word) → IsFinePath w o words → IsFinePath w (nowhere o) (words_bare words)
  path-to o [] h = tt
  path-to None (word ∷ words) h = h
  path-to (Some at) (word ∷ words) h = λ e. ap words_bare (h e)

  free-from : (o : Option ℕ) → nowhere o ≡ None → o ≡ None
  free-from None e = refl
  free-from (Some at) e = absurd (cc (e))

  from-one : (m : Mention) → IsFine w (bare m) → IsFine w m
  from-one (declares word what) h = tt
  from-one (binds bound var) h = (free-from bound h.0, h.1)
  from-one (follows bound parts) h = path-from bound (words_of parts) (subst (IsFinePath w (nowhere bound)) (words-of-bare parts) h)
  from-one (names_type word) h = h
  from-one (lists_constants words) h = tt
  from-one (has_fields words) h = tt
  from-one (instantiates word args) h = tt

  to-one : (m : Mention) → IsFine w m → IsFine w (bare m)
  to-one (declares word what) h = tt
  to-one (binds bound var) h = (ap nowhere h.0, h.1)
  to-one (follows bound parts) h = subst (IsFinePath w (nowhere bound)) (sym (words-of-bare parts)) (path-to bound (words_of parts) h)
  to-one (names_type word) h = h
  to-one (lists_constants words) h = tt
  to-one (has_fields words) h = tt
  to-one (instantiates word args) h = tt

  pub from-bare : (ms : List Mention) → AreFine w (map bare ms) → AreFine w ms
  from-bare [] h = tt
  from-bare (m ∷ ms) h = (from-one m h.0, from-bare ms h.1)

  pub to-bare : (ms : List Mention) → AreFine w ms → AreFine w (map bare ms)
  to-bare [] h = tt
  to-bare (m ∷ ms) h = (to-one m h.0, to-bare ms h.1)

  -- what one expression says is fine where what another says is, which is the same but for its places
  pub fine-alike : (vars others : List Word) (e d : Expr) → words_bare vars ≡ words_bare others → placeless e ≡ placeless d → AreFine w (in_expr vars e) → AreFine w (in_expr others d)
  fine-alike vars others e d v p h =
      from-bare (in_expr others d) (subst (AreFine w) (sym (expr-bare vars e) ∙ ap (λ l. in_expr l (placeless e)) v ∙ ap (in_expr (words_bare others)) p ∙ expr-bare others d) (to-bare (in_expr vars e) h))
