-- Places in expressions and types say nothing.
use Rattle.std.proofs.Common.{◌≡◌, List, [], ◌∷◌, map, flat_map, filter, Some, Bool, refl, ap, ◌∙◌}
use Rattle.smv_core.specs.Values.{Value, Sizes, Outcome, truth, bit, not_of, conjunction, disjunction, implication, add, modulo}
use Rattle.smv_core.specs.Types.{Types, names_of, shape_of, shape_of_fields, behind, values_over}
use Rattle.smv_core.specs.Outcome.{State, Scene, Bindings, outcome, truths, indexes, sum_with, listed, members_of, fields_of, meets, is_true, allowed_by, fit}
use Rattle.smv_core.specs.Assignments.{Around, index_of, index_of_sum, index_of_path, add_fixed, modulo_fixed}
use Rattle.smv_core.specs.declared.tree.Word.{Word}
use Rattle.smv_core.specs.declared.tree.TypeExpr.{TypeExpr, Boolean, Range, Enum, Named, Array', Struct', end_of-TypeExpr, more_of-TypeExpr, Row_of-Field, end_of-Field, more_of-Field}
use Rattle.smv_core.specs.declared.tree.Part.{Part, Field, At}
use Rattle.smv_core.specs.declared.tree.Member.{One, Span as SpanOf}
use Rattle.smv_core.specs.declared.tree.Expr.{Expr, Number, Signal', Not', And', Or', Implies', Iff', Compare', Within', Sum', Modulo', Choose', All', Any', List', Each', Held-Expr-Each-2, None', Some', Row_of-Expr, end_of-Expr, more_of-Expr, Row_of-Part, end_of-Part, more_of-Part, Row_of-Member, end_of-Member, more_of-Member, Row_of-Signed, end_of-Signed, more_of-Signed, items-the_row-Part}
use Rattle.law_places.specs.Placeless.{placeless_word, placeless_type, placeless_fields, placeless, placeless_row, placeless_parts, placeless_sum, placeless_members, placeless_held, placeless_part}

pub map-same : {X Y : Type 0} (f g : X → Y) (xs : List X) → ((x : X) → f x ≡ g x) → map f xs ≡ map g xs
map-same f g [] h = refl
map-same f g (x ∷ xs) h = rw (h x, map-same f g xs h) refl

pub filter-same : {X : Type 0} (f g : X → Bool) (xs : List X) → ((x : X) → f x ≡ g x) → filter f xs ≡ filter g xs
filter-same f g [] h = refl
filter-same f g (x ∷ xs) h = rw (h x, filter-same f g xs h) refl

pub placeless-names : (words : List Word) → names_of (map placeless_word words) ≡ names_of words
placeless-names [] = refl
placeless-names (word ∷ words) = ap (λ l. word.name ∷ l) (placeless-names words)

pub map-words : {Y : Type 0} (f : Word → List Y) → ((word : Word) → f (placeless_word word) ≡ f word) → (words : List Word) → flat_map f (map placeless_word words) ≡ flat_map f words
map-words f h [] = refl
map-words f h (word ∷ words) = rw (h word, map-words f h words) refl

module _ (types : Types) where
  mutual
    unfolding placeless_type

    pub placeless-shape : (t : TypeExpr) → shape_of types (placeless_type t) ≡ shape_of types t
    placeless-shape Boolean = refl
    placeless-shape (Range span at) = refl
    placeless-shape (Enum names at) = rw (placeless-names names) refl
    placeless-shape (Named word at) = refl
    placeless-shape (Array' i (more_of-TypeExpr index end_of-TypeExpr) o (more_of-TypeExpr of end_of-TypeExpr)) = rw (placeless-shape index, placeless-shape of) refl
    placeless-shape (Struct' shape fields) = placeless-shapes fields

    placeless-shapes : {m : _} (fields : Row_of-Field m) → shape_of_fields types (placeless_fields fields) ≡ shape_of_fields types fields
    placeless-shapes end_of-Field = refl
    placeless-shapes (more_of-Field names of at rest) = rw (placeless-shape of, placeless-shapes rest, map-words (λ word. map (behind (word.name ∷ [])) (shape_of types of)) (λ word. refl) names) refl

  pub placeless-values : (sizes : Sizes) (t : TypeExpr) → values_over types sizes (placeless_type t) ≡ values_over types sizes t
  placeless-values sizes t = rw (placeless-shape t) refl

pub parts-row : (m : _) (row : Row_of-Part m) → items-the_row-Part m (placeless_parts row) ≡ map placeless_part (items-the_row-Part m row)
unfolding placeless
parts-row m end_of-Part = refl
parts-row m (more_of-Part (Field word) rest) = ap (λ l. Field (placeless_word word) ∷ l) (parts-row _ rest)
parts-row m (more_of-Part (At index) rest) = ap (λ l. At (placeless index) ∷ l) (parts-row _ rest)

pub placeless-fields : (parts : List Part) → fields_of (map placeless_part parts) ≡ fields_of parts
placeless-fields [] = refl
placeless-fields (Field word ∷ parts) = ap (λ l. word.name ∷ l) (placeless-fields parts)
placeless-fields (At index ∷ parts) = placeless-fields parts

row-fields : (m : _) (row : Row_of-Part m) → fields_of (items-the_row-Part m (placeless_parts row)) ≡ fields_of (items-the_row-Part m row)
row-fields m row = ap fields_of (parts-row m row) ∙ placeless-fields (items-the_row-Part m row)

module _ (scene : Scene) (s : State) where
  mutual
    unfolding placeless

    pub placeless-outcome : (e : Expr) (b : Bindings) → outcome scene s (placeless e) b ≡ outcome scene s e b
    placeless-outcome (Number value at) b = refl
    placeless-outcome (Signal' shape parts at) b = rw (row-fields _ parts, placeless-indexes parts b) refl
    placeless-outcome (Not' shape (more_of-Expr e end_of-Expr) at) b = ap (λ u. bit (not_of (truth u))) (placeless-outcome e b)
    placeless-outcome (And' shape parts) b = ap (λ us. bit (conjunction us)) (placeless-truths parts b)
    placeless-outcome (Or' shape parts) b = ap (λ us. bit (disjunction us)) (placeless-truths parts b)
    placeless-outcome (Implies' shape parts) b = ap (λ us. bit (implication us)) (placeless-truths parts b)
    placeless-outcome (Iff' l (more_of-Expr left end_of-Expr) r (more_of-Expr right end_of-Expr)) b = rw (placeless-outcome left b, placeless-outcome right b) refl
    placeless-outcome (Compare' op l (more_of-Expr left end_of-Expr) r (more_of-Expr right end_of-Expr)) b = rw (placeless-outcome left b, placeless-outcome right b) refl
    placeless-outcome (Within' l (more_of-Expr left end_of-Expr) r (more_of-Expr set end_of-Expr)) b = rw (placeless-outcome left b, placeless-listed set b) refl
    placeless-outcome (Sum' f (more_of-Expr first end_of-Expr) shape more) b = rw (placeless-outcome first b) (placeless-sum more (outcome scene s first b) b)
    placeless-outcome (Modulo' shape (more_of-Expr e end_of-Expr) by at) b = ap (λ u. modulo u by) (placeless-outcome e b)
    placeless-outcome (Choose' t (more_of-Expr test end_of-Expr) l (more_of-Expr left end_of-Expr) r (more_of-Expr right end_of-Expr)) b = rw (placeless-outcome test b, placeless-outcome left b, placeless-outcome right b) refl
    placeless-outcome (All' shape (more_of-Expr body end_of-Expr) word over at) b = rw (placeless-values scene.types scene.sizes over)
        (ap (λ us. bit (conjunction us)) (map-same _ _ (values_over scene.types scene.sizes over) (λ v. ap truth (placeless-outcome body ((word.name, v) ∷ b)))))
    placeless-outcome (Any' shape (more_of-Expr body end_of-Expr) word over at) b = rw (placeless-values scene.types scene.sizes over)
        (ap (λ us. bit (disjunction us)) (map-same _ _ (values_over scene.types scene.sizes over) (λ v. ap truth (placeless-outcome body ((word.name, v) ∷ b)))))
    placeless-outcome (List' shape members at) b = refl
    placeless-outcome (Each' word over held at) b = refl

    placeless-truths : {m : _} (row : Row_of-Expr m) (b : Bindings) → truths scene s (placeless_row row) b ≡ truths scene s row b
    placeless-truths end_of-Expr b = refl
    placeless-truths (more_of-Expr e rest) b = rw (placeless-outcome e b, placeless-truths rest b) refl

    placeless-indexes : {m : _} (row : Row_of-Part m) (b : Bindings) → indexes scene s (placeless_parts row) b ≡ indexes scene s row b
    placeless-indexes end_of-Part b = refl
    placeless-indexes (more_of-Part (Field word) rest) b = placeless-indexes rest b
    placeless-indexes (more_of-Part (At index) rest) b = rw (placeless-outcome index b, placeless-indexes rest b) refl

    placeless-sum : {m : _} (row : Row_of-Signed m) (u : Outcome) (b : Bindings) → sum_with scene s (placeless_sum row) u b ≡ sum_with scene s row u b
    placeless-sum end_of-Signed u b = refl
    placeless-sum (more_of-Signed minus e rest) u b = rw (placeless-outcome e b) (placeless-sum rest (add minus u (outcome scene s e b)) b)

    placeless-listed : (e : Expr) (b : Bindings) → listed scene s (placeless e) b ≡ listed scene s e b
    placeless-listed (List' shape members at) b = placeless-members members b
    placeless-listed (Number value at) b = refl
    placeless-listed (Signal' shape parts at) b = refl
    placeless-listed (Not' shape of at) b = refl
    placeless-listed (And' shape parts) b = refl
    placeless-listed (Or' shape parts) b = refl
    placeless-listed (Implies' shape parts) b = refl
    placeless-listed (Iff' l left r right) b = refl
    placeless-listed (Compare' op l left r right) b = refl
    placeless-listed (Within' l left r set) b = refl
    placeless-listed (Sum' f first shape more) b = refl
    placeless-listed (Modulo' shape of by at) b = refl
    placeless-listed (Choose' t test l left r right) b = refl
    placeless-listed (All' shape body word over at) b = refl
    placeless-listed (Any' shape body word over at) b = refl
    placeless-listed (Each' word over held at) b = refl

    placeless-members : {m : _} (row : Row_of-Member m) (b : Bindings) → members_of scene s (placeless_members row) b ≡ members_of scene s row b
    placeless-members end_of-Member b = refl
    placeless-members (more_of-Member (One e) rest) b = rw (placeless-outcome e b, placeless-members rest b) refl
    placeless-members (more_of-Member (SpanOf span at) rest) b = rw (placeless-members rest b) refl

  placeless-meets : (held : Held-Expr-Each-2) (b : Bindings) → meets scene s (placeless_held held) b ≡ meets scene s held b
  unfolding placeless
  placeless-meets None' b = refl
  placeless-meets (Some' shape (more_of-Expr cond end_of-Expr)) b = ap (λ u. is_true (truth u)) (placeless-outcome cond b)

  pub placeless-allowed : (every : List Value) (e : Expr) (b : Bindings) → allowed_by scene s every (placeless e) b ≡ allowed_by scene s every e b
  unfolding placeless
  placeless-allowed every (List' shape members at) b = ap (fit every) (placeless-members members b)
  placeless-allowed every (Each' word over held at) b = rw (placeless-values scene.types scene.sizes over)
      (ap (λ vs. fit every (map Some vs)) (filter-same _ _ (values_over scene.types scene.sizes over) (λ v. placeless-meets held ((word.name, v) ∷ b))))
  placeless-allowed every (Choose' t (more_of-Expr test end_of-Expr) l (more_of-Expr left end_of-Expr) r (more_of-Expr right end_of-Expr)) b = rw (placeless-outcome test b, placeless-allowed every left b, placeless-allowed every right b) refl
  placeless-allowed every (Number value at) b = refl
  placeless-allowed every (Signal' shape parts at) b = ap (λ u. fit every (u ∷ [])) (placeless-outcome (Signal' shape parts at) b)
  placeless-allowed every (Not' shape of at) b = ap (λ u. fit every (u ∷ [])) (placeless-outcome (Not' shape of at) b)
  placeless-allowed every (And' shape parts) b = ap (λ u. fit every (u ∷ [])) (placeless-outcome (And' shape parts) b)
  placeless-allowed every (Or' shape parts) b = ap (λ u. fit every (u ∷ [])) (placeless-outcome (Or' shape parts) b)
  placeless-allowed every (Implies' shape parts) b = ap (λ u. fit every (u ∷ [])) (placeless-outcome (Implies' shape parts) b)
  placeless-allowed every (Iff' l left r right) b = ap (λ u. fit every (u ∷ [])) (placeless-outcome (Iff' l left r right) b)
  placeless-allowed every (Compare' op l left r right) b = ap (λ u. fit every (u ∷ [])) (placeless-outcome (Compare' op l left r right) b)
  placeless-allowed every (Within' l left r set) b = ap (λ u. fit every (u ∷ [])) (placeless-outcome (Within' l left r set) b)
  placeless-allowed every (Sum' f first shape more) b = ap (λ u. fit every (u ∷ [])) (placeless-outcome (Sum' f first shape more) b)
  placeless-allowed every (Modulo' shape of by at) b = ap (λ u. fit every (u ∷ [])) (placeless-outcome (Modulo' shape of by at) b)
  placeless-allowed every (All' shape body word over at) b = ap (λ u. fit every (u ∷ [])) (placeless-outcome (All' shape body word over at) b)
  placeless-allowed every (Any' shape body word over at) b = ap (λ u. fit every (u ∷ [])) (placeless-outcome (Any' shape body word over at) b)

mutual
  unfolding placeless

  pub placeless-index : (around : Around) (e : Expr) → index_of around (placeless e) ≡ index_of around e
  placeless-index around (Number value at) = refl
  placeless-index around (Signal' shape parts at) = ap (index_of_path around) (row-fields _ parts)
  placeless-index around (Sum' f (more_of-Expr first end_of-Expr) shape more) = rw (placeless-index around first) (placeless-index_sum around (index_of around first) more)
  placeless-index around (Modulo' shape (more_of-Expr e end_of-Expr) by at) = ap (λ i. modulo_fixed i by) (placeless-index around e)
  placeless-index around (Not' shape of at) = refl
  placeless-index around (And' shape parts) = refl
  placeless-index around (Or' shape parts) = refl
  placeless-index around (Implies' shape parts) = refl
  placeless-index around (Iff' l left r right) = refl
  placeless-index around (Compare' op l left r right) = refl
  placeless-index around (Within' l left r set) = refl
  placeless-index around (Choose' t test l left r right) = refl
  placeless-index around (All' shape body word over at) = refl
  placeless-index around (Any' shape body word over at) = refl
  placeless-index around (List' shape members at) = refl
  placeless-index around (Each' word over held at) = refl

  placeless-index_sum : {m : _} (around : Around) (i : _) (row : Row_of-Signed m) → index_of_sum around i (placeless_sum row) ≡ index_of_sum around i row
  placeless-index_sum around i end_of-Signed = refl
  placeless-index_sum around i (more_of-Signed minus e rest) = rw (placeless-index around e) (placeless-index_sum around (add_fixed minus i (index_of around e)) rest)
