-- Renaming a variable keeps outcomes.
use Rattle.std.proofs.Common.{◌≡◌, List, [], ◌∷◌, ◌++◌, Some, Bool, true, false, cond, refl, ap, subst}
use Rattle.std.proofs.lemmas.Slice.Eq.{bytes_eq-Decides}
use Rattle.std.specs.Str.{bytes_eq}
use Rattle.smv_core.specs.Values.{Name, Path, Value, Outcome, truth, bit, not_of, conjunction, disjunction, implication, add, modulo}
use Rattle.smv_core.specs.Types.{find_name, values_over}
use Rattle.smv_core.specs.Outcome.{State, Scene, Bindings, outcome, truths, indexes, sum_with, listed, members_of, read, or_signal, variable_at, family_at, fields_of}
use Rattle.smv_core.specs.declared.tree.Word.{Word}
use Rattle.smv_core.specs.declared.tree.TypeExpr.{TypeExpr, Boolean, Range, Enum, Named, Array', Struct'}
use Rattle.smv_core.specs.declared.tree.Part.{Field, At}
use Rattle.smv_core.specs.declared.tree.Member.{One, Span as SpanOf}
use Rattle.smv_core.specs.declared.tree.Expr.{Expr, Number, Signal', Not', And', Or', Implies', Iff', Compare', Within', Sum', Modulo', Choose', All', Any', List', Each', Row_of-Expr, end_of-Expr, more_of-Expr, Row_of-Part, end_of-Part, more_of-Part, Row_of-Member, end_of-Member, more_of-Member, Row_of-Signed, end_of-Signed, more_of-Signed, items-the_row-Part}
use Rattle.law_lists.proofs.Lists.{map_alike}
use Rattle.law_induction.specs.Renamed.{new_name, renamed_word, renamed_type, renamed, renamed_row, renamed_path, renamed_parts, renamed_sum, renamed_members, IsOtherName, IsOtherType, IsOwnPath, IsRenamable, AreRenamable, AreRenamableParts, IsRenamableSum, AreRenamableMembers, RenamesBindings}

pub bytes-refl : (t : Name) → bytes_eq t t ≡ true
bytes-refl t = (bytes_eq-Decides t t).1 refl

pub bytes-sym : (a b : Name) → bytes_eq a b ≡ false → bytes_eq b a ≡ false
bytes-sym a b h = by_test (bytes_eq b a) refl
  where
    by_test : (t : Bool) → bytes_eq b a ≡ t → bytes_eq b a ≡ false
    by_test false e = e
    by_test true e = let same = (bytes_eq-Decides b a).0 e in absurd (cc (h, subst (λ x. bytes_eq x b ≡ true) same (bytes-refl b)))

module _ (var fresh : Name) where
  pub kept-name : (name : Name) → bytes_eq name var ≡ false → new_name var fresh name ≡ name
  kept-name name h = rw (h) refl

  kept-word : (word : Word) → bytes_eq word.name var ≡ false → renamed_word var fresh word ≡ word
  kept-word word h = ap (λ n. record { name = n; at = word.at }) (kept-name word.name h)

  kept-type : (t : TypeExpr) → IsOtherType var fresh t → renamed_type var fresh t ≡ t
  kept-type Boolean h = refl
  kept-type (Range span at) h = refl
  kept-type (Enum names at) h = refl
  kept-type (Named word at) h = ap (λ w. Named w at) (kept-word word h)
  kept-type (Array' i index o of) h = refl
  kept-type (Struct' shape fields) h = refl

  -- one more variable
  inside : (name : Name) (v : Value) (b c : Bindings) → IsOtherName var fresh name → RenamesBindings var fresh b c → RenamesBindings var fresh ((name, v) ∷ b) ((name, v) ∷ c)
  inside name v b c other (k, own, new, rest) = (
    k,
    rw (other.0) own,
    rw (other.1) new,
    λ n p. by_test n p (bytes_eq name n),
  )
    where
      by_test : (n : Name) → IsOtherName var fresh n → (t : Bool) → cond t (Some v) (find_name c n) ≡ cond t (Some v) (find_name b n)
      by_test n p true = refl
      by_test n p false = rest n p

  fields-parts : (m : _) (parts : Row_of-Part m) → fields_of (items-the_row-Part m (renamed_parts var fresh parts)) ≡ fields_of (items-the_row-Part m parts)
  unfolding renamed
  fields-parts m end_of-Part = refl
  fields-parts m (more_of-Part (Field word) rest) = ap (λ l. word.name ∷ l) (fields-parts _ rest)
  fields-parts m (more_of-Part (At index) rest) = fields-parts _ rest

  -- a path's names with the first one new
  abbrev new_path : Path → Path
  new_path [] = []
  new_path (name ∷ more) = new_name var fresh name ∷ more

  fields-path : (m : _) (parts : Row_of-Part m) → fields_of (items-the_row-Part m (renamed_path var fresh parts)) ≡ new_path (fields_of (items-the_row-Part m parts))
  unfolding renamed
  fields-path m end_of-Part = refl
  fields-path m (more_of-Part (Field word) rest) = ap (λ l. new_name var fresh word.name ∷ l) (fields-parts _ rest)
  fields-path m (more_of-Part (At index) rest) = fields-path _ rest

  module _ (scene : Scene) (s : State) where
    -- a path that begins otherwise
    same-path : (path : Path) (us : List Outcome) (b c : Bindings) → variable_at c path ≡ variable_at b path → read scene s c path us ≡ read scene s b path us
    same-path path us b c h = ap (λ o. or_signal scene.sizes s o (family_at scene.families (scene.instance ++ path)) path us) h

    own-path : (us : List Outcome) (b c : Bindings) → RenamesBindings var fresh b c → read scene s c (fresh ∷ []) us ≡ read scene s b (var ∷ []) us
    own-path us b c (k, own, new, rest) = rw (own, new) refl

    -- by how many names it has
    path-read : (path : Path) (us : List Outcome) (b c : Bindings) → RenamesBindings var fresh b c → IsOwnPath var fresh path → read scene s c (new_path path) us ≡ read scene s b path us
    path-read [] us b c h p = refl
    path-read (name ∷ []) us b c h p = by_test (bytes_eq name var) refl
      where
        by_test : (t : Bool) → bytes_eq name var ≡ t → read scene s c (cond t fresh name ∷ []) us ≡ read scene s b (name ∷ []) us
        by_test true e = rw ((bytes_eq-Decides name var).0 e) (own-path us b c h)
        by_test false e = same-path (name ∷ []) us b c (h.3 name (e, p))
    path-read (name ∷ other ∷ more) us b c h p = rw (kept-name name p.0) (same-path (name ∷ other ∷ more) us b c refl)

    mutual
      unfolding renamed

      pub outcome-renamed : (e : Expr) (b c : Bindings) → IsRenamable var fresh e → RenamesBindings var fresh b c → outcome scene s (renamed var fresh e) c ≡ outcome scene s e b
      outcome-renamed (Number value at) b c p h = refl
      outcome-renamed (Signal' shape parts at) b c p h =
          rw (fields-path _ parts, indexes-renamed parts b c p.1 h) (path-read (fields_of (items-the_row-Part _ parts)) (indexes scene s parts b) b c h p.0)
      outcome-renamed (Not' shape (more_of-Expr e end_of-Expr) at) b c p h = ap (λ u. bit (not_of (truth u))) (outcome-renamed e b c p.0 h)
      outcome-renamed (And' shape parts) b c p h = ap (λ us. bit (conjunction us)) (truths-renamed parts b c p h)
      outcome-renamed (Or' shape parts) b c p h = ap (λ us. bit (disjunction us)) (truths-renamed parts b c p h)
      outcome-renamed (Implies' shape parts) b c p h = ap (λ us. bit (implication us)) (truths-renamed parts b c p h)
      outcome-renamed (Iff' l (more_of-Expr left end_of-Expr) r (more_of-Expr right end_of-Expr)) b c p h = rw (outcome-renamed left b c p.0.0 h, outcome-renamed right b c p.1.0 h) refl
      outcome-renamed (Compare' op l (more_of-Expr left end_of-Expr) r (more_of-Expr right end_of-Expr)) b c p h = rw (outcome-renamed left b c p.0.0 h, outcome-renamed right b c p.1.0 h) refl
      outcome-renamed (Within' l (more_of-Expr left end_of-Expr) r (more_of-Expr set end_of-Expr)) b c p h = rw (outcome-renamed left b c p.0.0 h, listed-renamed set b c p.1.0 h) refl
      outcome-renamed (Sum' f (more_of-Expr first end_of-Expr) shape more) b c p h = rw (outcome-renamed first b c p.0.0 h) (sum-renamed more (outcome scene s first b) b c p.1 h)
      outcome-renamed (Modulo' shape (more_of-Expr e end_of-Expr) by at) b c p h = ap (λ u. modulo u by) (outcome-renamed e b c p.0 h)
      outcome-renamed (Choose' t (more_of-Expr test end_of-Expr) l (more_of-Expr left end_of-Expr) r (more_of-Expr right end_of-Expr)) b c p h =
          rw (outcome-renamed test b c p.0.0 h, outcome-renamed left b c p.1.0 h, outcome-renamed right b c p.2.0 h) refl
      outcome-renamed (All' shape (more_of-Expr body end_of-Expr) word over at) b c p h = rw (kept-name word.name p.0.0, kept-type over p.1)
          (ap (λ us. bit (conjunction us)) (map_alike _ _ (values_over scene.types scene.sizes over) (λ v. ap truth (outcome-renamed body ((word.name, v) ∷ b) ((word.name, v) ∷ c) p.2.0 (inside word.name v b c p.0 h)))))
      outcome-renamed (Any' shape (more_of-Expr body end_of-Expr) word over at) b c p h = rw (kept-name word.name p.0.0, kept-type over p.1)
          (ap (λ us. bit (disjunction us)) (map_alike _ _ (values_over scene.types scene.sizes over) (λ v. ap truth (outcome-renamed body ((word.name, v) ∷ b) ((word.name, v) ∷ c) p.2.0 (inside word.name v b c p.0 h)))))
      outcome-renamed (List' shape members at) b c p h = refl
      outcome-renamed (Each' word over held at) b c p h = refl

      truths-renamed : {m : _} (row : Row_of-Expr m) (b c : Bindings) → AreRenamable var fresh row → RenamesBindings var fresh b c → truths scene s (renamed_row var fresh row) c ≡ truths scene s row b
      truths-renamed end_of-Expr b c p h = refl
      truths-renamed (more_of-Expr e rest) b c p h = rw (outcome-renamed e b c p.0 h, truths-renamed rest b c p.1 h) refl

      indexes-renamed : {m : _} (row : Row_of-Part m) (b c : Bindings) → AreRenamableParts var fresh row → RenamesBindings var fresh b c → indexes scene s (renamed_path var fresh row) c ≡ indexes scene s row b
      indexes-renamed end_of-Part b c p h = refl
      indexes-renamed (more_of-Part (Field word) rest) b c p h = behind-renamed rest b c p h
      indexes-renamed (more_of-Part (At index) rest) b c p h = rw (outcome-renamed index b c p.0 h, indexes-renamed rest b c p.1 h) refl

      behind-renamed : {m : _} (row : Row_of-Part m) (b c : Bindings) → AreRenamableParts var fresh row → RenamesBindings var fresh b c → indexes scene s (renamed_parts var fresh row) c ≡ indexes scene s row b
      behind-renamed end_of-Part b c p h = refl
      behind-renamed (more_of-Part (Field word) rest) b c p h = behind-renamed rest b c p h
      behind-renamed (more_of-Part (At index) rest) b c p h = rw (outcome-renamed index b c p.0 h, behind-renamed rest b c p.1 h) refl

      sum-renamed : {m : _} (row : Row_of-Signed m) (u : Outcome) (b c : Bindings) → IsRenamableSum var fresh row → RenamesBindings var fresh b c → sum_with scene s (renamed_sum var fresh row) u c ≡ sum_with scene s row u b
      sum-renamed end_of-Signed u b c p h = refl
      sum-renamed (more_of-Signed minus e rest) u b c p h = rw (outcome-renamed e b c p.0 h) (sum-renamed rest (add minus u (outcome scene s e b)) b c p.1 h)

      listed-renamed : (e : Expr) (b c : Bindings) → IsRenamable var fresh e → RenamesBindings var fresh b c → listed scene s (renamed var fresh e) c ≡ listed scene s e b
      listed-renamed (List' shape members at) b c p h = members-renamed members b c p h
      listed-renamed (Number value at) b c p h = refl
      listed-renamed (Signal' shape parts at) b c p h = refl
      listed-renamed (Not' shape of at) b c p h = refl
      listed-renamed (And' shape parts) b c p h = refl
      listed-renamed (Or' shape parts) b c p h = refl
      listed-renamed (Implies' shape parts) b c p h = refl
      listed-renamed (Iff' l left r right) b c p h = refl
      listed-renamed (Compare' op l left r right) b c p h = refl
      listed-renamed (Within' l left r set) b c p h = refl
      listed-renamed (Sum' f first shape more) b c p h = refl
      listed-renamed (Modulo' shape of by at) b c p h = refl
      listed-renamed (Choose' t test l left r right) b c p h = refl
      listed-renamed (All' shape body word over at) b c p h = refl
      listed-renamed (Any' shape body word over at) b c p h = refl
      listed-renamed (Each' word over held at) b c p h = refl

      members-renamed : {m : _} (row : Row_of-Member m) (b c : Bindings) → AreRenamableMembers var fresh row → RenamesBindings var fresh b c → members_of scene s (renamed_members var fresh row) c ≡ members_of scene s row b
      members-renamed end_of-Member b c p h = refl
      members-renamed (more_of-Member (One e) rest) b c p h = rw (outcome-renamed e b c p.0 h, members-renamed rest b c p.1 h) refl
      members-renamed (more_of-Member (SpanOf span at) rest) b c p h = rw (members-renamed rest b c p h) refl
