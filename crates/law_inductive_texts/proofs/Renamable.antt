-- An expression can be renamed where it is fine, also under the new name inside a variable of that name.
use Rattle.std.proofs.Common.{◌≡◌, ℕ, List, [], ◌∷◌, ◌++◌, Option, Some, None, Bool, true, false, cond, if◌then◌else◌, refl, sym, ap, subst}
use Rattle.std.specs.Str.{bytes_eq}
use Rattle.std.proofs.lemmas.Slice.Eq.{bytes_eq-Decides}
use Rattle.smv_core.specs.Values.{Name}
use Rattle.smv_core.specs.Outcome.{fields_of}
use Rattle.smv_core.specs.Rows.{Condition}
use Rattle.smv_core.specs.declared.tree.Word.{Word}
use Rattle.smv_core.specs.declared.tree.TypeExpr.{TypeExpr, Boolean, Range, Enum, Named, Array', Struct'}
use Rattle.smv_core.specs.declared.tree.Part.{Part, Field, At}
use Rattle.smv_core.specs.declared.tree.Member.{One, Span as SpanOf}
use Rattle.smv_core.specs.declared.tree.Expr.{Expr, Number, Signal', Not', And', Or', Implies', Iff', Compare', Within', Sum', Modulo', Choose', All', Any', List', Each', None', Some', Row_of-Expr, end_of-Expr, more_of-Expr, Row_of-Part, end_of-Part, more_of-Part, Row_of-Member, end_of-Member, more_of-Member, Row_of-Signed, end_of-Signed, more_of-Signed, items-the_row-Part}
use Rattle.smv_mentions.specs.Mentions.{Mention, bound_at, first_place, binder_in, path_in, in_type, in_expr, in_row, in_parts, in_sum, in_members, in_held}
use Rattle.smv_mentions.specs.Scopes.{words_of}
use Rattle.law_designs.proofs.Faultless.{each-front, each-behind}
use Rattle.law_induction.specs.Renamed.{new_name, renamed_word, renamed_type, renamed, renamed_row, renamed_path, renamed_parts, renamed_sum, renamed_members, renamed_held, IsOtherName, IsOtherType, IsOwnPath, IsRenamable, AreRenamable, AreRenamableParts, IsRenamableSum, AreRenamableMembers, IsRenamableHeld}
use Rattle.law_induction.proofs.RenamedOutcomes.{bytes-refl}
use Rattle.law_inductive_texts.specs.World.{World, IsFinePath, IsFine, AreFine}

-- one of the variables has this name
abbrev pub IsBound : List Word → Name → Type 0
IsBound vars name = bound_at vars name ≡ None → ⊥

-- one more variable
pub bound-behind : (vars : List Word) (v : Word) (name : Name) → IsBound vars name → IsBound (vars ++ v ∷ []) name
bound-behind [] v name h e = h refl
bound-behind (x ∷ vars) v name h e = by_test (bytes_eq x.name name) h e (bound-behind vars v name)
  where
    by_test : (b : Bool) → ((if b then Some (first_place x.at (bound_at vars name)) else bound_at vars name) ≡ None → ⊥) → (if b then Some (first_place x.at (bound_at (vars ++ v ∷ []) name)) else bound_at (vars ++ v ∷ []) name) ≡ None →
        (IsBound vars name → IsBound (vars ++ v ∷ []) name) → ⊥
    by_test true k q rest = absurd (cc (q))
    by_test false k q rest = rest k q

pub free-behind : (vars : List Word) (v : Word) (name : Name) → bound_at vars name ≡ None → bytes_eq v.name name ≡ false → bound_at (vars ++ v ∷ []) name ≡ None
free-behind [] v name h e = ap (λ (b : Bool). if b then Some (first_place v.at None) else None) e
free-behind (x ∷ vars) v name h e = by_test (bytes_eq x.name name) h (λ k. free-behind vars v name k e)
  where
    by_test : (b : Bool) → (if b then Some (first_place x.at (bound_at vars name)) else bound_at vars name) ≡ None → (bound_at vars name ≡ None → bound_at (vars ++ v ∷ []) name ≡ None) →
        (if b then Some (first_place x.at (bound_at (vars ++ v ∷ []) name)) else bound_at (vars ++ v ∷ []) name) ≡ None
    by_test true q rest = absurd (cc (q))
    by_test false q rest = rest q

-- a name that is bound is no name that is not
pub other-bound : (vars : List Word) (name bound : Name) → bound_at vars name ≡ None → IsBound vars bound → bytes_eq name bound ≡ false
other-bound vars name bound free h = by_test (bytes_eq name bound) refl
  where
    by_test : (b : Bool) → bytes_eq name bound ≡ b → bytes_eq name bound ≡ false
    by_test false e = e
    by_test true e = absurd (h (subst (λ n. bound_at vars n ≡ None) ((bytes_eq-Decides name bound).0 e) free))

module _ (w : World) (var fresh : Name) (apart : bytes_eq fresh var ≡ false) (own_var : w.is_declared var ≡ false) (own_fresh : w.is_declared fresh ≡ false) (no_type : w.is_type fresh ≡ false) where
  -- The variables around an expression, and around it under the new name: no other is the new name, the variable is one, and the new name is one of the others.
  pub record Inside (vars others : List Word) : Type 0 where
    pub no_fresh : bound_at vars fresh ≡ None
    pub has_var : IsBound vars var
    pub has_fresh : IsBound others fresh

  -- a name that is new only where it is not the variable
  no-new : (name : Name) → bytes_eq (new_name var fresh name) fresh ≡ false → (bytes_eq name var ≡ false) × (bytes_eq name fresh ≡ false)
  no-new name h = by_test (bytes_eq name var) refl h
    where
      by_test : (b : Bool) → bytes_eq name var ≡ b → bytes_eq (cond b fresh name) fresh ≡ false → (bytes_eq name var ≡ false) × (bytes_eq name fresh ≡ false)
      by_test true e k = absurd (let same = bytes-refl fresh in cc (k, same))
      by_test false e k = (e, k)

  binder-other : (vars others : List Word) (word : Word) → Inside vars others → IsFine w (binder_in vars word) → IsFine w (binder_in others (renamed_word var fresh word)) →
      IsOtherName var fresh word.name × Inside (vars ++ word ∷ []) (others ++ renamed_word var fresh word ∷ [])
  binder-other vars others word i a b =
      let new : IsOtherName var fresh word.name = no-new word.name (other-bound others (new_name var fresh word.name) fresh b.0 i.has_fresh) in (
        new,
        record {
          no_fresh = free-behind vars word fresh i.no_fresh new.1;
          has_var = bound-behind vars word var i.has_var;
          has_fresh = bound-behind others (renamed_word var fresh word) fresh i.has_fresh;
        },
      )

  type-other : (over : TypeExpr) → AreFine w (in_type (renamed_type var fresh over)) → IsOtherType var fresh over
  unfolding in_type
  type-other Boolean h = tt
  type-other (Range span at) h = tt
  type-other (Enum names at) h = tt
  type-other (Named word at) h = by_test (bytes_eq word.name var) refl h.0
    where
      by_test : (b : Bool) → bytes_eq word.name var ≡ b → w.is_type (cond b fresh word.name) ≡ true → bytes_eq word.name var ≡ false
      by_test true e k = absurd (cc (k, no_type))
      by_test false e k = e
  type-other (Array' i index o of) h = tt
  type-other (Struct' shape fields) h = tt

  -- ---- paths

  -- a name that is declared is neither
  declared-other : (name : Name) → w.is_declared name ≡ true → IsOtherName var fresh name
  declared-other name h = (unlike var own_var, unlike fresh own_fresh)
    where
      unlike : (other : Name) → w.is_declared other ≡ false → bytes_eq name other ≡ false
      unlike other k = by_test (bytes_eq name other) refl
        where
          by_test : (b : Bool) → bytes_eq name other ≡ b → bytes_eq name other ≡ false
          by_test false e = e
          by_test true e = absurd (let same : w.is_declared other ≡ true = subst (λ n. w.is_declared n ≡ true) ((bytes_eq-Decides name other).0 e) h in cc (same, k))

  own-cons : (name : Name) (names : List Name) → bytes_eq name fresh ≡ false → ((other : Name) (more : List Name) → names ≡ other ∷ more → bytes_eq name var ≡ false) → IsOwnPath var fresh (name ∷ names)
  own-cons name [] f g = f
  own-cons name (other ∷ more) f g = (g other more refl, f)

  fields-none : (parts : List Part) → words_of parts ≡ [] → fields_of parts ≡ []
  fields-none [] h = refl
  fields-none (Field word ∷ parts) h = absurd (cc (h))
  fields-none (At index ∷ parts) h = fields-none parts h

  own-declared : (parts : List Part) → IsFinePath w None (words_of parts) → IsOwnPath var fresh (fields_of parts)
  own-declared [] h = tt
  own-declared (Field word ∷ parts) h = let other = declared-other word.name h in own-cons word.name (fields_of parts) other.1 (λ o m e. other.0)
  own-declared (At index ∷ parts) h = own-declared parts h

  own-path : (vars others : List Word) → Inside vars others → (parts : List Part) → IsFine w (path_in vars parts) → IsOwnPath var fresh (fields_of parts)
  own-path vars others i [] h = tt
  own-path vars others i (At index ∷ parts) h = own-declared parts h
  own-path vars others i (Field word ∷ parts) h = by_bound (bound_at vars word.name) refl h
    where
      unlike : (at : ℕ) → bound_at vars word.name ≡ Some at → bytes_eq word.name fresh ≡ false
      unlike at e = by_test (bytes_eq word.name fresh) refl
        where
          by_test : (b : Bool) → bytes_eq word.name fresh ≡ b → bytes_eq word.name fresh ≡ false
          by_test false k = k
          by_test true k = absurd (let none = i.no_fresh in let same : bound_at vars fresh ≡ Some at = subst (λ n. bound_at vars n ≡ Some at) ((bytes_eq-Decides word.name fresh).0 k) e in cc (none, same))

      alone : (w.is_declared word.name ≡ false → words_of parts ≡ []) → (other : Name) (more : List Name) → fields_of parts ≡ other ∷ more → bytes_eq word.name var ≡ false
      alone g other more e = by_test (bytes_eq word.name var) refl
        where
          by_test : (b : Bool) → bytes_eq word.name var ≡ b → bytes_eq word.name var ≡ false
          by_test false k = k
          by_test true k = absurd (
              let own : w.is_declared word.name ≡ false = subst (λ n. w.is_declared n ≡ false) (sym ((bytes_eq-Decides word.name var).0 k)) own_var in
              let none = fields-none parts (g own) in
              cc (none, e)
              )

      by_bound : (o : Option ℕ) → bound_at vars word.name ≡ o → IsFinePath w o (word ∷ words_of parts) → IsOwnPath var fresh (word.name ∷ fields_of parts)
      by_bound None e k = let other = declared-other word.name k in own-cons word.name (fields_of parts) other.1 (λ o m q. other.0)
      by_bound (Some at) e k = own-cons word.name (fields_of parts) (unlike at e) (alone k)

  -- ---- expressions

  front : (xs ys : List Mention) → AreFine w (xs ++ ys) → AreFine w xs
  front xs ys h = each-front (IsFine w) xs ys h

  behind : (xs ys : List Mention) → AreFine w (xs ++ ys) → AreFine w ys
  behind xs ys h = each-behind (IsFine w) xs ys h

  -- two expressions
  two : (left right : Expr) (vars others : List Word) → (AreFine w (in_expr vars left) → AreFine w (in_expr others (renamed var fresh left)) → IsRenamable var fresh left) →
      (AreFine w (in_expr vars right) → AreFine w (in_expr others (renamed var fresh right)) → IsRenamable var fresh right) → AreFine w (in_expr vars left ++ in_expr vars right) →
      AreFine w (in_expr others (renamed var fresh left) ++ in_expr others (renamed var fresh right)) → (IsRenamable var fresh left × Unit {0}) × (IsRenamable var fresh right × Unit {0})
  two left right vars others f g a b = (
    (f (front (in_expr vars left) (in_expr vars right) a) (front (in_expr others (renamed var fresh left)) (in_expr others (renamed var fresh right)) b), tt),
    (g (behind (in_expr vars left) (in_expr vars right) a) (behind (in_expr others (renamed var fresh left)) (in_expr others (renamed var fresh right)) b), tt),
  )

  -- what stands under a variable
  reduced : (body : Expr) (word : Word) (over : TypeExpr) (vars others : List Word) → Inside vars others →
      (Inside (vars ++ word ∷ []) (others ++ renamed_word var fresh word ∷ []) → AreFine w (in_expr (vars ++ word ∷ []) body) → AreFine w (in_expr (others ++ renamed_word var fresh word ∷ []) (renamed var fresh body)) → IsRenamable var fresh body) →
      AreFine w (in_expr (vars ++ word ∷ []) body ++ binder_in vars word ∷ in_type over) →
      AreFine w (in_expr (others ++ renamed_word var fresh word ∷ []) (renamed var fresh body) ++ binder_in others (renamed_word var fresh word) ∷ in_type (renamed_type var fresh over)) →
      IsOtherName var fresh word.name × IsOtherType var fresh over × (IsRenamable var fresh body × Unit {0})
  reduced body word over vars others i f a b =
      let xs : List Mention = in_expr (vars ++ word ∷ []) body in
      let ys : List Mention = in_expr (others ++ renamed_word var fresh word ∷ []) (renamed var fresh body) in
      let a' = behind xs (binder_in vars word ∷ in_type over) a in
      let b' = behind ys (binder_in others (renamed_word var fresh word) ∷ in_type (renamed_type var fresh over)) b in
      let p = binder-other vars others word i a'.0 b'.0 in
      (p.0, type-other over b'.1, (f p.1 (front xs (binder_in vars word ∷ in_type over) a) (front ys (binder_in others (renamed_word var fresh word) ∷ in_type (renamed_type var fresh over)) b), tt))

  mutual
    unfolding in_expr renamed

    pub renamable : (e : Expr) (vars others : List Word) → Inside vars others → AreFine w (in_expr vars e) → AreFine w (in_expr others (renamed var fresh e)) → IsRenamable var fresh e
    renamable (Number value at) vars others i a b = tt
    renamable (Signal' shape parts at) vars others i a b = (own-path vars others i (items-the_row-Part _ parts) a.0, path-renamable parts vars others i a.1 b.1)
    renamable (Not' shape (more_of-Expr e end_of-Expr) at) vars others i a b = (renamable e vars others i a b, tt)
    renamable (And' shape parts) vars others i a b = row-renamable parts vars others i a b
    renamable (Or' shape parts) vars others i a b = row-renamable parts vars others i a b
    renamable (Implies' shape parts) vars others i a b = row-renamable parts vars others i a b
    renamable (Iff' l (more_of-Expr left end_of-Expr) r (more_of-Expr right end_of-Expr)) vars others i a b = two left right vars others (λ a b. renamable left vars others i a b) (λ a b. renamable right vars others i a b) a b
    renamable (Compare' op l (more_of-Expr left end_of-Expr) r (more_of-Expr right end_of-Expr)) vars others i a b = two left right vars others (λ a b. renamable left vars others i a b) (λ a b. renamable right vars others i a b) a b
    renamable (Within' l (more_of-Expr left end_of-Expr) r (more_of-Expr set end_of-Expr)) vars others i a b = two left set vars others (λ a b. renamable left vars others i a b) (λ a b. renamable set vars others i a b) a b
    renamable (Sum' f (more_of-Expr first end_of-Expr) shape more) vars others i a b = (
      (renamable first vars others i (front (in_expr vars first) (in_sum vars more) a) (front (in_expr others (renamed var fresh first)) (in_sum others (renamed_sum var fresh more)) b), tt),
      sum-renamable more vars others i (behind (in_expr vars first) (in_sum vars more) a) (behind (in_expr others (renamed var fresh first)) (in_sum others (renamed_sum var fresh more)) b),
    )
    renamable (Modulo' shape (more_of-Expr e end_of-Expr) by at) vars others i a b = (renamable e vars others i a b, tt)
    renamable (Choose' t (more_of-Expr test end_of-Expr) l (more_of-Expr left end_of-Expr) r (more_of-Expr right end_of-Expr)) vars others i a b =
        let xs : List Mention = in_expr vars test ++ in_expr vars left in
        let ys : List Mention = in_expr others (renamed var fresh test) ++ in_expr others (renamed var fresh left) in
        let p = two test left vars others (λ a b. renamable test vars others i a b) (λ a b. renamable left vars others i a b) (front xs (in_expr vars right) a) (front ys (in_expr others (renamed var fresh right)) b) in
        (p.0, p.1, (renamable right vars others i (behind xs (in_expr vars right) a) (behind ys (in_expr others (renamed var fresh right)) b), tt))
    renamable (All' shape (more_of-Expr body end_of-Expr) word over at) vars others i a b = reduced body word over vars others i (λ i a b. renamable body (vars ++ word ∷ []) (others ++ renamed_word var fresh word ∷ []) i a b) a b
    renamable (Any' shape (more_of-Expr body end_of-Expr) word over at) vars others i a b = reduced body word over vars others i (λ i a b. renamable body (vars ++ word ∷ []) (others ++ renamed_word var fresh word ∷ []) i a b) a b
    renamable (List' shape members at) vars others i a b = members-renamable members vars others i a b
    renamable (Each' word over held at) vars others i a b =
        let p = binder-other vars others word i a.0 b.0 in (
          p.0,
          type-other over (front (in_type (renamed_type var fresh over)) (in_held (others ++ renamed_word var fresh word ∷ []) (renamed_held var fresh held)) b.1),
          held-renamable held (vars ++ word ∷ []) (others ++ renamed_word var fresh word ∷ []) p.1 (behind (in_type over) (in_held (vars ++ word ∷ []) held) a.1)
              (behind (in_type (renamed_type var fresh over)) (in_held (others ++ renamed_word var fresh word ∷ []) (renamed_held var fresh held)) b.1),
        )

    row-renamable : {m : _} (row : Row_of-Expr m) (vars others : List Word) → Inside vars others → AreFine w (in_row vars row) → AreFine w (in_row others (renamed_row var fresh row)) → AreRenamable var fresh row
    row-renamable end_of-Expr vars others i a b = tt
    row-renamable (more_of-Expr e rest) vars others i a b = (
      renamable e vars others i (front (in_expr vars e) (in_row vars rest) a) (front (in_expr others (renamed var fresh e)) (in_row others (renamed_row var fresh rest)) b),
      row-renamable rest vars others i (behind (in_expr vars e) (in_row vars rest) a) (behind (in_expr others (renamed var fresh e)) (in_row others (renamed_row var fresh rest)) b),
    )

    path-renamable : {m : _} (row : Row_of-Part m) (vars others : List Word) → Inside vars others → AreFine w (in_parts vars row) → AreFine w (in_parts others (renamed_path var fresh row)) → AreRenamableParts var fresh row
    path-renamable end_of-Part vars others i a b = tt
    path-renamable (more_of-Part (Field word) rest) vars others i a b = parts-renamable rest vars others i a b
    path-renamable (more_of-Part (At index) rest) vars others i a b = (
      renamable index vars others i (front (in_expr vars index) (in_parts vars rest) a) (front (in_expr others (renamed var fresh index)) (in_parts others (renamed_path var fresh rest)) b),
      path-renamable rest vars others i (behind (in_expr vars index) (in_parts vars rest) a) (behind (in_expr others (renamed var fresh index)) (in_parts others (renamed_path var fresh rest)) b),
    )

    parts-renamable : {m : _} (row : Row_of-Part m) (vars others : List Word) → Inside vars others → AreFine w (in_parts vars row) → AreFine w (in_parts others (renamed_parts var fresh row)) → AreRenamableParts var fresh row
    parts-renamable end_of-Part vars others i a b = tt
    parts-renamable (more_of-Part (Field word) rest) vars others i a b = parts-renamable rest vars others i a b
    parts-renamable (more_of-Part (At index) rest) vars others i a b = (
      renamable index vars others i (front (in_expr vars index) (in_parts vars rest) a) (front (in_expr others (renamed var fresh index)) (in_parts others (renamed_parts var fresh rest)) b),
      parts-renamable rest vars others i (behind (in_expr vars index) (in_parts vars rest) a) (behind (in_expr others (renamed var fresh index)) (in_parts others (renamed_parts var fresh rest)) b),
    )

    sum-renamable : {m : _} (row : Row_of-Signed m) (vars others : List Word) → Inside vars others → AreFine w (in_sum vars row) → AreFine w (in_sum others (renamed_sum var fresh row)) → IsRenamableSum var fresh row
    sum-renamable end_of-Signed vars others i a b = tt
    sum-renamable (more_of-Signed minus e rest) vars others i a b = (
      renamable e vars others i (front (in_expr vars e) (in_sum vars rest) a) (front (in_expr others (renamed var fresh e)) (in_sum others (renamed_sum var fresh rest)) b),
      sum-renamable rest vars others i (behind (in_expr vars e) (in_sum vars rest) a) (behind (in_expr others (renamed var fresh e)) (in_sum others (renamed_sum var fresh rest)) b),
    )

    members-renamable : {m : _} (row : Row_of-Member m) (vars others : List Word) → Inside vars others → AreFine w (in_members vars row) → AreFine w (in_members others (renamed_members var fresh row)) → AreRenamableMembers var fresh row
    members-renamable end_of-Member vars others i a b = tt
    members-renamable (more_of-Member (One e) rest) vars others i a b = (
      renamable e vars others i (front (in_expr vars e) (in_members vars rest) a) (front (in_expr others (renamed var fresh e)) (in_members others (renamed_members var fresh rest)) b),
      members-renamable rest vars others i (behind (in_expr vars e) (in_members vars rest) a) (behind (in_expr others (renamed var fresh e)) (in_members others (renamed_members var fresh rest)) b),
    )
    members-renamable (more_of-Member (SpanOf span at) rest) vars others i a b = members-renamable rest vars others i a b

    held-renamable : (held : Condition) (vars others : List Word) → Inside vars others → AreFine w (in_held vars held) → AreFine w (in_held others (renamed_held var fresh held)) → IsRenamableHeld var fresh held
    held-renamable None' vars others i a b = tt
    held-renamable (Some' shape (more_of-Expr test end_of-Expr)) vars others i a b = (renamable test vars others i a b, tt)
