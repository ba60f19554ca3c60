-- A tree in which the strengthened expression was put, places aside, is the strengthened tree.
use Rattle.std.proofs.Common.{◌≡◌, List, [], ◌∷◌, map, Bool, true, false, if◌then◌else◌, refl, sym, ap, ◌∙◌}
use Rattle.smv_core.specs.Values.{Name}
use Rattle.smv_core.specs.Types.{types_from}
use Rattle.smv_core.specs.Sound.{IsSound}
use Rattle.smv_core.specs.declared.tree.Word.{Word}
use Rattle.smv_core.specs.declared.tree.Text.{Text}
use Rattle.smv_core.specs.declared.tree.Top.{Top}
use Rattle.smv_core.specs.declared.tree.Top.TheVariants.{SetType, Alias, Module}
use Rattle.smv_core.specs.declared.tree.Op.TheVariants.{Less}
use Rattle.smv_core.specs.declared.tree.TypeExpr.{TypeExpr, Boolean, Range, Enum, Named, Array', Struct'}
use Rattle.smv_core.specs.declared.tree.TypeExpr.TheVariants as type
use Rattle.smv_core.specs.declared.tree.Part.{Field, At}
use Rattle.smv_core.specs.declared.tree.Member.{One, Span as SpanOf}
use Rattle.smv_core.specs.declared.tree.Expr.{Expr, Number, Signal', Not', And', Or', Implies', Iff', Compare', Within', Sum', Modulo', Choose', All', Any', List', Each', None', Some', Row_of-Expr, end_of-Expr, more_of-Expr, Row_of-Part, end_of-Part, more_of-Part, Row_of-Member, end_of-Member, more_of-Member, Row_of-Signed, end_of-Signed, more_of-Signed}
use Rattle.smv_core.specs.Rows.{Condition}
use Rattle.smv_core.specs.declared.tree.Expr.TheVariants as expr
use Rattle.smv_core.specs.declared.tree.Item.{Item, Declare, Instance, Layer, Forall', Block', Claim, Split, Using, Act, Row_of-Item, end_of-Item, more_of-Item, items-the_row-Item}
use Rattle.law_lists.proofs.Lists.{head_is, tail_is}
use Rattle.law_places.specs.Placeless.{placeless_word, placeless_type, placeless, placeless_row, placeless_parts, placeless_sum, placeless_members, placeless_held, placeless_item, placeless_items, placeless_top, placeless_text}
use Rattle.law_places.proofs.Computing.{computing}
use Rattle.law_places.proofs.Designs.{sound-alike}
use Rattle.law_exchanged.specs.Changed.{changed_item, changed_items, put_in, changed_top, changed_text}
use Rattle.law_exchanged.specs.Laws.{IsWith}
use Rattle.law_exchanged.proofs.Changing.{put-text}
use Rattle.law_induction.specs.Renamed.{renamed_type, renamed, renamed_row, renamed_path, renamed_parts, renamed_sum, renamed_members, renamed_held}
use Rattle.law_induction.specs.Strengthened.{word_of, variable, is_main, is_named, stronger, strengthened, stronger_text, AreInductiveTops}
use Rattle.law_induction.proofs.Trees.{sound}

-- ---- a new name, and no places

module _ (var fresh : Name) where
  type-renamed : (t : TypeExpr) → placeless_type (renamed_type var fresh t) ≡ renamed_type var fresh (placeless_type t)
  unfolding placeless_type
  type-renamed Boolean = refl
  type-renamed (Range span at) = refl
  type-renamed (Enum names at) = refl
  type-renamed (Named word at) = refl
  type-renamed (Array' i index o of) = refl
  type-renamed (Struct' shape fields) = refl

  mutual
    unfolding renamed placeless

    placeless-renamed : (e : Expr) → placeless (renamed var fresh e) ≡ renamed var fresh (placeless e)
    placeless-renamed (Number value at) = refl
    placeless-renamed (Signal' shape parts at) = ap (λ l. Signal' shape l 0) (path-renamed parts)
    placeless-renamed (Not' shape of at) = ap (λ l. Not' shape l 0) (row-renamed of)
    placeless-renamed (And' shape parts) = ap (λ l. And' shape l) (row-renamed parts)
    placeless-renamed (Or' shape parts) = ap (λ l. Or' shape l) (row-renamed parts)
    placeless-renamed (Implies' shape parts) = ap (λ l. Implies' shape l) (row-renamed parts)
    placeless-renamed (Iff' l left r right) = rw (row-renamed left, row-renamed right) refl
    placeless-renamed (Compare' op l left r right) = rw (row-renamed left, row-renamed right) refl
    placeless-renamed (Within' l left r set) = rw (row-renamed left, row-renamed set) refl
    placeless-renamed (Sum' f first shape more) = rw (row-renamed first, sum-renamed more) refl
    placeless-renamed (Modulo' shape of by at) = ap (λ l. Modulo' shape l by 0) (row-renamed of)
    placeless-renamed (Choose' c test l left r right) = rw (row-renamed test, row-renamed left, row-renamed right) refl
    placeless-renamed (All' shape body word over at) = rw (row-renamed body, type-renamed over) refl
    placeless-renamed (Any' shape body word over at) = rw (row-renamed body, type-renamed over) refl
    placeless-renamed (List' shape members at) = ap (λ l. List' shape l 0) (members-renamed members)
    placeless-renamed (Each' word over held at) = rw (type-renamed over, held-renamed held) refl

    row-renamed : {m : _} (row : Row_of-Expr m) → placeless_row (renamed_row var fresh row) ≡ renamed_row var fresh (placeless_row row)
    row-renamed end_of-Expr = refl
    row-renamed (more_of-Expr e rest) = rw (placeless-renamed e, row-renamed rest) refl

    path-renamed : {m : _} (row : Row_of-Part m) → placeless_parts (renamed_path var fresh row) ≡ renamed_path var fresh (placeless_parts row)
    path-renamed end_of-Part = refl
    path-renamed (more_of-Part (Field word) rest) = rw (parts-renamed rest) refl
    path-renamed (more_of-Part (At index) rest) = rw (placeless-renamed index, path-renamed rest) refl

    parts-renamed : {m : _} (row : Row_of-Part m) → placeless_parts (renamed_parts var fresh row) ≡ renamed_parts var fresh (placeless_parts row)
    parts-renamed end_of-Part = refl
    parts-renamed (more_of-Part (Field word) rest) = rw (parts-renamed rest) refl
    parts-renamed (more_of-Part (At index) rest) = rw (placeless-renamed index, parts-renamed rest) refl

    sum-renamed : {m : _} (row : Row_of-Signed m) → placeless_sum (renamed_sum var fresh row) ≡ renamed_sum var fresh (placeless_sum row)
    sum-renamed end_of-Signed = refl
    sum-renamed (more_of-Signed minus e rest) = rw (placeless-renamed e, sum-renamed rest) refl

    members-renamed : {m : _} (row : Row_of-Member m) → placeless_members (renamed_members var fresh row) ≡ renamed_members var fresh (placeless_members row)
    members-renamed end_of-Member = refl
    members-renamed (more_of-Member (One e) rest) = rw (placeless-renamed e, members-renamed rest) refl
    members-renamed (more_of-Member (SpanOf span at) rest) = rw (members-renamed rest) refl

    held-renamed : (held : Condition) → placeless_held (renamed_held var fresh held) ≡ renamed_held var fresh (placeless_held held)
    held-renamed None' = refl
    held-renamed (Some' shape cond) = ap (λ l. Some' shape l) (row-renamed cond)

  module _ (set : Name) where
    -- the strengthened expression, by the renamed one and the expression itself
    abbrev pub strong : Expr → Expr → Expr
    strong smaller e = expr.Implies (expr.All (expr.Implies (expr.Compare Less (variable fresh) (variable var) ∷ smaller ∷ [])) (word_of fresh) (type.Named (word_of set) 0) 0 ∷ e ∷ [])

    pub placeless-put : (e2 e : Expr) → placeless (strong e2 e) ≡ strong (placeless e2) (placeless e)
    unfolding placeless placeless_type computing
    placeless-put e2 e = refl

    pub placeless-stronger : (e : Expr) → placeless (stronger var fresh set e) ≡ strong (placeless (renamed var fresh e)) (placeless e)
    unfolding placeless placeless_type computing
    placeless-stronger e = refl

    pub stronger-same : (e d : Expr) → placeless e ≡ placeless d → placeless (stronger var fresh set e) ≡ placeless (stronger var fresh set d)
    stronger-same e d same =
        placeless-stronger e ∙ ap (λ r. strong r (placeless e)) (placeless-renamed e ∙ ap (renamed var fresh) same ∙ sym (placeless-renamed d)) ∙ ap (strong (placeless (renamed var fresh d))) same ∙ sym (placeless-stronger d)

-- ---- the one claim whose expression is this, places aside

module _ (var fresh set name : Name) (body : Expr) where
  abbrev test : Word → Bool
  test = is_named name

  -- what stands in an item
  abbrev body_in : Item → Expr
  body_in (Claim word vars e at) = e
  body_in a = body

  abbrev items_in : Item → List Item
  items_in (Forall' word over shape items at) = items-the_row-Item _ items
  items_in (Block' shape items) = items-the_row-Item _ items
  items_in a = []

  mutual
    unfolding changed_item placeless_item

    one-item : (a : Item) → placeless_item (changed_item (put_in test body) a) ≡ placeless_item a → placeless_item (changed_item (put_in test (stronger var fresh set body)) a) ≡ placeless_item (changed_item (strengthened var fresh set name) a)
    one-item (Declare role words of at) own = refl
    one-item (Instance words m args at) own = refl
    one-item (Layer word acts at) own = refl
    one-item (Forall' word over shape items at) own = ap (λ l. Forall' (placeless_word word) (placeless_type over) shape l 0) (one-row items (ap items_in own))
    one-item (Block' shape items) own = ap (λ l. Block' shape l) (one-row items (ap items_in own))
    one-item (Claim word vars e at) own = ap (λ d. Claim (placeless_word word) (map placeless_word vars) d 0) (by_test (test word) (ap body_in own))
      where
        by_test : (t : Bool) → placeless (if t then body else e) ≡ placeless e → placeless (if t then stronger var fresh set body else e) ≡ placeless (if t then stronger var fresh set e else e)
        by_test true same = stronger-same var fresh set body e same
        by_test false same = refl
    one-item (Split word vars of pairs at) own = refl
    one-item (Using uses proves at) own = refl
    one-item (Act act) own = refl

    one-row : {m : _} (row : Row_of-Item m) → items-the_row-Item m (placeless_items (changed_items (put_in test body) row)) ≡ items-the_row-Item m (placeless_items row) →
        placeless_items (changed_items (put_in test (stronger var fresh set body)) row) ≡ placeless_items (changed_items (strengthened var fresh set name) row)
    one-row end_of-Item own = refl
    one-row (more_of-Item a rest) own = rw (one-item a (head_is own), one-row rest (tail_is own)) refl

  one-list : (items : List Item) → map placeless_item (map (changed_item (put_in test body)) items) ≡ map placeless_item items →
      map placeless_item (map (changed_item (put_in test (stronger var fresh set body))) items) ≡ map placeless_item (map (changed_item (strengthened var fresh set name)) items)
  one-list [] own = refl
  one-list (a ∷ items) own = rw (one-item a (head_is own), one-list items (tail_is own)) refl

  abbrev items_of : Top → List Item
  items_of (Module word formals items at) = items
  items_of a = []

  one-top : (a : Top) → placeless_top (changed_top is_main (put_in test body) a) ≡ placeless_top a → placeless_top (changed_top is_main (put_in test (stronger var fresh set body)) a) ≡ placeless_top (changed_top is_main (strengthened var fresh set name) a)
  one-top (SetType word ordered span at) own = refl
  one-top (Alias word of at) own = refl
  one-top (Module word formals items at) own = ap (λ l. Module (placeless_word word) (map placeless_word formals) l 0) (by_name (is_main word) (ap items_of own))
    where
      by_name : (t : Bool) → map placeless_item (if t then map (changed_item (put_in test body)) items else items) ≡ map placeless_item items →
          map placeless_item (if t then map (changed_item (put_in test (stronger var fresh set body))) items else items) ≡ map placeless_item (if t then map (changed_item (strengthened var fresh set name)) items else items)
      by_name true same = one-list items same
      by_name false same = refl

  one-tops : (tops : List Top) → map placeless_top (map (changed_top is_main (put_in test body)) tops) ≡ map placeless_top tops →
      map placeless_top (map (changed_top is_main (put_in test (stronger var fresh set body))) tops) ≡ map placeless_top (map (changed_top is_main (strengthened var fresh set name)) tops)
  one-tops [] own = refl
  one-tops (a ∷ tops) own = rw (one-top a (head_is own), one-tops tops (tail_is own)) refl

  one-text : (x : Text) → IsWith is_main test x body x → placeless_text (changed_text is_main (put_in test (stronger var fresh set body)) x) ≡ placeless_text (stronger_text var fresh set name x)
  one-text x own = ap (λ l. record { tops = l }) (one-tops x.tops (ap (λ (t : Text). t.tops) own))

-- what is spelled with the strengthened expression in place of the claim's is the strengthened tree, places aside
pub exchanged-is : (var fresh set name : Name) (x new : Text) (body y : Expr) → IsWith is_main (is_named name) x body x → placeless y ≡ placeless (stronger var fresh set body) → IsWith is_main (is_named name) x y new →
    placeless_text (stronger_text var fresh set name x) ≡ placeless_text new
exchanged-is var fresh set name x new body y own same put = sym (one-text var fresh set name body x own) ∙ sym (put-text is_main (is_named name) y (stronger var fresh set body) same x) ∙ put

pub exchanged-sound : (var fresh set name : Name) (x new : Text) (body y : Expr) → AreInductiveTops var fresh set name (types_from [] x.tops) x.tops → IsWith is_main (is_named name) x body x →
    placeless y ≡ placeless (stronger var fresh set body) → IsWith is_main (is_named name) x y new → IsSound new → IsSound x
exchanged-sound var fresh set name x new body y inductive own same put h =
    sound var fresh set name x inductive (sound-alike new (stronger_text var fresh set name x) (sym (exchanged-is var fresh set name x new body y own same put)) h)
