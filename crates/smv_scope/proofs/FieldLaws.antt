-- The fields of types that are made of lists and values.
use Rattle.std.proofs.Common.{◌≡◌, ℕ, List, [], ◌∷◌, Bool, true, false, cond, ◌≤◌, ◌-◌, length, get_or, drop, arith, refl, ap, sym, ◌∙◌}
use Rattle.std.specs.Prelude.{Option, Some, None, option_map, slice_get}
use Rattle.law_lists.proofs.Places.{first_read}
use Rattle.smv_core.specs.declared.tree.Word.{Word}
use Rattle.smv_core.specs.declared.tree.Field.{Field, out-Field}
use Rattle.smv_core.specs.declared.tree.TypeExpr.{TypeExpr, Named, Struct, Struct', Array, Row_of-Field, end_of-Field, more_of-Field, items-the_row-Field, items_hidden-the_row-Field-1}
use mathlib.Core.Former.{Count}
use Rattle.smv_mentions.specs.Scopes.{Known, fields_of, field_among, has_name}
use Rattle.smv_scope.specs.Numbered.{field_in, field_named, known_before, type_number}
use Rattle.smv_scope.specs.Held.{AreLed, fields_led}
use Rattle.smv_scope.specs.declared.tables.Led.{Led}
use Rattle.smv_scope.proofs.Numbers.{named-fields, fields_of_number}
use Rattle.smv_core.specs.declared.tree.Text.{Text}
use denote.Ref.{Bor}
use Rattle.smv_mentions.specs.Said.{words_at}
use Rattle.smv_first_fault.specs.Firsts.{least}
use Rattle.smv_mentions.proofs.Computing.{computing}

module _ (known : Known) where
  pub fields-Array : (index of : TypeExpr) (words : List Word) → fields_of known (Array index of) words ≡ fields_of known of words
  unfolding computing
  fields-Array index of words = refl

  field-row : (n : _) (row : Row_of-Field n) (word : Word) (more : List Word) → field_among known row word more ≡ field_in known (items-the_row-Field n row) word more
  unfolding computing
  field-row n end_of-Field word more = refl
  field-row n (more_of-Field names of at rest) word more = ap (cond (has_name names word.name) (fields_of known of more)) (field-row _ rest word more)

  abbrev row_in : TypeExpr → (n : Count) × Row_of-Field n
  row_in (Struct' shape row) = (_, row)
  row_in _ = (_, end_of-Field)

  pub fields-Struct : (fields : List Field) (word : Word) (more : List Word) → fields_of known (Struct fields) (word ∷ more) ≡ field_in known fields word more
  fields-Struct fields word more =
      field-row (row_in (Struct fields)).0 (row_in (Struct fields)).1 word more ∙ ap (λ l. field_in known l word more) (items_hidden-the_row-Field-1 fields)

  pub fields-Struct-end : (fields : List Field) → fields_of known (Struct fields) [] ≡ []
  fields-Struct-end fields = refl

  -- what is wrong behind a field that was looked for
  abbrev pub behind_field : Option Field → Word → List Word → List ℕ
  behind_field None word more = word.at ∷ []
  behind_field (Some field) word more = fields_of known (out-Field field).of more

  pub field_in-named : (fields : List Field) (word : Word) (more : List Word) → field_in known fields word more ≡ behind_field (field_named fields word.name) word more
  field_in-named [] word more = refl
  field_in-named (field ∷ fields) word more = by (has_name (out-Field field).names word.name) (field_in-named fields word more)
    where
      by : (b : Bool) → field_in known fields word more ≡ behind_field (field_named fields word.name) word more
          → cond b (fields_of known (out-Field field).of more) (field_in known fields word more) ≡ behind_field (cond b (Some field) (field_named fields word.name)) word more
      by true rest = refl
      by false rest = rest

-- ---- the struct to which a type leads

module _ (text : Text) (k : ℕ) where
  abbrev pub LeadsTo : TypeExpr → Option Led → Type 0
  LeadsTo of led = (words : List Word) → fields_of (known_before text k) of words ≡ fields_led text led words

  pub leads-Named : (structs : List (Option Led)) (of : TypeExpr) (word : Word) (at found : ℕ) (number : Option ℕ) (led : Option Led) → AreLed text structs → of ≡ Named word at
      → number ≡ type_number text k word.name → number ≡ Some found → slice_get structs found ≡ Some led → LeadsTo of led
  leads-Named structs of word at found number led known is same some got words =
      ap (λ t. fields_of (known_before text k) t words) is ∙ named-fields text k word.name words ∙ ap (λ o. fields_of_number text o words) (sym same ∙ some) ∙ known found led got words

  pub leads-none : (of : TypeExpr) (word : Word) (at : ℕ) (number : Option ℕ) → of ≡ Named word at → number ≡ type_number text k word.name → number ≡ None → LeadsTo of None
  leads-none of word at number is same none words =
      ap (λ t. fields_of (known_before text k) t words) is ∙ named-fields text k word.name words ∙ ap (λ o. fields_of_number text o words) (sym same ∙ none)

  pub leads-Array : (of inner index held : TypeExpr) (led : Option Led) → of ≡ Array index inner → held ≡ inner → LeadsTo held led → LeadsTo of led
  leads-Array of inner index held led is same known words =
      ap (λ t. fields_of (known_before text k) t words) is ∙ fields-Array (known_before text k) index inner words ∙ ap (λ t. fields_of (known_before text k) t words) (sym same) ∙ known words

  pub leads-Struct : (of : TypeExpr) (fields : List Field) (held : Bor (List Field)) → of ≡ Struct fields → held.now ≡ fields → LeadsTo of (Some (record { fields = held; place = k }))
  leads-Struct of fields held is same [] = ap (λ t. fields_of (known_before text k) t []) is
  leads-Struct of fields held is same (word ∷ more) =
      ap (λ t. fields_of (known_before text k) t (word ∷ more)) is ∙ fields-Struct (known_before text k) fields word more ∙ ap (λ l. field_in (known_before text k) l word more) (sym same)

-- ---- names behind a struct

module _ (text : Text) (o : Option Led) (led : Led) (same : o ≡ Some led) (words : List (Bor Word)) (w : Bor Word) (long : 1 ≤ length words) (head : w ≡ get_or words 0 w)
    (found : Option (Bor Field)) (named : option_map (λ (f : Bor Field). f.now) found ≡ field_named led.fields.now w.now.name) where
  behind-found : fields_led text o (words_at words) ≡ behind_field (known_before text led.place) (option_map (λ (f : Bor Field). f.now) found) w.now (words_at (drop 1 words))
  behind-found =
      ap (λ l. fields_led text o (words_at l)) (first_read words w long head) ∙ ap (λ p. fields_led text p (w.now ∷ words_at (drop 1 words))) same
      ∙ field_in-named (known_before text led.place) led.fields.now w.now (words_at (drop 1 words))
      ∙ ap (λ p. behind_field (known_before text led.place) p w.now (words_at (drop 1 words))) (sym named)

  pub field-missing : found ≡ None → Some w.now.at ≡ least (fields_led text o (words_at words))
  field-missing none = sym (ap least (behind-found ∙ ap (λ p. behind_field (known_before text led.place) (option_map (λ (f : Bor Field). f.now) p) w.now (words_at (drop 1 words))) none))

  pub field-there : (field : Bor Field) (of : TypeExpr) (inner : Option Led) (result : Option ℕ) → found ≡ Some field → of ≡ (out-Field field.now).of → LeadsTo text led.place of inner
      → result ≡ least (fields_led text inner (words_at (drop 1 words))) → result ≡ least (fields_led text o (words_at words))
  field-there field of inner result some is leads at =
      at ∙ ap least (sym (leads (words_at (drop 1 words))) ∙ ap (λ t. fields_of (known_before text led.place) t (words_at (drop 1 words))) is
      ∙ sym (behind-found ∙ ap (λ p. behind_field (known_before text led.place) (option_map (λ (f : Bor Field). f.now) p) w.now (words_at (drop 1 words))) some))
