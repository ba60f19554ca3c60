-- What rules leave behind them: tokens among those of the whole, and no more of any offset than there were.
use Rattle.std.proofs.Common.{◌≡◌, ◌≤◌, ◌⊎◌, ℕ, zero, suc, Bool, true, false, List, [], ◌∷◌, map, inl, inr, nat_eq, cond, refl, arith}
use Rattle.std.specs.List.{AllByRecursion}
use Rattle.law_lists.proofs.Each.{each_weaker}
use Rattle.smv_core.specs.declared.token.Token.{Token}
use Rattle.smv_core.specs.declared.token.TokenKind.{TokenKind}
use Rattle.smv_core.specs.declared.token.TokenKind.TheVariants.{Ident, Number, Sign, Reserved}
use Rattle.smv_core.specs.declared.tree.Word.{Word}
use Rattle.smv_core.specs.declared.tree.Role.{Role}
use Rattle.smv_core.specs.declared.tree.Role.TheVariants as role
use Rattle.smv_core.specs.Signs as w
use Rattle.smv_core.specs.Notation.{Tokens, Rule, never, one_of, token, name, many, opener, separated_or_none}
use Rattle.smv_core.specs.Grammar as g
use Rattle.smv_core.specs.Grammar.{Rules, below}
use Rattle.law_fresh_monitors.specs.Names.{IsOldName}
use Rattle.law_formula_texts.proofs.Rules.{KindOk, Any, NameHas, many-gives, one_of-gives, token-gives, name-gives, opener-gives, or_none-gives}
use Rattle.law_formula_texts.proofs.Productions.{Given, AreGood, none-good, all-good, simple-gives, brackets-gives, type-given}
use Rattle.law_formula_texts.proofs.Texts.{FormulaOld, formula-gives, split-gives, using-gives, declared-gives, instance-gives, layer-gives, extent-gives}
use Rattle.law_formula_texts.proofs.Counting.{times}
use Rattle.law_formula_grammar.specs.Grammar.{formula_below}

abbrev pub Among : Tokens → Token → Type 0
Among [] t = ⊥
Among (u ∷ us) t = (u ≡ t) ⊎ Among us t

pub all-among : (ts : Tokens) → AllByRecursion (Among ts) ts
all-among [] = tt
all-among (t ∷ ts) = (inl refl, each_weaker (Among ts) (Among (t ∷ ts)) (λ u h. inr h) ts (all-among ts))

-- how many of the tokens stand at this offset
abbrev pub count : ℕ → Tokens → ℕ
count k ts = times k (map (λ (t : Token). t.at) ts)

-- the rules without those of items
abbrev pub core : Rules → Rules
core r = record r { item = never; body = never }

module _ (whole : Tokens) where
  abbrev pub Within : Tokens → Type 0
  Within us = AllByRecursion (Among whole) us

  module _ (k m : ℕ) where
    abbrev State : Tokens → Type 0
    State us = (count k us ≤ m) × Within us

    state-rests : (t : Token) (us : Tokens) → State (t ∷ us) → State us
    state-rests t us (l, h) = (by_test (nat_eq k t.at) l, h.1)
      where
        by_test : (b : Bool) → cond b (suc (count k us)) (count k us) ≤ m → count k us ≤ m
        by_test true l = omega (arith, l)
        by_test false l = l

    any-kind : (kind : TokenKind) → KindOk (IsOldName []) kind
    any-kind (Ident bytes) = refl
    any-kind (Number value) = tt
    any-kind (Sign i) = tt
    any-kind (Reserved i) = tt

    state-kinds : (t : Token) (us : Tokens) → State (t ∷ us) → KindOk (IsOldName []) t.kind
    state-kinds t us h = any-kind t.kind

    abbrev GivenSo : {A : Type 0} → (A → Type 0) → Rule A → Type 0
    GivenSo P r = Given [] State state-rests state-kinds P r

    plain-good : (floor : ℕ → ℕ) (n : ℕ) → AreGood [] State state-rests state-kinds (below floor n)
    plain-good floor zero = none-good [] State state-rests state-kinds
    plain-good floor (suc n) = all-good [] State state-rests state-kinds floor n (below floor n) (plain-good floor n) (g.item_rule floor n (below floor n)) (g.body_rule floor n (below floor n))

    core-good : (floor : ℕ → ℕ) (n : ℕ) → AreGood [] State state-rests state-kinds (core (below floor n))
    core-good floor n = let h = plain-good floor n in record {
      expr_good = h.expr_good;
      negation_good = h.negation_good;
      member_good = h.member_good;
      path_good = h.path_good;
      type_good = h.type_good;
      field_good = h.field_good;
      condition_good = h.condition_good;
      binder_good = h.binder_good;
      stmt_good = h.stmt_good;
      arms_good = h.arms_good;
      turns_good = h.turns_good;
      ref_good = h.ref_good;
    }

  abbrev pub Steps : {A : Type 0} → Rule A → Type 0
  Steps {A} r = (ts : Tokens) (a : A) (rest : Tokens) → r ts a rest → Within ts → Within rest × ((k : ℕ) → count k rest ≤ count k ts)

  steps : {A : Type 0} (P : A → Type 0) (r : Rule A) → ((k m : ℕ) → GivenSo k m P r) → Steps r
  steps P r h ts a rest x w = ((h 0 (count 0 ts) ts a rest x (omega arith, w)).1.1, λ k. (h k (count k ts) ts a rest x (omega arith, w)).1.0)

  -- ---- pieces

  pub token-steps : (kind : TokenKind) → Steps (token kind)
  token-steps kind = steps Any (token kind) (λ k m. token-gives (IsOldName []) (State k m) (state-rests k m) (state-kinds k m) kind)

  pub name-steps : Steps name
  name-steps = steps (NameHas (IsOldName [])) name (λ k m. name-gives (IsOldName []) (State k m) (state-rests k m) (state-kinds k m))

  pub opener-steps : (floor : ℕ → ℕ) (n : ℕ) (kind : TokenKind) → Steps (opener floor n kind)
  opener-steps floor n kind = steps Any (opener floor n kind) (λ k m. opener-gives (IsOldName []) (State k m) (state-rests k m) (state-kinds k m) floor n kind)

  pub names-steps : Steps (separated_or_none name)
  names-steps = steps _ (separated_or_none name) (λ k m. or_none-gives (IsOldName []) (State k m) (state-rests k m) (state-kinds k m) (NameHas (IsOldName [])) name (name-gives (IsOldName []) (State k m) (state-rests k m) (state-kinds k m)))

  pub extent-steps : Steps g.extent
  extent-steps = steps Any g.extent (λ k m. extent-gives [] (State k m) (state-rests k m) (state-kinds k m) [])

  module _ (floor : ℕ → ℕ) (n : ℕ) where
    pub binder-steps : Steps (below floor n).binder
    binder-steps = steps _ (below floor n).binder (λ k m. (plain-good k m floor n).binder_good)

    pub condition-steps : Steps (below floor n).condition
    condition-steps = steps _ (below floor n).condition (λ k m. (plain-good k m floor n).condition_good)

    pub inner-steps : Steps (below floor n).expr
    inner-steps = steps _ (below floor n).expr (λ k m. (plain-good k m floor n).expr_good)

    pub brackets-steps : Steps (many (g.in_brackets floor n (below floor n)))
    brackets-steps = steps _ (many (g.in_brackets floor n (below floor n))) (λ k m. many-gives (IsOldName []) (State k m) (state-rests k m) (state-kinds k m) (NameHas (IsOldName [])) (g.in_brackets floor n (below floor n))
        (brackets-gives [] (State k m) (state-rests k m) (state-kinds k m) floor n (below floor n) (plain-good k m floor n)))

    pub type-steps : Steps (g.type_rule floor n (below floor n))
    type-steps = steps _ (g.type_rule floor n (below floor n)) (λ k m. type-given [] (State k m) (state-rests k m) (state-kinds k m) floor n (below floor n) (plain-good k m floor n))

    pub simple-steps : Steps (g.simple floor n (below floor n))
    simple-steps = steps _ (g.simple floor n (below floor n)) (λ k m. simple-gives [] (State k m) (state-rests k m) (state-kinds k m) floor n (below floor n) (plain-good k m floor n))

    pub split-steps : Steps (g.split floor n (below floor n))
    split-steps = steps _ (g.split floor n (core (below floor n))) (λ k m. split-gives [] (State k m) (state-rests k m) (state-kinds k m) [] floor n (core (below floor n)) never (core-good k m floor n) (λ ts a rest h ok. absurd h) (λ ts a rest h ok. absurd h))

    pub using-steps : Steps (g.using floor n (below floor n))
    using-steps = steps _ (g.using floor n (core (below floor n))) (λ k m. using-gives [] (State k m) (state-rests k m) (state-kinds k m) [] floor n (core (below floor n)) never (core-good k m floor n) (λ ts a rest h ok. absurd h) (λ ts a rest h ok. absurd h))

    pub instance-steps : Steps (g.instance floor n (below floor n))
    instance-steps = steps _ (g.instance floor n (core (below floor n))) (λ k m. instance-gives [] (State k m) (state-rests k m) (state-kinds k m) [] floor n (core (below floor n)) never (core-good k m floor n) (λ ts a rest h ok. absurd h) (λ ts a rest h ok. absurd h))

    pub layer-steps : Steps (g.layer floor n (below floor n))
    layer-steps = steps _ (g.layer floor n (core (below floor n))) (λ k m. layer-gives [] (State k m) (state-rests k m) (state-kinds k m) [] floor n (core (below floor n)) never (core-good k m floor n) (λ ts a rest h ok. absurd h) (λ ts a rest h ok. absurd h))

    pub declared-steps : (how : Role) (at : List Word → ℕ) → Steps (g.declared floor n (below floor n) how at)
    declared-steps how at = steps _ (g.declared floor n (core (below floor n)) how at) (λ k m. declared-gives [] (State k m) (state-rests k m) (state-kinds k m) [] floor n (core (below floor n)) never (core-good k m floor n) (λ ts a rest h ok. absurd h) (λ ts a rest h ok. absurd h) how at)

  pub role-steps : Steps (one_of ((w.word_abstract, role.Abstract) ∷ (w.word_input, role.Input) ∷ (w.word_output, role.Output) ∷ []))
  role-steps = steps Any _ (λ k m. one_of-gives (IsOldName []) (State k m) (state-rests k m) (state-kinds k m) ((w.word_abstract, role.Abstract) ∷ (w.word_input, role.Input) ∷ (w.word_output, role.Output) ∷ []))

  -- ---- formulas

  formula-good : (k m : ℕ) (floor : ℕ → ℕ) (n : ℕ) → GivenSo k m (FormulaOld [] (State k m) (state-rests k m) (state-kinds k m) []) (formula_below floor n)
  formula-good k m floor zero = λ ts a rest h ok. absurd h
  formula-good k m floor (suc n) = formula-gives [] (State k m) (state-rests k m) (state-kinds k m) [] floor n (core (below floor n)) (formula_below floor n) (core-good k m floor n) (λ ts a rest h ok. absurd h) (formula-good k m floor n)

  pub formula-steps : (floor : ℕ → ℕ) (n : ℕ) → Steps (formula_below floor n)
  formula-steps floor n = steps _ (formula_below floor n) (λ k m. formula-good k m floor n)
