-- How many tokens stand before an offset, and where the last brace stands.
use Rattle.std.proofs.Common.{◌≡◌, ◌≤◌, ◌<◌, ◌==◌, ◌-◌, ℕ, zero, suc, List, [], ◌∷◌, length, take, drop, take_while, Bool, true, false, cond, if◌then◌else◌, nat_lt, get_or, refl, sym, ap, ◌∙◌, arith}
use Rattle.std.proofs.lemmas.Bool.Decides.{nat_tests}
use Rattle.std.proofs.lemmas.List.{drop_all}
use Rattle.std.proofs.lemmas.List.Sums.{take_while-cons}
use Rattle.smv_core.specs.declared.token.Token.{Token}
use Rattle.smv_core.specs.declared.tree.Top.{Top}
use Rattle.smv_core.specs.declared.tree.Top.TheVariants.{SetType, Alias, Module}
use Rattle.smv_core.specs.Notation.{Tokens, same_kind}
use Rattle.smv_core.specs.Signs.{close_brace}
use Rattle.smv_core.specs.Spelling.{place_of_rest}
use Rattle.law_grammar.specs.Laws.{Rise}
use Rattle.law_translated_texts.specs.Parts.{from_place}
use Rattle.law_translated_texts.specs.Translation.{last_brace, before_top}
use Rattle.smv_ltl.specs.Rising.{Rises, begins_at, place_of}

abbrev pub before : ℕ → Tokens → Tokens
before at ts = take_while (λ (t : Token). nat_lt t.at at) ts

module _ (at : ℕ) where
  -- each token behind one stands behind it
  first-least : (end : ℕ) (t : Token) (ts : Tokens) (i : ℕ) (d : Token) → Rise end (t ∷ ts) → i < length ts → t.at < (get_or ts i d).at
  first-least end t [] i d rise lt = absurd (omega (arith, lt))
  first-least end t (u ∷ ts) zero d rise lt = rise.0
  first-least end t (u ∷ ts) (suc i) d rise lt = let h = first-least end u ts i d rise.1 (omega (arith, lt)) in let k = rise.0 in omega (arith, h, k)

  step : (t : Token) (ts : Tokens) (b : Bool) → nat_lt t.at at ≡ b → length (before at (t ∷ ts)) ≡ cond b (suc (length (before at ts))) 0
  step t ts b e = ap length (take_while-cons (λ (u : Token). nat_lt u.at at) t ts) ∙ ap (λ c. length (cond c (t ∷ before at ts) [])) e ∙ by b
    where
      by : (c : Bool) → length (cond c (t ∷ before at ts) []) ≡ cond c (suc (length (before at ts))) 0
      by true = refl
      by false = refl

  yes : (t : Token) (ts : Tokens) → nat_lt t.at at ≡ true → length (before at (t ∷ ts)) ≡ suc (length (before at ts))
  yes t ts e = step t ts true e

  no : (t : Token) (ts : Tokens) → nat_lt t.at at ≡ false → length (before at (t ∷ ts)) ≡ 0
  no t ts e = step t ts false e

  counted : (end : ℕ) (ts : Tokens) (i : ℕ) (d : Token) → Rise end ts → i < length ts → (get_or ts i d).at < at → i < length (before at ts)
  counted end [] i d rise lt less = absurd (omega (arith, lt))
  counted end (t ∷ ts) zero d rise lt less =
      let l : t.at < at = less in
      let e : nat_lt t.at at ≡ true = grind (arith, nat_tests) in
      omega (arith, yes t ts e)
  counted end (t ∷ ts) (suc i) d rise lt less =
      let first = first-least end t ts i d rise (omega (arith, lt)) in
      let within : i < length ts = omega (arith, lt) in
      let less_here : (get_or ts i d).at < at = less in
      let below : t.at < at = omega (arith, first, less_here) in
      let e : nat_lt t.at at ≡ true = grind (arith, nat_tests) in
      let h = counted end ts i d rise.1 within less_here in
      omega (arith, yes t ts e, h)

  not-counted : (ts : Tokens) (i : ℕ) (d : Token) → i < length ts → at ≤ (get_or ts i d).at → length (before at ts) ≤ i
  not-counted [] i d lt more = absurd (omega (arith, lt))
  not-counted (t ∷ ts) zero d lt more = let l : at ≤ t.at = more in let e : nat_lt t.at at ≡ false = grind (arith, nat_tests) in omega (arith, no t ts e)
  not-counted (t ∷ ts) (suc i) d lt more = by (nat_lt t.at at) refl (not-counted ts i d (omega (arith, lt)) more)
    where
      by : (b : Bool) → nat_lt t.at at ≡ b → length (before at ts) ≤ i → length (before at (t ∷ ts)) ≤ suc i
      by true e h = omega (arith, yes t ts e, h)
      by false e h = omega (arith, no t ts e)

  pub counted_there : (ts : Tokens) (i : ℕ) (d : Token) → Rises ts → i < length ts → (get_or ts i d).at < at → i < length (before at ts)
  counted_there ts i d rises lt less = counted rises.0 ts i d rises.1 lt less

  pub not_counted_there : (ts : Tokens) (i : ℕ) (d : Token) → i < length ts → at ≤ (get_or ts i d).at → length (before at ts) ≤ i
  not_counted_there ts i d lt more = not-counted ts i d lt more

  -- ---- the token at an offset

  none-later : (end : ℕ) (ts : Tokens) → Rise end ts → at < place_of_rest end ts → from_place at ts ≡ []
  none-later end [] rise lt = refl
  none-later end (t ∷ ts) rise lt =
      let l : at < t.at = lt in
      let e : (t.at == at) ≡ false = grind (arith, nat_tests) in
      let k = rise.0 in
      ap (λ b. if b then t ∷ ts else from_place at ts) e ∙ none-later end ts rise.1 (omega (arith, l, k))

  from-place-is : (end : ℕ) (ts : Tokens) → Rise end ts → from_place at ts ≡ (if begins_at at (drop (length (before at ts)) ts) then drop (length (before at ts)) ts else [])
  from-place-is end [] rise = refl
  from-place-is end (t ∷ ts) rise = by (nat_lt t.at at) refl (from-place-is end ts rise.1)
    where
      not-less : (b : Bool) → (t.at == at) ≡ b → nat_lt t.at at ≡ false → (if b then t ∷ ts else from_place at ts) ≡ (if b then t ∷ ts else [])
      not-less true k e = refl
      not-less false k e = let l : at < t.at = grind (arith, nat_tests) in let r = rise.0 in none-later end ts rise.1 (omega (arith, l, r))

      by : (b : Bool) → nat_lt t.at at ≡ b → from_place at ts ≡ (if begins_at at (drop (length (before at ts)) ts) then drop (length (before at ts)) ts else []) →
          from_place at (t ∷ ts) ≡ (if begins_at at (drop (length (before at (t ∷ ts))) (t ∷ ts)) then drop (length (before at (t ∷ ts))) (t ∷ ts) else [])
      by true e h =
          let k : (t.at == at) ≡ false = grind (arith, nat_tests) in
          ap (λ b. if b then t ∷ ts else from_place at ts) k ∙ h ∙ sym (ap (λ n. if begins_at at (drop n (t ∷ ts)) then drop n (t ∷ ts) else []) (yes t ts e))
      by false e h = not-less (t.at == at) refl e ∙ sym (ap (λ n. if begins_at at (drop n (t ∷ ts)) then drop n (t ∷ ts) else []) (no t ts e))

  where-found : (ts rest : Tokens) (n : ℕ) (b : Bool) → Rises ts → n ≡ length (before at ts) → rest ≡ drop n ts → begins_at at rest ≡ b → from_place at ts ≡ (if b then rest else [])
  where-found ts rest n b rises e k is =
      let there : rest ≡ drop (length (before at ts)) ts = k ∙ ap (λ (m : ℕ). drop m ts) e in
      from-place-is rises.0 ts rises.1 ∙ ap (λ (l : Tokens). if begins_at at l then l else []) (sym there) ∙ ap (λ (c : Bool). if c then rest else []) is

  pub found_there : (ts rest : Tokens) (n : ℕ) → Rises ts → n ≡ length (before at ts) → rest ≡ drop n ts → begins_at at rest ≡ true → rest ≡ from_place at ts
  found_there ts rest n rises e k is = sym (where-found ts rest n true rises e k is)

  pub found_nowhere : (ts rest none : Tokens) (n : ℕ) → Rises ts → n ≡ length (before at ts) → rest ≡ drop n ts → begins_at at rest ≡ false → none ≡ drop (length rest) rest → none ≡ from_place at ts
  found_nowhere ts rest none n rises e k is d = d ∙ drop_all (length rest) rest (omega arith) ∙ sym (where-found ts rest n false rises e k is)

  pub taken_before : (ts : Tokens) → take (length (before at ts)) ts ≡ before at ts
  taken_before [] = refl
  taken_before (t ∷ ts) = by (nat_lt t.at at) refl (taken_before ts)
    where
      by : (b : Bool) → nat_lt t.at at ≡ b → take (length (before at ts)) ts ≡ before at ts → take (length (before at (t ∷ ts))) (t ∷ ts) ≡ before at (t ∷ ts)
      by true e h =
          ap (λ n. take n (t ∷ ts)) (yes t ts e) ∙ ap (λ l. t ∷ l) h ∙ sym (take_while-cons (λ (u : Token). nat_lt u.at at) t ts ∙ ap (λ c. cond c (t ∷ before at ts) []) e)
      by false e h = ap (λ n. take n (t ∷ ts)) (no t ts e) ∙ sym (take_while-cons (λ (u : Token). nat_lt u.at at) t ts ∙ ap (λ c. cond c (t ∷ before at ts) []) e)

-- ---- before a top

pub before_first : (ts : Tokens) (tops : List Top) (top : Top) → 1 ≤ length tops → top ≡ get_or tops 0 top → before (place_of top) ts ≡ before_top ts tops
before_first ts [] top le is = absurd (omega (arith, le))
before_first ts (x ∷ tops) top le is = ap (λ (y : Top). before (place_of y) ts) is ∙ by x
  where
    by : (y : Top) → before (place_of y) ts ≡ before_top ts (y ∷ tops)
    by (SetType word ordered span at) = refl
    by (Alias word of at) = refl
    by (Module word formals body at) = refl

-- ---- the last brace

last-is : (ts : Tokens) (n at : ℕ) (d : Token) → n < length ts → last_brace (take (suc n) ts) at ≡ (if same_kind (get_or ts n d).kind close_brace then (get_or ts n d).at else last_brace (take n ts) at)
last-is [] n at d lt = absurd (omega (arith, lt))
last-is (t ∷ ts) zero at d lt = refl
last-is (t ∷ ts) (suc n) at d lt = last-is ts n (if same_kind t.kind close_brace then t.at else at) d (omega (arith, lt))

module _ (ts : Tokens) (count whole : ℕ) (t : Token) (some : 0 < count) (within : count ≤ length ts) (is : t ≡ get_or ts (count - 1) t) (told : last_brace (take count ts) 0 ≡ whole) where
  brace-is : (b : Bool) → same_kind t.kind close_brace ≡ b → (if b then t.at else last_brace (take (count - 1) ts) 0) ≡ whole
  brace-is b e =
      let more : suc (count - 1) ≡ count = omega (arith, some) in
      sym (ap (λ (c : Bool). if c then t.at else last_brace (take (count - 1) ts) 0) e) ∙ ap (λ (u : Token). if same_kind u.kind close_brace then u.at else last_brace (take (count - 1) ts) 0) is
      ∙ sym (last-is ts (count - 1) 0 t (omega (arith, some, within))) ∙ ap (λ (n : ℕ). last_brace (take n ts) 0) more ∙ told

  pub brace_found : same_kind t.kind close_brace ≡ true → t.at ≡ whole
  brace_found e = brace-is true e

  pub brace_passed : same_kind t.kind close_brace ≡ false → last_brace (take (count - 1) ts) 0 ≡ whole
  brace_passed e = brace-is false e

pub ruleset braces = (brace_found, brace_passed)

pub ruleset finding = (found_there, found_nowhere)
