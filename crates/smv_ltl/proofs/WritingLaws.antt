-- What is written, and where it becomes too long.
use Rattle.std.proofs.Common.{◌≡◌, ◌+◌, ◌-◌, ℕ, suc, List, [], ◌∷◌, ◌++◌, length, drop, refl, sym, ap, ◌∙◌, subst, append_assoc, Result, Ok, Err, arith}
use Rattle.std.proofs.lemmas.List.{length-append, length-map, take_all, length-drop}
use Rattle.smv_core.specs.declared.fault.Fault.{Fault}
use Rattle.smv_core.specs.declared.fault.Refusal.{Refusal}
use Rattle.smv_core.specs.declared.fault.Refusal.TheVariants as refusal
use Rattle.smv_lex.specs.Answers.{IfFault}
use Rattle.law_strengthened_claims.specs.Renaming.{between}
use Rattle.law_translated_texts.specs.Translation.{Placed, Edit, placed_at, placed_from, edited}
use Rattle.smv_ltl.specs.Writing.{IsTooLong, GoesOn, IsTooLongWith}

pub placed-length : (from : ℕ) (bytes : List ℕ) → length (placed_from from bytes) ≡ length bytes
placed-length from [] = refl
placed-length from (b ∷ bytes) = ap suc (placed-length (suc from) bytes)

-- ---- lengths

pub length-with : (old : Placed) (at : ℕ) (bytes : List ℕ) → length (old ++ placed_at at bytes) ≡ length old + length bytes
length-with old at bytes = length-append old (placed_at at bytes) ∙ ap (λ n. length old + n) (length-map bytes (λ b. (b, at)))

pub length-with-own : (old : Placed) (from : ℕ) (bytes : List ℕ) → length (old ++ placed_from from bytes) ≡ length old + length bytes
length-with-own old from bytes = length-append old (placed_from from bytes) ∙ ap (λ n. length old + n) (placed-length from bytes)

pub ruleset lengths = (length-with, length-with-own)

-- an answer that is handed on as it is, of whose fault something else is said
pub fault-weaker : {X : Type 0} (r : Result X Refusal) (P Q : Fault → Type 0) → ((f : Fault) → P f → Q f) → IfFault r P → IfFault r Q
fault-weaker (Ok x) P Q h k = tt
fault-weaker (Err (refusal.Fault f)) P Q h k = h f k
fault-weaker (Err refusal.OutOfMemory) P Q h k = tt

-- what is too long stays so
pub over-more : (xs ys : Placed) (f : Fault) → IsTooLong xs f → IsTooLong (xs ++ ys) f
over-more xs ys f h = (h.0, h.1, omega (arith, h.2, length-append xs ys))

pub over-same : (xs ys : Placed) (f : Fault) → xs ≡ ys → IsTooLong xs f → IsTooLong ys f
over-same xs ys f e h = subst (λ (zs : Placed). IsTooLong zs f) e h

-- the front of what is to be written is too long
pub over-front : (old now xs ys all : Placed) (f : Fault) → now ++ (xs ++ ys) ≡ old ++ all → IsTooLong (now ++ xs) f → IsTooLong (old ++ all) f
over-front old now xs ys all f e h = over-same ((now ++ xs) ++ ys) (old ++ all) f (append_assoc now xs ys ∙ e) (over-more (now ++ xs) ys f h)

-- ---- between

pub between-end : (text : List ℕ) (from : ℕ) → between text from (length text) ≡ drop from text
between-end text from = take_all (length text - from) (drop from text) (omega (arith, length-drop from text))

-- ---- one edit

module _ (text : List ℕ) (e : Edit) (from : ℕ) (old : Placed) where
  abbrev kept : Placed
  kept = placed_from from (between text from e.from)

  pub one-edit : (mid new : Placed) → mid ≡ old ++ kept → new ≡ mid ++ e.written → GoesOn text (e ∷ []) from old e.to new
  one-edit mid new m n more =
      ap (λ l. l ++ edited text e.to more) (n ∙ ap (λ l. l ++ e.written) m ∙ append_assoc old kept e.written)
      ∙ append_assoc old (kept ++ e.written) (edited text e.to more) ∙ ap (λ l. old ++ l) (append_assoc kept e.written (edited text e.to more))

  pub over-kept : (f : Fault) → IsTooLong (old ++ kept) f → IsTooLongWith text (e ∷ []) from old f
  over-kept f h more = over-front old old kept (e.written ++ edited text e.to more) (edited text from (e ∷ more)) f refl h

  pub over-written : (f : Fault) (mid : Placed) → mid ≡ old ++ kept → IsTooLong (mid ++ e.written) f → IsTooLongWith text (e ∷ []) from old f
  over-written f mid m h more =
      over-front old mid e.written (edited text e.to more) (edited text from (e ∷ more)) f
      (ap (λ l. l ++ (e.written ++ edited text e.to more)) m ∙ append_assoc old kept (e.written ++ edited text e.to more)) h

-- ---- several

module _ (text : List ℕ) where
  pub no-edit : (from : ℕ) (old : Placed) → GoesOn text [] from old from old
  no-edit from old more = refl

  pub edits-more : (es fs : List Edit) (from mid to : ℕ) (old now new : Placed) → GoesOn text es from old mid now → GoesOn text fs mid now to new → GoesOn text (es ++ fs) from old to new
  edits-more es fs from mid to old now new h k more = k more ∙ h (fs ++ more) ∙ ap (λ l. old ++ edited text from l) (sym (append_assoc es fs more))

  pub over-first : (es fs : List Edit) (from : ℕ) (old : Placed) (f : Fault) → IsTooLongWith text es from old f → IsTooLongWith text (es ++ fs) from old f
  over-first es fs from old f h more = over-same (old ++ edited text from (es ++ (fs ++ more))) (old ++ edited text from ((es ++ fs) ++ more)) f (ap (λ l. old ++ edited text from l) (sym (append_assoc es fs more))) (h (fs ++ more))

  pub over-second : (es fs : List Edit) (from mid : ℕ) (old now : Placed) (f : Fault) → GoesOn text es from old mid now → IsTooLongWith text fs mid now f → IsTooLongWith text (es ++ fs) from old f
  over-second es fs from mid old now f h k more =
      over-same (now ++ edited text mid (fs ++ more)) (old ++ edited text from ((es ++ fs) ++ more)) f (h (fs ++ more) ∙ ap (λ l. old ++ edited text from l) (sym (append_assoc es fs more))) (k more)

-- ---- four pieces

module _ (old D H F T : Placed) where
  abbrev all : Placed
  all = D ++ (H ++ (F ++ T))

  pub over-first-piece : (f : Fault) → IsTooLong (old ++ D) f → IsTooLong (old ++ all) f
  over-first-piece f h = over-front old old D (H ++ (F ++ T)) all f refl h

  behind-first : (a : Placed) → a ≡ old ++ D → a ++ (H ++ (F ++ T)) ≡ old ++ all
  behind-first a first = ap (λ (l : Placed). l ++ (H ++ (F ++ T))) first ∙ append_assoc old D (H ++ (F ++ T))

  behind-second : (a b : Placed) → a ≡ old ++ D → b ≡ a ++ H → b ++ (F ++ T) ≡ old ++ all
  behind-second a b first second = ap (λ (l : Placed). l ++ (F ++ T)) second ∙ append_assoc a H (F ++ T) ∙ behind-first a first

  pub behind-third : (a b c : Placed) → a ≡ old ++ D → b ≡ a ++ H → c ≡ b ++ F → c ++ T ≡ old ++ all
  behind-third a b c first second third = ap (λ (l : Placed). l ++ T) third ∙ append_assoc b F T ∙ behind-second a b first second

  pub over-second-piece : (a : Placed) → a ≡ old ++ D → (f : Fault) → IsTooLong (a ++ H) f → IsTooLong (old ++ all) f
  over-second-piece a first f h = over-front old a H (F ++ T) all f (behind-first a first) h

  pub over-third-piece : (a b : Placed) → a ≡ old ++ D → b ≡ a ++ H → (f : Fault) → IsTooLong (b ++ F) f → IsTooLong (old ++ all) f
  over-third-piece a b first second f h = over-front old b F T all f (behind-second a b first second) h

  pub over-last-piece : (a b c : Placed) → a ≡ old ++ D → b ≡ a ++ H → c ≡ b ++ F → (f : Fault) → IsTooLong (c ++ T) f → IsTooLong (old ++ all) f
  over-last-piece a b c first second third f h = over-same (c ++ T) (old ++ all) f (behind-third a b c first second third) h
