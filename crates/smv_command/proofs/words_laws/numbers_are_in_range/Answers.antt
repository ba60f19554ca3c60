use Rattle.std.proofs.Common.{◌≡◌, ◌≤◌, ℕ, zero, suc, Bool, List, [], ◌∷◌, Option, Some, None, codes, refl, subst, true, false, arith}
use Rattle.std.specs.Prelude.{if◌then◌else◌, option_and_then, option_map, unwrap_or}
use Rattle.std.specs.Str.{bytes_eq}
use Rattle.clap.specs.Kinds.{Kinds}
use Rattle.clap.specs.Walk.{Row, Text, all_of}
use Rattle.clap.specs.Simple.{subcommand_of}
use Rattle.clap.specs.Faults.{fault_of}
use Rattle.smv_command.specs.CommandLine.{smv}
use Rattle.smv_command.specs.Commands.{bits_in, both, budgets_in, command_of, where_faultless, name_in, named, number, number_in, numbers, sizes_in, var_in}
use Rattle.smv_command.specs.Ranges.{AreInRange, AreSizes, IsInRange, most_nodes, most_steps, most_copies, most_size}
use Rattle.smv_bits.specs.declared.Bits.{Bits}
use Rattle.smv_problem.specs.declared.report.Budgets.{Budgets}
use Rattle.smv_command.specs.declared.commands.Command.{Command}
use Rattle.smv_command.specs.declared.commands.Command.TheVariants.{Prove, Only, Generated, Proof, Resume, Confirm, Induct, Ltl}
use Rattle.smv_command.proofs.Values.{number_ranged, spelled_ranged}
use Rattle.smv_command.proofs.words_laws.numbers_are_in_range.Goals as goal

-- a command in its range, where there is one
abbrev InRange : Option Command → Type 0
InRange None = Unit {0}
InRange (Some command) = IsInRange command

-- each of these budgets is in range
abbrev BothInRange : Option Budgets → Type 0
BothInRange None = Unit {0}
BothInRange (Some budgets) = AreInRange budgets

budgets_ranged : (rows : List Row) → BothInRange (budgets_in rows)
budgets_ranged rows = go (number_in most_nodes (codes "nodes") rows) (number_in most_steps (codes "steps") rows) (number_ranged most_nodes (codes "nodes") rows) (number_ranged most_steps (codes "steps") rows)
  where
    go : (x y : Option ℕ) → ((n : ℕ) → x ≡ Some n → (1 ≤ n) × (n ≤ most_nodes)) → ((n : ℕ) → y ≡ Some n → (1 ≤ n) × (n ≤ most_steps))
        → BothInRange (option_map (λ p. record { nodes = p.0; steps = p.1 }) (both x y))
    go None y p q = tt
    go (Some n) None p q = tt
    go (Some n) (Some m) p q =
        let a = p n refl in
        let b = q m refl in
        record { some_nodes = a.0; few_nodes = a.1; some_steps = b.0; few_steps = b.1 }

plain : (f : Budgets → Command) (o : Option Budgets) → ((b : Budgets) → AreInRange b → IsInRange (f b)) → BothInRange o → InRange (option_map f o)
plain f None same r = tt
plain f (Some b) same r = same b r

behind : {A : Type 0} (f : A × Budgets → Command) (x : Option A) (o : Option Budgets) → ((a : A) (b : Budgets) → AreInRange b → IsInRange (f (a, b))) → BothInRange o
    → InRange (option_map f (both x o))
behind f None o same r = tt
behind f (Some a) None same r = tt
behind f (Some a) (Some b) same r = same a b r

-- each of these sizes is in range
abbrev AllInRange : Option (List ℕ) → Type 0
AllInRange None = Unit {0}
AllInRange (Some sizes) = AreSizes sizes

sizes_ranged : (words : List Text) → AllInRange (numbers most_size words)
sizes_ranged [] = λ k d short. absurd (omega (arith, short))
sizes_ranged (word ∷ words) = go (number most_size word) (numbers most_size words) (spelled_ranged most_size word) (sizes_ranged words)
  where
    go : (x : Option ℕ) (xs : Option (List ℕ)) → ((n : ℕ) → x ≡ Some n → (1 ≤ n) × (n ≤ most_size)) → AllInRange xs → AllInRange (option_map (λ p. p.0 ∷ p.1) (both x xs))
    go None xs p q = tt
    go (Some n) None p q = tt
    go (Some n) (Some ns) p q = at_each
      where
        at_each : AreSizes (n ∷ ns)
        at_each zero d short = p n refl
        at_each (suc k) d short = q k d (omega (arith, short))

copies_ranged : (rows : List Row) → InRange (option_map Generated (number_in most_copies (codes "N") rows))
copies_ranged rows = go (number_in most_copies (codes "N") rows) (number_ranged most_copies (codes "N") rows)
  where
    go : (x : Option ℕ) → ((n : ℕ) → x ≡ Some n → (1 ≤ n) × (n ≤ most_copies)) → InRange (option_map Generated x)
    go None p = tt
    go (Some n) p = p n refl

confirm_ranged : (rows : List Row) → InRange (option_map (λ p. Confirm p.0 p.1.0 p.1.1.0 p.1.1.1) (both (name_in rows) (both (sizes_in rows) (both (bits_in rows) (budgets_in rows)))))
confirm_ranged rows = go (name_in rows) (sizes_in rows) (bits_in rows) (budgets_in rows) (sizes_ranged (unwrap_or (all_of (codes "SIZE") rows) [])) (budgets_ranged rows)
  where
    go : (n : Option Text) (s : Option (List ℕ)) (w : Option Bits) (b : Option Budgets) → AllInRange s → BothInRange b → InRange (option_map (λ p. Confirm p.0 p.1.0 p.1.1.0 p.1.1.1) (both n (both s (both w b))))
    go None s w b p q = tt
    go (Some n) None w b p q = tt
    go (Some n) (Some s) None b p q = tt
    go (Some n) (Some s) (Some w) None p q = tt
    go (Some n) (Some s) (Some w) (Some b) p q = (p, q)

induct_ranged : (rows : List Row) → InRange (option_map (λ p. Induct p.0 p.1.0 p.1.1) (both (name_in rows) (both (var_in rows) (budgets_in rows))))
induct_ranged rows = go (name_in rows) (var_in rows) (budgets_in rows) (budgets_ranged rows)
  where
    go : (n v : Option Text) (b : Option Budgets) → BothInRange b → InRange (option_map (λ p. Induct p.0 p.1.0 p.1.1) (both n (both v b)))
    go None v b q = tt
    go (Some n) None b q = tt
    go (Some n) (Some v) None q = tt
    go (Some n) (Some v) (Some b) q = q

only_ranged : (rows : List Row) → InRange (option_map (λ p. Only p.0 p.1.0 p.1.1) (both (name_in rows) (both (bits_in rows) (budgets_in rows))))
only_ranged rows = go (name_in rows) (bits_in rows) (budgets_in rows) (budgets_ranged rows)
  where
    go : (n : Option Text) (s : Option Bits) (b : Option Budgets) → BothInRange b → InRange (option_map (λ p. Only p.0 p.1.0 p.1.1) (both n (both s b)))
    go None s b q = tt
    go (Some n) None b q = tt
    go (Some n) (Some s) None q = tt
    go (Some n) (Some s) (Some b) q = q

chosen : (b : Bool) (x y : Option Command) → InRange x → InRange y → InRange (if b then x else y)
chosen true x y p q = p
chosen false x y p q = q

named_ranged : (word : Text) (rows : List Row) → InRange (named word rows)
unfolding named
named_ranged word rows =
    let r = budgets_ranged rows in
    chosen (bytes_eq word (codes "prove")) _ _ (behind (λ p. Prove p.0 p.1) (bits_in rows) (budgets_in rows) (λ a b p. p) r)
    (chosen (bytes_eq word (codes "only")) _ _ (only_ranged rows)
    (chosen (bytes_eq word (codes "print")) _ _ tt
    (chosen (bytes_eq word (codes "generated")) _ _ (copies_ranged rows)
    (chosen (bytes_eq word (codes "proof")) _ _ (plain Proof (budgets_in rows) (λ b p. p) r)
    (chosen (bytes_eq word (codes "check")) _ _ tt
    (chosen (bytes_eq word (codes "resume")) _ _ (plain Resume (budgets_in rows) (λ b p. p) r)
    (chosen (bytes_eq word (codes "confirm")) _ _ (confirm_ranged rows)
    (chosen (bytes_eq word (codes "induct")) _ _ (induct_ranged rows)
    (chosen (bytes_eq word (codes "ltl")) _ _ (behind (λ p. Ltl p.0 p.1) (bits_in rows) (budgets_in rows) (λ a b p. p) r) tt)))))))))

words_ranged : (words : List Text) → InRange (command_of words)
unfolding command_of
words_ranged words = go (fault_of smv words) (subcommand_of smv words)
  where
    go : (ks : Kinds) (o : Option (Text × List Row)) → InRange (where_faultless ks (option_and_then (λ found. named found.0 found.1) o))
    go (k ∷ ks) o = tt
    go [] None = tt
    go [] (Some found) = named_ranged found.0 found.1

pub returns : goal.returns
returns c words command e = subst InRange e (words_ranged words)
