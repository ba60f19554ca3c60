-- The matches are those of the described command, and where clap refuses the words it is for a fault that it finds in them.
use Rattle.std.proofs.Common.{◌≡◌, ◌∙◌, List, [], ◌∷◌, Option, None, ap, map, refl, subst, sym, true, true≢false, inl, inr}
use Rattle.std.specs.Prelude.{option_and_then}
use Rattle.std.proofs.lemmas.Result.{IfOk-weaker}
use Rattle.std.specs.String.{string_bytes}
use Rattle.clap.specs.Kinds.{Kinds, IsAmong}
use Rattle.clap.specs.Values.{kind_of}
use Rattle.clap.specs.Walk.{Row, Text}
use Rattle.clap.specs.Simple.{App, is_simple, subcommand_of, subcommand_rows_of}
use Rattle.clap.specs.Faults.{fault_of, is_simple_and_free}
use Rattle.clap.proofs.OnLiterals.{clap_on_literals}
use Rattle.smv_command.specs.CommandLine as line
use Rattle.smv_command.specs.Commands.{command_of, where_faultless, named}
use Rattle.smv_command.specs.declared.commands.Command.{Command}
use Rattle.smv_command.specs.Built.{IsGiven}
use Rattle.smv_command.proofs.Taken.{taken_given}
use Rattle.smv_command.proofs.words.command_of.Goals as goal

is_free : is_simple_and_free line.smv ≡ true
unfolding clap_on_literals
is_free = refl

is_plain : is_simple line.smv ≡ true
unfolding clap_on_literals
is_plain = refl

abbrev chosen : Option (Text × List Row) → Option Command
chosen = option_and_then (λ found. named found.0 found.1)

where_taken : (words : List Text) → fault_of line.smv words ≡ [] → command_of words ≡ chosen (subcommand_of line.smv words)
unfolding command_of
where_taken words e = ap (λ (ks : Kinds). where_faultless ks (chosen (subcommand_of line.smv words))) e

where_refused : (words : List Text) → (fault_of line.smv words ≡ [] → ⊥) → command_of words ≡ None
unfolding command_of
where_refused words e = go (fault_of line.smv words) e
  where
    go : (ks : Kinds) → (ks ≡ [] → ⊥) → where_faultless ks (chosen (subcommand_of line.smv words)) ≡ None
    go [] e = absurd (e refl)
    go (k ∷ ks) e = refl

pub command_in-requires : goal.command_in-requires
command_in-requires c =
    let is = c.in_ok-smv.ensures in
    let words = map string_bytes c.args.words.now in
    let taken : fault_of line.smv words ≡ [] = ap (λ (a : App). fault_of a words) (sym is) ∙ c.in-Ok.ensures.kinds (ap is_simple_and_free is ∙ is_free) in
    let rows : subcommand_rows_of c.in-Ok.matches ≡ subcommand_of line.smv words = (c.in-Ok.ensures.matches (ap is_simple is ∙ is_plain)).1 ∙ ap (λ (a : App). subcommand_of a words) is in
    subst IsGiven (sym rows) (taken_given words taken)

pub returns-in-Ok : goal.returns-in-Ok
returns-in-Ok c =
    let is = c.in_ok-smv.ensures in
    let words = map string_bytes c.args.words.now in
    let taken : fault_of line.smv words ≡ [] = ap (λ (a : App). fault_of a words) (sym is) ∙ c.in-Ok.ensures.kinds (ap is_simple_and_free is ∙ is_free) in
    let rows : subcommand_rows_of c.in-Ok.matches ≡ subcommand_of line.smv words = (c.in-Ok.ensures.matches (ap is_simple is ∙ is_plain)).1 ∙ ap (λ (a : App). subcommand_of a words) is in
    IfOk-weaker c.command_in.result _ _ (λ found is. sym (where_taken words taken ∙ (ap chosen (sym rows) ∙ is))) c.command_in.ensures

pub returns : goal.returns
returns c =
    let is = c.in_ok-smv.ensures in
    let words = map string_bytes c.args.words.now in
    let kinds = c.in-Err.ensures.kinds (ap is_simple_and_free is ∙ is_free) in
    let refused : fault_of line.smv words ≡ [] → ⊥ = λ none. elim kinds [
      | inl memory ↦
          let same : c.eq.result ≡ true = rw (c.kind.ensures, memory) at c.eq.ensures in
          true≢false (sym same ∙ c.if-eq.false)
      | inr among ↦ subst (IsAmong (kind_of c.in-Err.error)) (ap (λ (a : App). fault_of a words) is ∙ none) among
    ] in
    sym (where_refused words refused)
