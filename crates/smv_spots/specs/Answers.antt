-- The answers of a comparison as three truth values.
use Rattle.std.specs.Prelude.{List}
use Rattle.std.specs.List.{list_any}
use Rattle.smv_core.specs.Values.{Truth}
use Rattle.smv_core.specs.Outcome.{is_true}
use Rattle.law_obligations.specs.Right.{is_false, is_neither}
use Rattle.smv_spots.specs.declared.answers.Answers.{Answers}

-- which are among these
abbrev pub answers_of : List Truth → Answers
answers_of ts = record { no = list_any is_false ts; yes = list_any is_true ts; neither = list_any is_neither ts }

-- `~` of them
abbrev pub turned_of : Answers → Answers
turned_of a = record { no = a.yes; yes = a.no; neither = a.neither }
