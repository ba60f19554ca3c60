-- Which changed claims those of the code are.
use Rattle.std.specs.Prelude.{List, map}
use Rattle.law_formulas.specs.Monitors as monitors
use Rattle.law_translated_texts.specs.Translation as law
use Rattle.smv_ltl.specs.declared.changed.Around.{Around}
use Rattle.smv_ltl.specs.declared.changed.Changed.{Changed}
use Rattle.smv_ltl.specs.Plans.{watched_of}

abbrev pub around_of : List Around → monitors.Around
around_of around = map (λ (a : Around). (a.var.now, a.over.now)) around

abbrev pub change_of : Changed → law.Changed
change_of c = record { name = c.name; place = c.place; around = around_of c.around.items; watched = watched_of c.watched }

abbrev pub changes_of : List Changed → List law.Changed
changes_of cs = map change_of cs
