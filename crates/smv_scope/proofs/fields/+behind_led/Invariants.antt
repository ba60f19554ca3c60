use Rattle.std.proofs.Common.{length}
use Rattle.smv_scope.proofs.fields.+behind_led.Given as goal

abbrev pub decreases-behind_led : goal.decreases-behind_led
decreases-behind_led l = length l.words.now
