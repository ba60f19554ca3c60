use Rattle.law_strengthened_claims.proofs.Joined.{exchanged-sound}
use Rattle.law_strengthened_claims.proofs.laws.exchanged_is_sound.Goals as goal

pub returns : goal.returns
returns c var fresh set name text new body y inductive own same put h = exchanged-sound var fresh set name text new body y inductive own same put h
