use Rattle.worked_texts.proofs.WorkedTimes as rows
use Rattle.worked_texts.proofs.cases.worked_times.Goals as goal

pub returns-clause-rows : goal.returns-clause-rows
returns-clause-rows c = rows.rows-timed

pub returns-clause-cycles : goal.returns-clause-cycles
returns-clause-cycles c = rows.cycles-timed

pub returns-clause-same_time : goal.returns-clause-same_time
returns-clause-same_time c = rows.same_time-timed

pub returns-clause-settled : goal.returns-clause-settled
returns-clause-settled c = rows.settled-timed

pub returns-clause-tomasulo : goal.returns-clause-tomasulo
returns-clause-tomasulo c = rows.tomasulo-timed
