-- What a search answers says so of its problem.
use Rattle.std.proofs.Common.{ℕ}
use Rattle.bdd_store.specs.Diagram.{Diagram}
use Rattle.law_obligations.specs.Readings.{PosedCase, IsCase}
use Rattle.law_reports.specs.CaseLists.{case_lists}
use Rattle.law_reports.proofs.Decided.{shut_none, reached_shortest}
use Rattle.smv_search.specs.declared.Outcome.{Outcome}
use Rattle.smv_search.specs.declared.Outcome.TheVariants.{Closed, Reaches, OutOfNodes, OutOfSteps}
use Rattle.smv_search.specs.Answers.{Answers}
use Rattle.law_verdicts.specs.Searches.{Says}

pub says : (c : PosedCase) → IsCase c → (nodes images : ℕ) (d : Diagram) (o : Outcome) → Answers d (case_lists c) nodes images o → Says c o
says c is nodes images d (Closed set) answer = shut_none c is nodes images answer.0 answer.1
says c is nodes images d (Reaches depth rings) answer = reached_shortest c is nodes images depth answer.0
says c is nodes images d (OutOfNodes count) answer = tt
says c is nodes images d OutOfSteps answer = tt
