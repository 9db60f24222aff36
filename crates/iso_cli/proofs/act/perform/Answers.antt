use Rattle.std.proofs.Common.{Err, ap}
use Rattle.std.proofs.lemmas.Result.{err_from_is_err_and}
use Rattle.iso_cli.proofs.JobLemmas.{done, stopped, uses_all, unasked}
use Rattle.iso_cli.proofs.act.perform.Goals as goal

pub returns-in_err-parse : goal.returns-in_err-parse
returns-in_err-parse g c =
    unasked _ _ _ _ _ c.in_err-parse.field-0.0 (err_from_is_err_and c.from_residual.result c.from_residual.ensures.1) (λ is. c.in_err-parse.ensures.refused (ap Err is))

pub returns-in_err-echo-in-Echo : goal.returns-in_err-echo-in-Echo
returns-in_err-echo-in-Echo g c =
    stopped _ _ _ _ _ _ _ _ (err_from_is_err_and c.from_residual-in_err-echo-in-Echo.result c.from_residual-in_err-echo-in-Echo.ensures.1) c.in_ok-parse.ensures.found c.in-Echo.is
    c.in_err-echo-in-Echo.ensures.words c.in_err-echo-in-Echo.ensures.stop (λ is. absurd (c.in_err-echo-in-Echo.ensures.turns is))

pub returns-in_err-check-in-Check : goal.returns-in_err-check-in-Check
returns-in_err-check-in-Check g c =
    stopped _ _ _ _ _ _ _ _ (err_from_is_err_and c.from_residual-in_err-check-in-Check.result c.from_residual-in_err-check-in-Check.ensures.1) c.in_ok-parse.ensures.found c.in-Check.is
    c.in_err-check-in-Check.ensures.words c.in_err-check-in-Check.ensures.stop (λ is. absurd (c.in_err-check-in-Check.ensures.turns is))

pub returns-in_err-show-in-Show : goal.returns-in_err-show-in-Show
returns-in_err-show-in-Show g c =
    stopped _ _ _ _ _ _ _ _ (err_from_is_err_and c.from_residual-in_err-show-in-Show.result c.from_residual-in_err-show-in-Show.ensures.1) c.in_ok-parse.ensures.found c.in-Show.is
    c.in_err-show-in-Show.ensures.words c.in_err-show-in-Show.ensures.stop (λ is. absurd (c.in_err-show-in-Show.ensures.turns is))

pub returns-in_err-convert-in-Convert : goal.returns-in_err-convert-in-Convert
returns-in_err-convert-in-Convert g c =
    stopped _ _ _ _ _ _ _ _ (err_from_is_err_and c.from_residual-in_err-convert-in-Convert.result c.from_residual-in_err-convert-in-Convert.ensures.1) c.in_ok-parse.ensures.found c.in-Convert.is
    c.in_err-convert-in-Convert.ensures.words c.in_err-convert-in-Convert.ensures.stop (λ is. absurd (c.in_err-convert-in-Convert.ensures.turns is))

pub returns-in_err-run-in-Run : goal.returns-in_err-run-in-Run
returns-in_err-run-in-Run g c =
    stopped _ _ _ _ _ _ _ _ (err_from_is_err_and c.from_residual-in_err-run-in-Run.result c.from_residual-in_err-run-in-Run.ensures.1) c.in_ok-parse.ensures.found c.in-Run.is
    c.in_err-run-in-Run.ensures.words (λ one. one)
    (λ is. uses_all _ _ _ _ _ _ _ c.in_ok-parse.ensures.found c.in-Run.is (c.in_err-run-in-Run.ensures.turns is))

pub returns-in_ok-echo-in-Echo : goal.returns-in_ok-echo-in-Echo
returns-in_ok-echo-in-Echo g c = done _ _ _ _ _ c.in_ok-parse.ensures.found c.in-Echo.is c.in_ok-echo-in-Echo.ensures.text

pub returns-in_ok-check-in-Check : goal.returns-in_ok-check-in-Check
returns-in_ok-check-in-Check g c = done _ _ _ _ _ c.in_ok-parse.ensures.found c.in-Check.is c.in_ok-check-in-Check.ensures.line

pub returns-in_ok-show-in-Show : goal.returns-in_ok-show-in-Show
returns-in_ok-show-in-Show g c = done _ _ _ _ _ c.in_ok-parse.ensures.found c.in-Show.is c.in_ok-show-in-Show.ensures.lines

pub returns-in_ok-convert-in-Convert : goal.returns-in_ok-convert-in-Convert
returns-in_ok-convert-in-Convert g c = done _ _ _ _ _ c.in_ok-parse.ensures.found c.in-Convert.is c.in_ok-convert-in-Convert.ensures.packed

pub returns-in-Run : goal.returns-in-Run
returns-in-Run g c = done _ _ _ _ _ c.in_ok-parse.ensures.found c.in-Run.is c.in_ok-run-in-Run.ensures.output
