use Rattle.std.proofs.Common.{rules, map, string_bytes}
use Rattle.std.specs.Prelude.{codes}
use Rattle.program_words.specs.Words.{GivesCheckpoint, GivesLog, IsSecond}
use Rattle.program_words.specs.inner.WordValues.{IsAskOf, IsRunOf, IsServeOf}
use Rattle.program_words.proofs.SubcommandWords.{behind, reads_ask, reads_checkpoint, reads_log, reads_run, reads_serve}
use Rattle.program_words.proofs.words.parse_words.Goals as goal

pub returns-in_ok-run_words-in-run : goal.returns-in_ok-run_words-in-run
returns-in_ok-run_words-in-run c =
    let named : IsSecond (codes "run") c.args.words.now = search rules in
    let said : IsRunOf (behind c.args.words.now) c.in_ok-run_words-in-run.field-0 = search rules in
    reads_run c.in_ok-run_words-in-run.field-0 c.args.words.now c.in-len2-up.len_at_least named said

pub returns-in_ok-serve_words-in-serve : goal.returns-in_ok-serve_words-in-serve
returns-in_ok-serve_words-in-serve c =
    let named : IsSecond (codes "serve") c.args.words.now = search rules in
    let said : IsServeOf (behind c.args.words.now) c.in_ok-serve_words-in-serve.field-0 = search rules in
    reads_serve c.in_ok-serve_words-in-serve.field-0 c.args.words.now c.in-len2-up.len_at_least named said

pub returns-in_ok-log_words-in-log : goal.returns-in_ok-log_words-in-log
returns-in_ok-log_words-in-log c =
    let named : IsSecond (codes "log") c.args.words.now = search rules in
    let said : GivesLog c.in_ok-log_words-in-log.field-0 (map string_bytes (behind c.args.words.now)) = search rules in
    reads_log c.in_ok-log_words-in-log.field-0 c.args.words.now c.in-len2-up.len_at_least named said

pub returns-in_ok-ask_words-in-ask : goal.returns-in_ok-ask_words-in-ask
returns-in_ok-ask_words-in-ask c =
    let named : IsSecond (codes "ask") c.args.words.now = search rules in
    let said : IsAskOf (behind c.args.words.now) c.in_ok-ask_words-in-ask.field-0 = search rules in
    reads_ask c.in_ok-ask_words-in-ask.field-0 c.args.words.now c.in-len2-up.len_at_least named said

pub returns-in_ok-checkpoint_words-in-checkpoint : goal.returns-in_ok-checkpoint_words-in-checkpoint
returns-in_ok-checkpoint_words-in-checkpoint c =
    let named : IsSecond (codes "checkpoint") c.args.words.now = search rules in
    let said : GivesCheckpoint c.in_ok-checkpoint_words-in-checkpoint.field-0 (map string_bytes (behind c.args.words.now)) = search rules in
    reads_checkpoint c.in_ok-checkpoint_words-in-checkpoint.field-0 c.args.words.now c.in-len2-up.len_at_least named said
