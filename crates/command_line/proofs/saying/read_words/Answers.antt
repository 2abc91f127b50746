use Rattle.std.proofs.Common.{◌≡◌, ◌∙◌, map, Global}
use Rattle.std.specs.Prelude.{string_bytes}
use Rattle.clap.specs.Matches.{found_of}
use Rattle.clap.specs.Simple.{app_of}
use Rattle.clap.specs.Values.{kind_of}
use Rattle.clap.specs.Walk.{rows_of}
use Rattle.clap.specs.declared.error.kind.ErrorKind.TheVariants.{OutOfMemory}
use Rattle.command_line.proofs.WordValues.{words_not_taken, words_refused, words_taken}
use Rattle.command_line.proofs.saying.read_words.Goals as goal

pub returns-in-Ok-clause-means : goal.returns-in-Ok-clause-means
returns-in-Ok-clause-means c =
    let words = map (string_bytes {Z = Global}) c.args.words.now in
    words_taken (app_of c.in_ok-command.field-0) words (rows_of (found_of c.in-Ok.matches)) c.saying_in.result c.in_ok-command.ensures
    (λ s. (c.in-Ok.ensures.matches s).0) c.in-Ok.ensures.kinds c.saying_in.ensures

pub returns : goal.returns
returns c =
    let words = map (string_bytes {Z = Global}) c.args.words.now in
    let other : kind_of c.in-Err.error ≡ OutOfMemory → ⊥ = λ e. c.in_default.not-OutOfMemory (c.kind.ensures ∙ e) in
    record {
      means = words_refused (app_of c.in_ok-command.field-0) words (kind_of c.in-Err.error) OutOfMemory c.in_ok-command.ensures other c.in-Err.ensures.kinds;
      refuses = λ none.
          words_not_taken (app_of c.in_ok-command.field-0) words (kind_of c.in-Err.error) OutOfMemory c.in_ok-command.ensures other c.in-Err.ensures.passes;
    }
