use Rattle.std.proofs.Common.{◌≡◌, ◌∙◌, ap, codes, ℕ}
use Rattle.std.specs.Prelude.{Option, unwrap_or}
use Rattle.std.specs.Str.Parse.{ParsesUnsigned, ExplainsUnsignedError, HasUnsignedDigitsIfOk}
use Rattle.clap.specs.Matches.{found_of}
use Rattle.clap.specs.Walk.{rows_of}
use Rattle.command_line.specs.Options.{flag_of_word, number_of_word}
use Rattle.command_line.proofs.WordValues.{flag_found, number_found, same_options}
use Rattle.command_line.proofs.options.options_in.Goals as goal

pub returns : goal.returns
returns c =
    let f = found_of c.args.matches.now in
    let trace : c.unwrap_or.result ≡ flag_of_word (codes "trace") (rows_of f) =
    c.unwrap_or.ensures ∙ flag_found _ f (codes "trace") c.get_one.result c.get_one.ensures.none c.get_one.ensures.value in
    let pageout : c.unwrap_or-2.result ≡ unwrap_or (number_of_word (codes "pageout") (rows_of f)) 0 =
    c.unwrap_or-2.ensures ∙ ap (λ (o : Option ℕ). unwrap_or o 0)
    (number_found _ (λ bs r. ParsesUnsigned 32 10 bs r × ExplainsUnsignedError 10 bs r × HasUnsignedDigitsIfOk bs r)
    f (codes "pageout") c.get_one-2.result (λ u x g. g.0) c.get_one-2.ensures.none c.get_one-2.ensures.value) in
    let make : c.get_one-3.result ≡ number_of_word (codes "make") (rows_of f) =
    number_found _ (λ bs r. ParsesUnsigned 32 10 bs r × ExplainsUnsignedError 10 bs r × HasUnsignedDigitsIfOk bs r)
    f (codes "make") c.get_one-3.result (λ u x g. g.0) c.get_one-3.ensures.none c.get_one-3.ensures.value in
    let check : c.unwrap_or-3.result ≡ flag_of_word (codes "check") (rows_of f) =
    c.unwrap_or-3.ensures ∙ flag_found _ f (codes "check") c.get_one-4.result c.get_one-4.ensures.none c.get_one-4.ensures.value in
    let quiet : c.unwrap_or-4.result ≡ flag_of_word (codes "quiet") (rows_of f) =
    c.unwrap_or-4.ensures ∙ flag_found _ f (codes "quiet") c.get_one-5.result c.get_one-5.ensures.none c.get_one-5.ensures.value in
    same_options _ _ _ _ _ _ _ _ _ _ trace pageout make check quiet
