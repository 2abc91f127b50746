use Rattle.std.proofs.Common.{◌∙◌, ap, codes, sym}
use Rattle.clap.specs.Matches.{found_of}
use Rattle.clap.specs.Walk.{rows_of}
use Rattle.command_line.specs.declared.saying.Saying.TheVariants as says
use Rattle.command_line.proofs.WordValues.{flag_found, said_help, said_options, said_version}
use Rattle.command_line.proofs.saying.saying_in.Goals as goal

pub returns-then-unwrap_or : goal.returns-then-unwrap_or
returns-then-unwrap_or c =
    let f = found_of c.args.matches.now in
    let help = sym (c.unwrap_or.ensures ∙ flag_found _ f (codes "help") c.get_one.result c.get_one.ensures.none c.get_one.ensures.value) ∙ c.if-unwrap_or.true in
    sym (said_help (rows_of f) help)

pub returns-then-unwrap_or-2 : goal.returns-then-unwrap_or-2
returns-then-unwrap_or-2 c =
    let f = found_of c.args.matches.now in
    let help = sym (c.unwrap_or.ensures ∙ flag_found _ f (codes "help") c.get_one.result c.get_one.ensures.none c.get_one.ensures.value) ∙ c.if-unwrap_or.false in
    let version = sym (c.unwrap_or-2.ensures ∙ flag_found _ f (codes "version") c.get_one-2.result c.get_one-2.ensures.none c.get_one-2.ensures.value) ∙ c.if-unwrap_or-2.true in
    sym (said_version (rows_of f) help version)

pub returns : goal.returns
returns c =
    let f = found_of c.args.matches.now in
    let help = sym (c.unwrap_or.ensures ∙ flag_found _ f (codes "help") c.get_one.result c.get_one.ensures.none c.get_one.ensures.value) ∙ c.if-unwrap_or.false in
    let version = sym (c.unwrap_or-2.ensures ∙ flag_found _ f (codes "version") c.get_one-2.result c.get_one-2.ensures.none c.get_one-2.ensures.value) ∙ c.if-unwrap_or-2.false in
    ap says.Options c.options_in.ensures ∙ sym (said_options (rows_of f) help version)
