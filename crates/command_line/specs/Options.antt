-- The command, and what its words say of a run. Public clauses cite this.
use Rattle.std.specs.Prelude.{ℕ, ◌&&◌, Bool, true, false, List, [], ◌∷◌, codes, length, nat_lt, Option, Some, None, option_and_then, unwrap_or, if◌then◌else◌, pos}
use Rattle.std.specs.Char.{digit_value}
use Rattle.std.specs.List.{list_all}
use Rattle.std.specs.Option.{option_map_or}
use Rattle.std.specs.Str.{bytes_eq}
use Rattle.std.specs.Str.Parse.{digits_value, without_leading_plus}
use Rattle.clap.specs.Simple.{App, new_app, new_rule, on_top, with_rule}
use Rattle.clap.specs.Walk.{Row, Rule, one_of}
use Rattle.clap.specs.declared.builder.action.ArgAction.TheVariants.{SetTrue}
use Rattle.clap.specs.declared.builder.value_parser.ValueParser.TheVariants as vp
use Rattle.command_line.specs.declared.options.Options.{Options}

-- The rule of a flag `--NAME`, without a value.
abbrev pub flag_rule : List ℕ → Rule
flag_rule name = record (new_rule name) { long = Some name; action = Some SetTrue }

-- The rule of `--pageout N`, N from 0 to 1,000,000, and 0 where it isn't given.
abbrev pub pageout_rule : Rule
pageout_rule = record (new_rule (codes "pageout")) {
  long = Some (codes "pageout");
  parser = Some (vp.Signed (pos 0) (pos 1000000));
  defaults = codes "0" ∷ [];
}

-- The rule of `--make N`, N from 0 to 4,294,967,295.
abbrev pub make_rule : Rule
make_rule = record (new_rule (codes "make")) { long = Some (codes "make"); parser = Some (vp.Signed (pos 0) (pos 4294967295)) }

-- The rule of `--help`, which `-h` stands for.
abbrev pub help_word_rule : Rule
help_word_rule = record (flag_rule (codes "help")) { short = Some 104 }

-- The command before its words. They are those behind the program's name, and help is a word like the others.
abbrev pub bare_command : App
bare_command = on_top (λ s. record s { no_binary_name = true; disable_help_flag = true }) (new_app (codes "sunvm"))

-- The command with the words of runs of scripts.
abbrev pub command_of_runs : App
command_of_runs = with_rule (with_rule (with_rule bare_command (flag_rule (codes "trace"))) pageout_rule) make_rule

-- The command line: `[--trace] [--pageout N] [--make N] [--check] [--quiet] [--help] [--version]`.
unfoldable pub sunvm_command : App
sunvm_command = with_rule
    (with_rule (with_rule (with_rule command_of_runs (flag_rule (codes "check"))) (flag_rule (codes "quiet"))) help_word_rule)
    (flag_rule (codes "version"))

-- The number of up to 32 bits that a text writes in decimal digits, where it does; a plus may stand first.
unfoldable pub number_in_text : List ℕ → Option ℕ
number_in_text text =
    let ds = without_leading_plus text in
    if nat_lt 0 (length ds) && list_all (λ d. nat_lt (digit_value d) 10) ds && nat_lt (digits_value 10 ds) 4294967296 then Some (digits_value 10 ds) else None

-- The number that the matches give to an option of this name, where it is given one.
abbrev pub number_of_word : List ℕ → List Row → Option ℕ
number_of_word id rows = option_and_then number_in_text (one_of id rows)

-- Whether the matches set the flag of this name; false where they don't name it.
abbrev pub flag_of_word : List ℕ → List Row → Bool
flag_of_word id rows = option_map_or (λ text. bytes_eq text (codes "true")) (one_of id rows) false

-- The options that the matches of the words say; a pageout that they lack is 0.
abbrev pub options_in : List Row → Options
options_in rows = record {
  trace = flag_of_word (codes "trace") rows;
  pageout = unwrap_or (number_of_word (codes "pageout") rows) 0;
  make = number_of_word (codes "make") rows;
  check = flag_of_word (codes "check") rows;
  quiet = flag_of_word (codes "quiet") rows;
}
