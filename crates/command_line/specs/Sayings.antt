-- What the words of the command say. Public clauses cite this.
use Rattle.std.specs.Prelude.{ℕ, List, [], ◌∷◌, codes, Option, Some, None, if◌then◌else◌}
use Rattle.clap.specs.Faults.{fault_of}
use Rattle.clap.specs.Kinds.{Kinds}
use Rattle.clap.specs.Simple.{matches_of}
use Rattle.clap.specs.Walk.{Row}
use Rattle.command_line.specs.declared.inquiry.Inquiry.TheVariants.{Help, Version}
use Rattle.command_line.specs.declared.saying.Saying.{Saying}
use Rattle.command_line.specs.declared.saying.Saying.TheVariants as says
use Rattle.command_line.specs.Options.{flag_of_word, options_in, sunvm_command}

-- What the matches of the words say: help before the version, and both before a run.
abbrev pub saying_in : List Row → Saying
saying_in rows =
    if flag_of_word (codes "help") rows then says.Inquiry Help
    else if flag_of_word (codes "version") rows then says.Inquiry Version
    else says.Options (options_in rows)

-- This where the words have no fault, none where they have one.
abbrev pub unless_faulty : Kinds → Saying → Option Saying
unless_faulty [] said = Some said
unless_faulty (k ∷ ks) said = None

-- WHAT THE WORDS SAY, where the command takes them: no word is unknown or stands twice, and no value is out of its range.
unfoldable pub saying_of : List (List ℕ) → Option Saying
saying_of words = unless_faulty (fault_of sunvm_command words) (saying_in (matches_of sunvm_command words))
