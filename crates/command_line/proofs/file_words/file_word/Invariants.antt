use Rattle.std.proofs.Common.{◌≡◌, ◌+◌, map, length}
use Rattle.std.specs.Prelude.{string_bytes}
use Rattle.command_line.specs.FileWords.{file_word_place, file_word_place_from}
use Rattle.command_line.proofs.file_words.file_word.Given as goal

abbrev pub invariant-loop-left : goal.invariant-loop-left
invariant-loop-left l = record {
  so_far : file_word_place_from l.at l.is_value (map string_bytes l.left) ≡ file_word_place (map string_bytes l.words);
  count : l.at + length l.left ≡ length l.words;
}

abbrev pub decreases-loop-left : goal.decreases-loop-left
decreases-loop-left l = length l.left
